-- What stands while the lines of a file are read.
use Rattle.std.proofs.Common.{◌≡◌, ℕ, ◌+◌, ◌≤◌, suc, Bool, true, false, cond, List, [], ◌∷◌, length, Option, Some, None, Ok, Err, refl, sym, ap, subst, ◌∙◌, arith}
use Rattle.std.proofs.lemmas.List.{length-replicate}
use Rattle.std.proofs.lemmas.Option.{same_Some}
use Rattle.system_tables.specs.Tables.{SystemTable}
use Rattle.address_map.specs.Maps.{hosts_of, agents_of}
use Rattle.link_rules.specs.PlanConnections.{stream_connections}
use Rattle.waves.specs.Cuts.{line_feed, longer_first, pieces, ended, lines}
use Rattle.scenario_tables.specs.declared.scenario.Scenario.{Scenario}
use Rattle.scenario_tables.specs.Statements.{IsHostScript, IsAgentScript, IsSourceScript, IsSinkScript}
use Rattle.scenario_tables.specs.Scenarios.{IsScenario}
use Rattle.scenarios.specs.declared.faults.ScenarioRule.{ScenarioRule}
use Rattle.scenarios.specs.declared.faults.ScenarioRule.TheVariants.{Beginning}
use Rattle.scenarios.specs.declared.so_far.SoFar.{SoFar}
use Rattle.scenarios.specs.SoFar.{Reading, blank, scenario_by, scenario_of}
use Rattle.scenarios.specs.Lines.{line_in}
use Rattle.scenarios.specs.Files.{at_end, gone_on, lines_in, file_in}
use Rattle.scenarios.proofs.ScriptLemmas.{replicated}
use Rattle.scenarios.proofs.KeepLemmas.{AreFitting}
use Rattle.scenarios.proofs.LineLemmas.{line_fits}

pub record IsReadTo (system : SystemTable) (bytes : List ℕ) (number : ℕ) (so_far : SoFar) (left : List (List ℕ)) : Type 0 where
  pub same : file_in system bytes ≡ lines_in system number so_far left
  pub fits : AreFitting system so_far
  pub count : number + length left ≤ length bytes + 2

-- ---- before the first line

longer_count : (byte : ℕ) (ps : List (List ℕ)) (n : ℕ) → length ps ≤ n + 1 → length (longer_first byte ps) ≤ suc n + 1
longer_count byte [] n h = omega arith
longer_count byte (p ∷ ps) n h = omega arith

one_count : (b : Bool) (byte : ℕ) (ps : List (List ℕ)) (n : ℕ) → length ps ≤ n + 1 → length (cond b ([] ∷ ps) (longer_first byte ps)) ≤ suc n + 1
one_count true byte ps n h = omega arith
one_count false byte ps n h = longer_count byte ps n h

piece_count : (parting : ℕ) (bytes : List ℕ) → length (pieces parting bytes) ≤ length bytes + 1
piece_count parting [] = omega arith
piece_count parting (byte ∷ rest) = one_count _ byte (pieces parting rest) (length rest) (piece_count parting rest)

ended_count : (ps : List (List ℕ)) → length (ended ps) ≤ length ps
ended_count [] = omega arith
ended_count ([] ∷ []) = omega arith
ended_count ((byte ∷ rest) ∷ []) = omega arith
ended_count (line ∷ next ∷ others) = let more = ended_count (next ∷ others) in ended_more line next others more
  where
    ended_more : (line next : List ℕ) (others : List (List ℕ)) → length (ended (next ∷ others)) ≤ length (next ∷ others) → length (ended (line ∷ next ∷ others)) ≤ length (line ∷ next ∷ others)
    ended_more [] next others h = omega arith
    ended_more (byte ∷ rest) next others h = omega arith

line_count : (bytes : List ℕ) → length (lines bytes) ≤ length bytes + 1
line_count bytes = let few = piece_count line_feed bytes in let fewer = ended_count (pieces line_feed bytes) in omega arith

no_host_script : (port : _) → IsHostScript port []
no_host_script port = record { short = omega arith; each = λ k d inside. absurd (omega arith) }

no_agent_script : (port : _) → IsAgentScript port []
no_agent_script port = record { short = omega arith; each = λ k d inside. absurd (omega arith); one_stall = omega arith; one_latency = omega arith }

no_source_script : (port : _) → IsSourceScript port []
no_source_script port = record { short = omega arith; follow = tt }

no_sink_script : (port : _) → IsSinkScript port []
no_sink_script port = record { one = omega arith; each = λ k d inside. absurd (omega arith) }

blank_fits : (system : SystemTable) → AreFitting system (blank system)
blank_fits system = record {
  scripts = record { hosts = length-replicate _ _; agents = length-replicate _ _; sources = length-replicate _ _; sinks = length-replicate _ _ };
  cycles = λ n e. absurd (let wrong = e in cc);
  hosts = λ h port script is there. subst (IsHostScript port) (sym (replicated (length (hosts_of system)) h [] script there)) (no_host_script port);
  agents = λ a port script is there. subst (IsAgentScript port) (sym (replicated (length (agents_of system)) a [] script there)) (no_agent_script port);
  sources = λ s link script is there. subst (IsSourceScript link.source) (sym (replicated (length (stream_connections system)) s [] script there)) (no_source_script link.source);
  sinks = λ s link script is there. subst (IsSinkScript link.sink) (sym (replicated (length (stream_connections system)) s [] script there)) (no_sink_script link.sink);
}

pub before_lines : (system : SystemTable) (bytes : List ℕ) → IsReadTo system bytes 1 (blank system) (lines bytes)
unfolding file_in
before_lines system bytes = let few = line_count bytes in record { same = refl; fits = blank_fits system; count = omega arith }

-- ---- a line more

pub next_line : (system : SystemTable) (bytes : List ℕ) (number : ℕ) (so_far next : SoFar) (left later : List (List ℕ)) (line : List ℕ) → IsReadTo system bytes number so_far left → left ≡ line ∷ later
    → line_in system so_far line ≡ Ok next → IsReadTo system bytes (number + 1) next later
next_line system bytes number so_far next left later line h e r =
    let count : length left ≡ suc (length later) = ap length e in
    let few = h.count in
    record {
      same = h.same ∙ ap (lines_in system number so_far) e ∙ ap (λ (reading : _). gone_on number reading (λ (n : SoFar). lines_in system (number + 1) n later)) r;
      fits = line_fits system so_far next line h.fits r;
      count = omega arith;
    }

pub broken_line : (system : SystemTable) (bytes : List ℕ) (number : ℕ) (so_far : SoFar) (left later : List (List ℕ)) (line : List ℕ) (rule : ScenarioRule) → IsReadTo system bytes number so_far left → left ≡ line ∷ later
    → line_in system so_far line ≡ Err rule → file_in system bytes ≡ Err (number, rule)
broken_line system bytes number so_far left later line rule h e r =
    h.same ∙ ap (lines_in system number so_far) e ∙ ap (λ (reading : _). gone_on number reading (λ (n : SoFar). lines_in system (number + 1) n later)) r

-- ---- behind the last

pub no_cycles : (system : SystemTable) (bytes : List ℕ) (number : ℕ) (so_far : SoFar) (left : List (List ℕ)) → IsReadTo system bytes number so_far left → left ≡ [] → scenario_of so_far ≡ None
    → file_in system bytes ≡ Err (number, Beginning)
no_cycles system bytes number so_far left h e none = h.same ∙ ap (lines_in system number so_far) e ∙ ap (at_end number) none

pub all_lines : (system : SystemTable) (bytes : List ℕ) (number : ℕ) (so_far : SoFar) (left : List (List ℕ)) (scenario : Scenario) → IsReadTo system bytes number so_far left → left ≡ [] → scenario_of so_far ≡ Some scenario
    → file_in system bytes ≡ Ok scenario
all_lines system bytes number so_far left scenario h e some = h.same ∙ ap (lines_in system number so_far) e ∙ ap (at_end number) some

-- ---- what is stated fits

is_scenario : (system : SystemTable) (so_far : SoFar) (cycles : Option ℕ) (scenario : Scenario) → so_far.cycles ≡ cycles → AreFitting system so_far → scenario_by so_far cycles ≡ Some scenario → IsScenario system scenario
is_scenario system so_far None scenario same h e = cc
is_scenario system so_far (Some cycles) scenario same h e =
    let rest = h.cycles cycles same in
    subst (IsScenario system) (same_Some _ _ e) (record {
      some = rest.0;
      few = rest.1;
      hosts = h.scripts.hosts;
      agents = h.scripts.agents;
      sources = h.scripts.sources;
      sinks = h.scripts.sinks;
      at_hosts = h.hosts;
      at_agents = h.agents;
      at_sources = h.sources;
      at_sinks = h.sinks;
    })

at_end_fits : (system : SystemTable) (number : ℕ) (so_far : SoFar) (o : Option Scenario) (scenario : Scenario) → scenario_of so_far ≡ o → AreFitting system so_far → at_end number o ≡ Ok scenario → IsScenario system scenario
at_end_fits system number so_far None scenario is h e = cc
at_end_fits system number so_far (Some stated) scenario is h e =
    let same : stated ≡ scenario = cc in
    subst (IsScenario system) same (is_scenario system so_far so_far.cycles stated refl h is)

gone_on_fits : (system : SystemTable) (number : ℕ) (so_far : SoFar) (others : List (List ℕ)) (scenario : Scenario) (line : List ℕ) (reading : Reading) → line_in system so_far line ≡ reading → AreFitting system so_far
    → ((next : SoFar) → AreFitting system next → lines_in system (number + 1) next others ≡ Ok scenario → IsScenario system scenario)
    → gone_on number reading (λ (next : SoFar). lines_in system (number + 1) next others) ≡ Ok scenario → IsScenario system scenario
gone_on_fits system number so_far others scenario line (Ok next) r h later e = later next (line_fits system so_far next line h r) e
gone_on_fits system number so_far others scenario line (Err rule) r h later e = cc

lines_fit : (system : SystemTable) (number : ℕ) (so_far : SoFar) (left : List (List ℕ)) (scenario : Scenario) → AreFitting system so_far → lines_in system number so_far left ≡ Ok scenario → IsScenario system scenario
lines_fit system number so_far [] scenario h e = at_end_fits system number so_far (scenario_of so_far) scenario refl h e
lines_fit system number so_far (line ∷ others) scenario h e =
    gone_on_fits system number so_far others scenario line (line_in system so_far line) refl h (λ next fits same. lines_fit system (number + 1) next others scenario fits same) e

pub file_fits : (system : SystemTable) (bytes : List ℕ) (scenario : Scenario) → file_in system bytes ≡ Ok scenario → IsScenario system scenario
unfolding file_in
file_fits system bytes scenario e = lines_fit system 1 (blank system) (lines bytes) scenario (blank_fits system) e
