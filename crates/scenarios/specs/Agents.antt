-- The statements of agents, and those of sinks.
use Rattle.std.specs.Prelude.{◌≡◌, ℕ, ◌+◌, ◌/◌, Bool, true, ◌&&◌, ◌||◌, not, nat_lt, nat_le, List, [], ◌∷◌, length, Option}
use Rattle.iface_roles.specs.declared.records.AgentPort.{AgentPort}
use Rattle.iface_roles.specs.declared.records.StreamPort.{StreamPort}
use Rattle.iface_roles.specs.Proper.{span_of}
use Rattle.scenario_tables.specs.declared.statements.AgentStatement.{AgentStatement}
use Rattle.scenario_tables.specs.declared.statements.AgentStatement.TheVariants.{Stall, Latency, Fill, Code}
use Rattle.scenario_tables.specs.declared.statements.Pattern.{Pattern}
use Rattle.scenario_tables.specs.Statements.{stalls_of, latencies_of}
use Rattle.waves.specs.Words.{word_at}
use Rattle.waves.specs.Spelling.{is_hexadecimal, hexadecimal_in, is_count, count_in, are_bytes, bytes_in, is_pattern, pattern_in}
use Rattle.scenarios.specs.declared.faults.ScenarioRule.{ScenarioRule}
use Rattle.scenarios.specs.declared.faults.ScenarioRule.TheVariants.{Spelling, Ranges, Beginning, Limits}
use Rattle.scenarios.specs.declared.interfaces.Named.{Named}
use Rattle.scenarios.specs.declared.so_far.SoFar.{SoFar}
use Rattle.scenarios.specs.Rules.{first_broken}
use Rattle.scenarios.specs.SoFar.{Reading, judged, is_early, script_at, with_agent, with_sink}
use Rattle.scenarios.specs.Hosts.{is_full}

-- ---- `fill AGENT OFFSET BYTES`

abbrev pub spells_fill : List (List ℕ) → Bool
spells_fill words = is_hexadecimal (word_at 2 words) && are_bytes (word_at 3 words)

abbrev pub fits_fill : AgentPort → List (List ℕ) → Bool
fits_fill port words = nat_le (hexadecimal_in (word_at 2 words) + length (word_at 3 words) / 2) (span_of port)

unfoldable pub fill_rule : AgentPort → Bool → ℕ → List (List ℕ) → Option ScenarioRule
fill_rule port early count words = first_broken
    ((not (spells_fill words), Spelling)
    ∷ (not (fits_fill port words), Ranges)
    ∷ (early, Beginning)
    ∷ (is_full count, Limits)
    ∷ [])

abbrev pub fill_of : List (List ℕ) → AgentStatement
fill_of words = Fill (hexadecimal_in (word_at 2 words)) (bytes_in (word_at 3 words))

unfoldable pub fill_in : SoFar → Named AgentPort → List (List ℕ) → Reading
fill_in so_far agent words =
    judged (fill_rule agent.port (is_early so_far) (length (script_at agent.number so_far.agents)) words)
    (with_agent agent.number (fill_of words) so_far)

-- ---- `code AGENT OFFSET CODE`

abbrev pub spells_code : List (List ℕ) → Bool
spells_code words = is_hexadecimal (word_at 2 words) && is_hexadecimal (word_at 3 words)

-- the code of a byte that the agent has, 0 to 3
abbrev pub fits_code : AgentPort → List (List ℕ) → Bool
fits_code port words = nat_lt (hexadecimal_in (word_at 2 words)) (span_of port) && nat_le (hexadecimal_in (word_at 3 words)) 3

unfoldable pub code_rule : AgentPort → Bool → ℕ → List (List ℕ) → Option ScenarioRule
code_rule port early count words = first_broken
    ((not (spells_code words), Spelling)
    ∷ (not (fits_code port words), Ranges)
    ∷ (early, Beginning)
    ∷ (is_full count, Limits)
    ∷ [])

abbrev pub code_of : List (List ℕ) → AgentStatement
code_of words = Code (hexadecimal_in (word_at 2 words)) (hexadecimal_in (word_at 3 words))

unfoldable pub code_in : SoFar → Named AgentPort → List (List ℕ) → Reading
code_in so_far agent words =
    judged (code_rule agent.port (is_early so_far) (length (script_at agent.number so_far.agents)) words)
    (with_agent agent.number (code_of words) so_far)

-- ---- `stall END PATTERN`, of an end that has room for one or none

unfoldable pub stall_rule : Bool → Bool → List (List ℕ) → Option ScenarioRule
stall_rule early no_room words = first_broken
    ((not (is_pattern (word_at 2 words)), Spelling)
    ∷ (early, Beginning)
    ∷ (no_room, Limits)
    ∷ [])

abbrev pub pattern_of : List (List ℕ) → Pattern
pattern_of words = record { stalls = pattern_in (word_at 2 words) }

abbrev pub has_stall : List AgentStatement → Bool
has_stall script = nat_lt 0 (length (stalls_of script))

unfoldable pub agent_stall_in : SoFar → Named AgentPort → List (List ℕ) → Reading
agent_stall_in so_far agent words =
    let script = script_at agent.number so_far.agents in
    judged (stall_rule (is_early so_far) (is_full (length script) || has_stall script) words)
    (with_agent agent.number (Stall (pattern_of words)) so_far)

unfoldable pub sink_stall_in : SoFar → Named StreamPort → List (List ℕ) → Reading
sink_stall_in so_far sink words =
    judged (stall_rule (is_early so_far) (nat_lt 0 (length (script_at sink.number so_far.sinks))) words)
    (with_sink sink.number (pattern_of words) so_far)

-- ---- `latency AGENT CYCLES`

abbrev pub has_latency : List AgentStatement → Bool
has_latency script = nat_lt 0 (length (latencies_of script))

abbrev pub is_latency : ℕ → Bool
is_latency cycles = nat_le 1 cycles && nat_le cycles 255

unfoldable pub latency_rule : Bool → Bool → List (List ℕ) → Option ScenarioRule
latency_rule early no_room words = first_broken
    ((not (is_count (word_at 2 words)), Spelling)
    ∷ (not (is_latency (count_in (word_at 2 words))), Ranges)
    ∷ (early, Beginning)
    ∷ (no_room, Limits)
    ∷ [])

unfoldable pub latency_in : SoFar → Named AgentPort → List (List ℕ) → Reading
latency_in so_far agent words =
    let script = script_at agent.number so_far.agents in
    judged (latency_rule (is_early so_far) (is_full (length script) || has_latency script) words)
    (with_agent agent.number (Latency (count_in (word_at 2 words))) so_far)

-- ---- statements that break no rule

pub record CanFill (port : AgentPort) (words : List (List ℕ)) : Type 0 where
  pub spelled : spells_fill words ≡ true
  pub within : fits_fill port words ≡ true

pub record CanAnswer (port : AgentPort) (words : List (List ℕ)) : Type 0 where
  pub spelled : spells_code words ≡ true
  pub within : fits_code port words ≡ true

pub record CanWaitFor (words : List (List ℕ)) : Type 0 where
  pub spelled : is_count (word_at 2 words) ≡ true
  pub within : is_latency (count_in (word_at 2 words)) ≡ true
