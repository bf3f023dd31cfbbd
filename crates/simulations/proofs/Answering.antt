-- What an agent gives in a cycle, by what it is shown up to it.
use Rattle.std.proofs.Common.{◌≡◌, ℕ, zero, suc, ◌+◌, ◌-◌, ◌<◌, ◌≤◌, ◌&&◌, ◌||◌, not, nat_eq, nat_le, Bool, List, ◌++◌, flat_map, if◌then◌else◌, refl, ap, ap₂, ◌∙◌, arith}
use Rattle.histories.specs.History.{is_raised, only_if}
use Rattle.iface_roles.specs.declared.records.AgentPort.{AgentPort}
use Rattle.memory_runs.specs.Views.{Levels, AgentSide, AgentView, levels_at}
use Rattle.memory_runs.specs.Operations.{memory_after, own_operations}
use Rattle.memory_runs.specs.Commands.{Burst, Transfer, stood_before, agent_accepts, burst_before, burst_after, transfer_of, transfer_at, accepted}
use Rattle.memory_runs.specs.Sides.{agent_side}
use Rattle.scenario_tables.specs.declared.statements.AgentStatement.{AgentStatement}
use Rattle.stand_ins.specs.Contents.{filled, contents_before}
use Rattle.stand_ins.specs.declared.waiting.Waiting.{Waiting}
use Rattle.stand_ins.specs.Codes.{code_at}
use Rattle.stand_ins.specs.Answers.{takes_read, latency_of, waiting_before, waiting_after, is_due, word_due, code_due, word_asked, word_asked_in, word_behind, code_asked, code_asked_in, code_behind}
use Rattle.stand_ins.specs.StandIns.{gives_in, word_in, code_in}

-- two agents are commanded alike, and stall alike, in the cycles before `end`
pub record CommandedAlike (one two : AgentView) (end : ℕ) : Type 0 where
  pub signals : (c : ℕ) → c < end → levels_at one.signals c ≡ levels_at two.signals c
  pub waitrequest : (c : ℕ) → c < end → one.waitrequest c ≡ two.waitrequest c

module _ (side : AgentSide) (script : List AgentStatement) (one two : AgentView) (end : ℕ) (alike : CommandedAlike one two end) where
  abbrev shows_by : Levels → Bool
  shows_by levels = is_raised levels.read || is_raised levels.write

  abbrev waits_for : Levels → ℕ
  waits_for levels = if is_raised levels.write then side.write_wait else side.read_wait

  same_stood : (c : ℕ) → c ≤ end → stood_before side one c ≡ stood_before side two c
  same_stood zero low = refl
  same_stood (suc c) low =
      ap₂ (λ (levels : Levels) (stood : ℕ). if shows_by levels && not (nat_eq stood (waits_for levels)) then stood + 1 else 0)
      (alike.signals c (omega arith)) (same_stood c (omega arith))

  same_accepts : (c : ℕ) → c < end → agent_accepts side one c ≡ agent_accepts side two c
  same_accepts c low =
      ap₂ (λ (levels : Levels) (wait : ℕ). if side.has_waitrequest then shows_by levels && not (is_raised wait) else shows_by levels && nat_eq (stood_before side one c) (waits_for levels))
      (alike.signals c low) (alike.waitrequest c low)
      ∙ ap (λ (stood : ℕ). if side.has_waitrequest then shows_by (levels_at two.signals c) && not (is_raised (two.waitrequest c)) else shows_by (levels_at two.signals c) && nat_eq stood (waits_for (levels_at two.signals c)))
      (same_stood c (omega arith))

  abbrev burst_in : AgentView → ℕ → Burst
  burst_in view c = burst_before side.shape view.signals (agent_accepts side view) c

  same_burst : (c : ℕ) → c ≤ end → burst_in one c ≡ burst_in two c
  same_burst zero low = refl
  same_burst (suc c) low =
      ap₂ (λ (levels : Levels) (accepts : Bool). burst_after side.shape levels accepts (burst_in one c)) (alike.signals c (omega arith)) (same_accepts c (omega arith))
      ∙ ap (burst_after side.shape (levels_at two.signals c) (agent_accepts side two c)) (same_burst c (omega arith))

  same_transfer : (c : ℕ) → c < end → transfer_at side.shape one.signals (agent_accepts side one) c ≡ transfer_at side.shape two.signals (agent_accepts side two) c
  same_transfer c low = ap₂ (transfer_of side.shape) (alike.signals c low) (same_burst c (omega arith))

  abbrev accepted_before : AgentView → ℕ → List Transfer
  accepted_before view c = accepted side.shape view.signals (agent_accepts side view) c

  same_accepted : (c : ℕ) → c ≤ end → accepted_before one c ≡ accepted_before two c
  same_accepted zero low = refl
  same_accepted (suc c) low =
      ap₂ (λ (earlier added : List Transfer). earlier ++ added) (same_accepted c (omega arith))
      (ap₂ (λ (accepts : Bool) (transfer : Transfer). only_if accepts transfer) (same_accepts c (omega arith)) (same_transfer c (omega arith)))

  same_contents : (c : ℕ) → c ≤ end → contents_before side script one c ≡ contents_before side script two c
  same_contents c low =
      ap (λ (taken : List Transfer). memory_after (filled script) (flat_map (own_operations side.shape side.span) (flat_map (λ (t : Transfer). t.beats) taken))) (same_accepted c low)

  same_takes : (c : ℕ) → c < end → takes_read side one c ≡ takes_read side two c
  same_takes c low = ap₂ (λ (accepts : Bool) (levels : Levels). accepts && not (is_raised levels.write)) (same_accepts c low) (alike.signals c low)

  same_waiting : (c : ℕ) → c ≤ end → waiting_before side script one c ≡ waiting_before side script two c
  same_waiting zero low = refl
  same_waiting (suc c) low =
      ap₂ (λ (contents : ℕ → ℕ) (levels : Levels). waiting_after side (latency_of script) c contents (code_at side script) levels (takes_read side one c) (waiting_before side script one c))
      (same_contents c (omega arith)) (alike.signals c (omega arith))
      ∙ ap₂ (λ (reads : Bool) (waiting : List Waiting). waiting_after side (latency_of script) c (contents_before side script two c) (code_at side script) (levels_at two.signals c) reads waiting)
      (same_takes c (omega arith)) (same_waiting c (omega arith))

  same_asked : (c : ℕ) → c < end → word_asked_in side script one c ≡ word_asked_in side script two c
  same_asked c low =
      ap₂ (λ (contents : ℕ → ℕ) (levels : Levels). word_asked side contents levels (takes_read side one c)) (same_contents c (omega arith)) (alike.signals c low)
      ∙ ap (word_asked side (contents_before side script two c) (levels_at two.signals c)) (same_takes c low)

  same_behind : (c : ℕ) → c < end → word_behind side script one c ≡ word_behind side script two c
  same_behind c low = ap (λ (word : ℕ). if nat_le side.read_latency c then word else 0) (same_asked (c - side.read_latency) (omega arith))

  same_code_asked : (c : ℕ) → c < end → code_asked_in side script one c ≡ code_asked_in side script two c
  same_code_asked c low = ap₂ (λ (levels : Levels) (reads : Bool). code_asked side (code_at side script) levels reads) (alike.signals c low) (same_takes c low)

  same_code_behind : (c : ℕ) → c < end → code_behind side script one c ≡ code_behind side script two c
  same_code_behind c low = ap (λ (code : ℕ). if nat_le side.read_latency c then code else 0) (same_code_asked (c - side.read_latency) (omega arith))

-- whether a word is given is known before the command of the cycle
pub gives_alike : (port : AgentPort) (script : List AgentStatement) (one two : AgentView) (c : ℕ) → CommandedAlike one two c → gives_in port script one c ≡ gives_in port script two c
gives_alike port script one two c alike =
    ap (λ (waiting : List Waiting). port.readdatavalid && is_due c waiting) (same_waiting (agent_side port) script one two c alike c (omega arith))

-- which word, with it
pub word_alike : (port : AgentPort) (script : List AgentStatement) (one two : AgentView) (c : ℕ) → CommandedAlike one two (suc c) → word_in port script one c ≡ word_in port script two c
word_alike port script one two c alike =
    ap₂ (λ (waiting : List Waiting) (word : ℕ). if port.readdatavalid then word_due c waiting else word)
    (same_waiting (agent_side port) script one two (suc c) alike c (omega arith)) (same_behind (agent_side port) script one two (suc c) alike c (omega arith))

-- and its code
pub code_alike : (port : AgentPort) (script : List AgentStatement) (one two : AgentView) (c : ℕ) → CommandedAlike one two (suc c) → code_in port script one c ≡ code_in port script two c
code_alike port script one two c alike =
    ap₂ (λ (waiting : List Waiting) (code : ℕ). if port.readdatavalid then code_due c waiting else code)
    (same_waiting (agent_side port) script one two (suc c) alike c (omega arith)) (same_code_behind (agent_side port) script one two (suc c) alike c (omega arith))
