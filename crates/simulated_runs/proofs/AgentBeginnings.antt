-- Agents that show the same in their first cycles.
use Rattle.std.proofs.Common.{◌≡◌, ℕ, zero, suc, ◌+◌, ◌-◌, ◌<◌, ◌≤◌, ◌&&◌, ◌||◌, not, nat_eq, nat_le, Bool, List, ◌++◌, flat_map, inl, inr, if◌then◌else◌, refl, sym, ap, ap₂, ◌∙◌, arith}
use Rattle.std.proofs.lemmas.Bool.{cases_Bool, leb-true}
use Rattle.histories.specs.History.{is_raised, one_if, only_if, before}
use Rattle.iface_roles.specs.declared.records.AgentPort.{AgentPort}
use Rattle.memory_runs.specs.Views.{Levels, AgentSide, AgentView, levels_at}
use Rattle.memory_runs.specs.Operations.{memory_after, own_operations}
use Rattle.memory_runs.specs.Commands.{Burst, Transfer, stood_before, agent_accepts, burst_before, burst_after, transfer_of, transfer_at, accepted}
use Rattle.memory_runs.specs.Beginnings.{AgentsAgree}
use Rattle.memory_runs.specs.Sides.{agent_side}
use Rattle.scenario_tables.specs.declared.statements.AgentStatement.{AgentStatement}
use Rattle.stand_ins.specs.Contents.{filled, contents_before}
use Rattle.stand_ins.specs.declared.waiting.Waiting.{Waiting}
use Rattle.stand_ins.specs.Codes.{code_at}
use Rattle.stand_ins.specs.Answers.{takes_read, latency_of, waiting_before, waiting_after, is_due, word_due, word_asked, word_asked_in, word_behind, code_due, code_asked, code_asked_in, code_behind, answer}
use Rattle.stand_ins.specs.StandIns.{IsAgentStandIn}
use Rattle.stand_ins.specs.Whole.{AgentStandInValue, StandsFor}

module _ (side : AgentSide) (one two : AgentView) (end : ℕ) (agree : AgentsAgree one two end) where
  -- what is shown, and whether it is a write
  abbrev shows_by : Levels → Bool
  shows_by levels = is_raised levels.read || is_raised levels.write

  abbrev waits_for : Levels → ℕ
  waits_for levels = if is_raised levels.write then side.write_wait else side.read_wait

  same_stood : (c : ℕ) → c ≤ end → stood_before side one c ≡ stood_before side two c
  same_stood zero low = refl
  same_stood (suc c) low =
      ap₂ (λ (levels : Levels) (stood : ℕ). if shows_by levels && not (nat_eq stood (waits_for levels)) then stood + 1 else 0)
      (agree.signals c (omega arith)) (same_stood c (omega arith))

  pub same_accepts : (c : ℕ) → c < end → agent_accepts side one c ≡ agent_accepts side two c
  same_accepts c low =
      ap₂ (λ (levels : Levels) (wait : ℕ). if side.has_waitrequest then shows_by levels && not (is_raised wait) else shows_by levels && nat_eq (stood_before side one c) (waits_for levels))
      (agree.signals c low) (agree.waitrequest c low)
      ∙ ap (λ (stood : ℕ). if side.has_waitrequest then shows_by (levels_at two.signals c) && not (is_raised (two.waitrequest c)) else shows_by (levels_at two.signals c) && nat_eq stood (waits_for (levels_at two.signals c)))
      (same_stood c (omega arith))

  abbrev burst_in : AgentView → ℕ → Burst
  burst_in view c = burst_before side.shape view.signals (agent_accepts side view) c

  same_burst : (c : ℕ) → c ≤ end → burst_in one c ≡ burst_in two c
  same_burst zero low = refl
  same_burst (suc c) low =
      ap₂ (λ (levels : Levels) (accepts : Bool). burst_after side.shape levels accepts (burst_in one c)) (agree.signals c (omega arith)) (same_accepts c (omega arith))
      ∙ ap (burst_after side.shape (levels_at two.signals c) (agent_accepts side two c)) (same_burst c (omega arith))

  pub same_transfer : (c : ℕ) → c < end → transfer_at side.shape one.signals (agent_accepts side one) c ≡ transfer_at side.shape two.signals (agent_accepts side two) c
  same_transfer c low = ap₂ (transfer_of side.shape) (agree.signals c low) (same_burst c (omega arith))

  abbrev accepted_before : AgentView → ℕ → List Transfer
  accepted_before view c = accepted side.shape view.signals (agent_accepts side view) c

  same_accepted : (c : ℕ) → c ≤ end → accepted_before one c ≡ accepted_before two c
  same_accepted zero low = refl
  same_accepted (suc c) low =
      ap₂ (λ (earlier added : List Transfer). earlier ++ added) (same_accepted c (omega arith))
      (ap₂ (λ (accepts : Bool) (transfer : Transfer). only_if accepts transfer) (same_accepts c (omega arith)) (same_transfer c (omega arith)))

  same_contents : (script : List AgentStatement) (c : ℕ) → c ≤ end → contents_before side script one c ≡ contents_before side script two c
  same_contents script c low =
      ap (λ (taken : List Transfer). memory_after (filled script) (flat_map (own_operations side.shape side.span) (flat_map (λ (t : Transfer). t.beats) taken))) (same_accepted c low)

  same_takes : (c : ℕ) → c < end → takes_read side one c ≡ takes_read side two c
  same_takes c low =
      ap₂ (λ (accepts : Bool) (levels : Levels). accepts && not (is_raised levels.write)) (same_accepts c low) (agree.signals c low)

  same_waiting : (script : List AgentStatement) (c : ℕ) → c ≤ end → waiting_before side script one c ≡ waiting_before side script two c
  same_waiting script zero low = refl
  same_waiting script (suc c) low =
      ap₂ (λ (contents : ℕ → ℕ) (levels : Levels). waiting_after side (latency_of script) c contents (code_at side script) levels (takes_read side one c) (waiting_before side script one c))
      (same_contents script c (omega arith)) (agree.signals c (omega arith))
      ∙ ap₂ (λ (reads : Bool) (waiting : List Waiting). waiting_after side (latency_of script) c (contents_before side script two c) (code_at side script) (levels_at two.signals c) reads waiting)
      (same_takes c (omega arith)) (same_waiting script c (omega arith))

  same_asked : (script : List AgentStatement) (c : ℕ) → c < end → word_asked_in side script one c ≡ word_asked_in side script two c
  same_asked script c low =
      ap₂ (λ (contents : ℕ → ℕ) (levels : Levels). word_asked side contents levels (takes_read side one c)) (same_contents script c (omega arith)) (agree.signals c low)
      ∙ ap (word_asked side (contents_before side script two c) (levels_at two.signals c)) (same_takes c low)

  same_behind : (script : List AgentStatement) (c : ℕ) → c < end → word_behind side script one c ≡ word_behind side script two c
  same_behind script c low = ap (λ (word : ℕ). if nat_le side.read_latency c then word else 0) (same_asked script (c - side.read_latency) (omega arith))

  same_code_asked : (script : List AgentStatement) (c : ℕ) → c < end → code_asked_in side script one c ≡ code_asked_in side script two c
  same_code_asked script c low = ap₂ (code_asked side (code_at side script)) (agree.signals c low) (same_takes c low)

  same_code_behind : (script : List AgentStatement) (c : ℕ) → c < end → code_behind side script one c ≡ code_behind side script two c
  same_code_behind script c low = ap (λ (code : ℕ). if nat_le side.read_latency c then code else 0) (same_code_asked script (c - side.read_latency) (omega arith))

  -- and so it is of the cycles that come before the read latency is over
  same_behind_later : (script : List AgentStatement) (k : ℕ) → k < side.read_latency → word_behind side script one (end + k) ≡ word_behind side script two (end + k)
  same_behind_later script k soon =
      elim (cases_Bool (nat_le side.read_latency (end + k))) [
        | inl e ↦ (let late = leb-true side.read_latency (end + k) e in rw (e) (same_asked script (end + k - side.read_latency) (omega arith)))
        | inr e ↦ rw (e) refl
      ]

  same_code_behind_later : (script : List AgentStatement) (k : ℕ) → k < side.read_latency → code_behind side script one (end + k) ≡ code_behind side script two (end + k)
  same_code_behind_later script k soon =
      elim (cases_Bool (nat_le side.read_latency (end + k))) [
        | inl e ↦ (let late = leb-true side.read_latency (end + k) e in rw (e) (same_code_asked script (end + k - side.read_latency) (omega arith)))
        | inr e ↦ rw (e) refl
      ]

pub same_state : (script : List AgentStatement) (agent : AgentStandInValue) (one two : AgentView) → AgentsAgree one two agent.cycle → StandsFor script agent one → StandsFor script agent two
same_state script agent one two agree stands =
    let side = agent_side agent.port in
    let end = agent.cycle in
    record {
      stalls = stands.stalls;
      latency = stands.latency;
      codes = stands.codes;
      stood = stands.stood ∙ same_stood side one two end agree end (omega arith);
      burst = stands.burst ∙ same_burst side one two end agree end (omega arith);
      contents = stands.contents ∙ same_contents side one two end agree script end (omega arith);
      waiting = λ late. stands.waiting late ∙ same_waiting side one two end agree script end (omega arith);
      delay = stands.delay;
      delayed = λ fixed k low. stands.delayed fixed k low ∙ ap₂ answer (same_behind_later side one two end agree script k low) (same_code_behind_later side one two end agree script k low);
    }

pub same_agent : (port : AgentPort) (script : List AgentStatement) (one two : AgentView) (end : ℕ) → AgentsAgree one two end → IsAgentStandIn port script one end → IsAgentStandIn port script two end
same_agent port script one two end agree stands =
    let side = agent_side port in
    record {
      waitrequest = λ c low. sym (agree.waitrequest c low) ∙ stands.waitrequest c low;
      readdatavalid = λ c low. sym (agree.readdatavalid c low) ∙ stands.readdatavalid c low
          ∙ ap (λ (waiting : List Waiting). one_if (port.readdatavalid && is_due c waiting)) (same_waiting side one two end agree script c (omega arith));
      readdata = λ c low. sym (agree.readdata c low) ∙ stands.readdata c low
          ∙ ap₂ (λ (waiting : List Waiting) (word : ℕ). if port.readdatavalid then word_due c waiting else word)
          (same_waiting side one two end agree script c (omega arith)) (same_behind side one two end agree script c low);
      response = λ c low. sym (agree.response c low) ∙ stands.response c low
          ∙ ap₂ (λ (waiting : List Waiting) (code : ℕ). if port.readdatavalid then code_due c waiting else code)
          (same_waiting side one two end agree script c (omega arith)) (same_code_behind side one two end agree script c low);
    }
