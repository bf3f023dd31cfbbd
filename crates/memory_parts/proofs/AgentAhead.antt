-- The part next to an agent with readdatavalid shows it what stands above, while the agent bears more reads.
use Rattle.std.proofs.Common.{ℕ, suc, ◌<◌, ◌≡◌, ◌-◌, Bool, true, false, not, ◌&&◌, ◌||◌, IsTrue, IsFalse, nat_lt, nat_eq, arith, refl, ap, ap₂, ◌∙◌, length, if◌then◌else◌, tests}
use Rattle.std.proofs.lemmas.Bool.{both_ways, lt-ltb}
use Rattle.histories.specs.History.{is_raised, unreached}
use Rattle.memory_runs.specs.Views.{Responses, System, Run, AgentSide, AgentView}
use Rattle.memory_runs.specs.Commands.{shows, agent_accepts, stood_before, wait_time, words_before}
use Rattle.memory_runs.specs.Legal.{IsLegalAgent, IsProperAtAgent}
use Rattle.memory_machines.specs.Link.{taken_at}
use Rattle.memory_machines.specs.Lines.{TaggedPort, IsFit}
use Rattle.memory_parts.specs.Agent.{AgentState, IsAgentMachine, IsAgentPlan, is_full}
use Rattle.memory_parts.specs.Ahead.{AcceptsAhead, BearsMore, waits_left}
use Rattle.memory_parts.proofs.Queued.{entries, all_ask, unreached_is}
use Rattle.memory_parts.proofs.AgentShown.{shows_is}
use Rattle.memory_parts.proofs.AgentLegal.{queue_holds, lengths_are, proper_at_agent}
use Rattle.memory_parts.proofs.AgentLine.{taken_is}
use Rattle.memory_parts.proofs.AgentRank.{left_falls}

module _ (responses : Responses) (system : System) (run : Run) (agent : ℕ) (up : TaggedPort) (state : AgentState) (end : ℕ) (machine : IsAgentMachine responses (system.agent agent) (run.at_agent agent) up state end) (plan : IsAgentPlan (system.agent agent))
    (fit : IsFit system agent up.port end) (legal : IsLegalAgent (system.agent agent) (run.at_agent agent) end) where
  abbrev side : AgentSide
  side = system.agent agent

  abbrev view : AgentView
  view = run.at_agent agent

  less : IsLegalAgent side view (end - 1)
  less = record { owed = λ has c low. legal.owed has c (omega (arith, low)) }

  own : IsProperAtAgent side view end
  own = proper_at_agent side view up state end machine.commands plan fit.legal fit.kinds less

  -- where the agent bears more reads the gate is open
  gate_open : (c : ℕ) → c < end → IsTrue side.has_readdatavalid → BearsMore system run agent c → IsFalse (is_full side state c)
  gate_open c low has more =
      let holds = ap length (queue_holds side view up state end machine.commands plan fit.legal fit.kinds less has c low) in
      let queue = unreached_is (entries (taken_at up.port c)) (words_before view.readdatavalid c) (all_ask up.port end fit.legal c (omega (arith, low))) in
      let count = ap (λ l. unreached l (words_before view.readdatavalid c)) (lengths_are side view up state end machine.commands plan fit.legal fit.kinds c (omega (arith, low))) in
      let free : nat_lt (length (state.queue c)) side.pending ≡ true = lt-ltb _ _ (omega (arith, holds, queue, count, more)) in
      ap₂ (λ h f. h && not f) has free

  nears : (c : ℕ) → c < end → IsTrue side.has_readdatavalid → IsTrue (shows up.commands.signals c) → IsFalse (is_raised (view.waitrequest c)) → BearsMore system run agent c →
      IsFalse (agent_accepts side view c) → waits_left system run agent (suc c) < waits_left system run agent c
  nears c low has shown ready more none = by_wait side.has_waitrequest refl
    where
      open_so : (f r w : Bool) → IsFalse f → IsTrue (r || w) → IsTrue ((not f && r) || w)
      open_so f r w closed s = grind (arith, tests, closed, s)

      is : shows view.signals c ≡ true
      is = shows_is side view up state end machine.commands plan fit.legal fit.kinds c low ∙ open_so (is_full side state c) (is_raised (up.commands.read c)) (is_raised (up.commands.write c)) (gate_open c low has more) shown

      by_wait : (b : Bool) → side.has_waitrequest ≡ b → waits_left system run agent (suc c) < waits_left system run agent c
      by_wait true waits =
          let accepts : agent_accepts side view c ≡ true = ap (λ b. if b then shows view.signals c && not (is_raised (view.waitrequest c)) else shows view.signals c && nat_eq (stood_before side view c) (wait_time side view c)) waits ∙ ap₂ (λ s w. s && not w) is ready in
          absurd (both_ways (agent_accepts side view c) none accepts)
      by_wait false fixed = left_falls responses system run agent up state end machine plan fit legal own fixed c low is none

  pub accepts_ahead : AcceptsAhead system run agent up end
  accepts_ahead = record {
    taken = λ c low. taken_is system run agent up state end machine.commands plan fit less c low;
    nears = nears;
  }
