use Rattle.std.proofs.Common.{ℕ, ◌≡◌, ◌<◌, ◌||◌, Bool, true, false, refl, sym, subst, IsTrue}
use Rattle.histories.specs.History.{is_raised}
use Rattle.memory_runs.specs.Views.{System, Run, Responses}
use Rattle.memory_runs.specs.Commands.{shows}
use Rattle.memory_runs.specs.Order.{is_joined}
use Rattle.memory_runs.specs.Whole.{IsLegalRun}
use Rattle.memory_machines.specs.Link.{Port, AreLegalAt, marked_at}
use Rattle.memory_awake.specs.Rows.{CutsBursts, CutsBursts.cutter, CutsBursts.no_cutter}
use Rattle.memory_awake.specs.Wires.{IsWire, with_bursts}
use Rattle.memory_awake.specs.Theorem.{Boundaries, States, LinkRanks, IsBuilt}
use Rattle.memory_awake.specs.Steps.{HasStepsLeft}
use Rattle.memory_runs.specs.Onward.{longest_of}
use Rattle.memory_awake.specs.Onward.{is_good}
use Rattle.memory_awake.proofs.Arbiter.{TurnLaws}
use Rattle.memory_awake.proofs.HostBursts.{behind_wire}
use Rattle.memory_awake.proofs.Widened.{bursts as bursts_same}
use Rattle.memory_awake.proofs.HostCuts.{cut_left, cut_has_steps_left}
use Rattle.memory_awake.proofs.HostWired.{WiredParts, parts_of, unjoined_steps}
use Rattle.memory_awake.proofs.hosts.neighbours_take_few_steps.Goals.{After-routes_take_few_steps}
use Rattle.memory_awake.proofs.hosts.neighbours_take_few_steps.Goals as goal

-- before a wire each beat ends its burst or goes on, as behind it
joins_before : (up down : Port) (end : ℕ) → IsWire up down → AreLegalAt down end → (c : ℕ) → c < end → IsTrue (shows up.commands.signals c) → IsTrue ((marked_at up c).transfer.ends || is_raised (up.commands.more c))
joins_before up down end wire legal c fit shown = rw (bursts_same down.shape.burst_bits up) at (wide c fit shown)
  where
    wide : (c : ℕ) → c < end → IsTrue (shows up.commands.signals c) → IsTrue ((marked_at (with_bursts down.shape.burst_bits up) c).transfer.ends || is_raised (up.commands.more c))
    wide = subst (λ (p : Port). (c : ℕ) → c < end → IsTrue (shows p.commands.signals c) → IsTrue ((marked_at p c).transfer.ends || is_raised (p.commands.more c))) (sym wire.same) (λ c fit shown. legal.joined c fit shown)

module _ (c : After-routes_take_few_steps) (responses : Responses) (system : System) (run : Run) (inside : Boundaries) (states : States) (ranks : LinkRanks) (end agent : ℕ) (built : IsBuilt responses system run inside states ranks end) (legal : IsLegalRun system run end) (there : agent < system.agents) where
  abbrev behind : ℕ → ℕ → Port
  behind h a = inside.upper h a (inside.links h a)

  its_parts : WiredParts system run agent end inside.after_host behind (λ h. inside.upper h agent 0) (inside.lower agent system.stages)
  its_parts = parts_of responses system run inside states ranks end agent built there (c.machines_keep_their_records.ensures.parts responses system run inside states ranks end built legal)
      (c.machines_keep_their_records.ensures.awake responses system run inside states ranks end built legal) (c.machines_are_awake.ensures.safe responses system run inside states ranks end built legal)

  laws : TurnLaws
  laws = record { seats = c.turns_keep_seats.ensures.seats; asked = c.turns_keep_seats.ensures.asked }

  -- what an arbiter's ports are to have
  abbrev pub Steps : ℕ → Port → Type 0
  Steps o port = (rest : ℕ → ℕ) × HasStepsLeft port (is_good system run agent) (longest_of system o) rest end

  behind_wires : (o : ℕ) (up down : Port) → IsWire up down → Steps o up → Steps o down
  behind_wires o up down wire has = (has.0, behind_wire up down wire (is_good system run agent) (longest_of system o) has.0 end has.1)

  -- a host that isn't joined shows nothing
  all_steps : ((o : ℕ) → IsTrue (is_joined system agent o) → Steps o (inside.upper o agent 0)) → (rest : ℕ → ℕ → ℕ) × ((o : ℕ) → HasStepsLeft (inside.upper o agent 0) (is_good system run agent) (longest_of system o) (rest o) end)
  all_steps have = ((λ o. (steps_of o (is_joined system agent o) refl).0), λ o. (steps_of o (is_joined system agent o) refl).1)
    where
      steps_of : (o : ℕ) (b : Bool) → is_joined system agent o ≡ b → Steps o (inside.upper o agent 0)
      steps_of o true e = have o e
      steps_of o false e = ((λ k. longest_of system o), unjoined_steps laws system run agent end inside.after_host behind (λ h. inside.upper h agent 0) (inside.lower agent system.stages) its_parts o e)

  wired_steps : (o : ℕ) → IsTrue (is_joined system agent o) → IsWire (behind o agent) (inside.upper o agent 0) → Steps o (inside.upper o agent 0)
  wired_steps o joined wire =
      let top = c.routes_take_few_steps.ensures responses system run inside states ranks end agent o built legal there (built.plan.joined agent o joined) in
      behind_wires o (behind o agent) (inside.upper o agent 0) wire (top.0, top.1)

  cut_steps : (o : ℕ) (middle : Port) → IsTrue (is_joined system agent o) → CutsBursts (behind o agent) middle → IsWire middle (inside.upper o agent 0) → Steps o (inside.upper o agent 0)
  cut_steps o middle joined (cutter reach longest state plan runs) wire =
      let low = built.plan.joined agent o joined in
      let top = c.routes_take_few_steps.ensures responses system run inside states ranks end agent o built legal there low in
      let joins = joins_before middle (inside.upper o agent 0) end wire (its_parts.arbiter.legal o low) in
      behind_wires o middle (inside.upper o agent 0) wire (
        cut_left reach longest (behind o agent) middle state end runs plan.goes joins (is_good system run agent) (longest_of system o) top.0 top.1 top.2,
        cut_has_steps_left reach longest (behind o agent) middle state end runs plan.goes joins (is_good system run agent) (longest_of system o) top.0 top.1 top.2,
      )
  cut_steps o middle joined (no_cutter wired) wire =
      let top = c.routes_take_few_steps.ensures responses system run inside states ranks end agent o built legal there (built.plan.joined agent o joined) in
      behind_wires o middle (inside.upper o agent 0) wire (behind_wires o (behind o agent) middle wired.wire (top.0, top.1))

pub returns-clause-wired : goal.returns-clause-wired
returns-clause-wired c = λ responses system run inside states ranks end agent built legal there wired.
    let d = (goal.at.returns-clause-wired c).After-routes_take_few_steps in
    all_steps d responses system run inside states ranks end agent built legal there (λ o joined. wired_steps d responses system run inside states ranks end agent built legal there o joined (wired o joined))

pub returns-clause-cut : goal.returns-clause-cut
returns-clause-cut c = λ responses system run inside states ranks end agent middle built legal there cuts wires.
    let d = (goal.at.returns-clause-cut c).After-routes_take_few_steps in
    all_steps d responses system run inside states ranks end agent built legal there (λ o joined. cut_steps d responses system run inside states ranks end agent built legal there o (middle o) joined (cuts o joined) (wires o joined))
