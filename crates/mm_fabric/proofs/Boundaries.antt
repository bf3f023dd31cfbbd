-- The boundaries inside a fabric, as a run shows them, and what is shown where host and agent aren't joined.
use Rattle.std.proofs.Common.{◌≡◌, ℕ, ◌<◌, ◌≤◌, Bool, true, false, ◌&&◌, nat_eq, Option, IsTrue, refl, sym, subst, ap, ◌∙◌, arith}
use Rattle.std.specs.Bool.{IsFalse}
use Rattle.std.specs.Option.{option_map_or}
use Rattle.std.proofs.lemmas.Bool.{false≢true}
use Rattle.histories.specs.History.{is_raised, one_if}
use Rattle.netlist.specs.Netlists.{Netlist}
use Rattle.netlist.specs.Runs.{Run, IsEndlessRun}
use Rattle.netlist.specs.Longer.{Extends}
use Rattle.link_rules.specs.Plans.{PlanTable}
use Rattle.memory_runs.specs.Commands.{shows}
use Rattle.memory_runs.specs.Order.{is_joined}
use Rattle.memory_runs.specs.Plan.{IsMemoryPlan}
use Rattle.memory_machines.specs.Paths.{AnswerView}
use Rattle.memory_machines.specs.Link.{Port}
use Rattle.memory_machines.specs.Lines.{TaggedPort}
use Rattle.memory_parts.specs.Steps.{AreSilentPast}
use Rattle.histories.specs.Turns.{is_seated}
use Rattle.memory_plans.specs.Routes.{routes_of, AreRoutes}
use Rattle.memory_plans.specs.Systems.{memory_system}
use Rattle.command_nets.specs.Nets.{port_in}
use Rattle.mm_route.specs.Machine.{has_entry, down_at, silent_port}
use Rattle.mm_host.specs.Forms.{shape_below}
use Rattle.mm_agent.specs.Agents.{shape_above}
use Rattle.mm_agent.specs.Forms.{tagged_above}
use Rattle.memory_links.specs.Pipes.{PipeSides}
use Rattle.mm_arbiter.specs.Machine.{AreSides, IsOutside, below_port, seats_from}
use Rattle.memory_awake.specs.PipeStages.{lower_of}
use Rattle.memory_awake.specs.Fair.{are_apart}
use Rattle.memory_awake.specs.RowSystem.{RowPorts}
use Rattle.memory_awake.specs.Wires.{HandsAllOn}
use Rattle.mm_fabric.specs.declared.parts.HostPart.{HostPart}
use Rattle.mm_fabric.specs.declared.parts.Seat.{Seat}
use Rattle.mm_fabric.specs.declared.parts.AgentPart.{AgentPart}
use Rattle.mm_fabric.specs.Parts.{askers_of, commands_above, commands_below, backs_above, backs_below}
use Rattle.mm_fabric.specs.Fabrics.{Fabric, IsFabric, AreJoined, seat_of}
use Rattle.mm_fabric.proofs.Known.{seated_is, seats_are_apart}
use Rattle.mm_fabric.proofs.Seats.{not_true, seat_side, unseated, sides_are}
use Rattle.mm_fabric.proofs.Ways.{way_side, way_is, leads_nowhere, entry_there}

abbrev pub below_host : HostPart → Run → Port
below_host part run = port_in (shape_below part.port) run part.held.command part.wait part.answer

abbrev pub above_agent : AgentPart → Run → TaggedPort
above_agent part run = tagged_above part.port part.command part.made run

-- below its arbiter, above the pipe
abbrev pub below_arbiter : AgentPart → Run → TaggedPort
below_arbiter part run = below_port (shape_above part.port) run part.asked part.told

-- what an agent answers to a host, above the pipe: the words that bear its tag
abbrev pub answers_to : AgentPart → Run → ℕ → AnswerView
answers_to part run host = record {
  valid = λ c. one_if (is_raised (run.net c part.told.answer.valid.number) && nat_eq (run.net c part.told.tag.number) host);
  word = λ c. run.net c part.told.answer.word.number;
  code = λ c. run.net c part.told.answer.code.number;
}

abbrev pub below_route : PlanTable → Fabric → Run → ℕ → ℕ → Port
below_route plan fabric run h a =
    let part = fabric.host h in
    down_at (shape_below part.port) run part.held.command h (λ agent. answers_to (fabric.agent agent) run h) (routes_of plan.system h) (commands_below part.ways) (backs_below part.ways) a

-- what a host without a seat has at the arbiter of an agent
abbrev pub silent_above : Fabric → Run → ℕ → ℕ → Port
silent_above fabric run h a = silent_port (shape_above (fabric.agent a).port) run (fabric.host h).held.command h (answers_to (fabric.agent a) run h)

abbrev pub above_arbiter : Fabric → Run → ℕ → ℕ → Port
above_arbiter fabric run h a = option_map_or (seat_side (shape_above (fabric.agent a).port) run) (seat_of h (fabric.agent a).seats) (silent_above fabric run h a)

-- the sides among the links of a host and an agent: below what cuts bursts, and above what drops beats
pub record Inner : Type 0 where
  pub middle : Port
  pub low : Port

-- with those of each host and agent, and a pipe for each agent
abbrev pub ports_in : PlanTable → Fabric → (ℕ → ℕ → Inner) → (ℕ → PipeSides) → Run → RowPorts
ports_in plan fabric inner pipe run = record {
  after_host = λ h. below_host (fabric.host h) run;
  after_route = below_route plan fabric run;
  below_cutter = λ h a. (inner h a).middle;
  above_dropper = λ h a. (inner h a).low;
  before_arbiter = above_arbiter fabric run;
  lower = λ a. lower_of plan.system.stages (pipe a);
}

raised_one_if : (b : Bool) → is_raised (one_if b) ≡ b
raised_one_if true = refl
raised_one_if false = refl

module _ (plan : PlanTable) (planned : IsMemoryPlan (memory_system plan)) (netlist : Netlist) (fabric : Fabric) (is : IsFabric plan netlist fabric)
    (longer : Netlist) (extends : Extends netlist longer) (run : Run) (endless : IsEndlessRun longer run) where
  -- an agent that isn't joined has no entry
  no_entry : (h a : ℕ) → AreRoutes (memory_system plan) h (routes_of plan.system h) → IsFalse (is_joined (memory_system plan) a h) → has_entry (routes_of plan.system h) a ≡ false
  no_entry h a routed apart = not_true (has_entry (routes_of plan.system h) a) (λ has.
      (let route = entry_there (routes_of plan.system h) a has in
      let joined = (routed.each route.number route.route route.is).joined in
      false≢true (sym apart ∙ subst (λ n. IsTrue (is_joined (memory_system plan) n h)) route.leads joined)))

  -- ---- the sides of a host and an agent

  module _ (h a : ℕ) (low : h < (memory_system plan).hosts) (joins : AreJoined netlist h a (fabric.host h) (fabric.agent a)) where
    pub route_side : below_route plan fabric run h a ≡ way_side (shape_below (fabric.host h).port) run joins.way
    route_side =
        let part = fabric.host h in
        way_is (shape_below part.port) run part.held.command h (λ agent. answers_to (fabric.agent agent) run h) a (routes_of plan.system h) part.ways (is.host h low).agents joins.way joins.way_is

    pub arbiter_side : above_arbiter fabric run h a ≡ seat_side (shape_above (fabric.agent a).port) run joins.seat
    arbiter_side = ap (λ (o : Option Seat). option_map_or (seat_side (shape_above (fabric.agent a).port) run) o (silent_above fabric run h a)) joins.seat_is

  -- where host and agent aren't joined nothing is shown on both sides
  unseated_side : (h a : ℕ) → is_seated h (seats_from (askers_of (fabric.agent a).seats)) ≡ false → above_arbiter fabric run h a ≡ silent_above fabric run h a
  unseated_side h a none = ap (λ (o : Option Seat). option_map_or (seat_side (shape_above (fabric.agent a).port) run) o (silent_above fabric run h a)) (unseated h (fabric.agent a).seats none)

  module _ (a : ℕ) (there : a < (memory_system plan).agents) where
    other_side : (h : ℕ) → IsFalse (is_joined (memory_system plan) a h) → above_arbiter fabric run h a ≡ silent_above fabric run h a
    other_side h apart = unseated_side h a (seated_is plan netlist fabric is a there h ∙ apart)

    pub idle : (h : ℕ) → AreRoutes (memory_system plan) h (routes_of plan.system h) → IsFalse (is_joined (memory_system plan) a h) → HandsAllOn (below_route plan fabric run h a) (above_arbiter fabric run h a)
    idle h routed apart =
        let part = fabric.host h in
        let above : below_route plan fabric run h a ≡ silent_port (shape_below part.port) run part.held.command h (answers_to (fabric.agent a) run h) =
        leads_nowhere (shape_below part.port) run part.held.command h (λ agent. answers_to (fabric.agent agent) run h) a (routes_of plan.system h) part.ways (no_entry h a routed apart) in
        let below = other_side h apart in
        record {
          commands = ap (λ (p : Port). p.commands) above ∙ sym (ap (λ (p : Port). p.commands) below);
          answers = ap (λ (p : Port). p.answers) above ∙ sym (ap (λ (p : Port). p.answers) below);
        }

    not_joined : (h : ℕ) → (memory_system plan).hosts ≤ h → IsFalse (is_joined (memory_system plan) a h)
    not_joined h past = not_true (is_joined (memory_system plan) a h) (λ joined. (let low = planned.joined a h joined in omega (arith, past, low)))

    pub silent : (end : ℕ) → AreSilentPast (memory_system plan).hosts (λ h. above_arbiter fabric run h a) end
    silent end = λ h c past low. ap (λ (p : Port). shows p.commands.signals c) (other_side h (not_joined h past))

    -- ---- what the arbiter rests on

    silent_outside : (h end : ℕ) → IsOutside (silent_above fabric run h a) (below_arbiter (fabric.agent a) run) h end
    silent_outside h end = record {
      shape = refl;
      silent = λ c low. refl;
      valid = λ c low. raised_one_if (is_raised (run.net c (fabric.agent a).told.answer.valid.number) && nat_eq (run.net c (fabric.agent a).told.tag.number) h);
      word = λ c low valid. refl;
      code = λ c low valid. refl;
    }

    pub outside : (end h : ℕ) → is_seated h (seats_from (askers_of (fabric.agent a).seats)) ≡ false → IsOutside (above_arbiter fabric run h a) (below_arbiter (fabric.agent a) run) h end
    outside end h none = subst (λ (p : Port). IsOutside p (below_arbiter (fabric.agent a) run) h end) (sym (unseated_side h a none)) (silent_outside h end)

    pub sides : IsTrue (are_apart ((memory_system plan).joined a)) → AreSides (shape_above (fabric.agent a).port) run (askers_of (fabric.agent a).seats) (commands_above (fabric.agent a).seats) (backs_above (fabric.agent a).seats) (λ h. above_arbiter fabric run h a)
    sides distinct =
        sides_are (shape_above (fabric.agent a).port) run (λ h. above_arbiter fabric run h a) (fabric.agent a).seats (seats_are_apart plan netlist fabric is a there distinct)
        (λ h seat found. ap (λ (o : Option Seat). option_map_or (seat_side (shape_above (fabric.agent a).port) run) o (silent_above fabric run h a)) found)
