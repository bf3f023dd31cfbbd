-- The hosts and agents of a fabric by their numbers, what a run shows there, and which hosts are seated at an agent.
use Rattle.std.proofs.Common.{◌≡◌, ℕ, ◌+◌, ◌<◌, if◌then◌else◌, List, IsTrue, sym, subst, ap, ◌∙◌, arith}
use Rattle.std.proofs.lemmas.Bool.{lt-ltb}
use Rattle.histories.specs.Turns.{is_seated}
use Rattle.histories.specs.Turns.{Seat as Turn}
use Rattle.netlist.specs.Netlists.{Netlist}
use Rattle.netlist.specs.Runs.{Run, IsEndlessRun, IsValuation, cycle_of}
use Rattle.netlist.specs.Longer.{Extends}
use Rattle.link_rules.specs.Plans.{PlanTable}
use Rattle.memory_runs.specs.Order.{is_joined}
use Rattle.memory_runs.specs.Sides.{host_side, agent_side}
use Rattle.memory_plans.specs.Systems.{memory_system, side_of_host, side_of_agent}
use Rattle.mm_arbiter.specs.Machine.{AreApart, seats_from}
use Rattle.memory_awake.specs.Fair.{are_apart}
use Rattle.memory_plans.specs.Shown.{silent_host, silent_agent}
use Rattle.mm_fabric.specs.Parts.{askers_of}
use Rattle.mm_fabric.specs.Fabrics.{Fabric, IsFabric, seen_at_host, seen_at_agent, seen_in}
use Rattle.mm_fabric.proofs.Seats.{seated_is_joined, seats_apart}

-- at a host and at an agent of the plan the run shows what is seen there
pub seen_host : (plan : PlanTable) (fabric : Fabric) (run : Run) (h : ℕ) → h < (memory_system plan).hosts → (seen_in plan fabric run).at_host h ≡ seen_at_host (fabric.host h) run
seen_host plan fabric run h low = ap (λ b. if b then seen_at_host (fabric.host h) run else silent_host) (lt-ltb h (memory_system plan).hosts low)

pub seen_agent : (plan : PlanTable) (fabric : Fabric) (run : Run) (a : ℕ) → a < (memory_system plan).agents → (seen_in plan fabric run).at_agent a ≡ seen_at_agent (fabric.agent a) run
seen_agent plan fabric run a low = ap (λ b. if b then seen_at_agent (fabric.agent a) run else silent_agent) (lt-ltb a (memory_system plan).agents low)

-- each cycle of an endless run of a longer netlist is a valuation
pub always_valued : (netlist longer : Netlist) → Extends netlist longer → (run : Run) → IsEndlessRun longer run → (c : ℕ) → IsValuation netlist (cycle_of run c)
always_valued netlist longer extends run endless c = extends.valuations (cycle_of run c) ((endless (c + 1)).valuations c (omega arith))

module _ (plan : PlanTable) (netlist : Netlist) (fabric : Fabric) (is : IsFabric plan netlist fabric) where
  pub host_is : (h : ℕ) → h < (memory_system plan).hosts → (memory_system plan).host h ≡ host_side (fabric.host h).port
  host_is h low = ap side_of_host (is.host_port h low)

  pub agent_is : (a : ℕ) → a < (memory_system plan).agents → (memory_system plan).agent a ≡ agent_side (fabric.agent a).port
  agent_is a low = ap side_of_agent (is.agent_port a low)

  module _ (a : ℕ) (there : a < (memory_system plan).agents) where
    -- the hosts with a seat are those that are joined
    pub seated_is : (h : ℕ) → is_seated h (seats_from (askers_of (fabric.agent a).seats)) ≡ is_joined (memory_system plan) a h
    seated_is h = ap (is_seated h) (is.seats a there) ∙ seated_is_joined (memory_system plan) a h

    -- none has two
    pub seats_are_apart : IsTrue (are_apart ((memory_system plan).joined a)) → AreApart (seats_from (askers_of (fabric.agent a).seats))
    seats_are_apart distinct = subst (λ (seats : List Turn). AreApart seats) (sym (is.seats a there)) (seats_apart (memory_system plan) a distinct)
