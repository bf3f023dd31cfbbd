-- The hosts and agents of a plan with all that stands between them.
use Rattle.std.specs.Prelude.{◌≡◌, ℕ, ◌<◌, List, find, nat_eq, nat_lt, if◌then◌else◌, Option, Some, IsTrue}
use Rattle.link_rules.specs.Plans.{PlanTable}
use Rattle.netlist.specs.Netlists.{Netlist}
use Rattle.netlist.specs.Runs.{Cycle, Run, IsValuation, SameState}
use Rattle.memory_runs.specs.Views.{HostView, AgentView, Run as MemoryRun}
use Rattle.memory_runs.specs.Order.{is_joined}
use Rattle.memory_runs.specs.Moment.{Moment}
use Rattle.memory_machines.specs.Turns.{seats_of}
use Rattle.memory_plans.specs.Routes.{routes_of}
use Rattle.memory_plans.specs.Systems.{memory_system}
use Rattle.mm_host.specs.Hosts.{host_view}
use Rattle.mm_agent.specs.Agents.{agent_view}
use Rattle.mm_arbiter.specs.Machine.{seats_from}
use Rattle.mm_width.specs.Pairs.{MayMeet}
use Rattle.memory_plans.specs.Maps.{IsHostOf, IsAgentOf}
use Rattle.memory_plans.specs.Shown.{silent_host, silent_agent, moment_in, standing_still}
use Rattle.mm_fabric.specs.declared.parts.Way.{Way}
use Rattle.mm_fabric.specs.declared.parts.HostPart.{HostPart}
use Rattle.mm_fabric.specs.declared.parts.Seat.{Seat}
use Rattle.mm_fabric.specs.declared.parts.AgentPart.{AgentPart}
use Rattle.mm_fabric.specs.Parts.{IsHostPart, IsAgentPart, Meets, askers_of}

-- the parts by the numbers of their hosts and agents
pub record Fabric : Type 0 where
  pub host : ℕ → HostPart
  pub agent : ℕ → AgentPart

abbrev pub way_to : ℕ → List Way → Option Way
way_to agent ways = find (λ (w : Way). nat_eq w.agent agent) ways

abbrev pub seat_of : ℕ → List Seat → Option Seat
seat_of host seats = find (λ (s : Seat). nat_eq s.host host) seats

-- the way of a host to an agent leads by their links to the host's seat there
pub record AreJoined (netlist : Netlist) (host agent : ℕ) (above : HostPart) (below : AgentPart) : Type 0 where
  pub way : Way
  pub way_is : way_to agent above.ways ≡ Some way
  pub seat : Seat
  pub seat_is : seat_of host below.seats ≡ Some seat
  pub meets : Meets netlist above.port below.port way.command seat
  pub back : way.back ≡ seat.told
  pub pair : MayMeet above.port below.port

-- each host and each agent of the plan has its part, and where they are joined these meet
pub record IsFabric (plan : PlanTable) (netlist : Netlist) (fabric : Fabric) : Type 0 where
  pub host_port : (h : ℕ) → h < (memory_system plan).hosts → IsHostOf plan h (fabric.host h).port
  pub host : (h : ℕ) → h < (memory_system plan).hosts → IsHostPart netlist h (routes_of plan.system h) (fabric.host h)
  pub agent_port : (a : ℕ) → a < (memory_system plan).agents → IsAgentOf plan a (fabric.agent a).port
  pub agent : (a : ℕ) → a < (memory_system plan).agents → IsAgentPart netlist plan.system.stages (fabric.agent a)
  pub seats : (a : ℕ) → a < (memory_system plan).agents
      → seats_from (askers_of (fabric.agent a).seats) ≡ seats_of (memory_system plan) a
  pub joined : (h a : ℕ) → h < (memory_system plan).hosts → a < (memory_system plan).agents
      → IsTrue (is_joined (memory_system plan) a h) → AreJoined netlist h a (fabric.host h) (fabric.agent a)

-- ---- what a run shows

-- at a host; where the host doesn't read there is no `readdata`
abbrev pub seen_at_host : HostPart → Run → HostView
seen_at_host part run =
    let view = host_view part.port part.held.nets part.told run in
    record view { readdata = λ c. if part.port.reads then view.readdata c else 0 }

abbrev pub seen_at_agent : AgentPart → Run → AgentView
seen_at_agent part run = agent_view part.port part.nets part.command part.made run

-- past the plan's hosts and agents nothing is shown
abbrev pub seen_in : PlanTable → Fabric → Run → MemoryRun
seen_in plan fabric run = record {
  at_host = λ h. if nat_lt h (memory_system plan).hosts then seen_at_host (fabric.host h) run else silent_host;
  at_agent = λ a. if nat_lt a (memory_system plan).agents then seen_at_agent (fabric.agent a) run else silent_agent;
}

-- with registers and memories as in `state` the parts can show this moment
abbrev pub FabricShows : PlanTable → Netlist → Fabric → Cycle → Moment → Type 0
FabricShows plan netlist fabric state moment =
    (cycle : Cycle) × IsValuation netlist cycle × SameState netlist state cycle
    × (moment ≡ moment_in (seen_in plan fabric (standing_still cycle)) 0)
