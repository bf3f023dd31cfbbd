-- What a run shows at all hosts and agents of a fabric fits their ports.
use Rattle.std.proofs.Common.{ℕ, ◌<◌, sym, subst}
use Rattle.netlist.specs.Netlists.{Netlist}
use Rattle.netlist.specs.Runs.{Run, IsEndlessRun, IsValuation, cycle_of}
use Rattle.netlist.specs.Longer.{Extends}
use Rattle.link_rules.specs.Plans.{PlanTable}
use Rattle.memory_runs.specs.Views.{HostSide, HostView, AgentSide, AgentView}
use Rattle.memory_runs.specs.Plan.{AreViews}
use Rattle.memory_plans.specs.Routes.{routes_of}
use Rattle.memory_plans.specs.Systems.{memory_system}
use Rattle.mm_fabric.specs.Fabrics.{Fabric, IsFabric, seen_at_host, seen_at_agent, seen_in}
use Rattle.mm_fabric.proofs.Known.{host_is, agent_is, seen_host, seen_agent, always_valued}
use Rattle.mm_fabric.proofs.Views.{FitsHost, FitsAgent, host_fits, agent_fits}

module _ (plan : PlanTable) (netlist : Netlist) (fabric : Fabric) (is : IsFabric plan netlist fabric) (longer : Netlist) (extends : Extends netlist longer) (run : Run) (endless : IsEndlessRun longer run) (end : ℕ) where
  valued : (c : ℕ) → IsValuation netlist (cycle_of run c)
  valued c = always_valued netlist longer extends run endless c

  at_host : (h : ℕ) → h < (memory_system plan).hosts → FitsHost ((memory_system plan).host h) ((seen_in plan fabric run).at_host h) end
  at_host h low =
      subst (λ (view : HostView). FitsHost ((memory_system plan).host h) view end) (sym (seen_host plan fabric run h low))
      (subst (λ (side : HostSide). FitsHost side (seen_at_host (fabric.host h) run) end) (sym (host_is plan netlist fabric is h low))
      (host_fits netlist run valued end h (routes_of plan.system h) (fabric.host h) (is.host h low)))

  at_agent : (a : ℕ) → a < (memory_system plan).agents → FitsAgent ((memory_system plan).agent a) ((seen_in plan fabric run).at_agent a) end
  at_agent a low =
      subst (λ (view : AgentView). FitsAgent ((memory_system plan).agent a) view end) (sym (seen_agent plan fabric run a low))
      (subst (λ (side : AgentSide). FitsAgent side (seen_at_agent (fabric.agent a) run) end) (sym (agent_is plan netlist fabric is a low))
      (agent_fits netlist run valued end plan.system.stages (fabric.agent a) (is.agent a low)))

  pub views : AreViews (memory_system plan) (seen_in plan fabric run) end
  views = record {
    hosts = λ h low. (at_host h low).ports;
    one_word = λ h c low before none read. (at_host h low).one_word c before none read;
    no_response = λ h c low before none. (at_host h low).no_response c before none;
    agents = λ a low. (at_agent a low).ports;
    no_read = λ a c low before none. (at_agent a low).no_read c before none;
    no_write = λ a c low before none. (at_agent a low).no_write c before none;
    no_waitrequest = λ a c low before none. (at_agent a low).no_waitrequest c before none;
    no_code = λ a c low before none. (at_agent a low).no_code c before none;
  }
