-- What a simulation that is ready to run has, and what it writes.
use Rattle.std.specs.Prelude.{ℕ, ◌^◌, ◌≤◌, List}
use Rattle.link_rules.specs.Plans.{PlanTable}
use Rattle.system_plan.specs.Plans.{IsPlanned}
use Rattle.netlist.specs.Netlists.{Netlist, IsModule}
use Rattle.port_tables.specs.PortMaps.{AreTold}
use Rattle.interconnect.specs.Interconnect.{IsInterconnect}
use Rattle.scenario_tables.specs.declared.scenario.Scenario.{Scenario}
use Rattle.scenario_tables.specs.Scenarios.{IsScenario}
use Rattle.scenarios.specs.Files.{IsScenarioOf}
use Rattle.simulations.specs.Traces.{IsTrace}
use Rattle.scenario_runs.specs.declared.prepared.Prepared.{Prepared}
use Rattle.scenario_runs.specs.Simulations.{value_count}

-- the plan that files state, its module, and the scenario that the bytes state for it
pub record IsPrepared (files : List (List ℕ)) (bytes : List ℕ) (prepared : Prepared) : Type 0 where
  pub planned : IsPlanned files prepared.plan
  pub stated : IsScenarioOf prepared.plan.system bytes prepared.scenario
  pub fits : IsScenario prepared.plan.system prepared.scenario
  pub few : value_count prepared.plan.system prepared.scenario ≤ 2 ^ 32
  pub interconnect : IsInterconnect prepared.plan prepared.module
  pub sound : IsModule prepared.module
  pub ports : AreTold prepared.plan.system prepared.ports

-- the text is the trace of a simulation of the scenario that the bytes state, on a module of the plan that files state
pub record IsTraceOf (files : List (List ℕ)) (bytes text : List ℕ) : Type 0 where
  pub plan : PlanTable
  pub planned : IsPlanned files plan
  pub scenario : Scenario
  pub stated : IsScenarioOf plan.system bytes scenario
  pub netlist : Netlist
  pub interconnect : IsInterconnect plan netlist
  pub is_module : IsModule netlist
  pub is_trace : IsTrace plan scenario netlist text
