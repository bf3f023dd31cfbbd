-- What is told of a workload.
use Rattle.std.specs.Prelude.{◌≡◌, ℕ, List, ◌++◌, codes, decimal}
use Rattle.link_rules.specs.Links.{weight_of}
use Rattle.link_rules.specs.Plans.{PlanTable}
use Rattle.system_plan.specs.Plans.{IsPlanned}
use Rattle.netlist.specs.Netlists.{Netlist, IsModule}
use Rattle.interconnect.specs.Interconnect.{IsInterconnect}
use Rattle.scenario_tables.specs.declared.scenario.Scenario.{Scenario}
use Rattle.drawn_scenarios.specs.Drawn.{drawn_scenario}
use Rattle.workload_systems.specs.Systems.{files_of}
use Rattle.workload_systems.specs.Workloads.{IsWorkload}
use Rattle.trace_lines.specs.declared.counts.Counts.{Counts}
use Rattle.simulations.specs.Traces.{AreCounts}

abbrev pub workload_line : ℕ → ℕ → Counts → List ℕ
workload_line number weight counts =
    codes "workload " ++ decimal number ++ codes " weight " ++ decimal weight ++ codes " taken " ++ decimal counts.taken
    ++ codes " answered " ++ decimal counts.answered
    ++ codes " delivered " ++ decimal counts.delivered ++ codes " dropped " ++ decimal counts.dropped ++ codes "\n"

-- the counts are those of a simulation of a scenario on a module of a plan
pub record IsCounted (plan : PlanTable) (scenario : Scenario) (counts : Counts) : Type 0 where
  pub netlist : Netlist
  pub interconnect : IsInterconnect plan netlist
  pub is_module : IsModule netlist
  pub are_counts : AreCounts plan scenario netlist counts

-- the text is the line of the workload system of a number, where the scenario is what is drawn for its lane 0 and 2,000 cycles
pub record IsWorkloadText (number : ℕ) (text : List ℕ) : Type 0 where
  pub plan : PlanTable
  pub planned : IsPlanned (files_of number) plan
  pub workload : IsWorkload number plan.system
  pub counts : Counts
  pub counted : IsCounted plan (drawn_scenario plan number 0 2000) counts
  pub is_text : text ≡ workload_line number (weight_of plan.system) counts
