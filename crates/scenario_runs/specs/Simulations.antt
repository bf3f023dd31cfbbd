-- What it is to simulate a scenario on the system of files, and why it is refused.
use Rattle.std.specs.Prelude.{◌≡◌, ℕ, ◌*◌, ◌^◌, ◌<◌, ◌≤◌, List}
use Rattle.system_tables.specs.Tables.{SystemTable}
use Rattle.link_rules.specs.Links.{weight_of}
use Rattle.system_plan.specs.declared.faults.Refusal.{Refusal}
use Rattle.system_plan.specs.declared.faults.Refusal.TheVariants as refusal
use Rattle.system_plan.specs.Plans.{IsAccepted, IsRefusedBy}
use Rattle.scenario_tables.specs.declared.scenario.Scenario.{Scenario}
use Rattle.scenarios.specs.declared.faults.ScenarioRule.{ScenarioRule}
use Rattle.scenarios.specs.declared.faults.ScenarioFault.{ScenarioFault}
use Rattle.scenarios.specs.declared.faults.ScenarioFault.TheVariants as scenario
use Rattle.scenarios.specs.Files.{IsScenarioOf, IsFaultOf}
use Rattle.scenario_runs.specs.declared.faults.SimulateFault.{SimulateFault}
use Rattle.scenario_runs.specs.declared.faults.SimulateFault.TheVariants as fault

-- how many values nets may have in all cycles together: the weight of a system bounds the nets of its module
abbrev pub value_count : SystemTable → Scenario → ℕ
value_count system scenario = scenario.cycles * weight_of system

-- a scenario that is simulated on the system of files
pub record CanSimulate (files : List (List ℕ)) (bytes : List ℕ) : Type 0 where
  pub accepted : IsAccepted files
  pub scenario : Scenario
  pub stated : IsScenarioOf accepted.system bytes scenario
  pub few : value_count accepted.system scenario ≤ 2 ^ 32

-- no rule refuses the system, and this line of the scenario is the first that breaks a rule, with the least that it breaks
pub record IsBroken (files : List (List ℕ)) (bytes : List ℕ) (line : ℕ) (rule : ScenarioRule) : Type 0 where
  pub accepted : IsAccepted files
  pub is : IsFaultOf accepted.system bytes (scenario.Refused line rule)

-- a scenario in which nets may have this many values, more than are simulated
pub record IsTooLong (files : List (List ℕ)) (bytes : List ℕ) (count : ℕ) : Type 0 where
  pub accepted : IsAccepted files
  pub scenario : Scenario
  pub stated : IsScenarioOf accepted.system bytes scenario
  pub count_is : count ≡ value_count accepted.system scenario
  pub passed : 2 ^ 32 < count

-- why a scenario is not simulated; want of memory is no reason
abbrev pub IsSimulateFault : List (List ℕ) → List ℕ → SimulateFault → Type 0
IsSimulateFault files bytes (fault.SystemRefused refusal) = IsRefusedBy files refusal
IsSimulateFault files bytes (fault.ScenarioRefused line rule) = IsBroken files bytes line rule
IsSimulateFault files bytes (fault.TooManyValues count) = IsTooLong files bytes count
IsSimulateFault files bytes fault.NoMemory = ⊥

-- what becomes of what refuses the files of a system
abbrev pub fault_of_system : Refusal → SimulateFault
fault_of_system refusal.NoMemory = fault.NoMemory
fault_of_system refused = fault.SystemRefused refused

-- and of a fault of the scenario
abbrev pub fault_of_scenario : ScenarioFault → SimulateFault
fault_of_scenario (scenario.Refused line rule) = fault.ScenarioRefused line rule
fault_of_scenario scenario.NoMemory = fault.NoMemory
