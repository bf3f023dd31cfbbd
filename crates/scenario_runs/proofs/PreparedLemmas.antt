-- what a plan and a fault of its scenario say of the files
use Rattle.std.proofs.Common.{◌≡◌, ℕ, ◌^◌, ◌<◌, ◌⊎◌, inl, inr, List, refl}
use Rattle.link_rules.specs.Plans.{PlanTable}
use Rattle.system_plan.specs.Plans.{IsPlanned, IsAccepted}
use Rattle.scenario_tables.specs.declared.scenario.Scenario.{Scenario}
use Rattle.scenarios.specs.declared.faults.ScenarioFault.{ScenarioFault}
use Rattle.scenarios.specs.declared.faults.ScenarioFault.TheVariants as scenario
use Rattle.scenarios.specs.Files.{IsScenarioOf, IsFaultOf}
use Rattle.scenario_runs.specs.declared.faults.SimulateFault.TheVariants as fault
use Rattle.scenario_runs.specs.Simulations.{value_count, IsSimulateFault, fault_of_scenario}

abbrev pub planned_is_accepted : (files : List (List ℕ)) (plan : PlanTable) → IsPlanned files plan → IsAccepted files
planned_is_accepted files plan is = record { system = plan.system; stated = is.stated; maps = is.is_plan.maps.kept; links = is.is_plan.links; limits = is.is_plan.limits }

pub scenario_refused : (files : List (List ℕ)) (bytes : List ℕ) (plan : PlanTable) (f : ScenarioFault) → IsPlanned files plan → IsFaultOf plan.system bytes f
    → (fault_of_scenario f ≡ fault.NoMemory) ⊎ IsSimulateFault files bytes (fault_of_scenario f)
scenario_refused files bytes plan (scenario.Refused line rule) planned is = inr record { accepted = planned_is_accepted files plan planned; is = is }
scenario_refused files bytes plan scenario.NoMemory planned is = inl refl

pub too_long : (files : List (List ℕ)) (bytes : List ℕ) (plan : PlanTable) (s : Scenario) (count : ℕ) → IsPlanned files plan → IsScenarioOf plan.system bytes s
    → count ≡ value_count plan.system s → 2 ^ 32 < count → IsSimulateFault files bytes (fault.TooManyValues count)
too_long files bytes plan s count planned is count_is passed =
    record { accepted = planned_is_accepted files plan planned; scenario = s; stated = is; count_is = count_is; passed = passed }
