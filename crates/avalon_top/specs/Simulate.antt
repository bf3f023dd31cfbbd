-- What the files of a simulation call for.
use Rattle.std.specs.Prelude.{ℕ, List}
use Rattle.scenarios.specs.Rules.{number_of}
use Rattle.scenario_runs.specs.declared.faults.SimulateFault.{SimulateFault}
use Rattle.scenario_runs.specs.declared.faults.SimulateFault.TheVariants as fault
use Rattle.scenario_runs.specs.Simulations.{CanSimulate, IsSimulateFault}
use Rattle.task_words.specs.declared.Task.TheVariants.{Simulate}
use Rattle.answer_lines.specs.declared.exit.StepRule.TheVariants.{Scenario}
use Rattle.answer_lines.specs.declared.exit.Exit.{Exit}
use Rattle.answer_lines.specs.declared.exit.Exit.TheVariants as exit
use Rattle.avalon_top.specs.Systems.{answer_of_system}
use Rattle.avalon_top.specs.Refused.{DoneOrRefused}

-- the answer to a simulation that is refused: the scenario is file 2, and L6 is passed by so many values of nets
abbrev pub answer_of_simulation : SimulateFault → Exit
answer_of_simulation (fault.SystemRefused refused) = answer_of_system Simulate refused
answer_of_simulation (fault.ScenarioRefused line rule) = exit.ScenarioRefused 2 line (Scenario (number_of rule))
answer_of_simulation (fault.TooManyValues count) = exit.Limit 6 count
answer_of_simulation fault.NoMemory = exit.NoMemory

-- the answer that the files of a system and a scenario call for, where nothing fails
abbrev pub SimulateCallsFor : List (List ℕ) → List ℕ → Exit → Type 0
SimulateCallsFor files scenario = DoneOrRefused (CanSimulate files scenario) (IsSimulateFault files scenario) answer_of_simulation
