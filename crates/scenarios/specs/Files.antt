-- What a scenario file states.
use Rattle.std.specs.Prelude.{◌≡◌, ℕ, ◌+◌, ◌≤◌, true, List, [], ◌∷◌, length, take, slice_get, Option, Some, None, Result, Ok, Err}
use Rattle.system_tables.specs.Tables.{SystemTable}
use Rattle.waves.specs.Cuts.{lines}
use Rattle.scenario_tables.specs.declared.scenario.Scenario.{Scenario}
use Rattle.scenarios.specs.declared.faults.ScenarioRule.{ScenarioRule}
use Rattle.scenarios.specs.declared.faults.ScenarioRule.TheVariants.{Beginning}
use Rattle.scenarios.specs.declared.faults.ScenarioFault.{ScenarioFault}
use Rattle.scenarios.specs.declared.faults.ScenarioFault.TheVariants.{Refused, NoMemory}
use Rattle.scenarios.specs.declared.so_far.SoFar.{SoFar}
use Rattle.scenarios.specs.SoFar.{Reading, blank, scenario_of}
use Rattle.scenarios.specs.Lines.{line_in}

-- a scenario, or the number of the first line that breaks a rule and the least that it breaks
abbrev pub FileReading : Type 0
FileReading = Result Scenario (ℕ × ScenarioRule)

-- behind the last line, which has this number less one
abbrev pub at_end : ℕ → Option Scenario → FileReading
at_end number (Some scenario) = Ok scenario
at_end number None = Err (number, Beginning)

-- with the lines behind that of the number, where it breaks no rule
abbrev pub gone_on : ℕ → Reading → (SoFar → FileReading) → FileReading
gone_on number (Ok next) later = later next
gone_on number (Err rule) later = Err (number, rule)

-- what lines state, the first of which has this number
abbrev pub lines_in : SystemTable → ℕ → SoFar → List (List ℕ) → FileReading
lines_in system number so_far [] = at_end number (scenario_of so_far)
lines_in system number so_far (line ∷ others) =
    gone_on number (line_in system so_far line) (λ next. lines_in system (number + 1) next others)

unfoldable pub file_in : SystemTable → List ℕ → FileReading
file_in system bytes = lines_in system 1 (blank system) (lines bytes)

-- the bytes are a file that states the scenario for the system
abbrev pub IsScenarioOf : SystemTable → List ℕ → Scenario → Type 0
IsScenarioOf system bytes scenario = file_in system bytes ≡ Ok scenario

-- the first line of the file with a fault, and its least rule; want of memory says nothing of the file
abbrev pub IsFaultOf : SystemTable → List ℕ → ScenarioFault → Type 0
IsFaultOf system bytes (Refused line rule) = file_in system bytes ≡ Err (line, rule)
IsFaultOf system bytes NoMemory = true ≡ true

-- ---- the same, line by line

-- lines lead from what was stated before them to what is stated behind them, where none of them breaks a rule
abbrev pub Leads : SystemTable → SoFar → List (List ℕ) → SoFar → Type 0
Leads system so_far [] after = so_far ≡ after
Leads system so_far (line ∷ others) after =
    (next : SoFar) × (line_in system so_far line ≡ Ok next) × Leads system next others after

-- the line behind others breaks the rule, or there is none and nothing was said of cycles
abbrev pub IsBrokenBy : SystemTable → SoFar → Option (List ℕ) → ScenarioRule → Type 0
IsBrokenBy system before (Some line) rule = line_in system before line ≡ Err rule
IsBrokenBy system before None rule = (before.cycles ≡ None) × (rule ≡ Beginning)

-- the lines before this one, counted from 1, break no rule, and it breaks this one
pub record IsFirstFault (system : SystemTable) (bytes : List ℕ) (number : ℕ) (rule : ScenarioRule) : Type 0 where
  pub place : ℕ
  pub before : SoFar
  pub number_is : number ≡ place + 1
  pub within : place ≤ length (lines bytes)
  pub led : Leads system (blank system) (take place (lines bytes)) before
  pub broken : IsBrokenBy system before (slice_get (lines bytes) place) rule

-- no line breaks a rule, and all together state this
pub record IsStatedByAll (system : SystemTable) (bytes : List ℕ) (scenario : Scenario) : Type 0 where
  pub after : SoFar
  pub led : Leads system (blank system) (lines bytes) after
  pub is : scenario_of after ≡ Some scenario
