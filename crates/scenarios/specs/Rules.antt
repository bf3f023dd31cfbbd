-- The rules on the lines of a scenario.
use Rattle.std.specs.Prelude.{ℕ, Bool, List, [], ◌∷◌, Option, Some, None, if◌then◌else◌}
use Rattle.scenarios.specs.declared.faults.ScenarioRule.{ScenarioRule}
use Rattle.scenarios.specs.declared.faults.ScenarioRule.TheVariants.{Characters, Statements, Words, Interfaces, Spelling, Ranges, Beginning, Transfers, Packets, Limits}

abbrev pub number_of : ScenarioRule → ℕ
number_of Characters = 1
number_of Statements = 2
number_of Words = 3
number_of Interfaces = 4
number_of Spelling = 5
number_of Ranges = 6
number_of Beginning = 7
number_of Transfers = 8
number_of Packets = 9
number_of Limits = 10

-- of rules, each with whether it is broken, the first that is
abbrev pub first_broken : List (Bool × ScenarioRule) → Option ScenarioRule
first_broken [] = None
first_broken ((broken, rule) ∷ later) = if broken then Some rule else first_broken later
