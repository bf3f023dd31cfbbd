-- How far a source has come in the statements that it has left.
use Rattle.std.specs.Prelude.{◌≡◌, ℕ, ◌<◌, ◌≤◌, List, [], ◌∷◌}
use Rattle.scenario_tables.specs.declared.statements.SourceStatement.{SourceStatement}
use Rattle.scenario_tables.specs.declared.statements.SourceStatement.TheVariants as states

-- each gap lasts for a cycle at least
abbrev pub AreLasting : List SourceStatement → Type 0
AreLasting [] = Unit {0}
AreLasting (states.Beat beat ∷ later) = AreLasting later
AreLasting (states.Gap cycles ∷ later) = (1 ≤ cycles) × AreLasting later

-- so many cycles of the gap that stands first are over, and not all
abbrev pub AreLeft : ℕ → List SourceStatement → Type 0
AreLeft waited [] = waited ≡ 0
AreLeft waited (states.Beat beat ∷ later) = (waited ≡ 0) × AreLasting later
AreLeft waited (states.Gap cycles ∷ later) = (waited < cycles) × AreLasting later
