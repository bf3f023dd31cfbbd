-- A list with one item changed.
use Rattle.std.specs.Prelude.{ℕ, zero, suc, List, [], ◌∷◌}

abbrev pub changed_at : {X : Type 0} → ℕ → (X → X) → List X → List X
changed_at {X} number change [] = []
changed_at {X} zero change (item ∷ later) = change item ∷ later
changed_at {X} (suc number) change (item ∷ later) = item ∷ changed_at number change later
