-- A list with one item set, as one with that item changed.
use Rattle.std.proofs.Common.{◌≡◌, ℕ, zero, suc, List, [], ◌∷◌, slice_get, slice_set, Some, ap, refl}
use Rattle.scenario_tables.specs.Changes.{changed_at}

pub set_changed : {X : Type 0} (items : List X) (number : ℕ) (item : X) (change : X → X) → slice_get items number ≡ Some item →
    slice_set items number (change item) ≡ changed_at number change items
set_changed [] number item change there = refl
set_changed (first ∷ later) zero item change there = let is : first ≡ item = cc in rw is refl
set_changed (first ∷ later) (suc number) item change there = ap (λ rest. first ∷ rest) (set_changed later number item change there)
