-- The hosts joined to an agent stand once each.
use Rattle.std.proofs.Common.{◌≡◌, ℕ, false, nat_eq, List, [], ◌∷◌, IsTrue, refl}
use Rattle.std.specs.List.{AllByRecursion, IsDistinct, list_any}
use Rattle.memory_awake.specs.Fair.{are_apart}

none_equal : (x : ℕ) (later : List ℕ) → AllByRecursion (λ y. nat_eq x y ≡ false) later → list_any (nat_eq x) later ≡ false
none_equal x [] all = refl
none_equal x (y ∷ later) all =
    let first = all.0 in
    let rest = none_equal x later all.1 in
    rw (first, rest) refl

pub apart_from_distinct : (xs : List ℕ) → IsDistinct nat_eq xs → IsTrue (are_apart xs)
unfolding IsDistinct
apart_from_distinct [] distinct = refl
apart_from_distinct (x ∷ later) distinct =
    let first = none_equal x later distinct.0 in
    let rest = apart_from_distinct later distinct.1 in
    rw (first, rest) refl
