-- Names without regard to case.
use Rattle.std.proofs.Common.{◌≡◌, ◌↔◌, ℕ, Bool, true, false, cond, IsTrue, List, [], ◌∷◌, Some, refl}
use Rattle.std.specs.Prelude.{find}
use Rattle.std.proofs.lemmas.Bool.Decides.{same_from_decides}
use Rattle.std.proofs.lemmas.Slice.Eq.{bytes_eq-Decides}
use Rattle.iface_roles.specs.Names.{lower, same_name, IsSameName}

-- what a search finds passes the test
pub find-passes : {X : Type 0} (p : X → Bool) (xs : List X) (x : X) → find p xs ≡ Some x → p x ≡ true
find-passes p [] x h = cc
find-passes p (y ∷ ys) x h =
    elim (p y) as (λ b. p y ≡ b → cond b (Some y) (find p ys) ≡ Some x → p x ≡ true) [
      | true ↦ λ e found. cc
      | false ↦ λ e found. find-passes p ys x found
    ] refl h

pub same_name-true : (a b : List ℕ) → same_name a b ≡ true → IsSameName a b
same_name-true a b h = (bytes_eq-Decides (lower a) (lower b)).0 h

-- a test that says whether two texts are one name is the definition's test
pub test_is_same_name : (r : Bool) (a b : List ℕ) → (IsTrue r ↔ IsSameName a b) → r ≡ same_name a b
test_is_same_name r a b h =
    same_from_decides r (same_name a b) h (bytes_eq-Decides (lower a) (lower b))
