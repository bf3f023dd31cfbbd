-- Items of the fronts of lists, and the least number that passes a test.
use Rattle.std.proofs.Common.{◌≡◌, ℕ, ◌<◌, ◌≤◌, zero, suc, List, [], ◌∷◌, ◌++◌, Some, length, take, drop, slice_get, refl, ap, ◌∙◌, arith, take-suc, take_all}
use Rattle.std.specs.Prelude.{◌-◌, All}
use Rattle.std.proofs.lemmas.Option.{slice_get_within, get_or_from_slice_get}

-- an item in front of a place stands in the front of the list
pub slice_get-take : {X : Type 0} (xs : List X) (n k : ℕ) → k < n → slice_get (take n xs) k ≡ slice_get xs k
slice_get-take xs zero k less = absurd (omega arith)
slice_get-take [] (suc n) k less = refl
slice_get-take (x ∷ xs) (suc n) zero less = refl
slice_get-take (x ∷ xs) (suc n) (suc k) less = slice_get-take xs n k (omega arith)

pub slice_get-last : {X : Type 0} (xs : List X) (y : X) → slice_get (xs ++ y ∷ []) (length xs) ≡ Some y
slice_get-last [] y = refl
slice_get-last (x ∷ xs) y = slice_get-last xs y

pub slice_get-front : {X : Type 0} (xs : List X) (y : X) (k : ℕ) → k < length xs → slice_get (xs ++ y ∷ []) k ≡ slice_get xs k
slice_get-front [] y k less = absurd (omega arith)
slice_get-front (x ∷ xs) y zero less = refl
slice_get-front (x ∷ xs) y (suc k) less = slice_get-front xs y k (omega arith)

pub slice_get_some : {X : Type 0} (xs : List X) (k : ℕ) → k < length xs → (x : X) × (slice_get xs k ≡ Some x)
slice_get_some [] k less = absurd (omega arith)
slice_get_some (x ∷ xs) zero less = (x, refl)
slice_get_some (x ∷ xs) (suc k) less = slice_get_some xs k (omega arith)

-- the front of a list with its next item
pub take-next : {X : Type 0} (xs : List X) (n : ℕ) (x : X) → slice_get xs n ≡ Some x → take (suc n) xs ≡ take n xs ++ x ∷ []
take-next xs n x at =
    take-suc xs n x (slice_get_within xs n x at) ∙ ap (λ y. take n xs ++ y ∷ []) (get_or_from_slice_get xs n x x at)

-- what stands behind the first item
pub length-rest : {X : Type 0} (xs : List X) → length (drop 1 xs) ≤ length xs - 1
length-rest [] = omega arith
length-rest (x ∷ xs) = omega arith

pub rest_is : {X : Type 0} (xs : List X) → take (length xs - 1) (drop 1 xs) ≡ drop 1 xs
rest_is xs = take_all (length xs - 1) (drop 1 xs) (length-rest xs)

pub All-rest : {X : Type 0} (P : X → Type 0) (xs : List X) → All P xs → All P (drop 1 xs)
All-rest P [] all = all
All-rest P (x ∷ xs) all = λ k d less. all (suc k) d (omega arith)

-- two numbers are the same where neither is below the other
pub same_number : (a b : ℕ) → (a < b → ⊥) → (b < a → ⊥) → a ≡ b
same_number a b not_below not_above = omega arith
