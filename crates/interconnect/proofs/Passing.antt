-- Items of a list by their places.
use Rattle.std.proofs.Common.{◌≡◌, ℕ, zero, suc, ◌<◌, get_or, List, [], ◌∷◌, ◌++◌, length, map, slice_get, Some, refl, ap, subst, arith}
use Rattle.std.proofs.lemmas.Option.{same_Some, none-some, slice_get-get_or}

-- an item and its place
pub record At {X : Type 0} (xs : List X) (x : X) : Type 0 where
  pub place : ℕ
  pub is : slice_get xs place ≡ Some x

pub mapped : {X Y : Type 0} (f : X → Y) (xs : List X) (k : ℕ) (x : X) → slice_get xs k ≡ Some x → slice_get (map f xs) k ≡ Some (f x)
mapped f [] k x at = absurd (none-some x at)
mapped f (y ∷ xs) zero x at = ap (λ z. Some (f z)) (same_Some y x at)
mapped f (y ∷ xs) (suc k) x at = mapped f xs k x at

pub there_at : {X : Type 0} (xs : List X) (k : ℕ) → k < length xs → (x : X) × (slice_get xs k ≡ Some x)
there_at [] k below = absurd (omega (arith, below))
there_at (x ∷ xs) zero below = (x, refl)
there_at (x ∷ xs) (suc k) below = there_at xs k (omega (arith, below))

-- what is found in a list that is another
pub found_at : {X : Type 0} (xs all : List X) (k : ℕ) (d : X) → xs ≡ all → k < length all → slice_get all k ≡ Some (get_or xs k d)
found_at {X} xs all k d same inside = subst (λ (ys : List X). slice_get ys k ≡ Some (get_or xs k d)) same (slice_get-get_or xs k d (let long = ap (λ (ys : List X). length ys) same in omega (arith, long, inside)))

-- what holds of each item by its place holds with one more at the end
pub each_more : {X : Type 0} (P : ℕ → X → Type 0) (xs : List X) (x : X) → ((k : ℕ) (y : X) → slice_get xs k ≡ Some y → P k y) → P (length xs) x → (k : ℕ) (y : X) → slice_get (xs ++ x ∷ []) k ≡ Some y → P k y
each_more P [] x each last zero y at = subst (P 0) (same_Some x y at) last
each_more P [] x each last (suc k) y at = absurd (none-some y at)
each_more P (z ∷ xs) x each last zero y at = each 0 y at
each_more {X} P (z ∷ xs) x each last (suc k) y at = each_more (λ (n : ℕ) (w : X). P (suc n) w) xs x (λ n w there. each (suc n) w there) last k y at
