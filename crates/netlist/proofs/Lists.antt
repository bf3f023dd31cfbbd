-- Places in lists of lines and of drivers.
use Rattle.std.proofs.Common.{◌≡◌, ℕ, zero, suc, ◌<◌, List, [], ◌∷◌, ◌++◌, length, slice_get, get_or, set, Option, Some, None, refl, ap, arith, ◌⊎◌, inl, inr}
use Rattle.netlist.specs.declared.line.Line.{Line}
use Rattle.netlist.specs.Netlists.{width_at}

pub slice_get-front : {X : Type 0} (xs ys : List X) (n : ℕ) (x : X) → slice_get xs n ≡ Some x → slice_get (xs ++ ys) n ≡ Some x
slice_get-front [] ys n x e = cc
slice_get-front (a ∷ xs) ys zero x e = e
slice_get-front (a ∷ xs) ys (suc n) x e = slice_get-front xs ys n x e

pub slice_get-last : {X : Type 0} (xs : List X) (y : X) → slice_get (xs ++ y ∷ []) (length xs) ≡ Some y
slice_get-last [] y = refl
slice_get-last (a ∷ xs) y = slice_get-last xs y

-- what stands in a list with one more item is the item, or stood there before
pub slice_get-newly : {X : Type 0} (xs : List X) (y z : X) (n : ℕ) → slice_get (xs ++ y ∷ []) n ≡ Some z → (slice_get xs n ≡ Some z) ⊎ (n ≡ length xs) × (y ≡ z)
slice_get-newly [] y z zero e = inr (refl, (cc))
slice_get-newly [] y z (suc n) e = inl e
slice_get-newly (a ∷ xs) y z zero e = inl e
slice_get-newly (a ∷ xs) y z (suc n) e = elim (slice_get-newly xs y z n e) [ inl o ↦ inl o | inr o ↦ inr (ap suc o.0, o.1) ]

pub slice_get-within : {X : Type 0} (xs : List X) (n : ℕ) (x : X) → slice_get xs n ≡ Some x → n < length xs
slice_get-within [] n x e = cc
slice_get-within (a ∷ xs) zero x e = omega arith
slice_get-within (a ∷ xs) (suc n) x e = let i = slice_get-within xs n x e in omega arith

pub slice_get-some : {X : Type 0} (xs : List X) (n : ℕ) → n < length xs → (x : X) × (slice_get xs n ≡ Some x)
slice_get-some [] n h = absurd (omega arith)
slice_get-some (x ∷ xs) zero h = (x, refl)
slice_get-some (x ∷ xs) (suc n) h = slice_get-some xs n (omega arith)

pub width_at-line : (xs : List Line) (n w : ℕ) → width_at xs n ≡ Some w → (line : Line) × (slice_get xs n ≡ Some line) × (line.width ≡ w)
width_at-line [] n w e = cc
width_at-line (x ∷ xs) zero w e = (x, refl, (cc))
width_at-line (x ∷ xs) (suc n) w e = width_at-line xs n w e

pub width_at-is : (xs : List Line) (n : ℕ) (line : Line) → slice_get xs n ≡ Some line → width_at xs n ≡ Some line.width
width_at-is xs n line e = rw e refl

-- a driver after one was set: the one, or an earlier one
pub driver-newly : (ds : List (Option ℕ)) (k n j m : ℕ) → get_or (set ds k (Some n)) j None ≡ Some m → (get_or ds j None ≡ Some m) ⊎ (j ≡ k) × (n ≡ m)
driver-newly [] k n j m e = inl e
driver-newly (d ∷ ds) zero n zero m e = inr (refl, (cc))
driver-newly (d ∷ ds) zero n (suc j) m e = inl e
driver-newly (d ∷ ds) (suc k) n zero m e = inl e
driver-newly (d ∷ ds) (suc k) n (suc j) m e = elim (driver-newly ds k n j m e) [ inl o ↦ inl o | inr o ↦ inr (ap suc o.0, o.1) ]

pub driver-set : (ds : List (Option ℕ)) (k n : ℕ) → k < length ds → get_or (set ds k (Some n)) k None ≡ Some n
driver-set [] k n h = absurd (omega arith)
driver-set (d ∷ ds) zero n h = refl
driver-set (d ∷ ds) (suc k) n h = driver-set ds k n (omega arith)

pub driver-kept : (ds : List (Option ℕ)) (k n j m : ℕ) → get_or ds k None ≡ None → get_or ds j None ≡ Some m → get_or (set ds k (Some n)) j None ≡ Some m
driver-kept [] k n j m u e = cc
driver-kept (d ∷ ds) zero n zero m u e = cc
driver-kept (d ∷ ds) zero n (suc j) m u e = e
driver-kept (d ∷ ds) (suc k) n zero m u e = e
driver-kept (d ∷ ds) (suc k) n (suc j) m u e = driver-kept ds k n j m u e

-- what stands in a list in which one item was set
pub slice_get-set_kept : {X : Type 0} (xs : List X) (k n : ℕ) (y x : X) → slice_get xs n ≡ Some x → (slice_get (set xs k y) n ≡ Some x) ⊎ (n ≡ k) × (slice_get (set xs k y) n ≡ Some y)
slice_get-set_kept [] k n y x e = cc
slice_get-set_kept (a ∷ xs) zero zero y x e = inr (refl, refl)
slice_get-set_kept (a ∷ xs) zero (suc n) y x e = inl e
slice_get-set_kept (a ∷ xs) (suc k) zero y x e = inl e
slice_get-set_kept (a ∷ xs) (suc k) (suc n) y x e = elim (slice_get-set_kept xs k n y x e) [ inl o ↦ inl o | inr o ↦ inr (ap suc o.0, o.1) ]

pub slice_get-set_newly : {X : Type 0} (xs : List X) (k n : ℕ) (y z : X) → slice_get (set xs k y) n ≡ Some z → ((n ≡ k → ⊥) × (slice_get xs n ≡ Some z)) ⊎ (n ≡ k) × (y ≡ z)
slice_get-set_newly [] k n y z e = cc
slice_get-set_newly (a ∷ xs) zero zero y z e = inr (refl, (cc))
slice_get-set_newly (a ∷ xs) zero (suc n) y z e = inl ((λ p. absurd (omega (arith, p))), e)
slice_get-set_newly (a ∷ xs) (suc k) zero y z e = inl ((λ p. absurd (omega (arith, p))), e)
slice_get-set_newly (a ∷ xs) (suc k) (suc n) y z e = elim (slice_get-set_newly xs k n y z e)
    [ inl o ↦ inl ((λ p. o.0 (let q : n ≡ k = omega (arith, p) in q)), o.1) | inr o ↦ inr (ap suc o.0, o.1) ]

pub slice_get-set_same : {X : Type 0} (xs : List X) (k : ℕ) (y : X) → k < length xs → slice_get (set xs k y) k ≡ Some y
slice_get-set_same [] k y h = absurd (omega arith)
slice_get-set_same (a ∷ xs) zero y h = refl
slice_get-set_same (a ∷ xs) (suc k) y h = slice_get-set_same xs k y (omega arith)

pub slice_get-set_other : {X : Type 0} (xs : List X) (k n : ℕ) (y x : X) → (n ≡ k → ⊥) → slice_get xs n ≡ Some x → slice_get (set xs k y) n ≡ Some x
slice_get-set_other [] k n y x d e = cc
slice_get-set_other (a ∷ xs) zero zero y x d e = absurd (d refl)
slice_get-set_other (a ∷ xs) zero (suc n) y x d e = e
slice_get-set_other (a ∷ xs) (suc k) zero y x d e = e
slice_get-set_other (a ∷ xs) (suc k) (suc n) y x d e = slice_get-set_other xs k n y x (λ p. d (ap suc p)) e
