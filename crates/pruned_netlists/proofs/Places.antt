-- The new numbers of marked places.
use Rattle.std.proofs.Common.{◌≡◌, ℕ, zero, suc, ◌<◌, ◌≤◌, Bool, true, false, List, [], ◌∷◌, length, slice_get, Some, refl, ap, ◌∙◌, arith}
use Rattle.std.specs.Prelude.{if◌then◌else◌}
use Rattle.pruned_netlists.specs.Numbers.{place, IsMarked}

grown : (b : Bool) (x y : ℕ) → x ≡ suc y → (if b then suc x else x) ≡ suc (if b then suc y else y)
grown true x y e = ap suc e
grown false x y e = e

same : (b : Bool) (x y : ℕ) → x ≡ y → (if b then suc x else x) ≡ (if b then suc y else y)
same true x y e = ap suc e
same false x y e = e

pub place_marked : (marks : List Bool) (n : ℕ) → slice_get marks n ≡ Some true → place marks (suc n) ≡ suc (place marks n)
place_marked [] n e = cc
place_marked (mark ∷ marks) zero e = let is : mark ≡ true = cc in rw is refl
place_marked (mark ∷ marks) (suc n) e = grown mark (place marks (suc n)) (place marks n) (place_marked marks n e)

pub place_unmarked : (marks : List Bool) (n : ℕ) → slice_get marks n ≡ Some false → place marks (suc n) ≡ place marks n
place_unmarked [] n e = cc
place_unmarked (mark ∷ marks) zero e = let is : mark ≡ false = cc in rw is refl
place_unmarked (mark ∷ marks) (suc n) e = same mark (place marks (suc n)) (place marks n) (place_unmarked marks n e)

pub place_past : (marks : List Bool) (n : ℕ) → length marks ≤ n → place marks n ≡ place marks (length marks)
place_past [] zero h = refl
place_past [] (suc n) h = refl
place_past (mark ∷ marks) zero h = absurd (omega arith)
place_past (mark ∷ marks) (suc n) h = same mark (place marks n) (place marks (length marks)) (place_past marks n (omega arith))

some_more : (b : Bool) (x n : ℕ) → x ≤ n → (if b then suc x else x) ≤ suc n
some_more true x n h = omega arith
some_more false x n h = omega arith

pub place_few : (marks : List Bool) (n : ℕ) → place marks n ≤ n
place_few marks zero = omega arith
place_few [] (suc n) = omega arith
place_few (mark ∷ marks) (suc n) = some_more mark (place marks n) n (place_few marks n)

up : (b : Bool) (x y : ℕ) → x ≤ y → (if b then suc x else x) ≤ (if b then suc y else y)
up true x y h = omega arith
up false x y h = omega arith

pub place_up : (marks : List Bool) (m n : ℕ) → m ≤ n → place marks m ≤ place marks n
place_up marks zero n h = omega arith
place_up marks (suc m) zero h = absurd (omega arith)
place_up [] (suc m) (suc n) h = omega arith
place_up (mark ∷ marks) (suc m) (suc n) h = up mark (place marks m) (place marks n) (place_up marks m n (omega arith))

pub place_below : (marks : List Bool) (m n : ℕ) → IsMarked marks m → m < n → place marks m < place marks n
place_below marks m n e lt = let next = place_marked marks m e in let most = place_up marks (suc m) n (omega arith) in omega (arith, next, most)

-- the place of a new number
pub old : List Bool → ℕ → ℕ
old [] j = 0
old (true ∷ marks) zero = 0
old (true ∷ marks) (suc j) = suc (old marks j)
old (false ∷ marks) j = suc (old marks j)

pub old_place : (marks : List Bool) (n : ℕ) → IsMarked marks n → old marks (place marks n) ≡ n
unfolding old
old_place [] n e = cc
old_place (true ∷ marks) zero e = refl
old_place (true ∷ marks) (suc n) e = ap suc (old_place marks n e)
old_place (false ∷ marks) zero e = cc
old_place (false ∷ marks) (suc n) e = ap suc (old_place marks n e)

-- each new number has its place
pub record IsPlaceOf (marks : List Bool) (j n : ℕ) : Type 0 where
  pub marked : IsMarked marks n
  pub number : place marks n ≡ j

pub place_old : (marks : List Bool) (j : ℕ) → j < place marks (length marks) → IsPlaceOf marks j (old marks j)
unfolding old
place_old [] j h = absurd (omega arith)
place_old (true ∷ marks) zero h = record { marked = refl; number = refl }
place_old (true ∷ marks) (suc j) h = let rest = place_old marks j (omega arith) in record { marked = rest.marked; number = ap suc rest.number }
place_old (false ∷ marks) j h = let rest = place_old marks j h in record { marked = rest.marked; number = rest.number }

-- behind marked places alone the number stays
pub place_front : (marks : List Bool) (n : ℕ) → ((m : ℕ) → m < n → IsMarked marks m) → place marks n ≡ n
place_front marks zero h = refl
place_front marks (suc n) h = place_marked marks n (h n (omega arith)) ∙ ap suc (place_front marks n (λ m lt. h m (omega arith)))
