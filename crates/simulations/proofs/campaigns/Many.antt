-- Loops over lanes.
use Rattle.std.proofs.Common.{◌≡◌, inl, inr, ℕ, zero, suc, ◌+◌, ◌<◌, ◌≤◌, List, [], ◌∷◌, ◌++◌, length, slice_set, slice_get, get_or, Some, None, refl, sym, ap, subst, ◌∙◌, arith}
use Rattle.std.proofs.lemmas.Bool.{cases_order}
use Rattle.std.proofs.lemmas.List.{length-set}
use Rattle.std.proofs.lemmas.Option.{none-some, same_Some, slice_get-get_or}

get_set_other : {C : Type 0} (xs : List C) (k n : ℕ) (y : C) → (n ≡ k → ⊥) → slice_get (slice_set xs k y) n ≡ slice_get xs n
get_set_other [] k n y apart = refl
get_set_other (x ∷ xs) zero zero y apart = absurd (apart refl)
get_set_other (x ∷ xs) zero (suc n) y apart = refl
get_set_other (x ∷ xs) (suc k) zero y apart = refl
get_set_other (x ∷ xs) (suc k) (suc n) y apart = get_set_other xs k n y (λ e. apart (ap suc e))

get_set_same : {C : Type 0} (xs : List C) (k : ℕ) (y : C) → k < length xs → slice_get (slice_set xs k y) k ≡ Some y
get_set_same [] k y inside = absurd (omega arith)
get_set_same (x ∷ xs) zero y inside = refl
get_set_same (x ∷ xs) (suc k) y inside = get_set_same xs k y (omega arith)

-- what stands at a place is inside the list, and inside it something stands at each place
pub within : {C : Type 0} (xs : List C) (k : ℕ) (x : C) → slice_get xs k ≡ Some x → k < length xs
within [] k x e = absurd (none-some x e)
within (y ∷ xs) zero x e = omega arith
within (y ∷ xs) (suc k) x e = let low = within xs k x e in omega arith

pub some_at : {C : Type 0} (xs : List C) (k : ℕ) → k < length xs → (x : C) × (slice_get xs k ≡ Some x)
some_at [] k low = absurd (omega arith)
some_at (x ∷ xs) zero low = (x, refl)
some_at (x ∷ xs) (suc k) low = some_at xs k (omega arith)

-- the items before a place have become others, and the rest are as they were
pub record AreDone {C : Type 0} (Becomes : ℕ → C → C → Type 0) (start now : List C) (i : ℕ) : Type 0 where
  pub count : length now ≡ length start
  pub before : (k : ℕ) (old new : C) → k < i → slice_get start k ≡ Some old → slice_get now k ≡ Some new → Becomes k old new
  pub rest : (k : ℕ) → i ≤ k → slice_get now k ≡ slice_get start k

pub none_done : {C : Type 0} (Becomes : ℕ → C → C → Type 0) (start : List C) → AreDone Becomes start start 0
none_done {C} Becomes start = record { count = refl; before = λ k old new low a b. absurd (omega arith); rest = λ k high. refl }

-- what stands at the next place is what stood there
pub next_at : {C : Type 0} (Becomes : ℕ → C → C → Type 0) (start now : List C) (i : ℕ) (d : C) → AreDone Becomes start now i → i < length now → slice_get start i ≡ Some (get_or now i d)
next_at {C} Becomes start now i d are inside = sym (are.rest i (omega arith)) ∙ slice_get-get_or now i d inside

pub one_more_done : {C : Type 0} (Becomes : ℕ → C → C → Type 0) (start now : List C) (i : ℕ) (d new : C) → i < length now → AreDone Becomes start now i
    → Becomes i (get_or now i d) new → AreDone Becomes start (slice_set now i new) (i + 1)
one_more_done {C} Becomes start now i d new inside are becomes =
    record {
      count = length-set now i new ∙ are.count;
      before = λ k old after low a b. elim (cases_order k i) [
        | inl e ↦ (let at : slice_get start i ≡ Some (get_or now i d) = next_at Becomes start now i d are inside in
            let was : old ≡ get_or now i d = same_Some old (get_or now i d) (sym a ∙ ap (slice_get start) e ∙ at) in
            let is : after ≡ new = same_Some after new (sym b ∙ ap (slice_get (slice_set now i new)) e ∙ get_set_same now i new inside) in
            subst (λ (n : ℕ). Becomes n old after) (sym e) (subst (λ (x : C). Becomes i x after) (sym was) (subst (λ (x : C). Becomes i (get_or now i d) x) (sym is) becomes)))
        | inr (inl below) ↦ are.before k old after below a (sym (get_set_other now i k new (λ e. omega (arith, e, below))) ∙ b)
        | inr (inr above) ↦ absurd (omega arith)
      ];
      rest = λ k high. get_set_other now i k new (λ e. omega (arith, e, high)) ∙ are.rest k (omega arith);
    }

pub all_done : {C : Type 0} (Becomes : ℕ → C → C → Type 0) (start now : List C) (i : ℕ) → AreDone Becomes start now i → length start ≤ i
    → (k : ℕ) (old new : C) → slice_get start k ≡ Some old → slice_get now k ≡ Some new → Becomes k old new
all_done {C} Becomes start now i are all k old new a b = let low = within start k old a in are.before k old new (omega arith) a b

-- a place of a list that was set, or another
pub set_here_or_there : {C : Type 0} (P : ℕ → C → Type 0) (xs : List C) (i : ℕ) (y : C) → i < length xs → ((k : ℕ) (x : C) → k < i → slice_get xs k ≡ Some x → P k x) → P i y
    → (k : ℕ) (x : C) → k < i + 1 → slice_get (slice_set xs i y) k ≡ Some x → P k x
set_here_or_there {C} P xs i y inside earlier here k x low at = elim (cases_order k i) [
  | inl e ↦ (let is : x ≡ y = same_Some x y (sym at ∙ ap (slice_get (slice_set xs i y)) e ∙ get_set_same xs i y inside) in
      subst (λ (n : ℕ). P n x) (sym e) (subst (P i) (sym is) here))
  | inr (inl below) ↦ earlier k x below (sym (get_set_other xs i k y (λ e. omega (arith, e, below))) ∙ at)
  | inr (inr above) ↦ absurd (omega arith)
]

-- what holds of each item by its place holds with one more at the end
pub each_more : {X : Type 0} (P : ℕ → X → Type 0) (xs : List X) (x : X) → ((k : ℕ) (y : X) → slice_get xs k ≡ Some y → P k y) → P (length xs) x
    → (k : ℕ) (y : X) → slice_get (xs ++ x ∷ []) k ≡ Some y → P k y
each_more P [] x each last zero y at = subst (P 0) (same_Some x y at) last
each_more P [] x each last (suc k) y at = absurd (none-some y at)
each_more P (z ∷ xs) x each last zero y at = each 0 y at
each_more {X} P (z ∷ xs) x each last (suc k) y at = each_more (λ (n : ℕ) (w : X). P (suc n) w) xs x (λ n w there. each (suc n) w there) last k y at

-- what stands at a place, as it is read
pub read_at : {C : Type 0} (xs : List C) (k : ℕ) (d x : C) → slice_get xs k ≡ Some x → get_or xs k d ≡ x
read_at {C} xs k d x at = same_Some (get_or xs k d) x (sym (slice_get-get_or xs k d (within xs k x at)) ∙ at)

-- what holds of the items before a place, and of what is read there, holds before the next place
pub each_up_to : {C : Type 0} (P : ℕ → C → Type 0) (xs : List C) (i : ℕ) (d : C) → ((k : ℕ) (x : C) → k < i → slice_get xs k ≡ Some x → P k x) → P i (get_or xs i d)
    → (k : ℕ) (x : C) → k < i + 1 → slice_get xs k ≡ Some x → P k x
each_up_to {C} P xs i d earlier here k x low at = elim (cases_order k i) [
  | inl e ↦ (let there : slice_get xs i ≡ Some x = subst (λ (n : ℕ). slice_get xs n ≡ Some x) e at in
      subst (λ (n : ℕ). P n x) (sym e) (subst (P i) (read_at xs i d x there) here))
  | inr (inl below) ↦ earlier k x below at
  | inr (inr above) ↦ absurd (omega arith)
]

-- a list takes what is made of the items of another, place by place
pub taken_more : {C D : Type 0} (f : C → D) (xs : List C) (ys : List D) (i : ℕ) (d : C) (y : D) → i < length ys → y ≡ f (get_or xs i d) → ((k : ℕ) (x : C) → k < i → slice_get xs k ≡ Some x → slice_get ys k ≡ Some (f x))
    → (k : ℕ) (x : C) → k < i + 1 → slice_get xs k ≡ Some x → slice_get (slice_set ys i y) k ≡ Some (f x)
taken_more {C} {D} f xs ys i d y inside is earlier k x low at = elim (cases_order k i) [
  | inl e ↦ (let there : slice_get xs i ≡ Some x = subst (λ (n : ℕ). slice_get xs n ≡ Some x) e at in
      let made : y ≡ f x = is ∙ ap f (read_at xs i d x there) in
      let set : slice_get (slice_set ys i y) i ≡ Some (f x) = get_set_same ys i y inside ∙ ap (λ (z : D). Some z) made in
      subst (λ (n : ℕ). slice_get (slice_set ys i y) n ≡ Some (f x)) (sym e) set)
  | inr (inl below) ↦ get_set_other ys i k y (λ e. omega (arith, e, below)) ∙ earlier k x below at
  | inr (inr above) ↦ absurd (omega arith)
]
