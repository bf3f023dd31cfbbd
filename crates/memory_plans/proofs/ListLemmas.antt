-- Lists that are made of numbered items, and searches in them.
use Rattle.std.proofs.Common.{◌≡◌, ℕ, ◌+◌, ◌<◌, ◌≤◌, ◌⊎◌, inl, inr, zero, suc, Bool, true, false, ◌||◌, cond, nat_eq, List, [], ◌∷◌, Option, Some, None, map, filter, length, refl, sym, ap, subst, ◌∙◌, arith}
use Rattle.std.specs.Prelude.{find, slice_get, slice_index_or}
use Rattle.std.specs.List.{AllByRecursion, IsDistinct, filter_map, enumerate_from, cons_option, list_any}
use Rattle.std.proofs.lemmas.Bool.{cases_lt}
use Rattle.std.proofs.lemmas.Bool.Decides.{Decides-eqb}
use Rattle.std.proofs.lemmas.Option.{same_Some, none-some}

-- an element and its place
pub record At {X : Type 0} (xs : List X) (x : X) : Type 0 where
  pub place : ℕ
  pub is : slice_get xs place ≡ Some x

abbrev pub later : {X : Type 0} (y : X) (xs : List X) (x : X) → At xs x → At (y ∷ xs) x
later y xs x at = record { place = suc at.place; is = at.is }

pub there_at : {X : Type 0} (xs : List X) (k : ℕ) → k < length xs → (x : X) × (slice_get xs k ≡ Some x)
there_at [] k below = absurd (omega arith)
there_at (x ∷ xs) zero below = (x, refl)
there_at (x ∷ xs) (suc k) below = there_at xs k (omega arith)

pub index_is : {X : Type 0} (xs : List X) (k : ℕ) (x d : X) → slice_get xs k ≡ Some x → slice_index_or xs k d ≡ x
index_is [] k x d at = absurd (none-some x at)
index_is (y ∷ xs) zero x d at = same_Some y x at
index_is (y ∷ xs) (suc k) x d at = index_is xs k x d at

-- ---- what a list of numbered items is made of

-- where an item comes from
pub record IsMadeFrom {X Y : Type 0} (f : ℕ × X → Option Y) (n : ℕ) (xs : List X) (y : Y) : Type 0 where
  pub place : ℕ
  pub item : X
  pub is : slice_get xs place ≡ Some item
  pub makes : f (n + place, item) ≡ Some y

made_later : {X Y : Type 0} (f : ℕ × X → Option Y) (n : ℕ) (x : X) (xs : List X) (y : Y) → IsMadeFrom f (n + 1) xs y → IsMadeFrom f n (x ∷ xs) y
made_later {X} f n x xs y m =
    let next : n + 1 + m.place ≡ n + suc m.place = omega arith in
    record { place = suc m.place; item = m.item; is = m.is; makes = subst (λ k. f (k, m.item) ≡ Some y) next m.makes }

pub made_from : {X Y : Type 0} (f : ℕ × X → Option Y) (n : ℕ) (xs : List X) (k : ℕ) (y : Y) → slice_get (filter_map f (enumerate_from n xs)) k ≡ Some y → IsMadeFrom f n xs y
made_from f n [] k y at = absurd (none-some y at)
made_from {X} {Y} f n (x ∷ xs) k y at = by (f (n, x)) refl k at (λ j there. made_later f n x xs y (made_from f (n + 1) xs j y there))
  where
    by : (o : Option Y) → f (n, x) ≡ o → (k : ℕ) → slice_get (cons_option (f (n, x)) (filter_map f (enumerate_from (n + 1) xs))) k ≡ Some y
        → ((j : ℕ) → slice_get (filter_map f (enumerate_from (n + 1) xs)) j ≡ Some y → IsMadeFrom f n (x ∷ xs) y) → IsMadeFrom f n (x ∷ xs) y
    by None is k at rest = rest k (rw is at at)
    by (Some z) is zero at rest =
        let here : n ≡ n + 0 = omega arith in
        record { place = 0; item = x; is = refl; makes = subst (λ m. f (m, x) ≡ Some y) here (is ∙ rw is at at) }
    by (Some z) is (suc k) at rest = rest k (rw is at at)

-- what an item makes is there
pub made_there : {X Y : Type 0} (f : ℕ × X → Option Y) (n : ℕ) (xs : List X) (k : ℕ) (x : X) (y : Y) → slice_get xs k ≡ Some x → f (n + k, x) ≡ Some y → At (filter_map f (enumerate_from n xs)) y
made_there f n [] k x y at makes = absurd (none-some x at)
made_there {X} {Y} f n (z ∷ xs) zero x y at makes =
    let same : z ≡ x = same_Some z x at in
    let here : n + 0 ≡ n = omega arith in
    let first : f (n, z) ≡ Some y = ap (λ i. f (n, i)) same ∙ subst (λ m. f (m, x) ≡ Some y) here makes in
    record { place = 0; is = ap (λ (o : Option Y). slice_get (cons_option o (filter_map f (enumerate_from (n + 1) xs))) 0) first }
made_there {X} {Y} f n (z ∷ xs) (suc k) x y at makes =
    let next : n + suc k ≡ n + 1 + k = omega arith in
    skip (f (n, z)) (made_there f (n + 1) xs k x y at (subst (λ m. f (m, x) ≡ Some y) next makes))
  where
    skip : (o : Option Y) → At (filter_map f (enumerate_from (n + 1) xs)) y → At (cons_option o (filter_map f (enumerate_from (n + 1) xs))) y
    skip None at = at
    skip (Some o) at = later o (filter_map f (enumerate_from (n + 1) xs)) y at

-- where each made item says its number, these rise
module _ {X Y : Type 0} (f : ℕ × X → Option Y) (number : Y → ℕ) (says : (n : ℕ) (x : X) (y : Y) → f (n, x) ≡ Some y → number y ≡ n) where
  number_above : (n : ℕ) (xs : List X) (k : ℕ) (y : Y) → slice_get (filter_map f (enumerate_from n xs)) k ≡ Some y → n ≤ number y
  number_above n xs k y at =
      let from = made_from f n xs k y at in
      let same = says (n + from.place) from.item y from.makes in
      omega (arith, same)

  pub numbers_rise : (n : ℕ) (xs : List X) (j k : ℕ) (a b : Y) → j < k → slice_get (filter_map f (enumerate_from n xs)) j ≡ Some a → slice_get (filter_map f (enumerate_from n xs)) k ≡ Some b → number a < number b
  numbers_rise n [] j k a b less at_j at_k = absurd (none-some a at_j)
  numbers_rise n (x ∷ xs) j k a b less at_j at_k = by (f (n, x)) refl j k less at_j at_k (λ i l. numbers_rise (n + 1) xs i l a b)
    where
      by : (o : Option Y) → f (n, x) ≡ o → (j k : ℕ) → j < k
          → slice_get (cons_option (f (n, x)) (filter_map f (enumerate_from (n + 1) xs))) j ≡ Some a
          → slice_get (cons_option (f (n, x)) (filter_map f (enumerate_from (n + 1) xs))) k ≡ Some b
          → ((i l : ℕ) → i < l → slice_get (filter_map f (enumerate_from (n + 1) xs)) i ≡ Some a → slice_get (filter_map f (enumerate_from (n + 1) xs)) l ≡ Some b → number a < number b) → number a < number b
      by None is j k less at_j at_k rest = rest j k less (rw is at at_j) (rw is at at_k)
      by (Some z) is zero zero less at_j at_k rest = absurd (omega arith)
      by (Some z) is zero (suc k) less at_j at_k rest =
          let first : z ≡ a = same_Some z a (rw is at at_j) in
          let here : number a ≡ n = says n x a (is ∙ ap Some first) in
          let above = number_above (n + 1) xs k b (rw is at at_k) in
          omega (arith, here, above)
      by (Some z) is (suc j) zero less at_j at_k rest = absurd (omega arith)
      by (Some z) is (suc j) (suc k) less at_j at_k rest = rest j k (omega arith) (rw is at at_j) (rw is at at_k)

  pub one_place : (xs : List X) (j k : ℕ) (a b : Y) → slice_get (filter_map f (enumerate_from 0 xs)) j ≡ Some a → slice_get (filter_map f (enumerate_from 0 xs)) k ≡ Some b → number a ≡ number b → j ≡ k
  one_place xs j k a b at_j at_k same = by (cases_lt j k) (cases_lt k j)
    where
      by : (j < k) ⊎ (k ≤ j) → (k < j) ⊎ (j ≤ k) → j ≡ k
      by (inl less) other = absurd (let more = numbers_rise 0 xs j k a b less at_j at_k in omega (arith, more, same))
      by (inr more) (inl less) = absurd (let more = numbers_rise 0 xs k j b a less at_k at_j in omega (arith, more, same))
      by (inr more) (inr less) = omega (arith, more, less)

-- ---- searches

-- what a search finds is there and passes
pub record Found {X : Type 0} (p : X → Bool) (xs : List X) (x : X) : Type 0 where
  pub there : At xs x
  pub passes : p x ≡ true

-- the first that passes, where something does
pub found_at : {X : Type 0} (p : X → Bool) (xs : List X) (k : ℕ) (x : X) → slice_get xs k ≡ Some x → p x ≡ true → (y : X) × (find p xs ≡ Some y) × Found p xs y
found_at p [] k x is h = absurd (none-some x is)
found_at p (z ∷ xs) zero x is h =
    let same : z ≡ x = same_Some z x is in
    let passes : p z ≡ true = ap p same ∙ h in
    (z, rw passes refl, record { there = record { place = 0; is = refl }; passes = passes })
found_at {X} p (z ∷ xs) (suc k) x is h = by (p z) refl (found_at p xs k x is h)
  where
    by : (b : Bool) → p z ≡ b → ((y : X) × (find p xs ≡ Some y) × Found p xs y) → (y : X) × (cond (p z) (Some z) (find p xs) ≡ Some y) × Found p (z ∷ xs) y
    by true e rest = (z, rw e refl, record { there = record { place = 0; is = refl }; passes = e })
    by false e rest = (rest.0, rw e rest.1, record { there = later z xs rest.0 rest.2.there; passes = rest.2.passes })

-- ---- numbers of those that pass

either-right : (a b : Bool) → b ≡ true → (a || b) ≡ true
either-right true b h = refl
either-right false b h = h

module _ {X : Type 0} (p : X → Bool) (number : X → ℕ) where
  -- an item that passes has its number in the list
  pub listed : (xs : List X) (k : ℕ) (x : X) → slice_get xs k ≡ Some x → p x ≡ true → list_any (nat_eq (number x)) (map number (filter p xs)) ≡ true
  listed [] k x at passes = absurd (none-some x at)
  listed (z ∷ xs) zero x at passes =
      let same : z ≡ x = same_Some z x at in
      let here : p z ≡ true = ap p same ∙ passes in
      let own : nat_eq (number x) (number z) ≡ true = (Decides-eqb (number x) (number z)).1 (ap number (sym same)) in
      rw (here, own) refl
  listed (z ∷ xs) (suc k) x at passes = by (p z) refl (listed xs k x at passes)
    where
      by : (b : Bool) → p z ≡ b → list_any (nat_eq (number x)) (map number (filter p xs)) ≡ true → list_any (nat_eq (number x)) (map number (cond (p z) (z ∷ filter p xs) (filter p xs))) ≡ true
      by true e rest = rw e (either-right (nat_eq (number x) (number z)) (list_any (nat_eq (number x)) (map number (filter p xs))) rest)
      by false e rest = rw e rest

  -- a number in the list is that of an item that passes
  pub record Listed (xs : List X) (n : ℕ) : Type 0 where
    pub item : X
    pub there : At xs item
    pub passes : p item ≡ true
    pub is : number item ≡ n

  listed_later : (z : X) (xs : List X) (n : ℕ) → Listed xs n → Listed (z ∷ xs) n
  listed_later z xs n l = record { item = l.item; there = later z xs l.item l.there; passes = l.passes; is = l.is }

  pub listed_from : (xs : List X) (n : ℕ) → list_any (nat_eq n) (map number (filter p xs)) ≡ true → Listed xs n
  listed_from [] n any = absurd (let no : false ≡ true = any in cc)
  listed_from (z ∷ xs) n any = by (p z) refl any (λ more. listed_later z xs n (listed_from xs n more))
    where
      first : (b : Bool) → nat_eq n (number z) ≡ b → p z ≡ true → (b || list_any (nat_eq n) (map number (filter p xs))) ≡ true → (list_any (nat_eq n) (map number (filter p xs)) ≡ true → Listed (z ∷ xs) n) → Listed (z ∷ xs) n
      first true same passes any rest = record { item = z; there = record { place = 0; is = refl }; passes = passes; is = sym ((Decides-eqb n (number z)).0 same) }
      first false other passes any rest = rest any

      by : (b : Bool) → p z ≡ b → list_any (nat_eq n) (map number (cond (p z) (z ∷ filter p xs) (filter p xs))) ≡ true → (list_any (nat_eq n) (map number (filter p xs)) ≡ true → Listed (z ∷ xs) n) → Listed (z ∷ xs) n
      by true e any rest = first (nat_eq n (number z)) refl e (rw e at any) rest
      by false e any rest = rest (rw e at any)

  others : (xs : List X) (n : ℕ) → ((k : ℕ) (x : X) → slice_get xs k ≡ Some x → p x ≡ true → n ≡ number x → ⊥) → AllByRecursion (λ m. nat_eq n m ≡ false) (map number (filter p xs))
  others [] n none = tt
  others (z ∷ xs) n none = by (p z) refl (others xs n (λ k x at. none (suc k) x at))
    where
      differs : (b : Bool) → nat_eq n (number z) ≡ b → p z ≡ true → nat_eq n (number z) ≡ false
      differs true same passes = absurd (none 0 z refl passes ((Decides-eqb n (number z)).0 same))
      differs false other passes = other

      by : (b : Bool) → p z ≡ b → AllByRecursion (λ m. nat_eq n m ≡ false) (map number (filter p xs)) → AllByRecursion (λ m. nat_eq n m ≡ false) (map number (cond (p z) (z ∷ filter p xs) (filter p xs)))
      by true e rest = rw e (differs (nat_eq n (number z)) refl e, rest)
      by false e rest = rw e rest

  -- where one place alone has each number, the numbers are distinct
  pub distinct : (xs : List X) → ((j k : ℕ) (x y : X) → slice_get xs j ≡ Some x → slice_get xs k ≡ Some y → p x ≡ true → p y ≡ true → number x ≡ number y → j ≡ k) → IsDistinct nat_eq (map number (filter p xs))
  unfolding IsDistinct
  distinct [] once = tt
  distinct (z ∷ xs) once =
      by (p z) refl (distinct xs (λ j k x y at_x at_y px py same. (let e = once (suc j) (suc k) x y at_x at_y px py same in omega (arith, e))))
    where
      by : (b : Bool) → p z ≡ b → IsDistinct nat_eq (map number (filter p xs)) → IsDistinct nat_eq (map number (cond (p z) (z ∷ filter p xs) (filter p xs)))
      by true e rest = rw e (others xs (number z) (λ k x at px same. absurd (let no = once 0 (suc k) z x refl at e px same in omega (arith, no))), rest)
      by false e rest = rw e rest
