-- Items of a list that pass a test, and the numbers of items.
use Rattle.std.proofs.Common.{◌≡◌, ℕ, zero, suc, Bool, true, false, ◌||◌, cond, nat_eq, List, [], ◌∷◌, length, map, filter, slice_get, Some, refl, sym, ap, ◌∙◌, ◌<◌, arith}
use Rattle.std.specs.List.{IsDistinct, AllByRecursion, list_any}
use Rattle.std.proofs.lemmas.Bool.{false≢true}
use Rattle.std.proofs.lemmas.Bool.Decides.{Decides-eqb}
use Rattle.std.specs.Option.{option_map}
use Rattle.std.proofs.lemmas.Option.{same_Some, none-some, slice_get-map}

-- an item and its place
pub record At {X : Type 0} (xs : List X) (x : X) : Type 0 where
  pub place : ℕ
  pub is : slice_get xs place ≡ Some x

-- an item of those that pass
pub record Passes {X : Type 0} (test : X → Bool) (xs : List X) (x : X) : Type 0 where
  pub there : At xs x
  pub passes : test x ≡ true

passes_later : {X : Type 0} (test : X → Bool) (y : X) (xs : List X) (x : X) → Passes test xs x → Passes test (y ∷ xs) x
passes_later test y xs x p = record { there = record { place = suc p.there.place; is = p.there.is }; passes = p.passes }

pub passed : {X : Type 0} (test : X → Bool) (xs : List X) (k : ℕ) (x : X) → slice_get (filter test xs) k ≡ Some x → Passes test xs x
passed test [] k x at = absurd (none-some x at)
passed {X} test (y ∷ xs) k x at = by (test y) refl k at (λ j there. passes_later test y xs x (passed test xs j x there))
  where
    by : (b : Bool) → test y ≡ b → (k : ℕ) → slice_get (cond (test y) (y ∷ filter test xs) (filter test xs)) k ≡ Some x → ((j : ℕ) → slice_get (filter test xs) j ≡ Some x → Passes test (y ∷ xs) x) → Passes test (y ∷ xs) x
    by true e zero at rest = let same : y ≡ x = same_Some y x (rw e at at) in record { there = record { place = 0; is = ap Some same }; passes = ap test (sym same) ∙ e }
    by true e (suc k) at rest = rest k (rw e at at)
    by false e k at rest = rest k (rw e at at)

pub kept : {X : Type 0} (test : X → Bool) (xs : List X) (k : ℕ) (x : X) → slice_get xs k ≡ Some x → test x ≡ true → At (filter test xs) x
kept test [] k x at passes = absurd (none-some x at)
kept test (y ∷ xs) zero x at passes =
    let same : y ≡ x = same_Some y x at in
    let is : test y ≡ true = ap test same ∙ passes in
    rw is (record { place = 0; is = ap Some same })
kept {X} test (y ∷ xs) (suc k) x at passes = by (test y) (kept test xs k x at passes)
  where
    by : (b : Bool) → At (filter test xs) x → At (cond b (y ∷ filter test xs) (filter test xs)) x
    by true rest = record { place = suc rest.place; is = rest.is }
    by false rest = rest

pub mapped : {X Y : Type 0} (f : X → Y) (xs : List X) (k : ℕ) (x : X) → slice_get xs k ≡ Some x → slice_get (map f xs) k ≡ Some (f x)
mapped f xs k x at = slice_get-map f xs k ∙ ap (option_map f) at

-- where an item of a mapped list comes from
pub record IsImage {X Y : Type 0} (f : X → Y) (xs : List X) (k : ℕ) (y : Y) : Type 0 where
  pub item : X
  pub is : slice_get xs k ≡ Some item
  pub makes : f item ≡ y

pub image : {X Y : Type 0} (f : X → Y) (xs : List X) (k : ℕ) (y : Y) → slice_get (map f xs) k ≡ Some y → IsImage f xs k y
image f [] k y at = absurd (none-some y at)
image f (x ∷ xs) zero y at = record { item = x; is = refl; makes = same_Some (f x) y at }
image f (x ∷ xs) (suc k) y at = let rest = image f xs k y at in record { item = rest.item; is = rest.is; makes = rest.makes }

pub there_at : {X : Type 0} (xs : List X) (k : ℕ) → k < length xs → (x : X) × (slice_get xs k ≡ Some x)
there_at [] k below = absurd (omega (arith, below))
there_at (x ∷ xs) zero below = (x, refl)
there_at (x ∷ xs) (suc k) below = there_at xs k (omega (arith, below))

-- ---- numbers of items

module _ {X : Type 0} (number : X → ℕ) where
  -- an item with this number
  pub record Listed (xs : List X) (n : ℕ) : Type 0 where
    pub item : X
    pub place : ℕ
    pub at : slice_get xs place ≡ Some item
    pub is : n ≡ number item

  pub listed : (xs : List X) (n : ℕ) → list_any (nat_eq n) (map number xs) ≡ true → Listed xs n
  listed [] n any = absurd (false≢true any)
  listed (x ∷ xs) n any = by (nat_eq n (number x)) refl any (λ more. listed xs n more)
    where
      by : (b : Bool) → nat_eq n (number x) ≡ b → (b || list_any (nat_eq n) (map number xs)) ≡ true → (list_any (nat_eq n) (map number xs) ≡ true → Listed xs n) → Listed (x ∷ xs) n
      by true is any later = record { item = x; place = 0; at = refl; is = (Decides-eqb n (number x)).0 is }
      by false is any later = let more = later any in record { item = more.item; place = suc more.place; at = more.at; is = more.is }

  others : (n : ℕ) (xs : List X) → ((k : ℕ) (x : X) → slice_get xs k ≡ Some x → n ≡ number x → ⊥) → AllByRecursion (λ m. nat_eq n m ≡ false) (map number xs)
  others n [] none = tt
  others n (x ∷ xs) none = (differs (nat_eq n (number x)) refl, others n xs (λ k y at. none (suc k) y at))
    where
      differs : (b : Bool) → nat_eq n (number x) ≡ b → nat_eq n (number x) ≡ false
      differs true e = absurd (none 0 x refl ((Decides-eqb n (number x)).0 e))
      differs false e = e

  -- where one place alone has each number, the numbers are distinct
  pub distinct : (xs : List X) → ((j k : ℕ) (x y : X) → slice_get xs j ≡ Some x → slice_get xs k ≡ Some y → number x ≡ number y → j ≡ k) → IsDistinct nat_eq (map number xs)
  unfolding IsDistinct
  distinct [] one = tt
  distinct (x ∷ xs) one = (
    others (number x) xs (λ k y at same. (let no = one 0 (suc k) x y refl at same in absurd (omega (arith, no)))),
    distinct xs (λ j k y z e f same. (let is = one (suc j) (suc k) y z e f same in omega (arith, is))),
  )
