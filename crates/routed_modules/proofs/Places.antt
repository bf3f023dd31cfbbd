-- Where parts stand in lists.
use Rattle.std.proofs.Common.{◌≡◌, ◌⊎◌, inl, inr, ℕ, zero, suc, ◌+◌, ◌*◌, ◌<◌, ◌≤◌, List, [], ◌∷◌, ◌++◌, length, length-append, slice_get, Some, None, refl, sym, ap, subst, ◌∙◌, arith}
use Rattle.std.proofs.lemmas.Bool.{cases_lt}
use Rattle.histories.specs.History.{before}
use Rattle.routed_modules.specs.Drivers.{StandsAt}

pub get_front : {A : Type 0} (xs ys : List A) (k : ℕ) (x : A) → slice_get xs k ≡ Some x → slice_get (xs ++ ys) k ≡ Some x
get_front [] ys k x e = absurd (let n : None ≡ Some x = e in cc)
get_front (y ∷ xs) ys zero x e = e
get_front (y ∷ xs) ys (suc k) x e = get_front xs ys k x e

pub get_behind : {A : Type 0} (xs ys : List A) (k : ℕ) → slice_get (xs ++ ys) (length xs + k) ≡ slice_get ys k
get_behind [] ys k = let n : 0 + k ≡ k = omega arith in rw n refl
get_behind (x ∷ xs) ys k = let n : suc (length xs) + k ≡ suc (length xs + k) = omega arith in rw n (get_behind xs ys k)

pub stands : {A : Type 0} (whole part : List A) (place j n : ℕ) (item : A) → StandsAt whole place part → slice_get part j ≡ Some item → n ≡ place + j → slice_get whole n ≡ Some item
stands whole part place j n item at is e = subst (λ m. slice_get whole m ≡ Some item) (sym e) (at j item is)

pub stands_front : {A : Type 0} (xs ys : List A) → StandsAt (xs ++ ys) 0 xs
stands_front xs ys j item is = let n : 0 + j ≡ j = omega arith in subst (λ m. slice_get (xs ++ ys) m ≡ Some item) (sym n) (get_front xs ys j item is)

-- in front of more
pub stands_first : {A : Type 0} (xs ys part : List A) (place : ℕ) → StandsAt xs place part → StandsAt (xs ++ ys) place part
stands_first xs ys part place at j item is = get_front xs ys (place + j) item (at j item is)

pub stands_whole : {A : Type 0} (xs : List A) → StandsAt xs 0 xs
stands_whole xs j item is = let n : 0 + j ≡ j = omega arith in subst (λ m. slice_get xs m ≡ Some item) (sym n) is

pub stands_behind : {A : Type 0} (xs ys part : List A) (place : ℕ) → StandsAt ys place part → StandsAt (xs ++ ys) (length xs + place) part
stands_behind xs ys part place at j item is =
    let n : length xs + place + j ≡ length xs + (place + j) = omega arith in
    subst (λ m. slice_get (xs ++ ys) m ≡ Some item) (sym n) (get_behind xs ys (place + j) ∙ at j item is)

pub stands_as : {A : Type 0} (whole part : List A) (place other : ℕ) → place ≡ other → StandsAt whole place part → StandsAt whole other part
stands_as whole part place other e at = subst (λ m. StandsAt whole m part) e at

-- ---- groups of one size in a row

module _ {A : Type 0} (group : ℕ → List A) (size : ℕ) (sized : (n : ℕ) → length (group n) ≡ size) where
  pub length_before : (count : ℕ) → length (before group count) ≡ size * count
  length_before zero = omega arith
  length_before (suc count) =
      let front = length_before count in
      let last = sized count in
      let whole = length-append (before group count) (group count) in
      let more : size * suc count ≡ size * count + size = omega arith in
      omega (arith, front, last, whole, more)

  pub stands_in : (count k : ℕ) → k < count → StandsAt (before group count) (size * k) (group k)
  stands_in zero k lt = absurd (omega (arith, lt))
  stands_in (suc count) k lt = by_place (λ less. stands_in count k less) (cases_lt k count)
    where
      by_place : (k < count → StandsAt (before group count) (size * k) (group k)) → (k < count) ⊎ (count ≤ k) → StandsAt (before group (suc count)) (size * k) (group k)
      by_place earlier (inl less) j item is = get_front (before group count) (group count) (size * k + j) item (earlier less j item is)
      by_place earlier (inr more) j item is =
          let same : k ≡ count = omega (arith, lt, more) in
          let here : length (before group count) ≡ size * k = length_before count ∙ ap (λ n. size * n) (sym same) in
          subst (λ n. slice_get (before group (suc count)) (n + j) ≡ Some item) here
          (get_behind (before group count) (group count) j ∙ subst (λ n. slice_get (group n) j ≡ Some item) same is)
