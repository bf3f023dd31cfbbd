-- Lanes of a beat that words of another end cover.
use Rattle.std.proofs.Common.{ℕ, zero, suc, ◌<◌, ◌≤◌, ◌≡◌, ◌+◌, ◌*◌, ◌/◌, ◌^◌, ◌-◌, [], ◌∷◌, ◌++◌, List, Bool, true, false, ◌||◌, nat_lt, arith, refl, sym, ap, ◌∙◌, subst, filter, flat_map}
use Rattle.std.specs.List.{list_any}
use Rattle.std.proofs.lemmas.Bool.{ltb-true, ltb-false}
use Rattle.std.proofs.lemmas.Nat.{pow_pos, pow-add}
use Rattle.std.proofs.Math.Nat.{div_self, mul-div_cancel}
use Rattle.std.proofs.Math.Pow.{pow-lt}
use Rattle.histories.specs.History.{numbers}
use Rattle.memory_runs.specs.Views.{Shape}
use Rattle.memory_runs.specs.Plan.{IsPowerOfTwo}
use Rattle.memory_runs.specs.Operations.{is_enabled, filled_lanes, filled_of_piece, lanes_of_piece, pieces, piece_bytes}
use Rattle.memory_machines.specs.Link.{is_nonempty}
use Rattle.memory_waits.specs.Fits.{FitsPieces}

numbers_split : (first one other : ℕ) → numbers first (one + other) ≡ numbers first one ++ numbers (first + one) other
numbers_split first zero other =
    let none : zero + other ≡ other = omega arith in
    let same : first + zero ≡ first = omega arith in
    ap (numbers first) none ∙ ap (λ n. numbers n other) (sym same)
numbers_split first (suc one) other =
    let more : suc one + other ≡ suc (one + other) = omega arith in
    let same : suc first + one ≡ first + suc one = omega arith in
    ap (numbers first) more ∙ ap (λ l. first ∷ l) (numbers_split (suc first) one other ∙ ap (λ n. numbers (suc first) one ++ numbers n other) same)

any_append : (f : ℕ → Bool) (xs ys : List ℕ) → list_any f (xs ++ ys) ≡ (list_any f xs || list_any f ys)
any_append f [] ys = refl
any_append f (x ∷ xs) ys = by_first (f x) (any_append f xs ys)
  where
    by_first : (b : Bool) → list_any f (xs ++ ys) ≡ (list_any f xs || list_any f ys) → (b || list_any f (xs ++ ys)) ≡ ((b || list_any f xs) || list_any f ys)
    by_first true e = refl
    by_first false e = e

some_kept : (f : ℕ → Bool) (xs : List ℕ) → list_any f xs ≡ true → is_nonempty (filter f xs) ≡ true
some_kept f [] some = some
some_kept f (x ∷ xs) some = by_first (f x) refl (some_kept f xs)
  where
    by_first : (b : Bool) → f x ≡ b → (list_any f xs ≡ true → is_nonempty (filter f xs) ≡ true) → is_nonempty (filter f (x ∷ xs)) ≡ true
    by_first true e ih = rw e refl
    by_first false e ih = rw e (ih (ap (λ b. b || list_any f xs) (sym e) ∙ some))

some_there : (f : ℕ → Bool) (xs : List ℕ) → list_any f xs ≡ true → is_nonempty xs ≡ true
some_there f [] some = some
some_there f (x ∷ xs) some = refl

nonempty_front : {A : Type 0} (xs ys : List A) → is_nonempty xs ≡ true → is_nonempty (xs ++ ys) ≡ true
nonempty_front [] ys some = cc
nonempty_front (x ∷ xs) ys some = refl

nonempty_back : {A : Type 0} (xs ys : List A) → is_nonempty ys ≡ true → is_nonempty (xs ++ ys) ≡ true
nonempty_back [] ys some = some
nonempty_back (x ∷ xs) ys some = refl

module _ (from to : Shape) (enables : ℕ) where
  piece_filled : (piece : ℕ) → list_any (is_enabled enables) (lanes_of_piece from to piece) ≡ true → is_nonempty (filled_of_piece from to enables piece) ≡ true
  piece_filled piece some = by_has to.has_enables refl
    where
      by_has : (b : Bool) → to.has_enables ≡ b → is_nonempty (filled_of_piece from to enables piece) ≡ true
      by_has true has = rw has (some_kept (is_enabled enables) (lanes_of_piece from to piece) some)
      by_has false has = rw has (rw some (some_there (is_enabled enables) (lanes_of_piece from to piece) some))

  filled_from : (count piece : ℕ) → list_any (is_enabled enables) (numbers (piece * piece_bytes from to) (count * piece_bytes from to)) ≡ true → is_nonempty (flat_map (filled_of_piece from to enables) (numbers piece count)) ≡ true
  filled_from zero piece some =
      let none : zero * piece_bytes from to ≡ 0 = omega arith in
      sym (ap (λ n. list_any (is_enabled enables) (numbers (piece * piece_bytes from to) n)) none) ∙ some
  filled_from (suc count) piece some = by_first (list_any (is_enabled enables) (lanes_of_piece from to piece)) refl (filled_from count (suc piece))
    where
      size : ℕ
      size = piece_bytes from to

      sum : suc count * size ≡ size + count * size
      sum = more count size
        where
          more : (n k : ℕ) → suc n * k ≡ k + n * k
          more n k = omega arith

      next : piece * size + size ≡ suc piece * size
      next = more piece size
        where
          more : (n k : ℕ) → n * k + k ≡ suc n * k
          more n k = omega arith

      split : (list_any (is_enabled enables) (lanes_of_piece from to piece) || list_any (is_enabled enables) (numbers (suc piece * size) (count * size))) ≡ true
      split =
          sym (ap (λ n. list_any (is_enabled enables) (numbers (piece * size) n)) sum
          ∙ ap (list_any (is_enabled enables)) (numbers_split (piece * size) size (count * size))
          ∙ any_append (is_enabled enables) (lanes_of_piece from to piece) (numbers (piece * size + size) (count * size))
          ∙ ap (λ n. list_any (is_enabled enables) (lanes_of_piece from to piece) || list_any (is_enabled enables) (numbers n (count * size))) next) ∙ some

      by_first : (b : Bool) → list_any (is_enabled enables) (lanes_of_piece from to piece) ≡ b →
          (list_any (is_enabled enables) (numbers (suc piece * size) (count * size)) ≡ true → is_nonempty (flat_map (filled_of_piece from to enables) (numbers (suc piece) count)) ≡ true) → is_nonempty (flat_map (filled_of_piece from to enables) (numbers piece (suc count))) ≡ true
      by_first true e rest = nonempty_front (filled_of_piece from to enables piece) (flat_map (filled_of_piece from to enables) (numbers (suc piece) count)) (piece_filled piece e)
      by_first false e rest =
          nonempty_back (filled_of_piece from to enables piece) (flat_map (filled_of_piece from to enables) (numbers (suc piece) count))
          (rest (ap (λ b. b || list_any (is_enabled enables) (numbers (suc piece * size) (count * size))) (sym e) ∙ split))

  -- an enabled lane is filled
  pub enabled_is_filled : FitsPieces from to → list_any (is_enabled enables) (numbers 0 from.word_bytes) ≡ true → is_nonempty (filled_lanes from to enables) ≡ true
  enabled_is_filled fits some = filled_from (pieces from to) 0 (ap (λ n. list_any (is_enabled enables) (numbers n (pieces from to * piece_bytes from to))) (none (piece_bytes from to)) ∙ ap (λ n. list_any (is_enabled enables) (numbers 0 n)) fits ∙ some)
    where
      none : (n : ℕ) → 0 * n ≡ 0
      none n = omega arith

bits_below : (small large : ℕ) → 2 ^ small ≤ 2 ^ large → small ≤ large
bits_below small large low = by_test (nat_lt large small) refl
  where
    by_test : (b : Bool) → nat_lt large small ≡ b → small ≤ large
    by_test true less = let more = pow-lt (ltb-true large small less) in absurd (omega (arith, low, more))
    by_test false less = let few = ltb-false large small less in omega (arith, few)

-- a power of two is some times each that isn't larger
times_smaller : (small large : ℕ) → IsPowerOfTwo small → IsPowerOfTwo large → small ≤ large → (times : ℕ) × (large ≡ times * small)
times_smaller small large one two few =
    let fits : 2 ^ one.0 ≤ 2 ^ two.0 = subst (λ n. n ≤ 2 ^ two.0) one.1 (subst (λ n. small ≤ n) two.1 few) in
    let bits = bits_below one.0 two.0 fits in
    let sum : two.0 ≡ (two.0 - one.0) + one.0 = omega (arith, bits) in
    (2 ^ (two.0 - one.0), two.1 ∙ ap (λ n. 2 ^ n) sum ∙ pow-add 2 (two.0 - one.0) one.0 ∙ ap (λ n. 2 ^ (two.0 - one.0) * n) (sym one.1))

some_bytes : (size : ℕ) → IsPowerOfTwo size → 0 < size
some_bytes size power = subst (λ n. 0 < n) (sym power.1) (pow_pos power.0)

-- so words of such sizes fit
pub powers_fit : (from to : Shape) → IsPowerOfTwo from.word_bytes → IsPowerOfTwo to.word_bytes → FitsPieces from to
powers_fit from to one other = by_size (nat_lt from.word_bytes to.word_bytes) refl
  where
    by_size : (b : Bool) → nat_lt from.word_bytes to.word_bytes ≡ b → FitsPieces from to
    by_size true e =
        let less = ltb-true from.word_bytes to.word_bytes e in
        let least : piece_bytes from to ≡ from.word_bytes = omega (arith, less) in
        ap (λ n. from.word_bytes / n * n) least ∙ ap (λ n. n * from.word_bytes) (div_self (some_bytes from.word_bytes one)) ∙ once from.word_bytes
      where
        once : (n : ℕ) → 1 * n ≡ n
        once n = omega arith
    by_size false e =
        let few = ltb-false from.word_bytes to.word_bytes e in
        let least : piece_bytes from to ≡ to.word_bytes = omega (arith, few) in
        let times = times_smaller to.word_bytes from.word_bytes other one few in
        ap (λ n. from.word_bytes / n * n) least ∙ ap (λ n. n / to.word_bytes * to.word_bytes) times.1
        ∙ ap (λ n. n * to.word_bytes) (mul-div_cancel times.0 (some_bytes to.word_bytes other)) ∙ sym times.1
