-- Words in rising order: what a search finds, and what a word stored in its place leaves.
use Rattle.std.proofs.Common.{◌≡◌, ◌≢◌, ℕ, zero, suc, ◌<◌, ◌≤◌, inl, inr, nat_eq, List, [], ◌∷◌, length, get_or, slice_set, replicate, Result, Ok, Err, IfOk, IfErr, if◌then◌else◌, refl, sym, ap, arith}
use Rattle.std.specs.List.{insert, HoldsAt}
use Rattle.std.specs.List.Sorted.{IsBinarySearchResult, IsNonDecreasingBy, IsPartitionPoint}
use Rattle.std.specs.Ordering.{nat_cmp, ordering_index}
use Rattle.std.proofs.lemmas.Bool.{cases_lt}
use Rattle.std.proofs.lemmas.Bool.Decides.{nat_tests}
use Rattle.std.proofs.lemmas.Cmp.{ranked}
use Rattle.stand_ins.specs.declared.memory.StoredWord.{StoredWord}
use Rattle.stand_ins.specs.Memory.{bytes_of_word, AreRising}

-- ---- what a search finds

module _ (words : List StoredWord) (rising : AreRising words) (number : ℕ) where
  numbers_rise : (i j : ℕ) (d : StoredWord) → i ≤ j → j < length words → (get_or words i d).number ≤ (get_or words j d).number
  numbers_rise i j d order within = grind (arith, rising i j d, λ (same : i ≡ j). ap (λ k. (get_or words k d).number) same)

  -- the comparisons with a number rise along the words, as a search by halves asks
  comparisons_rise : IsNonDecreasingBy (λ (word : StoredWord). ordering_index (nat_cmp word.number number)) words
  comparisons_rise i j d order within =
      let rise = numbers_rise i j d order within in
      grind (arith, nat_tests)

  pub found : (r : Result ℕ ℕ) → IsBinarySearchResult (λ (word : StoredWord). nat_cmp word.number number) words r → IfOk r (HoldsAt (λ word. word.number ≡ number) words)
  found (Ok place) equal = λ d. ranked _ number _ (sym (equal d))
  found (Err place) parted = tt

  pub missing : (r : Result ℕ ℕ) → IsBinarySearchResult (λ (word : StoredWord). nat_cmp word.number number) words r
      → IfErr r (IsPartitionPoint (λ word. word.number < number) (λ word. number < word.number) words)
  missing (Ok place) equal = tt
  missing (Err place) parted =
      let parts = parted comparisons_rise in
      (λ k d low below. ranked _ number _ (sym (parts.0 k d low below)), λ k d low below. ranked _ number _ (sym (parts.1 k d low below)))

-- ---- the bytes of a word

-- no word before a place has a number
abbrev NoneBefore : List StoredWord → ℕ → ℕ → Type 0
NoneBefore words number place = (k : ℕ) (d : StoredWord) → k < place → (get_or words k d).number ≢ number

none_behind : (first : StoredWord) (words : List StoredWord) (number place : ℕ) → NoneBefore (first ∷ words) number (suc place) → NoneBefore words number place
none_behind first words number place none k d less = none (suc k) d (omega arith)

none_is : (words : List StoredWord) (number : ℕ) → NoneBefore words number (length words) → bytes_of_word words number ≡ replicate 16 0
none_is [] number none = refl
none_is (first ∷ words) number none = grind (arith, nat_tests, none 0 first (omega arith), none_is words number (none_behind first words number _ none))

one_is : (words : List StoredWord) (number place : ℕ) (d : StoredWord) → place < length words → (get_or words place d).number ≡ number → NoneBefore words number place → bytes_of_word words number ≡ (get_or words place d).bytes
one_is [] number place d within is none = absurd (omega (arith, within))
one_is (first ∷ words) number zero d within is none = grind (arith, nat_tests, is)
one_is (first ∷ words) number (suc place) d within is none =
    grind (arith, nat_tests, none 0 d (omega arith), one_is words number place d (omega arith) is (none_behind first words number place none))

-- what is stored where one word is
abbrev pub IsStored : List StoredWord → List StoredWord → StoredWord → Type 0
IsStored words after word = (number : ℕ) → bytes_of_word after number ≡ (if nat_eq word.number number then word.bytes else bytes_of_word words number)

put_over : (words : List StoredWord) (word : StoredWord) (place : ℕ) → place < length words → HoldsAt (λ one. one.number ≡ word.number) words place → NoneBefore words word.number place → IsStored words (slice_set words place word) word
put_over [] word place within is none number = absurd (omega (arith, within))
put_over (first ∷ words) word zero within is none number = grind (arith, nat_tests, is first)
put_over (first ∷ words) word (suc place) within is none number =
    grind (arith, nat_tests, none 0 first (omega arith), put_over words word place (omega arith) is (none_behind first words word.number place none) number)

put_between : (words : List StoredWord) (word : StoredWord) (place : ℕ) → NoneBefore words word.number place → IsStored words (insert words place word) word
put_between words word zero none number = refl
put_between [] word (suc place) none number = refl
put_between (first ∷ words) word (suc place) none number =
    grind (arith, nat_tests, none 0 first (omega arith), put_between words word place (none_behind first words word.number place none) number)

module _ (words : List StoredWord) (rising : AreRising words) (place : ℕ) (within : place < length words) where
  lower_before : (number : ℕ) → HoldsAt (λ word. word.number ≡ number) words place → NoneBefore words number place
  lower_before number is k d less same = omega (arith, rising k place d less within, is d)

  pub bytes_found : (number : ℕ) → HoldsAt (λ word. word.number ≡ number) words place → (d : StoredWord) → bytes_of_word words number ≡ (get_or words place d).bytes
  bytes_found number is d = one_is words number place d within (is d) (lower_before number is)

  pub stored_over : (word : StoredWord) → HoldsAt (λ one. one.number ≡ word.number) words place → IsStored words (slice_set words place word) word
  stored_over word is = put_over words word place within is (lower_before word.number is)

module _ (words : List StoredWord) (number place : ℕ) (fits : place ≤ length words) (parted : IsPartitionPoint (λ (word : StoredWord). word.number < number) (λ word. number < word.number) words place) where
  none_has : NoneBefore words number (length words)
  none_has k d less same = elim (cases_lt k place) [
    | inl below ↦ omega (arith, parted.0 k d (omega arith) below)
    | inr above ↦ omega (arith, parted.1 k d above less)
  ]

  pub bytes_missing : bytes_of_word words number ≡ replicate 16 0
  bytes_missing = none_is words number none_has

  -- a word is stored before those with higher numbers, wherever that is
  pub stored_between : (bytes : List ℕ) (at : ℕ) → at ≤ place → IsStored words (insert words at (record { number = number; bytes = bytes })) (record { number = number; bytes = bytes })
  stored_between bytes at order = put_between words (record { number = number; bytes = bytes }) at (λ k d less. none_has k d (omega arith))
