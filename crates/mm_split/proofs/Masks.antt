-- The mask of pieces, as a number and as the list of those that it marks.
use Rattle.std.proofs.Common.{ℕ, zero, suc, ◌<◌, ◌≤◌, ◌≡◌, ◌+◌, ◌-◌, ◌*◌, ◌/◌, ◌%◌, ◌^◌, Bool, true, false, ◌&&◌, List, [], ◌∷◌, ◌++◌, length, filter, if◌then◌else◌, ◌==◌, nat_eq, arith, refl, sym, ap, ap₂, ◌∙◌}
use Rattle.std.proofs.lemmas.List.{length-append}
use Rattle.std.proofs.lemmas.List.Elements.{filter-append}
use Rattle.std.proofs.lemmas.Nat.{pow-add, mod-pow-add, field_of, div-mul-add, pow_pos}
use Rattle.std.proofs.lemmas.Bool.{eqb-true, eqb-false, eq-eqb}
use Rattle.std.proofs.Math.Nat.{pow-suc, mod-eq_of_lt, mul-add-mod_self_right, div-eq_of_lt}
use Rattle.histories.specs.History.{is_raised, one_if, only_if, numbers}
use Rattle.mm_split.specs.Pieces.{lane, is_marked, mask_of, count_of, those, or_first_mask}
use Rattle.memory_links.specs.Splits.{or_first_piece, are_same}
use Rattle.mm_split.proofs.Marks.{mark_is}

-- ---- the mask as a number

pub mask_fits : (test : ℕ → Bool) (k : ℕ) → mask_of test k < 2 ^ k
mask_fits test zero = omega arith
mask_fits test (suc k) = by_test (test k) (mask_fits test k) (pow-suc 2 k)
  where
    by_test : (b : Bool) → mask_of test k < 2 ^ k → 2 ^ suc k ≡ 2 ^ k * 2 → one_if b * 2 ^ k + mask_of test k < 2 ^ suc k
    by_test true h e = omega (arith, h, e)
    by_test false h e = omega (arith, h, e)

-- the bits of a sum below the power
pub low_bits : (x m j k : ℕ) → j ≤ k → (x * 2 ^ k + m) % 2 ^ j ≡ m % 2 ^ j
low_bits x m j k h =
    let split : j + (k - j) ≡ k = omega arith in
    let power : 2 ^ k ≡ 2 ^ j * 2 ^ (k - j) = ap (λ n. 2 ^ n) (sym split) ∙ pow-add 2 j (k - j) in
    let product : x * 2 ^ k ≡ (x * 2 ^ (k - j)) * 2 ^ j = ap (λ n. x * n) power ∙ turned x (2 ^ j) (2 ^ (k - j)) in
    ap (λ n. (n + m) % 2 ^ j) product ∙ mul-add-mod_self_right (x * 2 ^ (k - j)) (2 ^ j) m
  where
    turned : (a b c : ℕ) → a * (b * c) ≡ (a * c) * b
    turned a b c = grind (arith)

-- the mask of fewer pieces is the lower part
least_of : (j k : ℕ) → j ≤ suc k → nat_eq j (suc k) ≡ false → j ≤ k
least_of j k h e = let apart = eqb-false j (suc k) e in omega (arith, h, apart)

lower_step : (test : ℕ → Bool) (k j : ℕ) → j ≤ suc k → (j ≤ k → mask_of test k % 2 ^ j ≡ mask_of test j) → (b : Bool) → nat_eq j (suc k) ≡ b → mask_of test (suc k) % 2 ^ j ≡ mask_of test j
lower_step test k j h rest true e = let same = eqb-true j (suc k) e in ap (λ n. mask_of test (suc k) % 2 ^ n) same ∙ mod-eq_of_lt (mask_fits test (suc k)) ∙ sym (ap (mask_of test) same)
lower_step test k j h rest false e = let less = least_of j k h e in low_bits (one_if (test k)) (mask_of test k) j k less ∙ rest less

lower_mask : (test : ℕ → Bool) (k j : ℕ) → j ≤ k → mask_of test k % 2 ^ j ≡ mask_of test j
lower_mask test zero zero h = omega arith
lower_mask test zero (suc j) h = absurd (omega (arith, h))
lower_mask test (suc k) j h = lower_step test k j h (λ less. lower_mask test k j less) (nat_eq j (suc k)) refl

next_power : (n k : ℕ) → n % 2 ^ suc k ≡ n % 2 ^ (1 + k)
next_power n k = ap (λ i. n % 2 ^ i) (omega arith)

same_low : (n m j : ℕ) → n % 2 ^ suc j ≡ m % 2 ^ suc j → lane 1 n j ≡ lane 1 m j
same_low n m j e =
    let one : j * 1 ≡ j = omega arith in
    let of_n : n / 2 ^ j % 2 ^ 1 ≡ n % 2 ^ suc j / 2 ^ j = sym (field_of n 1 j) ∙ ap (λ x. x / 2 ^ j) (sym (next_power n j)) in
    let of_m : m / 2 ^ j % 2 ^ 1 ≡ m % 2 ^ suc j / 2 ^ j = sym (field_of m 1 j) ∙ ap (λ x. x / 2 ^ j) (sym (next_power m j)) in
    ap (λ i. n / 2 ^ i % 2 ^ 1) one ∙ of_n ∙ ap (λ x. x / 2 ^ j) e ∙ sym of_m ∙ ap (λ i. m / 2 ^ i % 2 ^ 1) (sym one)

highest : (x m j : ℕ) → x < 2 → m < 2 ^ j → lane 1 (x * 2 ^ j + m) j ≡ x
highest x m j small h =
    let one : j * 1 ≡ j = omega arith in
    ap (λ i. (x * 2 ^ j + m) / 2 ^ i % 2 ^ 1) one ∙ ap (λ n. n % 2 ^ 1) (div-mul-add x (2 ^ j) m h) ∙ omega (arith, small)

one_small : (b : Bool) → one_if b < 2
one_small true = omega arith
one_small false = omega arith

raised_one : (b : Bool) → is_raised (one_if b) ≡ b
raised_one true = refl
raised_one false = refl

-- the mask marks what is meant
pub marks : (test : ℕ → Bool) (k j : ℕ) → j < k → is_marked (mask_of test k) j ≡ test j
marks test k j h =
    ap is_raised (same_low (mask_of test k) (mask_of test (suc j)) j (lower_mask test k (suc j) (omega arith) ∙ sym (mod-eq_of_lt (mask_fits test (suc j)))) ∙ highest (one_if (test j)) (mask_of test j) j (one_small (test j)) (mask_fits test j))
    ∙ raised_one (test j)

-- a number is the mask of its bits
pub mask_whole : (mask k : ℕ) → mask_of (is_marked mask) k ≡ mask % 2 ^ k
mask_whole mask zero = omega arith
mask_whole mask (suc k) =
    let one : k * 1 ≡ k = omega arith in
    let top : one_if (is_marked mask k) ≡ mask / 2 ^ k % 2 ^ 1 = sym (mark_is mask k) ∙ ap (λ i. mask / 2 ^ i % 2 ^ 1) one in
    ap₂ (λ x y. x * 2 ^ k + y) top (mask_whole mask k) ∙ sym (mod-pow-add mask 1 k) ∙ sym (next_power mask k)

-- ---- the list

pub numbers_end : (from k : ℕ) → numbers from (suc k) ≡ numbers from k ++ (from + k) ∷ []
numbers_end from zero = ap (λ n. n ∷ []) (omega arith)
numbers_end from (suc k) = ap (λ l. from ∷ l) (numbers_end (suc from) k ∙ ap (λ n. numbers (suc from) k ++ n ∷ []) (omega arith))

pub those_are : (test : ℕ → Bool) (k : ℕ) → filter test (numbers 0 k) ≡ those test k
those_are test zero = refl
those_are test (suc k) = ap (filter test) (numbers_end 0 k ∙ ap (λ n. numbers 0 k ++ n ∷ []) (omega arith)) ∙ filter-append test (numbers 0 k) (k ∷ []) ∙ ap₂ (λ x y. x ++ y) (those_are test k) (by_test (test k))
  where
    by_test : (b : Bool) → (if b then k ∷ [] else []) ≡ only_if b k
    by_test true = refl
    by_test false = refl

pub those_same : (test other : ℕ → Bool) (k : ℕ) → ((j : ℕ) → j < k → test j ≡ other j) → those test k ≡ those other k
those_same test other zero h = refl
those_same test other (suc k) h = ap₂ (λ x b. x ++ only_if b k) (those_same test other k (λ j less. h j (omega arith))) (h k (omega arith))

pub those_count : (test : ℕ → Bool) (k : ℕ) → length (those test k) ≡ count_of test k
those_count test zero = refl
those_count test (suc k) = length-append (those test k) (only_if (test k) k) ∙ ap₂ (λ x y. x + y) (those_count test k) (by_test (test k))
  where
    by_test : (b : Bool) → length (only_if b k) ≡ one_if b
    by_test true = refl
    by_test false = refl

-- the mask, told by the list
abbrev sum_of : List ℕ → ℕ
sum_of [] = 0
sum_of (x ∷ xs) = 2 ^ x + sum_of xs

sum_append : (xs ys : List ℕ) → sum_of (xs ++ ys) ≡ sum_of xs + sum_of ys
sum_append [] ys = omega arith
sum_append (x ∷ xs) ys = let rest = sum_append xs ys in omega (arith, rest)

mask_sum : (test : ℕ → Bool) (k : ℕ) → mask_of test k ≡ sum_of (those test k)
mask_sum test zero = refl
mask_sum test (suc k) = ap₂ (λ x y. x + y) (by_test (test k)) (mask_sum test k) ∙ omega arith ∙ sym (sum_append (those test k) (only_if (test k) k))
  where
    by_test : (b : Bool) → one_if b * 2 ^ k ≡ sum_of (only_if b k)
    by_test true = omega arith
    by_test false = omega arith

-- equal lists have equal masks
pub same_masks : (one other k : ℕ) → one < 2 ^ k → other < 2 ^ k → those (is_marked one) k ≡ those (is_marked other) k → one ≡ other
same_masks one other k h g e =
    sym (mod-eq_of_lt h) ∙ sym (mask_whole one k) ∙ mask_sum (is_marked one) k ∙ ap sum_of e ∙ sym (mask_sum (is_marked other) k) ∙ mask_whole other k ∙ mod-eq_of_lt g

same_as_itself : (xs : List ℕ) → are_same xs xs ≡ true
same_as_itself [] = refl
same_as_itself (x ∷ xs) = rw (eq-eqb x x refl) (same_as_itself xs)

same_first : (x y : ℕ) (xs ys : List ℕ) → (are_same xs ys ≡ true → xs ≡ ys) → (b : Bool) → nat_eq x y ≡ b → (b && are_same xs ys) ≡ true → x ∷ xs ≡ y ∷ ys
same_first x y xs ys same true is rest = ap₂ (λ a l. a ∷ l) (eqb-true x y is) (same rest)
same_first x y xs ys same false is rest = cc

same_lists : (xs ys : List ℕ) → are_same xs ys ≡ true → xs ≡ ys
same_lists [] [] e = refl
same_lists [] (y ∷ ys) e = cc
same_lists (x ∷ xs) [] e = cc
same_lists (x ∷ xs) (y ∷ ys) e = same_first x y xs ys (same_lists xs ys) (nat_eq x y) refl e

apart_lists : (one other k : ℕ) → one < 2 ^ k → other < 2 ^ k → (one ≡ other → ⊥) → (b : Bool) → are_same (those (is_marked one) k) (those (is_marked other) k) ≡ b → b ≡ false
apart_lists one other k h g apart true same = absurd (apart (same_masks one other k h g (same_lists _ _ same)))
apart_lists one other k h g apart false same = refl

-- whether two lists are the same, by their masks
pub same_by_masks : (one other k : ℕ) → one < 2 ^ k → other < 2 ^ k → are_same (those (is_marked one) k) (those (is_marked other) k) ≡ nat_eq one other
same_by_masks one other k h g = by_mask (nat_eq one other) refl
  where
    by_mask : (b : Bool) → nat_eq one other ≡ b → are_same (those (is_marked one) k) (those (is_marked other) k) ≡ b
    by_mask true e = ap (λ m. are_same (those (is_marked one) k) (those (is_marked m) k)) (sym (eqb-true one other e)) ∙ same_as_itself (those (is_marked one) k)
    by_mask false e = apart_lists one other k h g (eqb-false one other e) (are_same (those (is_marked one) k) (those (is_marked other) k)) refl

-- ---- the first piece where none is meant

none_counted : (test : ℕ → Bool) (k : ℕ) → mask_of test k ≡ 0 → count_of test k ≡ 0
none_counted test zero h = refl
none_counted test (suc k) h = by_test (test k) h (none_counted test k) (pow_pos k)
  where
    by_test : (b : Bool) → one_if b * 2 ^ k + mask_of test k ≡ 0 → (mask_of test k ≡ 0 → count_of test k ≡ 0) → 0 < 2 ^ k → count_of test k + one_if b ≡ 0
    by_test true e rest some = absurd (omega (arith, e, some))
    by_test false e rest some = let r = rest (omega (arith, e)) in omega (arith, r)

none_marked : (test : ℕ → Bool) (k : ℕ) → count_of test k ≡ 0 → mask_of test k ≡ 0
none_marked test zero h = refl
none_marked test (suc k) h = by_test (test k) h (none_marked test k)
  where
    by_test : (b : Bool) → count_of test k + one_if b ≡ 0 → (count_of test k ≡ 0 → mask_of test k ≡ 0) → one_if b * 2 ^ k + mask_of test k ≡ 0
    by_test true e rest = absurd (omega (arith, e))
    by_test false e rest = let r = rest (omega (arith, e)) in omega (arith, r)

one_marked : (j : ℕ) → is_marked 1 (suc j) ≡ false
one_marked j =
    let power : 2 ^ suc j ≡ 2 ^ j * 2 = pow-suc 2 j in
    let some = pow_pos j in
    let one : suc j * 1 ≡ suc j = omega arith in
    let none : 1 / 2 ^ suc j ≡ 0 = div-eq_of_lt (omega (arith, power, some)) in
    ap (λ i. is_raised (1 / 2 ^ i % 2 ^ 1)) one ∙ ap (λ n. is_raised (n % 2 ^ 1)) none

first_alone : (k : ℕ) → those (is_marked 1) (suc k) ≡ 0 ∷ []
first_alone zero = refl
first_alone (suc k) = ap₂ (λ x b. x ++ only_if b (suc k)) (first_alone k) (one_marked k)

nonempty : (xs : List ℕ) → (length xs ≡ 0 → ⊥) → or_first_piece xs ≡ xs
nonempty [] h = absurd (h refl)
nonempty (x ∷ xs) h = refl

empty : (xs : List ℕ) → length xs ≡ 0 → or_first_piece xs ≡ 0 ∷ []
empty [] h = refl
empty (x ∷ xs) h = absurd (omega (arith, h))

pub those_or_first : (test : ℕ → Bool) (k : ℕ) → 1 ≤ k → those (is_marked (or_first_mask (mask_of test k))) k ≡ or_first_piece (those test k)
those_or_first test k some = by_mask (mask_of test k == 0) refl
  where
    by_mask : (b : Bool) → (mask_of test k == 0) ≡ b → those (is_marked (if b then 1 else mask_of test k)) k ≡ or_first_piece (those test k)
    by_mask true e =
        let last : k ≡ suc (k - 1) = omega arith in
        ap (those (is_marked 1)) last ∙ first_alone (k - 1) ∙ sym (empty (those test k) (those_count test k ∙ none_counted test k (eqb-true (mask_of test k) 0 e)))
    by_mask false e =
        those_same (is_marked (mask_of test k)) test k (marks test k)
        ∙ sym (nonempty (those test k) (λ none. eqb-false (mask_of test k) 0 e (none_marked test k (sym (those_count test k) ∙ none))))
