-- How large numbers of many decimal digits are, and the bytes of one pair of digits after another.
use Rattle.std.proofs.Common.{◌≡◌, ℕ, ◌+◌, ◌*◌, ◌/◌, ◌<◌, ◌≤◌, Bool, true, false, not, cond, nat_le, List, [], ◌∷◌, ◌++◌, length, drop, get_or, Some, None, append_assoc, refl, sym, ap, ◌∙◌, arith}
use Rattle.std.specs.Prelude.{◌==◌, ◌||◌, nat_lt}
use Rattle.std.specs.List.{list_all}
use Rattle.std.proofs.lemmas.Bool.{and_parts}
use Rattle.std.proofs.lemmas.Bool.Decides.{nat_tests}
use Rattle.std.proofs.lemmas.List.{drop_more, append-nil, length-drop}
use Rattle.waves.specs.Digits.{is_decimal, digit_value, number_behind}
use Rattle.waves.specs.Spelling.{is_count, count_in, bytes_in}

-- digits behind a number make none that is less
no_less : (before : ℕ) (text : List ℕ) → before ≤ number_behind 10 before text
no_less before [] = omega arith
no_less before (digit ∷ rest) = let more = no_less (before * 10 + digit_value digit) rest in omega arith

-- a number of six digits and more, the first of which is no zero, is that large
six_digits : (text : List ℕ) → 5 < length text → 1 ≤ digit_value (get_or text 0 0) → 100000 ≤ number_behind 10 0 text
six_digits (a ∷ b ∷ c ∷ d ∷ e ∷ f ∷ rest) h v =
    let least = no_less ((((((0 * 10 + digit_value a) * 10 + digit_value b) * 10 + digit_value c) * 10 + digit_value d) * 10 + digit_value e) * 10 + digit_value f) rest in
    omega arith
six_digits [] h v = absurd (omega arith)
six_digits (a ∷ []) h v = absurd (omega arith)
six_digits (a ∷ b ∷ []) h v = absurd (omega arith)
six_digits (a ∷ b ∷ c ∷ []) h v = absurd (omega arith)
six_digits (a ∷ b ∷ c ∷ d ∷ []) h v = absurd (omega arith)
six_digits (a ∷ b ∷ c ∷ d ∷ e ∷ []) h v = absurd (omega arith)

-- a decimal digit other than zero
above_zero : (byte : ℕ) → is_decimal byte ≡ true → (byte == 48) ≡ false → 1 ≤ digit_value byte
above_zero byte d z = grind (arith, nat_tests)

first_decimal : (text : List ℕ) → 0 < length text → list_all is_decimal text ≡ true → is_decimal (get_or text 0 0) ≡ true
first_decimal [] h a = absurd (omega arith)
first_decimal (byte ∷ rest) h a = (and_parts (is_decimal byte) _ a).0

no_zero : (n : ℕ) (zero_first : Bool) → 5 < n → (n == 1 || not zero_first) ≡ true → zero_first ≡ false
no_zero n zero_first h e = grind (arith, nat_tests)

-- so it is above each that has five digits at most
pub too_large : (text : List ℕ) (greatest : ℕ) → 5 < length text → is_count text ≡ true → greatest < 100000 → None ≡ cond (nat_le (count_in text) greatest) (Some (count_in text)) None
unfolding is_count count_in
too_large text greatest h c small =
    let parts = and_parts (nat_lt 0 (length text)) _ c in
    let rest = and_parts (list_all is_decimal text) _ parts.1 in
    let first = above_zero (get_or text 0 0) (first_decimal text (omega arith) rest.0) (no_zero (length text) (get_or text 0 0 == 48) h rest.1) in
    let large = six_digits text h first in
    grind (arith, nat_tests)

-- ---- pairs of digits

pub next_pair : (text bytes : List ℕ) (k : ℕ) → k < length text / 2 → bytes_in text ≡ bytes ++ bytes_in (drop (2 * k) text)
    → bytes_in text ≡ (bytes ++ (digit_value (get_or text (2 * k) 0) * 16 + digit_value (get_or text (2 * k + 1) 0)) ∷ []) ++ bytes_in (drop (2 * (k + 1)) text)
next_pair text bytes k h e =
    let one : drop (2 * k) text ≡ get_or text (2 * k) 0 ∷ drop (2 * k + 1) text = drop_more text (2 * k) 0 (omega arith) in
    let other : drop (2 * k + 1) text ≡ get_or text (2 * k + 1) 0 ∷ drop (2 * k + 1 + 1) text = drop_more text (2 * k + 1) 0 (omega arith) in
    let next : 2 * k + 1 + 1 ≡ 2 * (k + 1) = omega arith in
    e ∙ ap (λ xs. bytes ++ bytes_in xs) (one ∙ ap (λ xs. get_or text (2 * k) 0 ∷ xs) (other ∙ ap (λ n. get_or text (2 * k + 1) 0 ∷ drop n text) next)) ∙ sym (append_assoc bytes _ _)

none_in : (text : List ℕ) → length text ≤ 1 → bytes_in text ≡ []
none_in [] h = refl
none_in (high ∷ []) h = refl
none_in (high ∷ low ∷ rest) h = absurd (omega arith)

pub no_pair : (text bytes : List ℕ) (k : ℕ) → length text / 2 ≤ k → bytes_in text ≡ bytes ++ bytes_in (drop (2 * k) text) → bytes ≡ bytes_in text
no_pair text bytes k h e =
    let long = length-drop (2 * k) text in
    let none = none_in (drop (2 * k) text) (omega arith) in
    sym (e ∙ ap (λ xs. bytes ++ xs) none ∙ append-nil bytes)
