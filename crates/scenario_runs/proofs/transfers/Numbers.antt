-- Numbers as they are spelled, and read back.
use Rattle.std.proofs.Common.{◌≡◌, ℕ, zero, suc, ◌+◌, ◌*◌, ◌/◌, ◌%◌, ◌^◌, ◌<◌, ◌≤◌, ◌==◌, ◌&&◌, Bool, true, false, inl, inr, List, [], ◌∷◌, ◌++◌, length, get_or, decimal, refl, ap, ◌∙◌, length-append, arith}
use Rattle.std.specs.List.{list_all}
use Rattle.std.proofs.lemmas.Bool.{lt-ltb, le-ltb, le-leb, ne_eqb, and_parts, cases_lt}
use Rattle.std.proofs.Math.Bool.{or-true}
use Rattle.std.proofs.lemmas.Bool.Decides.{nat_tests}
use Rattle.std.proofs.lemmas.Fmt.{decimal_digit, decimal_step, first_decimal, decimal_nonempty}
use Rattle.std.proofs.lemmas.List.Folds.{list_all-append}
use Rattle.waves.specs.Digits.{is_decimal, is_digit, digit_value, number_behind}
use Rattle.verilog_writer.specs.Text.{hex_digit, hex_digits}
use Rattle.waves.specs.Words.{is_filled}
use Rattle.waves.specs.Spelling.{is_hexadecimal, hexadecimal_in, is_count, count_in}
use Rattle.scenario_runs.proofs.transfers.Cutting.{is_solid, IsWord}

pub both_pass : (p : ℕ → Bool) (one other : List ℕ) → list_all p one ≡ true → list_all p other ≡ true → list_all p (one ++ other) ≡ true
both_pass p one other h g = list_all-append p one other ∙ ap (λ (t : Bool). t && list_all p other) h ∙ g

one_passes : (p : ℕ → Bool) (b : ℕ) → p b ≡ true → list_all p (b ∷ []) ≡ true
one_passes p b h = rw h refl

pub behind_more : (radix before : ℕ) (one other : List ℕ) → number_behind radix before (one ++ other) ≡ number_behind radix (number_behind radix before one) other
behind_more radix before [] other = refl
behind_more radix before (digit ∷ one) other = behind_more radix (before * radix + digit_value digit) one other

-- ---- digits

digit_of : (d : ℕ) → d < 10 → hex_digit d ≡ 48 + d
digit_of d h = rw (lt-ltb d 10 h) refl

letter_of : (d : ℕ) → 10 ≤ d → hex_digit d ≡ 87 + d
letter_of d h = rw (le-ltb d 10 h) refl

low_value : (d : ℕ) → d < 10 → digit_value (48 + d) ≡ d
low_value d h = rw (lt-ltb (48 + d) 58 (omega arith)) (omega arith)

high_value : (d : ℕ) → 10 ≤ d → digit_value (87 + d) ≡ d
high_value d h = rw (le-ltb (87 + d) 58 (omega arith)) (omega arith)

hex_value : (d : ℕ) → digit_value (hex_digit d) ≡ d
hex_value d = elim (cases_lt d 10) [
  | inl low ↦ ap digit_value (digit_of d low) ∙ low_value d low
  | inr high ↦ ap digit_value (letter_of d high) ∙ high_value d high
]

low_digit : (d : ℕ) → d < 10 → is_digit (48 + d) ≡ true
low_digit d h = rw (lt-ltb 47 (48 + d) (omega arith), lt-ltb (48 + d) 58 (omega arith)) refl

low_decimal : (d : ℕ) → d < 10 → is_decimal (48 + d) ≡ true
low_decimal d h = rw (lt-ltb 47 (48 + d) (omega arith), lt-ltb (48 + d) 58 (omega arith)) refl

high_digit : (d : ℕ) → 10 ≤ d → d < 16 → is_digit (87 + d) ≡ true
high_digit d h l = rw (lt-ltb 47 (87 + d) (omega arith), le-ltb (87 + d) 58 (omega arith), lt-ltb 96 (87 + d) (omega arith), lt-ltb (87 + d) 103 (omega arith)) refl

hex_is_digit : (d : ℕ) → d < 16 → is_digit (hex_digit d) ≡ true
hex_is_digit d h = elim (cases_lt d 10) [
  | inl low ↦ ap is_digit (digit_of d low) ∙ low_digit d low
  | inr high ↦ ap is_digit (letter_of d high) ∙ high_digit d high h
]

-- ---- hexadecimal numbers

pub length-hex_digits : (k n : ℕ) → length (hex_digits k n) ≡ k
length-hex_digits zero n = refl
length-hex_digits (suc k) n = length-append (hex_digits k (n / 16)) (hex_digit (n % 16) ∷ []) ∙ omega (arith, length-hex_digits k (n / 16))

pub hexes_are_digits : (k n : ℕ) → list_all is_digit (hex_digits k n) ≡ true
hexes_are_digits zero n = refl
hexes_are_digits (suc k) n =
    both_pass is_digit (hex_digits k (n / 16)) (hex_digit (n % 16) ∷ []) (hexes_are_digits k (n / 16)) (one_passes is_digit (hex_digit (n % 16)) (hex_is_digit (n % 16) (omega arith)))

sixteen_more : (k : ℕ) → 16 ^ suc k ≡ 16 * 16 ^ k
sixteen_more k = omega arith

shifted : (before k more n : ℕ) → more ≡ 16 * k → (before * k + n / 16) * 16 + n % 16 ≡ before * more + n
shifted before k more n e = rw e (omega arith)

-- behind a number, so many digits of another
pub hexes_behind : (before k n : ℕ) → n < 16 ^ k → number_behind 16 before (hex_digits k n) ≡ before * 16 ^ k + n
hexes_behind before zero n h = omega arith
hexes_behind before (suc k) n h =
    let more = sixteen_more k in
    let front : number_behind 16 before (hex_digits k (n / 16)) ≡ before * 16 ^ k + n / 16 = hexes_behind before k (n / 16) (omega (arith, more, h)) in
    behind_more 16 before (hex_digits k (n / 16)) (hex_digit (n % 16) ∷ [])
    ∙ ap (λ (m : ℕ). m * 16 + digit_value (hex_digit (n % 16))) front
    ∙ ap (λ (d : ℕ). (before * 16 ^ k + n / 16) * 16 + d) (hex_value (n % 16))
    ∙ shifted before (16 ^ k) (16 ^ suc k) n more

-- ---- words of digits

digit_is_solid : (byte : ℕ) → is_digit byte ≡ true → is_solid byte ≡ true
digit_is_solid byte h = grind (arith, nat_tests)

pub digits_are_solid : (text : List ℕ) → list_all is_digit text ≡ true → list_all is_solid text ≡ true
digits_are_solid [] h = refl
digits_are_solid (byte ∷ text) h =
    let parts = and_parts (is_digit byte) (list_all is_digit text) h in
    rw (digit_is_solid byte parts.0, digits_are_solid text parts.1) refl

filled : (text : List ℕ) → 0 < length text → is_filled text ≡ true
filled [] h = absurd (omega arith)
filled (byte ∷ text) h = refl

pub digits_are_word : (text : List ℕ) → list_all is_digit text ≡ true → 0 < length text → IsWord text
digits_are_word text all some = record { solid = digits_are_solid text all; some = filled text some }

pub is_spelled : (text : List ℕ) → list_all is_digit text ≡ true → 0 < length text → length text ≤ 32 → is_hexadecimal text ≡ true
unfolding is_hexadecimal
is_spelled text all some few = rw (lt-ltb 0 (length text) some, le-leb (length text) 32 few, all) refl

pub hex_read : (k n : ℕ) → n < 16 ^ k → hexadecimal_in (hex_digits k n) ≡ n
unfolding hexadecimal_in
hex_read k n h = hexes_behind 0 k n h ∙ omega arith

-- ---- decimal numbers

decimal_value : (fuel n : ℕ) → n < fuel → n < 2 ^ 64 → number_behind 10 0 (decimal n) ≡ n
decimal_value zero n h few = absurd (omega arith)
decimal_value (suc fuel) n h few =
    elim (cases_lt n 10) [
      | inl low ↦ ap (number_behind 10 0) (decimal_digit n low) ∙ omega (arith, low_value n low)
      | inr high ↦
          ap (number_behind 10 0) (decimal_step n high few) ∙ behind_more 10 0 (decimal (n / 10)) ((48 + n % 10) ∷ [])
          ∙ ap (λ (b : ℕ). b * 10 + digit_value (48 + n % 10)) (decimal_value fuel (n / 10) (omega arith) (omega arith))
          ∙ ap (λ (d : ℕ). n / 10 * 10 + d) (low_value (n % 10) (omega arith)) ∙ omega arith
    ]

decimal_digits : (fuel n : ℕ) → n < fuel → n < 2 ^ 64 → list_all is_decimal (decimal n) ≡ true
decimal_digits zero n h few = absurd (omega arith)
decimal_digits (suc fuel) n h few =
    elim (cases_lt n 10) [
      | inl low ↦ ap (list_all is_decimal) (decimal_digit n low) ∙ one_passes is_decimal (48 + n) (low_decimal n low)
      | inr high ↦
          ap (list_all is_decimal) (decimal_step n high few)
          ∙ both_pass is_decimal (decimal (n / 10)) ((48 + n % 10) ∷ []) (decimal_digits fuel (n / 10) (omega arith) (omega arith)) (one_passes is_decimal (48 + n % 10) (low_decimal (n % 10) (omega arith)))
    ]

decimals_are_digits : (text : List ℕ) → list_all is_decimal text ≡ true → list_all is_digit text ≡ true
decimals_are_digits [] h = refl
decimals_are_digits (byte ∷ text) h =
    let parts = and_parts (is_decimal byte) (list_all is_decimal text) h in
    rw (parts.0, decimals_are_digits text parts.1) refl

pub decimal_is_word : (n : ℕ) → n < 2 ^ 64 → IsWord (decimal n)
decimal_is_word n few = digits_are_word (decimal n) (decimals_are_digits (decimal n) (decimal_digits (suc n) n (omega arith) few)) (decimal_nonempty n few)

leads : (text : List ℕ) → 48 < get_or text 0 0 → get_or text 0 0 == 48 ≡ false
leads text h = ne_eqb (get_or text 0 0) 48 (λ e. omega arith)

pub count_is_spelled : (n : ℕ) → 0 < n → n < 2 ^ 64 → is_count (decimal n) ≡ true
unfolding is_count
count_is_spelled n some few =
    rw (lt-ltb 0 (length (decimal n)) (decimal_nonempty n few), decimal_digits (suc n) n (omega arith) few, leads (decimal n) (first_decimal n some few)) (or-true (length (decimal n) == 1))

pub count_read : (n : ℕ) → n < 2 ^ 64 → count_in (decimal n) ≡ n
unfolding count_in
count_read n few = decimal_value (suc n) n (omega arith) few
