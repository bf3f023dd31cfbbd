-- How numbers are spelled in a text, and which bytes are the same.
use Rattle.std.proofs.Common.{◌≡◌, ◌≢◌, ℕ, zero, suc, ◌==◌, ◌<◌, ◌^◌, ◌&&◌, ◌||◌, Bool, true, false, not, List, [], ◌∷◌, ◌++◌, length, get_or, refl, sym, ap, ◌∙◌, arith, decimal}
use Rattle.std.specs.List.{list_all, prefix_len}
use Rattle.std.specs.Char.{is_digit}
use Rattle.std.specs.Str.Parse.{AllDigits, digits_value}
use Rattle.std.proofs.lemmas.Bool.{and_parts, eq-eqb, eqb-true, ne_eqb, lt-ltb, ltb-true, not-true}
use Rattle.std.proofs.lemmas.Fmt.{decimal_is_IsNumeral, decimal_digit, decimal_nonempty, first_decimal, decimal-digits_value}
use Rattle.std.proofs.lemmas.Str.Parse.{numerals_by_value, tells_digits}
use Rattle.verilog_forms.specs.RightSides.{same_bytes, value_of, well_led, is_number}

pub true_false : true ≡ false → ⊥
true_false e = cc

-- the first byte doesn't pass, if there is one
abbrev pub stops : (ℕ → Bool) → List ℕ → Bool
stops p [] = true
stops p (b ∷ bs) = not (p b)

prefix_none : (p : ℕ → Bool) (r : List ℕ) → stops p r ≡ true → prefix_len p r ≡ 0
prefix_none p [] h = refl
prefix_none p (b ∷ r) h = rw (not-true (p b) h) refl

pub prefix_run : (p : ℕ → Bool) (u r : List ℕ) → list_all p u ≡ true → stops p r ≡ true → prefix_len p (u ++ r) ≡ length u
prefix_run p [] r hu hr = prefix_none p r hr
prefix_run p (x ∷ u) r hu hr =
    let parts = and_parts (p x) (list_all p u) hu in
    rw (parts.0, prefix_run p u r parts.1 hr) (omega arith)

abbrev pub digit : ℕ → Bool
digit b = is_digit b 10

digits_pass : (ds : List ℕ) → AllDigits 10 ds → list_all digit ds ≡ true
digits_pass [] h = refl
digits_pass (d ∷ ds) h = rw (lt-ltb _ 10 h.0) (digits_pass ds h.1)

pub all_digits : (ds : List ℕ) → list_all digit ds ≡ true → AllDigits 10 ds
all_digits [] h = tt
all_digits (d ∷ ds) h = let parts = and_parts (digit d) (list_all digit ds) h in (ltb-true _ 10 parts.0, all_digits ds parts.1)

pub decimal_passes : (n : ℕ) → n < 2 ^ 64 → list_all digit (decimal n) ≡ true
decimal_passes n h = digits_pass (decimal n) (decimal_is_IsNumeral n h).0.1

pub same-refl : (bs : List ℕ) → same_bytes bs bs ≡ true
same-refl [] = refl
same-refl (b ∷ bs) = rw (eq-eqb b b refl, same-refl bs) refl

pub same_equal : (cs ds : List ℕ) → same_bytes cs ds ≡ true → cs ≡ ds
same_equal [] [] h = refl
same_equal [] (d ∷ ds) h = absurd (true_false (sym h))
same_equal (c ∷ cs) [] h = absurd (true_false (sym h))
same_equal (c ∷ cs) (d ∷ ds) h =
    let parts = and_parts (c == d) (same_bytes cs ds) h in
    ap (λ (b : ℕ). b ∷ cs) (eqb-true c d parts.0) ∙ ap (λ (bs : List ℕ). d ∷ bs) (same_equal cs ds parts.1)

pub value-decimal : (n : ℕ) → n < 2 ^ 64 → value_of (decimal n) ≡ n
value-decimal n h = (decimal_is_IsNumeral n h).1

-- digits that don't begin with a zero
plain_number : (ds : List ℕ) → list_all digit ds ≡ true → 0 < length ds → get_or ds 0 0 ≢ 48 → is_number ds ≡ true
plain_number [] all some lead = absurd (omega arith)
plain_number (d ∷ ds) all some lead = ap (λ (t : Bool). t && well_led (d ∷ ds)) all ∙ ap (λ (t : Bool). not t || same_bytes ds []) (ne_eqb d 48 lead)

pub number_is : (n : ℕ) → n < 2 ^ 64 → is_number (decimal n) ≡ true
number_is zero h = let e : decimal 0 ≡ 48 ∷ [] = decimal_digit 0 (omega arith) in ap is_number e
number_is (suc n) h =
    plain_number (decimal (suc n)) (decimal_passes (suc n) h) (decimal_nonempty (suc n) h) (λ z. omega (arith, first_decimal (suc n) (omega arith) h, z))

alone : (d : ℕ) (ds : List ℕ) → (not (d == 48) || same_bytes ds []) ≡ true → d ≡ 48 → length (d ∷ ds) ≡ 1
alone d ds h z =
    let none : same_bytes ds [] ≡ true = sym (ap (λ (t : Bool). not t || same_bytes ds []) (eq-eqb d 48 z)) ∙ h in
    ap (λ (t : List ℕ). length (d ∷ t)) (same_equal ds [] none)

-- a number is spelled in one way
pub number_spelled : (run : List ℕ) → is_number run ≡ true → value_of run < 2 ^ 64 → run ≡ decimal (value_of run)
number_spelled [] h small = absurd (true_false (sym h))
number_spelled (d ∷ ds) h small =
    let parts = and_parts (list_all digit (d ∷ ds)) (well_led (d ∷ ds)) h in
    sym (decimal-digits_value (numerals_by_value (AllDigits 10) tells_digits) (d ∷ ds) (all_digits (d ∷ ds) parts.0) (omega arith) (alone d ds parts.1) small)
