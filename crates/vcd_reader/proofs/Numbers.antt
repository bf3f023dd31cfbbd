-- Numbers, codes and values as their runs spell them.
use Rattle.std.proofs.Common.{◌≡◌, ◌≢◌, ℕ, zero, suc, ◌+◌, ◌-◌, ◌*◌, ◌/◌, ◌%◌, ◌^◌, ◌<◌, ◌≤◌, ◌==◌, ◌&&◌, ◌||◌, Bool, true, false, not, cond, List, [], ◌∷◌, ◌++◌, length, length-append, get_or, Option, Some, None, codes, decimal, inl, inr, refl, sym, ap, subst, ◌∙◌, append_assoc, append-nil, arith}
use Rattle.std.specs.Prelude.{nat_lt, nat_eq, if◌then◌else◌, IsSome, IfSome}
use Rattle.std.specs.List.{list_all}
use Rattle.std.specs.Str.{bytes_eq}
use Rattle.std.proofs.lemmas.Bool.{ne_eqb, eq-eqb, eqb-true, ltb-true, lt-ltb, le-ltb, and_parts, cases_lt, false≢true}
use Rattle.std.proofs.lemmas.Nat.{pow-add, pow_pos}
use Rattle.std.proofs.lemmas.Fmt.{decimal_digit, decimal_step, first_decimal, length-decimal-le}
use Rattle.std.proofs.lemmas.List.Folds.{list_all-append}
use Rattle.std.proofs.lemmas.Slice.Eq.{bytes_eq-Decides}
use Rattle.std.specs.Cmp.Lexicographic.{pointwise}
use Rattle.av_base.specs.Word.{IsWord}
use Rattle.av_base.specs.Word.{Word, word}
use Rattle.vcd_text.specs.Text.{binary, binary_digits}
use Rattle.vcd_text.specs.CodeLaws.{digits_none, digits_step}
use Rattle.vcd_reader.specs.Spellings.{is_of_number, number_behind, number_in, port_number, port_in, Spelled, is_bit, value_in}
use Rattle.vcd_reader.specs.Reads.{LetsIn, leads}
use Rattle.vcd_reader.proofs.Told.{IsNumberTold, number_told}

-- ---- decimal numbers

grows_by_ten : (before : ℕ) (run : List ℕ) → before ≤ number_behind 10 before run
grows_by_ten before [] = omega arith
grows_by_ten before (digit ∷ digits) = let more = grows_by_ten (before * 10 + (digit - 48)) digits in omega arith

record IsDigit (digit : ℕ) : Type 0 where
  low : 48 ≤ digit
  high : digit < 58

is_digit : (digit : ℕ) → is_of_number digit ≡ true → IsDigit digit
is_digit digit e =
    let both = and_parts (nat_lt 47 digit) (nat_lt digit 58) e in
    record { low = omega (arith, ltb-true 47 digit both.0); high = ltb-true digit 58 both.1 }

digit_on : (before digit : ℕ) → IsDigit digit → 1 ≤ before → before * 10 + (digit - 48) < 2 ^ 64 → decimal (before * 10 + (digit - 48)) ≡ decimal before ++ digit ∷ []
digit_on before digit is some small =
    let low = is.low in
    let high = is.high in
    let front : (before * 10 + (digit - 48)) / 10 ≡ before = omega arith in
    let last : 48 + (before * 10 + (digit - 48)) % 10 ≡ digit = omega arith in
    decimal_step (before * 10 + (digit - 48)) (omega arith) small ∙ ap (λ (b : ℕ). decimal b ++ (48 + (before * 10 + (digit - 48)) % 10) ∷ []) front ∙ ap (λ (b : ℕ). decimal before ++ b ∷ []) last

decimal_on : (before : ℕ) (run : List ℕ) → list_all is_of_number run ≡ true → 1 ≤ before → number_behind 10 before run < 2 ^ 64 → decimal (number_behind 10 before run) ≡ decimal before ++ run
decimal_on before [] all some small = sym (append-nil (decimal before))
decimal_on before (digit ∷ digits) all some small =
    let parts = and_parts (is_of_number digit) (list_all is_of_number digits) all in
    let more = grows_by_ten (before * 10 + (digit - 48)) digits in
    decimal_on (before * 10 + (digit - 48)) digits parts.1 (omega arith) small
    ∙ ap (λ (bs : List ℕ). bs ++ digits) (digit_on before digit (is_digit digit parts.0) some (omega arith))
    ∙ append_assoc (decimal before) (digit ∷ []) digits

not_false : (t : Bool) → not t ≡ true → t ≡ false
not_false true e = cc
not_false false e = refl

differs : (m n : ℕ) → (m == n) ≡ false → m ≢ n
differs m n e same = false≢true (sym e ∙ eq-eqb m n same)

run_is_decimal : (run : List ℕ) → list_all is_of_number run ≡ true → leads run ≡ true → number_behind 10 0 run < 2 ^ 64 → run ≡ decimal (number_behind 10 0 run)
run_is_decimal [] all lead small = absurd (false≢true lead)
run_is_decimal (digit ∷ digits) all lead small =
    let parts = and_parts (is_of_number digit) (list_all is_of_number digits) all in
    let is = is_digit digit parts.0 in
    let low = is.low in
    let high = is.high in
    let other = differs digit 48 (not_false (digit == 48) lead) in
    let first : 0 * 10 + (digit - 48) ≡ digit - 48 = omega arith in
    let back : 48 + (digit - 48) ≡ digit = omega arith in
    let some : 1 ≤ digit - 48 = omega (arith, other) in
    let little = subst (λ (b : ℕ). number_behind 10 b digits < 2 ^ 64) first small in
    let there = decimal_on (digit - 48) digits parts.1 some little in
    sym (
    ap (λ (b : ℕ). decimal (number_behind 10 b digits)) first ∙ there ∙ ap (λ (bs : List ℕ). bs ++ digits) (decimal_digit (digit - 48) (omega arith) ∙ ap (λ (b : ℕ). b ∷ []) back)
    )

number_if : (a b c : Bool) (v : ℕ) → a ≡ true → b ≡ true → c ≡ true → (if a && (b && c) then Some v else None) ≡ Some v
number_if true true true v x y z = refl
number_if true true false v x y z = absurd (false≢true z)
number_if true false c v x y z = absurd (false≢true y)
number_if false b c v x y z = absurd (false≢true x)

pub number_fits : (above most n : ℕ) (run : List ℕ) → list_all is_of_number run ≡ true → leads run ≡ true → n ≡ number_behind 10 0 run → above < n → n ≤ most → most ≤ 65536 → number_in above most run ≡ Some n
number_fits above most n run all lead is low high few =
    let v = number_behind 10 0 run in
    let spelled = run_is_decimal run all lead (omega arith) in
    number_if (bytes_eq run (decimal v)) (nat_lt above v) (nat_lt v (most + 1)) v ((bytes_eq-Decides run (decimal v)).1 spelled) (lt-ltb above v (omega arith)) (lt-ltb v (most + 1) (omega arith))
    ∙ ap Some (sym is)

no_number : (o : Option ℕ) (above most : ℕ) (run : List ℕ) → number_in above most run ≡ o → ((n : ℕ) → ¬ IsNumberTold above most run n) → number_in above most run ≡ None
no_number None above most run e none = e
no_number (Some n) above most run e none = absurd (none n (number_told above most n run e))

leads_by : (run : List ℕ) → 48 < get_or run 0 0 → leads run ≡ true
leads_by [] h = absurd (omega arith)
leads_by (digit ∷ digits) h = ap not (ne_eqb digit 48 (λ e. omega arith))

decimal_leads : (n : ℕ) → 0 < n → n < 2 ^ 64 → leads (decimal n) ≡ true
decimal_leads n some small = leads_by (decimal n) (first_decimal n some small)

pub number_led_badly : (above most : ℕ) (run : List ℕ) → leads run ≡ false → most ≤ 65536 → number_in above most run ≡ None
number_led_badly above most run lead few = no_number (number_in above most run) above most run refl
    (λ n told. (let low = told.low in let high = told.high in false≢true (sym lead ∙ ap leads told.spelled ∙ decimal_leads n (omega arith) (omega arith))))

pub number_long : (above most : ℕ) (run : List ℕ) → 5 < length run → most ≤ 65536 → number_in above most run ≡ None
number_long above most run long few = no_number (number_in above most run) above most run refl
    (λ n told. (let low = told.low in let high = told.high in omega (arith, ap length told.spelled, length-decimal-le 5 n (omega arith) (omega arith) (omega arith))))

number_unless : (a b c : Bool) (v : ℕ) → (b ≡ true → c ≡ true → ⊥) → (if a && (b && c) then Some v else None) ≡ None
number_unless true true true v h = absurd (h refl refl)
number_unless true true false v h = refl
number_unless true false c v h = refl
number_unless false b c v h = refl

pub number_outside : (above most n : ℕ) (run : List ℕ) → n ≡ number_behind 10 0 run → (above < n → n ≤ most → ⊥) → number_in above most run ≡ None
number_outside above most n run is out =
    let v = number_behind 10 0 run in
    number_unless (bytes_eq run (decimal v)) (nat_lt above v) (nat_lt v (most + 1)) v (λ b c. out (omega (arith, ltb-true above v b)) (omega (arith, ltb-true v (most + 1) c)))

-- ---- codes

larger : (byte next : ℕ) (code : List ℕ) (n : ℕ) → n ≤ port_number (next ∷ code) → 94 * (n + 1) ≤ port_number (byte ∷ next ∷ code)
larger byte next code n h = omega arith

pub long_code : (run : List ℕ) → 5 < length run → 2 ^ 32 ≤ port_number run
long_code [] h = absurd (omega arith)
long_code (a ∷ []) h = absurd (omega arith)
long_code (a ∷ b ∷ []) h = absurd (omega arith)
long_code (a ∷ b ∷ c ∷ []) h = absurd (omega arith)
long_code (a ∷ b ∷ c ∷ d ∷ []) h = absurd (omega arith)
long_code (a ∷ b ∷ c ∷ d ∷ e ∷ []) h = absurd (omega arith)
long_code (a ∷ b ∷ c ∷ d ∷ e ∷ f ∷ run) h =
    let one = larger e f run 0 (omega arith) in
    let two = larger d e (f ∷ run) 94 (omega arith) in
    let three = larger c d (e ∷ f ∷ run) 8930 (omega arith) in
    let four = larger b c (d ∷ e ∷ f ∷ run) 839514 (omega arith) in
    let five = larger a b (c ∷ d ∷ e ∷ f ∷ run) 78914410 (omega arith) in
    omega arith

port_if : (t : Bool) (k : ℕ) → t ≡ true → (if t then Some k else None) ≡ Some k
port_if true k e = refl
port_if false k e = absurd (false≢true e)

port_unless : (t : Bool) (k : ℕ) → t ≡ false → (if t then Some k else None) ≡ None
port_unless true k e = absurd (false≢true (sym e))
port_unless false k e = refl

lets : (from below k : ℕ) (t u : Bool) → nat_lt k from ≡ t → nat_lt k below ≡ u → from ≤ k → k < below → (not t && u) ≡ true
lets from below k true u x y low high = absurd (omega (arith, ltb-true k from x))
lets from below k false true x y low high = refl
lets from below k false false x y low high = absurd (false≢true (sym y ∙ lt-ltb k below high))

lets_not : (from below k : ℕ) (t u : Bool) → nat_lt k from ≡ t → nat_lt k below ≡ u → (from ≤ k → k < below → ⊥) → (not t && u) ≡ false
lets_not from below k true u x y out = refl
lets_not from below k false false x y out = refl
lets_not from below k false true x y out =
    elim (cases_lt k from) [
      | inl less ↦ absurd (false≢true (sym x ∙ lt-ltb k from less))
      | inr more ↦ absurd (out more (ltb-true k below y))
    ]

pub port_let_in : (from below k : ℕ) (run : List ℕ) (lets_in : ℕ → Bool) → LetsIn from below lets_in → 0 < length run → k ≡ port_number run → from ≤ k → k < below → Some k ≡ port_in lets_in run
port_let_in from below k [] lets_in only some is low high = absurd (omega arith)
port_let_in from below k (byte ∷ code) lets_in only some is low high =
    let v = port_number (byte ∷ code) in
    ap Some is ∙ sym (port_if (lets_in v) v (only.is v ∙ lets from below v (nat_lt v from) (nat_lt v below) refl refl (omega arith) (omega arith)))

pub port_left_out : (from below : ℕ) (run : List ℕ) (lets_in : ℕ → Bool) → LetsIn from below lets_in → (from ≤ port_number run → port_number run < below → ⊥) → None ≡ port_in lets_in run
port_left_out from below [] lets_in only out = refl
port_left_out from below (byte ∷ code) lets_in only out =
    let v = port_number (byte ∷ code) in
    sym (port_unless (lets_in v) v (only.is v ∙ lets_not from below v (nat_lt v from) (nat_lt v below) refl refl out))

pub no_code : (lets_in : ℕ → Bool) (run : List ℕ) → length run ≡ 0 → None ≡ port_in lets_in run
no_code lets_in [] e = refl
no_code lets_in (byte ∷ code) e = absurd (omega arith)

-- ---- binary digits

-- digits as a number of so many bits has them, other than 0
record IsPlain (width : ℕ) (run : List ℕ) : Type 0 where
  lead : leads run ≡ true
  bits : list_all is_bit run ≡ true
  short : length run ≤ width

bit_of : (d : ℕ) → d < 2 → is_bit (48 + d) ≡ true
bit_of zero h = refl
bit_of (suc zero) h = refl
bit_of (suc (suc d)) h = absurd (omega arith)

leads_on : (run : List ℕ) (last : ℕ) → leads run ≡ true → leads (run ++ last ∷ []) ≡ true
leads_on [] last lead = absurd (false≢true lead)
leads_on (digit ∷ digits) last lead = lead

both_true : (t u : Bool) → t ≡ true → u ≡ true → (t && u) ≡ true
both_true true true x y = refl
both_true true false x y = absurd (false≢true y)
both_true false u x y = absurd (false≢true x)

one_bit : (d : ℕ) → d < 2 → list_all is_bit ((48 + d) ∷ []) ≡ true
one_bit d h = both_true (is_bit (48 + d)) true (bit_of d h) refl

plain_on : (width : ℕ) (run : List ℕ) (d : ℕ) → IsPlain width run → d < 2 → IsPlain (suc width) (run ++ (48 + d) ∷ [])
plain_on width run d is h = record {
  lead = leads_on run (48 + d) is.lead;
  bits = list_all-append is_bit run ((48 + d) ∷ []) ∙ both_true (list_all is_bit run) (list_all is_bit ((48 + d) ∷ [])) is.bits (one_bit d h);
  short = (let s = is.short in omega (arith, length-append run ((48 + d) ∷ [])));
}

plain_one : (width : ℕ) → IsPlain (suc width) (codes "1")
plain_one width = record { lead = refl; bits = refl; short = omega arith }

twice : (k : ℕ) → 2 ^ suc k ≡ 2 * 2 ^ k
twice k = let e : suc k ≡ 1 + k = omega arith in rw e (pow-add 2 1 k)

digits_front : (width n : ℕ) → n ≢ 0 → binary_digits (suc width) n ≡ binary_digits width (n / 2) ++ (48 + n % 2) ∷ []
digits_front width n some =
    let e : suc width - 1 ≡ width = omega arith in
    digits_step (suc width) n (λ e. omega arith) some ∙ ap (λ (c : ℕ). binary_digits c (n / 2) ++ (48 + n % 2) ∷ []) e

digits_plain : (width n : ℕ) → n ≢ 0 → n < 2 ^ width → IsPlain width (binary_digits width n)
digits_plain zero n some small = absurd (some (omega arith))
digits_plain (suc width) n some small =
    elim (cases_lt n 2) [
      | inl low ↦
          let one : n ≡ 1 = omega (arith, some) in
          let half : n / 2 ≡ 0 = omega arith in
          let last : 48 + n % 2 ≡ 49 = omega arith in
          subst (IsPlain (suc width)) (sym (digits_front width n some ∙ ap (λ (h : ℕ). binary_digits width h ++ (48 + n % 2) ∷ []) half
          ∙ ap (λ (bs : List ℕ). bs ++ (48 + n % 2) ∷ []) (digits_none width) ∙ ap (λ (b : ℕ). b ∷ []) last)) (plain_one width)
      | inr high ↦
          let more : n / 2 ≢ 0 = λ e. omega arith in
          let fits : n / 2 < 2 ^ width = omega (arith, twice width) in
          subst (IsPlain (suc width)) (sym (digits_front width n some)) (plain_on width (binary_digits width (n / 2)) (n % 2) (digits_plain width (n / 2) more fits) (omega arith))
    ]

grows_by_two : (before : ℕ) (run : List ℕ) → before ≤ number_behind 2 before run
grows_by_two before [] = omega arith
grows_by_two before (digit ∷ digits) = let more = grows_by_two (before * 2 + (digit - 48)) digits in omega arith

record IsBit (digit : ℕ) : Type 0 where
  low : 48 ≤ digit
  high : digit < 50

is_one_bit : (digit : ℕ) (t u : Bool) → (digit == 48) ≡ t → (digit == 49) ≡ u → (t || u) ≡ true → IsBit digit
is_one_bit digit true u x y e = let z = eqb-true digit 48 x in record { low = omega arith; high = omega arith }
is_one_bit digit false true x y e = let z = eqb-true digit 49 y in record { low = omega arith; high = omega arith }
is_one_bit digit false false x y e = absurd (false≢true e)

bit_on : (count before digit : ℕ) → IsBit digit → 1 ≤ before → binary_digits (suc count) (before * 2 + (digit - 48)) ≡ binary_digits count before ++ digit ∷ []
bit_on count before digit is some =
    let low = is.low in
    let high = is.high in
    let half : (before * 2 + (digit - 48)) / 2 ≡ before = omega arith in
    let last : 48 + (before * 2 + (digit - 48)) % 2 ≡ digit = omega arith in
    digits_front count (before * 2 + (digit - 48)) (λ e. omega arith) ∙ ap (λ (h : ℕ). binary_digits count h ++ (48 + (before * 2 + (digit - 48)) % 2) ∷ []) half
    ∙ ap (λ (b : ℕ). binary_digits count before ++ b ∷ []) last

digits_on : (count before : ℕ) (run : List ℕ) → list_all is_bit run ≡ true → 1 ≤ before → binary_digits (length run + count) (number_behind 2 before run) ≡ binary_digits count before ++ run
digits_on count before [] all some = let none : 0 + count ≡ count = omega arith in ap (λ (c : ℕ). binary_digits c before) none ∙ sym (append-nil (binary_digits count before))
digits_on count before (digit ∷ digits) all some =
    let parts = and_parts (is_bit digit) (list_all is_bit digits) all in
    let is = is_one_bit digit (digit == 48) (digit == 49) refl refl parts.0 in
    let moved : length (digit ∷ digits) + count ≡ length digits + suc count = omega arith in
    ap (λ (c : ℕ). binary_digits c (number_behind 2 (before * 2 + (digit - 48)) digits)) moved
    ∙ digits_on (suc count) (before * 2 + (digit - 48)) digits parts.1 (omega arith)
    ∙ ap (λ (bs : List ℕ). bs ++ digits) (bit_on count before digit is some)
    ∙ append_assoc (binary_digits count before) (digit ∷ []) digits

binary_some : (width n : ℕ) → n ≢ 0 → binary width n ≡ binary_digits width n
binary_some width n some = ap (λ (t : Bool). cond t (codes "0") (binary_digits width n)) (ne_eqb n 0 some)

one_digit : (width : ℕ) → binary_digits (suc width) 1 ≡ codes "1"
one_digit width = digits_front width 1 (λ e. omega arith) ∙ ap (λ (bs : List ℕ). bs ++ codes "1") (digits_none width)

run_is_binary : (width : ℕ) (run : List ℕ) → leads run ≡ true → list_all is_bit run ≡ true → length run ≤ width → run ≡ binary width (number_behind 2 0 run)
run_is_binary width [] lead all short = absurd (false≢true lead)
run_is_binary width (digit ∷ digits) lead all short =
    let parts = and_parts (is_bit digit) (list_all is_bit digits) all in
    let is = is_one_bit digit (digit == 48) (digit == 49) refl refl parts.0 in
    let low = is.low in
    let high = is.high in
    let other = differs digit 48 (not_false (digit == 48) lead) in
    let first : digit ≡ 49 = omega (arith, other) in
    let start : 0 * 2 + (digit - 48) ≡ 1 = omega arith in
    let whole : length digits + suc (width - suc (length digits)) ≡ width = omega arith in
    let grown = grows_by_two 1 digits in
    let some : number_behind 2 1 digits ≢ 0 = λ e. omega arith in
    sym (
    ap (λ (b : ℕ). binary width (number_behind 2 b digits)) start
    ∙ binary_some width (number_behind 2 1 digits) some
    ∙ ap (λ (c : ℕ). binary_digits c (number_behind 2 1 digits)) (sym whole)
    ∙ digits_on (suc (width - suc (length digits))) 1 digits parts.1 (omega arith)
    ∙ ap (λ (bs : List ℕ). bs ++ digits) (one_digit (width - suc (length digits)))
    ∙ ap (λ (d : ℕ). d ∷ digits) (sym first)
    )

value_if : (a b c : Bool) (value : Word) → a ≡ true → b ≡ true → (if a && (b && c) then Some value else None) ≡ (if c then Some value else None)
value_if true true true value x y = refl
value_if true true false value x y = refl
value_if true false c value x y = absurd (false≢true y)
value_if false b c value x y = absurd (false≢true x)

-- digits that lead well and are bits, no more than the width: their value fits, or there is none
pub digits_tell : (width : ℕ) (run : List ℕ) → 1 < width → leads run ≡ true → list_all is_bit run ≡ true → length run ≤ width
    → value_in width (Spelled.digits run) ≡ (if nat_lt (number_behind 2 0 run) (2 ^ width) then Some (word width (number_behind 2 0 run)) else None)
digits_tell width run wide lead all short =
    let n = number_behind 2 0 run in
    value_if (nat_lt 1 width) (bytes_eq run (binary width n)) (nat_lt n (2 ^ width)) (word width n) (lt-ltb 1 width wide) ((bytes_eq-Decides run (binary width n)).1 (run_is_binary width run lead all short))

value_unless : (a b c : Bool) (value : Word) → (b ≡ true → c ≡ true → ⊥) → (if a && (b && c) then Some value else None) ≡ None
value_unless true true true value out = absurd (out refl refl)
value_unless true true false value out = refl
value_unless true false c value out = refl
value_unless false b c value out = refl

plain_run : (width n : ℕ) (run : List ℕ) → run ≢ codes "0" → run ≡ binary width n → n < 2 ^ width → IsPlain width run
plain_run width zero run other is small = absurd (other is)
plain_run width (suc n) run other is small =
    let some : suc n ≢ 0 = λ e. omega arith in
    subst (IsPlain width) (sym (is ∙ binary_some width (suc n) some)) (digits_plain width (suc n) some small)

-- other digits than `0` tell nothing unless they lead well, are bits, and are no more than the width
pub digits_tell_none : (width : ℕ) (run : List ℕ) → run ≢ codes "0" → (leads run ≡ true → list_all is_bit run ≡ true → length run ≤ width → ⊥) → value_in width (Spelled.digits run) ≡ None
digits_tell_none width run other out =
    let n = number_behind 2 0 run in
    value_unless (nat_lt 1 width) (bytes_eq run (binary width n)) (nat_lt n (2 ^ width)) (word width n)
    (λ b c. (let is = plain_run width n run other ((bytes_eq-Decides run (binary width n)).0 b) (ltb-true n (2 ^ width) c) in out is.lead is.bits is.short))

narrow_value : (a t : Bool) (value : Word) → a ≡ false → (if a && t then Some value else None) ≡ None
narrow_value true t value e = absurd (false≢true (sym e))
narrow_value false t value e = refl

pub digits_narrow : (width : ℕ) (run : List ℕ) → width < 2 → value_in width (Spelled.digits run) ≡ None
digits_narrow width run narrow =
    let n = number_behind 2 0 run in
    narrow_value (nat_lt 1 width) (bytes_eq run (binary width n) && nat_lt n (2 ^ width)) (word width n) (le-ltb 1 width (omega arith))

pub zero_tells : (width : ℕ) → 1 < width → value_in width (Spelled.digits (codes "0")) ≡ Some (word width 0)
zero_tells width wide =
    value_if (nat_lt 1 width) true (nat_lt 0 (2 ^ width)) (word width 0) (lt-ltb 1 width wide) refl ∙ ap (λ (t : Bool). if t then Some (word width 0) else None) (lt-ltb 0 (2 ^ width) (pow_pos width))

-- ---- what the code's tests and calls tell

pub not_zero : (run zero_run : List ℕ) (t : Bool) → t ≡ pointwise nat_eq run zero_run → zero_run ≡ 48 ∷ [] → t ≡ false → run ≢ codes "0"
not_zero run zero_run t is zero_is e same = false≢true (sym e ∙ is ∙ ap (λ (xs : List ℕ). pointwise nat_eq run xs) zero_is ∙ ap (λ (xs : List ℕ). pointwise nat_eq xs (48 ∷ [])) same)

pub record AreBits (t : Bool) (n m : ℕ) : Type 0 where
  pub bits : t ≡ true
  pub number : m ≡ n

pub told_bits : (t : Bool) (n m : ℕ) → Some m ≡ (if t then Some n else None) → AreBits t n m
told_bits true n m e = record { bits = refl; number = cc }
told_bits false n m e = cc

pub no_bits : (t : Bool) (n : ℕ) → None ≡ (if t then Some n else None) → t ≡ true → ⊥
no_bits true n e f = cc
no_bits false n e f = false≢true f

pub new_is : (o : Option Word) (w n : ℕ) → (IsSome o → IsWord w n) → (IsWord w n → IsSome o) → IfSome o (λ v. v ≡ word w n) → 1 ≤ w → w ≤ 128 → o ≡ (if nat_lt n (2 ^ w) then Some (word w n) else None)
new_is (Some v) w n fits some is low high = ap Some is ∙ sym (ap (λ (t : Bool). if t then Some (word w n) else None) (lt-ltb n (2 ^ w) (fits refl).fits))
new_is None w n fits some is low high =
    elim (cases_lt n (2 ^ w)) [
      | inl less ↦ absurd (false≢true (some (record { some_bit = low; small = high; fits = less })))
      | inr more ↦ sym (ap (λ (t : Bool). if t then Some (word w n) else None) (le-ltb n (2 ^ w) more))
    ]
