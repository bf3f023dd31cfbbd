-- What the holes of a dump's text tell, where they spell a number, a code, a value or a name.
use Rattle.std.proofs.Common.{◌≡◌, ◌≢◌, ℕ, zero, suc, ◌+◌, ◌-◌, ◌*◌, ◌/◌, ◌%◌, ◌^◌, ◌<◌, ◌≤◌, ◌&&◌, Bool, true, false, not, cond, inl, inr, List, [], ◌∷◌, ◌++◌, length, take, drop, Option, Some, None, codes, decimal, refl, sym, ap, ◌∙◌, arith}
use Rattle.std.specs.Prelude.{nat_lt, if◌then◌else◌}
use Rattle.std.specs.List.{list_all, list_any, prefix_len}
use Rattle.std.specs.Str.{bytes_eq}
use Rattle.std.proofs.lemmas.Bool.{lt-ltb, ne_eqb, cases_lt, and_parts}
use Rattle.std.proofs.lemmas.Fmt.{decimal_digit, decimal_step}
use Rattle.std.proofs.lemmas.List.Folds.{list_all-append}
use Rattle.std.proofs.lemmas.Nat.{pow-add}
use Rattle.std.proofs.lemmas.Slice.Eq.{bytes_eq-Decides}
use Rattle.av_base.specs.Word.{word}
use Rattle.netlist.specs.Names.{is_name_byte, IsModuleName, IsPortName}
use Rattle.vcd_text.specs.declared.port.DumpPort.{DumpPort}
use Rattle.vcd_text.specs.Text.{code, binary, binary_digits}
use Rattle.vcd_text.specs.CodeLaws.{code_low, code_high, digits_step}
use Rattle.vcd_reader.specs.declared.rule.Rule.{Rule}
use Rattle.vcd_reader.specs.Found.{Found, told_or, hole}
use Rattle.vcd_reader.specs.Spellings.{is_of_name, is_of_number, is_of_code, number_behind, number_in, module_name_in, port_name_in, port_number, port_in, Spelled, value_in}

-- ---- holes

-- no byte of a run stands in front
abbrev pub stops : (ℕ → Bool) → List ℕ → Bool
stops is_of_run [] = true
stops is_of_run (byte ∷ text) = not (is_of_run byte)

not_true : (t : Bool) → not t ≡ true → t ≡ false
not_true true h = sym h
not_true false h = refl

prefix_none : (p : ℕ → Bool) (rest : List ℕ) → stops p rest ≡ true → prefix_len p rest ≡ 0
prefix_none p [] h = refl
prefix_none p (b ∷ rest) h = rw (not_true (p b) h) refl

prefix_run : (p : ℕ → Bool) (run rest : List ℕ) → list_all p run ≡ true → stops p rest ≡ true → prefix_len p (run ++ rest) ≡ length run
prefix_run p [] rest all stop = prefix_none p rest stop
prefix_run p (x ∷ run) rest all stop =
    let parts = and_parts (p x) (list_all p run) all in
    rw (parts.0, prefix_run p run rest parts.1 stop) (omega arith)

take_front : (run rest : List ℕ) → take (length run) (run ++ rest) ≡ run
take_front [] rest = refl
take_front (x ∷ run) rest = ap (λ (bs : List ℕ). x ∷ bs) (take_front run rest)

drop_front : (run rest : List ℕ) → drop (length run) (run ++ rest) ≡ rest
drop_front [] rest = refl
drop_front (x ∷ run) rest = drop_front run rest

pub hole_read : {A : Type 0} (p : ℕ → Bool) (rule : Rule) (tells : List ℕ → Option A) (run rest : List ℕ) (a : A) → list_all p run ≡ true → stops p rest ≡ true → tells run ≡ Some a
    → hole p rule tells (run ++ rest) ≡ Found.told a rest
unfolding hole
hole_read {A} p rule tells run rest a all stop is =
    ap (λ (n : ℕ). told_or rule (run ++ rest) (drop n (run ++ rest)) (tells (take n (run ++ rest)))) (prefix_run p run rest all stop)
    ∙ ap (λ (bs : List ℕ). told_or rule (run ++ rest) (drop (length run) (run ++ rest)) (tells bs)) (take_front run rest)
    ∙ ap (λ (bs : List ℕ). told_or rule (run ++ rest) bs (tells run)) (drop_front run rest)
    ∙ ap (λ (o : Option A). told_or rule (run ++ rest) rest o) is

-- ---- numbers

behind_more : (radix before : ℕ) (one other : List ℕ) → number_behind radix before (one ++ other) ≡ number_behind radix (number_behind radix before one) other
behind_more radix before [] other = refl
behind_more radix before (digit ∷ one) other = behind_more radix (before * radix + (digit - 48)) one other

decimal_value : (fuel n : ℕ) → n < fuel → n < 2 ^ 64 → number_behind 10 0 (decimal n) ≡ n
decimal_value zero n h few = absurd (omega arith)
decimal_value (suc fuel) n h few =
    elim (cases_lt n 10) [
      | inl low ↦ ap (number_behind 10 0) (decimal_digit n low) ∙ omega arith
      | inr high ↦
          ap (number_behind 10 0) (decimal_step n high few) ∙ behind_more 10 0 (decimal (n / 10)) ((48 + n % 10) ∷ [])
          ∙ ap (λ (b : ℕ). b * 10 + (48 + n % 10 - 48)) (decimal_value fuel (n / 10) (omega arith) (omega arith)) ∙ omega arith
    ]

digit_of_number : (d : ℕ) → d < 10 → is_of_number (48 + d) ≡ true
digit_of_number d h = rw (lt-ltb 47 (48 + d) (omega arith), lt-ltb (48 + d) 58 (omega arith)) refl

one_passes : (p : ℕ → Bool) (b : ℕ) → p b ≡ true → list_all p (b ∷ []) ≡ true
one_passes p b h = rw h refl

both_pass : (p : ℕ → Bool) (one other : List ℕ) → list_all p one ≡ true → list_all p other ≡ true → list_all p (one ++ other) ≡ true
both_pass p one other h g = list_all-append p one other ∙ ap (λ (t : Bool). t && list_all p other) h ∙ g

decimal_digits : (fuel n : ℕ) → n < fuel → n < 2 ^ 64 → list_all is_of_number (decimal n) ≡ true
decimal_digits zero n h few = absurd (omega arith)
decimal_digits (suc fuel) n h few =
    elim (cases_lt n 10) [
      | inl low ↦ ap (list_all is_of_number) (decimal_digit n low) ∙ one_passes is_of_number (48 + n) (digit_of_number n low)
      | inr high ↦
          ap (list_all is_of_number) (decimal_step n high few)
          ∙ both_pass is_of_number (decimal (n / 10)) ((48 + n % 10) ∷ []) (decimal_digits fuel (n / 10) (omega arith) (omega arith)) (one_passes is_of_number (48 + n % 10) (digit_of_number (n % 10) (omega arith)))
    ]

pub decimal_run : (n : ℕ) → n < 2 ^ 64 → list_all is_of_number (decimal n) ≡ true
decimal_run n few = decimal_digits (suc n) n (omega arith) few

number_judged : (above most n v : ℕ) (t : Bool) → t ≡ true → v ≡ n → above < n → n ≤ most → (if t && (nat_lt above v && nat_lt v (most + 1)) then Some v else None) ≡ Some n
number_judged above most n v t spelled value low high =
    ap (λ (t : Bool). cond (t && (nat_lt above v && nat_lt v (most + 1))) (Some v) None) spelled
    ∙ ap (λ (m : ℕ). cond (nat_lt above m && nat_lt m (most + 1)) (Some m) None) value
    ∙ ap (λ (t : Bool). cond (t && nat_lt n (most + 1)) (Some n) None) (lt-ltb above n low)
    ∙ ap (λ (t : Bool). cond t (Some n) None) (lt-ltb n (most + 1) (omega arith))

pub number_read : (above most n : ℕ) → above < n → n ≤ most → n < 2 ^ 64 → number_in above most (decimal n) ≡ Some n
number_read above most n low high few =
    let value = decimal_value (suc n) n (omega arith) few in
    number_judged above most n (number_behind 10 0 (decimal n)) (bytes_eq (decimal n) (decimal (number_behind 10 0 (decimal n))))
    ((bytes_eq-Decides (decimal n) (decimal (number_behind 10 0 (decimal n)))).1 (ap (λ (m : ℕ). decimal m) (sym value))) value low high

-- ---- values

two : (k : ℕ) → 2 ^ suc k ≡ 2 * 2 ^ k
two k = let e : suc k ≡ 1 + k = omega arith in rw e (pow-add 2 1 k)

step : (count n : ℕ) → binary_digits (suc count) (suc n) ≡ binary_digits count (suc n / 2) ++ (48 + suc n % 2) ∷ []
step count n =
    let e : suc count - 1 ≡ count = omega arith in
    digits_step (suc count) (suc n) (λ e. omega arith) (λ e. omega arith) ∙ ap (λ (c : ℕ). binary_digits c (suc n / 2) ++ (48 + suc n % 2) ∷ []) e

binary_value : (count n : ℕ) → n < 2 ^ count → number_behind 2 0 (binary_digits count n) ≡ n
binary_value zero n h = omega arith
binary_value (suc count) zero h = refl
binary_value (suc count) (suc n) h =
    let half = two count in
    ap (number_behind 2 0) (step count n) ∙ behind_more 2 0 (binary_digits count (suc n / 2)) ((48 + suc n % 2) ∷ [])
    ∙ ap (λ (b : ℕ). b * 2 + (48 + suc n % 2 - 48)) (binary_value count (suc n / 2) (omega (arith, half, h))) ∙ omega arith

binary_run : (count n : ℕ) → list_all is_of_number (binary_digits count n) ≡ true
binary_run zero n = refl
binary_run (suc count) zero = refl
binary_run (suc count) (suc n) =
    ap (list_all is_of_number) (step count n)
    ∙ both_pass is_of_number (binary_digits count (suc n / 2)) ((48 + suc n % 2) ∷ []) (binary_run count (suc n / 2)) (one_passes is_of_number (48 + suc n % 2) (digit_of_number (suc n % 2) (omega arith)))

-- digits that spell a number of so many bits
pub record IsBinary (width n : ℕ) (run : List ℕ) : Type 0 where
  pub run_is : list_all is_of_number run ≡ true
  pub tells : value_in width (Spelled.digits run) ≡ Some (word width n)

digits_judged : (width n v : ℕ) (wide spelled fits : Bool) → wide ≡ true → spelled ≡ true → fits ≡ true → v ≡ n → (if wide && (spelled && fits) then Some (word width v) else None) ≡ Some (word width n)
digits_judged width n v wide spelled fits a b c e =
    ap (λ (t : Bool). cond (t && (spelled && fits)) (Some (word width v)) None) a
    ∙ ap (λ (t : Bool). cond (t && fits) (Some (word width v)) None) b
    ∙ ap (λ (t : Bool). cond t (Some (word width v)) None) c
    ∙ ap (λ (m : ℕ). Some (word width m)) e

-- the digits tell the number that they are the binary of
binary_tells : (width n : ℕ) (run : List ℕ) → 2 ≤ width → n < 2 ^ width → run ≡ binary width n → number_behind 2 0 run ≡ n → value_in width (Spelled.digits run) ≡ Some (word width n)
binary_tells width n run wide few is value =
    digits_judged width n (number_behind 2 0 run) (nat_lt 1 width) (bytes_eq run (binary width (number_behind 2 0 run))) (nat_lt (number_behind 2 0 run) (2 ^ width)) (lt-ltb 1 width (omega arith))
    ((bytes_eq-Decides run (binary width (number_behind 2 0 run))).1 (is ∙ ap (λ (m : ℕ). binary width m) (sym value)))
    (lt-ltb (number_behind 2 0 run) (2 ^ width) (omega (arith, value, few))) value

binary_else : (width n : ℕ) → n ≢ 0 → binary width n ≡ binary_digits width n
binary_else width n some = ap (λ (t : Bool). cond t (codes "0") (binary_digits width n)) (ne_eqb n 0 some)

pub binary_read : (width n : ℕ) → 2 ≤ width → n < 2 ^ width → IsBinary width n (binary width n)
binary_read width zero wide few = record { run_is = refl; tells = binary_tells width 0 (codes "0") wide few refl refl }
binary_read width (suc n) wide few =
    let is : binary width (suc n) ≡ binary_digits width (suc n) = binary_else width (suc n) (λ e. omega arith) in
    record {
      run_is = ap (list_all is_of_number) is ∙ binary_run width (suc n);
      tells = binary_tells width (suc n) (binary width (suc n)) wide few refl (ap (number_behind 2 0) is ∙ binary_value width (suc n) few);
    }

-- a value of one bit
pub bit_read : (b : ℕ) → b < 2 → value_in 1 (Spelled.bit (48 + b)) ≡ Some (word 1 b)
bit_read zero h = refl
bit_read (suc zero) h = refl
bit_read (suc (suc b)) h = absurd (omega arith)

-- ---- codes

-- a code has a first byte
pub record HasFirst (run : List ℕ) : Type 0 where
  pub first : ℕ
  pub later : List ℕ
  pub is : run ≡ first ∷ later

code_first : (k : ℕ) → HasFirst (code k)
code_first k = elim (cases_lt k 94) [
  | inl low ↦ record { first = 33 + k % 94; later = []; is = code_low k low }
  | inr high ↦ record { first = 33 + k % 94; later = code (k / 94 - 1); is = code_high k high }
]

code_value : (fuel k : ℕ) → k < fuel → port_number (code k) ≡ k
code_value zero k h = absurd (omega arith)
code_value (suc fuel) k h =
    elim (cases_lt k 94) [
      | inl low ↦ ap port_number (code_low k low) ∙ omega arith
      | inr high ↦
          let j = k / 94 - 1 in
          let front = code_first j in
          ap port_number (code_high k high) ∙ ap (λ (bs : List ℕ). port_number ((33 + k % 94) ∷ bs)) front.is
          ∙ ap (λ (m : ℕ). 33 + k % 94 - 33 + 94 * (m + 1)) (ap port_number (sym front.is) ∙ code_value fuel j (omega arith)) ∙ omega arith
    ]

byte_of_code : (r : ℕ) → r < 94 → is_of_code (33 + r) ≡ true
byte_of_code r h = rw (lt-ltb 32 (33 + r) (omega arith), lt-ltb (33 + r) 127 (omega arith)) refl

code_bytes : (fuel k : ℕ) → k < fuel → list_all is_of_code (code k) ≡ true
code_bytes zero k h = absurd (omega arith)
code_bytes (suc fuel) k h =
    elim (cases_lt k 94) [
      | inl low ↦ ap (list_all is_of_code) (code_low k low) ∙ one_passes is_of_code (33 + k % 94) (byte_of_code (k % 94) (omega arith))
      | inr high ↦
          ap (list_all is_of_code) (code_high k high)
          ∙ ap (λ (t : Bool). t && list_all is_of_code (code (k / 94 - 1))) (byte_of_code (k % 94) (omega arith)) ∙ code_bytes fuel (k / 94 - 1) (omega arith)
    ]

pub code_run : (k : ℕ) → list_all is_of_code (code k) ≡ true
code_run k = code_bytes (suc k) k (omega arith)

pub code_read : (lets_in : ℕ → Bool) (k : ℕ) → lets_in k ≡ true → port_in lets_in (code k) ≡ Some k
code_read lets_in k h =
    let front = code_first k in
    ap (port_in lets_in) front.is
    ∙ ap (λ (m : ℕ). cond (lets_in m) (Some m) None) (ap port_number (sym front.is) ∙ code_value (suc k) k (omega arith))
    ∙ ap (λ (t : Bool). cond t (Some k) None) h

-- ---- names

named : (name : List ℕ) → list_all is_name_byte name ≡ true → list_all is_of_name name ≡ true
named [] h = refl
named (b ∷ name) h = let parts = and_parts (is_name_byte b) (list_all is_name_byte name) h in rw (parts.0, named name parts.1) refl

pub module_run : (name : List ℕ) → IsModuleName name → list_all is_of_name name ≡ true
module_run name is = named name is.bytes

pub module_read : (name : List ℕ) → IsModuleName name → module_name_in name ≡ Some name
module_read name is = rw (is.first, is.bytes, is.suffix) refl

pub port_read : (ports : List DumpPort) (name : List ℕ) → IsPortName name → list_any (λ (port : DumpPort). bytes_eq port.name name) ports ≡ false → port_name_in ports name ≡ Some name
port_read ports name is new = rw (is.first, is.dollar, new) refl
