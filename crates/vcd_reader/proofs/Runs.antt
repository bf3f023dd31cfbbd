-- Loops over the digits and codes of runs, and names as text.
use Rattle.std.proofs.Common.{◌≡◌, ℕ, zero, suc, ◌+◌, ◌-◌, ◌*◌, ◌^◌, ◌<◌, ◌≤◌, ◌&&◌, ◌||◌, Bool, true, false, cond, List, [], ◌∷◌, ◌++◌, length, take, drop, get_or, Option, Some, None, refl, sym, ap, ◌∙◌, arith}
use Rattle.std.specs.Prelude.{nat_lt, if◌then◌else◌, All}
use Rattle.std.specs.List.{list_all, list_any, prefix_len}
use Rattle.std.specs.Str.{bytes_eq, IsUtf8}
use Rattle.std.proofs.Math.Seq.{drop-cons}
use Rattle.std.proofs.Math.Pow.{pow_mono}
use Rattle.std.proofs.lemmas.Bool.{ltb-true, and_parts, false≢true}
use Rattle.std.proofs.lemmas.Bool.Decides.{nat_tests}
use Rattle.std.proofs.lemmas.Nat.{pow-add}
use Rattle.std.proofs.lemmas.List.Elements.{All-cons, All-nil}
use Rattle.std.proofs.lemmas.List.Folds.{list_any-append}
use Rattle.std.proofs.lemmas.Str.{IsUtf8-from_ascii}
use Rattle.std.proofs.lemmas.Str.Ascii.{IsAscii-from_all}
use Rattle.vcd_text.specs.declared.port.DumpPort.{DumpPort}
use Rattle.vcd_reader.specs.Spellings.{is_of_name, is_of_number, is_of_code, number_behind, port_number, is_bit}
use Rattle.vcd_reader.specs.Reads.{Names, has_name, AreNamed}

pub here : (bytes : List ℕ) (at : ℕ) → at < length bytes → drop at bytes ≡ get_or bytes at 0 ∷ drop (at + 1) bytes
here bytes at inside = let one : suc at ≡ at + 1 = omega arith in drop-cons bytes at 0 inside ∙ ap (λ (k : ℕ). get_or bytes at 0 ∷ drop k bytes) one

-- ---- decimal digits

pub ten_more : (i : ℕ) → 10 ^ (i + 1) ≡ 10 ^ i * 10
ten_more i = pow-add 10 i 1

pub small_ten : (i : ℕ) → i < 5 → 10 ^ i ≤ 10000
small_ten zero h = omega arith
small_ten (suc zero) h = omega arith
small_ten (suc (suc zero)) h = omega arith
small_ten (suc (suc (suc zero))) h = omega arith
small_ten (suc (suc (suc (suc zero)))) h = omega arith
small_ten (suc (suc (suc (suc (suc i))))) h = absurd (omega arith)

pub record DigitAt (digits : List ℕ) (i : ℕ) : Type 0 where
  pub low : 48 ≤ get_or digits i 0
  pub high : get_or digits i 0 < 58
  pub others : list_all is_of_number (drop (i + 1) digits) ≡ true
  pub number : (before : ℕ) → number_behind 10 before (drop i digits) ≡ number_behind 10 (before * 10 + (get_or digits i 0 - 48)) (drop (i + 1) digits)

pub digit_at : (digits : List ℕ) (i : ℕ) → i < length digits → list_all is_of_number (drop i digits) ≡ true → DigitAt digits i
digit_at digits i inside all =
    let is = here digits i inside in
    let digit = get_or digits i 0 in
    let parts = and_parts (is_of_number digit) (list_all is_of_number (drop (i + 1) digits)) (sym (ap (list_all is_of_number) is) ∙ all) in
    let both = and_parts (nat_lt 47 digit) (nat_lt digit 58) parts.0 in
    record {
      low = omega (arith, ltb-true 47 digit both.0);
      high = ltb-true digit 58 both.1;
      others = parts.1;
      number = λ before. ap (number_behind 10 before) is;
    }

-- ---- binary digits

-- what bits tell behind a number; none where one is no bit
abbrev pub bits_told : ℕ → List ℕ → Option ℕ
bits_told before run = if list_all is_bit run then Some (number_behind 2 before run) else None

bits_by : (t u : Bool) (n : ℕ) → t ≡ true → (if t && u then Some n else None) ≡ (if u then Some n else None)
bits_by true u n e = refl
bits_by false u n e = absurd (false≢true e)

pub bit_more : (run : List ℕ) (i before : ℕ) → i < length run → is_bit (get_or run i 0) ≡ true → bits_told before (drop i run) ≡ bits_told (before * 2 + (get_or run i 0 - 48)) (drop (i + 1) run)
bit_more run i before inside bit =
    ap (bits_told before) (here run i inside)
    ∙ bits_by (is_bit (get_or run i 0)) (list_all is_bit (drop (i + 1) run)) (number_behind 2 (before * 2 + (get_or run i 0 - 48)) (drop (i + 1) run)) bit

bits_not : (t u : Bool) (n : ℕ) → t ≡ false → (if t && u then Some n else None) ≡ None
bits_not true u n e = absurd (false≢true (sym e))
bits_not false u n e = refl

pub no_bit : (run : List ℕ) (i before : ℕ) → i < length run → is_bit (get_or run i 0) ≡ false → bits_told before (drop i run) ≡ None
no_bit run i before inside bit =
    ap (bits_told before) (here run i inside)
    ∙ bits_not (is_bit (get_or run i 0)) (list_all is_bit (drop (i + 1) run)) (number_behind 2 (before * 2 + (get_or run i 0 - 48)) (drop (i + 1) run)) bit

pub two_more : (i : ℕ) → 2 ^ (i + 1) ≡ 2 ^ i * 2
two_more i = pow-add 2 i 1

pub small_two : (i : ℕ) → i < 128 → 2 ^ (i + 1) ≤ 2 ^ 128
small_two i h = pow_mono {i = i + 1} {j = 128} (omega arith)

-- ---- codes

pub record CodeFront (byte : ℕ) (rest : List ℕ) : Type 0 where
  pub low : 33 ≤ byte
  pub high : byte < 127
  pub others : list_all is_of_code rest ≡ true

pub code_front : (byte : ℕ) (rest : List ℕ) → list_all is_of_code (byte ∷ rest) ≡ true → CodeFront byte rest
code_front byte rest all =
    let parts = and_parts (is_of_code byte) (list_all is_of_code rest) all in
    let both = and_parts (nat_lt 32 byte) (nat_lt byte 127) parts.0 in
    record { low = omega (arith, ltb-true 32 byte both.0); high = ltb-true byte 127 both.1; others = parts.1 }

pub port_more : (byte : ℕ) (rest : List ℕ) → 0 < length rest → port_number (byte ∷ rest) ≡ byte - 33 + 94 * (port_number rest + 1)
port_more byte [] some = absurd (omega arith)
port_more byte (next ∷ rest) some = refl

pub many_more : (i : ℕ) → 256 ^ (i + 1) ≡ 256 ^ i * 256
many_more i = pow-add 256 i 1

pub small_many : (i : ℕ) → i < 5 → 256 ^ i ≤ 4294967296
small_many zero h = omega arith
small_many (suc zero) h = omega arith
small_many (suc (suc zero)) h = omega arith
small_many (suc (suc (suc zero))) h = omega arith
small_many (suc (suc (suc (suc zero)))) h = omega arith
small_many (suc (suc (suc (suc (suc i))))) h = absurd (omega arith)

-- ---- names

prefix_tested : (p : ℕ → Bool) (x : ℕ) (xs : List ℕ) (t : Bool) → p x ≡ t → list_all p (take (prefix_len p xs) xs) ≡ true → list_all p (take (cond t (1 + prefix_len p xs) 0) (x ∷ xs)) ≡ true
prefix_tested p x xs true e more =
    let one : 1 + prefix_len p xs ≡ suc (prefix_len p xs) = omega arith in
    ap (λ (k : ℕ). list_all p (take k (x ∷ xs))) one ∙ ap (λ (t : Bool). t && list_all p (take (prefix_len p xs) xs)) e ∙ more
prefix_tested p x xs false e more = refl

pub prefix_passes : (p : ℕ → Bool) (xs : List ℕ) → list_all p (take (prefix_len p xs) xs) ≡ true
prefix_passes p [] = refl
prefix_passes p (x ∷ xs) = prefix_tested p x xs (p x) refl (prefix_passes p xs)

name_byte_small : (b : ℕ) → is_of_name b ≡ true → b < 128
name_byte_small b e = grind (arith, nat_tests)

all_small : (run : List ℕ) → list_all is_of_name run ≡ true → All (λ b. b < 128) run
all_small [] e = All-nil (λ b. b < 128)
all_small (b ∷ run) e =
    let parts = and_parts (is_of_name b) (list_all is_of_name run) e in
    All-cons (λ c. c < 128) b run (name_byte_small b parts.0) (all_small run parts.1)

pub run_utf8 : (run : List ℕ) → list_all is_of_name run ≡ true → IsUtf8 run
run_utf8 run e = IsUtf8-from_ascii run (IsAscii-from_all run (all_small run e))

chosen : (t u : Bool) → cond t true u ≡ (u || (t || false))
chosen true true = refl
chosen true false = refl
chosen false true = refl
chosen false false = refl

-- the set with the name of one more port
pub names_more : (ports : List DumpPort) (port : DumpPort) (bytes : List ℕ) (old new : Names) → bytes ≡ port.name → ((name : List ℕ) → has_name new name ≡ cond (bytes_eq bytes name) true (has_name old name)) → AreNamed ports old
    → AreNamed (ports ++ port ∷ []) new
names_more ports port bytes old new is changed are = λ name.
    (
    let test = λ (other : DumpPort). bytes_eq other.name name in
    changed name
    ∙ ap (λ (b : List ℕ). cond (bytes_eq b name) true (has_name old name)) is
    ∙ ap (λ (t : Bool). cond (bytes_eq port.name name) true t) (are name)
    ∙ chosen (bytes_eq port.name name) (list_any test ports)
    ∙ sym (list_any-append test ports (port ∷ []))
    )
