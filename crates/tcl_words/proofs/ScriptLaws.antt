-- The laws of whole files.
use Rattle.std.proofs.Common.{◌≡◌, ℕ, zero, suc, ◌<◌, ◌≤◌, Bool, true, false, ◌==◌, cond, ltb, List, [], ◌∷◌, length, take, refl, sym, ap, ◌∙◌, inl, inr, ◌⊎◌, arith, Option, Some, None}
use Rattle.std.specs.Prelude.{IsUtf8, Contains, Result, Ok, Err}
use Rattle.std.specs.List.{position_or_len}
use Rattle.std.specs.Str.{is_utf8}
use Rattle.std.specs.Str.Lossy.{utf8_valid_len, valid_len_up_to}
use Rattle.std.proofs.lemmas.Bool.{ltb-false, le-ltb, eqb-true, eq-eqb, cases_lt, true≢false}
use Rattle.std.proofs.lemmas.List.{take_all}
use Rattle.std.proofs.lemmas.List.Sums.{passes_at_first, fails_before_first}
use Rattle.std.proofs.lemmas.Str.{IsUtf8-nil, IsUtf8-from_is_utf8, utf8_valid_len-IsUtf8}
use Rattle.tcl_words.specs.declared.rule.Rule.TheVariants.{NotUtf8, ZeroByte}
use Rattle.tcl_words.specs.declared.words.Word.{Word}
use Rattle.tcl_words.specs.Script.{Script, place_after}
use Rattle.tcl_words.specs.Reading.{Flaw, Fault, commands_of, encoding_flaw, fault_of, first_fault, first_word_fault}
use Rattle.tcl_words.specs.Spelling.{Spells}
use Rattle.tcl_words.proofs.Runs.{chosen}
use Rattle.tcl_words.proofs.Scripts.{commands-again, commands-take}

-- ---- the encoding

valid_at : (b : Bool) (n m : ℕ) → m ≤ n → cond b (suc n) m ≤ suc n
valid_at true n m h = omega arith
valid_at false n m h = omega arith

valid_within : (bytes : List ℕ) (n : ℕ) → valid_len_up_to bytes n ≤ n
valid_within bytes zero = omega arith
valid_within bytes (suc n) = valid_at (is_utf8 (take (suc n) bytes)) n (valid_len_up_to bytes n) (valid_within bytes n)

whole_at : (bytes : List ℕ) (n : ℕ) (b : Bool) → is_utf8 (take (suc n) bytes) ≡ b → cond b (suc n) (valid_len_up_to bytes n) ≡ suc n → is_utf8 (take (suc n) bytes) ≡ true
whole_at bytes n true e h = e
whole_at bytes n false e h = absurd (omega (arith, h, valid_within bytes n))

-- bytes that are valid to their end are UTF-8
whole : (bytes : List ℕ) (n : ℕ) → length bytes ≡ n → valid_len_up_to bytes n ≡ n → IsUtf8 bytes
whole [] zero len e = IsUtf8-nil
whole (byte ∷ bytes) zero len e = absurd (omega (arith, len))
whole bytes (suc n) len e =
    let all : take (suc n) bytes ≡ bytes = take_all (suc n) bytes (omega (arith, len)) in
    IsUtf8-from_is_utf8 bytes (ap is_utf8 (sym all) ∙ whole_at bytes n (is_utf8 (take (suc n) bytes)) refl e)

utf8_from_valid : (bytes : List ℕ) → length bytes ≤ utf8_valid_len bytes → IsUtf8 bytes
unfolding utf8_valid_len
utf8_from_valid bytes h = let up = valid_within bytes (length bytes) in whole bytes (length bytes) refl (omega arith)

abbrev pub is_zero : ℕ → Bool
is_zero byte = byte == 0

no_zero_from : (bytes : List ℕ) → length bytes ≤ position_or_len is_zero bytes → Contains bytes 0 → ⊥
no_zero_from bytes h (k, within, is) = true≢false (sym (eq-eqb _ 0 is) ∙ fails_before_first is_zero bytes k 0 (omega arith))

zero_from : (bytes : List ℕ) → position_or_len is_zero bytes < length bytes → Contains bytes 0
zero_from bytes h = (position_or_len is_zero bytes, h, eqb-true _ 0 (passes_at_first is_zero bytes 0 h))

-- what a right encoding is
pub record IsEncoded (bytes : List ℕ) : Type 0 where
  pub utf8 : IsUtf8 bytes
  pub no_zero : ¬ Contains bytes 0

abbrev pub flawed : ℕ → ℕ → ℕ → Option Flaw
flawed zero_at valid len = cond (ltb zero_at valid) (Some (record { at = zero_at; rule = ZeroByte })) (cond (ltb valid len) (Some (record { at = valid; rule = NotUtf8 })) None)

not_flawed : (zero_at valid len : ℕ) → flawed zero_at valid len ≡ None → (valid ≤ zero_at) × (len ≤ valid)
not_flawed zero_at valid len e =
    elim (chosen (ltb zero_at valid) _ _ _ e) [
      | inl flaw ↦ absurd (let e : Some (record { at = zero_at; rule = ZeroByte }) ≡ None = flaw.1 in cc)
      | inr a ↦ elim (chosen (ltb valid len) _ _ _ a.1) [
        | inl flaw ↦ absurd (let e : Some (record { at = valid; rule = NotUtf8 }) ≡ None = flaw.1 in cc)
        | inr b ↦ (ltb-false zero_at valid a.0, ltb-false valid len b.0)
      ]
    ]

pub encoded_from : (bytes : List ℕ) → encoding_flaw bytes ≡ None → IsEncoded bytes
encoded_from bytes e =
    let h = not_flawed (position_or_len is_zero bytes) (utf8_valid_len bytes) (length bytes) e in
    record { utf8 = utf8_from_valid bytes h.1; no_zero = no_zero_from bytes (omega (arith, h.0, h.1)) }

pub encoded_is_right : (bytes : List ℕ) → IsEncoded bytes → encoding_flaw bytes ≡ None
encoded_is_right bytes is =
    let valid : utf8_valid_len bytes ≡ length bytes = utf8_valid_len-IsUtf8 bytes is.utf8 in
    let none_before : length bytes ≤ position_or_len is_zero bytes = elim (cases_lt (position_or_len is_zero bytes) (length bytes)) [
      | inl before ↦ absurd (is.no_zero (zero_from bytes before))
      | inr behind ↦ behind
    ] in
    ap (λ (n : ℕ). flawed (position_or_len is_zero bytes) n (length bytes)) valid
    ∙ ap (λ (t : Bool). cond t (Some (record { at = position_or_len is_zero bytes; rule = ZeroByte })) (cond (ltb (length bytes) (length bytes)) (Some (record { at = length bytes; rule = NotUtf8 })) None)) (le-ltb _ _ none_before)
    ∙ ap (λ (t : Bool). cond t (Some (record { at = length bytes; rule = NotUtf8 })) None) (le-ltb (length bytes) (length bytes) (omega arith))

-- ---- reading and spelling

abbrev pub script_with : ℕ → List ℕ → List (List Word) → Script
script_with file bytes commands = record { commands = commands; end = place_after file bytes }

-- what is read is spelled so
pub spells_from : (file : ℕ) (bytes : List ℕ) (commands : List (List Word)) → encoding_flaw bytes ≡ None → commands_of file bytes ≡ Ok commands → Spells file bytes (script_with file bytes commands)
spells_from file bytes commands right read =
    let encoded = encoded_from bytes right in
    let r = commands-take bytes file 0 [] [] [] true commands refl read in
    record { utf8 = encoded.utf8; no_zero = encoded.no_zero; pieces = r.pieces; are_pieces = r.are; spelled = r.spelled; says = ap (script_with file bytes) r.says }

-- what is spelled so is read
pub record ReadsAs (file : ℕ) (bytes : List ℕ) (script : Script) : Type 0 where
  pub right : encoding_flaw bytes ≡ None
  pub commands : commands_of file bytes ≡ Ok script.commands
  pub is : script ≡ script_with file bytes script.commands

pub reads_as : (file : ℕ) (bytes : List ℕ) (script : Script) → Spells file bytes script → ReadsAs file bytes script
reads_as file bytes script s =
    let read = commands-again file s.pieces [] [] [] true refl s.are_pieces in
    record {
      right = encoded_is_right bytes (record { utf8 = s.utf8; no_zero = s.no_zero });
      commands = ap (λ (b : List ℕ). commands_of file b) (sym s.spelled) ∙ read ∙ ap (λ (t : Script). Ok t.commands) (sym s.says);
      is = s.says ∙ ap (λ (t : Script). script_with file bytes t.commands) (sym s.says);
    }

abbrev pub fine : List (List Word) → Result (List (List Word)) Fault
fine commands = Ok commands

pub commands_same : (x y : List (List Word)) → fine x ≡ Ok y → x ≡ y
commands_same x y e = cc

pub one_reading : (file : ℕ) (bytes : List ℕ) (one other : Script) → Spells file bytes one → Spells file bytes other → one ≡ other
one_reading file bytes one other a b =
    let x = reads_as file bytes one a in
    let y = reads_as file bytes other b in
    x.is ∙ ap (script_with file bytes) (commands_same one.commands other.commands (sym x.commands ∙ y.commands)) ∙ sym y.is

pub no_fault : (file : ℕ) (bytes : List ℕ) (commands : List (List Word)) → encoding_flaw bytes ≡ None → commands_of file bytes ≡ Ok commands → first_word_fault file bytes ≡ None
no_fault file bytes commands right read = ap (first_fault file bytes) right ∙ ap fault_of read

pub spelled_has_no_fault : (file : ℕ) (bytes : List ℕ) (script : Script) → Spells file bytes script → first_word_fault file bytes ≡ None
spelled_has_no_fault file bytes script s = let r = reads_as file bytes script s in no_fault file bytes script.commands r.right r.commands

either_read : (file : ℕ) (bytes : List ℕ) (read : Result (List (List Word)) Fault) → encoding_flaw bytes ≡ None → commands_of file bytes ≡ read
    → ((script : Script) × Spells file bytes script) ⊎ ((fault : Fault) × (first_word_fault file bytes ≡ Some fault))
either_read file bytes (Ok commands) right e = inl (script_with file bytes commands, spells_from file bytes commands right e)
either_read file bytes (Err fault) right e = inr (fault, ap (first_fault file bytes) right ∙ ap fault_of e)

either_encoded : (file : ℕ) (bytes : List ℕ) (flaw : Option Flaw) → encoding_flaw bytes ≡ flaw → ((script : Script) × Spells file bytes script) ⊎ ((fault : Fault) × (first_word_fault file bytes ≡ Some fault))
either_encoded file bytes None e = either_read file bytes (commands_of file bytes) e refl
either_encoded file bytes (Some flaw) e = inr (record { place = place_after file (take flaw.at bytes); rule = flaw.rule }, ap (first_fault file bytes) e)

pub spelled_or_not : (file : ℕ) (bytes : List ℕ) → ((script : Script) × Spells file bytes script) ⊎ ((fault : Fault) × (first_word_fault file bytes ≡ Some fault))
spelled_or_not file bytes = either_encoded file bytes (encoding_flaw bytes) refl
