-- The first flaw of an encoding, and the first fault of a whole file.
use Rattle.std.proofs.Common.{◌≡◌, ℕ, zero, suc, ◌+◌, ◌<◌, ◌≤◌, Bool, true, false, ◌==◌, cond, ltb, List, [], ◌∷◌, ◌++◌, length, take, drop, get_or, refl, sym, ap, subst, ◌∙◌, inl, inr, arith, append_assoc, Option, Some, None}
use Rattle.std.specs.Prelude.{IsUtf8, Contains, Result, Ok, Err}
use Rattle.std.specs.List.{position_or_len}
use Rattle.std.specs.Str.{is_utf8, IsValidUpTo}
use Rattle.std.specs.Str.Lossy.{utf8_valid_len, valid_len_up_to}
use Rattle.std.proofs.lemmas.Bool.{ltb-true, ltb-false, lt-ltb, le-ltb, eqb-true, eq-eqb, ne_eqb, cases_lt, true≢false}
use Rattle.std.proofs.lemmas.List.{length-append, length-take-le, take_all, take_at, take-take, take-append-drop, drop_more, get_or-take, get_or_append_left, get_or_at}
use Rattle.std.proofs.lemmas.List.Sums.{passes_at_first, fails_before_first, position_or_len_is}
use Rattle.std.proofs.lemmas.Str.{IsUtf8-nil, IsUtf8-append, IsUtf8-take, IsUtf8-from_is_utf8, is_utf8-from_IsUtf8, IsCharBoundary-before_ascii, utf8_valid_len_le, utf8_valid_len-IsUtf8, utf8_valid_len-IsValidUpTo}
use Rattle.tcl_words.specs.declared.rule.Rule.{Rule}
use Rattle.tcl_words.specs.declared.rule.Rule.TheVariants.{NotUtf8, ZeroByte}
use Rattle.tcl_words.specs.declared.words.Word.{Word}
use Rattle.tcl_words.specs.Script.{Script, place_after}
use Rattle.tcl_words.specs.Reading.{Flaw, Fault, commands_of, encoding_flaw, fault_of, first_fault, first_word_fault}
use Rattle.tcl_words.specs.Spelling.{Spells, spelling}
use Rattle.tcl_words.specs.FirstFault.{IsFirstFlaw, IsFirstFault}
use Rattle.tcl_words.proofs.Runs.{chosen}
use Rattle.tcl_words.proofs.Encoding.{utf8_one}
use Rattle.tcl_words.proofs.ScriptLaws.{is_zero, flawed, encoded_from, encoded_is_right, spelled_has_no_fault, spelled_or_not}
use Rattle.tcl_words.proofs.FirstFaults.{fault_at, commands-flawed, word_flaw_read}

-- ---- the longest front that is UTF-8

front_more : (bytes : List ℕ) (n : ℕ) (b : Bool) → is_utf8 (take (suc n) bytes) ≡ b → IsUtf8 (take (valid_len_up_to bytes n) bytes) → IsUtf8 (take (cond b (suc n) (valid_len_up_to bytes n)) bytes)
front_more bytes n true e ih = IsUtf8-from_is_utf8 (take (suc n) bytes) e
front_more bytes n false e ih = ih

front_up_to : (bytes : List ℕ) (n : ℕ) → IsUtf8 (take (valid_len_up_to bytes n) bytes)
front_up_to bytes zero = IsUtf8-nil
front_up_to bytes (suc n) = front_more bytes n (is_utf8 (take (suc n) bytes)) refl (front_up_to bytes n)

front_is_utf8 : (bytes : List ℕ) → IsUtf8 (take (utf8_valid_len bytes) bytes)
unfolding utf8_valid_len
front_is_utf8 bytes = front_up_to bytes (length bytes)

longest_more : (bytes : List ℕ) (n m : ℕ) (b : Bool) → is_utf8 (take (suc n) bytes) ≡ b → m ≤ suc n → is_utf8 (take m bytes) ≡ true → (m ≤ n → m ≤ valid_len_up_to bytes n) → m ≤ cond b (suc n) (valid_len_up_to bytes n)
longest_more bytes n m true e h u ih = h
longest_more bytes n m false e h u ih =
    elim (cases_lt m (suc n)) [
      | inl below ↦ ih (omega (arith, below))
      | inr above ↦ let same : m ≡ suc n = omega (arith, above, h) in absurd (true≢false (sym u ∙ ap (λ (k : ℕ). is_utf8 (take k bytes)) same ∙ e))
    ]

longest_up_to : (bytes : List ℕ) (n m : ℕ) → m ≤ n → is_utf8 (take m bytes) ≡ true → m ≤ valid_len_up_to bytes n
longest_up_to bytes zero m h u = h
longest_up_to bytes (suc n) m h u = longest_more bytes n m (is_utf8 (take (suc n) bytes)) refl h u (λ below. longest_up_to bytes n m below u)

-- a front that is UTF-8 isn't longer
longest : (bytes : List ℕ) (m : ℕ) → m ≤ length bytes → IsUtf8 (take m bytes) → m ≤ utf8_valid_len bytes
unfolding utf8_valid_len
longest bytes m h u = longest_up_to bytes (length bytes) m h (is_utf8-from_IsUtf8 (take m bytes) u)

valid_up_to : (bytes : List ℕ) → utf8_valid_len bytes < length bytes → IsValidUpTo bytes (utf8_valid_len bytes)
valid_up_to bytes short =
    let beyond : (m : ℕ) → utf8_valid_len bytes < m → ¬ IsUtf8 (take m bytes) = λ m more u. elim (cases_lt (length bytes) m) [
      | inl past ↦ let all : IsUtf8 bytes = subst IsUtf8 (take_all m bytes (omega (arith, past))) u in omega (arith, short, utf8_valid_len-IsUtf8 bytes all)
      | inr within ↦ omega (arith, more, longest bytes m within u)
    ] in
    record { short = short; front = front_is_utf8 bytes; longest = beyond }

-- ---- zero bytes

no_zero_before : (bytes : List ℕ) (n : ℕ) → n ≤ length bytes → n ≤ position_or_len is_zero bytes → ¬ Contains (take n bytes) 0
no_zero_before bytes n within before (k, inside, is) =
    let below : k < n = omega (arith, inside, length-take-le n bytes within) in
    let zero_there : get_or bytes k 0 ≡ 0 = sym (get_or-take n bytes k 0 below) ∙ is in
    true≢false (sym (eq-eqb _ 0 zero_there) ∙ fails_before_first is_zero bytes k 0 (omega (arith, below, before)))

not_zero_at : (front rest : List ℕ) → ¬ Contains front 0 → (k : ℕ) → k < length front → (get_or (front ++ rest) k 0 == 0) ≡ false
not_zero_at front rest none k below = ne_eqb _ 0 (λ is. none (k, below, sym (get_or_append_left front rest 0 k below) ∙ is))

no_zero_in : (front rest : List ℕ) → ¬ Contains front 0 → length front ≤ position_or_len is_zero (front ++ rest)
no_zero_in front rest none =
    elim (cases_lt (position_or_len is_zero (front ++ rest)) (length front)) [
      | inl before ↦
          let within : position_or_len is_zero (front ++ rest) < length (front ++ rest) = omega (arith, before, length-append front rest) in
          absurd (true≢false (sym (passes_at_first is_zero (front ++ rest) 0 within) ∙ not_zero_at front rest none (position_or_len is_zero (front ++ rest)) before))
      | inr behind ↦ behind
    ]

zero_at : (front rest : List ℕ) → ¬ Contains front 0 → position_or_len is_zero (front ++ 0 ∷ rest) ≡ length front
zero_at front rest none =
    position_or_len_is is_zero (front ++ 0 ∷ rest) (length front) 0 (omega (arith, length-append front (0 ∷ rest))) (not_zero_at front (0 ∷ rest) none)
    (λ _. eq-eqb _ 0 (get_or_at front 0 rest 0 (length front) refl))

-- ---- the flaw that is found stands there

record Splits (bytes : List ℕ) (f : Flaw) : Type 0 where
  front : List ℕ
  rest : List ℕ
  parts : bytes ≡ front ++ rest
  front_is : take f.at bytes ≡ front
  stands : IsFirstFlaw f.rule front rest

zero_splits : (bytes : List ℕ) (n : ℕ) → position_or_len is_zero bytes ≡ n → n < utf8_valid_len bytes → Splits bytes (record { at = n; rule = ZeroByte })
zero_splits bytes n is below =
    let within : n < length bytes = omega (arith, below, utf8_valid_len_le bytes) in
    let valid = take (utf8_valid_len bytes) bytes in
    let zero_there : get_or bytes n 0 ≡ 0 =
    ap (λ (k : ℕ). get_or bytes k 0) (sym is) ∙ eqb-true _ 0 (passes_at_first is_zero bytes 0 (omega (arith, is, within))) in
    let inside : n < length valid = omega (arith, below, length-take-le (utf8_valid_len bytes) bytes (utf8_valid_len_le bytes)) in
    let ascii : get_or valid n 0 < 128 = omega (arith, get_or-take (utf8_valid_len bytes) bytes n 0 below, zero_there) in
    let utf8 : IsUtf8 (take n bytes) = subst IsUtf8 (take-take n (utf8_valid_len bytes) bytes (omega (arith, below))) (IsUtf8-take valid n (front_is_utf8 bytes) (IsCharBoundary-before_ascii valid n inside ascii)) in
    record {
      front = take n bytes;
      rest = 0 ∷ drop (n + 1) bytes;
      parts = sym (take-append-drop n bytes) ∙ ap (λ (t : List ℕ). take n bytes ++ t) (drop_more bytes n 0 within ∙ ap (λ (b : ℕ). b ∷ drop (n + 1) bytes) zero_there);
      front_is = refl;
      stands = IsFirstFlaw.zero_byte utf8 (no_zero_before bytes n (omega (arith, within)) (omega (arith, is)));
    }

utf8_splits : (bytes : List ℕ) → utf8_valid_len bytes ≤ position_or_len is_zero bytes → utf8_valid_len bytes < length bytes → Splits bytes (record { at = utf8_valid_len bytes; rule = NotUtf8 })
utf8_splits bytes before short =
    let n = utf8_valid_len bytes in
    let whole : take n bytes ++ drop n bytes ≡ bytes = take-append-drop n bytes in
    let len : length (take n bytes) ≡ n = length-take-le n bytes (omega (arith, short)) in
    let valid : IsValidUpTo (take n bytes ++ drop n bytes) (length (take n bytes)) =
    subst (λ (t : List ℕ). IsValidUpTo t (length (take n bytes))) (sym whole) (subst (IsValidUpTo bytes) (sym len) (valid_up_to bytes short)) in
    record {
      front = take n bytes;
      rest = drop n bytes;
      parts = sym whole;
      front_is = refl;
      stands = IsFirstFlaw.not_utf8 valid (no_zero_before bytes n (omega (arith, short)) before);
    }

some_flaw : (x y : Flaw) → Some x ≡ Some y → x ≡ y
some_flaw x y e = cc

flaw_splits : (bytes : List ℕ) (f : Flaw) → encoding_flaw bytes ≡ Some f → Splits bytes f
flaw_splits bytes f e =
    let first = position_or_len is_zero bytes in
    let valid = utf8_valid_len bytes in
    elim (chosen (ltb first valid) _ _ _ e) [
      | inl zeros ↦ let here : Flaw = record { at = first; rule = ZeroByte } in subst (Splits bytes) (some_flaw here f zeros.1) (zero_splits bytes first refl (ltb-true first valid zeros.0))
      | inr a ↦ elim (chosen (ltb valid (length bytes)) _ _ _ a.1) [
        | inl ill ↦ let here : Flaw = record { at = valid; rule = NotUtf8 } in
            subst (Splits bytes) (some_flaw here f ill.1) (utf8_splits bytes (ltb-false first valid a.0) (ltb-true valid (length bytes) ill.0))
        | inr b ↦ absurd (let none : Option Flaw = None in let e : none ≡ Some f = b.1 in cc)
      ]
    ]

-- ---- the first fault of a file

some_fault : (x y : Fault) → Some x ≡ Some y → x ≡ y
some_fault x y e = cc

word_stands : (file : ℕ) (bytes : List ℕ) (fault : Fault) (read : Result (List (List Word)) Fault) → encoding_flaw bytes ≡ None → commands_of file bytes ≡ read → fault_of read ≡ Some fault → IsFirstFault file bytes fault
word_stands file bytes fault (Ok commands) right e is = absurd cc
word_stands file bytes fault (Err other) right e is =
    let encoded = encoded_from bytes right in
    let same : other ≡ fault = some_fault other fault is in
    let w = commands-flawed bytes file 0 [] [] [] true fault refl (e ∙ ap (λ (f : Fault). Err f) same) in
    let front : List ℕ = spelling w.pieces ++ w.begun in
    let parts : bytes ≡ front ++ w.rest = w.parts ∙ sym (append_assoc (spelling w.pieces) w.begun w.rest) in
    record {
      front = front;
      rest = w.rest;
      parts = parts;
      stands = IsFirstFlaw.word (subst IsUtf8 parts encoded.utf8) (subst (λ (t : List ℕ). ¬ Contains t 0) parts encoded.no_zero)
          (record { pieces = w.pieces; begun = w.begun; parts = refl; are_pieces = w.are; breaks = w.breaks });
      place = w.place;
    }

stands_at : (file : ℕ) (bytes : List ℕ) (fault : Fault) (flaw : Option Flaw) → encoding_flaw bytes ≡ flaw → first_fault file bytes flaw ≡ Some fault → IsFirstFault file bytes fault
stands_at file bytes fault None e is = word_stands file bytes fault (commands_of file bytes) e refl is
stands_at file bytes fault (Some f) e is =
    let s = flaw_splits bytes f e in
    subst (IsFirstFault file bytes) (some_fault (fault_at file (take f.at bytes) f.rule) fault is)
    (record { front = s.front; rest = s.rest; parts = s.parts; stands = s.stands; place = ap (place_after file) s.front_is })

pub fault_stands : (file : ℕ) (bytes : List ℕ) (fault : Fault) → first_word_fault file bytes ≡ Some fault → IsFirstFault file bytes fault
fault_stands file bytes fault is = stands_at file bytes fault (encoding_flaw bytes) refl is

zero_found : (front rest : List ℕ) → IsUtf8 front → ¬ Contains front 0 → encoding_flaw (front ++ 0 ∷ rest) ≡ Some (record { at = length front; rule = ZeroByte })
zero_found front rest utf8 none =
    let bytes : List ℕ = front ++ 0 ∷ rest in
    let len : length (front ++ 0 ∷ []) ≡ length front + 1 = length-append front (0 ∷ []) in
    let longer : take (length front + 1) bytes ≡ front ++ 0 ∷ [] = ap (take (length front + 1)) (sym (append_assoc front (0 ∷ []) rest)) ∙ take_at (front ++ 0 ∷ []) rest (length front + 1) len in
    let valid : length front + 1 ≤ utf8_valid_len bytes =
    longest bytes (length front + 1) (omega (arith, length-append front (0 ∷ rest))) (subst IsUtf8 (sym longer) (IsUtf8-append front (0 ∷ []) utf8 (utf8_one 0 (omega arith)))) in
    ap (λ (n : ℕ). flawed n (utf8_valid_len bytes) (length bytes)) (zero_at front rest none)
    ∙ ap (λ (t : Bool). cond t (Some (record { at = length front; rule = ZeroByte })) (cond (ltb (utf8_valid_len bytes) (length bytes)) (Some (record { at = utf8_valid_len bytes; rule = NotUtf8 })) None)) (lt-ltb (length front) (utf8_valid_len bytes) (omega (arith, valid)))

utf8_found : (front rest : List ℕ) → IsValidUpTo (front ++ rest) (length front) → ¬ Contains front 0 → encoding_flaw (front ++ rest) ≡ Some (record { at = length front; rule = NotUtf8 })
utf8_found front rest valid none =
    let bytes : List ℕ = front ++ rest in
    let first = position_or_len is_zero bytes in
    ap (λ (n : ℕ). flawed first n (length bytes)) (utf8_valid_len-IsValidUpTo bytes (length front) valid)
    ∙ ap (λ (t : Bool). cond t (Some (record { at = first; rule = ZeroByte })) (cond (ltb (length front) (length bytes)) (Some (record { at = length front; rule = NotUtf8 })) None)) (le-ltb first (length front) (no_zero_in front rest none))
    ∙ ap (λ (t : Bool). cond t (Some (record { at = length front; rule = NotUtf8 })) None) (lt-ltb (length front) (length bytes) valid.short)

encoding_fault : (file : ℕ) (front rest : List ℕ) (rule : Rule) → encoding_flaw (front ++ rest) ≡ Some (record { at = length front; rule = rule }) → first_word_fault file (front ++ rest) ≡ Some (fault_at file front rule)
encoding_fault file front rest rule e = ap (first_fault file (front ++ rest)) e ∙ ap (λ (t : List ℕ). Some (fault_at file t rule)) (take_at front rest (length front) refl)

flaw_read : (file : ℕ) {rule : Rule} {front rest : List ℕ} → IsFirstFlaw rule front rest → first_word_fault file (front ++ rest) ≡ Some (fault_at file front rule)
flaw_read file (IsFirstFlaw.word {rule} {front} {rest} utf8 none is) =
    ap (first_fault file (front ++ rest)) (encoded_is_right (front ++ rest) (record { utf8 = utf8; no_zero = none })) ∙ ap fault_of (word_flaw_read file rule front rest is)
flaw_read file (IsFirstFlaw.not_utf8 {front} {rest} valid none) = encoding_fault file front rest NotUtf8 (utf8_found front rest valid none)
flaw_read file (IsFirstFlaw.zero_byte {front} {rest} utf8 none) = encoding_fault file front (0 ∷ rest) ZeroByte (zero_found front rest utf8 none)

pub fault_read : (file : ℕ) (bytes : List ℕ) (fault : Fault) → IsFirstFault file bytes fault → first_word_fault file bytes ≡ Some fault
fault_read file bytes fault is =
    ap (first_word_fault file) is.parts ∙ flaw_read file is.stands ∙ ap (λ (p : _). Some (record { place = p; rule = fault.rule })) (sym is.place)

pub one_fault : (file : ℕ) (bytes : List ℕ) (one other : Fault) → IsFirstFault file bytes one → IsFirstFault file bytes other → one ≡ other
one_fault file bytes one other a b = some_fault one other (sym (fault_read file bytes one a) ∙ fault_read file bytes other b)

pub spelled_without_fault : (file : ℕ) (bytes : List ℕ) → ((fault : Fault) → ¬ IsFirstFault file bytes fault) → (script : Script) × Spells file bytes script
spelled_without_fault file bytes none =
    elim (spelled_or_not file bytes) [
      | inl spelled ↦ spelled
      | inr (fault, is) ↦ absurd (none fault (fault_stands file bytes fault is))
    ]

not_some : (fault : Fault) (found : Option Fault) → found ≡ None → found ≡ Some fault → ⊥
not_some fault found a b = absurd cc

pub spelled_is_faultless : (file : ℕ) (bytes : List ℕ) (script : Script) (fault : Fault) → Spells file bytes script → ¬ IsFirstFault file bytes fault
spelled_is_faultless file bytes script fault spelled is = not_some fault (first_word_fault file bytes) (spelled_has_no_fault file bytes script spelled) (fault_read file bytes fault is)
