-- Words in quotes: what is read is between quotes, and what is between quotes is read.
use Rattle.std.proofs.Common.{◌≡◌, ℕ, zero, suc, ◌+◌, Bool, true, false, ◌||◌, ◌==◌, cond, List, [], ◌∷◌, ◌++◌, length, take, drop, refl, sym, ap, subst, ◌∙◌, inl, inr, arith, append_assoc, add-zero}
use Rattle.std.specs.Prelude.{Result, Ok}
use Rattle.std.proofs.lemmas.Bool.{eqb-true, or_parts, or_from, not-true, not_from_false}
use Rattle.std.proofs.lemmas.List.{length-append, length-take-le, append-nil, drop_at, take-append-drop}
use Rattle.tcl_words.specs.declared.rule.Rule.TheVariants.{Substitution, Backslash}
use Rattle.tcl_words.specs.Bytes.{space, backslash, quote, is_space_or_tab, substitutes, begins_with, begins_with_line_feed, begins_with_line_end, kept}
use Rattle.tcl_words.specs.Reading.{Flaw, Found, found, flaw, join_tail, quoted}
use Rattle.tcl_words.specs.Spelling.{IsJoin, InQuotes, is_plain_in_quotes}
use Rattle.tcl_words.proofs.Runs.{chosen, begins_with-before, begins_with-append, kept-before, kept-append, join_is, join_tail-le, join_reads, join_before}

-- bytes that are passed over
pub quoted-skip : (skip at : ℕ) (text bytes : List ℕ) → quoted skip at text bytes ≡ quoted 0 (at + skip) text (drop skip bytes)
unfolding quoted
quoted-skip zero at text bytes = ap (λ (n : ℕ). quoted 0 n text bytes) (sym (add-zero at))
quoted-skip (suc skip) at text [] = refl
quoted-skip (suc skip) at text (byte ∷ rest) =
    let sum : at + 1 + skip ≡ at + suc skip = omega arith in
    quoted-skip skip (at + 1) text rest ∙ ap (λ (n : ℕ). quoted 0 n text (drop skip rest)) sum

-- ---- what is between quotes is read

pub plain_tests : (byte : ℕ) → is_plain_in_quotes byte ≡ true → ((byte == quote) ≡ false) × (substitutes byte ≡ false) × ((byte == backslash) ≡ false)
plain_tests byte h =
    let a = or_parts (byte == quote) (substitutes byte || byte == backslash) (not-true _ h) in
    let b = or_parts (substitutes byte) (byte == backslash) a.1 in
    (a.0, b.0, b.1)

plain_step : (closes refused escapes : Bool) (x y z w : Result (Found (List ℕ)) Flaw) → closes ≡ false → refused ≡ false → escapes ≡ false → cond closes x (cond refused y (cond escapes z w)) ≡ w
plain_step closes refused escapes x y z w a b c = rw (a, b, c) refl

module _ (at : ℕ) (before : List ℕ) where
  quoted-plain : (byte : ℕ) (rest : List ℕ) → is_plain_in_quotes byte ≡ true → quoted 0 at before (byte ∷ rest) ≡ quoted 0 (at + 1) (before ++ kept byte rest) rest
  unfolding quoted
  quoted-plain byte rest h = let tests = plain_tests byte h in plain_step (byte == quote) (substitutes byte) (byte == backslash) _ _ _ _ tests.0 tests.1 tests.2

  quoted-end : (rest : List ℕ) → quoted 0 at before (quote ∷ rest) ≡ found before (at + 1)
  unfolding quoted
  quoted-end rest = refl

  quoted-join : {join rest : List ℕ} → IsJoin join rest → quoted 0 at before (join ++ rest) ≡ quoted 0 (at + length join) (before ++ space ∷ []) rest
  unfolding quoted
  quoted-join {join} {rest} is =
      let r = join_reads is in
      let whole : join ++ rest ≡ backslash ∷ (r.tail ++ rest) = ap (λ (j : List ℕ). j ++ rest) r.begins in
      let sum : at + 1 + length r.tail ≡ at + length join = omega (arith, ap length r.begins) in
      ap (quoted 0 at before) whole
      ∙ ap (λ (t : Bool). cond t (quoted (join_tail (r.tail ++ rest)) (at + 1) (before ++ space ∷ []) (r.tail ++ rest)) (flaw at Backslash)) r.is_end
      ∙ ap (λ (n : ℕ). quoted n (at + 1) (before ++ space ∷ []) (r.tail ++ rest)) r.is_tail
      ∙ quoted-skip (length r.tail) (at + 1) (before ++ space ∷ []) (r.tail ++ rest)
      ∙ ap (λ (bytes : List ℕ). quoted 0 (at + 1 + length r.tail) (before ++ space ∷ []) bytes) (drop_at r.tail rest (length r.tail) refl)
      ∙ ap (λ (n : ℕ). quoted 0 n (before ++ space ∷ []) rest) sum

pub quoted-inside : {bytes text : List ℕ} → InQuotes bytes text → (at : ℕ) (before rest : List ℕ) → begins_with_line_feed rest ≡ false → begins_with is_space_or_tab rest ≡ false
    → quoted 0 at before (bytes ++ rest) ≡ quoted 0 (at + length bytes) (before ++ text) rest
quoted-inside InQuotes.nothing at before rest feeds blanks =
    let none : at + 0 ≡ at = omega arith in
    rw (none, append-nil before) refl
quoted-inside (InQuotes.plain {bytes} {text} byte h inside) at before rest feeds blanks =
    let sum : at + 1 + length bytes ≡ at + suc (length bytes) = omega arith in
    quoted-plain at before byte (bytes ++ rest) h
    ∙ ap (λ (k : List ℕ). quoted 0 (at + 1) (before ++ k) (bytes ++ rest)) (kept-before byte bytes rest feeds)
    ∙ quoted-inside inside (at + 1) (before ++ kept byte bytes) rest feeds blanks
    ∙ ap (λ (n : ℕ). quoted 0 n (before ++ kept byte bytes ++ text) rest) sum
    ∙ ap (λ (t : List ℕ). quoted 0 (at + suc (length bytes)) t rest) (append_assoc before (kept byte bytes) text)
quoted-inside (InQuotes.joined {bytes} {text} join is inside) at before rest feeds blanks =
    let sum : at + length join + length bytes ≡ at + length (join ++ bytes) = omega (arith, length-append join bytes) in
    let stops : begins_with is_space_or_tab (bytes ++ rest) ≡ false = begins_with-before is_space_or_tab bytes rest blanks ∙ is.are_all in
    ap (quoted 0 at before) (append_assoc join bytes rest)
    ∙ quoted-join at before (join_before (bytes ++ rest) stops is)
    ∙ quoted-inside inside (at + length join) (before ++ space ∷ []) rest feeds blanks
    ∙ ap (λ (n : ℕ). quoted 0 n ((before ++ space ∷ []) ++ text) rest) sum
    ∙ ap (λ (t : List ℕ). quoted 0 (at + length (join ++ bytes)) t rest) (append_assoc before (space ∷ []) text)

-- a word in quotes is read
pub quoted-again : {bytes text : List ℕ} → InQuotes bytes text → (after : List ℕ) → quoted 0 1 [] (bytes ++ quote ∷ after) ≡ found text (length bytes + 2)
quoted-again {bytes} {text} inside after =
    let sum : 1 + length bytes + 1 ≡ length bytes + 2 = omega arith in
    quoted-inside inside 1 [] (quote ∷ after) refl refl ∙ quoted-end (1 + length bytes) text after ∙ ap (found text) sum

-- ---- what is read is between quotes

record Closes (at : ℕ) (before bytes : List ℕ) (group : Found (List ℕ)) : Type 0 where
  inner : List ℕ
  text : List ℕ
  after : List ℕ
  parts : bytes ≡ inner ++ quote ∷ after
  inside : InQuotes inner text
  value : group.value ≡ before ++ text
  len : group.len ≡ at + length inner + 1

group_is : (x y : Found (List ℕ)) → found x.value x.len ≡ Ok y → x ≡ y
group_is x y e = cc

closes_last : (at : ℕ) (before rest : List ℕ) (group : Found (List ℕ)) → found before (at + 1) ≡ Ok group → Closes at before (quote ∷ rest) group
closes_last at before rest group e =
    let made : Found (List ℕ) = record { value = before; len = at + 1 } in
    subst (Closes at before (quote ∷ rest)) (group_is made group e) record {
      inner = [];
      text = [];
      after = rest;
      parts = refl;
      inside = InQuotes.nothing;
      value = sym (append-nil before);
      len = omega arith;
    }

closes_plain : (at : ℕ) (before : List ℕ) (byte : ℕ) (rest : List ℕ) (group : Found (List ℕ)) → is_plain_in_quotes byte ≡ true
    → Closes (at + 1) (before ++ kept byte rest) rest group → Closes at before (byte ∷ rest) group
closes_plain at before byte rest group h c =
    let same : kept byte rest ≡ kept byte c.inner = ap (kept byte) c.parts ∙ kept-append byte c.inner quote c.after refl in
    record {
      inner = byte ∷ c.inner;
      text = kept byte c.inner ++ c.text;
      after = c.after;
      parts = ap (λ (b : List ℕ). byte ∷ b) c.parts;
      inside = InQuotes.plain byte h c.inside;
      value = c.value ∙ append_assoc before (kept byte rest) c.text ∙ ap (λ (k : List ℕ). before ++ (k ++ c.text)) same;
      len = omega (arith, c.len);
    }

closes_join : (at : ℕ) (before rest : List ℕ) (group : Found (List ℕ)) → begins_with_line_end rest ≡ true
    → Closes (at + 1 + join_tail rest) (before ++ space ∷ []) (drop (join_tail rest) rest) group → Closes at before (backslash ∷ rest) group
closes_join at before rest group h c =
    let n = join_tail rest in
    let join : List ℕ = backslash ∷ take n rest in
    let is : IsJoin join (drop n rest) = join_is rest h in
    let stops : begins_with is_space_or_tab c.inner ≡ false = sym (begins_with-append is_space_or_tab c.inner quote c.after refl) ∙ ap (begins_with is_space_or_tab) (sym c.parts) ∙ is.are_all in
    let within : length (take n rest) ≡ n = length-take-le n rest (join_tail-le rest h) in
    record {
      inner = join ++ c.inner;
      text = space ∷ c.text;
      after = c.after;
      parts = ap (λ (b : List ℕ). backslash ∷ b) (sym (take-append-drop n rest) ∙ ap (λ (b : List ℕ). take n rest ++ b) c.parts ∙ sym (append_assoc (take n rest) c.inner (quote ∷ c.after)));
      inside = InQuotes.joined join (join_before c.inner stops is) c.inside;
      value = c.value ∙ append_assoc before (space ∷ []) c.text;
      len = omega (arith, c.len, length-append (take n rest) c.inner, within);
    }

pub plain_from : (byte : ℕ) → (byte == quote) ≡ false → substitutes byte ≡ false → (byte == backslash) ≡ false → is_plain_in_quotes byte ≡ true
plain_from byte a b c = not_from_false (byte == quote || (substitutes byte || byte == backslash)) (or_from _ _ a (or_from _ _ b c))

-- what reading goes on with, behind one byte
abbrev GoesOn : List ℕ → Type 0
GoesOn rest = (skip at : ℕ) (before : List ℕ) (group : Found (List ℕ)) → quoted skip at before rest ≡ Ok group → Closes (at + skip) before (drop skip rest) group

at_backslash : (at : ℕ) (before rest : List ℕ) (group : Found (List ℕ)) → GoesOn rest
    → cond (begins_with_line_end rest) (quoted (join_tail rest) (at + 1) (before ++ space ∷ []) rest) (flaw at Backslash) ≡ Ok group
    → Closes at before (backslash ∷ rest) group
at_backslash at before rest group goes_on e =
    elim (chosen (begins_with_line_end rest) _ _ _ e) [
      | inl joins ↦ closes_join at before rest group joins.0 (goes_on (join_tail rest) (at + 1) (before ++ space ∷ []) group joins.1)
      | inr alone ↦ absurd (let e : flaw at Backslash ≡ Ok group = alone.1 in cc)
    ]

at_byte : (at : ℕ) (before : List ℕ) (byte : ℕ) (rest : List ℕ) (group : Found (List ℕ)) → GoesOn rest → quoted 0 at before (byte ∷ rest) ≡ Ok group → Closes at before (byte ∷ rest) group
unfolding quoted
at_byte at before byte rest group goes_on e =
    elim (chosen (byte == quote) _ _ _ e) [
      | inl closes ↦ rw (eqb-true byte quote closes.0) (closes_last at before rest group closes.1)
      | inr others ↦ elim (chosen (substitutes byte) _ _ _ others.1) [
        | inl refused ↦ absurd (let e : flaw at Substitution ≡ Ok group = refused.1 in cc)
        | inr left ↦ elim (chosen (byte == backslash) _ _ _ left.1) [
          | inl escapes ↦ rw (eqb-true byte backslash escapes.0) (at_backslash at before rest group goes_on escapes.1)
          | inr plain ↦ closes_plain at before byte rest group (plain_from byte others.0 left.0 plain.0)
              (subst (λ (n : ℕ). Closes n (before ++ kept byte rest) rest group) (add-zero (at + 1)) (goes_on 0 (at + 1) (before ++ kept byte rest) group plain.1))
        ]
      ]
    ]

quoted-closes : (bytes : List ℕ) → GoesOn bytes
unfolding quoted
quoted-closes [] skip at before group e = absurd cc
quoted-closes (byte ∷ rest) zero at before group e =
    subst (λ (n : ℕ). Closes n before (byte ∷ rest) group) (sym (add-zero at)) (at_byte at before byte rest group (quoted-closes rest) e)
quoted-closes (byte ∷ rest) (suc skip) at before group e =
    let sum : at + 1 + skip ≡ at + suc skip = omega arith in
    subst (λ (n : ℕ). Closes n before (drop skip rest) group) sum (quoted-closes rest skip (at + 1) before group e)

-- the text in quotes that was read
pub record IsGroup (bytes : List ℕ) (group : Found (List ℕ)) : Type 0 where
  pub inner : List ℕ
  pub after : List ℕ
  pub parts : bytes ≡ inner ++ quote ∷ after
  pub inside : InQuotes inner group.value
  pub len : group.len ≡ length inner + 2

pub quoted-takes : (bytes : List ℕ) (group : Found (List ℕ)) → quoted 0 1 [] bytes ≡ Ok group → IsGroup bytes group
quoted-takes bytes group e =
    let c = quoted-closes bytes 0 1 [] group e in
    record {
      inner = c.inner;
      after = c.after;
      parts = c.parts;
      inside = subst (λ (t : List ℕ). InQuotes c.inner t) (sym c.value) c.inside;
      len = omega (arith, c.len);
    }
