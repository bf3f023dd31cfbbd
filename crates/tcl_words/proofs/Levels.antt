-- What is read in braces is what stands between them.
use Rattle.std.proofs.Common.{◌≡◌, ℕ, zero, suc, ◌+◌, ◌-◌, true, false, ◌||◌, ◌==◌, cond, List, [], ◌∷◌, ◌++◌, length, take, drop, refl, sym, ap, subst, ◌∙◌, inl, inr, arith, append_assoc, add-zero}
use Rattle.std.specs.Prelude.{Ok}
use Rattle.std.proofs.lemmas.Bool.{eqb-true, eqb-false, or_from, not_from_false}
use Rattle.std.proofs.lemmas.List.{length-append, length-take-le, append-nil, take-append-drop}
use Rattle.tcl_words.specs.Bytes.{space, backslash, open_brace, close_brace, is_space_or_tab, begins_with, begins_with_line_end, kept}
use Rattle.tcl_words.specs.Reading.{Found, found, join_tail, braced}
use Rattle.tcl_words.specs.Spelling.{IsJoin, InBraces, is_plain_in_braces}
use Rattle.tcl_words.proofs.Runs.{chosen, begins_with-append, kept-append, begins_with_line_end-append, join_is, join_tail-le, join_before}

-- bytes inside so many open braces, each but the last level with the brace that closes it
pub data Levels : ℕ → List ℕ → List ℕ → Type 0 where
  last : {bytes text : List ℕ} → InBraces bytes text → Levels 0 bytes text
  more : {depth : ℕ} {bytes text others other_text : List ℕ} → InBraces bytes text → Levels depth others other_text
      → Levels (suc depth) (bytes ++ close_brace ∷ others) (text ++ close_brace ∷ other_text)

Levels-plain : {depth : ℕ} {bytes text : List ℕ} (byte : ℕ) → is_plain_in_braces byte ≡ true → Levels depth bytes text → Levels depth (byte ∷ bytes) (kept byte bytes ++ text)
Levels-plain byte h (Levels.last inside) = Levels.last (InBraces.plain byte h inside)
Levels-plain byte h (Levels.more {depth} {bytes} {text} {others} {other_text} inside levels) =
    let texts : (kept byte bytes ++ text) ++ close_brace ∷ other_text ≡ kept byte (bytes ++ close_brace ∷ others) ++ (text ++ close_brace ∷ other_text) =
    append_assoc (kept byte bytes) text (close_brace ∷ other_text) ∙ ap (λ (k : List ℕ). k ++ (text ++ close_brace ∷ other_text)) (sym (kept-append byte bytes close_brace others refl)) in
    subst (λ (t : List ℕ). Levels (suc depth) (byte ∷ (bytes ++ close_brace ∷ others)) t) texts (Levels.more (InBraces.plain byte h inside) levels)

Levels-group : {depth : ℕ} {inner inner_text bytes text : List ℕ} → InBraces inner inner_text → Levels depth bytes text
    → Levels depth (open_brace ∷ (inner ++ close_brace ∷ bytes)) (open_brace ∷ (inner_text ++ close_brace ∷ text))
Levels-group in_group (Levels.last inside) = Levels.last (InBraces.group in_group inside)
Levels-group {inner} {inner_text} in_group (Levels.more {depth} {bytes} {text} {others} {other_text} inside levels) =
    subst (λ (b : List ℕ). Levels (suc depth) (open_brace ∷ b) (open_brace ∷ (inner_text ++ close_brace ∷ (text ++ close_brace ∷ other_text)))) (append_assoc inner (close_brace ∷ bytes) (close_brace ∷ others))
    (subst (λ (t : List ℕ). Levels (suc depth) (open_brace ∷ ((inner ++ close_brace ∷ bytes) ++ close_brace ∷ others)) (open_brace ∷ t)) (append_assoc inner_text (close_brace ∷ text) (close_brace ∷ other_text))
    (Levels.more (InBraces.group in_group inside) levels))

Levels-pair : {depth : ℕ} {bytes text : List ℕ} (byte : ℕ) → begins_with_line_end (byte ∷ bytes) ≡ false → Levels depth bytes text → Levels depth (backslash ∷ byte ∷ bytes) (backslash ∷ byte ∷ text)
Levels-pair byte h (Levels.last inside) = Levels.last (InBraces.pair byte h inside)
Levels-pair byte h (Levels.more {depth} {bytes} {text} {others} {other_text} inside levels) =
    Levels.more (InBraces.pair byte (sym (begins_with_line_end-append byte bytes close_brace others refl) ∙ h) inside) levels

Levels-join : {depth : ℕ} {bytes text : List ℕ} (join : List ℕ) → IsJoin join bytes → Levels depth bytes text → Levels depth (join ++ bytes) (space ∷ text)
Levels-join join is (Levels.last inside) = Levels.last (InBraces.joined join is inside)
Levels-join join is (Levels.more {depth} {bytes} {text} {others} {other_text} inside levels) =
    let stops : begins_with is_space_or_tab bytes ≡ false = sym (begins_with-append is_space_or_tab bytes close_brace others refl) ∙ is.are_all in
    subst (λ (b : List ℕ). Levels (suc depth) b (space ∷ (text ++ close_brace ∷ other_text))) (append_assoc join bytes (close_brace ∷ others))
    (Levels.more (InBraces.joined join (join_before bytes stops is) inside) levels)

-- an opening brace makes one level more
Levels-open : {depth : ℕ} {bytes text : List ℕ} → Levels (suc depth) bytes text → Levels depth (open_brace ∷ bytes) (open_brace ∷ text)
Levels-open (Levels.more inside levels) = Levels-group inside levels

-- what reading inside braces took
pub record Closes (at depth : ℕ) (before bytes : List ℕ) (group : Found (List ℕ)) : Type 0 where
  pub inner : List ℕ
  pub text : List ℕ
  pub after : List ℕ
  pub parts : bytes ≡ inner ++ close_brace ∷ after
  pub levels : Levels depth inner text
  pub value : group.value ≡ before ++ text
  pub len : group.len ≡ at + length inner + 1

group_is : (x y : Found (List ℕ)) → found x.value x.len ≡ Ok y → x ≡ y
group_is x y e = cc

closes_last : (at : ℕ) (before rest : List ℕ) (group : Found (List ℕ)) → found before (at + 1) ≡ Ok group → Closes at 0 before (close_brace ∷ rest) group
closes_last at before rest group e =
    let made : Found (List ℕ) = record { value = before; len = at + 1 } in
    subst (Closes at 0 before (close_brace ∷ rest)) (group_is made group e) record {
      inner = [];
      text = [];
      after = rest;
      parts = refl;
      levels = Levels.last InBraces.nothing;
      value = sym (append-nil before);
      len = omega arith;
    }

closes_level : (at depth : ℕ) (before rest : List ℕ) (group : Found (List ℕ)) → Closes (at + 1) depth (before ++ close_brace ∷ []) rest group → Closes at (suc depth) before (close_brace ∷ rest) group
closes_level at depth before rest group c = record {
  inner = close_brace ∷ c.inner;
  text = close_brace ∷ c.text;
  after = c.after;
  parts = ap (λ (b : List ℕ). close_brace ∷ b) c.parts;
  levels = Levels.more InBraces.nothing c.levels;
  value = c.value ∙ append_assoc before (close_brace ∷ []) c.text;
  len = omega (arith, c.len);
}

closes_open : (at depth : ℕ) (before rest : List ℕ) (group : Found (List ℕ)) → Closes (at + 1) (suc depth) (before ++ open_brace ∷ []) rest group → Closes at depth before (open_brace ∷ rest) group
closes_open at depth before rest group c = record {
  inner = open_brace ∷ c.inner;
  text = open_brace ∷ c.text;
  after = c.after;
  parts = ap (λ (b : List ℕ). open_brace ∷ b) c.parts;
  levels = Levels-open c.levels;
  value = c.value ∙ append_assoc before (open_brace ∷ []) c.text;
  len = omega (arith, c.len);
}

closes_plain : (at depth : ℕ) (before : List ℕ) (byte : ℕ) (rest : List ℕ) (group : Found (List ℕ)) → is_plain_in_braces byte ≡ true
    → Closes (at + 1) depth (before ++ kept byte rest) rest group → Closes at depth before (byte ∷ rest) group
closes_plain at depth before byte rest group h c =
    let same : kept byte rest ≡ kept byte c.inner = ap (kept byte) c.parts ∙ kept-append byte c.inner close_brace c.after refl in
    record {
      inner = byte ∷ c.inner;
      text = kept byte c.inner ++ c.text;
      after = c.after;
      parts = ap (λ (b : List ℕ). byte ∷ b) c.parts;
      levels = Levels-plain byte h c.levels;
      value = c.value ∙ append_assoc before (kept byte rest) c.text ∙ ap (λ (k : List ℕ). before ++ (k ++ c.text)) same;
      len = omega (arith, c.len);
    }

closes_pair : (at depth : ℕ) (before : List ℕ) (byte : ℕ) (rest : List ℕ) (group : Found (List ℕ)) → begins_with_line_end (byte ∷ rest) ≡ false
    → Closes (at + 1 + 1) depth (before ++ backslash ∷ byte ∷ []) rest group → Closes at depth before (backslash ∷ byte ∷ rest) group
closes_pair at depth before byte rest group h c =
    let apart : begins_with_line_end (byte ∷ c.inner) ≡ false =
    sym (begins_with_line_end-append byte c.inner close_brace c.after refl) ∙ ap (λ (b : List ℕ). begins_with_line_end (byte ∷ b)) (sym c.parts) ∙ h in
    record {
      inner = backslash ∷ byte ∷ c.inner;
      text = backslash ∷ byte ∷ c.text;
      after = c.after;
      parts = ap (λ (b : List ℕ). backslash ∷ byte ∷ b) c.parts;
      levels = Levels-pair byte apart c.levels;
      value = c.value ∙ append_assoc before (backslash ∷ byte ∷ []) c.text;
      len = omega (arith, c.len);
    }

closes_join : (at depth : ℕ) (before rest : List ℕ) (group : Found (List ℕ)) → begins_with_line_end rest ≡ true
    → Closes (at + 1 + join_tail rest) depth (before ++ space ∷ []) (drop (join_tail rest) rest) group → Closes at depth before (backslash ∷ rest) group
closes_join at depth before rest group h c =
    let n = join_tail rest in
    let join : List ℕ = backslash ∷ take n rest in
    let is : IsJoin join (drop n rest) = join_is rest h in
    let stops : begins_with is_space_or_tab c.inner ≡ false = sym (begins_with-append is_space_or_tab c.inner close_brace c.after refl) ∙ ap (begins_with is_space_or_tab) (sym c.parts) ∙ is.are_all in
    let within : length (take n rest) ≡ n = length-take-le n rest (join_tail-le rest h) in
    record {
      inner = join ++ c.inner;
      text = space ∷ c.text;
      after = c.after;
      parts = ap (λ (b : List ℕ). backslash ∷ b) (sym (take-append-drop n rest) ∙ ap (λ (b : List ℕ). take n rest ++ b) c.parts ∙ sym (append_assoc (take n rest) c.inner (close_brace ∷ c.after)));
      levels = Levels-join join (join_before c.inner stops is) c.levels;
      value = c.value ∙ append_assoc before (space ∷ []) c.text;
      len = omega (arith, c.len, length-append (take n rest) c.inner, within);
    }

-- ---- the steps of reading

plain_from : (byte : ℕ) → (byte == close_brace) ≡ false → (byte == open_brace) ≡ false → (byte == backslash) ≡ false → is_plain_in_braces byte ≡ true
plain_from byte a b c = not_from_false (byte == open_brace || (byte == close_brace || byte == backslash)) (or_from _ _ b (or_from _ _ a c))

not_zero : (depth : ℕ) → (depth == 0) ≡ false → depth ≡ suc (depth - 1)
not_zero depth e = let some : depth ≡ 0 → ⊥ = eqb-false depth 0 e in omega arith

-- what reading goes on with, behind one byte
abbrev GoesOn : List ℕ → Type 0
GoesOn rest = (skip at depth : ℕ) (before : List ℕ) (group : Found (List ℕ)) → braced skip at depth before rest ≡ Ok group → Closes (at + skip) depth before (drop skip rest) group

at_close : (at depth : ℕ) (before rest : List ℕ) (group : Found (List ℕ)) → GoesOn rest
    → cond (depth == 0) (found before (at + 1)) (braced 0 (at + 1) (depth - 1) (before ++ close_brace ∷ []) rest) ≡ Ok group → Closes at depth before (close_brace ∷ rest) group
at_close at depth before rest group goes_on e =
    elim (chosen (depth == 0) _ _ _ e) [
      | inl ended ↦ subst (λ (d : ℕ). Closes at d before (close_brace ∷ rest) group) (sym (eqb-true depth 0 ended.0)) (closes_last at before rest group ended.1)
      | inr level ↦ let c = goes_on 0 (at + 1) (depth - 1) (before ++ close_brace ∷ []) group level.1 in
          subst (λ (d : ℕ). Closes at d before (close_brace ∷ rest) group) (sym (not_zero depth level.0))
          (closes_level at (depth - 1) before rest group (subst (λ (n : ℕ). Closes n (depth - 1) (before ++ close_brace ∷ []) rest group) (add-zero (at + 1)) c))
    ]

at_open : (at depth : ℕ) (before rest : List ℕ) (group : Found (List ℕ)) → GoesOn rest
    → braced 0 (at + 1) (depth + 1) (before ++ open_brace ∷ []) rest ≡ Ok group → Closes at depth before (open_brace ∷ rest) group
at_open at depth before rest group goes_on e =
    let c = goes_on 0 (at + 1) (depth + 1) (before ++ open_brace ∷ []) group e in
    let up : depth + 1 ≡ suc depth = omega arith in
    closes_open at depth before rest group
    (subst (λ (n : ℕ). Closes n (suc depth) (before ++ open_brace ∷ []) rest group) (add-zero (at + 1))
    (subst (λ (d : ℕ). Closes (at + 1 + 0) d (before ++ open_brace ∷ []) rest group) up c))

at_pair : (at depth : ℕ) (before rest : List ℕ) (group : Found (List ℕ)) → GoesOn rest → begins_with_line_end rest ≡ false
    → braced 1 (at + 1) depth (before ++ take 2 (backslash ∷ rest)) rest ≡ Ok group → Closes at depth before (backslash ∷ rest) group
unfolding braced
at_pair at depth before [] group goes_on h e = absurd cc
at_pair at depth before (byte ∷ rest) group goes_on h e =
    closes_pair at depth before byte rest group h (goes_on 1 (at + 1) depth (before ++ backslash ∷ byte ∷ []) group e)

at_backslash : (at depth : ℕ) (before rest : List ℕ) (group : Found (List ℕ)) → GoesOn rest
    → cond (begins_with_line_end rest) (braced (join_tail rest) (at + 1) depth (before ++ space ∷ []) rest) (braced 1 (at + 1) depth (before ++ take 2 (backslash ∷ rest)) rest) ≡ Ok group
    → Closes at depth before (backslash ∷ rest) group
at_backslash at depth before rest group goes_on e =
    elim (chosen (begins_with_line_end rest) _ _ _ e) [
      | inl joins ↦ closes_join at depth before rest group joins.0 (goes_on (join_tail rest) (at + 1) depth (before ++ space ∷ []) group joins.1)
      | inr pairs ↦ at_pair at depth before rest group goes_on pairs.0 pairs.1
    ]

at_byte : (at depth : ℕ) (before : List ℕ) (byte : ℕ) (rest : List ℕ) (group : Found (List ℕ)) → GoesOn rest → braced 0 at depth before (byte ∷ rest) ≡ Ok group → Closes at depth before (byte ∷ rest) group
unfolding braced
at_byte at depth before byte rest group goes_on e =
    elim (chosen (byte == close_brace) _ _ _ e) [
      | inl closes ↦ let is = eqb-true byte close_brace closes.0 in
          rw is (at_close at depth before rest group goes_on (subst (λ (b : ℕ). cond (depth == 0) (found before (at + 1)) (braced 0 (at + 1) (depth - 1) (before ++ b ∷ []) rest) ≡ Ok group) is closes.1))
      | inr others ↦ elim (chosen (byte == open_brace) _ _ _ others.1) [
        | inl opens ↦ let is = eqb-true byte open_brace opens.0 in
            rw is (at_open at depth before rest group goes_on (subst (λ (b : ℕ). braced 0 (at + 1) (depth + 1) (before ++ b ∷ []) rest ≡ Ok group) is opens.1))
        | inr left ↦ elim (chosen (byte == backslash) _ _ _ left.1) [
          | inl escapes ↦ let is = eqb-true byte backslash escapes.0 in
              rw is (at_backslash at depth before rest group goes_on (subst (λ (b : ℕ). cond (begins_with_line_end rest) (braced (join_tail rest) (at + 1) depth (before ++ space ∷ []) rest) (braced 1 (at + 1) depth (before ++ take 2 (b ∷ rest)) rest) ≡ Ok group) is escapes.1))
          | inr plain ↦ closes_plain at depth before byte rest group (plain_from byte others.0 left.0 plain.0)
              (subst (λ (n : ℕ). Closes n depth (before ++ kept byte rest) rest group) (add-zero (at + 1)) (goes_on 0 (at + 1) depth (before ++ kept byte rest) group plain.1))
        ]
      ]
    ]

braced-closes : (bytes : List ℕ) → GoesOn bytes
unfolding braced
braced-closes [] skip at depth before group e = absurd cc
braced-closes (byte ∷ rest) zero at depth before group e =
    subst (λ (n : ℕ). Closes n depth before (byte ∷ rest) group) (sym (add-zero at)) (at_byte at depth before byte rest group (braced-closes rest) e)
braced-closes (byte ∷ rest) (suc skip) at depth before group e =
    let sum : at + 1 + skip ≡ at + suc skip = omega arith in
    subst (λ (n : ℕ). Closes n depth before (drop skip rest) group) sum (braced-closes rest skip (at + 1) depth before group e)

-- the text in braces that was read
pub record IsGroup (bytes : List ℕ) (group : Found (List ℕ)) : Type 0 where
  pub inner : List ℕ
  pub after : List ℕ
  pub parts : bytes ≡ inner ++ close_brace ∷ after
  pub inside : InBraces inner group.value
  pub len : group.len ≡ length inner + 2

outer : {bytes text : List ℕ} → Levels 0 bytes text → InBraces bytes text
outer (Levels.last inside) = inside

pub braced-takes : (bytes : List ℕ) (group : Found (List ℕ)) → braced 0 1 0 [] bytes ≡ Ok group → IsGroup bytes group
braced-takes bytes group e =
    let c = braced-closes bytes 0 1 0 [] group e in
    record {
      inner = c.inner;
      after = c.after;
      parts = c.parts;
      inside = subst (λ (t : List ℕ). InBraces c.inner t) (sym c.value) (outer c.levels);
      len = omega (arith, c.len);
    }
