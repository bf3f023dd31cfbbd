-- Words in braces: what is read is between braces, and what is between braces is read.
use Rattle.std.proofs.Common.{◌≡◌, ℕ, zero, suc, ◌+◌, ◌-◌, Bool, true, false, ◌||◌, ◌==◌, cond, List, [], ◌∷◌, ◌++◌, length, take, drop, refl, sym, ap, ◌∙◌, arith, append_assoc, add-zero}
use Rattle.std.specs.Prelude.{Result}
use Rattle.std.proofs.lemmas.Bool.{or_parts, not-true}
use Rattle.std.proofs.lemmas.List.{length-append, append-nil, drop_at}
use Rattle.tcl_words.specs.Bytes.{space, backslash, open_brace, close_brace, is_space_or_tab, begins_with, begins_with_line_end, kept}
use Rattle.tcl_words.specs.Reading.{Flaw, Found, found, join_tail, braced}
use Rattle.tcl_words.specs.Spelling.{IsJoin, InBraces, is_plain_in_braces}
use Rattle.tcl_words.proofs.Runs.{begins_with-append, kept-append, begins_with_line_end-append, join_reads, join_before}

-- bytes that are passed over
pub braced-skip : (skip at depth : ℕ) (text bytes : List ℕ) → braced skip at depth text bytes ≡ braced 0 (at + skip) depth text (drop skip bytes)
unfolding braced
braced-skip zero at depth text bytes = ap (λ (n : ℕ). braced 0 n depth text bytes) (sym (add-zero at))
braced-skip (suc skip) at depth text [] = refl
braced-skip (suc skip) at depth text (byte ∷ rest) =
    let sum : at + 1 + skip ≡ at + suc skip = omega arith in
    braced-skip skip (at + 1) depth text rest ∙ ap (λ (n : ℕ). braced 0 n depth text (drop skip rest)) sum

-- ---- what is between braces is read

-- the tests of a byte that stands for itself
pub plain_tests : (byte : ℕ) → is_plain_in_braces byte ≡ true → ((byte == open_brace) ≡ false) × ((byte == close_brace) ≡ false) × ((byte == backslash) ≡ false)
plain_tests byte h =
    let a = or_parts (byte == open_brace) (byte == close_brace || byte == backslash) (not-true _ h) in
    let b = or_parts (byte == close_brace) (byte == backslash) a.1 in
    (a.0, b.0, b.1)

plain_step : (closes opens escapes : Bool) (x y z w : Result (Found (List ℕ)) Flaw) → closes ≡ false → opens ≡ false → escapes ≡ false
    → cond closes x (cond opens y (cond escapes z w)) ≡ w
plain_step closes opens escapes x y z w a b c = rw (a, b, c) refl

module _ (at depth : ℕ) (before : List ℕ) where
  braced-plain : (byte : ℕ) (rest : List ℕ) → is_plain_in_braces byte ≡ true → braced 0 at depth before (byte ∷ rest) ≡ braced 0 (at + 1) depth (before ++ kept byte rest) rest
  unfolding braced
  braced-plain byte rest h = let tests = plain_tests byte h in plain_step (byte == close_brace) (byte == open_brace) (byte == backslash) _ _ _ _ tests.1 tests.0 tests.2

  braced-open : (rest : List ℕ) → braced 0 at depth before (open_brace ∷ rest) ≡ braced 0 (at + 1) (depth + 1) (before ++ open_brace ∷ []) rest
  unfolding braced
  braced-open rest = refl

  braced-close : (rest : List ℕ) → braced 0 at (depth + 1) before (close_brace ∷ rest) ≡ braced 0 (at + 1) depth (before ++ close_brace ∷ []) rest
  unfolding braced
  braced-close rest =
      let inside : (depth + 1 == 0) ≡ false = grind arith in
      let less : depth + 1 - 1 ≡ depth = omega arith in
      rw (inside, less) refl

  braced-end : (rest : List ℕ) → braced 0 at 0 before (close_brace ∷ rest) ≡ found before (at + 1)
  unfolding braced
  braced-end rest = refl

  braced-pair : (byte : ℕ) (rest : List ℕ) → begins_with_line_end (byte ∷ rest) ≡ false
      → braced 0 at depth before (backslash ∷ byte ∷ rest) ≡ braced 0 (at + 2) depth (before ++ backslash ∷ byte ∷ []) rest
  unfolding braced
  braced-pair byte rest h =
      let sum : at + 1 + 1 ≡ at + 2 = omega arith in
      rw (h, sum) refl

  braced-join : {join rest : List ℕ} → IsJoin join rest → braced 0 at depth before (join ++ rest) ≡ braced 0 (at + length join) depth (before ++ space ∷ []) rest
  unfolding braced
  braced-join {join} {rest} is =
      let r = join_reads is in
      let whole : join ++ rest ≡ backslash ∷ (r.tail ++ rest) = ap (λ (j : List ℕ). j ++ rest) r.begins in
      let sum : at + 1 + length r.tail ≡ at + length join = omega (arith, ap length r.begins) in
      ap (braced 0 at depth before) whole
      ∙ ap (λ (t : Bool). cond t (braced (join_tail (r.tail ++ rest)) (at + 1) depth (before ++ space ∷ []) (r.tail ++ rest)) (braced 1 (at + 1) depth (before ++ take 2 (backslash ∷ (r.tail ++ rest))) (r.tail ++ rest))) r.is_end
      ∙ ap (λ (n : ℕ). braced n (at + 1) depth (before ++ space ∷ []) (r.tail ++ rest)) r.is_tail
      ∙ braced-skip (length r.tail) (at + 1) depth (before ++ space ∷ []) (r.tail ++ rest)
      ∙ ap (λ (bytes : List ℕ). braced 0 (at + 1 + length r.tail) depth (before ++ space ∷ []) bytes) (drop_at r.tail rest (length r.tail) refl)
      ∙ ap (λ (n : ℕ). braced 0 n depth (before ++ space ∷ []) rest) sum

pub braced-inside : {bytes text : List ℕ} → InBraces bytes text → (at depth : ℕ) (before after : List ℕ)
    → braced 0 at depth before (bytes ++ close_brace ∷ after) ≡ braced 0 (at + length bytes) depth (before ++ text) (close_brace ∷ after)
braced-inside InBraces.nothing at depth before after =
    let none : at + 0 ≡ at = omega arith in
    rw (none, append-nil before) refl
braced-inside (InBraces.plain {bytes} {text} byte h inside) at depth before after =
    let sum : at + 1 + length bytes ≡ at + suc (length bytes) = omega arith in
    braced-plain at depth before byte (bytes ++ close_brace ∷ after) h
    ∙ ap (λ (k : List ℕ). braced 0 (at + 1) depth (before ++ k) (bytes ++ close_brace ∷ after)) (kept-append byte bytes close_brace after refl)
    ∙ braced-inside inside (at + 1) depth (before ++ kept byte bytes) after
    ∙ ap (λ (n : ℕ). braced 0 n depth (before ++ kept byte bytes ++ text) (close_brace ∷ after)) sum
    ∙ ap (λ (t : List ℕ). braced 0 (at + suc (length bytes)) depth t (close_brace ∷ after)) (append_assoc before (kept byte bytes) text)
braced-inside (InBraces.group {inner} {inner_text} {bytes} {text} in_group inside) at depth before after =
    let n = length inner in
    let sum : at + 1 + n + 1 + length bytes ≡ at + length (open_brace ∷ (inner ++ close_brace ∷ bytes)) = omega (arith, length-append inner (close_brace ∷ bytes)) in
    let texts : ((before ++ open_brace ∷ []) ++ inner_text) ++ close_brace ∷ [] ++ text ≡ before ++ (open_brace ∷ (inner_text ++ close_brace ∷ text)) =
    append_assoc ((before ++ open_brace ∷ []) ++ inner_text) (close_brace ∷ []) text ∙ append_assoc (before ++ open_brace ∷ []) inner_text (close_brace ∷ text) ∙ append_assoc before (open_brace ∷ []) (inner_text ++ close_brace ∷ text) in
    braced-open at depth before ((inner ++ close_brace ∷ bytes) ++ close_brace ∷ after)
    ∙ ap (braced 0 (at + 1) (depth + 1) (before ++ open_brace ∷ [])) (append_assoc inner (close_brace ∷ bytes) (close_brace ∷ after))
    ∙ braced-inside in_group (at + 1) (depth + 1) (before ++ open_brace ∷ []) (bytes ++ close_brace ∷ after)
    ∙ braced-close (at + 1 + n) depth ((before ++ open_brace ∷ []) ++ inner_text) (bytes ++ close_brace ∷ after)
    ∙ braced-inside inside (at + 1 + n + 1) depth (((before ++ open_brace ∷ []) ++ inner_text) ++ close_brace ∷ []) after
    ∙ ap (λ (k : ℕ). braced 0 k depth ((((before ++ open_brace ∷ []) ++ inner_text) ++ close_brace ∷ []) ++ text) (close_brace ∷ after)) sum
    ∙ ap (λ (t : List ℕ). braced 0 (at + length (open_brace ∷ (inner ++ close_brace ∷ bytes))) depth t (close_brace ∷ after)) texts
braced-inside (InBraces.pair {bytes} {text} byte h inside) at depth before after =
    let sum : at + 2 + length bytes ≡ at + suc (suc (length bytes)) = omega arith in
    braced-pair at depth before byte (bytes ++ close_brace ∷ after) (begins_with_line_end-append byte bytes close_brace after refl ∙ h)
    ∙ braced-inside inside (at + 2) depth (before ++ backslash ∷ byte ∷ []) after
    ∙ ap (λ (n : ℕ). braced 0 n depth ((before ++ backslash ∷ byte ∷ []) ++ text) (close_brace ∷ after)) sum
    ∙ ap (λ (t : List ℕ). braced 0 (at + suc (suc (length bytes))) depth t (close_brace ∷ after)) (append_assoc before (backslash ∷ byte ∷ []) text)
braced-inside (InBraces.joined {bytes} {text} join is inside) at depth before after =
    let sum : at + length join + length bytes ≡ at + length (join ++ bytes) = omega (arith, length-append join bytes) in
    let stops : begins_with is_space_or_tab (bytes ++ close_brace ∷ after) ≡ false = begins_with-append is_space_or_tab bytes close_brace after refl ∙ is.are_all in
    ap (braced 0 at depth before) (append_assoc join bytes (close_brace ∷ after))
    ∙ braced-join at depth before (join_before (bytes ++ close_brace ∷ after) stops is)
    ∙ braced-inside inside (at + length join) depth (before ++ space ∷ []) after
    ∙ ap (λ (n : ℕ). braced 0 n depth ((before ++ space ∷ []) ++ text) (close_brace ∷ after)) sum
    ∙ ap (λ (t : List ℕ). braced 0 (at + length (join ++ bytes)) depth t (close_brace ∷ after)) (append_assoc before (space ∷ []) text)

-- a word in braces is read
pub braced-again : {bytes text : List ℕ} → InBraces bytes text → (after : List ℕ) → braced 0 1 0 [] (bytes ++ close_brace ∷ after) ≡ found text (length bytes + 2)
braced-again {bytes} {text} inside after =
    let sum : 1 + length bytes + 1 ≡ length bytes + 2 = omega arith in
    braced-inside inside 1 0 [] after ∙ braced-end (1 + length bytes) 0 text after ∙ ap (found text) sum
