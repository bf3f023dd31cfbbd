-- Reading at a place of a text, one step on.
use Rattle.std.proofs.Common.{◌≡◌, ℕ, ◌+◌, ◌-◌, ◌<◌, Bool, true, false, ◌&&◌, ◌==◌, cond, min, List, [], ◌∷◌, ◌++◌, length, take, drop, get_or, refl, ap, ◌∙◌, arith}
use Rattle.std.specs.Prelude.{not}
use Rattle.std.proofs.lemmas.Bool.{ne_eqb, eq-eqb, cond-true, true≢false}
use Rattle.std.proofs.lemmas.List.{drop_more, drop-drop, take_min, length-drop}
use Rattle.tcl_words.specs.declared.rule.Rule.TheVariants.{Substitution, Backslash, OpenBrace, OpenQuote}
use Rattle.tcl_words.specs.declared.pieces.Piece.TheVariants.{Gap, End}
use Rattle.tcl_words.specs.Bytes.{line_feed, carriage_return, space, backslash, hash, quote, open_brace, close_brace, is_blank, is_separator, substitutes, begins_with_line_feed, begins_with_line_end, ends_word, kept}
use Rattle.tcl_words.specs.Reading.{found, flaw, join_tail, comment_len, bare_len, braced, quoted, join_of, word_of, piece_of}
use Rattle.tcl_words.proofs.Braces.{braced-skip}
use Rattle.tcl_words.proofs.Quotes.{quoted-skip}

-- the bytes that are added for a backslash and the byte behind it
pub pair_taken : (bytes : List ℕ) (at : ℕ) → at < length bytes → take (min (length bytes) (at + 2) - at) (drop at bytes) ≡ take 2 (drop at bytes)
pair_taken bytes at h =
    let len = length-drop at bytes in
    let size : min (length bytes) (at + 2) - at ≡ min 2 (length (drop at bytes)) = omega (arith, len) in
    ap (λ (n : ℕ). take n (drop at bytes)) size ∙ take_min 2 (drop at bytes)

chain : {X : Type 0} (a b c : Bool) (x y z w : X) → a ≡ false → b ≡ false → c ≡ false → cond a x (cond b y (cond c z w)) ≡ w
chain a b c x y z w ha hb hc = rw (ha, hb, hc) refl

second : {X : Type 0} (a b : Bool) (x y z : X) → a ≡ false → b ≡ true → cond a x (cond b y z) ≡ y
second a b x y z ha hb = rw (ha, hb) refl

third : {X : Type 0} (a b c : Bool) (x y z w : X) → a ≡ false → b ≡ false → c ≡ true → cond a x (cond b y (cond c z w)) ≡ z
third a b c x y z w ha hb hc = rw (ha, hb, hc) refl

other : {X : Type 0} (a b : Bool) (x y z : X) → a ≡ false → b ≡ false → cond a x (cond b y z) ≡ z
other a b x y z ha hb = rw (ha, hb) refl

and_false : (b : Bool) → (b && false) ≡ false
and_false true = refl
and_false false = refl

-- ---- a byte and what stands behind it

module _ (at depth : ℕ) (text : List ℕ) (byte : ℕ) (rest : List ℕ) where
  pub brace_end : byte ≡ close_brace → depth ≡ 0 → braced 0 at depth text (byte ∷ rest) ≡ found text (at + 1)
  unfolding braced
  brace_end is none = rw (is, none) refl

  pub brace_close : byte ≡ close_brace → (depth ≡ 0 → ⊥) → braced 0 at depth text (byte ∷ rest) ≡ braced 0 (at + 1) (depth - 1) (text ++ close_brace ∷ []) rest
  unfolding braced
  brace_close is some = rw (is, ne_eqb depth 0 some) refl

  pub brace_open : byte ≡ open_brace → braced 0 at depth text (byte ∷ rest) ≡ braced 0 (at + 1) (depth + 1) (text ++ open_brace ∷ []) rest
  unfolding braced
  brace_open is = rw is refl

  pub brace_join : byte ≡ backslash → begins_with_line_end rest ≡ true → braced 0 at depth text (byte ∷ rest) ≡ braced 0 (at + (1 + join_tail rest)) depth (text ++ space ∷ []) (drop (join_tail rest) rest)
  unfolding braced
  brace_join is joins =
      let sum : at + 1 + join_tail rest ≡ at + (1 + join_tail rest) = omega arith in
      rw (is, joins) (braced-skip (join_tail rest) (at + 1) depth (text ++ space ∷ []) rest ∙ ap (λ (n : ℕ). braced 0 n depth (text ++ space ∷ []) (drop (join_tail rest) rest)) sum)

  pub brace_pair : byte ≡ backslash → begins_with_line_end rest ≡ false → braced 0 at depth text (byte ∷ rest) ≡ braced 0 (at + 2) depth (text ++ take 2 (byte ∷ rest)) (drop 1 rest)
  unfolding braced
  brace_pair is pairs =
      let sum : at + 1 + 1 ≡ at + 2 = omega arith in
      rw (is, pairs) (braced-skip 1 (at + 1) depth (text ++ take 2 (backslash ∷ rest)) rest ∙ ap (λ (n : ℕ). braced 0 n depth (text ++ take 2 (backslash ∷ rest)) (drop 1 rest)) sum)

  pub brace_plain : (byte ≡ close_brace → ⊥) → (byte ≡ open_brace → ⊥) → (byte ≡ backslash → ⊥) → braced 0 at depth text (byte ∷ rest) ≡ braced 0 (at + 1) depth (text ++ kept byte rest) rest
  unfolding braced
  brace_plain a b c = chain (byte == close_brace) (byte == open_brace) (byte == backslash) _ _ _ _ (ne_eqb byte close_brace a) (ne_eqb byte open_brace b) (ne_eqb byte backslash c)

  pub quote_end : byte ≡ quote → quoted 0 at text (byte ∷ rest) ≡ found text (at + 1)
  unfolding quoted
  quote_end is = rw is refl

  pub quote_refused : (byte ≡ quote → ⊥) → substitutes byte ≡ true → quoted 0 at text (byte ∷ rest) ≡ flaw at Substitution
  unfolding quoted
  quote_refused others h = second (byte == quote) (substitutes byte) _ _ _ (ne_eqb byte quote others) h

  pub quote_join : byte ≡ backslash → begins_with_line_end rest ≡ true → quoted 0 at text (byte ∷ rest) ≡ quoted 0 (at + (1 + join_tail rest)) (text ++ space ∷ []) (drop (join_tail rest) rest)
  unfolding quoted
  quote_join is joins =
      let sum : at + 1 + join_tail rest ≡ at + (1 + join_tail rest) = omega arith in
      rw (is, joins) (quoted-skip (join_tail rest) (at + 1) (text ++ space ∷ []) rest ∙ ap (λ (n : ℕ). quoted 0 n (text ++ space ∷ []) (drop (join_tail rest) rest)) sum)

  pub quote_alone : byte ≡ backslash → begins_with_line_end rest ≡ false → quoted 0 at text (byte ∷ rest) ≡ flaw at Backslash
  unfolding quoted
  quote_alone is alone = rw (is, alone) refl

  pub quote_plain : (byte ≡ quote → ⊥) → substitutes byte ≡ false → (byte ≡ backslash → ⊥) → quoted 0 at text (byte ∷ rest) ≡ quoted 0 (at + 1) (text ++ kept byte rest) rest
  unfolding quoted
  quote_plain a b c = chain (byte == quote) (substitutes byte) (byte == backslash) _ _ _ _ (ne_eqb byte quote a) b (ne_eqb byte backslash c)

-- ---- pieces

fourth : {X : Type 0} (a b c d : Bool) (v x y z w : X) → a ≡ false → b ≡ false → c ≡ false → d ≡ true → cond a v (cond b x (cond c y (cond d z w))) ≡ z
fourth a b c d v x y z w ha hb hc hd = rw (ha, hb, hc, hd) refl

last : {X : Type 0} (a b c d : Bool) (v x y z w : X) → a ≡ false → b ≡ false → c ≡ false → d ≡ false → cond a v (cond b x (cond c y (cond d z w))) ≡ w
last a b c d v x y z w ha hb hc hd = rw (ha, hb, hc, hd) refl

module _ (fresh : Bool) (byte : ℕ) (rest : List ℕ) where
  pub piece_blank : is_blank byte ≡ true → piece_of fresh (byte ∷ rest) ≡ found Gap 1
  unfolding piece_of
  piece_blank h = cond-true (is_blank byte) _ _ h

  pub piece_end : is_blank byte ≡ false → is_separator byte ≡ true → piece_of fresh (byte ∷ rest) ≡ found End 1
  unfolding piece_of
  piece_end a b = second (is_blank byte) (is_separator byte) _ _ _ a b

  pub piece_join : is_blank byte ≡ false → is_separator byte ≡ false → byte ≡ backslash → piece_of fresh (byte ∷ rest) ≡ join_of rest
  unfolding piece_of
  piece_join a b is = third (is_blank byte) (is_separator byte) (byte == backslash) _ _ _ _ a b (eq-eqb byte backslash is)

  pub piece_comment : is_blank byte ≡ false → is_separator byte ≡ false → (byte ≡ backslash → ⊥) → (byte == hash && fresh) ≡ true → piece_of fresh (byte ∷ rest) ≡ found Gap (1 + comment_len false rest)
  unfolding piece_of
  piece_comment a b c d = fourth (is_blank byte) (is_separator byte) (byte == backslash) (byte == hash && fresh) _ _ _ _ _ a b (ne_eqb byte backslash c) d

  pub piece_word : is_blank byte ≡ false → is_separator byte ≡ false → (byte ≡ backslash → ⊥) → (byte == hash && fresh) ≡ false → piece_of fresh (byte ∷ rest) ≡ word_of byte rest
  unfolding piece_of
  piece_word a b c d = last (is_blank byte) (is_separator byte) (byte == backslash) (byte == hash && fresh) _ _ _ _ _ a b (ne_eqb byte backslash c) d

-- ---- comments

module _ (odd : Bool) (byte : ℕ) (rest : List ℕ) where
  pub comment_stops : byte ≡ line_feed → odd ≡ false → comment_len odd (byte ∷ rest) ≡ 0
  unfolding comment_len
  comment_stops is even = rw (is, even) refl

  pub comment_feed : byte ≡ line_feed → odd ≡ true → comment_len odd (byte ∷ rest) ≡ 1 + comment_len false rest
  unfolding comment_len
  comment_feed is joins = rw (is, joins) refl

  pub comment_backslash : byte ≡ backslash → comment_len odd (byte ∷ rest) ≡ 1 + comment_len (not odd) rest
  unfolding comment_len
  comment_backslash is = rw is refl

  pub comment_return : byte ≡ carriage_return → comment_len odd (byte ∷ rest) ≡ 1 + comment_len (odd && begins_with_line_feed rest) rest
  unfolding comment_len
  comment_return is = rw is refl

  pub comment_other : (byte ≡ line_feed → ⊥) → (byte ≡ backslash → ⊥) → (byte ≡ carriage_return → ⊥) → comment_len odd (byte ∷ rest) ≡ 1 + comment_len false rest
  unfolding comment_len
  comment_other a b c =
      other (byte == line_feed) (byte == backslash) _ _ _ (ne_eqb byte line_feed a) (ne_eqb byte backslash b)
      ∙ ap (λ (t : Bool). 1 + comment_len (odd && (t && begins_with_line_feed rest)) rest) (ne_eqb byte carriage_return c)
      ∙ ap (λ (t : Bool). 1 + comment_len t rest) (and_false odd)

pub comment_none : (odd : Bool) → comment_len odd [] ≡ 0
unfolding comment_len
comment_none odd = refl

-- ---- bare words

module _ (at : ℕ) (byte : ℕ) (rest : List ℕ) (goes : ends_word (byte ∷ rest) ≡ false) where
  pub bare_refused : substitutes byte ≡ true → bare_len at (byte ∷ rest) ≡ flaw at Substitution
  unfolding bare_len
  bare_refused h = second (ends_word (byte ∷ rest)) (substitutes byte) _ _ _ goes h

  pub bare_alone : substitutes byte ≡ false → byte ≡ backslash → bare_len at (byte ∷ rest) ≡ flaw at Backslash
  unfolding bare_len
  bare_alone h is = third (ends_word (byte ∷ rest)) (substitutes byte) (byte == backslash) _ _ _ _ goes h (eq-eqb byte backslash is)

  pub bare_on : substitutes byte ≡ false → (byte ≡ backslash → ⊥) → bare_len at (byte ∷ rest) ≡ bare_len (at + 1) rest
  unfolding bare_len
  bare_on h is = chain (ends_word (byte ∷ rest)) (substitutes byte) (byte == backslash) _ _ _ _ goes h (ne_eqb byte backslash is)

-- at the end of the text
pub brace_none : (at depth : ℕ) (text : List ℕ) → braced 0 at depth text [] ≡ flaw 0 OpenBrace
unfolding braced
brace_none at depth text = refl

pub quote_none : (at : ℕ) (text : List ℕ) → quoted 0 at text [] ≡ flaw 0 OpenQuote
unfolding quoted
quote_none at text = refl

-- ---- the same at a place

module _ (bytes : List ℕ) (at : ℕ) (inside : at < length bytes) where
  pub here : drop at bytes ≡ get_or bytes at 0 ∷ drop (at + 1) bytes
  here = drop_more bytes at 0 inside

  -- what stands behind a join that begins here
  pub behind_join : drop (join_tail (drop (at + 1) bytes)) (drop (at + 1) bytes) ≡ drop (at + (1 + join_tail (drop (at + 1) bytes))) bytes
  behind_join =
      let n = join_tail (drop (at + 1) bytes) in
      let sum : at + 1 + n ≡ at + (1 + n) = omega arith in
      drop-drop n (at + 1) bytes ∙ ap (λ (k : ℕ). drop k bytes) sum

  pub behind_pair : drop 1 (drop (at + 1) bytes) ≡ drop (at + 2) bytes
  behind_pair = let sum : at + 1 + 1 ≡ at + 2 = omega arith in drop-drop 1 (at + 1) bytes ∙ ap (λ (k : ℕ). drop k bytes) sum

-- the first byte
pub first_is : (bytes : List ℕ) → ends_word bytes ≡ false → bytes ≡ get_or bytes 0 0 ∷ drop 1 bytes
first_is [] goes = absurd (true≢false goes)
first_is (byte ∷ rest) goes = refl

pub some_first : (bytes : List ℕ) → 0 < length bytes → bytes ≡ get_or bytes 0 0 ∷ drop 1 bytes
some_first [] some = absurd (omega arith)
some_first (byte ∷ rest) some = refl
