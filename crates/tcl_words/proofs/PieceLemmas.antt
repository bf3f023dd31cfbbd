-- The piece at the front: what is read is a piece, and a piece is read.
use Rattle.std.proofs.Common.{◌≡◌, ℕ, suc, ◌+◌, ◌<◌, Bool, true, false, ◌&&◌, ◌||◌, ◌==◌, cond, List, [], ◌∷◌, ◌++◌, length, take, drop, refl, sym, ap, subst, ◌∙◌, inl, inr, arith, append_assoc}
use Rattle.std.specs.Prelude.{IsTrue, Result, Ok, Err}
use Rattle.std.specs.List.{list_all}
use Rattle.std.proofs.lemmas.Bool.{eqb-true, true≢false, or_from, and_parts, and_left, not_from_false}
use Rattle.std.proofs.lemmas.List.{length-append, length-take-le, take_at, drop_at, take-append-drop}
use Rattle.tcl_words.specs.declared.rule.Rule.TheVariants.{Backslash, AfterClose}
use Rattle.tcl_words.specs.declared.pieces.Piece.{Piece}
use Rattle.tcl_words.specs.declared.pieces.Piece.TheVariants.{Gap, End, Says}
use Rattle.tcl_words.specs.Bytes.{backslash, hash, quote, open_brace, close_brace, is_blank, is_separator, begins_with_line_end, ends_word}
use Rattle.tcl_words.specs.Reading.{Found, found, flaw, ◌>>=◌, join_tail, comment_len, bare_len, braced, quoted, grouped, piece_of}
use Rattle.tcl_words.specs.Spelling.{IsPiece, is_bare, begins_bare}
use Rattle.tcl_words.proofs.Runs.{chosen, one-plus, join_is, join_tail-le}
use Rattle.tcl_words.proofs.BareWords.{bare-takes}
use Rattle.tcl_words.proofs.Comments.{comment_is, comment-le}
use Rattle.tcl_words.proofs.Levels.{braced-takes}
use Rattle.tcl_words.proofs.Quotes.{quoted-takes}

-- the value of a step that did not fail
pub bind_ok : {A B E : Type 0} (r : Result A E) (f : A → Result B E) (y : B) → (r >>= f) ≡ Ok y → (x : A) × (r ≡ Ok x) × (f x ≡ Ok y)
bind_ok (Ok x) f y e = (x, refl, e)
bind_ok (Err d) f y e = absurd cc

-- a piece that was read
pub record IsFound (fresh : Bool) (bytes : List ℕ) (piece : Found Piece) : Type 0 where
  pub text : List ℕ
  pub rest : List ℕ
  pub parts : bytes ≡ text ++ rest
  pub len : piece.len ≡ length text
  pub some : 0 < piece.len
  pub is : IsPiece fresh piece.value text rest

piece_is : (x y : Found Piece) → found x.value x.len ≡ Ok y → x ≡ y
piece_is x y e = cc

is_found : (fresh : Bool) (bytes text rest : List ℕ) (value : Piece) (len : ℕ) (piece : Found Piece) → found value len ≡ Ok piece → bytes ≡ text ++ rest → len ≡ length text → 0 < len
    → IsPiece fresh value text rest → IsFound fresh bytes piece
is_found fresh bytes text rest value len piece e parts size some is =
    let made : Found Piece = record { value = value; len = len } in
    subst (IsFound fresh bytes) (piece_is made piece e) (record { text = text; rest = rest; parts = parts; len = size; some = some; is = is })

takes_join : (fresh : Bool) (rest : List ℕ) (piece : Found Piece) → cond (begins_with_line_end rest) (found Gap (1 + join_tail rest)) (flaw 0 Backslash) ≡ Ok piece → IsFound fresh (backslash ∷ rest) piece
takes_join fresh rest piece e =
    elim (chosen (begins_with_line_end rest) _ _ _ e) [
      | inl joins ↦
          let n = join_tail rest in
          is_found fresh (backslash ∷ rest) (backslash ∷ take n rest) (drop n rest) Gap (1 + n) piece joins.1
          (ap (λ (b : List ℕ). backslash ∷ b) (sym (take-append-drop n rest)))
          (one-plus n ∙ ap suc (sym (length-take-le n rest (join_tail-le rest joins.0)))) (omega arith) (IsPiece.join (join_is rest joins.0))
      | inr alone ↦ absurd (let e : flaw 0 Backslash ≡ Ok piece = alone.1 in cc)
    ]

takes_comment : (rest : List ℕ) (piece : Found Piece) → found Gap (1 + comment_len false rest) ≡ Ok piece → IsFound true (hash ∷ rest) piece
takes_comment rest piece e =
    let n = comment_len false rest in
    is_found true (hash ∷ rest) (hash ∷ take n rest) (drop n rest) Gap (1 + n) piece e
    (ap (λ (b : List ℕ). hash ∷ b) (sym (take-append-drop n rest)))
    (one-plus n ∙ ap suc (sym (length-take-le n rest (comment-le false rest)))) (omega arith) (IsPiece.comment (comment_is rest))

-- what stands behind a group
pub behind_group : (opener closer : ℕ) (bytes inner after : List ℕ) (len : ℕ) → bytes ≡ inner ++ closer ∷ after → len ≡ length inner + 2 → drop len (opener ∷ bytes) ≡ after
behind_group opener closer bytes inner after len parts size =
    let count : length (opener ∷ (inner ++ closer ∷ [])) ≡ len = omega (arith, length-append inner (closer ∷ []), size) in
    let whole : opener ∷ bytes ≡ (opener ∷ (inner ++ closer ∷ [])) ++ after = ap (λ (b : List ℕ). opener ∷ b) (parts ∙ sym (append_assoc inner (closer ∷ []) after)) in
    ap (drop len) whole ∙ drop_at (opener ∷ (inner ++ closer ∷ [])) after len count

takes_group : (fresh : Bool) (opener closer : ℕ) (bytes inner after : List ℕ) (group : Found (List ℕ)) (piece : Found Piece) → bytes ≡ inner ++ closer ∷ after → group.len ≡ length inner + 2
    → grouped (opener ∷ bytes) group ≡ Ok piece → (IsTrue (ends_word after) → IsPiece fresh (Says group.value) (opener ∷ (inner ++ closer ∷ [])) after) → IsFound fresh (opener ∷ bytes) piece
takes_group fresh opener closer bytes inner after group piece parts size e is =
    elim (chosen (ends_word (drop group.len (opener ∷ bytes))) _ _ _ e) [
      | inl ends ↦
          is_found fresh (opener ∷ bytes) (opener ∷ (inner ++ closer ∷ [])) after (Says group.value) group.len piece ends.1
          (ap (λ (b : List ℕ). opener ∷ b) (parts ∙ sym (append_assoc inner (closer ∷ []) after)))
          (omega (arith, length-append inner (closer ∷ []), size)) (omega (arith, size))
          (is (sym (ap ends_word (behind_group opener closer bytes inner after group.len parts size)) ∙ ends.0))
      | inr others ↦ absurd (let e : flaw group.len AfterClose ≡ Ok piece = others.1 in cc)
    ]

takes_braces : (fresh : Bool) (rest : List ℕ) (piece : Found Piece) → (braced 0 1 0 [] rest >>= grouped (open_brace ∷ rest)) ≡ Ok piece → IsFound fresh (open_brace ∷ rest) piece
takes_braces fresh rest piece e =
    let b = bind_ok (braced 0 1 0 [] rest) (grouped (open_brace ∷ rest)) piece e in
    let g = braced-takes rest b.0 b.1 in
    takes_group fresh open_brace close_brace rest g.inner g.after b.0 piece g.parts g.len b.2 (λ ends. IsPiece.braced g.inside ends)

takes_quotes : (fresh : Bool) (rest : List ℕ) (piece : Found Piece) → (quoted 0 1 [] rest >>= grouped (quote ∷ rest)) ≡ Ok piece → IsFound fresh (quote ∷ rest) piece
takes_quotes fresh rest piece e =
    let b = bind_ok (quoted 0 1 [] rest) (grouped (quote ∷ rest)) piece e in
    let g = quoted-takes rest b.0 b.1 in
    takes_group fresh quote quote rest g.inner g.after b.0 piece g.parts g.len b.2 (λ ends. IsPiece.quoted g.inside ends)

takes_bare_word : (fresh : Bool) (bytes word after : List ℕ) (len : ℕ) (piece : Found Piece) → bytes ≡ word ++ after → ends_word bytes ≡ false → IsTrue (list_all is_bare word) → IsTrue (ends_word after) → len ≡ 0 + length word
    → ((byte : ℕ) (rest : List ℕ) → bytes ≡ byte ∷ rest → IsTrue (begins_bare fresh byte)) → found (Says (take len bytes)) len ≡ Ok piece → IsFound fresh bytes piece
takes_bare_word fresh bytes [] after len piece parts goes bare ends size begins e = absurd (true≢false (sym (ap ends_word parts ∙ ends) ∙ goes))
takes_bare_word fresh bytes (byte ∷ word) after len piece parts goes bare ends size begins e =
    let count : length (byte ∷ word) ≡ len = omega (arith, size) in
    let says : take len bytes ≡ byte ∷ word = ap (take len) parts ∙ take_at (byte ∷ word) after len count in
    is_found fresh bytes (byte ∷ word) after (Says (byte ∷ word)) len piece (ap (λ (t : List ℕ). found (Says t) len) (sym says) ∙ e) parts (sym count) (omega (arith, count))
    (IsPiece.bare (begins byte (word ++ after) parts) bare ends)

begins_at : (fresh : Bool) (byte : ℕ) (rest : List ℕ) → IsTrue (begins_bare fresh byte) → (other : ℕ) (others : List ℕ) → byte ∷ rest ≡ other ∷ others → IsTrue (begins_bare fresh other)
begins_at fresh byte rest h other others e = let same : byte ≡ other = cc in subst (λ (b : ℕ). IsTrue (begins_bare fresh b)) same h

takes_bare : (fresh : Bool) (byte : ℕ) (rest : List ℕ) (piece : Found Piece) → ends_word (byte ∷ rest) ≡ false → IsTrue (begins_bare fresh byte)
    → (bare_len 0 (byte ∷ rest) >>= λ len. found (Says (take len (byte ∷ rest))) len) ≡ Ok piece → IsFound fresh (byte ∷ rest) piece
takes_bare fresh byte rest piece goes begins e =
    let b = bind_ok (bare_len 0 (byte ∷ rest)) (λ len. found (Says (take len (byte ∷ rest))) len) piece e in
    let w = bare-takes 0 (byte ∷ rest) b.0 b.1 in
    takes_bare_word fresh (byte ∷ rest) w.word w.rest b.0 piece w.parts goes w.bare w.ends w.len (begins_at fresh byte rest begins) b.2

takes_hash : (fresh : Bool) (rest : List ℕ) (piece : Found Piece) → fresh ≡ true → found Gap (1 + comment_len false rest) ≡ Ok piece → IsFound fresh (hash ∷ rest) piece
takes_hash fresh rest piece is e = subst (λ (f : Bool). IsFound f (hash ∷ rest) piece) (sym is) (takes_comment rest piece e)

pub piece-takes : (fresh : Bool) (byte : ℕ) (rest : List ℕ) (piece : Found Piece) → piece_of fresh (byte ∷ rest) ≡ Ok piece → IsFound fresh (byte ∷ rest) piece
unfolding piece_of
piece-takes fresh byte rest piece e =
    elim (chosen (is_blank byte) _ _ _ e) [
      | inl blank ↦ is_found fresh (byte ∷ rest) (byte ∷ []) rest Gap 1 piece blank.1 refl refl (omega arith) (IsPiece.blank byte blank.0)
      | inr a ↦ elim (chosen (is_separator byte) _ _ _ a.1) [
        | inl ends ↦ is_found fresh (byte ∷ rest) (byte ∷ []) rest End 1 piece ends.1 refl refl (omega arith) (IsPiece.end byte ends.0)
        | inr b ↦ elim (chosen (byte == backslash) _ _ _ b.1) [
          | inl escapes ↦ rw (eqb-true byte backslash escapes.0) (takes_join fresh rest piece escapes.1)
          | inr c ↦ elim (chosen (byte == hash && fresh) _ _ _ c.1) [
            | inl comments ↦ let parts = and_parts (byte == hash) fresh comments.0 in rw (eqb-true byte hash parts.0) (takes_hash fresh rest piece parts.1 comments.1)
            | inr d ↦ elim (chosen (byte == open_brace) _ _ _ d.1) [
              | inl opens ↦ let is = eqb-true byte open_brace opens.0 in
                  rw is (takes_braces fresh rest piece (subst (λ (b : ℕ). (braced 0 1 0 [] rest >>= grouped (b ∷ rest)) ≡ Ok piece) is opens.1))
              | inr f ↦ elim (chosen (byte == quote) _ _ _ f.1) [
                | inl quotes ↦ let is = eqb-true byte quote quotes.0 in
                    rw is (takes_quotes fresh rest piece (subst (λ (b : ℕ). (quoted 0 1 [] rest >>= grouped (b ∷ rest)) ≡ Ok piece) is quotes.1))
                | inr g ↦ takes_bare fresh byte rest piece
                    (or_from _ _ a.0 (or_from _ _ b.0 (and_left (byte == backslash) (begins_with_line_end rest) c.0)))
                    (not_from_false (byte == open_brace || (byte == quote || (byte == hash && fresh))) (or_from _ _ f.0 (or_from _ _ g.0 d.0))) g.1
              ]
            ]
          ]
        ]
      ]
    ]
