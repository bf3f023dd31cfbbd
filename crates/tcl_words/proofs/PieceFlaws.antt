-- The flaw at the front of a text: what stands there, and back.
use Rattle.std.proofs.Common.{◌≡◌, ℕ, ◌+◌, Bool, true, false, ◌&&◌, ◌||◌, ◌==◌, cond, List, [], ◌∷◌, ◌++◌, length, take, drop, refl, sym, ap, subst, ◌∙◌, inl, inr, arith, append_assoc}
use Rattle.std.specs.Prelude.{Result, Ok, Err}
use Rattle.std.specs.List.{list_all}
use Rattle.std.proofs.lemmas.Bool.{eqb-true, true≢false, or_cases, or_from, and_parts, not_from_false}
use Rattle.std.proofs.lemmas.List.{length-append, append-nil}
use Rattle.tcl_words.specs.declared.rule.Rule.{Rule}
use Rattle.tcl_words.specs.declared.rule.Rule.TheVariants.{Backslash, OpenBrace, OpenQuote, AfterClose}
use Rattle.tcl_words.specs.declared.pieces.Piece.{Piece}
use Rattle.tcl_words.specs.declared.pieces.Piece.TheVariants.{Gap, End, Says}
use Rattle.tcl_words.specs.Bytes.{backslash, hash, quote, open_brace, close_brace, is_blank, is_separator, begins_with_line_end, ends_word}
use Rattle.tcl_words.specs.Reading.{Flaw, Found, found, flaw, ◌>>=◌, join_tail, comment_len, bare_len, braced, quoted, grouped, piece_of}
use Rattle.tcl_words.specs.Spelling.{InQuotes, is_bare, begins_bare}
use Rattle.tcl_words.specs.FirstFault.{IsOpenFront, IsClosed, IsNeverClosed, BreaksAt}
use Rattle.tcl_words.proofs.Runs.{chosen, one-plus}
use Rattle.tcl_words.proofs.Braces.{braced-again}
use Rattle.tcl_words.proofs.Levels.{braced-takes}
use Rattle.tcl_words.proofs.Quotes.{quoted-inside, quoted-again, quoted-takes}
use Rattle.tcl_words.proofs.PieceLemmas.{behind_group}
use Rattle.tcl_words.proofs.PieceAgain.{bare_begins}
use Rattle.tcl_words.proofs.Flaws.{flaw_is, bind_err, Stop, bare-flawed, bare_inside, stop_bare, stop_blanks, stop_feeds, QuoteFlaw, quoted-flawed, stop_quoted, braced-flawed}

-- ---- what is read as a flaw stands there

-- a flaw that was read
pub record IsFlawed (fresh : Bool) (bytes : List ℕ) (f : Flaw) : Type 0 where
  pub front : List ℕ
  pub rest : List ℕ
  pub parts : bytes ≡ front ++ rest
  pub len : f.at ≡ length front
  pub breaks : BreaksAt fresh f.rule front rest

abbrev piece_read : Found Piece → Result (Found Piece) Flaw
piece_read piece = Ok piece

abbrev piece_flaw : ℕ → Rule → Result (Found Piece) Flaw
piece_flaw at rule = flaw at rule

not_found : {X : Type 0} (value : Piece) (len : ℕ) (f : Flaw) → found value len ≡ Err f → X
not_found value len f e = let made : Found Piece = record { value = value; len = len } in absurd (let e : piece_read made ≡ Err f = e in cc)

is_flawed : (fresh : Bool) (bytes front rest : List ℕ) (at : ℕ) (rule : Rule) (f : Flaw) → piece_flaw at rule ≡ Err f → bytes ≡ front ++ rest → at ≡ length front → BreaksAt fresh rule front rest → IsFlawed fresh bytes f
is_flawed fresh bytes front rest at rule f e parts len breaks =
    let here : Flaw = record { at = at; rule = rule } in
    subst (IsFlawed fresh bytes) (flaw_is {X = Found Piece} here f e) (record { front = front; rest = rest; parts = parts; len = len; breaks = breaks })

stop_breaks : {fresh : Bool} {rule : Rule} {front rest : List ℕ} → IsOpenFront fresh front → Stop rule rest → BreaksAt fresh rule front rest
stop_breaks is (Stop.substitution h) = BreaksAt.substitution is h
stop_breaks is (Stop.alone h) = BreaksAt.lone_backslash is h

flawed_join : (fresh : Bool) (rest : List ℕ) (f : Flaw) → cond (begins_with_line_end rest) (found Gap (1 + join_tail rest)) (flaw 0 Backslash) ≡ Err f → IsFlawed fresh (backslash ∷ rest) f
flawed_join fresh rest f e =
    elim (chosen (begins_with_line_end rest) _ _ _ e) [
      | inl joins ↦ not_found Gap (1 + join_tail rest) f joins.1
      | inr lone ↦ is_flawed fresh (backslash ∷ rest) [] (backslash ∷ rest) 0 Backslash f lone.1 refl refl (BreaksAt.lone_backslash IsOpenFront.nothing lone.0)
    ]

flawed_group : (fresh : Bool) (opener closer : ℕ) (bytes inner after : List ℕ) (group : Found (List ℕ)) (f : Flaw) → bytes ≡ inner ++ closer ∷ after → group.len ≡ length inner + 2
    → IsClosed (opener ∷ (inner ++ closer ∷ [])) → grouped (opener ∷ bytes) group ≡ Err f → IsFlawed fresh (opener ∷ bytes) f
flawed_group fresh opener closer bytes inner after group f parts size closed e =
    elim (chosen (ends_word (drop group.len (opener ∷ bytes))) _ _ _ e) [
      | inl ends ↦ not_found (Says group.value) group.len f ends.1
      | inr others ↦
          is_flawed fresh (opener ∷ bytes) (opener ∷ (inner ++ closer ∷ [])) after group.len AfterClose f others.1
          (ap (λ (b : List ℕ). opener ∷ b) (parts ∙ sym (append_assoc inner (closer ∷ []) after)))
          (omega (arith, length-append inner (closer ∷ []), size))
          (BreaksAt.after_close closed (sym (ap ends_word (behind_group opener closer bytes inner after group.len parts size)) ∙ others.0))
    ]

abbrev group_read : Found (List ℕ) → Result (Found (List ℕ)) Flaw
group_read group = Ok group

not_both : (r : Result (Found (List ℕ)) Flaw) (f : Flaw) (group : Found (List ℕ)) → r ≡ Err f → r ≡ group_read group → ⊥
not_both r f group a b = absurd cc

never_closed : (rest : List ℕ) (f : Flaw) → braced 0 1 0 [] rest ≡ Err f → IsNeverClosed rest
never_closed rest f e inner text after inside parts =
    not_both (braced 0 1 0 [] rest) f (record { value = text; len = length inner + 2 }) e (ap (braced 0 1 0 []) parts ∙ braced-again inside after)

flawed_braces : (fresh : Bool) (rest : List ℕ) (f : Flaw) → (braced 0 1 0 [] rest >>= grouped (open_brace ∷ rest)) ≡ Err f → IsFlawed fresh (open_brace ∷ rest) f
flawed_braces fresh rest f e =
    elim (bind_err (braced 0 1 0 [] rest) (grouped (open_brace ∷ rest)) f e) [
      | inl fails ↦ let is = braced-flawed rest 0 1 0 [] f fails in record {
        front = [];
        rest = open_brace ∷ rest;
        parts = refl;
        len = is.0;
        breaks = subst (λ (r : Rule). BreaksAt fresh r [] (open_brace ∷ rest)) (sym is.1) (BreaksAt.unclosed_brace (never_closed rest f fails));
      }
      | inr (group, read, fails) ↦ let g = braced-takes rest group read in flawed_group fresh open_brace close_brace rest g.inner g.after group f g.parts g.len (IsClosed.braces g.inside) fails
    ]

flawed_quote : (fresh : Bool) (rest : List ℕ) (f : Flaw) → QuoteFlaw 1 rest f → IsFlawed fresh (quote ∷ rest) f
flawed_quote fresh rest f q =
    elim q.stop [
      | inl (ended, first, rule) ↦
          let whole : q.inner ≡ rest = sym (append-nil q.inner) ∙ ap (λ (b : List ℕ). q.inner ++ b) (sym ended) ∙ sym q.parts in
          record {
            front = [];
            rest = quote ∷ rest;
            parts = refl;
            len = first;
            breaks = subst (λ (r : Rule). BreaksAt fresh r [] (quote ∷ rest)) (sym rule) (BreaksAt.unclosed_quote (subst (λ (b : List ℕ). InQuotes b q.text) whole q.inside));
          }
      | inr (len, stop) ↦ record {
        front = quote ∷ q.inner;
        rest = q.rest;
        parts = ap (λ (b : List ℕ). quote ∷ b) q.parts;
        len = len ∙ one-plus (length q.inner);
        breaks = stop_breaks (IsOpenFront.quoted q.inside) stop;
      }
    ]

flawed_quotes : (fresh : Bool) (rest : List ℕ) (f : Flaw) → (quoted 0 1 [] rest >>= grouped (quote ∷ rest)) ≡ Err f → IsFlawed fresh (quote ∷ rest) f
flawed_quotes fresh rest f e =
    elim (bind_err (quoted 0 1 [] rest) (grouped (quote ∷ rest)) f e) [
      | inl fails ↦ flawed_quote fresh rest f (quoted-flawed rest 0 1 [] f fails)
      | inr (group, read, fails) ↦ let g = quoted-takes rest group read in flawed_group fresh quote quote rest g.inner g.after group f g.parts g.len (IsClosed.quotes g.inside) fails
    ]

open_front : (fresh : Bool) (byte : ℕ) (rest word after : List ℕ) → byte ∷ rest ≡ word ++ after → begins_bare fresh byte ≡ true → list_all is_bare word ≡ true → IsOpenFront fresh word
open_front fresh byte rest [] after parts begins bare = IsOpenFront.nothing
open_front fresh byte rest (first ∷ word) after parts begins bare =
    let same : byte ≡ first = cc in
    IsOpenFront.bare (subst (λ (b : ℕ). begins_bare fresh b ≡ true) same begins) bare

flawed_bare : (fresh : Bool) (byte : ℕ) (rest : List ℕ) (f : Flaw) → begins_bare fresh byte ≡ true
    → (bare_len 0 (byte ∷ rest) >>= λ len. found (Says (take len (byte ∷ rest))) len) ≡ Err f → IsFlawed fresh (byte ∷ rest) f
flawed_bare fresh byte rest f begins e =
    elim (bind_err (bare_len 0 (byte ∷ rest)) (λ len. found (Says (take len (byte ∷ rest))) len) f e) [
      | inl fails ↦ let w = bare-flawed 0 (byte ∷ rest) f fails in record {
        front = w.word;
        rest = w.rest;
        parts = w.parts;
        len = omega (arith, w.len);
        breaks = stop_breaks (open_front fresh byte rest w.word w.rest w.parts begins w.bare) w.stop;
      }
      | inr (len, read, fails) ↦ not_found (Says (take len (byte ∷ rest))) len f fails
    ]

pub piece-flawed : (fresh : Bool) (byte : ℕ) (rest : List ℕ) (f : Flaw) → piece_of fresh (byte ∷ rest) ≡ Err f → IsFlawed fresh (byte ∷ rest) f
unfolding piece_of
piece-flawed fresh byte rest f e =
    elim (chosen (is_blank byte) _ _ _ e) [
      | inl blank ↦ not_found Gap 1 f blank.1
      | inr a ↦ elim (chosen (is_separator byte) _ _ _ a.1) [
        | inl ends ↦ not_found End 1 f ends.1
        | inr b ↦ elim (chosen (byte == backslash) _ _ _ b.1) [
          | inl escapes ↦ rw (eqb-true byte backslash escapes.0) (flawed_join fresh rest f escapes.1)
          | inr c ↦ elim (chosen (byte == hash && fresh) _ _ _ c.1) [
            | inl comments ↦ not_found Gap (1 + comment_len false rest) f comments.1
            | inr d ↦ elim (chosen (byte == open_brace) _ _ _ d.1) [
              | inl opens ↦ let is = eqb-true byte open_brace opens.0 in
                  rw is (flawed_braces fresh rest f (subst (λ (b : ℕ). (braced 0 1 0 [] rest >>= grouped (b ∷ rest)) ≡ Err f) is opens.1))
              | inr g ↦ elim (chosen (byte == quote) _ _ _ g.1) [
                | inl quotes ↦ let is = eqb-true byte quote quotes.0 in
                    rw is (flawed_quotes fresh rest f (subst (λ (b : ℕ). (quoted 0 1 [] rest >>= grouped (b ∷ rest)) ≡ Err f) is quotes.1))
                | inr h ↦ flawed_bare fresh byte rest f
                    (not_from_false (byte == open_brace || (byte == quote || (byte == hash && fresh))) (or_from _ _ g.0 (or_from _ _ h.0 d.0))) h.1
              ]
            ]
          ]
        ]
      ]
    ]

-- ---- what stands there is read as a flaw

first_stops : (fresh : Bool) (rule : Rule) (rest : List ℕ) → Stop rule rest → piece_of fresh rest ≡ flaw 0 rule
unfolding piece_of bare_len
first_stops fresh _ _ (Stop.substitution {rest = []} h) = absurd (true≢false (sym h))
first_stops fresh _ _ (Stop.substitution {rest = byte ∷ others} h) =
    elim (or_cases (byte == 36) (byte == 91) h) [
      | inl dollar ↦ ap (λ (b : ℕ). piece_of fresh (b ∷ others)) (eqb-true byte 36 dollar)
      | inr bracket ↦ ap (λ (b : ℕ). piece_of fresh (b ∷ others)) (eqb-true byte 91 bracket)
    ]
first_stops fresh _ _ (Stop.alone h) = rw h refl

quote_stops : (fresh : Bool) {bytes text : List ℕ} (rule : Rule) (rest : List ℕ) → InQuotes bytes text → Stop rule rest → piece_of fresh (quote ∷ (bytes ++ rest)) ≡ flaw (length (quote ∷ bytes)) rule
unfolding piece_of
quote_stops fresh {bytes} {text} rule rest inside stop =
    ap (λ (r : Result (Found (List ℕ)) Flaw). r >>= grouped (quote ∷ (bytes ++ rest))) (quoted-inside inside 1 [] rest (stop_feeds stop) (stop_blanks stop) ∙ stop_quoted (1 + length bytes) text rule rest stop)
    ∙ ap (λ (n : ℕ). piece_flaw n rule) (one-plus (length bytes))

front_stops : {fresh : Bool} {rule : Rule} {front rest : List ℕ} → IsOpenFront fresh front → Stop rule rest → piece_of fresh (front ++ rest) ≡ flaw (length front) rule
front_stops {fresh} {rule} {rest = rest} IsOpenFront.nothing stop = first_stops fresh rule rest stop
front_stops {rule = rule} {rest = rest} (IsOpenFront.bare {fresh} {byte} {bytes} begins bare) stop =
    let none : 0 + length (byte ∷ bytes) ≡ length (byte ∷ bytes) = omega arith in
    bare_begins fresh byte (bytes ++ rest) begins (and_parts (is_bare byte) (list_all is_bare bytes) bare).0
    ∙ ap (λ (r : Result ℕ Flaw). r >>= λ len. found (Says (take len (byte ∷ (bytes ++ rest)))) len) (bare_inside 0 (byte ∷ bytes) rest bare ∙ stop_bare (0 + length (byte ∷ bytes)) rule rest stop)
    ∙ ap (λ (n : ℕ). piece_flaw n rule) none
front_stops {rule = rule} {rest = rest} (IsOpenFront.quoted {fresh} inside) stop = quote_stops fresh rule rest inside stop

flaw_from : (f : Flaw) (at : ℕ) (rule : Rule) (r : Result (Found (List ℕ)) Flaw) → r ≡ Err f → f.at ≡ at → f.rule ≡ rule → r ≡ flaw at rule
flaw_from f at rule r e first is = e ∙ ap (λ (n : ℕ). Err (record { at = n; rule = f.rule })) first ∙ ap (λ (x : Rule). Err (record { at = at; rule = x })) is

open_at : (rest : List ℕ) (r : Result (Found (List ℕ)) Flaw) → braced 0 1 0 [] rest ≡ r → IsNeverClosed rest → braced 0 1 0 [] rest ≡ flaw 0 OpenBrace
open_at rest (Ok group) e never = let g = braced-takes rest group e in absurd (never g.inner group.value g.after g.inside g.parts)
open_at rest (Err f) e never = let is = braced-flawed rest 0 1 0 [] f e in flaw_from f 0 OpenBrace (braced 0 1 0 [] rest) e is.0 is.1

brace_breaks : (fresh : Bool) (rest : List ℕ) → IsNeverClosed rest → piece_of fresh (open_brace ∷ rest) ≡ flaw 0 OpenBrace
unfolding piece_of
brace_breaks fresh rest never = ap (λ (r : Result (Found (List ℕ)) Flaw). r >>= grouped (open_brace ∷ rest)) (open_at rest (braced 0 1 0 [] rest) refl never)

quote_breaks : (fresh : Bool) {rest text : List ℕ} → InQuotes rest text → piece_of fresh (quote ∷ rest) ≡ flaw 0 OpenQuote
unfolding piece_of quoted
quote_breaks fresh {rest} inside =
    ap (λ (r : Result (Found (List ℕ)) Flaw). r >>= grouped (quote ∷ rest)) (ap (quoted 0 1 []) (sym (append-nil rest)) ∙ quoted-inside inside 1 [] [] refl refl)

group_breaks : (opener closer : ℕ) (bytes text rest : List ℕ) → ends_word rest ≡ false
    → grouped (opener ∷ ((bytes ++ closer ∷ []) ++ rest)) (record { value = text; len = length bytes + 2 }) ≡ flaw (length (opener ∷ (bytes ++ closer ∷ []))) AfterClose
group_breaks opener closer bytes text rest ends =
    let behind : drop (length bytes + 2) (opener ∷ ((bytes ++ closer ∷ []) ++ rest)) ≡ rest = behind_group opener closer ((bytes ++ closer ∷ []) ++ rest) bytes rest (length bytes + 2) (append_assoc bytes (closer ∷ []) rest) refl in
    let size : length bytes + 2 ≡ length (opener ∷ (bytes ++ closer ∷ [])) = omega (arith, length-append bytes (closer ∷ [])) in
    ap (λ (r : List ℕ). cond (ends_word r) (found (Says text) (length bytes + 2)) (flaw (length bytes + 2) AfterClose)) behind
    ∙ ap (λ (t : Bool). cond t (found (Says text) (length bytes + 2)) (flaw (length bytes + 2) AfterClose)) ends
    ∙ ap (λ (n : ℕ). piece_flaw n AfterClose) size

close_breaks : (fresh : Bool) {front : List ℕ} (rest : List ℕ) → IsClosed front → ends_word rest ≡ false → piece_of fresh (front ++ rest) ≡ flaw (length front) AfterClose
unfolding piece_of
close_breaks fresh rest (IsClosed.braces {bytes} {text} inside) ends =
    ap (λ (r : Result (Found (List ℕ)) Flaw). r >>= grouped (open_brace ∷ ((bytes ++ close_brace ∷ []) ++ rest))) (ap (braced 0 1 0 []) (append_assoc bytes (close_brace ∷ []) rest) ∙ braced-again inside rest)
    ∙ group_breaks open_brace close_brace bytes text rest ends
close_breaks fresh rest (IsClosed.quotes {bytes} {text} inside) ends =
    ap (λ (r : Result (Found (List ℕ)) Flaw). r >>= grouped (quote ∷ ((bytes ++ quote ∷ []) ++ rest))) (ap (quoted 0 1 []) (append_assoc bytes (quote ∷ []) rest) ∙ quoted-again inside rest)
    ∙ group_breaks quote quote bytes text rest ends

pub piece-breaks : {fresh : Bool} {rule : Rule} {front rest : List ℕ} → BreaksAt fresh rule front rest → piece_of fresh (front ++ rest) ≡ flaw (length front) rule
piece-breaks (BreaksAt.substitution is h) = front_stops is (Stop.substitution h)
piece-breaks (BreaksAt.lone_backslash is h) = front_stops is (Stop.alone h)
piece-breaks (BreaksAt.unclosed_brace {fresh} {rest} never) = brace_breaks fresh rest never
piece-breaks (BreaksAt.unclosed_quote {fresh} inside) = quote_breaks fresh inside
piece-breaks (BreaksAt.after_close {fresh} {front} {rest} closed ends) = close_breaks fresh rest closed ends
