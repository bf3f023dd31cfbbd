-- Where reading a piece fails, and what stands there.
use Rattle.std.proofs.Common.{◌≡◌, ℕ, zero, suc, ◌+◌, ◌-◌, Bool, true, false, ◌&&◌, ◌||◌, ◌==◌, cond, List, [], ◌∷◌, ◌++◌, length, take, drop, refl, sym, ap, subst, ◌∙◌, inl, inr, ◌⊎◌, arith, append_assoc, add-zero}
use Rattle.std.specs.Prelude.{Result, Ok, Err}
use Rattle.std.specs.List.{list_all}
use Rattle.std.proofs.lemmas.Bool.{eqb-true, true≢false, or_parts, or_cases, and_parts, and_from}
use Rattle.std.proofs.lemmas.List.{length-append, length-take-le, take-append-drop}
use Rattle.tcl_words.specs.declared.rule.Rule.{Rule}
use Rattle.tcl_words.specs.declared.rule.Rule.TheVariants.{Substitution, Backslash, OpenBrace, OpenQuote}
use Rattle.tcl_words.specs.Bytes.{space, backslash, quote, open_brace, close_brace, is_space_or_tab, is_blank, is_separator, substitutes, begins_with, begins_with_line_feed, begins_with_line_end, ends_word, kept}
use Rattle.tcl_words.specs.Reading.{Flaw, Found, flaw, ◌>>=◌, join_tail, bare_len, braced, quoted}
use Rattle.tcl_words.specs.Spelling.{IsJoin, InQuotes, is_bare, is_plain_in_quotes}
use Rattle.tcl_words.proofs.Runs.{chosen, begins_with-before, join_is, join_tail-le, join_before}
use Rattle.tcl_words.proofs.BareWords.{bare_tests, bare_from, bare_step}
use Rattle.tcl_words.proofs.Comments.{nothing_left}
use Rattle.tcl_words.proofs.Quotes.{plain_from}

abbrev pub flaw_of : {X : Type 0} → Flaw → Result X Flaw
flaw_of f = flaw f.at f.rule

pub flaw_is : {X : Type 0} (x y : Flaw) → flaw_of {X = X} x ≡ Err y → x ≡ y
flaw_is x y e = cc

pub bind_err : {A B E : Type 0} (r : Result A E) (f : A → Result B E) (y : E) → (r >>= f) ≡ Err y → (r ≡ Err y) ⊎ ((x : A) × (r ≡ Ok x) × (f x ≡ Err y))
bind_err (Ok x) f y e = inr (x, refl, e)
bind_err (Err d) f y e = inl (let same : d ≡ y = cc in ap (λ (z : _). Err z) same)

and_right_false : (a b : Bool) → a ≡ true → (a && b) ≡ false → b ≡ false
and_right_false true b e h = h
and_right_false false b e h = absurd (true≢false (sym e))

-- what a bare word or one in quotes breaks a rule by
pub data Stop : Rule → List ℕ → Type 0 where
  substitution : {rest : List ℕ} → begins_with substitutes rest ≡ true → Stop Substitution rest
  alone : {rest : List ℕ} → begins_with_line_end rest ≡ false → Stop Backslash (backslash ∷ rest)

-- ---- bare words

pub record BareFlaw (at : ℕ) (bytes : List ℕ) (f : Flaw) : Type 0 where
  pub word : List ℕ
  pub rest : List ℕ
  pub parts : bytes ≡ word ++ rest
  pub bare : list_all is_bare word ≡ true
  pub len : f.at ≡ at + length word
  pub stop : Stop f.rule rest

bare_stops : (at : ℕ) (rule : Rule) (rest : List ℕ) (f : Flaw) → Stop rule rest → flaw {X = ℕ} at rule ≡ Err f → BareFlaw at rest f
bare_stops at rule rest f stop e =
    let here : Flaw = record { at = at; rule = rule } in
    subst (BareFlaw at rest) (flaw_is {X = ℕ} here f e) record { word = []; rest = rest; parts = refl; bare = refl; len = sym (add-zero at); stop = stop }

bare_over : (at : ℕ) (byte : ℕ) (rest : List ℕ) (f : Flaw) → is_bare byte ≡ true → BareFlaw (at + 1) rest f → BareFlaw at (byte ∷ rest) f
bare_over at byte rest f h w = record {
  word = byte ∷ w.word;
  rest = w.rest;
  parts = ap (λ (b : List ℕ). byte ∷ b) w.parts;
  bare = and_from _ _ h w.bare;
  len = omega (arith, w.len);
  stop = w.stop;
}

alone_at : (byte : ℕ) (rest : List ℕ) → (byte == backslash) ≡ true → (byte == backslash && begins_with_line_end rest) ≡ false → Stop Backslash (byte ∷ rest)
alone_at byte rest is h = subst (λ (b : ℕ). Stop Backslash (b ∷ rest)) (sym (eqb-true byte backslash is)) (Stop.alone (and_right_false _ _ is h))

abbrev done : ℕ → Result ℕ Flaw
done n = Ok n

pub bare-flawed : (at : ℕ) (bytes : List ℕ) (f : Flaw) → bare_len at bytes ≡ Err f → BareFlaw at bytes f
unfolding bare_len
bare-flawed at [] f e = absurd cc
bare-flawed at (byte ∷ rest) f e =
    elim (chosen (ends_word (byte ∷ rest)) _ _ _ e) [
      | inl ended ↦ absurd (let e : done at ≡ Err f = ended.1 in cc)
      | inr others ↦
          let a = or_parts (is_blank byte) (is_separator byte || (byte == backslash && begins_with_line_end rest)) others.0 in
          let b = or_parts (is_separator byte) (byte == backslash && begins_with_line_end rest) a.1 in
          elim (chosen (substitutes byte) _ _ _ others.1) [
            | inl refused ↦ bare_stops at Substitution (byte ∷ rest) f (Stop.substitution refused.0) refused.1
            | inr left ↦ elim (chosen (byte == backslash) _ _ _ left.1) [
              | inl escapes ↦ bare_stops at Backslash (byte ∷ rest) f (alone_at byte rest escapes.0 b.1) escapes.1
              | inr plain ↦ bare_over at byte rest f (bare_from byte (record { blank = a.0; separator = b.0; substitutes = left.0; backslash = plain.0 })) (bare-flawed (at + 1) rest f plain.1)
            ]
          ]
    ]

pub bare_inside : (at : ℕ) (word rest : List ℕ) → list_all is_bare word ≡ true → bare_len at (word ++ rest) ≡ bare_len (at + length word) rest
bare_inside at [] rest h = ap (λ (n : ℕ). bare_len n rest) (sym (add-zero at))
bare_inside at (byte ∷ word) rest h =
    let parts = and_parts (is_bare byte) (list_all is_bare word) h in
    let sum : at + 1 + length word ≡ at + suc (length word) = omega arith in
    bare_step at byte (word ++ rest) (bare_tests byte parts.0) ∙ bare_inside (at + 1) word rest parts.1 ∙ ap (λ (n : ℕ). bare_len n rest) sum

pub stop_bare : (at : ℕ) (rule : Rule) (rest : List ℕ) → Stop rule rest → bare_len at rest ≡ flaw at rule
unfolding bare_len
stop_bare at _ _ (Stop.substitution {rest = []} h) = absurd (true≢false (sym h))
stop_bare at _ _ (Stop.substitution {rest = byte ∷ others} h) =
    elim (or_cases (byte == 36) (byte == 91) h) [
      | inl dollar ↦ ap (λ (b : ℕ). bare_len at (b ∷ others)) (eqb-true byte 36 dollar)
      | inr bracket ↦ ap (λ (b : ℕ). bare_len at (b ∷ others)) (eqb-true byte 91 bracket)
    ]
stop_bare at _ _ (Stop.alone h) = rw h refl

-- ---- words in quotes

-- the end of the text, or what breaks a rule
abbrev QuoteStop : ℕ → Flaw → List ℕ → Type 0
QuoteStop at f rest = ((rest ≡ []) × (f.at ≡ 0) × (f.rule ≡ OpenQuote)) ⊎ ((f.at ≡ at) × Stop f.rule rest)

pub record QuoteFlaw (at : ℕ) (bytes : List ℕ) (f : Flaw) : Type 0 where
  pub inner : List ℕ
  pub text : List ℕ
  pub rest : List ℕ
  pub parts : bytes ≡ inner ++ rest
  pub inside : InQuotes inner text
  pub blanks : begins_with is_space_or_tab rest ≡ false
  pub stop : QuoteStop (at + length inner) f rest

substitution_tests : (byte : ℕ) → substitutes byte ≡ true → is_space_or_tab byte ≡ false
substitution_tests byte h =
    elim (or_cases (byte == 36) (byte == 91) h) [
      | inl dollar ↦ ap is_space_or_tab (eqb-true byte 36 dollar)
      | inr bracket ↦ ap is_space_or_tab (eqb-true byte 91 bracket)
    ]

pub stop_blanks : {rule : Rule} {rest : List ℕ} → Stop rule rest → begins_with is_space_or_tab rest ≡ false
stop_blanks (Stop.substitution {rest = []} h) = refl
stop_blanks (Stop.substitution {rest = byte ∷ others} h) = substitution_tests byte h
stop_blanks (Stop.alone h) = refl

substitution_feeds : (byte : ℕ) → substitutes byte ≡ true → (byte == 10) ≡ false
substitution_feeds byte h =
    elim (or_cases (byte == 36) (byte == 91) h) [
      | inl dollar ↦ ap (λ (b : ℕ). b == 10) (eqb-true byte 36 dollar)
      | inr bracket ↦ ap (λ (b : ℕ). b == 10) (eqb-true byte 91 bracket)
    ]

pub stop_feeds : {rule : Rule} {rest : List ℕ} → Stop rule rest → begins_with_line_feed rest ≡ false
stop_feeds (Stop.substitution {rest = []} h) = refl
stop_feeds (Stop.substitution {rest = byte ∷ others} h) = substitution_feeds byte h
stop_feeds (Stop.alone h) = refl

abbrev grouped_as : Found (List ℕ) → Result (Found (List ℕ)) Flaw
grouped_as group = Ok group

abbrev flawed : ℕ → Rule → Result (Found (List ℕ)) Flaw
flawed at rule = flaw at rule

quote_ends : (at : ℕ) (f : Flaw) → flawed 0 OpenQuote ≡ Err f → QuoteFlaw at [] f
quote_ends at f e =
    let first : f.at ≡ 0 = cc in
    let rule : f.rule ≡ OpenQuote = cc in
    record { inner = []; text = []; rest = []; parts = refl; inside = InQuotes.nothing; blanks = refl; stop = inl (refl, first, rule) }

quote_stops : (at : ℕ) (rule : Rule) (rest : List ℕ) (f : Flaw) → Stop rule rest → flawed at rule ≡ Err f → QuoteFlaw at rest f
quote_stops at rule rest f stop e =
    let here : Flaw = record { at = at; rule = rule } in
    subst (QuoteFlaw at rest) (flaw_is {X = Found (List ℕ)} here f e) record {
      inner = [];
      text = [];
      rest = rest;
      parts = refl;
      inside = InQuotes.nothing;
      blanks = stop_blanks stop;
      stop = inr (sym (add-zero at), stop);
    }

quote_over : (at : ℕ) (byte : ℕ) (rest : List ℕ) (f : Flaw) → is_plain_in_quotes byte ≡ true → QuoteFlaw (at + 1) rest f → QuoteFlaw at (byte ∷ rest) f
quote_over at byte rest f h q =
    let sum : at + 1 + length q.inner ≡ at + suc (length q.inner) = omega arith in
    record {
      inner = byte ∷ q.inner;
      text = kept byte q.inner ++ q.text;
      rest = q.rest;
      parts = ap (λ (b : List ℕ). byte ∷ b) q.parts;
      inside = InQuotes.plain byte h q.inside;
      blanks = q.blanks;
      stop = subst (λ (n : ℕ). QuoteStop n f q.rest) sum q.stop;
    }

quote_joins : (at : ℕ) (rest : List ℕ) (f : Flaw) → begins_with_line_end rest ≡ true → QuoteFlaw (at + 1 + join_tail rest) (drop (join_tail rest) rest) f → QuoteFlaw at (backslash ∷ rest) f
quote_joins at rest f h q =
    let n = join_tail rest in
    let join : List ℕ = backslash ∷ take n rest in
    let is : IsJoin join (drop n rest) = join_is rest h in
    let stops : begins_with is_space_or_tab q.inner ≡ false = sym (begins_with-before is_space_or_tab q.inner q.rest q.blanks) ∙ ap (begins_with is_space_or_tab) (sym q.parts) ∙ is.are_all in
    let within : length (take n rest) ≡ n = length-take-le n rest (join_tail-le rest h) in
    let sum : at + 1 + n + length q.inner ≡ at + length (join ++ q.inner) = omega (arith, length-append (take n rest) q.inner, within) in
    record {
      inner = join ++ q.inner;
      text = space ∷ q.text;
      rest = q.rest;
      parts = ap (λ (b : List ℕ). backslash ∷ b) (sym (take-append-drop n rest) ∙ ap (λ (b : List ℕ). take n rest ++ b) q.parts ∙ sym (append_assoc (take n rest) q.inner q.rest));
      inside = InQuotes.joined join (join_before q.inner stops is) q.inside;
      blanks = q.blanks;
      stop = subst (λ (m : ℕ). QuoteStop m f q.rest) sum q.stop;
    }

-- what reading goes on with, behind one byte
abbrev GoesOn : List ℕ → Type 0
GoesOn rest = (skip at : ℕ) (before : List ℕ) (f : Flaw) → quoted skip at before rest ≡ Err f → QuoteFlaw (at + skip) (drop skip rest) f

quote_backslash : (at : ℕ) (before rest : List ℕ) (f : Flaw) → GoesOn rest
    → cond (begins_with_line_end rest) (quoted (join_tail rest) (at + 1) (before ++ space ∷ []) rest) (flaw at Backslash) ≡ Err f → QuoteFlaw at (backslash ∷ rest) f
quote_backslash at before rest f goes_on e =
    elim (chosen (begins_with_line_end rest) _ _ _ e) [
      | inl joins ↦ quote_joins at rest f joins.0 (goes_on (join_tail rest) (at + 1) (before ++ space ∷ []) f joins.1)
      | inr lone ↦ quote_stops at Backslash (backslash ∷ rest) f (Stop.alone lone.0) lone.1
    ]

quote_byte : (at : ℕ) (before : List ℕ) (byte : ℕ) (rest : List ℕ) (f : Flaw) → GoesOn rest → quoted 0 at before (byte ∷ rest) ≡ Err f → QuoteFlaw at (byte ∷ rest) f
unfolding quoted
quote_byte at before byte rest f goes_on e =
    elim (chosen (byte == quote) _ _ _ e) [
      | inl closes ↦ absurd (let made : Found (List ℕ) = record { value = before; len = at + 1 } in let e : grouped_as made ≡ Err f = closes.1 in cc)
      | inr others ↦ elim (chosen (substitutes byte) _ _ _ others.1) [
        | inl refused ↦ quote_stops at Substitution (byte ∷ rest) f (Stop.substitution refused.0) refused.1
        | inr left ↦ elim (chosen (byte == backslash) _ _ _ left.1) [
          | inl escapes ↦ rw (eqb-true byte backslash escapes.0) (quote_backslash at before rest f goes_on escapes.1)
          | inr plain ↦ quote_over at byte rest f (plain_from byte others.0 left.0 plain.0)
              (subst (λ (n : ℕ). QuoteFlaw n rest f) (add-zero (at + 1)) (goes_on 0 (at + 1) (before ++ kept byte rest) f plain.1))
        ]
      ]
    ]

pub quoted-flawed : (bytes : List ℕ) → GoesOn bytes
unfolding quoted
quoted-flawed [] skip at before f e = subst (λ (b : List ℕ). QuoteFlaw (at + skip) b f) (sym (nothing_left skip)) (quote_ends (at + skip) f e)
quoted-flawed (byte ∷ rest) zero at before f e =
    subst (λ (n : ℕ). QuoteFlaw n (byte ∷ rest) f) (sym (add-zero at)) (quote_byte at before byte rest f (quoted-flawed rest) e)
quoted-flawed (byte ∷ rest) (suc skip) at before f e =
    let sum : at + 1 + skip ≡ at + suc skip = omega arith in
    subst (λ (n : ℕ). QuoteFlaw n (drop skip rest) f) sum (quoted-flawed rest skip (at + 1) before f e)

pub stop_quoted : (at : ℕ) (before : List ℕ) (rule : Rule) (rest : List ℕ) → Stop rule rest → quoted 0 at before rest ≡ flaw at rule
unfolding quoted
stop_quoted at before _ _ (Stop.substitution {rest = []} h) = absurd (true≢false (sym h))
stop_quoted at before _ _ (Stop.substitution {rest = byte ∷ others} h) =
    elim (or_cases (byte == 36) (byte == 91) h) [
      | inl dollar ↦ ap (λ (b : ℕ). quoted 0 at before (b ∷ others)) (eqb-true byte 36 dollar)
      | inr bracket ↦ ap (λ (b : ℕ). quoted 0 at before (b ∷ others)) (eqb-true byte 91 bracket)
    ]
stop_quoted at before _ _ (Stop.alone h) = rw h refl

-- ---- words in braces

abbrev IsOpenFlaw : Flaw → Type 0
IsOpenFlaw f = (f.at ≡ 0) × (f.rule ≡ OpenBrace)

open_flaw : (f : Flaw) → flawed 0 OpenBrace ≡ Err f → IsOpenFlaw f
open_flaw f e = (let first : f.at ≡ 0 = cc in first, let rule : f.rule ≡ OpenBrace = cc in rule)

pub braced-flawed : (bytes : List ℕ) (skip at depth : ℕ) (text : List ℕ) (f : Flaw) → braced skip at depth text bytes ≡ Err f → IsOpenFlaw f
unfolding braced
braced-flawed [] skip at depth text f e = open_flaw f e
braced-flawed (byte ∷ rest) (suc skip) at depth text f e = braced-flawed rest skip (at + 1) depth text f e
braced-flawed (byte ∷ rest) zero at depth text f e =
    elim (chosen (byte == close_brace) _ _ _ e) [
      | inl closes ↦ elim (chosen (depth == 0) _ _ _ closes.1) [
        | inl ended ↦ absurd (let made : Found (List ℕ) = record { value = text; len = at + 1 } in let e : grouped_as made ≡ Err f = ended.1 in cc)
        | inr level ↦ braced-flawed rest 0 (at + 1) (depth - 1) (text ++ byte ∷ []) f level.1
      ]
      | inr others ↦ elim (chosen (byte == open_brace) _ _ _ others.1) [
        | inl opens ↦ braced-flawed rest 0 (at + 1) (depth + 1) (text ++ byte ∷ []) f opens.1
        | inr left ↦ elim (chosen (byte == backslash) _ _ _ left.1) [
          | inl escapes ↦ elim (chosen (begins_with_line_end rest) _ _ _ escapes.1) [
            | inl joins ↦ braced-flawed rest (join_tail rest) (at + 1) depth (text ++ space ∷ []) f joins.1
            | inr pairs ↦ braced-flawed rest 1 (at + 1) depth (text ++ take 2 (byte ∷ rest)) f pairs.1
          ]
          | inr plain ↦ braced-flawed rest 0 (at + 1) depth (text ++ kept byte rest) f plain.1
        ]
      ]
    ]
