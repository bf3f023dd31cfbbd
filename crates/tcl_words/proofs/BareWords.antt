-- Bare words: what is read is a bare word, and a bare word is read.
use Rattle.std.proofs.Common.{◌≡◌, ℕ, suc, ◌+◌, Bool, true, false, ◌&&◌, ◌||◌, ◌==◌, cond, List, [], ◌∷◌, ◌++◌, length, refl, ap, ◌∙◌, inl, inr, arith}
use Rattle.std.specs.Prelude.{Result, Ok}
use Rattle.std.specs.List.{list_all}
use Rattle.std.proofs.lemmas.Bool.{or_parts, or_from, not-true, not_from_false, and_parts, and_from, and_left}
use Rattle.tcl_words.specs.declared.rule.Rule.TheVariants.{Substitution, Backslash}
use Rattle.tcl_words.specs.Bytes.{backslash, is_blank, is_separator, substitutes, begins_with_line_end, ends_word}
use Rattle.tcl_words.specs.Reading.{Flaw, flaw, bare_len}
use Rattle.tcl_words.specs.Spelling.{is_bare}
use Rattle.tcl_words.proofs.Runs.{chosen}

pub record BareTests (byte : ℕ) : Type 0 where
  pub blank : is_blank byte ≡ false
  pub separator : is_separator byte ≡ false
  pub substitutes : substitutes byte ≡ false
  pub backslash : (byte == backslash) ≡ false

pub bare_tests : (byte : ℕ) → is_bare byte ≡ true → BareTests byte
bare_tests byte h =
    let a = or_parts (is_blank byte) (is_separator byte || (substitutes byte || byte == backslash)) (not-true _ h) in
    let b = or_parts (is_separator byte) (substitutes byte || byte == backslash) a.1 in
    let c = or_parts (substitutes byte) (byte == backslash) b.1 in
    record { blank = a.0; separator = b.0; substitutes = c.0; backslash = c.1 }

pub bare_from : (byte : ℕ) → BareTests byte → is_bare byte ≡ true
bare_from byte t = not_from_false (is_blank byte || (is_separator byte || (substitutes byte || byte == backslash))) (or_from _ _ t.blank (or_from _ _ t.separator (or_from _ _ t.substitutes t.backslash)))

-- a byte of a bare word doesn't end it
pub goes_on : (byte : ℕ) (rest : List ℕ) → BareTests byte → ends_word (byte ∷ rest) ≡ false
goes_on byte rest t = or_from _ _ t.blank (or_from _ _ t.separator (and_left (byte == backslash) (begins_with_line_end rest) t.backslash))

pub ends_at : (at : ℕ) (rest : List ℕ) → ends_word rest ≡ true → bare_len at rest ≡ Ok at
unfolding bare_len
ends_at at [] h = refl
ends_at at (byte ∷ rest) h = ap (λ (t : Bool). cond t (Ok at) (cond (substitutes byte) (flaw at Substitution) (cond (byte == backslash) (flaw at Backslash) (bare_len (at + 1) rest)))) h

pub bare_step : (at : ℕ) (byte : ℕ) (rest : List ℕ) → BareTests byte → bare_len at (byte ∷ rest) ≡ bare_len (at + 1) rest
unfolding bare_len
bare_step at byte rest t =
    ap (λ (u : Bool). cond u (Ok at) (cond (substitutes byte) (flaw at Substitution) (cond (byte == backslash) (flaw at Backslash) (bare_len (at + 1) rest)))) (goes_on byte rest t)
    ∙ ap (λ (u : Bool). cond u (flaw at Substitution) (cond (byte == backslash) (flaw at Backslash) (bare_len (at + 1) rest))) t.substitutes
    ∙ ap (λ (u : Bool). cond u (flaw at Backslash) (bare_len (at + 1) rest)) t.backslash

-- a bare word is read
pub bare-again : (at : ℕ) (word rest : List ℕ) → list_all is_bare word ≡ true → ends_word rest ≡ true → bare_len at (word ++ rest) ≡ Ok (at + length word)
bare-again at [] rest h ends =
    let none : at ≡ at + 0 = omega arith in
    ends_at at rest ends ∙ ap (λ (n : ℕ). Ok n) none
bare-again at (byte ∷ word) rest h ends =
    let parts = and_parts (is_bare byte) (list_all is_bare word) h in
    let sum : at + 1 + length word ≡ at + suc (length word) = omega arith in
    bare_step at byte (word ++ rest) (bare_tests byte parts.0) ∙ bare-again (at + 1) word rest parts.1 ends ∙ ap (λ (n : ℕ). Ok n) sum

-- a bare word that was read
pub record IsBareWord (at : ℕ) (bytes : List ℕ) (end : ℕ) : Type 0 where
  pub word : List ℕ
  pub rest : List ℕ
  pub parts : bytes ≡ word ++ rest
  pub bare : list_all is_bare word ≡ true
  pub ends : ends_word rest ≡ true
  pub len : end ≡ at + length word

abbrev done : ℕ → Result ℕ Flaw
done n = Ok n

len_is : (a b : ℕ) → done a ≡ Ok b → a ≡ b
len_is a b e = cc

ends_here : (at : ℕ) (bytes : List ℕ) (len : ℕ) → ends_word bytes ≡ true → done at ≡ Ok len → IsBareWord at bytes len
ends_here at bytes len h e =
    let is = len_is at len e in
    record { word = []; rest = bytes; parts = refl; bare = refl; ends = h; len = omega arith }

goes_over : (at : ℕ) (byte : ℕ) (rest : List ℕ) (len : ℕ) → is_bare byte ≡ true → IsBareWord (at + 1) rest len → IsBareWord at (byte ∷ rest) len
goes_over at byte rest len h w = record {
  word = byte ∷ w.word;
  rest = w.rest;
  parts = ap (λ (b : List ℕ). byte ∷ b) w.parts;
  bare = and_from _ _ h w.bare;
  ends = w.ends;
  len = omega (arith, w.len);
}

pub bare-takes : (at : ℕ) (bytes : List ℕ) (len : ℕ) → bare_len at bytes ≡ Ok len → IsBareWord at bytes len
unfolding bare_len
bare-takes at [] len e = ends_here at [] len refl e
bare-takes at (byte ∷ rest) len e =
    elim (chosen (ends_word (byte ∷ rest)) _ _ _ e) [
      | inl ended ↦ ends_here at (byte ∷ rest) len ended.0 ended.1
      | inr others ↦ elim (chosen (substitutes byte) _ _ _ others.1) [
        | inl refused ↦ absurd (let e : flaw at Substitution ≡ Ok len = refused.1 in cc)
        | inr left ↦ elim (chosen (byte == backslash) _ _ _ left.1) [
          | inl alone ↦ absurd (let e : flaw at Backslash ≡ Ok len = alone.1 in cc)
          | inr plain ↦
              let a = or_parts (is_blank byte) (is_separator byte || (byte == backslash && begins_with_line_end rest)) others.0 in
              let b = or_parts (is_separator byte) (byte == backslash && begins_with_line_end rest) a.1 in
              goes_over at byte rest len (bare_from byte (record { blank = a.0; separator = b.0; substitutes = left.0; backslash = plain.0 })) (bare-takes (at + 1) rest len plain.1)
        ]
      ]
    ]
