-- Waves have no fault, and one reading; a file without a fault is waves.
use Rattle.std.proofs.Common.{◌≡◌, ℕ, zero, suc, ◌+◌, ◌<◌, ◌≤◌, ◌⊎◌, inl, inr, cond, List, [], ◌∷◌, length, drop, map, slice_get, Option, Some, None, refl, sym, ap, subst, ◌∙◌, eq-eqb, below_more, arith}
use Rattle.std.specs.Prelude.{◌==◌, is_some, option_map}
use Rattle.std.proofs.lemmas.Option.{same_Some, slice_get-map, slice_get_past, slice_get_within}
use Rattle.std.proofs.lemmas.Bool.Decides.{Decides-ltb}
use Rattle.std.proofs.lemmas.List.{length-map}
use Rattle.av_base.specs.Word.{Word}
use Rattle.waves.specs.declared.faults.WavesRule.{WavesRule}
use Rattle.waves.specs.declared.faults.WavesRule.TheVariants.{Lines, Values, Spelling}
use Rattle.waves.specs.declared.faults.WavesFault.TheVariants.{Refused}
use Rattle.waves.specs.Cuts.{lines, texts}
use Rattle.waves.specs.Rows.{both, values, row_of, row_rule}
use Rattle.waves.specs.Digits.{value_in}
use Rattle.waves.specs.CutLaws.{not_less}
use Rattle.waves.proofs.Reading.{none_then, some_there}
use Rattle.waves.specs.Waves.{IsWavesOf, IsFirstBroken, IsFaultOf, IsFaultIn, IsFaultBy, cycles_of, later, rule_at, line_rule, there_or_none}

heads : (x y : List Word) (xs ys : List (List Word)) → map Some (x ∷ xs) ≡ map Some (y ∷ ys) → x ≡ y
heads x y xs ys e = same_Some x y (same_Some _ _ (ap (λ os. slice_get os 0) e))

same_rows : (one other : List (List Word)) → map Some one ≡ map Some other → one ≡ other
same_rows [] [] e = refl
same_rows [] (x ∷ xs) e = cc
same_rows (x ∷ xs) [] e = cc
same_rows (x ∷ xs) (y ∷ ys) e = ap (λ z. z ∷ xs) (heads x y xs ys e) ∙ ap (λ zs. y ∷ zs) (same_rows xs ys (ap (λ os. drop 1 os) e))

pub one_reading : (widths bytes : List ℕ) (one other : List (List Word)) → IsWavesOf widths bytes one → IsWavesOf widths bytes other → one ≡ other
one_reading widths bytes one other h g = same_rows one other (sym h.each ∙ g.each)

count_both : (n m : ℕ) (row : List Word) (first : Option Word) (others : Option (List Word)) → ((vs : List Word) → others ≡ Some vs → n ≡ m) → both first others ≡ Some row → suc n ≡ suc m
count_both n m row (Some v) (Some vs) more e = ap suc (more vs refl)
count_both n m row (Some v) None more e = cc
count_both n m row None others more e = cc

count : (widths : List ℕ) (ts : List (List ℕ)) (row : List Word) → values widths ts ≡ Some row → length ts ≡ length widths
count [] [] row e = refl
count [] (t ∷ ts) row e = cc
count (w ∷ ws) [] row e = cc
count (w ∷ ws) (t ∷ ts) row e = count_both (length ts) (length ws) row (value_in w t) (values ws ts) (λ vs h. count ws ts vs h) e

good_line : (widths line : List ℕ) (row : List Word) → row_of widths line ≡ Some row → row_rule widths line ≡ None
good_line widths line row e =
    ap (λ b. cond b (cond (is_some (row_of widths line)) None (Some Spelling)) (Some Values)) (eq-eqb (length (texts line)) (length widths) (count widths (texts line) row e))
    ∙ ap (λ o. cond (is_some o) None (Some Spelling)) e

read_there : (widths line : List ℕ) (o : Option (List Word)) → Some (row_of widths line) ≡ option_map Some o → row_rule widths line ≡ None
read_there widths line (Some row) e = good_line widths line row (same_Some _ _ e)
read_there widths line None e = cc

none_past : (there : List (List ℕ)) (cycle : ℕ) → slice_get there cycle ≡ None → length there ≤ cycle
none_past [] cycle e = omega arith
none_past (x ∷ xs) zero e = cc
none_past (x ∷ xs) (suc k) e = let less = none_past xs k e in omega arith

by_line : (widths : List ℕ) (there : List (List ℕ)) (rows : List (List Word)) (cycle : ℕ) (o : Option (List ℕ)) → slice_get there cycle ≡ o → length there ≡ length rows
    → option_map (row_of widths) (slice_get there cycle) ≡ option_map Some (slice_get rows cycle) → line_rule widths (length rows) o cycle ≡ None
by_line widths there rows cycle None e n h = let past = none_past there cycle e in ap (λ b. cond b (Some Lines) None) (not_less cycle (length rows) (omega arith))
by_line widths there rows cycle (Some line) e n h =
    let within = slice_get_within there cycle line e in
    let less : cycle < length rows = omega arith in
    ap (λ b. cond b (row_rule widths line) (Some Lines)) ((Decides-ltb cycle (length rows)).1 less)
    ∙ read_there widths line (slice_get rows cycle) (ap (option_map (row_of widths)) (sym e) ∙ h)

good_rule : (widths : List ℕ) (there : List (List ℕ)) (rows : List (List Word)) (cycle : ℕ) → map (row_of widths) there ≡ map Some rows → rule_at widths (length rows) there cycle ≡ None
good_rule widths there rows cycle e =
    let n : length there ≡ length rows = sym (length-map there (row_of widths)) ∙ ap length e ∙ length-map rows Some in
    by_line widths there rows cycle (slice_get there cycle) refl n (sym (slice_get-map (row_of widths) there cycle) ∙ ap (λ os. slice_get os cycle) e ∙ slice_get-map Some rows cycle)

pub no_fault : (widths bytes : List ℕ) (rows : List (List Word)) (line : ℕ) (rule : WavesRule) → IsWavesOf widths bytes rows → IsFaultOf widths bytes (Refused line rule) → ⊥
no_fault widths bytes rows line rule w f =
    let g : IsFaultBy widths bytes (Some (length rows)) (Refused line rule) = subst (λ o. IsFaultBy widths bytes o (Refused line rule)) w.cycles f in
    let good = good_rule widths (later (lines bytes)) rows g.0 w.each in
    let bad = g.2.broken in
    cc

-- the first line behind the first, and the second
pub at_second : (widths : List ℕ) (due : ℕ) (there : List (List ℕ)) (rule : WavesRule) → rule_at widths due there 0 ≡ Some rule → IsFaultIn widths due there (Refused 2 rule)
at_second widths due there rule e = (0, refl, record { broken = e; before = λ k l. absurd (omega arith) })

first_good : (widths : List ℕ) (due : ℕ) (there : List (List ℕ)) → rule_at widths due there 0 ≡ None → (k : ℕ) → k < 1 → rule_at widths due there k ≡ None
first_good widths due there e zero l = e
first_good widths due there e (suc k) l = absurd (omega arith)

pub at_third : (widths : List ℕ) (due : ℕ) (there : List (List ℕ)) (rule : WavesRule) → rule_at widths due there 0 ≡ None → rule_at widths due there 1 ≡ Some rule → IsFaultIn widths due there (Refused 3 rule)
at_third widths due there rule g e = (1, refl, record { broken = e; before = first_good widths due there g })

broken_no_later : (widths : List ℕ) (due : ℕ) (there : List (List ℕ)) (a b : ℕ) (r s : WavesRule) → IsFirstBroken widths due there a r → IsFirstBroken widths due there b s → a < b → ⊥
broken_no_later widths due there a b r s f g l = let none = g.before a l in let some = f.broken in cc

one_place : (widths : List ℕ) (due : ℕ) (there : List (List ℕ)) (a b : ℕ) (r s : WavesRule) → IsFirstBroken widths due there a r → IsFirstBroken widths due there b s → a ≡ b
one_place widths due there a b r s f g =
    let after = broken_no_later widths due there a b r s f g in
    let before = broken_no_later widths due there b a s r g f in
    grind (arith, after, before)

one_rule : (widths : List ℕ) (due : ℕ) (there : List (List ℕ)) (a b : ℕ) (r s : WavesRule) → IsFirstBroken widths due there a r → IsFirstBroken widths due there b s → a ≡ b → r ≡ s
one_rule widths due there a b r s f g e = same_Some r s (sym f.broken ∙ ap (λ k. rule_at widths due there k) e ∙ g.broken)

one_by : (widths bytes : List ℕ) (cycles : Option ℕ) (line other : ℕ) (rule second : WavesRule) → IsFaultBy widths bytes cycles (Refused line rule) → IsFaultBy widths bytes cycles (Refused other second)
    → (line ≡ other) × (rule ≡ second)
one_by widths bytes None line other rule second f g = (f.0 ∙ sym g.0, f.1 ∙ sym g.1)
one_by widths bytes (Some due) line other rule second f g =
    let same = one_place widths due (later (lines bytes)) f.0 g.0 rule second f.2 g.2 in
    (f.1 ∙ ap (λ k. k + 2) same ∙ sym g.1, one_rule widths due (later (lines bytes)) f.0 g.0 rule second f.2 g.2 same)

pub one_fault : (widths bytes : List ℕ) (line other : ℕ) (rule second : WavesRule) → IsFaultOf widths bytes (Refused line rule) → IsFaultOf widths bytes (Refused other second)
    → (line ≡ other) × (rule ≡ second)
one_fault widths bytes line other rule second f g = one_by widths bytes (cycles_of (lines bytes)) line other rule second f g

-- ---- rows or a fault

-- none of the first numbers has a rule, or one is the first that has
abbrev Search : (ℕ → Option WavesRule) → ℕ → Type 0
Search f n = ((k : ℕ) → k < n → f k ≡ None) ⊎ ((m : ℕ) × (rule : WavesRule) × (f m ≡ Some rule) × ((k : ℕ) → k < m → f k ≡ None))

one_more : (f : ℕ → Option WavesRule) (n : ℕ) (o : Option WavesRule) → f n ≡ o → ((k : ℕ) → k < n → f k ≡ None) → Search f (suc n)
one_more f n None e none = inl (λ k less. below_more (λ j. f j ≡ None) n none e k (omega arith))
one_more f n (Some rule) e none = inr (n, rule, e, none)

searched : (f : ℕ → Option WavesRule) (n : ℕ) → Search f n
searched f zero = inl (λ k less. absurd (omega arith))
searched f (suc n) = elim (searched f n) [ inl none ↦ one_more f n (f n) refl none | inr found ↦ inr found ]

rule_there : (widths : List ℕ) (due k : ℕ) (there : List (List ℕ)) (line : List ℕ) → slice_get there k ≡ Some line → k < due → rule_at widths due there k ≡ row_rule widths line
rule_there widths due k there line g less = ap (λ o. line_rule widths due o k) g ∙ ap (λ b. cond b (row_rule widths line) (Some Lines)) ((Decides-ltb k due).1 less)

none_missing : (widths : List ℕ) (due : ℕ) (there : List (List ℕ)) → length there < due → rule_at widths due there (length there) ≡ None → ⊥
none_missing widths due there less none =
    let past : slice_get there (length there) ≡ None = slice_get_past there (length there) (omega arith) in
    let broken : rule_at widths due there (length there) ≡ Some Lines =
    ap (λ o. line_rule widths due o (length there)) past ∙ ap (λ b. cond b (Some Lines) None) ((Decides-ltb (length there) due).1 less) in
    cc

line_here : (there : List (List ℕ)) (k : ℕ) → k < length there → (line : List ℕ) × (slice_get there k ≡ Some line)
line_here [] k less = absurd (omega arith)
line_here (line ∷ others) zero less = (line, refl)
line_here (line ∷ others) (suc k) less = line_here others k (omega arith)

none_left : (widths : List ℕ) (due : ℕ) (there : List (List ℕ)) → due < length there → rule_at widths due there due ≡ None → ⊥
none_left widths due there less none =
    let line = line_here there due less in
    let broken : rule_at widths due there due ≡ Some Lines =
    ap (λ o. line_rule widths due o due) line.1 ∙ ap (λ b. cond b (row_rule widths line.0) (Some Lines)) (not_less due due (omega arith)) in
    cc

abbrev row_on : List ℕ → List ℕ → List Word
row_on widths line = there_or_none (row_of widths line)

good_rows : (widths : List ℕ) (there : List (List ℕ)) → ((k : ℕ) (line : List ℕ) → slice_get there k ≡ Some line → row_rule widths line ≡ None)
    → map (row_of widths) there ≡ map Some (map (row_on widths) there)
good_rows widths [] good = refl
good_rows widths (line ∷ others) good =
    let some = some_there (row_of widths line) (none_then (length (texts line) == length widths) (is_some (row_of widths line)) (good 0 line refl)) in
    ap (λ o. o ∷ map (row_of widths) others) some ∙ ap (λ os. Some (row_on widths line) ∷ os) (good_rows widths others (λ k other e. good (suc k) other e))

faultless : (widths bytes : List ℕ) (due : ℕ) → cycles_of (lines bytes) ≡ Some due
    → ((k : ℕ) → k < due + length (later (lines bytes)) → rule_at widths due (later (lines bytes)) k ≡ None) → (rows : List (List Word)) × IsWavesOf widths bytes rows
faultless widths bytes due e none =
    let there = later (lines bytes) in
    let missing : length there < due → ⊥ = λ less. none_missing widths due there less (none (length there) (omega arith)) in
    let left : due < length there → ⊥ = λ less. none_left widths due there less (none due (omega arith)) in
    let count : due ≡ length there = grind (arith, missing, left) in (
      map (row_on widths) there,
      record {
        cycles = e ∙ ap Some (count ∙ sym (length-map there (row_on widths)));
        each = good_rows widths there (λ k line g.
            let within = slice_get_within there k line g in
            sym (rule_there widths due k there line g (omega arith)) ∙ none k (omega arith));
      },
    )

by_cycles : (widths bytes : List ℕ) (cycles : Option ℕ) → cycles_of (lines bytes) ≡ cycles
    → ((rows : List (List Word)) × IsWavesOf widths bytes rows) ⊎ ((line : ℕ) × (rule : WavesRule) × IsFaultOf widths bytes (Refused line rule))
by_cycles widths bytes None e = inr (1, Lines, subst (λ o. IsFaultBy widths bytes o (Refused 1 Lines)) (sym e) (refl, refl))
by_cycles widths bytes (Some due) e =
    elim (searched (rule_at widths due (later (lines bytes))) (due + length (later (lines bytes)))) [
      | inl none ↦ inl (faultless widths bytes due e none)
      | inr found ↦ inr (found.0 + 2, found.1, subst (λ o. IsFaultBy widths bytes o (Refused (found.0 + 2) found.1)) (sym e) (found.0, refl, record { broken = found.2; before = found.3 }))
    ]

pub rows_or_fault : (widths bytes : List ℕ) → ((rows : List (List Word)) × IsWavesOf widths bytes rows) ⊎ ((line : ℕ) × (rule : WavesRule) × IsFaultOf widths bytes (Refused line rule))
rows_or_fault widths bytes = by_cycles widths bytes (cycles_of (lines bytes)) refl
