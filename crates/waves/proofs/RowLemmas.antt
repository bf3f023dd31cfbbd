-- The values of a line, one after another.
use Rattle.std.proofs.Common.{◌≡◌, ℕ, ◌+◌, ◌<◌, ◌≤◌, Bool, true, false, cond, List, [], ◌∷◌, ◌++◌, length, take, drop, map, get_or, Option, Some, None, refl, sym, ap, subst, ◌∙◌, nat_lt, arith}
use Rattle.std.specs.Prelude.{is_some, option_map}
use Rattle.std.proofs.lemmas.Bool.{false≢true}
use Rattle.std.proofs.lemmas.Bool.Decides.{Decides-ltb}
use Rattle.std.proofs.lemmas.List.{drop_more, drop_all, take_all, append-nil}
use Rattle.std.proofs.lemmas.Option.{same_Some}
use Rattle.av_base.specs.Word.{Word, word}
use Rattle.waves.specs.Cuts.{blank, pieces, texts_from}
use Rattle.waves.specs.Digits.{value_in, is_spelled, number_behind}
use Rattle.waves.specs.Rows.{both, values, row_of}
use Rattle.waves.specs.CutLaws.{behind, some_piece, not_above}

-- no text where one is due
pub no_text : (widths line : List ℕ) (i at : ℕ) → i < length widths → length line < at → is_some (values (drop i widths) (texts_from at line)) ≡ false
no_text widths line i at l h = let none = behind line at h in let more = drop_more widths i 0 l in rw (more, none) refl

none_due : (ps : List (List ℕ)) → 0 < length ps → is_some (values [] ps) ≡ false
none_due [] h = absurd (omega arith)
none_due (p ∷ ps) h = refl

end_by : (line : List ℕ) (at : ℕ) (b : Bool) → b ≡ is_some (values [] (cond b [] (pieces blank (drop at line))))
end_by line at true = refl
end_by line at false = sym (none_due (pieces blank (drop at line)) (some_piece blank (drop at line)))

-- behind the last value the line ends
pub at_end : (widths line : List ℕ) (i at : ℕ) → length widths ≤ i → nat_lt (length line) at ≡ is_some (values (drop i widths) (texts_from at line))
at_end widths line i at h = let none : drop i widths ≡ [] = drop_all i widths h in rw none (end_by line at (nat_lt (length line) at))

within_by : (widths line : List ℕ) (i at : ℕ) (b : Bool) → nat_lt (length line) at ≡ b → i < length widths → is_some (values (drop i widths) (texts_from at line)) ≡ true → at ≤ length line
within_by widths line i at true e l some = absurd (false≢true (sym (no_text widths line i at l ((Decides-ltb (length line) at).0 e)) ∙ some))
within_by widths line i at false e l some = not_above (length line) at e

-- where a value is due there is more of the line
pub within_line : (widths line : List ℕ) (i at : ℕ) → i < length widths → is_some (values (drop i widths) (texts_from at line)) ≡ true → at ≤ length line
within_line widths line i at l some = within_by widths line i at (nat_lt (length line) at) refl l some

-- a value, and those behind it
pub step : (widths line text : List ℕ) (i at next : ℕ) → i < length widths → texts_from at line ≡ text ∷ texts_from next line
    → values (drop i widths) (texts_from at line) ≡ both (value_in (get_or widths i 0) text) (values (drop (i + 1) widths) (texts_from next line))
step widths line text i at next l t = let more = drop_more widths i 0 l in rw (more, t) refl

width_by : (b : Bool) (w n : ℕ) (v : Word) → cond b (Some (word w n)) None ≡ Some v → v.width ≡ w
width_by true w n v e = sym (ap (λ (x : Word). x.width) (same_Some _ _ e))
width_by false w n v e = cc

widths_both : (w : ℕ) (ws : List ℕ) (row : List Word) (first : Option Word) (others : Option (List Word)) → ((v : Word) → first ≡ Some v → v.width ≡ w)
    → ((vs : List Word) → others ≡ Some vs → map (λ (x : Word). x.width) vs ≡ ws) → both first others ≡ Some row → map (λ (x : Word). x.width) row ≡ w ∷ ws
widths_both w ws row (Some v) (Some vs) one more e =
    sym (ap (λ (xs : List Word). map (λ (x : Word). x.width) xs) (same_Some _ _ e)) ∙ ap (λ k. k ∷ map (λ (x : Word). x.width) vs) (one v refl) ∙ ap (λ ks. w ∷ ks) (more vs refl)
widths_both w ws row (Some v) None one more e = cc
widths_both w ws row None others one more e = cc

-- a row has the widths that it was read by
pub row_widths : (widths : List ℕ) (ts : List (List ℕ)) (row : List Word) → values widths ts ≡ Some row → map (λ (x : Word). x.width) row ≡ widths
row_widths [] [] row e = sym (ap (λ (xs : List Word). map (λ (x : Word). x.width) xs) (same_Some _ _ e))
row_widths [] (t ∷ ts) row e = cc
row_widths (w ∷ ws) [] row e = cc
row_widths (w ∷ ws) (t ∷ ts) row e =
    widths_both w ws row (value_in w t) (values ws ts) (λ v h. width_by (is_spelled w t) w (number_behind 16 0 t) v h) (λ vs h. row_widths ws ts vs h) e

filled_by : (ts : List (List ℕ)) (r : Option (List Word)) (k : ℕ) (into : List Word) → r ≡ option_map (λ rest. take k into ++ rest) (values [] ts) → is_some (values [] ts) ≡ true
    → length into ≤ k → r ≡ Some into
filled_by [] r k into e some h = e ∙ ap Some (append-nil (take k into) ∙ take_all k into h)
filled_by (t ∷ ts) r k into e some h = absurd (false≢true some)

-- behind the last value the row is whole
pub filled : (widths line : List ℕ) (k at : ℕ) (into : List Word) → length widths ≤ k → length into ≡ length widths
    → row_of widths line ≡ option_map (λ rest. take k into ++ rest) (values (drop k widths) (texts_from at line)) → is_some (values (drop k widths) (texts_from at line)) ≡ true
    → row_of widths line ≡ Some into
filled widths line k at into h n e some =
    let none : drop k widths ≡ [] = drop_all k widths h in
    filled_by (texts_from at line) (row_of widths line) k into (subst (λ ws. row_of widths line ≡ option_map (λ rest. take k into ++ rest) (values ws (texts_from at line))) none e)
    (subst (λ ws. is_some (values ws (texts_from at line)) ≡ true) none some) (omega arith)
