-- Laws of the pieces at the front of bytes. No contract reads a proof of theirs; the crates above cite them.
use Rattle.std.proofs.Common.{◌≡◌, ℕ, zero, suc, ◌+◌, ◌-◌, ◌<◌, ◌≤◌, Bool, true, false, not, cond, List, [], ◌∷◌, length, take, drop, get_or, refl, sym, ap, subst, ◌∙◌, nat_lt, arith}
use Rattle.std.specs.Prelude.{◌==◌}
use Rattle.std.proofs.lemmas.Bool.{eqb-true, false_from_ne_true}
use Rattle.std.proofs.lemmas.Bool.Decides.{Decides-ltb, nat_tests}
use Rattle.std.proofs.lemmas.List.{take_all, drop_all, drop-drop, length-drop}
use Rattle.std.proofs.lemmas.List.Sums.{prefix_len-le-length}
use Rattle.std.proofs.Math.Seq.{take-length}
use Rattle.std.specs.List.{prefix_len}
use Rattle.waves.specs.Cuts.{line_feed, carriage_return, blank, longer_first, pieces, without_return, ended, lines, texts_from}

abbrev len_to : ℕ → List ℕ → ℕ
len_to parting bytes = prefix_len (λ byte. not (byte == parting)) bytes

one-plus : (n : ℕ) → 1 + n ≡ suc n
one-plus n = omega arith

last_more : (parting x : ℕ) (xs : List ℕ) (b : Bool) → (x == parting) ≡ b
    → (len_to parting xs ≡ length xs → pieces parting xs ≡ xs ∷ [])
    → cond (not b) (1 + len_to parting xs) 0 ≡ suc (length xs)
    → cond b ([] ∷ pieces parting xs) (longer_first x (pieces parting xs)) ≡ (x ∷ xs) ∷ []
last_more parting x xs true e ih h = absurd (omega arith)
last_more parting x xs false e ih h =
    let same : len_to parting xs ≡ length xs = omega arith in
    rw (ih same) refl

-- bytes without one that parts them are one piece
pub last_piece : (parting : ℕ) (bytes : List ℕ) → len_to parting bytes ≡ length bytes → pieces parting bytes ≡ bytes ∷ []
last_piece parting [] h = refl
last_piece parting (x ∷ xs) h = last_more parting x xs (x == parting) refl (last_piece parting xs) h

first_more : (parting x : ℕ) (xs : List ℕ) (b : Bool) → (x == parting) ≡ b
    → (len_to parting xs < length xs
    → pieces parting xs ≡ take (len_to parting xs) xs ∷ pieces parting (drop (len_to parting xs + 1) xs))
    → cond (not b) (1 + len_to parting xs) 0 < suc (length xs)
    → cond b ([] ∷ pieces parting xs) (longer_first x (pieces parting xs))
    ≡ take (cond (not b) (1 + len_to parting xs) 0) (x ∷ xs)
    ∷ pieces parting (drop (cond (not b) (1 + len_to parting xs) 0 + 1) (x ∷ xs))
first_more parting x xs true e ih h = refl
first_more parting x xs false e ih h =
    let less : len_to parting xs < length xs = omega arith in
    let after : (1 + len_to parting xs) + 1 ≡ suc (len_to parting xs + 1) = omega arith in
    rw (after, one-plus, ih less) refl

-- and else the first is what stands before it
pub first_piece : (parting : ℕ) (bytes : List ℕ) → len_to parting bytes < length bytes
    → pieces parting bytes ≡ take (len_to parting bytes) bytes ∷ pieces parting (drop (len_to parting bytes + 1) bytes)
first_piece parting [] h = absurd (omega arith)
first_piece parting (x ∷ xs) h = first_more parting x xs (x == parting) refl (first_piece parting xs) h

longer_some : (x : ℕ) (ps : List (List ℕ)) → 0 < length (longer_first x ps)
longer_some x [] = omega arith
longer_some x (p ∷ ps) = omega arith

some_by : (b : Bool) (x : ℕ) (ps : List (List ℕ)) → 0 < length (cond b ([] ∷ ps) (longer_first x ps))
some_by true x ps = omega arith
some_by false x ps = longer_some x ps

pub some_piece : (parting : ℕ) (bytes : List ℕ) → 0 < length (pieces parting bytes)
some_piece parting [] = omega arith
some_piece parting (x ∷ xs) = some_by (x == parting) x (pieces parting xs)

ended_more : (line : List ℕ) (ps : List (List ℕ)) → 0 < length ps → ended (line ∷ ps) ≡ without_return line ∷ ended ps
ended_more line [] h = absurd (omega arith)
ended_more [] (next ∷ others) h = refl
ended_more (byte ∷ rest) (next ∷ others) h = refl

-- what no line feed follows is a line where it isn't empty
pub last_line : (bytes : List ℕ) → 0 < length bytes → len_to line_feed bytes ≡ length bytes → lines bytes ≡ bytes ∷ []
last_line [] some h = absurd (omega arith)
last_line (x ∷ xs) some h = rw (last_piece line_feed (x ∷ xs) h) refl

-- what a line feed follows is one without its carriage return
pub next_line : (bytes : List ℕ) → len_to line_feed bytes < length bytes
    → lines bytes ≡ without_return (take (len_to line_feed bytes) bytes) ∷ lines (drop (len_to line_feed bytes + 1) bytes)
next_line bytes h =
    let rest = drop (len_to line_feed bytes + 1) bytes in
    rw (first_piece line_feed bytes h)
    (ended_more (take (len_to line_feed bytes) bytes) (pieces line_feed rest) (some_piece line_feed rest))

-- a carriage return at the end is dropped
pub return_dropped : (line : List ℕ) → 0 < length line → get_or line (length line - 1) 0 ≡ 13
    → take (length line - 1) line ≡ without_return line
return_dropped [] some e = absurd (omega arith)
return_dropped (byte ∷ []) some e = let is : byte ≡ 13 = e in rw is refl
return_dropped (byte ∷ next ∷ rest) some e =
    let less : suc (suc (length rest)) - 1 ≡ suc (suc (length rest) - 1) = omega arith in
    let later : get_or (next ∷ rest) (suc (length rest) - 1) 0 ≡ 13 = subst (λ k. get_or (byte ∷ next ∷ rest) k 0 ≡ 13) less e in
    rw less (ap (λ xs. byte ∷ xs) (return_dropped (next ∷ rest) (omega arith) later))

kept_alone : (byte : ℕ) (b : Bool) → (byte == carriage_return) ≡ b → (byte ≡ 13 → ⊥) → byte ∷ [] ≡ cond b [] (byte ∷ [])
kept_alone byte true e other = absurd (other (eqb-true byte carriage_return e))
kept_alone byte false e other = refl

-- and a line without one stays
none_dropped : (line : List ℕ) → (0 < length line → get_or line (length line - 1) 0 ≡ 13 → ⊥) → line ≡ without_return line
none_dropped [] other = refl
none_dropped (byte ∷ []) other = kept_alone byte (byte == carriage_return) refl (other (omega arith))
none_dropped (byte ∷ next ∷ rest) other =
    let less : suc (suc (length rest)) - 1 ≡ suc (suc (length rest) - 1) = omega arith in
    let later : get_or (byte ∷ next ∷ rest) (suc (suc (length rest) - 1)) 0 ≡ 13 → ⊥ = subst
    (λ k. get_or (byte ∷ next ∷ rest) k 0 ≡ 13 → ⊥) less (other (omega arith)) in
    ap (λ xs. byte ∷ xs) (none_dropped (next ∷ rest) (λ s. later))

pub kept_whole : (line : List ℕ) → (0 < length line → get_or line (length line - 1) 0 ≡ 13 → ⊥)
    → take (length line) line ≡ without_return line
kept_whole line other = take-length line ∙ none_dropped line other

-- the beginning of a beginning
pub take_less : (k n : ℕ) (xs : List ℕ) → k ≤ n → take k (take n xs) ≡ take k xs
take_less zero n xs h = refl
take_less (suc k) zero xs h = absurd (omega arith)
take_less (suc k) (suc n) [] h = refl
take_less (suc k) (suc n) (x ∷ xs) h = ap (λ ys. x ∷ ys) (take_less k n xs (omega arith))

-- the last line, told by its length
pub whole_line : (bytes : List ℕ) (n : ℕ) → 0 < length bytes → n ≡ len_to line_feed bytes → n ≡ length bytes
    → lines bytes ≡ take n bytes ∷ lines (drop n bytes)
whole_line bytes n some e h =
    let all : take n bytes ≡ bytes = take_all n bytes (omega arith) in
    let none : drop n bytes ≡ [] = drop_all n bytes (omega arith) in
    last_line bytes some (sym e ∙ h) ∙ ap (λ xs. xs ∷ []) (sym all) ∙ ap (λ xs. take n bytes ∷ lines xs) (sym none)

-- a line that a line feed ends, told by its length
pub cut_line : (bytes : List ℕ) (n k : ℕ) → n ≡ len_to line_feed bytes → n < length bytes → k ≤ n
    → take k (take n bytes) ≡ without_return (take n bytes)
    → lines bytes ≡ take k bytes ∷ lines (drop (n + 1) bytes)
cut_line bytes n k e h l w =
    let cut : lines bytes ≡ without_return (take n bytes) ∷ lines (drop (n + 1) bytes) =
    subst (λ m. lines bytes ≡ without_return (take m bytes) ∷ lines (drop (m + 1) bytes)) (sym e)
    (next_line bytes (subst (λ m. m < length bytes) e h)) in
    cut ∙ ap (λ xs. xs ∷ lines (drop (n + 1) bytes)) (sym w ∙ take_less k n bytes l)

pub not_above : (a b : ℕ) → nat_lt a b ≡ false → b ≤ a
not_above a b e = grind (arith, nat_tests)

pub not_less : (a b : ℕ) → b ≤ a → nat_lt a b ≡ false
not_less a b h = false_from_ne_true _ (λ t. let l = (Decides-ltb a b).0 t in absurd (omega arith))

pub here : (line : List ℕ) (at : ℕ) → at ≤ length line → texts_from at line ≡ pieces blank (drop at line)
here line at h = ap (λ b. cond b [] (pieces blank (drop at line))) (not_less (length line) at h)

pub behind : (line : List ℕ) (at : ℕ) → length line < at → texts_from at line ≡ []
behind line at h = ap (λ b. cond b [] (pieces blank (drop at line))) ((Decides-ltb (length line) at).1 h)

text_by : (line : List ℕ) (at n : ℕ) (b : Bool) → nat_lt n (length (drop at line)) ≡ b → at ≤ length line
    → len_to blank (drop at line) ≡ n
    → pieces blank (drop at line) ≡ take n (drop at line) ∷ texts_from (at + n + 1) line
text_by line at n true e l h =
    let less : n < length (drop at line) = (Decides-ltb n (length (drop at line))).0 e in
    let long = length-drop at line in
    let within : at + n + 1 ≤ length line = omega arith in
    let first : pieces blank (drop at line) ≡ take n (drop at line) ∷ pieces blank (drop (n + 1) (drop at line)) =
    subst (λ m. pieces blank (drop at line) ≡ take m (drop at line) ∷ pieces blank (drop (m + 1) (drop at line))) h
    (first_piece blank (drop at line) (subst (λ m. m < length (drop at line)) (sym h) less)) in
    let place : at + (n + 1) ≡ at + n + 1 = omega arith in
    let rest : drop (n + 1) (drop at line) ≡ drop (at + n + 1) line = drop-drop (n + 1) at line ∙ ap (λ k. drop k line) place in
    first ∙ ap (λ xs. take n (drop at line) ∷ pieces blank xs) rest
    ∙ ap (λ xs. take n (drop at line) ∷ xs) (sym (here line (at + n + 1) within))
text_by line at n false e l h =
    let most = prefix_len-le-length (λ byte. not (byte == blank)) (drop at line) in
    let least : length (drop at line) ≤ n = not_above n (length (drop at line)) e in
    let all : n ≡ length (drop at line) = omega arith in
    let long = length-drop at line in
    let past : length line < at + n + 1 = omega arith in
    last_piece blank (drop at line) (h ∙ all) ∙ ap (λ xs. xs ∷ []) (sym (take_all n (drop at line) least))
    ∙ ap (λ xs. take n (drop at line) ∷ xs) (sym (behind line (at + n + 1) past))

-- the text at a place on the line, and those behind it
pub text_cut : (line : List ℕ) (at n : ℕ) → at ≤ length line → n ≡ len_to blank (drop at line)
    → texts_from at line ≡ take (at + n - at) (drop at line) ∷ texts_from (at + n + 1) line
text_cut line at n l h =
    let long : at + n - at ≡ n = omega arith in
    here line at l ∙ text_by line at n _ refl l (sym h)
    ∙ ap (λ k. take k (drop at line) ∷ texts_from (at + n + 1) line) (sym long)
