-- Values at places of lists.
use Rattle.std.proofs.Common.{◌≡◌, ◌≢◌, ℕ, zero, suc, ◌+◌, ◌<◌, List, [], ◌∷◌, ◌++◌, length, slice_get, set, map, take, drop, Some, ◌⊎◌, inl, inr, refl, subst, ap, ◌∙◌, arith}
use Rattle.std.proofs.Math.Seq.{take-append_seam}
use Rattle.std.proofs.lemmas.Bool.{cases_lt}
use Rattle.std.proofs.lemmas.List.{get_or-set_same, get_or-set_other}
use Rattle.std.proofs.lemmas.Option.{get_or_from_slice_get, same_Some}
use Rattle.av_base.specs.Word.{Word, word}
use Rattle.netlist.specs.declared.line.Line.{Line}
use Rattle.netlist.specs.Netlists.{width_at}
use Rattle.cycle_sim.specs.Sims.{bits_at}

pub split_more : (n k : ℕ) → n < k + 1 → (n < k) ⊎ (n ≡ k)
split_more n k h = elim (cases_lt n k) [ inl lt ↦ inl lt | inr le ↦ inr (omega arith) ]

pub slice_get-some : {X : Type 0} (xs : List X) (n : ℕ) → n < length xs → (x : X) × (slice_get xs n ≡ Some x)
slice_get-some [] n h = absurd (omega arith)
slice_get-some (x ∷ xs) zero h = (x, refl)
slice_get-some (x ∷ xs) (suc n) h = slice_get-some xs n (omega arith)

pub width_at-line : (xs : List Line) (n w : ℕ) → width_at xs n ≡ Some w → (line : Line) × (slice_get xs n ≡ Some line) × (line.width ≡ w)
width_at-line [] n w e = cc
width_at-line (x ∷ xs) zero w e = (x, refl, (cc))
width_at-line (x ∷ xs) (suc n) w e = width_at-line xs n w e

-- an item of a list in which one was set: the one, or an earlier one
pub slice_get-set : {X : Type 0} (xs : List X) (k n : ℕ) (y z : X) → slice_get (set xs k y) n ≡ Some z → (slice_get xs n ≡ Some z) ⊎ (n ≡ k) × (y ≡ z)
slice_get-set [] k n y z e = inl e
slice_get-set (a ∷ xs) zero zero y z e = inr (refl, (cc))
slice_get-set (a ∷ xs) zero (suc n) y z e = inl e
slice_get-set (a ∷ xs) (suc k) zero y z e = inl e
slice_get-set (a ∷ xs) (suc k) (suc n) y z e = elim (slice_get-set xs k n y z e) [ inl o ↦ inl o | inr o ↦ inr (ap suc o.0, o.1) ]

pub slice_get-front : {X : Type 0} (xs ys : List X) (n : ℕ) (x : X) → slice_get xs n ≡ Some x → slice_get (xs ++ ys) n ≡ Some x
slice_get-front [] ys n x e = cc
slice_get-front (a ∷ xs) ys zero x e = e
slice_get-front (a ∷ xs) ys (suc n) x e = slice_get-front xs ys n x e

pub slice_get-last : {X : Type 0} (xs : List X) (y : X) → slice_get (xs ++ y ∷ []) (length xs) ≡ Some y
slice_get-last [] y = refl
slice_get-last (a ∷ xs) y = slice_get-last xs y

-- an item of a list with one more
pub slice_get-push : {X : Type 0} (xs : List X) (y z : X) (n : ℕ) → slice_get (xs ++ y ∷ []) n ≡ Some z → (slice_get xs n ≡ Some z) ⊎ (n ≡ length xs) × (y ≡ z)
slice_get-push [] y z zero e = inr (refl, (cc))
slice_get-push [] y z (suc n) e = inl e
slice_get-push (a ∷ xs) y z zero e = inl e
slice_get-push (a ∷ xs) y z (suc n) e = elim (slice_get-push xs y z n e) [ inl o ↦ inl o | inr o ↦ inr (ap suc o.0, o.1) ]

pub bits_at-is : (values : List Word) (n : ℕ) (value : Word) → slice_get values n ≡ Some value → bits_at values n ≡ value.bits
bits_at-is values n value e = ap (λ (x : Word). x.bits) (get_or_from_slice_get values n value (word 0 0) e)

pub bits_at-set_same : (values : List Word) (k : ℕ) (value : Word) → k < length values → bits_at (set values k value) k ≡ value.bits
bits_at-set_same values k value h = ap (λ (x : Word). x.bits) (get_or-set_same values k value (word 0 0) h)

pub bits_at-set_other : (values : List Word) (k n : ℕ) (value : Word) → n ≢ k → bits_at (set values k value) n ≡ bits_at values n
bits_at-set_other values k n value h = ap (λ (x : Word). x.bits) (get_or-set_other values k n value (word 0 0) h)

-- values of the same widths as other items
pub same_widths : {X : Type 0} (width : X → ℕ) (values : List Word) (items : List X) → map (λ (value : Word). value.width) values ≡ map width items → (n : ℕ) (item : X) → slice_get items n ≡ Some item →
    (value : Word) × (slice_get values n ≡ Some value) × (value.width ≡ width item)
same_widths width [] [] e n item at = cc
same_widths width [] (i ∷ items) e n item at = cc
same_widths width (v ∷ values) [] e n item at = cc
same_widths width (v ∷ values) (i ∷ items) e zero item at =
    let is : i ≡ item = same_Some _ _ at in
    let first : v.width ≡ width i = cc in
    (v, refl, first ∙ ap width is)
same_widths width (v ∷ values) (i ∷ items) e (suc n) item at =
    let rest : map (λ (value : Word). value.width) values ≡ map width items = cc in
    same_widths width values items rest n item at

-- a buffer written over whole
pub refilled : {X : Type 0} (n : ℕ) (xs ys : List X) → length xs ≡ n → take n (xs ++ drop (length xs) ys) ≡ xs
refilled n xs ys e = subst (λ k. take k (xs ++ drop (length xs) ys) ≡ xs) e (take-append_seam xs (drop (length xs) ys))
