-- Values at places of lists.
use Rattle.std.proofs.Common.{◌≡◌, ◌≢◌, ℕ, zero, suc, ◌+◌, ◌<◌, List, [], ◌∷◌, ◌++◌, length, slice_get, set, map, take, drop, Some, ◌⊎◌, inl, inr, refl, subst, ap, ◌∙◌, arith}
use Rattle.std.proofs.Math.Seq.{take-append_seam}
use Rattle.std.proofs.lemmas.Bool.{cases_lt}
use Rattle.std.proofs.lemmas.List.{get_or-set_same, get_or-set_other}
use Rattle.std.proofs.lemmas.Option.{get_or_from_slice_get, same_Some}
use Rattle.av_base.specs.Word.{Word, word}
use Rattle.netlist.specs.declared.line.Line.{Line}
use Rattle.netlist.specs.Netlists.{width_at}

pub split_more : (n k : ℕ) → n < k + 1 → (n < k) ⊎ (n ≡ k)
split_more n k h = elim (cases_lt n k) [ inl lt ↦ inl lt | inr le ↦ inr (omega arith) ]

pub slice_get-some : {X : Type 0} (xs : List X) (n : ℕ) → n < length xs → (x : X) × (slice_get xs n ≡ Some x)
slice_get-some [] n h = absurd (omega arith)
slice_get-some (x ∷ xs) zero h = (x, refl)
slice_get-some (x ∷ xs) (suc n) h = slice_get-some xs n (omega arith)

pub slice_get-front : {X : Type 0} (xs ys : List X) (n : ℕ) (x : X) → slice_get xs n ≡ Some x → slice_get (xs ++ ys) n ≡ Some x
slice_get-front [] ys n x e = cc
slice_get-front (a ∷ xs) ys zero x e = e
slice_get-front (a ∷ xs) ys (suc n) x e = slice_get-front xs ys n x e

pub slice_get-last : {X : Type 0} (xs : List X) (y : X) → slice_get (xs ++ y ∷ []) (length xs) ≡ Some y
slice_get-last [] y = refl
slice_get-last (a ∷ xs) y = slice_get-last xs y

-- an item of a list with one more
pub slice_get-push : {X : Type 0} (xs : List X) (y z : X) (n : ℕ) → slice_get (xs ++ y ∷ []) n ≡ Some z → (slice_get xs n ≡ Some z) ⊎ (n ≡ length xs) × (y ≡ z)
slice_get-push [] y z zero e = inr (refl, (cc))
slice_get-push [] y z (suc n) e = inl e
slice_get-push (a ∷ xs) y z zero e = inl e
slice_get-push (a ∷ xs) y z (suc n) e = elim (slice_get-push xs y z n e) [ inl o ↦ inl o | inr o ↦ inr (ap suc o.0, o.1) ]
