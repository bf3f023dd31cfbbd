-- Blocks of nets, and lists of them.
use Rattle.std.proofs.Common.{◌≡◌, ◌≢◌, ℕ, ◌+◌, ◌*◌, ◌%◌, ◌<◌, ◌≤◌, Bool, true, false, List, [], ◌∷◌, ◌++◌, length, slice_get, get_or, set, replicate, Some, ◌⊎◌, inl, inr, refl, sym, subst, ap, ◌∙◌, arith}
use Rattle.std.proofs.Math.Nat.{div-add-mod, mod-lt}
use Rattle.std.proofs.lemmas.Bool.{cases_lt, false≢true}
use Rattle.std.proofs.lemmas.List.{get_or-set_same, get_or-set_other, get_or-replicate, get_or_past, length-set, length-replicate}
use Rattle.std.proofs.lemmas.Option.{slice_get_within, get_or_from_slice_get, same_Some}
use Rattle.cycle_sim.specs.Readers.{HasBesides, IsListed, StayStale, AreStale, block_of, list_at}
use Rattle.cycle_sim.proofs.Values.{slice_get-some, slice_get-front, slice_get-last, slice_get-push}

pub same_or_other : (n k : ℕ) → (n ≡ k) ⊎ (n ≢ k)
same_or_other n k = elim (cases_lt n k) [
  | inl lt ↦ inr (λ e. omega arith)
  | inr le ↦ elim (cases_lt k n) [ inl gt ↦ inr (λ e. omega arith) | inr ge ↦ inl (omega arith) ]
]

-- the nets of a block
pub block_begins : (n : ℕ) → block_of n * 8 ≤ n
block_begins n = (let e = div-add-mod n 8 in omega (arith, e))

pub block_ends : (n : ℕ) → n < block_of n * 8 + 8
block_ends n = (let e = div-add-mod n 8 in let lt : n % 8 < 8 = mod-lt n (omega arith) in omega (arith, e, lt))

pub block_is : (n block : ℕ) → block * 8 ≤ n → n < block * 8 + 8 → block_of n ≡ block
block_is n block from to = (let begins = block_begins n in let ends = block_ends n in omega (arith, begins, ends, from, to))

-- ---- stale blocks

pub stay_same : (stale : List Bool) → StayStale stale stale
stay_same stale = record { count = refl; stay = λ block at. at }

pub stay_further : (stale then after : List Bool) → StayStale stale then → StayStale then after → StayStale stale after
stay_further stale then after h k = record { count = k.count ∙ h.count; stay = λ block at. k.stay block (h.stay block at) }

-- a block that isn't stale wasn't before
pub fresh_before : (stale after : List Bool) (block : ℕ) → StayStale stale after → slice_get after block ≡ Some false → slice_get stale block ≡ Some false
fresh_before stale after block h at =
    let within = slice_get_within after block false at in
    let some = slice_get-some stale block (let c = h.count in omega arith) in
    by_value some.0 some.1 where
      by_value : (t : Bool) → slice_get stale block ≡ Some t → slice_get stale block ≡ Some false
      by_value true e = absurd (false≢true (same_Some _ _ (sym at ∙ h.stay block e)))
      by_value false e = e
