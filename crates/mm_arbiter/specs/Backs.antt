-- The backs that are made so far.
use Rattle.std.specs.Prelude.{◌≡◌, ℕ, zero, suc, ◌+◌, ◌*◌, ◌^◌, ◌<◌, List, [], ◌∷◌, ◌++◌, length, get_or}
use Rattle.std.proofs.Common.{refl, sym, subst, ◌∙◌, length-append, arith}
use Rattle.netlist.specs.Nets.{NetValue}
use Rattle.netlist.specs.Netlists.{Netlist}
use Rattle.net_parts.specs.Growth.{AddsNets}
use Rattle.net_parts.specs.Laws.{adds_none, adds_twice, adds_fewer}
use Rattle.mm_arbiter.specs.declared.asker.Asker.{Asker}
use Rattle.mm_arbiter.specs.declared.back.BackNets.{BackNets}
use Rattle.mm_arbiter.specs.declared.back.BelowNets.{BelowNets}
use Rattle.mm_arbiter.specs.Backward.{IsBackOf, AreBacks, backs_last}

-- each host's number fits its tag
abbrev pub HostsFit : ℕ → List Asker → Type 0
HostsFit tag_bits [] = Unit {0}
HostsFit tag_bits (asker ∷ later) = (asker.host < 2 ^ tag_bits) × HostsFit tag_bits later

-- ---- laws. No contract reads a proof of these

pub host_fits : (tag_bits : ℕ) (askers : List Asker) (k : ℕ) (d : Asker) → HostsFit tag_bits askers → k < length askers
    → (get_or askers k d).host < 2 ^ tag_bits
host_fits tag_bits [] k d h lt = absurd (omega arith)
host_fits tag_bits (asker ∷ later) zero d h lt = h.0
host_fits tag_bits (asker ∷ later) (suc k) d h lt = host_fits tag_bits later k d h.1 (omega arith)

pub backs_more : (netlist : Netlist) (chosen : NetValue) (below : BelowNets) (word_bits seat n : ℕ) (askers : List Asker)
    (d : Asker) (made : List BackNets) (last : BackNets)
    → AreBacks netlist chosen below word_bits seat askers made →
    n ≡ seat + length made → length made < length askers
    → IsBackOf netlist chosen below word_bits n (get_or askers (length made) d).host last
    → AreBacks netlist chosen below word_bits seat askers (made ++ last ∷ [])
backs_more netlist chosen below word_bits seat n [] d made last h e lt p = absurd (omega arith)
backs_more netlist chosen below word_bits seat n (asker ∷ []) d [] last h e lt p =
    (subst (λ m. IsBackOf netlist chosen below word_bits m asker.host last) (e ∙ omega arith) p, tt)
backs_more netlist chosen below word_bits seat n (asker ∷ next ∷ later) d [] last h e lt p =
    (subst (λ m. IsBackOf netlist chosen below word_bits m asker.host last) (e ∙ omega arith) p, tt)
backs_more netlist chosen below word_bits seat n (asker ∷ later) d (first ∷ made) last h e lt p =
    (h.0, backs_more netlist chosen below word_bits (seat + 1) n later d made last h.1 (omega (arith, e)) (omega arith) p)

-- so many are made
pub record AreBacksSoFar (old now : Netlist) (chosen : NetValue) (below : BelowNets) (word_bits : ℕ) (askers : List Asker)
    (made : List BackNets) (count : ℕ) : Type 0 where
  pub made_are : AreBacks now chosen below word_bits 0 askers made
  pub count_is : length made ≡ count
  pub adds : AddsNets (6 * count) old now

none_are : (netlist : Netlist) (chosen : NetValue) (below : BelowNets) (word_bits : ℕ) (askers : List Asker)
    → AreBacks netlist chosen below word_bits 0 askers []
none_are netlist chosen below word_bits [] = tt
none_are netlist chosen below word_bits (asker ∷ askers) = tt

pub no_backs : (old : Netlist) (chosen : NetValue) (below : BelowNets) (word_bits : ℕ) (askers : List Asker)
    → AreBacksSoFar old old chosen below word_bits askers [] 0
no_backs old chosen below word_bits askers =
    record { made_are = none_are old chosen below word_bits askers; count_is = refl; adds = adds_none old }

pub one_more_back : (old now new : Netlist) (chosen : NetValue) (below : BelowNets) (word_bits : ℕ) (askers : List Asker)
    (d : Asker) (made : List BackNets) (last : BackNets) (count : ℕ)
    → AreBacksSoFar old now chosen below word_bits askers made count → AddsNets 6 now new →
    count < length askers → IsBackOf new chosen below word_bits count (get_or askers count d).host last
    → AreBacksSoFar old new chosen below word_bits askers (made ++ last ∷ []) (count + 1)
one_more_back old now new chosen below word_bits askers d made last count h adds lt p = record {
  made_are =
      (let f = h.count_is in
      backs_more new chosen below word_bits 0 count askers d made last
      (backs_last now new chosen below word_bits 0 askers made adds.grows.extends h.made_are) (omega (arith, f))
      (omega (arith, f, lt))
      (subst (λ n. IsBackOf new chosen below word_bits count (get_or askers n d).host last) (sym f) p));
  count_is = (let e = length-append made (last ∷ []) in let f = h.count_is in omega arith);
  adds = adds_fewer (6 * count + 6) _ old new (omega arith) (adds_twice (6 * count) 6 old now new h.adds adds);
}

pub backs_within : (old now new : Netlist) (chosen : NetValue) (below : BelowNets) (word_bits : ℕ) (askers : List Asker)
    (made : List BackNets) (k count : ℕ)
    → AreBacksSoFar old now chosen below word_bits askers made k → k < count → AddsNets 6 now new → AddsNets (6 * count) old new
backs_within old now new chosen below word_bits askers made k count h lt adds =
    adds_fewer (6 * k + 6) _ old new (omega arith) (adds_twice (6 * k) 6 old now new h.adds adds)

pub backs_full : (old now : Netlist) (chosen : NetValue) (below : BelowNets) (word_bits : ℕ) (askers : List Asker)
    (made : List BackNets) (k count : ℕ)
    → AreBacksSoFar old now chosen below word_bits askers made k → k < count → 2 ^ 20 < length now.lines + 6
    → 2 ^ 20 < length old.lines + 6 * count
backs_full old now chosen below word_bits askers made k count h lt full = let few = h.adds.most in omega (arith, few, full, lt)
