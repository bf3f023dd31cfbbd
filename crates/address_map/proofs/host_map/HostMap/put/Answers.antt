use Rattle.std.proofs.Common.{◌≡◌, List, ◌∷◌, subst, sym, IsPermutation}
use Rattle.std.proofs.lemmas.List.Sorted.{IsPermutation-insert}
use Rattle.std.specs.Prelude.{insert}
use Rattle.address_map.specs.Maps.{MapEntry, IsRising}
use Rattle.address_map.proofs.EntryLemmas.{IsRising-put}
use Rattle.address_map.proofs.host_map.HostMap.put.Goals as goal

pub invariant_of-self-2 : goal.invariant_of-self-2
invariant_of-self-2 c =
    let entries = c.args.self.now in
    let same : c.self.inside.entries.items ≡ entries = c.self.view_is in
    let rising : IsRising entries = subst IsRising same c.self.invariant in
    let put : IsRising (insert entries c.begun-place.result c.args.entry) =
    IsRising-put entries c.begun-place.result c.args.entry rising c.requires.filled c.begun-place.ensures.few
    (λ k d low below. rw (← c.from.ensures) (c.begun-place.ensures.begun k d low below))
    (λ k d low within. rw (← c.from.ensures) (c.begun-place.ensures.others k d low within)) c.requires.apart in
    subst IsRising (sym c.in_ok-insert.ensures.items) (subst (λ (xs : List MapEntry). IsRising (insert xs c.begun-place.result c.args.entry)) (sym same) put)

pub returns-clause-rising : goal.returns-clause-rising
returns-clause-rising c = invariant_of-self-2 c

pub returns-clause-ok : goal.returns-clause-ok
returns-clause-ok c =
    let same : c.self.inside.entries.items ≡ c.args.self.now = c.self.view_is in
    let moved = IsPermutation-insert c.args.self.now c.begun-place.result c.args.entry in
    subst (λ (xs : List MapEntry). IsPermutation (c.args.entry ∷ c.args.self.now) xs) (sym c.in_ok-insert.ensures.items)
    (subst (λ (xs : List MapEntry). IsPermutation (c.args.entry ∷ c.args.self.now) (insert xs c.begun-place.result c.args.entry)) (sym same) moved)
