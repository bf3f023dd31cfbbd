use Rattle.std.proofs.Common.{◌≡◌, ◌<◌, ◌++◌, ◌∷◌, [], ℕ, true, false, List, length, set, replicate, slice_get, Some, refl, ap, sym, subst, ◌∙◌, arith}
use Rattle.std.proofs.lemmas.Option.{slice_get_read}
use Rattle.pruned_netlists.proofs.Lines.{slice_get-some}
use Rattle.pruned_netlists.proofs.Needs.{IsMarking, begun, next_within, skipped, taken, marks_are, less_to_do, no_items}
use Rattle.pruned_netlists.proofs.marking.needed_nets.Goals as goal

pub loop-net-init : goal.loop-net-init
loop-net-init c =
    begun c.args.module.now _ c.push_drivers.new.pending.items c.well_made.ensures.well_made (c.in_ok-marks.ensures ∙ ap (λ n. replicate n false) c.net_count.ensures.count) c.in_ok-push_drivers.ensures

pub index-requires : goal.index-requires
index-requires c =
    let lt = next_within c.args.module.now c.loop-net.marks.items c.loop-net.pending.items c.pop.new.self.items c.in-Some.net c.well_made.ensures c.loop-net.invariant c.in-Some.ensures.items in
    omega (arith, lt, c.loop-net.invariant.count)

pub index_mut-requires : goal.index_mut-requires
index_mut-requires c =
    let lt = next_within c.args.module.now c.loop-net.marks.items c.loop-net.pending.items c.pop.new.self.items c.in-Some.net c.well_made.ensures c.loop-net.invariant c.in-Some.ensures.items in
    omega (arith, lt, c.loop-net.invariant.count)

pub push_sources-requires : goal.push_sources-requires
push_sources-requires c = next_within c.args.module.now c.loop-net.marks.items c.loop-net.pending.items c.pop.new.self.items c.in-Some.net c.well_made.ensures c.loop-net.invariant c.in-Some.ensures.items

pub loop-net-smaller : goal.loop-net-smaller
loop-net-smaller c =
    let b = c.args.module.now in
    let marks = c.loop-net.marks.items in
    let rest = c.pop.new.self.items in
    let net = c.in-Some.net in
    let lt = next_within b marks c.loop-net.pending.items rest net c.well_made.ensures c.loop-net.invariant c.in-Some.ensures.items in
    let inside : net < length marks = omega (arith, lt, c.loop-net.invariant.count) in
    let mark : slice_get marks net ≡ Some false = slice_get_read marks (length marks) net c.index.result.now refl inside c.index.ensures ∙ ap Some c.if-index.false in
    let some = slice_get-some b.lines net lt in
    let less = less_to_do b.memories marks rest net some.0.equation mark in
    let one = ap (λ (ps : List ℕ). length ps) (c.in_ok-push_sources.ensures some.0 some.1) in
    let other = ap (λ (ps : List ℕ). length ps) c.in-Some.ensures.items in
    omega (arith, less, one, other)

pub loop-net-preserved : goal.loop-net-preserved
loop-net-preserved c =
    let b = c.args.module.now in
    let lt = next_within b c.loop-net.marks.items c.loop-net.pending.items c.pop.new.self.items c.in-Some.net c.well_made.ensures c.loop-net.invariant c.in-Some.ensures.items in
    let some = slice_get-some b.lines c.in-Some.net lt in
    let before : IsMarking b c.loop-net.marks.items (c.pop.new.self.items ++ c.in-Some.net ∷ []) = subst (IsMarking b c.loop-net.marks.items) c.in-Some.ensures.items c.loop-net.invariant in
    subst (IsMarking b (set c.loop-net.marks.items c.in-Some.net true)) (sym (c.in_ok-push_sources.ensures some.0 some.1)) (taken b c.loop-net.marks.items c.pop.new.self.items c.in-Some.net some.0 before some.1)

pub loop-net-preserved-then-index : goal.loop-net-preserved-then-index
loop-net-preserved-then-index c =
    let b = c.args.module.now in
    let marks = c.loop-net.marks.items in
    let lt = next_within b c.loop-net.marks.items c.loop-net.pending.items c.pop.new.self.items c.in-Some.net c.well_made.ensures c.loop-net.invariant c.in-Some.ensures.items in
    let inside : c.in-Some.net < length c.loop-net.marks.items = omega (arith, lt, c.loop-net.invariant.count) in
    let mark : slice_get c.loop-net.marks.items c.in-Some.net ≡ Some true = slice_get_read c.loop-net.marks.items (length c.loop-net.marks.items) c.in-Some.net c.index.result.now refl inside c.index.ensures ∙ ap Some c.if-index.true in
    skipped b c.loop-net.marks.items c.pop.new.self.items c.in-Some.net (subst (IsMarking b c.loop-net.marks.items) c.in-Some.ensures.items c.loop-net.invariant) mark

pub returns : goal.returns
returns c =
    let none : length c.loop-net.pending.items ≡ 0 = omega (arith, c.in_default.ensures.cases) in
    marks_are c.args.module.now c.loop-net.marks.items (subst (IsMarking c.args.module.now c.loop-net.marks.items) (no_items c.loop-net.pending.items none) c.loop-net.invariant)
