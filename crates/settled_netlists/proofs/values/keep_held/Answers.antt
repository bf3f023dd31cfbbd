use Rattle.std.proofs.Common.{◌<◌, get_or, sym, subst, arith}
use Rattle.std.proofs.lemmas.Option.{slice_get-get_or}
use Rattle.settled_netlists.proofs.Rounds.{left_kept, left_dropped, left_valued, left_settled}
use Rattle.settled_netlists.proofs.values.keep_held.Goals as goal
use Rattle.settled_netlists.proofs.values.keep_held.Goals.{then-is_held+in_ok-push, else-is_held}

pub is_held-requires-clause-net_is : goal.is_held-requires-clause-net_is
is_held-requires-clause-net_is c =
    c.requires.valued.within c.loop-net.net-index (get_or c.args.nets.now c.loop-net.net-index 0) (slice_get-get_or c.args.nets.now c.loop-net.net-index 0 c.loop-net-test.true)

pub bounds-values-net : goal.bounds-values-net
bounds-values-net c =
    let lt = c.requires.valued.within c.loop-net.net-index (get_or c.args.nets.now c.loop-net.net-index 0) (slice_get-get_or c.args.nets.now c.loop-net.net-index 0 c.loop-net-test.true) in
    subst (λ n. get_or c.args.nets.now c.loop-net.net-index 0 < n) (sym c.loop-net.invariant.bounds.count) lt

pub loop-net-preserved : goal.loop-net-preserved
loop-net-preserved c =
    let b = c.args.module.now in
    let i = c.loop-net.net-index in
    let net = get_or c.args.nets.now c.loop-net.net-index 0 in
    let at = slice_get-get_or c.args.nets.now c.loop-net.net-index 0 c.loop-net-test.true in
    let lt = c.requires.valued.within c.loop-net.net-index net at in
    elim c.if-is_held.branch [
      | then-is_held+in_ok-push w ↦ rw (w.values-is, w.left-is, w.in_ok-push.ensures.items) (left_kept b c.loop-net.values c.args.nets.now i net c.loop-net.left.items c.loop-net.invariant at lt (c.is_held.ensures.held w.if-is_held.true))
      | else-is_held w ↦ rw (w.values-is, w.left-is) (left_dropped b c.loop-net.values c.args.nets.now i net c.loop-net.left.items c.well_made.ensures c.loop-net.invariant at lt (c.is_held.ensures.not_held w.if-is_held.false))
    ]

pub returns-clause-valued : goal.returns-clause-valued
returns-clause-valued c = left_valued c.args.module.now c.loop-net.values c.args.nets.now c.loop-net.net-index c.loop-net.left.items c.loop-net-test.false c.loop-net.invariant

pub returns-clause-settled : goal.returns-clause-settled
returns-clause-settled c same =
    left_settled c.args.module.now c.loop-net.values c.args.nets.now c.loop-net.net-index c.loop-net.left.items c.loop-net-test.false c.loop-net.invariant
    (omega (arith, same, c.loop-net-test.false, c.loop-net.auto.net-index-end, c.loop-net.invariant.fewer))
