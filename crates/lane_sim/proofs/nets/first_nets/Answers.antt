use Rattle.std.proofs.Common.{◌≡◌, List, [], ◌∷◌, ◌++◌, ◌+◌, ◌∙◌, length, sym, subst, ap, arith}
use Rattle.std.proofs.lemmas.Option.{slice_get_within}
use Rattle.av_base.specs.Word.{Word}
use Rattle.lane_sim.specs.LaneWords.{LaneWord, value_at}
use Rattle.lane_sim.specs.LaneSims.{lane_words}
use Rattle.lane_sim.proofs.LaneLists.{lane_push}
use Rattle.lane_sim.proofs.Next.{AreFirst, first_more, first_none, first_nets}
use Rattle.lane_sim.proofs.nets.first_nets.Goals as goal

pub loop-net-init : goal.loop-net-init
loop-net-init c j lt = subst (λ (xs : List LaneWord). AreFirst c.args.module.now.lines (lane_words j xs) 0) (sym c.new-nets.ensures.items) (first_none c.args.module.now.lines)

pub loop-net-preserved : goal.loop-net-preserved
loop-net-preserved c j lt =
    let pushed = ap (lane_words j) c.in_ok-push.ensures.items ∙ lane_push j c.loop-net.nets.items c.splat.result ∙ ap (λ (x : Word). lane_words j c.loop-net.nets.items ++ x ∷ []) (c.splat.ensures j lt) in
    subst (λ (ns : List Word). AreFirst c.args.module.now.lines ns (c.loop-net.net + 1)) (sym pushed)
    (first_more c.args.module.now.lines (lane_words j c.loop-net.nets.items) c.loop-net.net c.first_value-value.result (c.loop-net.invariant j lt)
    (λ line at. record { word = c.width.ensures.word; width = c.first_value-value.ensures.width line at }) c.first_value-value.ensures.reset)

pub returns-clause-nets : goal.returns-clause-nets
returns-clause-nets c j lt =
    let all : c.loop-net.net ≡ length c.args.module.now.lines = omega (arith, c.loop-net-test.false, c.net_count-net-end.ensures.count, c.loop-net.auto.net-end) in
    first_nets c.args.module.now.lines (lane_words j c.loop-net.nets.items) (subst (AreFirst c.args.module.now.lines (lane_words j c.loop-net.nets.items)) all (c.loop-net.invariant j lt))

pub returns-clause-starts : goal.returns-clause-starts
returns-clause-starts c j below n line at =
    let lt = slice_get_within c.args.module.now.lines n line at in
    (c.loop-net.invariant j below).starts n line (omega arith) at
