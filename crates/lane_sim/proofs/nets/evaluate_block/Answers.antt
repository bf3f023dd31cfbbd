use Rattle.std.proofs.Common.{ℕ, List, ◌+◌, ◌<◌, ◌∙◌, refl, sym, subst, ap, arith}
use Rattle.av_base.specs.Word.{Word, IsWord}
use Rattle.lane_sim.specs.LaneWords.{value_at}
use Rattle.lane_sim.specs.LaneSims.{cells_at, lane_words}
use Rattle.lane_sim.proofs.Values.{width_at-line}
use Rattle.lane_sim.proofs.LaneLists.{first, lane_count, lane_set}
use Rattle.lane_sim.proofs.Settling.{settled_block}
use Rattle.lane_sim.proofs.Steps.{IsEvaluatedIn, evaluated_more}
use Rattle.lane_sim.proofs.nets.evaluate_block.Goals as goal

pub loop-net-init : goal.loop-net-init
loop-net-init c j lt = record { are_nets = c.requires.nets j lt; settled = c.requires.settled j lt; state = λ n line at s. refl }

pub prove-unreachable-requires : goal.prove-unreachable-requires
prove-unreachable-requires c =
    let at = width_at-line c.args.module.now.lines c.loop-net.net c.width-in-loop-net.result c.width-in-loop-net.ensures in
    c.if-prove.true (c.width.ensures.value ∙ (c.value_in-value.ensures 0 first at.0 at.1).width ∙ at.2)

pub put-requires-clause-nets : goal.put-requires-clause-nets
put-requires-clause-nets c = sym (lane_count 0 c.loop-net.nets) ∙ (c.loop-net.invariant 0 first).are_nets.count

pub put-requires-clause-stale : goal.put-requires-clause-stale
put-requires-clause-stale c = (c.loop-net.invariant 0 first).settled.count

pub loop-net-preserved : goal.loop-net-preserved
loop-net-preserved c j lt =
    let e = ap (lane_words j) c.put.ensures.value ∙ lane_set j c.loop-net.nets c.loop-net.net c.value_in-value.result in
    let sound = c.width.ensures.word in
    subst (λ (ns : List Word). IsEvaluatedIn c.args.module.now (cells_at c.args.cells.now j).words (lane_words j c.args.nets.now) ns c.put.new.stale (c.loop-net.net + 1)) (sym e)
    (evaluated_more c.args.module.now c.requires.module c.args.readers.now.of_nets c.requires.readers.nets (cells_at c.args.cells.now j).words (lane_words j c.args.nets.now) (lane_words j c.loop-net.nets) c.loop-net.net (value_at c.value_in-value.result j)
    c.loop-net.stale c.put.new.stale (omega (arith, c.loop-net-test.true, c.min-net-end.ensures, c.net_count.ensures.count)) (c.loop-net.invariant j lt) (record { some_bit = sound.some_bit; small = sound.small; fits = sound.fits j lt })
    (c.value_in-value.ensures j lt) c.put.ensures.stay (c.put.ensures.stale j lt))

pub returns-clause-nets : goal.returns-clause-nets
returns-clause-nets c j lt = (c.loop-net.invariant j lt).are_nets

pub returns-clause-settled : goal.returns-clause-settled
returns-clause-settled c j lt =
    let h = c.loop-net.invariant j lt in
    settled_block c.args.module.now (lane_words j c.loop-net.nets) (cells_at c.args.cells.now j).words c.loop-net.stale c.args.block c.loop-net.net
    (omega (arith, c.requires.block_is, h.settled.count)) (λ n below within. omega (arith, c.loop-net-test.false, c.min-net-end.ensures, c.net_count.ensures.count)) h.settled

pub returns-clause-state : goal.returns-clause-state
returns-clause-state c j lt = (c.loop-net.invariant j lt).state

pub bounds-stale-block : goal.bounds-stale-block
bounds-stale-block c = omega (arith, c.requires.block_is, (c.loop-net.invariant 0 first).settled.count)
