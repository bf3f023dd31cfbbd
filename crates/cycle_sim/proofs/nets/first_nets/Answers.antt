use Rattle.std.proofs.Common.{arith}
use Rattle.std.proofs.lemmas.Option.{slice_get_within}
use Rattle.cycle_sim.proofs.Next.{first_more}
use Rattle.cycle_sim.proofs.nets.first_nets.Goals as goal

pub loop-net-preserved : goal.loop-net-preserved
loop-net-preserved c =
    rw c.in_ok-push.ensures.items
    (first_more c.args.module.now.lines c.loop-net.nets.items c.loop-net.net c.first_value-value.result c.loop-net.invariant
    (λ line at. record { word = c.width.ensures.word; width = c.first_value-value.ensures.width line at }) c.first_value-value.ensures.reset)

pub returns-clause-starts : goal.returns-clause-starts
returns-clause-starts c n line at =
    let lt = slice_get_within c.args.module.now.lines n line at in
    c.loop-net.invariant.starts n line (omega arith) at
