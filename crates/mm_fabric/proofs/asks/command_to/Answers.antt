use Rattle.std.proofs.Common.{◌≡◌, suc, ◌+◌, drop, subst, ◌∙◌, arith}
use Rattle.mm_fabric.specs.Asks.{command_to}
use Rattle.mm_fabric.proofs.Leading.{past_route}
use Rattle.mm_fabric.proofs.asks.command_to.Goals as goal

pub loop-k-preserved : goal.loop-k-preserved
loop-k-preserved c =
    let k = c.loop-k.k in
    let agent = c.args.agent in
    let next : suc k ≡ k + 1 = omega arith in
    subst (λ n. command_to agent c.args.routes.now c.args.commands.now ≡ command_to agent (drop n c.args.routes.now) (drop n c.args.commands.now)) next
    (c.loop-k.invariant ∙ past_route agent c.args.routes.now c.args.commands.now k _ c.loop-k-test.true c.requires c.if-routes-k.false)
