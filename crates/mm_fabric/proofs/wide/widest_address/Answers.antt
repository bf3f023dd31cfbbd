use Rattle.std.proofs.Common.{List, subst, arith}
use Rattle.command_nets.specs.declared.nets.CommandNets.{CommandNets}
use Rattle.mm_fabric.specs.Wide.{ReachWithin}
use Rattle.mm_fabric.proofs.Widening.{command_at, taken_with, reach_more}
use Rattle.mm_fabric.proofs.wide.widest_address.Goals as goal

pub width-requires : goal.width-requires
width-requires c = (command_at c.args.builder.now c.args.commands.now c.loop-command.command-index _ c.requires c.loop-command-test.true c.command-item.is).address

pub loop-command-preserved : goal.loop-command-preserved
loop-command-preserved c =
    let before = c.loop-command.invariant in
    let address = c.max-bits.ensures in
    let wide = c.width.ensures.value in
    let few = c.width.ensures.bounds.1 in
    let low = before.1 in (
      subst (λ (cs : List CommandNets). ReachWithin c.max-bits.result cs) (taken_with c.args.commands.now c.loop-command.command-index c.command-item.result c.loop-command-test.true c.command-item.is)
          (reach_more _ _ _ _ before.0 (omega (arith, address)) (omega (arith, address, wide))),
      omega (arith, address, low, few),
    )
