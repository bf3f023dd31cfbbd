use Rattle.std.proofs.Common.{List, [], ◌∷◌, ◌++◌, ◌+◌, ◌*◌, take, subst, sym, arith}
use Rattle.std.specs.List.{AllZip}
use Rattle.net_parts.specs.Laws.{adds_twice, adds_fewer}
use Rattle.command_nets.specs.declared.nets.CommandNets.{CommandNets}
use Rattle.command_nets.specs.Groups.{command_lasts}
use Rattle.mm_fabric.specs.Wide.{IsWidened}
use Rattle.mm_fabric.proofs.Widening.{command_at, within_at, taken_with, widened_more}
use Rattle.mm_fabric.proofs.wide.widen_all.Goals as goal

pub widen_command-requires-clause-command : goal.widen_command-requires-clause-command
widen_command-requires-clause-command c =
    command_lasts _ _ _ c.loop-command.invariant.1.grows.extends (command_at c.args.builder.now c.args.commands.now c.loop-command.command-index _ c.requires.commands c.loop-command-test.true c.command-item.is)

pub widen_command-requires-clause-address : goal.widen_command-requires-clause-address
widen_command-requires-clause-address c = (within_at _ _ c.args.commands.now c.loop-command.command-index _ c.requires.within c.loop-command-test.true c.command-item.is).0

pub widen_command-requires-clause-count : goal.widen_command-requires-clause-count
widen_command-requires-clause-count c = (within_at _ _ c.args.commands.now c.loop-command.command-index _ c.requires.within c.loop-command-test.true c.command-item.is).1

pub loop-command-preserved : goal.loop-command-preserved
loop-command-preserved c =
    let made = c.in_ok-widen_command.ensures in
    let adds = c.widen_command.ensures.adds in
    let index = c.loop-command.command-index in
    let now = c.widen_command.new.builder in
    let bits = c.args.bits in
    let before = take index c.args.commands.now ++ c.command-item.result ∷ [] in (
      subst (λ (cs : List CommandNets). AllZip (IsWidened now bits.address bits.count) cs c.push.new.self.items) (taken_with c.args.commands.now index c.command-item.result c.loop-command-test.true c.command-item.is)
          (subst (λ (ws : List CommandNets). AllZip (IsWidened now bits.address bits.count) before ws) (sym c.in_ok-push.ensures.items)
          (widened_more c.loop-command.builder now bits.address bits.count (take index c.args.commands.now) c.loop-command.wide.items c.command-item.result c.in_ok-widen_command.field-0 c.loop-command.invariant.0 adds.grows.extends
          (record { nets = made.command; widths = made.widths; beat = made.value }))),
      adds_fewer (4 * index + 4) _ _ _ (omega arith) (adds_twice _ _ _ _ _ c.loop-command.invariant.1 adds),
    )
