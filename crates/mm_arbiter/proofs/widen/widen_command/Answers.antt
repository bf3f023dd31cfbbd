use Rattle.std.proofs.Common.{true, refl, arith}
use Rattle.command_nets.specs.declared.nets.CommandNets.{CommandNets}
use Rattle.command_nets.specs.Nets.{raw_in}
use Rattle.command_nets.specs.Groups.{raw_while}
use Rattle.net_parts.specs.Laws.{extends_twice, net_lasts, adds_fewer, adds_twice}
use Rattle.net_parts.specs.Refusing.{handed_on}
use Rattle.mm_arbiter.proofs.widen.widen_command.Goals as goal

pub returns-clause-value : goal.returns-clause-value
returns-clause-value c cycle v2 =
    let v1 = c.widen-2.ensures.adds.grows.extends.valuations cycle v2 in
    let command = c.args.command.now in
    let made : CommandNets = record { read = command.read; write = command.write; address = c.in_ok-address.address; word = command.word; enables = command.enables; count = c.in_ok-count.count; more = command.more; tag = command.tag } in
    raw_while true (raw_in cycle made) (raw_in cycle c.args.command.now) refl refl (c.in_ok-address.ensures.value cycle v1) refl refl (c.in_ok-count.ensures.value cycle v2) refl refl

pub returns-in_err-address-clause-adds : goal.returns-in_err-address-clause-adds
returns-in_err-address-clause-adds c = adds_fewer _ _ _ _ (omega arith) c.widen.ensures.adds

pub returns-in_err-address-clause-full : goal.returns-in_err-address-clause-full
returns-in_err-address-clause-full c e = let full = c.widen.ensures.full (handed_on _ _ _ _ c.in_err-address.was c.from_residual.ensures.1 e) in omega (arith, full)

pub returns-in_err-count-clause-adds : goal.returns-in_err-count-clause-adds
returns-in_err-count-clause-adds c = adds_fewer _ _ _ _ (omega arith) (adds_twice _ _ _ _ _ c.widen.ensures.adds c.widen-2.ensures.adds)

pub returns-in_err-count-clause-full : goal.returns-in_err-count-clause-full
returns-in_err-count-clause-full c e =
    let most0 = c.widen.ensures.adds.most in
    let full = c.widen-2.ensures.full (handed_on _ _ _ _ c.in_err-count.was c.from_residual-in_err-count.ensures.1 e) in
    omega (arith, most0, full)

pub returns-clause-adds : goal.returns-clause-adds
returns-clause-adds c = adds_fewer _ _ _ _ (omega arith) (adds_twice _ _ _ _ _ c.widen.ensures.adds c.widen-2.ensures.adds)

pub returns-clause-full : goal.returns-clause-full
returns-clause-full c e = cc

pub returns-clause-command : goal.returns-clause-command
returns-clause-command c =
    record {
      read = net_lasts _ _ _ _ (extends_twice _ _ _ c.widen.ensures.adds.grows.extends c.widen-2.ensures.adds.grows.extends) c.requires.command.read;
      write = net_lasts _ _ _ _ (extends_twice _ _ _ c.widen.ensures.adds.grows.extends c.widen-2.ensures.adds.grows.extends) c.requires.command.write;
      address = c.widen-2.ensures.adds.grows.extends.nets _ _ c.in_ok-address.ensures.net.is_net;
      word = (extends_twice _ _ _ c.widen.ensures.adds.grows.extends c.widen-2.ensures.adds.grows.extends).nets _ _ c.requires.command.word;
      enables = (extends_twice _ _ _ c.widen.ensures.adds.grows.extends c.widen-2.ensures.adds.grows.extends).nets _ _ c.requires.command.enables;
      count = c.in_ok-count.ensures.net.is_net;
      more = net_lasts _ _ _ _ (extends_twice _ _ _ c.widen.ensures.adds.grows.extends c.widen-2.ensures.adds.grows.extends) c.requires.command.more;
      tag = (extends_twice _ _ _ c.widen.ensures.adds.grows.extends c.widen-2.ensures.adds.grows.extends).nets _ _ c.requires.command.tag;
    }

pub widen-requires-clause-net : goal.widen-requires-clause-net
widen-requires-clause-net c = c.requires.command.address

pub widen-requires-clause-few : goal.widen-requires-clause-few
widen-requires-clause-few c = c.requires.few_address

pub widen-requires-2-clause-net : goal.widen-requires-2-clause-net
widen-requires-2-clause-net c = c.widen.ensures.adds.grows.extends.nets _ _ c.requires.command.count

pub widen-requires-2-clause-few : goal.widen-requires-2-clause-few
widen-requires-2-clause-few c = c.requires.few_count
