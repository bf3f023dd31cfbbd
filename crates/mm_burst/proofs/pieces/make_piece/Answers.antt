use Rattle.std.proofs.Common.{refl, ◌∙◌, sym, arith}
use Rattle.net_parts.specs.Laws.{net_lasts, extends_twice, adds_fewer, adds_twice}
use Rattle.command_nets.specs.Groups.{command_lasts}
use Rattle.mm_burst.specs.Pieces.{registers_last}
use Rattle.net_parts.specs.Refusing.{handed_on}
use Rattle.mm_burst.proofs.pieces.make_piece.Goals as goal

pub step_of-requires-clause-most : goal.step_of-requires-clause-most
step_of-requires-clause-most c cycle v =
    let v1 = c.pick-2.ensures.adds.grows.extends.valuations cycle v in
    let v0 = c.pick.ensures.adds.grows.extends.valuations cycle v1 in
    c.requires.most cycle (c.kind_of.ensures.adds.grows.extends.valuations cycle v0)

pub shown-requires : goal.shown-requires
shown-requires c = command_lasts _ _ _ (extends_twice _ _ _ c.kind_of.ensures.adds.grows.extends (extends_twice _ _ _ c.pick.ensures.adds.grows.extends (extends_twice _ _ _ c.pick-2.ensures.adds.grows.extends (extends_twice _ _ _ c.step_of.ensures.adds.grows.extends c.is_less.ensures.adds.grows.extends)))) c.requires.from

pub either-requires-clause-a : goal.either-requires-clause-a
either-requires-clause-a c = net_lasts _ _ _ _ (extends_twice _ _ _ c.pick.ensures.adds.grows.extends (extends_twice _ _ _ c.pick-2.ensures.adds.grows.extends (extends_twice _ _ _ c.step_of.ensures.adds.grows.extends (extends_twice _ _ _ c.is_less.ensures.adds.grows.extends c.shown.ensures.adds.grows.extends)))) c.in_ok-kind.ensures.sends_net

pub is_less-requires-clause-widths : goal.is_less-requires-clause-widths
is_less-requires-clause-widths c = c.in_ok-step.ensures.net.has_width ∙ c.requires.longest.has_width ∙ sym c.in_ok-left.ensures.net.has_width

pub share-requires-clause-from : goal.share-requires-clause-from
share-requires-clause-from c = command_lasts _ _ _ (extends_twice _ _ _ c.kind_of.ensures.adds.grows.extends (extends_twice _ _ _ c.pick.ensures.adds.grows.extends (extends_twice _ _ _ c.pick-2.ensures.adds.grows.extends (extends_twice _ _ _ c.step_of.ensures.adds.grows.extends (extends_twice _ _ _ c.is_less.ensures.adds.grows.extends (extends_twice _ _ _ c.shown.ensures.adds.grows.extends c.either.ensures.adds.grows.extends)))))) c.requires.from

pub share-requires-clause-registers : goal.share-requires-clause-registers
share-requires-clause-registers c = registers_last _ _ _ (extends_twice _ _ _ c.kind_of.ensures.adds.grows.extends (extends_twice _ _ _ c.pick.ensures.adds.grows.extends (extends_twice _ _ _ c.pick-2.ensures.adds.grows.extends (extends_twice _ _ _ c.step_of.ensures.adds.grows.extends (extends_twice _ _ _ c.is_less.ensures.adds.grows.extends (extends_twice _ _ _ c.shown.ensures.adds.grows.extends c.either.ensures.adds.grows.extends)))))) c.requires.registers

pub share-requires-clause-sends : goal.share-requires-clause-sends
share-requires-clause-sends c = net_lasts _ _ _ _ (extends_twice _ _ _ c.pick.ensures.adds.grows.extends (extends_twice _ _ _ c.pick-2.ensures.adds.grows.extends (extends_twice _ _ _ c.step_of.ensures.adds.grows.extends (extends_twice _ _ _ c.is_less.ensures.adds.grows.extends (extends_twice _ _ _ c.shown.ensures.adds.grows.extends c.either.ensures.adds.grows.extends))))) c.in_ok-kind.ensures.sends_net

pub returns-clause-nets : goal.returns-clause-nets
returns-clause-nets c =
    record {
      sends = net_lasts _ _ _ _ (extends_twice _ _ _ c.pick.ensures.adds.grows.extends (extends_twice _ _ _ c.pick-2.ensures.adds.grows.extends (extends_twice _ _ _ c.step_of.ensures.adds.grows.extends (extends_twice _ _ _ c.is_less.ensures.adds.grows.extends (extends_twice _ _ _ c.shown.ensures.adds.grows.extends (extends_twice _ _ _ c.either.ensures.adds.grows.extends c.share.ensures.adds.grows.extends)))))) c.in_ok-kind.ensures.sends_net;
      shows = net_lasts _ _ _ _ c.share.ensures.adds.grows.extends c.in_ok-shows.ensures.net;
      writes = net_lasts _ _ _ _ (extends_twice _ _ _ c.pick.ensures.adds.grows.extends (extends_twice _ _ _ c.pick-2.ensures.adds.grows.extends (extends_twice _ _ _ c.step_of.ensures.adds.grows.extends (extends_twice _ _ _ c.is_less.ensures.adds.grows.extends (extends_twice _ _ _ c.shown.ensures.adds.grows.extends (extends_twice _ _ _ c.either.ensures.adds.grows.extends c.share.ensures.adds.grows.extends)))))) c.in_ok-kind.ensures.writes_net;
      left = (extends_twice _ _ _ c.pick-2.ensures.adds.grows.extends (extends_twice _ _ _ c.step_of.ensures.adds.grows.extends (extends_twice _ _ _ c.is_less.ensures.adds.grows.extends (extends_twice _ _ _ c.shown.ensures.adds.grows.extends (extends_twice _ _ _ c.either.ensures.adds.grows.extends c.share.ensures.adds.grows.extends))))).nets _ _ c.in_ok-left.ensures.net.is_net;
      address = (extends_twice _ _ _ c.step_of.ensures.adds.grows.extends (extends_twice _ _ _ c.is_less.ensures.adds.grows.extends (extends_twice _ _ _ c.shown.ensures.adds.grows.extends (extends_twice _ _ _ c.either.ensures.adds.grows.extends c.share.ensures.adds.grows.extends)))).nets _ _ c.in_ok-address.ensures.net.is_net;
      step = record { is_net = (extends_twice _ _ _ c.is_less.ensures.adds.grows.extends (extends_twice _ _ _ c.shown.ensures.adds.grows.extends (extends_twice _ _ _ c.either.ensures.adds.grows.extends c.share.ensures.adds.grows.extends))).nets _ _ c.in_ok-step.ensures.net.is_net; has_width = c.in_ok-step.ensures.net.has_width ∙ c.requires.longest.has_width ∙ sym c.in_ok-left.ensures.net.has_width };
      follows = net_lasts _ _ _ _ (extends_twice _ _ _ c.shown.ensures.adds.grows.extends (extends_twice _ _ _ c.either.ensures.adds.grows.extends c.share.ensures.adds.grows.extends)) c.in_ok-follows.ensures.net;
      enables = c.in_ok-shared.ensures.enables_net.is_net;
      more = c.in_ok-shared.ensures.more_net;
      tag = c.in_ok-shared.ensures.tag_net.is_net;
    }

pub returns-clause-fits : goal.returns-clause-fits
returns-clause-fits c = record { left = c.in_ok-left.ensures.net.has_width; address = c.in_ok-address.ensures.net.has_width; enables = c.in_ok-shared.ensures.enables_net.has_width; tag = c.in_ok-shared.ensures.tag_net.has_width }

pub returns-clause-value : goal.returns-clause-value
returns-clause-value c cycle v =
    let v6 = c.share.ensures.adds.grows.extends.valuations cycle v in
    let v5 = c.either.ensures.adds.grows.extends.valuations cycle v6 in
    let v4 = c.shown.ensures.adds.grows.extends.valuations cycle v5 in
    let v3 = c.is_less.ensures.adds.grows.extends.valuations cycle v4 in
    let v2 = c.step_of.ensures.adds.grows.extends.valuations cycle v3 in
    let v1 = c.pick-2.ensures.adds.grows.extends.valuations cycle v2 in
    let v0 = c.pick.ensures.adds.grows.extends.valuations cycle v1 in
    let sends = c.in_ok-kind.ensures.sends cycle v0 in
    let writes = c.in_ok-kind.ensures.writes cycle v0 in
    let old = c.in_ok-kind.ensures.old cycle v0 in
    let left = c.in_ok-left.ensures.value cycle v1 in
    let address = c.in_ok-address.ensures.value cycle v2 in
    let step = c.in_ok-step.ensures.value cycle v3 in
    let follows = c.in_ok-follows.ensures.value cycle v4 in
    let above = c.in_ok-above.ensures.value cycle v5 in
    let shows = c.in_ok-shows.ensures.value cycle v6 in
    let enables = c.in_ok-shared.ensures.enables cycle v in
    let more = c.in_ok-shared.ensures.more cycle v in
    let tag = c.in_ok-shared.ensures.tag cycle v in
    rw (shows, above, follows, step, left, address, enables, more, tag, old, writes, sends) refl

pub returns-in_err-kind-clause-adds : goal.returns-in_err-kind-clause-adds
returns-in_err-kind-clause-adds c = adds_fewer _ _ _ _ (omega arith) c.kind_of.ensures.adds

pub returns-in_err-kind-clause-full : goal.returns-in_err-kind-clause-full
returns-in_err-kind-clause-full c e =
    let full = c.kind_of.ensures.full (handed_on _ _ _ _ c.in_err-kind.was c.from_residual.ensures.1 e) in
    omega (arith, full)

pub returns-in_err-left-clause-adds : goal.returns-in_err-left-clause-adds
returns-in_err-left-clause-adds c = adds_fewer _ _ _ _ (omega arith) (adds_twice _ _ _ _ _ c.kind_of.ensures.adds c.pick.ensures.adds)

pub returns-in_err-left-clause-full : goal.returns-in_err-left-clause-full
returns-in_err-left-clause-full c e =
    let most0 = c.kind_of.ensures.adds.most in
    let full = c.pick.ensures.full (handed_on _ _ _ _ c.in_err-left.was c.from_residual-in_err-left.ensures.1 e) in
    omega (arith, most0, full)

pub returns-in_err-address-clause-adds : goal.returns-in_err-address-clause-adds
returns-in_err-address-clause-adds c = adds_fewer _ _ _ _ (omega arith) (adds_twice _ _ _ _ _ (adds_twice _ _ _ _ _ c.kind_of.ensures.adds c.pick.ensures.adds) c.pick-2.ensures.adds)

pub returns-in_err-address-clause-full : goal.returns-in_err-address-clause-full
returns-in_err-address-clause-full c e =
    let most0 = c.kind_of.ensures.adds.most in
    let most1 = c.pick.ensures.adds.most in
    let full = c.pick-2.ensures.full (handed_on _ _ _ _ c.in_err-address.was c.from_residual-in_err-address.ensures.1 e) in
    omega (arith, most0, most1, full)

pub returns-in_err-step-clause-adds : goal.returns-in_err-step-clause-adds
returns-in_err-step-clause-adds c = adds_fewer _ _ _ _ (omega arith) (adds_twice _ _ _ _ _ (adds_twice _ _ _ _ _ (adds_twice _ _ _ _ _ c.kind_of.ensures.adds c.pick.ensures.adds) c.pick-2.ensures.adds) c.step_of.ensures.adds)

pub returns-in_err-step-clause-full : goal.returns-in_err-step-clause-full
returns-in_err-step-clause-full c e =
    let most0 = c.kind_of.ensures.adds.most in
    let most1 = c.pick.ensures.adds.most in
    let most2 = c.pick-2.ensures.adds.most in
    let full = c.step_of.ensures.full (handed_on _ _ _ _ c.in_err-step.was c.from_residual-in_err-step.ensures.1 e) in
    omega (arith, most0, most1, most2, full)

pub returns-in_err-follows-clause-adds : goal.returns-in_err-follows-clause-adds
returns-in_err-follows-clause-adds c = adds_fewer _ _ _ _ (omega arith) (adds_twice _ _ _ _ _ (adds_twice _ _ _ _ _ (adds_twice _ _ _ _ _ (adds_twice _ _ _ _ _ c.kind_of.ensures.adds c.pick.ensures.adds) c.pick-2.ensures.adds) c.step_of.ensures.adds) c.is_less.ensures.adds)

pub returns-in_err-follows-clause-full : goal.returns-in_err-follows-clause-full
returns-in_err-follows-clause-full c e =
    let most0 = c.kind_of.ensures.adds.most in
    let most1 = c.pick.ensures.adds.most in
    let most2 = c.pick-2.ensures.adds.most in
    let most3 = c.step_of.ensures.adds.most in
    let full = c.is_less.ensures.full (handed_on _ _ _ _ c.in_err-follows.was c.from_residual-in_err-follows.ensures.1 e) in
    omega (arith, most0, most1, most2, most3, full)

pub returns-in_err-above-clause-adds : goal.returns-in_err-above-clause-adds
returns-in_err-above-clause-adds c = adds_fewer _ _ _ _ (omega arith) (adds_twice _ _ _ _ _ (adds_twice _ _ _ _ _ (adds_twice _ _ _ _ _ (adds_twice _ _ _ _ _ (adds_twice _ _ _ _ _ c.kind_of.ensures.adds c.pick.ensures.adds) c.pick-2.ensures.adds) c.step_of.ensures.adds) c.is_less.ensures.adds) c.shown.ensures.adds)

pub returns-in_err-above-clause-full : goal.returns-in_err-above-clause-full
returns-in_err-above-clause-full c e =
    let most0 = c.kind_of.ensures.adds.most in
    let most1 = c.pick.ensures.adds.most in
    let most2 = c.pick-2.ensures.adds.most in
    let most3 = c.step_of.ensures.adds.most in
    let most4 = c.is_less.ensures.adds.most in
    let full = c.shown.ensures.full (handed_on _ _ _ _ c.in_err-above.was c.from_residual-in_err-above.ensures.1 e) in
    omega (arith, most0, most1, most2, most3, most4, full)

pub returns-in_err-shows-clause-adds : goal.returns-in_err-shows-clause-adds
returns-in_err-shows-clause-adds c = adds_fewer _ _ _ _ (omega arith) (adds_twice _ _ _ _ _ (adds_twice _ _ _ _ _ (adds_twice _ _ _ _ _ (adds_twice _ _ _ _ _ (adds_twice _ _ _ _ _ (adds_twice _ _ _ _ _ c.kind_of.ensures.adds c.pick.ensures.adds) c.pick-2.ensures.adds) c.step_of.ensures.adds) c.is_less.ensures.adds) c.shown.ensures.adds) c.either.ensures.adds)

pub returns-in_err-shows-clause-full : goal.returns-in_err-shows-clause-full
returns-in_err-shows-clause-full c e =
    let most0 = c.kind_of.ensures.adds.most in
    let most1 = c.pick.ensures.adds.most in
    let most2 = c.pick-2.ensures.adds.most in
    let most3 = c.step_of.ensures.adds.most in
    let most4 = c.is_less.ensures.adds.most in
    let most5 = c.shown.ensures.adds.most in
    let full = c.either.ensures.full (handed_on _ _ _ _ c.in_err-shows.was c.from_residual-in_err-shows.ensures.1 e) in
    omega (arith, most0, most1, most2, most3, most4, most5, full)

pub returns-in_err-shared-clause-adds : goal.returns-in_err-shared-clause-adds
returns-in_err-shared-clause-adds c = adds_fewer _ _ _ _ (omega arith) (adds_twice _ _ _ _ _ (adds_twice _ _ _ _ _ (adds_twice _ _ _ _ _ (adds_twice _ _ _ _ _ (adds_twice _ _ _ _ _ (adds_twice _ _ _ _ _ (adds_twice _ _ _ _ _ c.kind_of.ensures.adds c.pick.ensures.adds) c.pick-2.ensures.adds) c.step_of.ensures.adds) c.is_less.ensures.adds) c.shown.ensures.adds) c.either.ensures.adds) c.share.ensures.adds)

pub returns-in_err-shared-clause-full : goal.returns-in_err-shared-clause-full
returns-in_err-shared-clause-full c e =
    let most0 = c.kind_of.ensures.adds.most in
    let most1 = c.pick.ensures.adds.most in
    let most2 = c.pick-2.ensures.adds.most in
    let most3 = c.step_of.ensures.adds.most in
    let most4 = c.is_less.ensures.adds.most in
    let most5 = c.shown.ensures.adds.most in
    let most6 = c.either.ensures.adds.most in
    let full = c.share.ensures.full (handed_on _ _ _ _ c.in_err-shared.was c.from_residual-in_err-shared.ensures.1 e) in
    omega (arith, most0, most1, most2, most3, most4, most5, most6, full)

pub returns-clause-adds : goal.returns-clause-adds
returns-clause-adds c = adds_fewer _ _ _ _ (omega arith) (adds_twice _ _ _ _ _ (adds_twice _ _ _ _ _ (adds_twice _ _ _ _ _ (adds_twice _ _ _ _ _ (adds_twice _ _ _ _ _ (adds_twice _ _ _ _ _ (adds_twice _ _ _ _ _ c.kind_of.ensures.adds c.pick.ensures.adds) c.pick-2.ensures.adds) c.step_of.ensures.adds) c.is_less.ensures.adds) c.shown.ensures.adds) c.either.ensures.adds) c.share.ensures.adds)

pub returns-clause-full : goal.returns-clause-full
returns-clause-full c e = cc
