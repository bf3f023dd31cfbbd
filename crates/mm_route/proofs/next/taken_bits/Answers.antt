use Rattle.std.proofs.Common.{◌&&◌, ap, ◌∙◌, arith, sym}
use Rattle.histories.specs.History.{is_raised}
use Rattle.net_parts.specs.Nets.{IsBit}
use Rattle.net_parts.specs.Laws.{bit_fits, adds_twice, grows_once, adds_fewer, extends_twice, net_lasts}
use Rattle.command_nets.specs.Levels.{raised_and}
use Rattle.net_parts.specs.Refusing.{handed_on}
use Rattle.mm_route.proofs.Levels.{taken_level}
use Rattle.mm_route.proofs.next.taken_bits.Goals as goal

pub returns-clause-beat_is : goal.returns-clause-beat_is
returns-clause-beat_is c cycle v4 =
    let v3 = c.in_ok-read.ensures.extends.valuations cycle v4 in
    let v2 = c.in_ok-beat.ensures.extends.valuations cycle v3 in
    let v1 = c.in_ok-ready.ensures.extends.valuations cycle v2 in
    let v0 = c.in_ok-asks.ensures.extends.valuations cycle v1 in
    taken_level c.args.wait.width _ _ _ _ _ _ c.requires.wait.has_width (bit_fits _ _ c.requires.command.read cycle v0) (bit_fits _ _ c.requires.command.write cycle v0) (bit_fits _ _ c.requires.wait cycle v0)
    (c.in_ok-asks.ensures.value cycle v1).1 (c.in_ok-ready.ensures.value cycle v2).1 (c.in_ok-beat.ensures.value cycle v3).1

pub returns-clause-read_is : goal.returns-clause-read_is
returns-clause-read_is c cycle v4 =
    let v3 = c.in_ok-read.ensures.extends.valuations cycle v4 in
    let v2 = c.in_ok-beat.ensures.extends.valuations cycle v3 in
    let v1 = c.in_ok-ready.ensures.extends.valuations cycle v2 in
    let v0 = c.in_ok-asks.ensures.extends.valuations cycle v1 in
    let beat : IsBit c.and.new.self c.in_ok-beat.beat = record { is_net = c.in_ok-beat.ensures.net.0; has_width = c.in_ok-beat.ensures.net.1 ∙ (c.in_ok-asks.ensures.net.1 ∙ c.requires.command.read.has_width) } in
    raised_and _ _ _ (bit_fits _ _ beat cycle v3) (bit_fits _ _ c.requires.command.read cycle v0) (c.in_ok-read.ensures.value cycle v4).1
    ∙ ap (λ t. t && is_raised (cycle.net c.args.command.now.read.number)) (returns-clause-beat_is c cycle v4)

pub returns-clause-adds : goal.returns-clause-adds
returns-clause-adds c =
    adds_twice 1 3 _ _ _ (grows_once _ _ c.or.ensures.extends c.or.ensures.grows) (adds_twice 1 2 _ _ _ (grows_once _ _ c.not.ensures.extends c.not.ensures.grows)
    (adds_twice 1 1 _ _ _ (grows_once _ _ c.and.ensures.extends c.and.ensures.grows) (grows_once _ _ c.and-2.ensures.extends c.and-2.ensures.grows)))

pub returns-in_err-asks-clause-adds : goal.returns-in_err-asks-clause-adds
returns-in_err-asks-clause-adds c = adds_fewer _ _ _ _ (omega arith) (grows_once _ _ c.or.ensures.extends c.or.ensures.grows)

pub returns-in_err-asks-clause-full : goal.returns-in_err-asks-clause-full
returns-in_err-asks-clause-full c e = let full = c.or.ensures.full.0 (handed_on _ _ _ _ c.in_err-asks.was c.from_residual.ensures.1 e) in omega (arith, full)

pub returns-in_err-ready-clause-adds : goal.returns-in_err-ready-clause-adds
returns-in_err-ready-clause-adds c = adds_fewer _ _ _ _ (omega arith) (adds_twice _ _ _ _ _ (grows_once _ _ c.or.ensures.extends c.or.ensures.grows) (grows_once _ _ c.not.ensures.extends c.not.ensures.grows))

pub returns-in_err-ready-clause-full : goal.returns-in_err-ready-clause-full
returns-in_err-ready-clause-full c e = let most = c.or.ensures.grows.most in let full = c.not.ensures.full.0 (handed_on _ _ _ _ c.in_err-ready.was c.from_residual-in_err-ready.ensures.1 e) in omega (arith, most, full)

pub returns-in_err-beat-clause-adds : goal.returns-in_err-beat-clause-adds
returns-in_err-beat-clause-adds c = adds_fewer _ _ _ _ (omega arith) (adds_twice _ _ _ _ _ (adds_twice _ _ _ _ _ (grows_once _ _ c.or.ensures.extends c.or.ensures.grows) (grows_once _ _ c.not.ensures.extends c.not.ensures.grows)) (grows_once _ _ c.and.ensures.extends c.and.ensures.grows))

pub returns-in_err-beat-clause-full : goal.returns-in_err-beat-clause-full
returns-in_err-beat-clause-full c e = let most = c.or.ensures.grows.most in let most2 = c.not.ensures.grows.most in let full = c.and.ensures.full.0 (handed_on _ _ _ _ c.in_err-beat.was c.from_residual-in_err-beat.ensures.1 e) in omega (arith, most, most2, full)

pub returns-in_err-read-clause-adds : goal.returns-in_err-read-clause-adds
returns-in_err-read-clause-adds c = adds_fewer _ _ _ _ (omega arith) (adds_twice _ _ _ _ _ (adds_twice _ _ _ _ _ (adds_twice _ _ _ _ _ (grows_once _ _ c.or.ensures.extends c.or.ensures.grows) (grows_once _ _ c.not.ensures.extends c.not.ensures.grows)) (grows_once _ _ c.and.ensures.extends c.and.ensures.grows)) (grows_once _ _ c.and-2.ensures.extends c.and-2.ensures.grows))

pub returns-in_err-read-clause-full : goal.returns-in_err-read-clause-full
returns-in_err-read-clause-full c e = let most = c.or.ensures.grows.most in let most2 = c.not.ensures.grows.most in let most3 = c.and.ensures.grows.most in let full = c.and-2.ensures.full.0 (handed_on _ _ _ _ c.in_err-read.was c.from_residual-in_err-read.ensures.1 e) in omega (arith, most, most2, most3, full)

pub returns-clause-full : goal.returns-clause-full
returns-clause-full c e = cc

pub or-requires-clause-a_is : goal.or-requires-clause-a_is
or-requires-clause-a_is c = c.requires.command.read.is_net

pub or-requires-clause-b_is : goal.or-requires-clause-b_is
or-requires-clause-b_is c = c.requires.command.write.is_net

pub or-requires-clause-widths : goal.or-requires-clause-widths
or-requires-clause-widths c = c.requires.command.read.has_width ∙ sym c.requires.command.write.has_width

pub not-requires : goal.not-requires
not-requires c = record { a_is = c.or.ensures.extends.nets _ _ c.requires.wait.is_net }

pub and-requires-clause-a_is : goal.and-requires-clause-a_is
and-requires-clause-a_is c = c.not.ensures.extends.nets _ _ c.in_ok-asks.ensures.net.0

pub and-requires-clause-b_is : goal.and-requires-clause-b_is
and-requires-clause-b_is c = c.in_ok-ready.ensures.net.0

pub and-requires-clause-widths : goal.and-requires-clause-widths
and-requires-clause-widths c = c.in_ok-asks.ensures.net.1 ∙ c.requires.command.read.has_width ∙ sym (c.in_ok-ready.ensures.net.1 ∙ c.requires.wait.has_width)

pub and-requires-2-clause-a_is : goal.and-requires-2-clause-a_is
and-requires-2-clause-a_is c = c.in_ok-beat.ensures.net.0

pub and-requires-2-clause-b_is : goal.and-requires-2-clause-b_is
and-requires-2-clause-b_is c =
    let e1 = extends_twice _ _ _ c.not.ensures.extends c.and.ensures.extends in
    (extends_twice _ _ _ c.or.ensures.extends e1).nets _ _ c.requires.command.read.is_net

pub and-requires-2-clause-widths : goal.and-requires-2-clause-widths
and-requires-2-clause-widths c = c.in_ok-beat.ensures.net.1 ∙ c.in_ok-asks.ensures.net.1

pub returns-clause-beat : goal.returns-clause-beat
returns-clause-beat c = net_lasts _ _ _ 1 c.and-2.ensures.extends (record { is_net = c.in_ok-beat.ensures.net.0; has_width = c.in_ok-beat.ensures.net.1 ∙ (c.in_ok-asks.ensures.net.1 ∙ c.requires.command.read.has_width) })

pub returns-clause-read : goal.returns-clause-read
returns-clause-read c = record { is_net = c.in_ok-read.ensures.net.0; has_width = c.in_ok-read.ensures.net.1 ∙ (c.in_ok-beat.ensures.net.1 ∙ (c.in_ok-asks.ensures.net.1 ∙ c.requires.command.read.has_width)) }
