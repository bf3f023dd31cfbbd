use Rattle.std.proofs.Common.{◌∙◌, sym, arith}
use Rattle.net_parts.specs.Laws.{adds_fewer, width_fits}
use Rattle.net_parts.specs.Refusing.{handed_on}
use Rattle.mm_split.proofs.Bits.{last_place}
use Rattle.mm_split.proofs.command.look_above.Goals as goal

pub returns-in_err-shows-clause-adds : goal.returns-in_err-shows-clause-adds
returns-in_err-shows-clause-adds c = adds_fewer _ _ _ _ (omega arith) (c.emit_three.ensures.adds)

pub returns-in_err-shows-clause-full : goal.returns-in_err-shows-clause-full
returns-in_err-shows-clause-full c e =
    let full = c.emit_three.ensures.full (handed_on _ _ _ _ c.in_err-shows.was c.from_residual.ensures.1 e) in
    omega (arith, full)

pub returns-clause-adds : goal.returns-clause-adds
returns-clause-adds c = adds_fewer _ _ _ _ (omega arith) (c.emit_three.ensures.adds)

pub returns-clause-full : goal.returns-clause-full
returns-clause-full c e = cc

pub emit_three-requires-clause-a : goal.emit_three-requires-clause-a
emit_three-requires-clause-a c = (((c.requires.from.read, c.requires.from.write), c.requires.opens), (c.requires.place.is_net, c.requires.parts.is_net, c.requires.place.has_width ∙ sym c.requires.parts.has_width))

pub emit_three-requires-clause-b : goal.emit_three-requires-clause-b
emit_three-requires-clause-b c = (c.requires.place.is_net, (c.requires.parts.is_net, (omega arith, omega arith, omega arith), c.requires.parts.has_width), c.requires.place.has_width ∙ sym c.requires.parts.has_width)

pub returns-clause-shows : goal.returns-clause-shows
returns-clause-shows c cycle v = (c.in_ok-shows.ensures.values cycle v).0

pub returns-clause-last : goal.returns-clause-last
returns-clause-last c cycle v =
    let start = c.emit_three.ensures.adds.grows.extends.valuations cycle v in
    (c.in_ok-shows.ensures.values cycle v).1 ∙ last_place c.args.parts.width (cycle.net c.args.place.number) (cycle.net c.args.parts.number) c.requires.parts.has_width (c.requires.small cycle start) (width_fits _ _ 5 c.requires.parts cycle start)

pub returns-clause-none : goal.returns-clause-none
returns-clause-none c cycle v = (c.in_ok-shows.ensures.values cycle v).2
