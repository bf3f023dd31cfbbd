use Rattle.std.proofs.Common.{subst, arith}
use Rattle.net_parts.specs.Laws.{adds_twice, adds_fewer, net_lasts}
use Rattle.net_parts.specs.Refusing.{handed_on}
use Rattle.mm_split.specs.Told.{above_lasts}
use Rattle.command_nets.specs.Groups.{command_lasts}
use Rattle.mm_split.specs.Parts.{IsBeatBelow, number_of}
use Rattle.command_nets.specs.Nets.{raw_in}
use Rattle.mm_split.proofs.command.make_part.Goals as goal

pub returns-in_err-looked-clause-adds : goal.returns-in_err-looked-clause-adds
returns-in_err-looked-clause-adds c = adds_fewer _ _ _ _ (omega (arith)) (c.look.ensures.adds)

pub returns-in_err-looked-clause-full : goal.returns-in_err-looked-clause-full
returns-in_err-looked-clause-full c e =
    let full = c.look.ensures.full (handed_on _ _ _ _ c.in_err-looked.was c.from_residual.ensures.1 e) in
    omega (arith, full)

pub returns-in_err-below-clause-adds : goal.returns-in_err-below-clause-adds
returns-in_err-below-clause-adds c = adds_fewer _ _ _ _ (omega (arith)) (adds_twice _ _ _ _ _ c.look.ensures.adds c.part_below.ensures.adds)

pub returns-in_err-below-clause-full : goal.returns-in_err-below-clause-full
returns-in_err-below-clause-full c e =
    let most0 = c.look.ensures.adds.most in
    let full = c.part_below.ensures.full (handed_on _ _ _ _ c.in_err-below.was c.from_residual-in_err-below.ensures.1 e) in
    omega (arith, most0, full)

pub returns-clause-adds : goal.returns-clause-adds
returns-clause-adds c = adds_fewer _ _ _ _ (omega (arith)) (adds_twice _ _ _ _ _ c.look.ensures.adds c.part_below.ensures.adds)

pub returns-clause-full : goal.returns-clause-full
returns-clause-full c e = cc

pub part_below-requires-clause-from : goal.part_below-requires-clause-from
part_below-requires-clause-from c = command_lasts _ _ _ c.look.ensures.adds.grows.extends c.requires.from

pub returns-clause-part : goal.returns-clause-part
returns-clause-part c =
    let last = c.part_below.ensures.adds.grows.extends in
    record {
      below = c.in_ok-below.ensures.command;
      asked = net_lasts _ _ _ _ last c.in_ok-looked.ensures.asked_net;
      opens = net_lasts _ _ _ _ last c.in_ok-looked.ensures.opens_net;
      above = above_lasts _ _ _ last c.in_ok-looked.ensures.above_nets;
    }

pub returns-clause-value : goal.returns-clause-value
returns-clause-value c cycle v =
    let v0 = c.part_below.ensures.adds.grows.extends.valuations cycle v in
    record {
      told = c.in_ok-looked.ensures.above cycle v0;
      beat = subst (λ n. IsBeatBelow c.args.sizes.now (raw_in cycle c.args.from.now) (number_of c.args.sizes.now n) (cycle.net c.in_ok-looked.looked.above.shows.number) (cycle.net c.in_ok-looked.looked.above.last.number) (raw_in cycle c.in_ok-below.below)) (c.in_ok-looked.ensures.here cycle v0) (c.in_ok-below.ensures.value cycle v);
    }
