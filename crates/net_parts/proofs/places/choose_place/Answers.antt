use Rattle.std.proofs.Common.{◌==◌, arith}
use Rattle.net_parts.specs.Groups.{nets_last}
use Rattle.net_parts.specs.Laws.{net_lasts, adds_fewer, adds_twice}
use Rattle.net_parts.specs.RowLaws.{chosen_pair}
use Rattle.net_parts.proofs.places.choose_place.Goals as goal

pub choose_all-requires : goal.choose_all-requires
choose_all-requires g c =
    let more = c.choose.ensures.adds.grows.extends in
    let widths = c.requires.widths in
    ((let few = c.requires.few in omega arith), (net_lasts _ _ _ _ more c.requires.bit, (nets_last _ _ _ more c.requires.one.item, (nets_last _ _ _ more c.requires.other.item, (cc)))))

pub returns-clause-chosen : goal.returns-clause-chosen
returns-clause-chosen g c cycle v =
    chosen_pair (cycle.net c.args.bit.number == 0) _ _ _ _ _ _ (c.in_ok-full.ensures.value cycle (c.choose_all.ensures.adds.grows.extends.valuations cycle v)) (c.in_ok-item.ensures.chosen cycle v)

pub returns-in_err-full-clause-adds : goal.returns-in_err-full-clause-adds
returns-in_err-full-clause-adds g c = adds_fewer _ _ _ _ (omega arith) c.choose.ensures.adds

pub returns-in_err-item-clause-adds : goal.returns-in_err-item-clause-adds
returns-in_err-item-clause-adds g c = adds_fewer _ _ _ _ (omega arith) (adds_twice _ _ _ _ _ c.choose.ensures.adds c.choose_all.ensures.adds)

pub returns-clause-adds : goal.returns-clause-adds
returns-clause-adds g c = adds_fewer _ _ _ _ (omega arith) (adds_twice _ _ _ _ _ c.choose.ensures.adds c.choose_all.ensures.adds)
