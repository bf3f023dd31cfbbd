use Rattle.std.proofs.Common.{◌+◌, if◌then◌else◌, ap, ap₂, ◌∙◌}
use Rattle.histories.specs.History.{is_raised}
use Rattle.net_parts.specs.Laws.{extends_twice, adds_twice, grows_once}
use Rattle.net_parts.specs.Counts.{zeros_last}
use Rattle.mm_split.proofs.Marks.{both_are, mark_is}
use Rattle.mm_split.proofs.lanes.look_at.Goals as goal

pub add_bit-requires-clause-zeros : goal.add_bit-requires-clause-zeros
add_bit-requires-clause-zeros c = zeros_last _ _ _ (extends_twice _ _ _ c.piece.ensures.adds.grows.extends (extends_twice _ _ _ c.eq.ensures.extends c.both.ensures.adds.grows.extends)) c.requires.search.zeros

pub add_bit-requires-clause-small : goal.add_bit-requires-clause-small
add_bit-requires-clause-small c cycle v =
    c.requires.small cycle (c.piece.ensures.adds.grows.extends.valuations cycle (c.eq.ensures.extends.valuations cycle (c.both.ensures.adds.grows.extends.valuations cycle v)))

pub returns-clause-here : goal.returns-clause-here
returns-clause-here c cycle v =
    let v2 = c.add_bit.ensures.adds.grows.extends.valuations cycle v in
    let v1 = c.both.ensures.adds.grows.extends.valuations cycle v2 in
    let v0 = c.eq.ensures.extends.valuations cycle v1 in
    c.in_ok-here.ensures.level cycle v2
    ∙ ap₂ (λ x y. if is_raised x then y else 0) (c.in_ok-bit.ensures.value cycle v0) (c.in_ok-same.ensures.value cycle v1).1
    ∙ both_are _ _

pub returns-clause-count : goal.returns-clause-count
returns-clause-count c cycle v =
    let v2 = c.add_bit.ensures.adds.grows.extends.valuations cycle v in
    let v1 = c.both.ensures.adds.grows.extends.valuations cycle v2 in
    let v0 = c.eq.ensures.extends.valuations cycle v1 in
    c.in_ok-count.ensures.value cycle v ∙ ap (λ n. cycle.net c.args.below.number + n) (c.in_ok-bit.ensures.value cycle v0 ∙ mark_is _ _)

pub returns-clause-adds : goal.returns-clause-adds
returns-clause-adds c =
    adds_twice _ _ _ _ _ (adds_twice _ _ _ _ _ (adds_twice _ _ _ _ _ c.piece.ensures.adds (grows_once _ _ c.eq.ensures.extends c.eq.ensures.grows)) c.both.ensures.adds) c.add_bit.ensures.adds
