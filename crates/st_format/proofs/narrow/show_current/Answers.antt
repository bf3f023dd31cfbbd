use Rattle.std.proofs.Common.{◌==◌, if◌then◌else◌, ap, ◌∙◌, arith}
use Rattle.stage_core.specs.Groups.{shown_in}
use Rattle.stage_core.specs.Lasting.{beat_lasts}
use Rattle.net_parts.specs.Laws.{extends_twice}
use Rattle.st_format.specs.NarrowNets.{laid_above}
use Rattle.st_format.proofs.narrow.show_current.Goals as goal

pub lay_above-requires-clause-word : goal.lay_above-requires-clause-word
lay_above-requires-clause-word c = record { is_net = (extends_twice _ _ _ c.count_empty.ensures.adds.grows.extends c.hold_parts.ensures.grows.extends).nets _ _ c.requires.from.word; has_width = c.requires.word }

pub mux_beat-requires-clause-other : goal.mux_beat-requires-clause-other
mux_beat-requires-clause-other c = beat_lasts _ _ _ (extends_twice _ _ _ c.hold_parts.ensures.grows.extends c.lay_above.ensures.adds.grows.extends) c.in_ok-counted.ensures.beat

pub returns-clause-held : goal.returns-clause-held
returns-clause-held c = beat_lasts _ _ _ (extends_twice _ _ _ c.lay_above.ensures.adds.grows.extends c.mux_beat.ensures.adds.grows.extends) c.in_ok-held.ensures.held

pub returns-clause-owned : goal.returns-clause-owned
returns-clause-owned c n o =
    let made = c.in_ok-held.ensures.owned n o in
    let before = c.count_empty.ensures.adds.grows.extends.count in
    let more = (extends_twice _ _ _ c.lay_above.ensures.adds.grows.extends c.mux_beat.ensures.adds.grows.extends).count in
    let from = made.0 in
    let below = made.1 in
    (omega (arith, from, before), omega (arith, below, more))

pub returns-clause-value : goal.returns-clause-value
returns-clause-value c cycle v4 =
    let v3 = c.mux_beat.ensures.adds.grows.extends.valuations cycle v4 in
    let v2 = c.lay_above.ensures.adds.grows.extends.valuations cycle v3 in
    let v1 = c.hold_parts.ensures.grows.extends.valuations cycle v2 in
    c.in_ok-beat.ensures.value cycle v4
    ∙ ap (λ x. if cycle.net c.in_ok-held.held.valid.number == 1 then x else shown_in cycle c.in_ok-counted.counted) (c.in_ok-whole.ensures.value cycle v3)
    ∙ ap (λ x. if cycle.net c.in_ok-held.held.valid.number == 1 then laid_above c.args.sizes.now (shown_in cycle c.in_ok-held.held) (cycle.net c.args.from.now.word.number) else x) (c.in_ok-counted.ensures.value cycle v1)
