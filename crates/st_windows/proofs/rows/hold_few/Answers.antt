use Rattle.std.proofs.Common.{sym, subst, ap}
use Rattle.net_parts.specs.Laws.{extends_twice}
use Rattle.stage_core.specs.Beats.{AreBeatNets}
use Rattle.stage_core.specs.Groups.{shown_in}
use Rattle.stage_core.specs.Lasting.{beat_lasts}
use Rattle.st_windows.proofs.CountNets.{few_shown}
use Rattle.st_windows.proofs.rows.hold_few.Goals as goal

pub returns-clause-held : goal.returns-clause-held
returns-clause-held c =
    let base = subst (AreBeatNets c.fit_bits-2.new.builder) (sym c.copied.ensures) (beat_lasts _ _ _ (extends_twice _ _ _ c.fit_bits.ensures.adds.grows.extends c.fit_bits-2.ensures.adds.grows.extends) c.requires.row) in
    record { valid = base.valid; word = base.word; channel = base.channel; error = base.error; first = base.first; last = base.last; empty = c.in_ok-empty.ensures.net.is_net }

pub returns-clause-value : goal.returns-clause-value
returns-clause-value c cycle v2 =
    let v1 = c.fit_bits-2.ensures.adds.grows.extends.valuations cycle v2 in
    few_shown c.args.sizes.now (shown_in cycle c.copied.result) (shown_in cycle c.args.row.now) _ _ (ap (shown_in cycle) c.copied.ensures) (c.in_ok-low.ensures.value cycle v1) (c.in_ok-empty.ensures.value cycle v2)
