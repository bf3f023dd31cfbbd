use Rattle.std.proofs.Common.{◌≡◌, ◌*◌, sym, subst, ap, ◌∙◌, arith}
use Rattle.stage_core.specs.Beats.{AreBeatNets}
use Rattle.stage_core.specs.Groups.{shown_in}
use Rattle.stage_core.specs.Lasting.{beat_lasts}
use Rattle.net_parts.specs.Laws.{extends_twice}
use Rattle.st_format.proofs.NarrowLemmas.{low_bits, laid_shown}
use Rattle.st_format.proofs.narrow.lay_above.Goals as goal

pub returns-clause-beat : goal.returns-clause-beat
returns-clause-beat c =
    let base = subst (AreBeatNets c.concat.new.self) (sym c.copied.ensures) (beat_lasts _ _ _ (extends_twice _ _ _ c.slice.ensures.extends c.concat.ensures.extends) c.requires.held) in
    record { valid = base.valid; word = c.in_ok-word.ensures.net.0; channel = base.channel; error = base.error; first = base.first; last = base.last; empty = base.empty }

pub returns-clause-value : goal.returns-clause-value
returns-clause-value c cycle v2 =
    let v1 = c.concat.ensures.extends.valuations cycle v2 in
    let bits = c.narrow_bits.ensures.value in
    let some = c.narrow_bits.ensures.some in
    let width = c.in_ok-lowest.ensures.net.1 in
    let wide : c.in_ok-lowest.lowest.width ≡ c.args.sizes.now.bits * c.args.sizes.now.symbols = omega (arith, bits, some, width) in
    let lowest = (c.in_ok-lowest.ensures.value cycle v1).1 ∙ low_bits (cycle.net c.args.word.number) _ _ c.narrow_bits.ensures.value c.narrow_bits.ensures.some in
    laid_shown c.args.sizes.now (shown_in cycle c.copied.result) (shown_in cycle c.args.held.now) (cycle.net c.args.word.number) _ _ _ (ap (shown_in cycle) c.copied.ensures) wide lowest (c.in_ok-word.ensures.value cycle v2).1
