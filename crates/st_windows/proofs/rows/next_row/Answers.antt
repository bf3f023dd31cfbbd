use Rattle.std.proofs.Common.{◌∙◌, sym, subst, ap, arith}
use Rattle.net_parts.specs.Laws.{net_lasts, extends_twice, adds_twice, adds_fewer}
use Rattle.net_parts.specs.Refusing.{handed_on}
use Rattle.stage_core.specs.Beats.{AreBeatNets}
use Rattle.stage_core.specs.Groups.{shown_in}
use Rattle.stage_core.specs.declared.beat.BeatNets.{BeatNets}
use Rattle.stage_core.specs.Lasting.{beat_lasts}
use Rattle.st_windows.proofs.CountNets.{next_shown}
use Rattle.st_windows.proofs.RowWidths.{rows_alike, widths_as, widths_through}
use Rattle.st_windows.proofs.rows.next_row.Goals as goal

pub returns-clause-row : goal.returns-clause-row
returns-clause-row c =
    let base = subst (AreBeatNets c.mux_beat.new.builder) (sym c.copied.ensures) c.in_ok-row.ensures.beat in
    record { valid = base.valid; word = (extends_twice _ _ _ c.join_row.ensures.adds.grows.extends (extends_twice _ _ _ c.lone_row.ensures.adds.grows.extends c.mux_beat.ensures.adds.grows.extends)).nets _ _ c.in_ok-word.ensures.net.is_net; channel = base.channel; error = base.error; first = base.first; last = base.last; empty = base.empty }

pub returns-clause-widths : goal.returns-clause-widths
returns-clause-widths c =
    let widths = (widths_as _ _ _ _ _ c.in_ok-row.ensures.widths (widths_through _ _ _ _ _ _ c.in_ok-lone.ensures.widths c.requires.held_widths)) in
    record {
      word = c.in_ok-word.ensures.net.has_width;
      channel = ap (λ (n : BeatNets). n.channel.width) c.copied.ensures ∙ widths.channel;
      error = ap (λ (n : BeatNets). n.error.width) c.copied.ensures ∙ widths.error;
      empty = ap (λ (n : BeatNets). n.empty.width) c.copied.ensures ∙ widths.empty;
    }

pub returns-clause-value : goal.returns-clause-value
returns-clause-value c cycle v4 =
    let v3 = c.mux_beat.ensures.adds.grows.extends.valuations cycle v4 in
    let v2 = c.lone_row.ensures.adds.grows.extends.valuations cycle v3 in
    let v1 = c.join_row.ensures.adds.grows.extends.valuations cycle v2 in
    let v0 = c.next_word.ensures.adds.grows.extends.valuations cycle v1 in
    next_shown c.args.sizes.now (cycle.net c.args.alone.number) (cycle.net c.in_ok-word.word.number) (shown_in cycle c.copied.result) (shown_in cycle c.in_ok-row.row) (shown_in cycle c.in_ok-lone.lone) (shown_in cycle c.in_ok-joined.joined) (shown_in cycle c.args.held.now) (shown_in cycle c.args.from.now)
    (ap (shown_in cycle) c.copied.ensures) (c.requires.is_alone cycle v0) (c.in_ok-word.ensures.value cycle v1) (c.in_ok-row.ensures.value cycle v4) (c.in_ok-lone.ensures.value cycle v3) (c.in_ok-joined.ensures.value cycle v2)

pub returns-in_err-word-clause-adds : goal.returns-in_err-word-clause-adds
returns-in_err-word-clause-adds c = adds_fewer _ _ _ _ (omega arith) c.next_word.ensures.adds

pub returns-in_err-joined-clause-adds : goal.returns-in_err-joined-clause-adds
returns-in_err-joined-clause-adds c = adds_fewer _ _ _ _ (omega arith) (adds_twice _ _ _ _ _ c.next_word.ensures.adds c.join_row.ensures.adds)

pub returns-in_err-lone-clause-adds : goal.returns-in_err-lone-clause-adds
returns-in_err-lone-clause-adds c = adds_fewer _ _ _ _ (omega arith) (adds_twice _ _ _ _ _ (adds_twice _ _ _ _ _ c.next_word.ensures.adds c.join_row.ensures.adds) c.lone_row.ensures.adds)

pub returns-in_err-row-clause-adds : goal.returns-in_err-row-clause-adds
returns-in_err-row-clause-adds c = adds_fewer _ _ _ _ (omega arith) (adds_twice _ _ _ _ _ (adds_twice _ _ _ _ _ (adds_twice _ _ _ _ _ c.next_word.ensures.adds c.join_row.ensures.adds) c.lone_row.ensures.adds) c.mux_beat.ensures.adds)

pub returns-clause-adds : goal.returns-clause-adds
returns-clause-adds c = adds_fewer _ _ _ _ (omega arith) (adds_twice _ _ _ _ _ (adds_twice _ _ _ _ _ (adds_twice _ _ _ _ _ c.next_word.ensures.adds c.join_row.ensures.adds) c.lone_row.ensures.adds) c.mux_beat.ensures.adds)

pub returns-in_err-word-clause-full : goal.returns-in_err-word-clause-full
returns-in_err-word-clause-full c e = let full = c.next_word.ensures.full (handed_on _ _ _ _ c.in_err-word.was c.from_residual.ensures.1 e) in omega (arith, full)

pub returns-in_err-joined-clause-full : goal.returns-in_err-joined-clause-full
returns-in_err-joined-clause-full c e = let most0 = c.next_word.ensures.adds.most in let full = c.join_row.ensures.full (handed_on _ _ _ _ c.in_err-joined.was c.from_residual-in_err-joined.ensures.1 e) in omega (arith, most0, full)

pub returns-in_err-lone-clause-full : goal.returns-in_err-lone-clause-full
returns-in_err-lone-clause-full c e = let most0 = c.next_word.ensures.adds.most in let most1 = c.join_row.ensures.adds.most in let full = c.lone_row.ensures.full (handed_on _ _ _ _ c.in_err-lone.was c.from_residual-in_err-lone.ensures.1 e) in omega (arith, most0, most1, full)

pub returns-in_err-row-clause-full : goal.returns-in_err-row-clause-full
returns-in_err-row-clause-full c e = let most0 = c.next_word.ensures.adds.most in let most1 = c.join_row.ensures.adds.most in let most2 = c.lone_row.ensures.adds.most in let full = c.mux_beat.ensures.full (handed_on _ _ _ _ c.in_err-row.was c.from_residual-in_err-row.ensures.1 e) in omega (arith, most0, most1, most2, full)

pub returns-clause-full : goal.returns-clause-full
returns-clause-full c e = cc

pub join_row-requires-clause-held : goal.join_row-requires-clause-held
join_row-requires-clause-held c = beat_lasts _ _ _ c.next_word.ensures.adds.grows.extends c.requires.held

pub join_row-requires-clause-from : goal.join_row-requires-clause-from
join_row-requires-clause-from c = beat_lasts _ _ _ c.next_word.ensures.adds.grows.extends c.requires.from

pub lone_row-requires-clause-held : goal.lone_row-requires-clause-held
lone_row-requires-clause-held c = beat_lasts _ _ _ (extends_twice _ _ _ c.next_word.ensures.adds.grows.extends c.join_row.ensures.adds.grows.extends) c.requires.held

pub lone_row-requires-clause-empty : goal.lone_row-requires-clause-empty
lone_row-requires-clause-empty c = c.requires.held_widths.empty

pub lone_row-requires-clause-word : goal.lone_row-requires-clause-word
lone_row-requires-clause-word c = net_lasts _ _ _ _ c.join_row.ensures.adds.grows.extends c.in_ok-word.ensures.net

pub mux_beat-requires-clause-bit : goal.mux_beat-requires-clause-bit
mux_beat-requires-clause-bit c = net_lasts _ _ _ _ (extends_twice _ _ _ c.next_word.ensures.adds.grows.extends (extends_twice _ _ _ c.join_row.ensures.adds.grows.extends c.lone_row.ensures.adds.grows.extends)) c.requires.alone

pub mux_beat-requires-clause-one : goal.mux_beat-requires-clause-one
mux_beat-requires-clause-one c = c.in_ok-lone.ensures.row

pub mux_beat-requires-clause-other : goal.mux_beat-requires-clause-other
mux_beat-requires-clause-other c = beat_lasts _ _ _ c.lone_row.ensures.adds.grows.extends c.in_ok-joined.ensures.row

pub mux_beat-requires-clause-widths : goal.mux_beat-requires-clause-widths
mux_beat-requires-clause-widths c = rows_alike _ _ _ _ _ _ _ _ _ c.in_ok-lone.ensures.row c.in_ok-joined.ensures.row c.in_ok-lone.ensures.widths c.in_ok-joined.ensures.widths c.requires.held_widths
