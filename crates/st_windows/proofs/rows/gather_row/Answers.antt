use Rattle.std.proofs.Common.{◌≡◌, ◌∙◌, refl, sym, subst, ap, arith}
use Rattle.netlist.specs.Runs.{Always}
use Rattle.net_parts.specs.Laws.{extends_twice, adds_twice, adds_fewer, if_ok}
use Rattle.net_parts.specs.Refusing.{handed_on}
use Rattle.stage_core.specs.Beats.{AreBeatNets}
use Rattle.stage_core.specs.Groups.{shown_in}
use Rattle.stage_core.specs.declared.beat.BeatNets.{BeatNets}
use Rattle.stage_core.specs.Lasting.{beat_lasts}
use Rattle.st_windows.specs.RowNets.{HaveRowWidths}
use Rattle.st_windows.specs.Rows.{held_few, row_gathered}
use Rattle.st_windows.proofs.CountNets.{worded_shown}
use Rattle.st_windows.proofs.rows.gather_row.Goals as goal

pub hold_few-requires-clause-row : goal.hold_few-requires-clause-row
hold_few-requires-clause-row c =
    let base = subst (AreBeatNets c.level.new.builder) (sym c.copied.ensures) (beat_lasts _ _ _ (extends_twice _ _ _ c.cut_symbols.ensures.adds.grows.extends c.level.ensures.adds.grows.extends) c.requires.row) in
    record { valid = c.in_ok-low.ensures.net; word = c.level.ensures.adds.grows.extends.nets _ _ c.in_ok-word.ensures.net.is_net; channel = base.channel; error = base.error; first = base.first; last = base.last; empty = base.empty }

pub hold_few-requires-clause-widths : goal.hold_few-requires-clause-widths
hold_few-requires-clause-widths c = record { word = c.in_ok-word.ensures.net.has_width; channel = refl; error = refl; empty = ap (λ (n : BeatNets). n.empty.width) c.copied.ensures ∙ c.requires.empty }

pub returns-clause-widths : goal.returns-clause-widths
returns-clause-widths c =
    if_ok c.hold_few.result _ (λ made. HaveRowWidths c.args.sizes.now c.args.sizes.now.held c.args.row.now made)
    (λ made widths. record {
      word = widths.word;
      channel = widths.channel ∙ ap (λ (n : BeatNets). n.channel.width) c.copied.ensures;
      error = widths.error ∙ ap (λ (n : BeatNets). n.error.width) c.copied.ensures;
      empty = widths.empty;
    })
    c.hold_few.ensures.widths

pub returns-clause-value : goal.returns-clause-value
returns-clause-value c =
    if_ok c.hold_few.result _ (λ made. Always c.hold_few.new.builder (λ cycle. shown_in cycle made ≡ row_gathered c.args.sizes.now (shown_in cycle c.args.row.now)))
    (λ made value cycle v3. (
    let v2 = c.hold_few.ensures.adds.grows.extends.valuations cycle v3 in
    let v1 = c.level.ensures.adds.grows.extends.valuations cycle v2 in
    value cycle v3
    ∙ ap (held_few c.args.sizes.now) (worded_shown (shown_in cycle c.copied.result) (shown_in cycle c.args.row.now) _ 0 _ _ (ap (shown_in cycle) c.copied.ensures) (c.in_ok-low.ensures.value cycle v2) (c.in_ok-word.ensures.value cycle v1))))
    c.hold_few.ensures.value

pub returns-in_err-word-clause-adds : goal.returns-in_err-word-clause-adds
returns-in_err-word-clause-adds c = adds_fewer _ _ _ _ (omega arith) c.cut_symbols.ensures.adds

pub returns-in_err-low-clause-adds : goal.returns-in_err-low-clause-adds
returns-in_err-low-clause-adds c = adds_fewer _ _ _ _ (omega arith) (adds_twice _ _ _ _ _ c.cut_symbols.ensures.adds c.level.ensures.adds)

pub returns-clause-adds : goal.returns-clause-adds
returns-clause-adds c = adds_fewer _ _ _ _ (omega arith) (adds_twice _ _ _ _ _ (adds_twice _ _ _ _ _ c.cut_symbols.ensures.adds c.level.ensures.adds) c.hold_few.ensures.adds)

pub returns-in_err-word-clause-full : goal.returns-in_err-word-clause-full
returns-in_err-word-clause-full c e = let full = c.cut_symbols.ensures.full (handed_on _ _ _ _ c.in_err-word.was c.from_residual.ensures.1 e) in omega (arith, full)

pub returns-in_err-low-clause-full : goal.returns-in_err-low-clause-full
returns-in_err-low-clause-full c e = let most0 = c.cut_symbols.ensures.adds.most in let full = c.level.ensures.full (handed_on _ _ _ _ c.in_err-low.was c.from_residual-in_err-low.ensures.1 e) in omega (arith, most0, full)

pub returns-clause-full : goal.returns-clause-full
returns-clause-full c e = let most0 = c.cut_symbols.ensures.adds.most in let most1 = c.level.ensures.adds.most in let full = c.hold_few.ensures.full e in omega (arith, most0, most1, full)

pub cut_symbols-requires-clause-word : goal.cut_symbols-requires-clause-word
cut_symbols-requires-clause-word c = record { is_net = c.requires.row.word; has_width = c.requires.word }
