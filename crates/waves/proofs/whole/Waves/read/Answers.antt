use Rattle.std.proofs.Common.{◌≡◌, map, drop, Some, ap, sym, ◌∙◌, subst}
use Rattle.waves.specs.Cuts.{lines}
use Rattle.waves.specs.Rows.{row_of, input_widths}
use Rattle.waves.specs.Waves.{IsWavesOf, row_at}
use Rattle.waves.proofs.Reading.{is_waves}
use Rattle.waves.proofs.whole.Waves.read.Goals as goal

pub returns-clause-waves : goal.returns-clause-waves
returns-clause-waves c =
    let widths = c.in_ok-widths.widths.items in
    let bytes = c.args.bytes.now in
    let starts = c.in_ok-starts.starts.items in
    subst (λ ws. IsWavesOf ws bytes (map (row_at widths bytes) starts)) (c.in_ok-widths.ensures.widths ∙ ap input_widths c.ports.ensures)
    (is_waves widths bytes starts c.first_line-header.result.len c.first_line-header.result.next c.in-Some.due c.first_line-header.ensures.line (sym c.cycles_in.ensures ∙ c.in-Some.is)
    c.in_ok-starts.ensures.count (subst (λ ws. map (row_of ws) (lines (drop c.first_line-header.result.next bytes)) ≡ map Some (map (row_at ws bytes) starts)) c.as_slice.ensures.value c.in_ok-starts.ensures.rows))
