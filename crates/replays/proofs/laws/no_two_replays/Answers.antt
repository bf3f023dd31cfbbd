use Rattle.std.proofs.Common.{List, length, sym, subst, ap, ◌∙◌}
use Rattle.av_base.specs.Word.{Word}
use Rattle.waves.specs.Rows.{input_widths}
use Rattle.replays.specs.Traces.{trace_text}
use Rattle.replays.specs.Replays.{IsRunOn}
use Rattle.replays.proofs.RunLemmas.{same_inputs, same_trace}
use Rattle.replays.proofs.laws.no_two_replays.Goals as goal

pub returns : goal.returns
returns c netlist bytes one other sound x y =
    let same = c.no_two_readings.ensures (input_widths netlist.ports) bytes y.rows x.rows y.are_waves x.are_waves in
    let on = subst (λ (rows : List (List Word)). IsRunOn netlist rows y.run) same y.is_run in
    let nets = c.one_run.ensures netlist sound x.run y.run (length x.rows) x.is_run.is_run on.is_run (same_inputs netlist x.rows x.run y.run x.is_run on) in
    x.is_text ∙ same_trace netlist x.run y.run (length x.rows) sound nets ∙ ap (λ (rows : List (List Word)). trace_text netlist y.run (length rows)) (sym same) ∙ sym y.is_text
