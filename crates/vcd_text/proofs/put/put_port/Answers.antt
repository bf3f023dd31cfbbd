use Rattle.std.proofs.Common.{◌++◌, List, ℕ, ap, ◌∙◌, codes, decimal}
use Rattle.vcd_text.specs.Sinks.{written_by}
use Rattle.vcd_text.specs.Text.{code, port_line}
use Rattle.vcd_text.proofs.Puts.{puts_as}
use Rattle.vcd_text.proofs.put.put_port.Goals as goal

pub returns-clause-puts : goal.returns-clause-puts
returns-clause-puts g c =
    let start = codes "$var wire " ++ decimal c.args.port.now.width ++ codes " " ++ code c.args.number ++ codes " " in
    puts_as (c.as_slice.result.now ++ c.as_slice-2.result.now ++ codes " $end\n") (port_line c.args.number c.args.port.now)
    (written_by g.K.Sink.held g.K.Sink.faults c.args.sink.now c.put_three.new.sink) c.put_three.result
    (ap (λ (bs : List ℕ). bs ++ c.as_slice-2.result.now ++ codes " $end\n") (c.as_slice.ensures ∙ c.port_start-start.ensures) ∙ ap (λ (bs : List ℕ). start ++ bs ++ codes " $end\n") c.as_slice-2.ensures)
    c.put_three.ensures.puts
