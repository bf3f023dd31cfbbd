use Rattle.std.proofs.Common.{◌++◌, List, ℕ, ap, codes}
use Rattle.vcd_text.specs.Sinks.{written_by}
use Rattle.vcd_text.specs.Text.{scope_text}
use Rattle.vcd_text.proofs.Puts.{puts_as}
use Rattle.vcd_text.proofs.put.put_scope.Goals as goal

pub returns-clause-puts : goal.returns-clause-puts
returns-clause-puts g c =
    puts_as (codes "$timescale 1 ns $end\n$scope module " ++ c.as_slice-name.result.now ++ codes " $end\n") (scope_text c.args.name.now)
    (written_by g.K.Sink.held g.K.Sink.faults c.args.sink.now c.put_three.new.sink) c.put_three.result
    (ap (λ (bs : List ℕ). codes "$timescale 1 ns $end\n$scope module " ++ bs ++ codes " $end\n") c.as_slice-name.ensures)
    c.put_three.ensures.puts
