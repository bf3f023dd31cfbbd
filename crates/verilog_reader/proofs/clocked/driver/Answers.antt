use Rattle.std.proofs.Common.{List, ℕ, subst}
use Rattle.verilog_forms.specs.ClockedLines.{output_test}
use Rattle.verilog_reader.specs.DeclaredLines.{nothing_told}
use Rattle.verilog_reader.specs.Spots.{Judges}
use Rattle.verilog_reader.proofs.ClockedSteps.{driver_found}
use Rattle.verilog_reader.proofs.clocked.driver.Goals as goal

pub returns-clause-read : goal.returns-clause-read
returns-clause-read c = λ old same.
    let port = c.args.port.now in
    let judged = subst (λ (name : List ℕ). Judges (output_test name) nothing_told c.run_at-run.result.now c.output_in.result) c.as_slice.ensures c.output_in.ensures in
    driver_found c.args.bytes.now old c.args.lines.now port c.operand-net.result.0 c.args.spot c.fixed-begun.result c.take-named.result.1 c.fixed-takes.result c.operand-net.result.1 c.fixed.result
    same c.fixed-begun.ensures.fixed (c.take-named.ensures.taken (output_test port.name) nothing_told judged).leads c.fixed-takes.ensures.fixed c.operand-net.ensures.read c.fixed.ensures.fixed
