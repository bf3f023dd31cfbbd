use Rattle.verilog_reader.proofs.HeaderSteps.{run_utf8}
use Rattle.verilog_reader.proofs.header_lines.text_of.Goals as goal

pub unreachable-requires : goal.unreachable-requires
unreachable-requires c = c.in-Err.ensures.cases.0 (run_utf8 c.args.run.now c.requires)
