use Rattle.vcd_reader.proofs.Runs.{run_utf8}
use Rattle.vcd_reader.proofs.spelling.text_of.Goals as goal

pub unreachable-requires : goal.unreachable-requires
unreachable-requires c = c.in-Err.ensures.cases.0 (run_utf8 c.args.run.now c.requires)
