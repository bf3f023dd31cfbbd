use Rattle.std.proofs.Common.{sym, ◌∙◌}
use Rattle.verilog_reader.proofs.ClockedSteps.{nothing_found, more_found}
use Rattle.verilog_reader.proofs.clocked.end_of.Goals as goal

pub returns-in-None-clause-read : goal.returns-in-None-clause-read
returns-in-None-clause-read c = λ one. nothing_found one c.args.bytes.now c.args.spot (sym c.next_byte.ensures ∙ c.in-None.is)

pub returns-in-Some-clause-read : goal.returns-in-Some-clause-read
returns-in-Some-clause-read c = λ one.
    more_found one c.args.bytes.now c.args.spot c.refuse.result c.in-Some.field-0 (sym c.next_byte.ensures ∙ c.in-Some.is) c.refuse.ensures
