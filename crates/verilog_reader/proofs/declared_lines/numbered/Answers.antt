use Rattle.verilog_forms.specs.WireLines.{number_test}
use Rattle.verilog_reader.proofs.declared_lines.numbered.Goals as goal

pub returns-clause-read : goal.returns-clause-read
returns-clause-read c = (c.take-behind.ensures.taken (number_test c.args.number) (λ run. c.args.number) c.exactly.ensures).leads
