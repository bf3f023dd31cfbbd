use Rattle.std.proofs.Common.{ap, ◌∙◌}
use Rattle.verilog_forms.specs.WireLines.{number_test}
use Rattle.verilog_reader.specs.Spots.{hole_from}
use Rattle.verilog_reader.proofs.holes.named.Goals as goal

pub returns-clause-read : goal.returns-clause-read
returns-clause-read c =
    (c.take-behind.ensures.taken (number_test c.args.n) (λ run. c.args.n) c.exactly.ensures).leads ∙ ap (hole_from (number_test c.args.n) c.args.bytes.now) c.fixed-lettered.ensures.fixed
