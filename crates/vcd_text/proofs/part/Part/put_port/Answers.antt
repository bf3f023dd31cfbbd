use Rattle.std.proofs.Common.{length, ap, arith, length-append}
use Rattle.vcd_text.specs.Text.{code}
use Rattle.vcd_text.specs.CodeLaws.{code_short}
use Rattle.vcd_text.proofs.part.Part.put_port.Goals as goal

pub put_code-requires : goal.put_code-requires
put_code-requires c = omega (arith, code_short c.args.port c.ranges.port.fits, c.requires)

pub returns-clause-short : goal.returns-clause-short
returns-clause-short c = omega (arith, code_short c.args.port c.ranges.port.fits, ap length c.put_code.ensures, length-append c.args.self.now (code c.args.port))
