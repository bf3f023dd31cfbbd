use Rattle.std.proofs.Common.{refl}
use Rattle.std.specs.Fmt.{digits}
use Rattle.verilog_writer.proofs.constants_are_spelled.Goals as goal

pub returns-clause-bit : goal.returns-clause-bit
unfolding digits
returns-clause-bit c = refl

pub returns-clause-five_bits : goal.returns-clause-five_bits
unfolding digits
returns-clause-five_bits c = refl

pub returns-clause-leading_zeros : goal.returns-clause-leading_zeros
unfolding digits
returns-clause-leading_zeros c = refl

pub returns-clause-widest : goal.returns-clause-widest
unfolding digits
returns-clause-widest c = refl
