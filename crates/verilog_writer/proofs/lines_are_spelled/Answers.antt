use Rattle.std.proofs.Common.{refl}
use Rattle.std.specs.Fmt.{digits}
use Rattle.verilog_writer.proofs.lines_are_spelled.Goals as goal

pub returns-clause-input : goal.returns-clause-input
unfolding digits
returns-clause-input c = refl

pub returns-clause-constant : goal.returns-clause-constant
unfolding digits
returns-clause-constant c = refl

pub returns-clause-and : goal.returns-clause-and
unfolding digits
returns-clause-and c = refl

pub returns-clause-or : goal.returns-clause-or
unfolding digits
returns-clause-or c = refl

pub returns-clause-xor : goal.returns-clause-xor
unfolding digits
returns-clause-xor c = refl

pub returns-clause-sum : goal.returns-clause-sum
unfolding digits
returns-clause-sum c = refl

pub returns-clause-difference : goal.returns-clause-difference
unfolding digits
returns-clause-difference c = refl

pub returns-clause-equal : goal.returns-clause-equal
unfolding digits
returns-clause-equal c = refl

pub returns-clause-less : goal.returns-clause-less
unfolding digits
returns-clause-less c = refl

pub returns-clause-concatenation : goal.returns-clause-concatenation
unfolding digits
returns-clause-concatenation c = refl

pub returns-clause-complement : goal.returns-clause-complement
unfolding digits
returns-clause-complement c = refl

pub returns-clause-any : goal.returns-clause-any
unfolding digits
returns-clause-any c = refl

pub returns-clause-choice : goal.returns-clause-choice
unfolding digits
returns-clause-choice c = refl

pub returns-clause-slice : goal.returns-clause-slice
unfolding digits
returns-clause-slice c = refl

pub returns-clause-register : goal.returns-clause-register
unfolding digits
returns-clause-register c = refl

pub returns-clause-clocked : goal.returns-clause-clocked
unfolding digits
returns-clause-clocked c = refl

pub returns-clause-output : goal.returns-clause-output
unfolding digits
returns-clause-output c = refl

pub returns-clause-memory : goal.returns-clause-memory
unfolding digits
returns-clause-memory c = refl

pub returns-clause-read : goal.returns-clause-read
unfolding digits
returns-clause-read c = refl

pub returns-clause-write : goal.returns-clause-write
unfolding digits
returns-clause-write c = refl
