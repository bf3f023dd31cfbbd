use Rattle.std.proofs.Common.{refl}
use Rattle.std.specs.Fmt.{digits}
use Rattle.verilog_forms.specs.WalkLaws.{walk_reads}
use Rattle.verilog_forms.proofs.laws.read_texts.Goals as goal

pub returns-clause-no_port : goal.returns-clause-no_port
unfolding digits
returns-clause-no_port c = walk_reads _ _ _ _ refl

pub returns-clause-one_register : goal.returns-clause-one_register
unfolding digits
returns-clause-one_register c = walk_reads _ _ _ _ refl

pub returns-clause-one_write : goal.returns-clause-one_write
unfolding digits
returns-clause-one_write c = walk_reads _ _ _ _ refl
