use Rattle.std.proofs.Common.{refl}
use Rattle.std.specs.Fmt.{digits}
use Rattle.verilog_forms.specs.WalkLaws.{walk_reads}
use Rattle.verilog_forms.proofs.laws.read_right_sides.Goals as goal

pub returns-clause-and : goal.returns-clause-and
unfolding digits
returns-clause-and c = walk_reads _ _ _ _ refl

pub returns-clause-slice : goal.returns-clause-slice
unfolding digits
returns-clause-slice c = walk_reads _ _ _ _ refl

pub returns-clause-choice : goal.returns-clause-choice
unfolding digits
returns-clause-choice c = walk_reads _ _ _ _ refl

pub returns-clause-concatenation : goal.returns-clause-concatenation
unfolding digits
returns-clause-concatenation c = walk_reads _ _ _ _ refl

pub returns-clause-word : goal.returns-clause-word
unfolding digits
returns-clause-word c = walk_reads _ _ _ _ refl
