use Rattle.std.proofs.Common.{refl}
use Rattle.verilog_forms.specs.WalkLaws.{walk_reads, walk_refuses}
use Rattle.verilog_forms.proofs.laws.full_modules.Goals as goal

pub returns-clause-wire : goal.returns-clause-wire
returns-clause-wire c = walk_refuses _ _ _ _ refl

pub returns-clause-register : goal.returns-clause-register
returns-clause-register c = walk_refuses _ _ _ _ refl

pub returns-clause-odd_wire : goal.returns-clause-odd_wire
returns-clause-odd_wire c = walk_refuses _ _ _ _ refl

pub returns-clause-input : goal.returns-clause-input
returns-clause-input c = walk_refuses _ _ _ _ refl

pub returns-clause-no_input : goal.returns-clause-no_input
returns-clause-no_input c = walk_refuses _ _ _ _ refl

pub returns-clause-clocked : goal.returns-clause-clocked
returns-clause-clocked c = walk_reads _ _ _ _ refl

pub returns-clause-ended : goal.returns-clause-ended
returns-clause-ended c = walk_reads _ _ _ _ refl
