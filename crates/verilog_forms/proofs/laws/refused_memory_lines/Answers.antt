use Rattle.std.proofs.Common.{refl}
use Rattle.std.specs.Fmt.{digits}
use Rattle.verilog_forms.specs.WalkLaws.{walk_refuses}
use Rattle.verilog_forms.proofs.laws.refused_memory_lines.Goals as goal

pub returns-clause-another_memory : goal.returns-clause-another_memory
unfolding digits
returns-clause-another_memory c = walk_refuses _ _ _ _ refl

pub returns-clause-seven_words : goal.returns-clause-seven_words
unfolding digits
returns-clause-seven_words c = walk_refuses _ _ _ _ refl

pub returns-clause-one_word : goal.returns-clause-one_word
unfolding digits
returns-clause-one_word c = walk_refuses _ _ _ _ refl

pub returns-clause-too_many_words : goal.returns-clause-too_many_words
unfolding digits
returns-clause-too_many_words c = walk_refuses _ _ _ _ refl

pub returns-clause-width_above_128 : goal.returns-clause-width_above_128
unfolding digits
returns-clause-width_above_128 c = walk_refuses _ _ _ _ refl

pub returns-clause-register : goal.returns-clause-register
unfolding digits
returns-clause-register c = walk_refuses _ _ _ _ refl
