use Rattle.std.proofs.Common.{refl}
use Rattle.waves.proofs.LawLemmas.{at_second, at_third}
use Rattle.waves.proofs.laws.refused_files.Goals as goal

pub returns-clause-one_missing : goal.returns-clause-one_missing
returns-clause-one_missing c = at_third _ _ _ _ refl refl

pub returns-clause-one_too_many : goal.returns-clause-one_too_many
returns-clause-one_too_many c = at_third _ _ _ _ refl refl

pub returns-clause-too_large : goal.returns-clause-too_large
returns-clause-too_large c = at_third _ _ _ _ refl refl

pub returns-clause-no_cycles : goal.returns-clause-no_cycles
returns-clause-no_cycles c = (refl, refl)

pub returns-clause-zero_in_front : goal.returns-clause-zero_in_front
returns-clause-zero_in_front c = (refl, refl)

pub returns-clause-too_many_cycles : goal.returns-clause-too_many_cycles
returns-clause-too_many_cycles c = (refl, refl)

pub returns-clause-two_blanks : goal.returns-clause-two_blanks
returns-clause-two_blanks c = at_second _ _ _ _ refl

pub returns-clause-blank_behind : goal.returns-clause-blank_behind
returns-clause-blank_behind c = at_second _ _ _ _ refl

pub returns-clause-empty_line : goal.returns-clause-empty_line
returns-clause-empty_line c = at_second _ _ _ _ refl

pub returns-clause-blank_without_inputs : goal.returns-clause-blank_without_inputs
returns-clause-blank_without_inputs c = at_second _ _ _ _ refl

pub returns-clause-capital : goal.returns-clause-capital
returns-clause-capital c = at_second _ _ _ _ refl

pub returns-clause-too_short : goal.returns-clause-too_short
returns-clause-too_short c = at_second _ _ _ _ refl

pub returns-clause-return_in_the_line : goal.returns-clause-return_in_the_line
returns-clause-return_in_the_line c = at_second _ _ _ _ refl
