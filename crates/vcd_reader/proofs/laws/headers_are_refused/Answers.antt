use Rattle.std.proofs.Common.{refl}
use Rattle.std.specs.Fmt.{digits}
use Rattle.vcd_reader.specs.Found.{hole}
use Rattle.vcd_reader.proofs.laws.headers_are_refused.Goals as goal

pub returns-clause-end_missing : goal.returns-clause-end_missing
unfolding hole digits
returns-clause-end_missing c = refl

pub returns-clause-leading_zero_in_a_width : goal.returns-clause-leading_zero_in_a_width
unfolding hole digits
returns-clause-leading_zero_in_a_width c = refl

pub returns-clause-width_too_large : goal.returns-clause-width_too_large
unfolding hole digits
returns-clause-width_too_large c = refl

pub returns-clause-repeated_name : goal.returns-clause-repeated_name
unfolding hole digits
returns-clause-repeated_name c = refl

pub returns-clause-name_without_a_dollar : goal.returns-clause-name_without_a_dollar
unfolding hole digits
returns-clause-name_without_a_dollar c = refl

pub returns-clause-other_module_name : goal.returns-clause-other_module_name
unfolding hole digits
returns-clause-other_module_name c = refl

pub returns-clause-other_code : goal.returns-clause-other_code
unfolding hole digits
returns-clause-other_code c = refl
