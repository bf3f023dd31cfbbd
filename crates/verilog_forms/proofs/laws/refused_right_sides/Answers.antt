use Rattle.std.proofs.Common.{refl}
use Rattle.std.specs.Fmt.{digits}
use Rattle.verilog_forms.specs.WalkLaws.{walk_refuses}
use Rattle.verilog_forms.proofs.laws.refused_right_sides.Goals as goal

pub returns-clause-byte_at_the_begin : goal.returns-clause-byte_at_the_begin
unfolding digits
returns-clause-byte_at_the_begin c = walk_refuses _ _ _ _ refl

pub returns-clause-unknown_sign : goal.returns-clause-unknown_sign
unfolding digits
returns-clause-unknown_sign c = walk_refuses _ _ _ _ refl

pub returns-clause-one_equals_sign : goal.returns-clause-one_equals_sign
unfolding digits
returns-clause-one_equals_sign c = walk_refuses _ _ _ _ refl

pub returns-clause-nothing : goal.returns-clause-nothing
unfolding digits
returns-clause-nothing c = walk_refuses _ _ _ _ refl

pub returns-clause-width_before_one_equals_sign : goal.returns-clause-width_before_one_equals_sign
unfolding digits
returns-clause-width_before_one_equals_sign c = walk_refuses _ _ _ _ refl

pub returns-clause-width_of_first : goal.returns-clause-width_of_first
unfolding digits
returns-clause-width_of_first c = walk_refuses _ _ _ _ refl

pub returns-clause-width_of_second : goal.returns-clause-width_of_second
unfolding digits
returns-clause-width_of_second c = walk_refuses _ _ _ _ refl

pub returns-clause-width_of_sum : goal.returns-clause-width_of_sum
unfolding digits
returns-clause-width_of_sum c = walk_refuses _ _ _ _ refl

pub returns-clause-width_of_test : goal.returns-clause-width_of_test
unfolding digits
returns-clause-width_of_test c = walk_refuses _ _ _ _ refl

pub returns-clause-any_on_wide_net : goal.returns-clause-any_on_wide_net
unfolding digits
returns-clause-any_on_wide_net c = walk_refuses _ _ _ _ refl

pub returns-clause-width_of_memory : goal.returns-clause-width_of_memory
unfolding digits
returns-clause-width_of_memory c = walk_refuses _ _ _ _ refl

pub returns-clause-number_of_65_digits : goal.returns-clause-number_of_65_digits
unfolding digits
returns-clause-number_of_65_digits c = walk_refuses _ _ _ _ refl

pub returns-clause-width_of_address : goal.returns-clause-width_of_address
unfolding digits
returns-clause-width_of_address c = walk_refuses _ _ _ _ refl

pub returns-clause-width_of_constant : goal.returns-clause-width_of_constant
unfolding digits
returns-clause-width_of_constant c = walk_refuses _ _ _ _ refl

pub returns-clause-leading_zero : goal.returns-clause-leading_zero
unfolding digits
returns-clause-leading_zero c = walk_refuses _ _ _ _ refl

pub returns-clause-name_for_operand : goal.returns-clause-name_for_operand
unfolding digits
returns-clause-name_for_operand c = walk_refuses _ _ _ _ refl

pub returns-clause-upper_case_digits : goal.returns-clause-upper_case_digits
unfolding digits
returns-clause-upper_case_digits c = walk_refuses _ _ _ _ refl

pub returns-clause-large_constant : goal.returns-clause-large_constant
unfolding digits
returns-clause-large_constant c = walk_refuses _ _ _ _ refl

pub returns-clause-end_at_operand : goal.returns-clause-end_at_operand
unfolding digits
returns-clause-end_at_operand c = walk_refuses _ _ _ _ refl

pub returns-clause-own_number : goal.returns-clause-own_number
unfolding digits
returns-clause-own_number c = walk_refuses _ _ _ _ refl

pub returns-clause-missing_memory : goal.returns-clause-missing_memory
unfolding digits
returns-clause-missing_memory c = walk_refuses _ _ _ _ refl

pub returns-clause-high_bound : goal.returns-clause-high_bound
unfolding digits
returns-clause-high_bound c = walk_refuses _ _ _ _ refl

pub returns-clause-length_of_slice : goal.returns-clause-length_of_slice
unfolding digits
returns-clause-length_of_slice c = walk_refuses _ _ _ _ refl
