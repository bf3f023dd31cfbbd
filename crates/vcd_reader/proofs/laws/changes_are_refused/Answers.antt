use Rattle.std.proofs.Common.{refl}
use Rattle.std.specs.Fmt.{digits}
use Rattle.vcd_reader.specs.Found.{hole}
use Rattle.vcd_reader.proofs.laws.changes_are_refused.Goals as goal

pub returns-clause-no_time : goal.returns-clause-no_time
unfolding hole digits
returns-clause-no_time c = refl

pub returns-clause-time_not_later : goal.returns-clause-time_not_later
unfolding hole digits
returns-clause-time_not_later c = refl

pub returns-clause-leading_zero_in_a_time : goal.returns-clause-leading_zero_in_a_time
unfolding hole digits
returns-clause-leading_zero_in_a_time c = refl

pub returns-clause-time_too_large : goal.returns-clause-time_too_large
unfolding hole digits
returns-clause-time_too_large c = refl

pub returns-clause-no_line_behind_a_change : goal.returns-clause-no_line_behind_a_change
unfolding hole digits
returns-clause-no_line_behind_a_change c = refl

pub returns-clause-value_unchanged : goal.returns-clause-value_unchanged
unfolding hole digits
returns-clause-value_unchanged c = refl

pub returns-clause-leading_zero_in_a_value : goal.returns-clause-leading_zero_in_a_value
unfolding hole digits
returns-clause-leading_zero_in_a_value c = refl

pub returns-clause-value_too_wide : goal.returns-clause-value_too_wide
unfolding hole digits
returns-clause-value_too_wide c = refl

pub returns-clause-bit_for_a_wider_port : goal.returns-clause-bit_for_a_wider_port
unfolding hole digits
returns-clause-bit_for_a_wider_port c = refl

pub returns-clause-digits_for_a_port_of_one_bit : goal.returns-clause-digits_for_a_port_of_one_bit
unfolding hole digits
returns-clause-digits_for_a_port_of_one_bit c = refl

pub returns-clause-code_of_no_port : goal.returns-clause-code_of_no_port
unfolding hole digits
returns-clause-code_of_no_port c = refl

pub returns-clause-earlier_port : goal.returns-clause-earlier_port
unfolding hole digits
returns-clause-earlier_port c = refl

pub returns-clause-code_before_value : goal.returns-clause-code_before_value
unfolding hole digits
returns-clause-code_before_value c = refl

pub returns-clause-no_blank_before_value : goal.returns-clause-no_blank_before_value
unfolding hole digits
returns-clause-no_blank_before_value c = refl

pub returns-clause-no_line_feed_before_value : goal.returns-clause-no_line_feed_before_value
unfolding hole digits
returns-clause-no_line_feed_before_value c = refl

pub returns-clause-time_line_where_a_value_is_due : goal.returns-clause-time_line_where_a_value_is_due
unfolding hole digits
returns-clause-time_line_where_a_value_is_due c = refl
