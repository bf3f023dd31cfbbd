use Rattle.std.proofs.Common.{refl}
use Rattle.std.specs.Fmt.{digits}
use Rattle.verilog_forms.specs.WalkLaws.{walk_refuses}
use Rattle.verilog_forms.proofs.laws.refused_wire_lines.Goals as goal

pub returns-clause-width_above_128 : goal.returns-clause-width_above_128
unfolding digits
returns-clause-width_above_128 c = walk_refuses _ _ _ _ refl

pub returns-clause-leading_zero_in_width : goal.returns-clause-leading_zero_in_width
unfolding digits
returns-clause-leading_zero_in_width c = walk_refuses _ _ _ _ refl

pub returns-clause-no_blank_before_name : goal.returns-clause-no_blank_before_name
unfolding digits
returns-clause-no_blank_before_name c = walk_refuses _ _ _ _ refl

pub returns-clause-another_number : goal.returns-clause-another_number
unfolding digits
returns-clause-another_number c = walk_refuses _ _ _ _ refl

pub returns-clause-own_number_on_the_right : goal.returns-clause-own_number_on_the_right
unfolding digits
returns-clause-own_number_on_the_right c = walk_refuses _ _ _ _ refl

pub returns-clause-no_line_feed : goal.returns-clause-no_line_feed
unfolding digits
returns-clause-no_line_feed c = walk_refuses _ _ _ _ refl
