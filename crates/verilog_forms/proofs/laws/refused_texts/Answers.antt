use Rattle.std.proofs.Common.{refl}
use Rattle.std.specs.Fmt.{digits}
use Rattle.verilog_forms.specs.WalkLaws.{walk_refuses}
use Rattle.verilog_forms.proofs.laws.refused_texts.Goals as goal

pub returns-clause-cut_in_the_header : goal.returns-clause-cut_in_the_header
unfolding digits
returns-clause-cut_in_the_header c = walk_refuses _ _ _ _ refl

pub returns-clause-no_last_line_feed : goal.returns-clause-no_last_line_feed
unfolding digits
returns-clause-no_last_line_feed c = walk_refuses _ _ _ _ refl

pub returns-clause-no_suffix : goal.returns-clause-no_suffix
unfolding digits
returns-clause-no_suffix c = walk_refuses _ _ _ _ refl

pub returns-clause-repeated_port : goal.returns-clause-repeated_port
unfolding digits
returns-clause-repeated_port c = walk_refuses _ _ _ _ refl

pub returns-clause-port_without_dollar : goal.returns-clause-port_without_dollar
unfolding digits
returns-clause-port_without_dollar c = walk_refuses _ _ _ _ refl

pub returns-clause-register_for_an_input : goal.returns-clause-register_for_an_input
unfolding digits
returns-clause-register_for_an_input c = walk_refuses _ _ _ _ refl

pub returns-clause-another_port_than_the_next : goal.returns-clause-another_port_than_the_next
unfolding digits
returns-clause-another_port_than_the_next c = walk_refuses _ _ _ _ refl

pub returns-clause-width_of_an_input : goal.returns-clause-width_of_an_input
unfolding digits
returns-clause-width_of_an_input c = walk_refuses _ _ _ _ refl

pub returns-clause-clocked_line_for_an_input : goal.returns-clause-clocked_line_for_an_input
unfolding digits
returns-clause-clocked_line_for_an_input c = walk_refuses _ _ _ _ refl

pub returns-clause-input_left_out : goal.returns-clause-input_left_out
unfolding digits
returns-clause-input_left_out c = walk_refuses _ _ _ _ refl

pub returns-clause-net_number_left_out : goal.returns-clause-net_number_left_out
unfolding digits
returns-clause-net_number_left_out c = walk_refuses _ _ _ _ refl

pub returns-clause-later_operand : goal.returns-clause-later_operand
unfolding digits
returns-clause-later_operand c = walk_refuses _ _ _ _ refl

pub returns-clause-slice_above_the_net : goal.returns-clause-slice_above_the_net
unfolding digits
returns-clause-slice_above_the_net c = walk_refuses _ _ _ _ refl

pub returns-clause-six_words : goal.returns-clause-six_words
unfolding digits
returns-clause-six_words c = walk_refuses _ _ _ _ refl

pub returns-clause-memory_behind_a_net : goal.returns-clause-memory_behind_a_net
unfolding digits
returns-clause-memory_behind_a_net c = walk_refuses _ _ _ _ refl

pub returns-clause-register_not_clocked : goal.returns-clause-register_not_clocked
unfolding digits
returns-clause-register_not_clocked c = walk_refuses _ _ _ _ refl

pub returns-clause-another_register : goal.returns-clause-another_register
unfolding digits
returns-clause-another_register c = walk_refuses _ _ _ _ refl

pub returns-clause-clocked_twice : goal.returns-clause-clocked_twice
unfolding digits
returns-clause-clocked_twice c = walk_refuses _ _ _ _ refl

pub returns-clause-missing_clocked_net : goal.returns-clause-missing_clocked_net
unfolding digits
returns-clause-missing_clocked_net c = walk_refuses _ _ _ _ refl

pub returns-clause-write_of_no_memory : goal.returns-clause-write_of_no_memory
unfolding digits
returns-clause-write_of_no_memory c = walk_refuses _ _ _ _ refl

pub returns-clause-assign_before_clocked : goal.returns-clause-assign_before_clocked
unfolding digits
returns-clause-assign_before_clocked c = walk_refuses _ _ _ _ refl

pub returns-clause-assign_of_an_input : goal.returns-clause-assign_of_an_input
unfolding digits
returns-clause-assign_of_an_input c = walk_refuses _ _ _ _ refl

pub returns-clause-second_assign : goal.returns-clause-second_assign
unfolding digits
returns-clause-second_assign c = walk_refuses _ _ _ _ refl

pub returns-clause-width_of_an_output : goal.returns-clause-width_of_an_output
unfolding digits
returns-clause-width_of_an_output c = walk_refuses _ _ _ _ refl

pub returns-clause-clocked_line_behind_an_assign : goal.returns-clause-clocked_line_behind_an_assign
unfolding digits
returns-clause-clocked_line_behind_an_assign c = walk_refuses _ _ _ _ refl

pub returns-clause-byte_behind_the_end : goal.returns-clause-byte_behind_the_end
unfolding digits
returns-clause-byte_behind_the_end c = walk_refuses _ _ _ _ refl
