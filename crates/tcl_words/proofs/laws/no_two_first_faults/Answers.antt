use Rattle.tcl_words.proofs.EncodingFlaws.{one_fault}
use Rattle.tcl_words.proofs.laws.no_two_first_faults.Goals as goal

pub returns : goal.returns
returns c = one_fault
