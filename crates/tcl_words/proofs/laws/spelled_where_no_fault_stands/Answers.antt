use Rattle.tcl_words.proofs.EncodingFlaws.{spelled_without_fault, spelled_is_faultless}
use Rattle.tcl_words.proofs.laws.spelled_where_no_fault_stands.Goals as goal

pub returns-clause-spelled : goal.returns-clause-spelled
returns-clause-spelled c = spelled_without_fault

pub returns-clause-no_fault : goal.returns-clause-no_fault
returns-clause-no_fault c = spelled_is_faultless
