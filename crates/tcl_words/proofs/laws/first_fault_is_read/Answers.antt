use Rattle.tcl_words.proofs.EncodingFlaws.{fault_stands, fault_read}
use Rattle.tcl_words.proofs.laws.first_fault_is_read.Goals as goal

pub returns-clause-stands : goal.returns-clause-stands
returns-clause-stands c = fault_stands

pub returns-clause-read : goal.returns-clause-read
returns-clause-read c = fault_read
