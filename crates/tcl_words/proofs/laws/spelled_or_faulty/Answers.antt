use Rattle.tcl_words.proofs.ScriptLaws.{spelled_or_not, spelled_has_no_fault}
use Rattle.tcl_words.proofs.laws.spelled_or_faulty.Goals as goal

pub returns-clause-either : goal.returns-clause-either
returns-clause-either c = spelled_or_not

pub returns-clause-never_both : goal.returns-clause-never_both
returns-clause-never_both c = spelled_has_no_fault
