use Rattle.verilog_forms.proofs.WholeReads.{module_read}
use Rattle.verilog_forms.proofs.WholeSound.{module_sound}
use Rattle.verilog_forms.proofs.laws.reads_whole_texts.Goals as goal

pub returns-clause-read : goal.returns-clause-read
returns-clause-read c = module_read

pub returns-clause-sound : goal.returns-clause-sound
returns-clause-sound c = module_sound
