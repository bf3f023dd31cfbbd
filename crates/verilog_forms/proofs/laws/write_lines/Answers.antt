use Rattle.verilog_forms.proofs.ClockedLines.{write_read, write_sound}
use Rattle.verilog_forms.proofs.laws.write_lines.Goals as goal

pub returns-clause-read : goal.returns-clause-read
returns-clause-read c = write_read

pub returns-clause-sound : goal.returns-clause-sound
returns-clause-sound c = write_sound
