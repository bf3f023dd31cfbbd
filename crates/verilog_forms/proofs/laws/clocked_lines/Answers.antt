use Rattle.verilog_forms.proofs.ClockedLines.{clock_read, clock_sound}
use Rattle.verilog_forms.proofs.laws.clocked_lines.Goals as goal

pub returns-clause-read : goal.returns-clause-read
returns-clause-read c = clock_read

pub returns-clause-sound : goal.returns-clause-sound
returns-clause-sound c = clock_sound
