use Rattle.verilog_forms.proofs.ClockedLines.{assign_read, assign_sound}
use Rattle.verilog_forms.proofs.laws.assign_lines.Goals as goal

pub returns-clause-read : goal.returns-clause-read
returns-clause-read c = assign_read

pub returns-clause-sound : goal.returns-clause-sound
returns-clause-sound c = assign_sound
