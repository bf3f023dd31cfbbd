use Rattle.verilog_forms.proofs.InputLines.{input_read, input_sound}
use Rattle.verilog_forms.proofs.laws.input_lines.Goals as goal

pub returns-clause-read : goal.returns-clause-read
returns-clause-read c = input_read

pub returns-clause-sound : goal.returns-clause-sound
returns-clause-sound c = input_sound
