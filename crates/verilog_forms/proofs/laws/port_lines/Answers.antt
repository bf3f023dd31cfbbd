use Rattle.verilog_forms.proofs.PortLines.{port_read, port_sound}
use Rattle.verilog_forms.proofs.laws.port_lines.Goals as goal

pub returns-clause-read : goal.returns-clause-read
returns-clause-read c = port_read

pub returns-clause-sound : goal.returns-clause-sound
returns-clause-sound c = port_sound
