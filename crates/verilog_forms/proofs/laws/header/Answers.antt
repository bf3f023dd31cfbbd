use Rattle.verilog_forms.proofs.PortLines.{header_read, header_sound}
use Rattle.verilog_forms.proofs.laws.header.Goals as goal

pub returns-clause-read : goal.returns-clause-read
returns-clause-read c = header_read

pub returns-clause-sound : goal.returns-clause-sound
returns-clause-sound c = header_sound
