use Rattle.verilog_forms.proofs.WireLines.{wire_read, wire_sound, module_wire}
use Rattle.verilog_forms.proofs.laws.wire_lines.Goals as goal

pub returns-clause-read : goal.returns-clause-read
returns-clause-read c = wire_read

pub returns-clause-sound : goal.returns-clause-sound
returns-clause-sound c = wire_sound

pub returns-clause-of_modules : goal.returns-clause-of_modules
returns-clause-of_modules c one is n line rest at = module_wire one n line rest is at
