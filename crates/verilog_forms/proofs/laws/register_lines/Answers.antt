use Rattle.verilog_forms.proofs.RegisterLines.{register_read, register_sound, module_register}
use Rattle.verilog_forms.proofs.laws.register_lines.Goals as goal

pub returns-clause-read : goal.returns-clause-read
returns-clause-read c = register_read

pub returns-clause-sound : goal.returns-clause-sound
returns-clause-sound c = register_sound

pub returns-clause-of_modules : goal.returns-clause-of_modules
returns-clause-of_modules c one is n line rest at = module_register one n line rest is at
