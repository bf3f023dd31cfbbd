use Rattle.verilog_forms.proofs.RightReads.{right_read, stands_here}
use Rattle.verilog_forms.proofs.RightSound.{right_sound}
use Rattle.verilog_forms.proofs.laws.right_sides.Goals as goal

pub returns-clause-read : goal.returns-clause-read
returns-clause-read c ports memories lines n w e rest here right = right_read ports memories lines n w e rest here right.sound right.no_input right.no_register

pub returns-clause-sound : goal.returns-clause-sound
returns-clause-sound c ports memories lines n w e text rest here r = right_sound ports memories lines n w e text rest here r

pub returns-clause-of_modules : goal.returns-clause-of_modules
returns-clause-of_modules c one is n line rest at = right_read one.ports one.memories one.lines n line.width line.equation rest (stands_here one n line is.well_made at) (is.well_made.lines n line at).equation
