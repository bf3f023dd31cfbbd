use Rattle.verilog_forms.proofs.TooMany.{crowded_met, crowded_sound}
use Rattle.verilog_forms.proofs.laws.too_many_nets.Goals as goal

pub returns-clause-met : goal.returns-clause-met
returns-clause-met c = crowded_met

pub returns-clause-sound : goal.returns-clause-sound
returns-clause-sound c = crowded_sound
