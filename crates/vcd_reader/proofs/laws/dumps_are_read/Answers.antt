use Rattle.std.proofs.Common.{refl}
use Rattle.std.specs.Fmt.{digits}
use Rattle.vcd_reader.specs.Found.{hole}
use Rattle.vcd_reader.proofs.laws.dumps_are_read.Goals as goal

pub returns-clause-inverter : goal.returns-clause-inverter
unfolding hole digits
returns-clause-inverter c = refl

pub returns-clause-counter : goal.returns-clause-counter
unfolding hole digits
returns-clause-counter c = refl

pub returns-clause-portless : goal.returns-clause-portless
unfolding hole digits
returns-clause-portless c = refl

pub returns-clause-both_change : goal.returns-clause-both_change
unfolding hole digits
returns-clause-both_change c = refl
