use Rattle.std.specs.Fmt.{digits}
use Rattle.std.proofs.Common.{refl}
use Rattle.vcd_text.specs.Text.{code}
use Rattle.vcd_text.proofs.laws.dumps_are_spelled.Goals as goal

pub returns-clause-inverter : goal.returns-clause-inverter
unfolding code digits
returns-clause-inverter c = refl

pub returns-clause-counter : goal.returns-clause-counter
unfolding code digits
returns-clause-counter c = refl

pub returns-clause-portless : goal.returns-clause-portless
unfolding code digits
returns-clause-portless c = refl
