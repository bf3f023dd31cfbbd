use Rattle.std.proofs.Common.{refl, arith}
use Rattle.drawn_scenarios.specs.Draws.{draw, repeated}
use Rattle.drawn_scenarios.proofs.rows.first_numbers.Goals as goal

pub returns-clause-zero : goal.returns-clause-zero
unfolding draw repeated
returns-clause-zero c = refl

pub returns-clause-one : goal.returns-clause-one
unfolding draw repeated
returns-clause-one c = refl

pub returns-clause-greatest : goal.returns-clause-greatest
unfolding draw repeated
returns-clause-greatest c = refl

pub returns-clause-goes_on : goal.returns-clause-goes_on
unfolding draw
returns-clause-goes_on c = λ e. absurd (omega arith)
