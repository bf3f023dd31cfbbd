use Rattle.std.proofs.Common.{refl, arith}
use Rattle.drawn_scenarios.specs.Draws.{draw, word_behind}
use Rattle.drawn_scenarios.proofs.rows.first_words.Goals as goal

pub returns-clause-low : goal.returns-clause-low
unfolding draw word_behind
returns-clause-low c = refl

pub returns-clause-high : goal.returns-clause-high
unfolding draw word_behind
returns-clause-high c = refl

pub returns-clause-turned : goal.returns-clause-turned
unfolding draw word_behind
returns-clause-turned c = λ e. absurd (omega arith)
