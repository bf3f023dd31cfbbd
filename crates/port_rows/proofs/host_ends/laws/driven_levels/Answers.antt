use Rattle.std.proofs.Common.{◌≡◌, ◌<◌, lit<, refl, arith}
use Rattle.port_rows.proofs.host_ends.laws.driven_levels.Goals as goal

pub returns-clause-below : goal.returns-clause-below
returns-clause-below c = record { room = λ _. lit< tt; default = λ none. absurd (omega arith) }

pub returns-clause-too_large : goal.returns-clause-too_large
returns-clause-too_large c = λ h. let below : 8 < 8 = h.room (lit< tt) in absurd (omega arith)

pub returns-clause-absent : goal.returns-clause-absent
returns-clause-absent c = record { room = λ some. absurd (omega arith); default = λ _. refl }

pub returns-clause-not_stated : goal.returns-clause-not_stated
returns-clause-not_stated c = λ h. let one : 0 ≡ 1 = h.default refl in absurd (omega arith)
