use Rattle.std.proofs.Common.{◌≡◌, arith, refl, ap}
use Rattle.memory_links.specs.Selects.{first_of}
use Rattle.runs_tests.specs.LinkRuns.{empty_writes}
use Rattle.runs_tests.proofs.memory.Swallows.{splitter_swallows}
use Rattle.std.proofs.Math.Nat.{not-suc-le-zero}
use Rattle.runs_tests.proofs.memory.links.splitters.Goals as goal

pub returns-clause-asked : goal.returns-clause-asked
returns-clause-asked c = refl

pub returns-clause-waits : goal.returns-clause-waits
returns-clause-waits c = refl

pub returns-clause-words : goal.returns-clause-words
returns-clause-words c = refl

pub returns-clause-early : goal.returns-clause-early
returns-clause-early c = λ carries. not-suc-le-zero (carries.held 1 (omega arith))

pub returns-clause-swapped : goal.returns-clause-swapped
returns-clause-swapped c = λ back. (let same : 0xbb ≡ 0xcc = ap first_of (back.bytes 3 (omega arith)).joins in absurd (omega (arith, same)))

pub returns-clause-swallows : goal.returns-clause-swallows
returns-clause-swallows c = splitter_swallows (c.split_runs.ensures empty_writes)
