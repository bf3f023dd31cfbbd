use Rattle.std.proofs.Common.{ℕ, List, [], ◌∷◌, ◌≡◌, arith, refl, ap}
use Rattle.memory_runs.specs.Operations.{Beat}
use Rattle.memory_machines.specs.Link.{Marked}
use Rattle.runs_tests.proofs.memory.links.pipes.Goals as goal

abbrev word_of : List Beat → ℕ
word_of [] = 0
word_of (b ∷ later) = b.word

abbrev first_word : List Marked → ℕ
first_word [] = 0
first_word (m ∷ later) = word_of m.transfer.beats

pub returns-clause-early : goal.returns-clause-early
returns-clause-early c = refl

pub returns-clause-first : goal.returns-clause-first
returns-clause-first c = refl

pub returns-clause-stands : goal.returns-clause-stands
returns-clause-stands c = refl

pub returns-clause-second : goal.returns-clause-second
returns-clause-second c = refl

pub returns-clause-none_yet : goal.returns-clause-none_yet
returns-clause-none_yet c = refl

pub returns-clause-answered : goal.returns-clause-answered
returns-clause-answered c = refl

pub returns-clause-newer : goal.returns-clause-newer
returns-clause-newer c = λ carries. (let same : 0xbb ≡ 0xaa = ap first_word (carries.shown 3 (omega arith)).joins in absurd (omega (arith, same)))

pub returns-clause-at_once : goal.returns-clause-at_once
returns-clause-at_once c = λ delayed. (let same = delayed 0 2 (omega arith) (omega arith) in cc)
