use Rattle.std.proofs.Common.{arith, refl}
use Rattle.runs_tests.proofs.memory.packed.Goals as goal

pub returns-clause-wrong : goal.returns-clause-wrong
returns-clause-wrong c = λ packed. let bad = packed 8 0 1 (omega arith) refl refl in omega (arith, bad)

pub returns-clause-twice : goal.returns-clause-twice
returns-clause-twice c = λ packed. let bad = packed 2 0 1 (omega arith) refl refl in omega (arith, bad)
