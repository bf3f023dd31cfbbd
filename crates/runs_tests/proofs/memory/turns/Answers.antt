use Rattle.std.proofs.Common.{arith}
use Rattle.runs_tests.proofs.memory.turns.Goals as goal

pub returns-clause-wrong : goal.returns-clause-wrong
returns-clause-wrong c = λ full. let bad = (full 2 (omega arith) (omega arith)).0 in omega (arith, bad)
