use Rattle.std.proofs.Common.{arith}
use Rattle.runs_tests.proofs.memory.empty_write_takes_a_turn.Goals as goal

pub returns-clause-broken : goal.returns-clause-broken
returns-clause-broken c = λ full. let bad = (full 2 (omega arith) (omega arith)).0 in omega (arith, bad)
