use Rattle.std.proofs.Common.{arith}
use Rattle.std.proofs.Math.Nat.{not-suc-le-zero}
use Rattle.runs_tests.proofs.memory.links.wires.Goals as goal

pub returns-clause-hides : goal.returns-clause-hides
returns-clause-hides c = λ carries. not-suc-le-zero (carries.held 1 (omega arith))

pub returns-clause-doubles : goal.returns-clause-doubles
returns-clause-doubles c = λ carries. (let joins = (carries.in_order 2 (omega arith)).joins in cc)
