use Rattle.std.proofs.Common.{◌≤◌, arith, refl}
use Rattle.std.proofs.Math.Nat.{not-suc-le-zero}
use Rattle.runs_tests.proofs.memory.links.cuts.Goals as goal

pub returns-clause-places : goal.returns-clause-places
returns-clause-places c = refl

pub returns-clause-sizes : goal.returns-clause-sizes
returns-clause-sizes c = refl

pub returns-clause-joined : goal.returns-clause-joined
returns-clause-joined c = refl

pub returns-clause-accepts : goal.returns-clause-accepts
returns-clause-accepts c = refl

pub returns-clause-waits : goal.returns-clause-waits
returns-clause-waits c = refl

pub returns-clause-loose : goal.returns-clause-loose
returns-clause-loose c = λ carries. (let joins = (carries.in_order 2 (omega arith)).joins in cc)

pub returns-clause-long : goal.returns-clause-long
returns-clause-long c = λ legal. (let few : 4 ≤ 2 = legal.legal.most 0 (omega arith) refl refl in omega (arith, few))

pub returns-clause-near : goal.returns-clause-near
returns-clause-near c = λ carries. (let joins = (carries.in_order 2 (omega arith)).joins in cc)

pub returns-clause-late : goal.returns-clause-late
returns-clause-late c = λ back. not-suc-le-zero (back.owed 1 (omega arith))

pub returns-clause-behind : goal.returns-clause-behind
returns-clause-behind c = λ straight. (let same = (straight.shown 1 (omega arith) refl refl refl).1 in cc)
