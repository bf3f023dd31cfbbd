use Rattle.std.proofs.Common.{arith, refl}
use Rattle.runs_tests.proofs.memory.links.selectors.Goals as goal

pub returns-clause-write : goal.returns-clause-write
returns-clause-write c = refl

pub returns-clause-words : goal.returns-clause-words
returns-clause-words c = refl

pub returns-clause-let_through : goal.returns-clause-let_through
returns-clause-let_through c = refl

pub returns-clause-held_back : goal.returns-clause-held_back
returns-clause-held_back c = refl

pub returns-clause-unmoved : goal.returns-clause-unmoved
returns-clause-unmoved c = λ carries. (let joins = (carries.in_order 1 (omega arith)).joins in cc)

pub returns-clause-uncut : goal.returns-clause-uncut
returns-clause-uncut c = λ back. (let joins = (back.bytes 2 (omega arith)).joins in cc)
