use Rattle.std.proofs.Common.{arith}
use Rattle.net_parts.specs.Laws.{grows_twice, grows_fewer}
use Rattle.command_nets.proofs.makers.delay_answer.Goals as goal

pub returns-in_err-word-clause-grows : goal.returns-in_err-word-clause-grows
returns-in_err-word-clause-grows c = grows_fewer _ _ _ _ (omega arith) (grows_twice _ _ _ _ _ c.delay.ensures.grows c.delay-2.ensures.grows)

pub returns-in_err-code-clause-grows : goal.returns-in_err-code-clause-grows
returns-in_err-code-clause-grows c = grows_twice _ _ _ _ _ (grows_twice _ _ _ _ _ c.delay.ensures.grows c.delay-2.ensures.grows) c.delay-3.ensures.grows

pub returns-clause-grows : goal.returns-clause-grows
returns-clause-grows c = grows_twice _ _ _ _ _ (grows_twice _ _ _ _ _ c.delay.ensures.grows c.delay-2.ensures.grows) c.delay-3.ensures.grows
