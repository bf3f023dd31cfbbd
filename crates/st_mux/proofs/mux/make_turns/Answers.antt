use Rattle.std.proofs.Common.{arith}
use Rattle.net_parts.specs.Laws.{grows_twice, grows_fewer}
use Rattle.st_mux.proofs.mux.make_turns.Goals as goal

pub returns-in_err-locked-clause-grows : goal.returns-in_err-locked-clause-grows
returns-in_err-locked-clause-grows c = grows_fewer _ _ _ _ (omega arith) (grows_twice _ _ _ _ _ c.register.ensures.grows c.register-2.ensures.grows)

pub returns-clause-grows : goal.returns-clause-grows
returns-clause-grows c = grows_fewer _ _ _ _ (omega arith) (grows_twice _ _ _ _ _ c.register.ensures.grows c.register-2.ensures.grows)
