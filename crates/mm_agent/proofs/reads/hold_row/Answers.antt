use Rattle.std.proofs.Common.{arith}
use Rattle.net_parts.specs.Laws.{net_lasts, grows_fewer}
use Rattle.net_parts.specs.Refusing.{handed_on}
use Rattle.mm_agent.proofs.reads.hold_row.Goals as goal

pub returns-in_err-row-clause-grows : goal.returns-in_err-row-clause-grows
returns-in_err-row-clause-grows c = grows_fewer _ _ _ _ (omega arith) c.register.ensures.grows

pub returns-in_err-row-clause-still_wait : goal.returns-in_err-row-clause-still_wait
returns-in_err-row-clause-still_wait c n w = c.register.ensures.still_wait n w

pub returns-in_err-row-clause-full : goal.returns-in_err-row-clause-full
returns-in_err-row-clause-full c e = let full = c.register.ensures.full (handed_on _ _ _ _ c.in_err-row.was c.from_residual.ensures.1 e) in omega (arith, full)

pub returns-clause-grows : goal.returns-clause-grows
returns-clause-grows c = grows_fewer _ _ _ _ (omega arith) c.register.ensures.grows

pub returns-clause-still_wait : goal.returns-clause-still_wait
returns-clause-still_wait c n w = c.register.ensures.still_wait n w

pub returns-clause-full : goal.returns-clause-full
returns-clause-full c e = cc

pub returns-clause-shown : goal.returns-clause-shown
returns-clause-shown c = net_lasts _ _ _ _ c.register.ensures.grows.extends c.requires.read
