use Rattle.net_parts.specs.Laws.{grows_fewer, grows_none}
use Rattle.std.proofs.Common.{arith, sym, subst, refl}
use Rattle.mm_host.specs.Writes.{owns_writes}
use Rattle.mm_host.proofs.writes.finish_writes.Goals as goal

pub returns-in-None-clause-grows : goal.returns-in-None-clause-grows
returns-in-None-clause-grows c = grows_fewer _ _ _ _ (omega arith) (grows_none _)

pub returns-in-Some-clause-grows : goal.returns-in-Some-clause-grows
returns-in-Some-clause-grows c = c.finish_left.ensures.grows

pub returns-in-Some-clause-full : goal.returns-in-Some-clause-full
returns-in-Some-clause-full c = c.finish_left.ensures.full

pub finish_left-requires-clause-waits : goal.finish_left-requires-clause-waits
finish_left-requires-clause-waits c = c.requires.waits _ (subst (λ held. owns_writes held c.in-Some.held.left.number) (sym c.in-Some.is) refl)
