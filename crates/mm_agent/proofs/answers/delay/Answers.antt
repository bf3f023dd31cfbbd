use Rattle.std.proofs.Common.{arith}
use Rattle.net_parts.specs.Laws.{waiting_within, net_lasts, grows_fewer, grows_twice}
use Rattle.net_parts.specs.Refusing.{handed_on}
use Rattle.mm_agent.proofs.answers.delay.Goals as goal

pub returns-clause-still_wait : goal.returns-clause-still_wait
returns-clause-still_wait c n w =
    let within = waiting_within _ n w in
    let number = c.in_ok-late.ensures.number in
    c.take_next.ensures.still_wait n (λ e. omega (arith, within, number, e)) (c.low_register.ensures.still_wait n w)

pub returns-in_err-late-clause-grows : goal.returns-in_err-late-clause-grows
returns-in_err-late-clause-grows c = grows_fewer _ _ _ _ (omega arith) c.low_register.ensures.grows

pub returns-in_err-late-clause-still_wait : goal.returns-in_err-late-clause-still_wait
returns-in_err-late-clause-still_wait c n w = c.low_register.ensures.still_wait n w

pub returns-in_err-late-clause-full : goal.returns-in_err-late-clause-full
returns-in_err-late-clause-full c e = let full = c.low_register.ensures.full (handed_on _ _ _ _ c.in_err-late.was c.from_residual.ensures.1 e) in omega (arith, full)

pub returns-clause-grows : goal.returns-clause-grows
returns-clause-grows c = grows_fewer _ _ _ _ (omega arith) (grows_twice _ _ _ _ _ c.low_register.ensures.grows c.take_next.ensures.grows)

pub returns-clause-full : goal.returns-clause-full
returns-clause-full c e = cc

pub returns-clause-net : goal.returns-clause-net
returns-clause-net c = net_lasts _ _ _ _ c.take_next.ensures.grows.extends c.in_ok-late.ensures.net

pub take_next-requires-clause-register : goal.take_next-requires-clause-register
take_next-requires-clause-register c = c.in_ok-late.ensures.net.is_net

pub take_next-requires-clause-waits : goal.take_next-requires-clause-waits
take_next-requires-clause-waits c = c.in_ok-late.ensures.waits
