use Rattle.std.proofs.Common.{arith}
use Rattle.net_parts.specs.Laws.{waiting_within}
use Rattle.link_core.proofs.tags.delay_net.Goals as goal

pub returns-clause-waits : goal.returns-clause-waits
returns-clause-waits c n w =
    let within = waiting_within _ n w in
    let number = c.in_ok-late.ensures.number in
    c.take_next.ensures.still_wait n (λ e. omega (arith, within, number, e)) (c.low_register.ensures.still_wait n w)
