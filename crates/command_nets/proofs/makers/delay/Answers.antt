use Rattle.std.proofs.Common.{◌∙◌, arith}
use Rattle.net_parts.specs.Laws.{extends_twice, waiting_within}
use Rattle.command_nets.proofs.makers.delay.Goals as goal

pub returns-clause-grows : goal.returns-clause-grows
returns-clause-grows c = record {
  extends = extends_twice _ _ _ c.low_register.ensures.grows.extends c.set_next.ensures.extends;
  most = (let more = c.low_register.ensures.grows.most in let same = c.set_next.ensures.same_count in omega arith);
  drivers = c.set_next.ensures.drivers ∙ c.low_register.ensures.grows.drivers;
  memories = c.set_next.ensures.memories ∙ c.low_register.ensures.grows.memories;
}

pub returns-clause-still_wait : goal.returns-clause-still_wait
returns-clause-still_wait c n w =
    let below = waiting_within c.args.builder.now n w in
    let at = c.in_ok-register.ensures.number in
    c.set_next.ensures.still_wait n (λ same. absurd (omega (arith, same))) (c.low_register.ensures.still_wait n w)
