use Rattle.std.proofs.Common.{◌≡◌, ◌-◌, ◌^◌, ◌<◌, sym, subst, ◌∙◌, ap, nat_lt, if◌then◌else◌, not, arith}
use Rattle.net_parts.specs.Laws.{extends_twice, net_lasts, adds_twice, adds_grow, grows_fewer, grows_twice}
use Rattle.mm_agent.proofs.Levels.{full_bit}
use Rattle.net_parts.specs.Refusing.{handed_on}
use Rattle.mm_agent.proofs.reads.hold_count.Goals as goal

pub returns-clause-held : goal.returns-clause-held
returns-clause-held c =
    let more = c.unless.ensures.adds.grows.extends in
    let all = extends_twice _ _ _ c.is_above.ensures.adds.grows.extends more in
    let net = c.in_ok-unanswered.ensures.net in
    let bound = c.bound_on.ensures.bound in
    let most : c.most_before_another.result ≡ c.bound_on.result - 1 = omega (arith, c.most_before_another.ensures, bound) in
    record {
      reads = c.requires.reads;
      kind = c.requires.kind;
      net = all.nets _ _ net.is_net;
      wide = subst (λ k. k < 2 ^ c.in_ok-unanswered.unanswered.width) bound (subst (λ k. c.bound_on.result < 2 ^ k) (sym net.has_width) c.bits_to-bits.ensures.fits);
      bit = net_lasts _ _ _ _ more c.in_ok-full.ensures.net;
      starts = λ run cycles r. c.in_ok-unanswered.ensures.starts run cycles (all.runs run cycles r);
      is_full = λ cycle v.
          full_bit _ c.bound_on.result _ c.bound_on.ensures.some (c.in_ok-full.ensures.value cycle (more.valuations cycle v) ∙ ap (λ k. if nat_lt k (cycle.net c.in_ok-unanswered.unanswered.number) then 1 else 0) most)
          ∙ ap (λ k. not (nat_lt (cycle.net c.in_ok-unanswered.unanswered.number) k)) bound;
      shows = c.in_ok-shown.ensures.value;
    }

pub returns-in_err-unanswered-clause-grows : goal.returns-in_err-unanswered-clause-grows
returns-in_err-unanswered-clause-grows c = grows_fewer _ _ _ _ (omega arith) c.register.ensures.grows

pub returns-in_err-unanswered-clause-still_wait : goal.returns-in_err-unanswered-clause-still_wait
returns-in_err-unanswered-clause-still_wait c n w = c.register.ensures.still_wait n w

pub returns-in_err-unanswered-clause-full : goal.returns-in_err-unanswered-clause-full
returns-in_err-unanswered-clause-full c e = let full = c.register.ensures.full (handed_on _ _ _ _ c.in_err-unanswered.was c.from_residual.ensures.1 e) in omega (arith, full)

pub returns-in_err-full-clause-grows : goal.returns-in_err-full-clause-grows
returns-in_err-full-clause-grows c = grows_fewer _ _ _ _ (omega arith) (grows_twice _ _ _ _ _ c.register.ensures.grows (adds_grow _ _ _ c.is_above.ensures.adds))

pub returns-in_err-full-clause-still_wait : goal.returns-in_err-full-clause-still_wait
returns-in_err-full-clause-still_wait c n w = c.is_above.ensures.adds.grows.waits n (c.register.ensures.still_wait n w)

pub returns-in_err-full-clause-full : goal.returns-in_err-full-clause-full
returns-in_err-full-clause-full c e =
    let most0 = c.register.ensures.grows.most in
    let full = c.is_above.ensures.full (handed_on _ _ _ _ c.in_err-full.was c.from_residual-in_err-full.ensures.1 e) in
    omega (arith, most0, full)

pub returns-in_err-shown-clause-grows : goal.returns-in_err-shown-clause-grows
returns-in_err-shown-clause-grows c = grows_fewer _ _ _ _ (omega arith) (grows_twice _ _ _ _ _ c.register.ensures.grows (adds_grow _ _ _ (adds_twice _ _ _ _ _ c.is_above.ensures.adds c.unless.ensures.adds)))

pub returns-in_err-shown-clause-still_wait : goal.returns-in_err-shown-clause-still_wait
returns-in_err-shown-clause-still_wait c n w = c.unless.ensures.adds.grows.waits n (c.is_above.ensures.adds.grows.waits n (c.register.ensures.still_wait n w))

pub returns-in_err-shown-clause-full : goal.returns-in_err-shown-clause-full
returns-in_err-shown-clause-full c e =
    let most0 = c.register.ensures.grows.most in
    let most1 = c.is_above.ensures.adds.most in
    let full = c.unless.ensures.full (handed_on _ _ _ _ c.in_err-shown.was c.from_residual-in_err-shown.ensures.1 e) in
    omega (arith, most0, most1, full)

pub returns-clause-grows : goal.returns-clause-grows
returns-clause-grows c = grows_fewer _ _ _ _ (omega arith) (grows_twice _ _ _ _ _ c.register.ensures.grows (adds_grow _ _ _ (adds_twice _ _ _ _ _ c.is_above.ensures.adds c.unless.ensures.adds)))

pub returns-clause-still_wait : goal.returns-clause-still_wait
returns-clause-still_wait c n w = c.unless.ensures.adds.grows.waits n (c.is_above.ensures.adds.grows.waits n (c.register.ensures.still_wait n w))

pub returns-clause-full : goal.returns-clause-full
returns-clause-full c e = cc

pub returns-clause-shown : goal.returns-clause-shown
returns-clause-shown c = c.in_ok-shown.ensures.net

pub is_above-requires-clause-net : goal.is_above-requires-clause-net
is_above-requires-clause-net c = c.in_ok-unanswered.ensures.net

pub unless-requires-clause-a : goal.unless-requires-clause-a
unless-requires-clause-a c = net_lasts _ _ _ _ (extends_twice _ _ _ c.register.ensures.grows.extends c.is_above.ensures.adds.grows.extends) c.requires.read

pub unless-requires-clause-b : goal.unless-requires-clause-b
unless-requires-clause-b c = c.in_ok-full.ensures.net
