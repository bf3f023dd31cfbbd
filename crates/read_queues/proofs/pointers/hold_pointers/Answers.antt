use Rattle.std.proofs.Common.{arith, ◌^◌, ◌<◌, ◌≤◌, sym, subst, inl, inr}
use Rattle.net_parts.specs.Laws.{grows_fewer, grows_twice, extends_twice, net_lasts}
use Rattle.net_parts.specs.Refusing.{handed_on}
use Rattle.netlist.specs.Netlists.{IsWaiting}
use Rattle.read_queues.proofs.pointers.hold_pointers.Goals as goal

pub returns-in_err-first-clause-grows : goal.returns-in_err-first-clause-grows
returns-in_err-first-clause-grows c = grows_fewer _ _ _ _ (omega arith) (grows_twice _ _ _ _ _ c.register.ensures.grows c.register-2.ensures.grows)

pub returns-in_err-next-clause-grows : goal.returns-in_err-next-clause-grows
returns-in_err-next-clause-grows c = grows_fewer _ _ _ _ (omega arith) (grows_twice _ _ _ _ _ (grows_twice _ _ _ _ _ c.register.ensures.grows c.register-2.ensures.grows) c.register-3.ensures.grows)

pub returns-clause-grows : goal.returns-clause-grows
returns-clause-grows c = grows_fewer _ _ _ _ (omega arith) (grows_twice _ _ _ _ _ (grows_twice _ _ _ _ _ c.register.ensures.grows c.register-2.ensures.grows) c.register-3.ensures.grows)

pub returns-in_err-unanswered-clause-grows : goal.returns-in_err-unanswered-clause-grows
returns-in_err-unanswered-clause-grows c = grows_fewer _ _ _ _ (omega arith) c.register.ensures.grows

pub returns-in_err-unanswered-clause-still_wait : goal.returns-in_err-unanswered-clause-still_wait
returns-in_err-unanswered-clause-still_wait c n w = c.register.ensures.still_wait n w

pub returns-in_err-unanswered-clause-full : goal.returns-in_err-unanswered-clause-full
returns-in_err-unanswered-clause-full c e = let full = c.register.ensures.full (handed_on _ _ _ _ c.in_err-unanswered.was c.from_residual.ensures.1 e) in omega (arith, full)

pub returns-in_err-first-clause-still_wait : goal.returns-in_err-first-clause-still_wait
returns-in_err-first-clause-still_wait c n w = c.register-2.ensures.still_wait n (c.register.ensures.still_wait n w)

pub returns-in_err-first-clause-full : goal.returns-in_err-first-clause-full
returns-in_err-first-clause-full c e =
    let most0 = c.register.ensures.grows.most in
    let full = c.register-2.ensures.full (handed_on _ _ _ _ c.in_err-first.was c.from_residual-in_err-first.ensures.1 e) in
    omega (arith, most0, full)

pub returns-in_err-next-clause-still_wait : goal.returns-in_err-next-clause-still_wait
returns-in_err-next-clause-still_wait c n w = c.register-3.ensures.still_wait n (c.register-2.ensures.still_wait n (c.register.ensures.still_wait n w))

pub returns-in_err-next-clause-full : goal.returns-in_err-next-clause-full
returns-in_err-next-clause-full c e =
    let most0 = c.register.ensures.grows.most in
    let most1 = c.register-2.ensures.grows.most in
    let full = c.register-3.ensures.full (handed_on _ _ _ _ c.in_err-next.was c.from_residual-in_err-next.ensures.1 e) in
    omega (arith, most0, most1, full)

pub returns-clause-still_wait : goal.returns-clause-still_wait
returns-clause-still_wait c n w = c.register-3.ensures.still_wait n (c.register-2.ensures.still_wait n (c.register.ensures.still_wait n w))

pub returns-clause-full : goal.returns-clause-full
returns-clause-full c e = cc

pub register-requires-2-clause-some : goal.register-requires-2-clause-some
register-requires-2-clause-some c = c.requires.some

pub register-requires-2-clause-few : goal.register-requires-2-clause-few
register-requires-2-clause-few c = c.requires.few

pub register-requires-3-clause-some : goal.register-requires-3-clause-some
register-requires-3-clause-some c = c.requires.some

pub register-requires-3-clause-few : goal.register-requires-3-clause-few
register-requires-3-clause-few c = c.requires.few

pub returns-clause-pointers : goal.returns-clause-pointers
returns-clause-pointers c =
    let one = c.in_ok-unanswered.ensures.count in
    let two = c.in_ok-first.ensures.count in
    let unanswered = c.in_ok-unanswered.ensures.number in
    let first = c.in_ok-first.ensures.number in
    let next = c.in_ok-next.ensures.number in
    let last = c.register-3.ensures.grows.extends in
    let more = extends_twice _ _ _ c.register-2.ensures.grows.extends last in
    record {
      unanswered_net = more.nets _ _ c.in_ok-unanswered.ensures.net.is_net;
      wide = subst (λ k. c.args.bound < 2 ^ k) (sym c.in_ok-unanswered.ensures.net.has_width) c.count_bits.ensures.fits;
      least = λ bits some fits. subst (λ k. k ≤ bits) (sym c.in_ok-unanswered.ensures.net.has_width) (c.count_bits.ensures.least bits some fits);
      first_net = net_lasts _ _ _ _ last c.in_ok-first.ensures.net;
      next_net = c.in_ok-next.ensures.net;
      none = λ run cycles r. c.in_ok-unanswered.ensures.starts run cycles (more.runs run cycles r);
      at_first = λ run cycles r. c.in_ok-first.ensures.starts run cycles (last.runs run cycles r);
      at_next = c.in_ok-next.ensures.starts;
      before_first = omega (arith, one, unanswered, first);
      before_next = omega (arith, two, first, next);
    }

pub returns-clause-owned : goal.returns-clause-owned
returns-clause-owned c n o =
    let one = c.in_ok-unanswered.ensures.count in
    let two = c.in_ok-first.ensures.count in
    let unanswered = c.in_ok-unanswered.ensures.number in
    let first = c.in_ok-first.ensures.number in
    let next = c.in_ok-next.ensures.number in
    let three = c.in_ok-next.ensures.count in
    elim o [
      | inl e ↦ (omega (arith, e, unanswered), omega (arith, e, unanswered, one, two, three))
      | inr p ↦ elim p [
        | inl e ↦ (omega (arith, e, first, one), omega (arith, e, first, one, two, three))
        | inr e ↦ (omega (arith, e, next, one, two), omega (arith, e, next, one, two, three))
      ]
    ]

pub returns-clause-own_wait : goal.returns-clause-own_wait
returns-clause-own_wait c n o =
    elim o [
      | inl e ↦ subst (IsWaiting c.register-3.new.builder) (sym e) (c.register-3.ensures.still_wait _ (c.register-2.ensures.still_wait _ c.in_ok-unanswered.ensures.waits))
      | inr p ↦ elim p [
        | inl e ↦ subst (IsWaiting c.register-3.new.builder) (sym e) (c.register-3.ensures.still_wait _ c.in_ok-first.ensures.waits)
        | inr e ↦ subst (IsWaiting c.register-3.new.builder) (sym e) c.in_ok-next.ensures.waits
      ]
    ]

pub returns-clause-newly : goal.returns-clause-newly
returns-clause-newly c n w =
    elim (c.in_ok-next.ensures.newly n w) [
      | inl later ↦ elim (c.in_ok-first.ensures.newly n later) [
        | inl sooner ↦ elim (c.in_ok-unanswered.ensures.newly n sooner) [ inl old ↦ inl old | inr e ↦ inr (inl e) ]
        | inr e ↦ inr (inr (inl e))
      ]
      | inr e ↦ inr (inr (inr e))
    ]
