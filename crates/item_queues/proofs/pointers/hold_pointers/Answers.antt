use Rattle.std.proofs.Common.{arith, sym, subst, ◌∙◌, inl, inr}
use Rattle.net_parts.specs.Laws.{grows_fewer, grows_twice}
use Rattle.netlist.specs.Netlists.{IsWaiting}
use Rattle.item_queues.proofs.pointers.hold_pointers.Goals as goal

pub returns-in_err-next-clause-grows : goal.returns-in_err-next-clause-grows
returns-in_err-next-clause-grows c = grows_fewer _ _ _ _ (omega arith) (grows_twice _ _ _ _ _ c.register.ensures.grows c.register-2.ensures.grows)

pub returns-clause-grows : goal.returns-clause-grows
returns-clause-grows c = grows_fewer _ _ _ _ (omega arith) (grows_twice _ _ _ _ _ c.register.ensures.grows c.register-2.ensures.grows)

pub returns-in_err-first-clause-grows : goal.returns-in_err-first-clause-grows
returns-in_err-first-clause-grows c = grows_fewer _ _ _ _ (omega arith) c.register.ensures.grows

pub returns-clause-pointers : goal.returns-clause-pointers
returns-clause-pointers c =
    let one = c.in_ok-first.ensures.count in
    let first = c.in_ok-first.ensures.number in
    let next = c.in_ok-next.ensures.number in
    let last = c.register-2.ensures.grows.extends in
    record {
      first_net = last.nets _ _ c.in_ok-first.ensures.net.is_net;
      next_net = record { is_net = c.in_ok-next.ensures.net.is_net; has_width = c.in_ok-next.ensures.net.has_width ∙ sym c.in_ok-first.ensures.net.has_width };
      at_first = λ run cycles r. c.in_ok-first.ensures.starts run cycles (last.runs run cycles r);
      at_next = c.in_ok-next.ensures.starts;
      before_next = omega (arith, one, first, next);
    }

pub returns-clause-width : goal.returns-clause-width
returns-clause-width c = c.in_ok-first.ensures.net.has_width

pub returns-clause-owned : goal.returns-clause-owned
returns-clause-owned c n o =
    let one = c.in_ok-first.ensures.count in
    let first = c.in_ok-first.ensures.number in
    let next = c.in_ok-next.ensures.number in
    let two = c.in_ok-next.ensures.count in
    elim o [
      | inl e ↦ (omega (arith, e, first), omega (arith, e, first, one, two))
      | inr e ↦ (omega (arith, e, next, one), omega (arith, e, next, one, two))
    ]

pub returns-clause-own_wait : goal.returns-clause-own_wait
returns-clause-own_wait c n o =
    elim o [
      | inl e ↦ subst (IsWaiting c.register-2.new.builder) (sym e) (c.register-2.ensures.still_wait _ c.in_ok-first.ensures.waits)
      | inr e ↦ subst (IsWaiting c.register-2.new.builder) (sym e) c.in_ok-next.ensures.waits
    ]

pub returns-clause-newly : goal.returns-clause-newly
returns-clause-newly c n w =
    elim (c.in_ok-next.ensures.newly n w) [
      | inl sooner ↦ elim (c.in_ok-first.ensures.newly n sooner) [ inl old ↦ inl old | inr e ↦ inr (inl e) ]
      | inr e ↦ inr (inr e)
    ]
