use Rattle.std.proofs.Common.{inl, inr, sym, subst, arith}
use Rattle.netlist.specs.Netlists.{IsWaiting}
use Rattle.net_parts.specs.Laws.{grows_twice, grows_fewer, net_lasts}
use Rattle.net_parts.specs.Refusing.{handed_on}
use Rattle.mm_route.proofs.registers.make_latch.Goals as goal

pub returns-clause-wait : goal.returns-clause-wait
returns-clause-wait c n o = elim o [
  | inl e ↦ subst (IsWaiting c.register-2.new.builder) (sym e) (c.register-2.ensures.still_wait _ c.in_ok-inside.ensures.waits)
  | inr p ↦ elim p [ inl e ↦ subst (IsWaiting c.register-2.new.builder) (sym e) c.in_ok-kept.ensures.waits | inr none ↦ absurd none ]
]

pub returns-clause-newly : goal.returns-clause-newly
returns-clause-newly c n w = elim (c.in_ok-kept.ensures.newly n w) [ inr e ↦ inr (inr (inl e)) | inl x ↦ elim (c.in_ok-inside.ensures.newly n x) [ inr e ↦ inr (inl e) | inl first ↦ inl first ] ]

pub returns-in_err-kept-clause-grows : goal.returns-in_err-kept-clause-grows
returns-in_err-kept-clause-grows c = grows_twice _ _ _ _ _ c.register.ensures.grows c.register-2.ensures.grows

pub returns-clause-grows : goal.returns-clause-grows
returns-clause-grows c = grows_twice _ _ _ _ _ c.register.ensures.grows c.register-2.ensures.grows

pub returns-in_err-inside-clause-full : goal.returns-in_err-inside-clause-full
returns-in_err-inside-clause-full c e = let full = c.register.ensures.full (handed_on _ _ _ _ c.in_err-inside.was c.from_residual.ensures.1 e) in omega (arith, full)

pub returns-in_err-kept-clause-full : goal.returns-in_err-kept-clause-full
returns-in_err-kept-clause-full c e = let most = c.register.ensures.grows.most in let full = c.register-2.ensures.full (handed_on _ _ _ _ c.in_err-kept.was c.from_residual-in_err-kept.ensures.1 e) in omega (arith, most, full)

pub returns-clause-full : goal.returns-clause-full
returns-clause-full c e = cc

pub returns-in_err-inside-clause-grows : goal.returns-in_err-inside-clause-grows
returns-in_err-inside-clause-grows c = grows_fewer _ _ _ _ (omega arith) c.register.ensures.grows

pub returns-clause-owned : goal.returns-clause-owned
returns-clause-owned c n o =
    let one = c.in_ok-inside.ensures.count in
    let two = c.in_ok-kept.ensures.count in
    let inside = c.in_ok-inside.ensures.number in
    let kept = c.in_ok-kept.ensures.number in
    elim o [
      | inl e ↦ (omega (arith, e, inside), omega (arith, e, inside, one, two))
      | inr p ↦ elim p [ inl e ↦ (omega (arith, e, kept, one), omega (arith, e, kept, one, two)) | inr none ↦ absurd none ]
    ]

pub returns-clause-still_wait : goal.returns-clause-still_wait
returns-clause-still_wait c n w = c.register-2.ensures.still_wait n (c.register.ensures.still_wait n w)

pub returns-in_err-kept-clause-still_wait : goal.returns-in_err-kept-clause-still_wait
returns-in_err-kept-clause-still_wait c n w = c.register-2.ensures.still_wait n (c.register.ensures.still_wait n w)

pub returns-clause-numbers : goal.returns-clause-numbers
returns-clause-numbers c = let one = c.in_ok-inside.ensures.count in let kept = c.in_ok-kept.ensures.number in (c.in_ok-inside.ensures.number, (omega (arith, one, kept), tt))

pub returns-clause-nets : goal.returns-clause-nets
returns-clause-nets c = record { inside = net_lasts _ _ _ 1 c.register-2.ensures.grows.extends c.in_ok-inside.ensures.net; kept = c.in_ok-kept.ensures.net }

pub returns-clause-starts : goal.returns-clause-starts
returns-clause-starts c = record { inside = λ run cycles r. c.in_ok-inside.ensures.starts run cycles (c.register-2.ensures.grows.extends.runs run cycles r); kept = c.in_ok-kept.ensures.starts }
