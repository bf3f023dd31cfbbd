use Rattle.std.proofs.Common.{inl, inr, length, sym, subst, arith}
use Rattle.netlist.specs.Netlists.{IsWaiting}
use Rattle.net_parts.specs.Groups.{AreNumberedFrom}
use Rattle.net_parts.specs.Refusing.{handed_on}
use Rattle.net_parts.specs.Laws.{grows_fewer, grows_twice, extends_twice, net_lasts}
use Rattle.mm_route.specs.Registers.{latch_of}
use Rattle.mm_route.proofs.registers.make_registers.Goals as goal

pub returns-clause-still_wait : goal.returns-clause-still_wait
returns-clause-still_wait c n w = c.make_latch.ensures.still_wait n (c.register-2.ensures.still_wait n (c.register.ensures.still_wait n w))

pub returns-clause-wait : goal.returns-clause-wait
returns-clause-wait c = record {
  start = length c.args.builder.now.lines;
  numbers =
      (let one = c.in_ok-owed.ensures.count in
      let two = c.in_ok-owing.ensures.count in
      let owing = c.in_ok-owing.ensures.number in
      (c.in_ok-owed.ensures.number, (omega (arith, owing, one), subst (λ n. AreNumberedFrom n (latch_of c.in_ok-latch.latch)) (omega (arith, one, two)) c.in_ok-latch.ensures.numbers)));
  wait = λ n o. elim o [
    | inl e ↦ subst (IsWaiting c.make_latch.new.builder) (sym e) (c.make_latch.ensures.still_wait _ (c.register-2.ensures.still_wait _ c.in_ok-owed.ensures.waits))
    | inr p ↦ elim p [
      | inl e ↦ subst (IsWaiting c.make_latch.new.builder) (sym e) (c.make_latch.ensures.still_wait _ c.in_ok-owing.ensures.waits)
      | inr q ↦ c.in_ok-latch.ensures.wait n q
    ]
  ];
}

pub returns-clause-newly : goal.returns-clause-newly
returns-clause-newly c n w = elim (c.in_ok-latch.ensures.newly n w) [
  | inr o ↦ inr (inr (inr o))
  | inl x ↦ elim (c.in_ok-owing.ensures.newly n x) [
    | inr e ↦ inr (inr (inl e))
    | inl y ↦ elim (c.in_ok-owed.ensures.newly n y) [ inr e ↦ inr (inl e) | inl first ↦ inl first ]
  ]
]

pub returns-clause-owned : goal.returns-clause-owned
returns-clause-owned c n o =
    let one = c.in_ok-owed.ensures.count in
    let two = c.in_ok-owing.ensures.count in
    let more = c.make_latch.ensures.grows.extends.count in
    let owed = c.in_ok-owed.ensures.number in
    let owing = c.in_ok-owing.ensures.number in
    elim o [
      | inl e ↦ (omega (arith, e, owed), omega (arith, e, owed, one, two, more))
      | inr p ↦ elim p [
        | inl e ↦ (omega (arith, e, owing, one), omega (arith, e, owing, one, two, more))
        | inr q ↦ (let h = c.in_ok-latch.ensures.owned n q in let below = h.0 in (omega (arith, below, one, two), h.1))
      ]
    ]

pub returns-in_err-owed-clause-full : goal.returns-in_err-owed-clause-full
returns-in_err-owed-clause-full c e = let full = c.register.ensures.full (handed_on _ _ _ _ c.in_err-owed.was c.from_residual.ensures.1 e) in omega (arith, full)

pub returns-in_err-owing-clause-full : goal.returns-in_err-owing-clause-full
returns-in_err-owing-clause-full c e = let most = c.register.ensures.grows.most in let full = c.register-2.ensures.full (handed_on _ _ _ _ c.in_err-owing.was c.from_residual-in_err-owing.ensures.1 e) in omega (arith, most, full)

pub returns-in_err-latch-clause-full : goal.returns-in_err-latch-clause-full
returns-in_err-latch-clause-full c e = let most = c.register.ensures.grows.most in let most2 = c.register-2.ensures.grows.most in let full = c.make_latch.ensures.full (handed_on _ _ _ _ c.in_err-latch.was c.from_residual-in_err-latch.ensures.1 e) in omega (arith, most, most2, full)

pub returns-clause-full : goal.returns-clause-full
returns-clause-full c e = cc

pub returns-in_err-owed-clause-grows : goal.returns-in_err-owed-clause-grows
returns-in_err-owed-clause-grows c = grows_fewer _ _ _ _ (omega arith) c.register.ensures.grows

pub returns-in_err-owing-clause-grows : goal.returns-in_err-owing-clause-grows
returns-in_err-owing-clause-grows c = grows_fewer _ _ _ _ (omega arith) (grows_twice _ _ _ _ _ c.register.ensures.grows c.register-2.ensures.grows)

pub returns-in_err-latch-clause-grows : goal.returns-in_err-latch-clause-grows
returns-in_err-latch-clause-grows c = grows_fewer _ _ _ _ (omega arith) (grows_twice _ _ _ _ _ (grows_twice _ _ _ _ _ c.register.ensures.grows c.register-2.ensures.grows) c.make_latch.ensures.grows)

pub returns-clause-grows : goal.returns-clause-grows
returns-clause-grows c = grows_fewer _ _ _ _ (omega arith) (grows_twice _ _ _ _ _ (grows_twice _ _ _ _ _ c.register.ensures.grows c.register-2.ensures.grows) c.make_latch.ensures.grows)

pub returns-in_err-owing-clause-still_wait : goal.returns-in_err-owing-clause-still_wait
returns-in_err-owing-clause-still_wait c n w = c.register-2.ensures.still_wait n (c.register.ensures.still_wait n w)

pub returns-in_err-latch-clause-still_wait : goal.returns-in_err-latch-clause-still_wait
returns-in_err-latch-clause-still_wait c n w = c.make_latch.ensures.still_wait n (c.register-2.ensures.still_wait n (c.register.ensures.still_wait n w))

pub returns-clause-nets : goal.returns-clause-nets
returns-clause-nets c = record {
  owed = net_lasts _ _ _ _ (extends_twice _ _ _ c.register-2.ensures.grows.extends c.make_latch.ensures.grows.extends) c.in_ok-owed.ensures.net;
  owing = net_lasts _ _ _ _ c.make_latch.ensures.grows.extends c.in_ok-owing.ensures.net;
  latch = c.in_ok-latch.ensures.nets;
}

pub returns-clause-starts : goal.returns-clause-starts
returns-clause-starts c = record {
  owed = λ run cycles r. c.in_ok-owed.ensures.starts run cycles ((extends_twice _ _ _ c.register-2.ensures.grows.extends c.make_latch.ensures.grows.extends).runs run cycles r);
  owing = λ run cycles r. c.in_ok-owing.ensures.starts run cycles (c.make_latch.ensures.grows.extends.runs run cycles r);
  latch = c.in_ok-latch.ensures.starts;
}
