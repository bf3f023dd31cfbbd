use Rattle.std.proofs.Common.{arith, length, sym, subst, inl, inr}
use Rattle.net_parts.specs.Laws.{extends_twice, net_lasts, grows_fewer, grows_twice}
use Rattle.net_parts.specs.Refusing.{handed_on}
use Rattle.netlist.specs.Netlists.{IsWaiting}
use Rattle.mm_arbiter.proofs.turns.make_turns.Goals as goal

pub returns-in_err-holder-clause-grows : goal.returns-in_err-holder-clause-grows
returns-in_err-holder-clause-grows c = grows_fewer _ _ _ _ (omega arith) c.last_seat.ensures.grows

pub returns-in_err-holder-clause-still_wait : goal.returns-in_err-holder-clause-still_wait
returns-in_err-holder-clause-still_wait c n w = c.last_seat.ensures.still_wait n w

pub returns-in_err-holder-clause-full : goal.returns-in_err-holder-clause-full
returns-in_err-holder-clause-full c e = let full = c.last_seat.ensures.full (handed_on _ _ _ _ c.in_err-holder.was c.from_residual.ensures.1 e) in omega (arith, full)

pub returns-in_err-left-clause-grows : goal.returns-in_err-left-clause-grows
returns-in_err-left-clause-grows c = grows_fewer _ _ _ _ (omega arith) (grows_twice _ _ _ _ _ c.last_seat.ensures.grows c.register.ensures.grows)

pub returns-in_err-left-clause-still_wait : goal.returns-in_err-left-clause-still_wait
returns-in_err-left-clause-still_wait c n w = c.register.ensures.still_wait n (c.last_seat.ensures.still_wait n w)

pub returns-in_err-left-clause-full : goal.returns-in_err-left-clause-full
returns-in_err-left-clause-full c e =
    let most0 = c.last_seat.ensures.grows.most in
    let full = c.register.ensures.full (handed_on _ _ _ _ c.in_err-left.was c.from_residual-in_err-left.ensures.1 e) in
    omega (arith, most0, full)

pub returns-in_err-inside-clause-grows : goal.returns-in_err-inside-clause-grows
returns-in_err-inside-clause-grows c = grows_fewer _ _ _ _ (omega arith) (grows_twice _ _ _ _ _ (grows_twice _ _ _ _ _ c.last_seat.ensures.grows c.register.ensures.grows) c.register-2.ensures.grows)

pub returns-in_err-inside-clause-still_wait : goal.returns-in_err-inside-clause-still_wait
returns-in_err-inside-clause-still_wait c n w = c.register-2.ensures.still_wait n (c.register.ensures.still_wait n (c.last_seat.ensures.still_wait n w))

pub returns-in_err-inside-clause-full : goal.returns-in_err-inside-clause-full
returns-in_err-inside-clause-full c e =
    let most0 = c.last_seat.ensures.grows.most in
    let most1 = c.register.ensures.grows.most in
    let full = c.register-2.ensures.full (handed_on _ _ _ _ c.in_err-inside.was c.from_residual-in_err-inside.ensures.1 e) in
    omega (arith, most0, most1, full)

pub returns-clause-grows : goal.returns-clause-grows
returns-clause-grows c = grows_fewer _ _ _ _ (omega arith) (grows_twice _ _ _ _ _ (grows_twice _ _ _ _ _ c.last_seat.ensures.grows c.register.ensures.grows) c.register-2.ensures.grows)

pub returns-clause-still_wait : goal.returns-clause-still_wait
returns-clause-still_wait c n w = c.register-2.ensures.still_wait n (c.register.ensures.still_wait n (c.last_seat.ensures.still_wait n w))

pub returns-clause-full : goal.returns-clause-full
returns-clause-full c e = cc

pub returns-clause-nets : goal.returns-clause-nets
returns-clause-nets c =
    record {
      holder = net_lasts _ _ _ _ (extends_twice _ _ _ c.register.ensures.grows.extends c.register-2.ensures.grows.extends) c.in_ok-holder.ensures.net;
      left = net_lasts _ _ _ _ c.register-2.ensures.grows.extends c.in_ok-left.ensures.net;
      inside = c.in_ok-inside.ensures.net;
    }

pub last_seat-requires-clause-some : goal.last_seat-requires-clause-some
last_seat-requires-clause-some c = c.requires.some

pub last_seat-requires-clause-few : goal.last_seat-requires-clause-few
last_seat-requires-clause-few c = c.requires.few

pub returns-clause-starts : goal.returns-clause-starts
returns-clause-starts c =
    let last = c.register-2.ensures.grows.extends in
    let more = extends_twice _ _ _ c.register.ensures.grows.extends last in
    record {
      holder = λ run cycles r. c.in_ok-holder.ensures.starts run cycles (more.runs run cycles r);
      left = λ run cycles r. c.in_ok-left.ensures.starts run cycles (last.runs run cycles r);
      inside = c.in_ok-inside.ensures.starts;
    }

pub returns-clause-wait : goal.returns-clause-wait
returns-clause-wait c =
    let one = c.in_ok-holder.ensures.count in
    let two = c.in_ok-left.ensures.count in
    let three = c.in_ok-inside.ensures.count in
    let holder = c.in_ok-holder.ensures.number in
    let left = c.in_ok-left.ensures.number in
    let inside = c.in_ok-inside.ensures.number in
    record {
      start = length c.args.builder.now.lines;
      numbers = (holder, (omega (arith, left, one), (omega (arith, inside, one, two), tt)));
      wait = λ n o. elim o [
        | inl e ↦ subst (IsWaiting c.register-2.new.builder) (sym e) (c.register-2.ensures.still_wait _ (c.register.ensures.still_wait _ c.in_ok-holder.ensures.waits))
        | inr p ↦ elim p [
          | inl e ↦ subst (IsWaiting c.register-2.new.builder) (sym e) (c.register-2.ensures.still_wait _ c.in_ok-left.ensures.waits)
          | inr q ↦ elim q [ inl e ↦ subst (IsWaiting c.register-2.new.builder) (sym e) c.in_ok-inside.ensures.waits | inr none ↦ absurd none ]
        ]
      ];
    }

pub returns-clause-owned : goal.returns-clause-owned
returns-clause-owned c n o =
    let one = c.in_ok-holder.ensures.count in
    let two = c.in_ok-left.ensures.count in
    let three = c.in_ok-inside.ensures.count in
    let holder = c.in_ok-holder.ensures.number in
    let left = c.in_ok-left.ensures.number in
    let inside = c.in_ok-inside.ensures.number in
    elim o [
      | inl e ↦ (omega (arith, e, holder), omega (arith, e, holder, one, two, three))
      | inr p ↦ elim p [
        | inl e ↦ (omega (arith, e, left, one), omega (arith, e, left, one, two, three))
        | inr q ↦ elim q [ inl e ↦ (omega (arith, e, inside, one, two), omega (arith, e, inside, one, two, three)) | inr none ↦ absurd none ]
      ]
    ]

pub returns-clause-newly : goal.returns-clause-newly
returns-clause-newly c n w =
    elim (c.in_ok-inside.ensures.newly n w) [
      | inl later ↦ elim (c.in_ok-left.ensures.newly n later) [
        | inl sooner ↦ elim (c.in_ok-holder.ensures.newly n sooner) [ inl old ↦ inl old | inr e ↦ inr (inl e) ]
        | inr e ↦ inr (inr (inl e))
      ]
      | inr e ↦ inr (inr (inr (inl e)))
    ]
