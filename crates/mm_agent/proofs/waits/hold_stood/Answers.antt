use Rattle.std.proofs.Common.{◌+◌, ◌^◌, ◌<◌, sym, subst, ap, ◌∙◌, not, nat_eq, arith}
use Rattle.net_parts.specs.Laws.{extends_twice, net_lasts, adds_twice, grows_once, adds_grow, grows_fewer, grows_twice}
use Rattle.mm_agent.specs.Waits.{wait_by}
use Rattle.mm_agent.proofs.Waiting.{longest, raised_same}
use Rattle.net_parts.specs.Refusing.{handed_on}
use Rattle.mm_agent.proofs.waits.hold_stood.Goals as goal

pub returns-clause-counts : goal.returns-clause-counts
returns-clause-counts c =
    let e3 = c.turned.ensures.adds.grows.extends in
    let e2 = extends_twice _ _ _ c.eq.ensures.extends e3 in
    let e1 = extends_twice _ _ _ c.time_of.ensures.adds.grows.extends e2 in
    let net = c.in_ok-stood.ensures.net in
    record {
      waits = c.requires.waits;
      late = c.requires.late;
      net = e1.nets _ _ net.is_net;
      fits = λ write.
          (let few = longest c.args.port.now.writes write _ _ c.longest_wait.result c.longest_wait.ensures.read c.longest_wait.ensures.write in
          let width = c.bits_past-bits.ensures.fits in
          subst (λ k. wait_by c.args.port.now write + 1 < 2 ^ k) (sym net.has_width) (omega (arith, few, width)));
      starts = λ run cycles r. c.in_ok-stood.ensures.starts run cycles (e1.runs run cycles r);
      is_busy = λ cycle v.
          (let v3 = e3.valuations cycle v in
          let v2 = e2.valuations cycle v in
          c.in_ok-busy.ensures.value cycle v ∙ ap not (raised_same _ _ _ (c.in_ok-over.ensures.value cycle v3).1) ∙ ap (λ n. not (nat_eq (cycle.net c.in_ok-stood.stood.number) n)) (c.in_ok-time.ensures.value cycle v2));
    }

pub returns-in_err-stood-clause-grows : goal.returns-in_err-stood-clause-grows
returns-in_err-stood-clause-grows c = grows_fewer _ _ _ _ (omega arith) c.register.ensures.grows

pub returns-in_err-stood-clause-still_wait : goal.returns-in_err-stood-clause-still_wait
returns-in_err-stood-clause-still_wait c n w = c.register.ensures.still_wait n w

pub returns-in_err-stood-clause-full : goal.returns-in_err-stood-clause-full
returns-in_err-stood-clause-full c e = let full = c.register.ensures.full (handed_on _ _ _ _ c.in_err-stood.was c.from_residual.ensures.1 e) in omega (arith, full)

pub returns-in_err-time-clause-grows : goal.returns-in_err-time-clause-grows
returns-in_err-time-clause-grows c = grows_fewer _ _ _ _ (omega arith) (grows_twice _ _ _ _ _ c.register.ensures.grows (adds_grow _ _ _ c.time_of.ensures.adds))

pub returns-in_err-time-clause-still_wait : goal.returns-in_err-time-clause-still_wait
returns-in_err-time-clause-still_wait c n w = c.time_of.ensures.adds.grows.waits n (c.register.ensures.still_wait n w)

pub returns-in_err-time-clause-full : goal.returns-in_err-time-clause-full
returns-in_err-time-clause-full c e =
    let most0 = c.register.ensures.grows.most in
    let full = c.time_of.ensures.full (handed_on _ _ _ _ c.in_err-time.was c.from_residual-in_err-time.ensures.1 e) in
    omega (arith, most0, full)

pub returns-in_err-over-clause-grows : goal.returns-in_err-over-clause-grows
returns-in_err-over-clause-grows c = grows_fewer _ _ _ _ (omega arith) (grows_twice _ _ _ _ _ c.register.ensures.grows (adds_grow _ _ _ (adds_twice _ _ _ _ _ c.time_of.ensures.adds (grows_once _ _ c.eq.ensures.extends c.eq.ensures.grows))))

pub returns-in_err-over-clause-still_wait : goal.returns-in_err-over-clause-still_wait
returns-in_err-over-clause-still_wait c n w = c.eq.ensures.grows.waits n (c.time_of.ensures.adds.grows.waits n (c.register.ensures.still_wait n w))

pub returns-in_err-over-clause-full : goal.returns-in_err-over-clause-full
returns-in_err-over-clause-full c e =
    let most0 = c.register.ensures.grows.most in
    let most1 = c.time_of.ensures.adds.most in
    let full = c.eq.ensures.full.0 (handed_on _ _ _ _ c.in_err-over.was c.from_residual-in_err-over.ensures.1 e) in
    omega (arith, most0, most1, full)

pub returns-in_err-busy-clause-grows : goal.returns-in_err-busy-clause-grows
returns-in_err-busy-clause-grows c = grows_fewer _ _ _ _ (omega arith) (grows_twice _ _ _ _ _ c.register.ensures.grows (adds_grow _ _ _ (adds_twice _ _ _ _ _ (adds_twice _ _ _ _ _ c.time_of.ensures.adds (grows_once _ _ c.eq.ensures.extends c.eq.ensures.grows)) c.turned.ensures.adds)))

pub returns-in_err-busy-clause-still_wait : goal.returns-in_err-busy-clause-still_wait
returns-in_err-busy-clause-still_wait c n w = c.turned.ensures.adds.grows.waits n (c.eq.ensures.grows.waits n (c.time_of.ensures.adds.grows.waits n (c.register.ensures.still_wait n w)))

pub returns-in_err-busy-clause-full : goal.returns-in_err-busy-clause-full
returns-in_err-busy-clause-full c e =
    let most0 = c.register.ensures.grows.most in
    let most1 = c.time_of.ensures.adds.most in
    let most2 = c.eq.ensures.grows.most in
    let full = c.turned.ensures.full (handed_on _ _ _ _ c.in_err-busy.was c.from_residual-in_err-busy.ensures.1 e) in
    omega (arith, most0, most1, most2, full)

pub returns-clause-grows : goal.returns-clause-grows
returns-clause-grows c = grows_fewer _ _ _ _ (omega arith) (grows_twice _ _ _ _ _ c.register.ensures.grows (adds_grow _ _ _ (adds_twice _ _ _ _ _ (adds_twice _ _ _ _ _ c.time_of.ensures.adds (grows_once _ _ c.eq.ensures.extends c.eq.ensures.grows)) c.turned.ensures.adds)))

pub returns-clause-still_wait : goal.returns-clause-still_wait
returns-clause-still_wait c n w = c.turned.ensures.adds.grows.waits n (c.eq.ensures.grows.waits n (c.time_of.ensures.adds.grows.waits n (c.register.ensures.still_wait n w)))

pub returns-clause-full : goal.returns-clause-full
returns-clause-full c e = cc

pub returns-clause-busy : goal.returns-clause-busy
returns-clause-busy c = c.in_ok-busy.ensures.net

pub time_of-requires-clause-write : goal.time_of-requires-clause-write
time_of-requires-clause-write c = net_lasts _ _ _ _ c.register.ensures.grows.extends c.requires.write

pub eq-requires-clause-a_is : goal.eq-requires-clause-a_is
eq-requires-clause-a_is c = c.time_of.ensures.adds.grows.extends.nets _ _ c.in_ok-stood.ensures.net.is_net

pub eq-requires-clause-b_is : goal.eq-requires-clause-b_is
eq-requires-clause-b_is c = c.in_ok-time.ensures.net.is_net

pub eq-requires-clause-widths : goal.eq-requires-clause-widths
eq-requires-clause-widths c = c.in_ok-stood.ensures.net.has_width ∙ sym c.in_ok-time.ensures.net.has_width

pub turned-requires : goal.turned-requires
turned-requires c = record { a = record { is_net = c.in_ok-over.ensures.net.0; has_width = c.in_ok-over.ensures.net.1 } }
