use Rattle.net_parts.specs.Laws.{extends_twice, net_lasts, width_fits, adds_twice, adds_grow, grows_fewer, grows_twice}
use Rattle.mm_host.proofs.Levels.{top_bit}
use Rattle.net_parts.specs.Refusing.{handed_on}
use Rattle.std.proofs.Common.{arith}
use Rattle.mm_host.proofs.reads.count_reads.Goals as goal

pub returns-clause-counted : goal.returns-clause-counted
returns-clause-counted c =
    let more = c.unless.ensures.adds.grows.extends in
    let all = extends_twice _ _ _ c.are_sixteen.ensures.adds.grows.extends more in
    record {
      net = net_lasts _ _ _ _ all c.in_ok-unanswered.ensures.net;
      bit = net_lasts _ _ _ _ more c.in_ok-full.ensures.net;
      starts = λ run cycles r. c.in_ok-unanswered.ensures.starts run cycles (all.runs run cycles r);
      is_full = λ cycle v.
          (let v1 = more.valuations cycle v in
          top_bit _ _ (width_fits _ _ _ c.in_ok-unanswered.ensures.net cycle (c.are_sixteen.ensures.adds.grows.extends.valuations cycle v1)) (c.in_ok-full.ensures.value cycle v1));
      shows = c.in_ok-shown.ensures.value;
    }

pub unless-requires-clause-a : goal.unless-requires-clause-a
unless-requires-clause-a c = net_lasts _ _ _ _ (extends_twice _ _ _ c.register.ensures.grows.extends c.are_sixteen.ensures.adds.grows.extends) c.requires.read

pub unless-requires-clause-b : goal.unless-requires-clause-b
unless-requires-clause-b c = c.in_ok-full.ensures.net

pub returns-in_err-unanswered-clause-grows : goal.returns-in_err-unanswered-clause-grows
returns-in_err-unanswered-clause-grows c = grows_fewer _ _ _ _ (omega arith) c.register.ensures.grows

pub returns-in_err-unanswered-clause-still_wait : goal.returns-in_err-unanswered-clause-still_wait
returns-in_err-unanswered-clause-still_wait c n w = c.register.ensures.still_wait n w

pub returns-in_err-unanswered-clause-full : goal.returns-in_err-unanswered-clause-full
returns-in_err-unanswered-clause-full c e = let full = c.register.ensures.full (handed_on _ _ _ _ c.in_err-unanswered.was c.from_residual.ensures.1 e) in omega (arith, full)

pub returns-in_err-full-clause-grows : goal.returns-in_err-full-clause-grows
returns-in_err-full-clause-grows c = grows_fewer _ _ _ _ (omega arith) (grows_twice _ _ _ _ _ c.register.ensures.grows (adds_grow _ _ _ c.are_sixteen.ensures.adds))

pub returns-in_err-full-clause-still_wait : goal.returns-in_err-full-clause-still_wait
returns-in_err-full-clause-still_wait c n w = c.are_sixteen.ensures.adds.grows.waits n (c.register.ensures.still_wait n w)

pub returns-in_err-full-clause-full : goal.returns-in_err-full-clause-full
returns-in_err-full-clause-full c e =
    let most0 = c.register.ensures.grows.most in
    let full = c.are_sixteen.ensures.full (handed_on _ _ _ _ c.in_err-full.was c.from_residual-in_err-full.ensures.1 e) in
    omega (arith, most0, full)

pub returns-in_err-shown-clause-grows : goal.returns-in_err-shown-clause-grows
returns-in_err-shown-clause-grows c = grows_fewer _ _ _ _ (omega arith) (grows_twice _ _ _ _ _ c.register.ensures.grows (adds_grow _ _ _ (adds_twice _ _ _ _ _ c.are_sixteen.ensures.adds c.unless.ensures.adds)))

pub returns-in_err-shown-clause-still_wait : goal.returns-in_err-shown-clause-still_wait
returns-in_err-shown-clause-still_wait c n w = c.unless.ensures.adds.grows.waits n (c.are_sixteen.ensures.adds.grows.waits n (c.register.ensures.still_wait n w))

pub returns-in_err-shown-clause-full : goal.returns-in_err-shown-clause-full
returns-in_err-shown-clause-full c e =
    let most0 = c.register.ensures.grows.most in
    let most1 = c.are_sixteen.ensures.adds.most in
    let full = c.unless.ensures.full (handed_on _ _ _ _ c.in_err-shown.was c.from_residual-in_err-shown.ensures.1 e) in
    omega (arith, most0, most1, full)

pub returns-clause-grows : goal.returns-clause-grows
returns-clause-grows c = grows_fewer _ _ _ _ (omega arith) (grows_twice _ _ _ _ _ c.register.ensures.grows (adds_grow _ _ _ (adds_twice _ _ _ _ _ c.are_sixteen.ensures.adds c.unless.ensures.adds)))

pub returns-clause-full : goal.returns-clause-full
returns-clause-full c e = cc

pub returns-clause-still_wait : goal.returns-clause-still_wait
returns-clause-still_wait c n w = c.unless.ensures.adds.grows.waits n (c.are_sixteen.ensures.adds.grows.waits n (c.register.ensures.still_wait n w))

pub returns-clause-own_wait : goal.returns-clause-own_wait
returns-clause-own_wait c = c.unless.ensures.adds.grows.waits _ (c.are_sixteen.ensures.adds.grows.waits _ c.in_ok-unanswered.ensures.waits)

pub returns-clause-owned : goal.returns-clause-owned
returns-clause-owned c n o =
    let number = c.in_ok-unanswered.ensures.number in
    let within = c.in_ok-unanswered.ensures.within in
    let more = c.are_sixteen.ensures.adds.grows.extends.count in
    let most = c.unless.ensures.adds.grows.extends.count in
    (omega (arith, o, number), omega (arith, o, within, more, most))

pub returns-clause-newly : goal.returns-clause-newly
returns-clause-newly c n w = c.in_ok-unanswered.ensures.newly n (c.are_sixteen.ensures.adds.grows.no_more_wait n (c.unless.ensures.adds.grows.no_more_wait n w))
