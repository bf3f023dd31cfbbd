use Rattle.std.proofs.Common.{subst, arith, sym}
use Rattle.net_parts.specs.Nets.{IsNetOfWidth}
use Rattle.net_parts.specs.Laws.{extends_twice, net_lasts, adds_twice, adds_grow, grows_fewer, grows_twice}
use Rattle.net_parts.specs.Refusing.{handed_on}
use Rattle.netlist.specs.Netlists.{IsWaiting}
use Rattle.mm_host.proofs.writes.hold_left.Goals as goal

pub returns-clause-held : goal.returns-clause-held
returns-clause-held c =
    let more = c.joins_next.ensures.adds.grows.extends in
    let all = extends_twice _ _ _ c.count_beats.ensures.adds.grows.extends more in
    record {
      left = subst (IsNetOfWidth c.joins_next.new.builder c.in_ok-left.left) c.count_bits-bits.ensures.bits (net_lasts _ _ _ _ all c.in_ok-left.ensures.net);
      beats = subst (IsNetOfWidth c.joins_next.new.builder c.in_ok-beats.beats) c.count_bits-bits.ensures.bits (net_lasts _ _ _ _ more c.in_ok-beats.ensures.net);
      starts = λ run cycles r. c.in_ok-left.ensures.starts run cycles (all.runs run cycles r);
      beats_are = λ cycle v. c.in_ok-beats.ensures.value cycle (more.valuations cycle v);
      joins = c.in_ok-more.ensures.value;
    }

pub count_beats-requires-clause-left : goal.count_beats-requires-clause-left
count_beats-requires-clause-left c = c.in_ok-left.ensures.net

pub count_beats-requires-clause-count : goal.count_beats-requires-clause-count
count_beats-requires-clause-count c = subst (IsNetOfWidth c.register.new.builder c.args.count) (sym c.count_bits-bits.ensures.bits) (net_lasts _ _ _ _ c.register.ensures.grows.extends c.requires.count)

pub joins_next-requires-clause-write : goal.joins_next-requires-clause-write
joins_next-requires-clause-write c = net_lasts _ _ _ _ (extends_twice _ _ _ c.register.ensures.grows.extends c.count_beats.ensures.adds.grows.extends) c.requires.write

pub joins_next-requires-clause-beats : goal.joins_next-requires-clause-beats
joins_next-requires-clause-beats c = c.in_ok-beats.ensures.net

pub returns-in_err-left-clause-grows : goal.returns-in_err-left-clause-grows
returns-in_err-left-clause-grows c = grows_fewer _ _ _ _ (omega arith) c.register.ensures.grows

pub returns-in_err-left-clause-still_wait : goal.returns-in_err-left-clause-still_wait
returns-in_err-left-clause-still_wait c n w = c.register.ensures.still_wait n w

pub returns-in_err-left-clause-full : goal.returns-in_err-left-clause-full
returns-in_err-left-clause-full c e = let full = c.register.ensures.full (handed_on _ _ _ _ c.in_err-left.was c.from_residual.ensures.1 e) in omega (arith, full)

pub returns-in_err-beats-clause-grows : goal.returns-in_err-beats-clause-grows
returns-in_err-beats-clause-grows c = grows_fewer _ _ _ _ (omega arith) (grows_twice _ _ _ _ _ c.register.ensures.grows (adds_grow _ _ _ c.count_beats.ensures.adds))

pub returns-in_err-beats-clause-still_wait : goal.returns-in_err-beats-clause-still_wait
returns-in_err-beats-clause-still_wait c n w = c.count_beats.ensures.adds.grows.waits n (c.register.ensures.still_wait n w)

pub returns-in_err-beats-clause-full : goal.returns-in_err-beats-clause-full
returns-in_err-beats-clause-full c e =
    let most0 = c.register.ensures.grows.most in
    let full = c.count_beats.ensures.full (handed_on _ _ _ _ c.in_err-beats.was c.from_residual-in_err-beats.ensures.1 e) in
    omega (arith, most0, full)

pub returns-in_err-more-clause-grows : goal.returns-in_err-more-clause-grows
returns-in_err-more-clause-grows c = grows_fewer _ _ _ _ (omega arith) (grows_twice _ _ _ _ _ c.register.ensures.grows (adds_grow _ _ _ (adds_twice _ _ _ _ _ c.count_beats.ensures.adds c.joins_next.ensures.adds)))

pub returns-in_err-more-clause-still_wait : goal.returns-in_err-more-clause-still_wait
returns-in_err-more-clause-still_wait c n w = c.joins_next.ensures.adds.grows.waits n (c.count_beats.ensures.adds.grows.waits n (c.register.ensures.still_wait n w))

pub returns-in_err-more-clause-full : goal.returns-in_err-more-clause-full
returns-in_err-more-clause-full c e =
    let most0 = c.register.ensures.grows.most in
    let most1 = c.count_beats.ensures.adds.most in
    let full = c.joins_next.ensures.full (handed_on _ _ _ _ c.in_err-more.was c.from_residual-in_err-more.ensures.1 e) in
    omega (arith, most0, most1, full)

pub returns-clause-grows : goal.returns-clause-grows
returns-clause-grows c = grows_fewer _ _ _ _ (omega arith) (grows_twice _ _ _ _ _ c.register.ensures.grows (adds_grow _ _ _ (adds_twice _ _ _ _ _ c.count_beats.ensures.adds c.joins_next.ensures.adds)))

pub returns-clause-full : goal.returns-clause-full
returns-clause-full c e = cc

pub returns-clause-still_wait : goal.returns-clause-still_wait
returns-clause-still_wait c n w = c.joins_next.ensures.adds.grows.waits n (c.count_beats.ensures.adds.grows.waits n (c.register.ensures.still_wait n w))

pub returns-clause-own_wait : goal.returns-clause-own_wait
returns-clause-own_wait c n o = subst (IsWaiting c.joins_next.new.builder) (sym o) (c.joins_next.ensures.adds.grows.waits _ (c.count_beats.ensures.adds.grows.waits _ c.in_ok-left.ensures.waits))

pub returns-clause-owned : goal.returns-clause-owned
returns-clause-owned c n o =
    let number = c.in_ok-left.ensures.number in
    let within = c.in_ok-left.ensures.within in
    let more = c.count_beats.ensures.adds.grows.extends.count in
    let most = c.joins_next.ensures.adds.grows.extends.count in
    (omega (arith, o, number), omega (arith, o, within, more, most))

pub returns-clause-newly : goal.returns-clause-newly
returns-clause-newly c n w = c.in_ok-left.ensures.newly n (c.count_beats.ensures.adds.grows.no_more_wait n (c.joins_next.ensures.adds.grows.no_more_wait n w))
