use Rattle.std.proofs.Common.{◌∙◌, arith, sym}
use Rattle.netlist.specs.Runs.{Cycle, cycle_of}
use Rattle.net_parts.specs.Laws.{net_fits, adds_grow, adds_twice, grows_once, grows_fewer, grows_twice, extends_twice, net_lasts}
use Rattle.command_nets.specs.Levels.{one_fits}
use Rattle.read_queues.proofs.Levels.{ends_at, got_goes_on}
use Rattle.net_parts.specs.Refusing.{handed_on}
use Rattle.read_queues.proofs.words.finish_counted.Goals as goal

pub constant-requires-clause-fits : goal.constant-requires-clause-fits
constant-requires-clause-fits c = one_fits _ c.width-bits.ensures.bounds.0

pub returns-in_err-next-clause-grows : goal.returns-in_err-next-clause-grows
returns-in_err-next-clause-grows c = grows_fewer _ _ _ _ (omega arith) (adds_grow _ _ _ (adds_twice _ _ _ _ _ (adds_twice _ _ _ _ _ (adds_twice _ _ _ _ _ (adds_twice _ _ _ _ _ c.constant.ensures.adds (grows_once _ _ c.add.ensures.extends c.add.ensures.grows)) (grows_once _ _ c.eq.ensures.extends c.eq.ensures.grows)) c.both.ensures.adds) c.count_until.ensures.adds))

pub returns-clause-grows : goal.returns-clause-grows
returns-clause-grows c = grows_fewer _ _ _ _ (omega arith) (grows_twice _ _ _ _ _ (adds_grow _ _ _ (adds_twice _ _ _ _ _ (adds_twice _ _ _ _ _ (adds_twice _ _ _ _ _ (adds_twice _ _ _ _ _ c.constant.ensures.adds (grows_once _ _ c.add.ensures.extends c.add.ensures.grows)) (grows_once _ _ c.eq.ensures.extends c.eq.ensures.grows)) c.both.ensures.adds) c.count_until.ensures.adds)) c.take_next.ensures.grows)

pub returns-clause-waits : goal.returns-clause-waits
returns-clause-waits c n apart w = c.take_next.ensures.still_wait n apart (c.count_until.ensures.adds.grows.waits n (c.both.ensures.adds.grows.waits n (c.eq.ensures.grows.waits n (c.add.ensures.grows.waits n (c.constant.ensures.adds.grows.waits n w)))))

pub returns-clause-no_more_wait : goal.returns-clause-no_more_wait
returns-clause-no_more_wait c n w =
    let set = c.take_next.ensures.no_more_wait n w in
    (c.constant.ensures.adds.grows.no_more_wait n (c.add.ensures.grows.no_more_wait n (c.eq.ensures.grows.no_more_wait n (c.both.ensures.adds.grows.no_more_wait n (c.count_until.ensures.adds.grows.no_more_wait n set.0)))), set.1)

pub returns-clause-answers : goal.returns-clause-answers
returns-clause-answers c cycle v6 some =
    let v5 = c.take_next.ensures.grows.extends.valuations cycle v6 in
    let v4 = c.count_until.ensures.adds.grows.extends.valuations cycle v5 in
    let v3 = c.both.ensures.adds.grows.extends.valuations cycle v4 in
    let v2 = c.eq.ensures.extends.valuations cycle v3 in
    let v1 = c.add.ensures.extends.valuations cycle v2 in
    let v0 = c.constant.ensures.adds.grows.extends.valuations cycle v1 in
    ends_at c.args.count.width _ _ _ _ _ _ _ (net_fits _ _ c.requires.count cycle v0) (c.in_ok-one.ensures.value cycle v1) (rw c.requires.got.has_width at (c.in_ok-more.ensures.value cycle v2).1) (c.in_ok-all.ensures.value cycle v3).1 (c.in_ok-last.ensures.value cycle v4) some

pub returns-clause-goes_on : goal.returns-clause-goes_on
returns-clause-goes_on c run cycles r n lt some =
    let cycle : Cycle = cycle_of run n in
    let v6 = r.valuations n (omega (arith, lt)) in
    let v5 = c.take_next.ensures.grows.extends.valuations cycle v6 in
    let v4 = c.count_until.ensures.adds.grows.extends.valuations cycle v5 in
    let v3 = c.both.ensures.adds.grows.extends.valuations cycle v4 in
    let v2 = c.eq.ensures.extends.valuations cycle v3 in
    let v1 = c.add.ensures.extends.valuations cycle v2 in
    let v0 = c.constant.ensures.adds.grows.extends.valuations cycle v1 in
    got_goes_on c.args.count.width _ _ _ _ _ _ _ (net_fits _ _ c.requires.count cycle v0) (c.in_ok-one.ensures.value cycle v1) (rw c.requires.got.has_width at (c.in_ok-more.ensures.value cycle v2).1)
    (c.take_next.ensures.value run cycles r n lt ∙ c.in_ok-next.ensures.value cycle v5) some

pub returns-in_err-one-clause-grows : goal.returns-in_err-one-clause-grows
returns-in_err-one-clause-grows c = grows_fewer _ _ _ _ (omega arith) (adds_grow _ _ _ c.constant.ensures.adds)

pub returns-in_err-one-clause-waits : goal.returns-in_err-one-clause-waits
returns-in_err-one-clause-waits c n apart w = c.constant.ensures.adds.grows.waits n w

pub returns-in_err-one-clause-full : goal.returns-in_err-one-clause-full
returns-in_err-one-clause-full c e = let full = c.constant.ensures.full (handed_on _ _ _ _ c.in_err-one.was c.from_residual.ensures.1 e) in omega (arith, full)

pub returns-in_err-more-clause-grows : goal.returns-in_err-more-clause-grows
returns-in_err-more-clause-grows c = grows_fewer _ _ _ _ (omega arith) (adds_grow _ _ _ (adds_twice _ _ _ _ _ c.constant.ensures.adds (grows_once _ _ c.add.ensures.extends c.add.ensures.grows)))

pub returns-in_err-more-clause-waits : goal.returns-in_err-more-clause-waits
returns-in_err-more-clause-waits c n apart w = c.add.ensures.grows.waits n (c.constant.ensures.adds.grows.waits n w)

pub returns-in_err-more-clause-full : goal.returns-in_err-more-clause-full
returns-in_err-more-clause-full c e =
    let most0 = c.constant.ensures.adds.most in
    let full = c.add.ensures.full.0 (handed_on _ _ _ _ c.in_err-more.was c.from_residual-in_err-more.ensures.1 e) in
    omega (arith, most0, full)

pub returns-in_err-all-clause-grows : goal.returns-in_err-all-clause-grows
returns-in_err-all-clause-grows c = grows_fewer _ _ _ _ (omega arith) (adds_grow _ _ _ (adds_twice _ _ _ _ _ (adds_twice _ _ _ _ _ c.constant.ensures.adds (grows_once _ _ c.add.ensures.extends c.add.ensures.grows)) (grows_once _ _ c.eq.ensures.extends c.eq.ensures.grows)))

pub returns-in_err-all-clause-waits : goal.returns-in_err-all-clause-waits
returns-in_err-all-clause-waits c n apart w = c.eq.ensures.grows.waits n (c.add.ensures.grows.waits n (c.constant.ensures.adds.grows.waits n w))

pub returns-in_err-all-clause-full : goal.returns-in_err-all-clause-full
returns-in_err-all-clause-full c e =
    let most0 = c.constant.ensures.adds.most in
    let most1 = c.add.ensures.grows.most in
    let full = c.eq.ensures.full.0 (handed_on _ _ _ _ c.in_err-all.was c.from_residual-in_err-all.ensures.1 e) in
    omega (arith, most0, most1, full)

pub returns-in_err-last-clause-grows : goal.returns-in_err-last-clause-grows
returns-in_err-last-clause-grows c = grows_fewer _ _ _ _ (omega arith) (adds_grow _ _ _ (adds_twice _ _ _ _ _ (adds_twice _ _ _ _ _ (adds_twice _ _ _ _ _ c.constant.ensures.adds (grows_once _ _ c.add.ensures.extends c.add.ensures.grows)) (grows_once _ _ c.eq.ensures.extends c.eq.ensures.grows)) c.both.ensures.adds))

pub returns-in_err-last-clause-waits : goal.returns-in_err-last-clause-waits
returns-in_err-last-clause-waits c n apart w = c.both.ensures.adds.grows.waits n (c.eq.ensures.grows.waits n (c.add.ensures.grows.waits n (c.constant.ensures.adds.grows.waits n w)))

pub returns-in_err-last-clause-full : goal.returns-in_err-last-clause-full
returns-in_err-last-clause-full c e =
    let most0 = c.constant.ensures.adds.most in
    let most1 = c.add.ensures.grows.most in
    let most2 = c.eq.ensures.grows.most in
    let full = c.both.ensures.full (handed_on _ _ _ _ c.in_err-last.was c.from_residual-in_err-last.ensures.1 e) in
    omega (arith, most0, most1, most2, full)

pub returns-in_err-next-clause-waits : goal.returns-in_err-next-clause-waits
returns-in_err-next-clause-waits c n apart w = c.count_until.ensures.adds.grows.waits n (c.both.ensures.adds.grows.waits n (c.eq.ensures.grows.waits n (c.add.ensures.grows.waits n (c.constant.ensures.adds.grows.waits n w))))

pub returns-in_err-next-clause-full : goal.returns-in_err-next-clause-full
returns-in_err-next-clause-full c e =
    let most0 = c.constant.ensures.adds.most in
    let most1 = c.add.ensures.grows.most in
    let most2 = c.eq.ensures.grows.most in
    let most3 = c.both.ensures.adds.most in
    let full = c.count_until.ensures.full (handed_on _ _ _ _ c.in_err-next.was c.from_residual-in_err-next.ensures.1 e) in
    omega (arith, most0, most1, most2, most3, full)

pub returns-clause-full : goal.returns-clause-full
returns-clause-full c e = cc

pub add-requires-clause-a_is : goal.add-requires-clause-a_is
add-requires-clause-a_is c = c.constant.ensures.adds.grows.extends.nets _ _ c.requires.got.is_net

pub add-requires-clause-b_is : goal.add-requires-clause-b_is
add-requires-clause-b_is c = c.in_ok-one.ensures.net.is_net

pub add-requires-clause-widths : goal.add-requires-clause-widths
add-requires-clause-widths c = sym (c.in_ok-one.ensures.net.has_width ∙ c.width-bits.ensures.value)

pub eq-requires-clause-b_is : goal.eq-requires-clause-b_is
eq-requires-clause-b_is c = (extends_twice _ _ _ c.constant.ensures.adds.grows.extends c.add.ensures.extends).nets _ _ c.requires.count

pub both-requires-clause-a : goal.both-requires-clause-a
both-requires-clause-a c = net_lasts _ _ _ _ (extends_twice _ _ _ c.constant.ensures.adds.grows.extends (extends_twice _ _ _ c.add.ensures.extends c.eq.ensures.extends)) c.requires.came

pub both-requires-clause-b : goal.both-requires-clause-b
both-requires-clause-b c = record { is_net = c.in_ok-all.ensures.net.0; has_width = c.in_ok-all.ensures.net.1 }

pub count_until-requires-clause-count : goal.count_until-requires-clause-count
count_until-requires-clause-count c = (extends_twice _ _ _ c.constant.ensures.adds.grows.extends (extends_twice _ _ _ c.add.ensures.extends (extends_twice _ _ _ c.eq.ensures.extends c.both.ensures.adds.grows.extends))).nets _ _ c.requires.got.is_net

pub count_until-requires-clause-more : goal.count_until-requires-clause-more
count_until-requires-clause-more c = record { is_net = (extends_twice _ _ _ c.eq.ensures.extends c.both.ensures.adds.grows.extends).nets _ _ c.in_ok-more.ensures.net.0; has_width = c.in_ok-more.ensures.net.1 }

pub count_until-requires-clause-counts : goal.count_until-requires-clause-counts
count_until-requires-clause-counts c = net_lasts _ _ _ _ (extends_twice _ _ _ c.constant.ensures.adds.grows.extends (extends_twice _ _ _ c.add.ensures.extends (extends_twice _ _ _ c.eq.ensures.extends c.both.ensures.adds.grows.extends))) c.requires.came

pub count_until-requires-clause-ends : goal.count_until-requires-clause-ends
count_until-requires-clause-ends c = c.in_ok-last.ensures.net

pub take_next-requires-clause-register : goal.take_next-requires-clause-register
take_next-requires-clause-register c = (extends_twice _ _ _ c.constant.ensures.adds.grows.extends (extends_twice _ _ _ c.add.ensures.extends (extends_twice _ _ _ c.eq.ensures.extends (extends_twice _ _ _ c.both.ensures.adds.grows.extends c.count_until.ensures.adds.grows.extends)))).nets _ _ c.requires.got.is_net

pub take_next-requires-clause-next : goal.take_next-requires-clause-next
take_next-requires-clause-next c = c.in_ok-next.ensures.net.is_net

pub take_next-requires-clause-widths : goal.take_next-requires-clause-widths
take_next-requires-clause-widths c = sym c.in_ok-next.ensures.net.has_width
