use Rattle.std.proofs.Common.{◌-◌, if◌then◌else◌, ap, ◌∙◌, arith, sym}
use Rattle.histories.specs.History.{is_raised}
use Rattle.netlist.specs.Runs.{Cycle, cycle_of}
use Rattle.net_parts.specs.Laws.{bit_fits, extends_twice, net_lasts, adds_twice, adds_grow, grows_fewer, grows_twice}
use Rattle.mm_host.proofs.Levels.{choice_raised}
use Rattle.net_parts.specs.Refusing.{handed_on}
use Rattle.mm_host.proofs.writes.finish_left.Goals as goal

pub returns-clause-on : goal.returns-clause-on
returns-clause-on c run cycles r n lt =
    let cycle : Cycle = cycle_of run n in
    let v3 = (c.take_next.ensures.grows.extends.runs run cycles r).valuations n (omega arith) in
    let v2 = c.choose.ensures.adds.grows.extends.valuations cycle v3 in
    let v1 = c.one_fewer.ensures.adds.grows.extends.valuations cycle v2 in
    c.take_next.ensures.value run cycles r n lt
    ∙ choice_raised _ _ _ _ (bit_fits _ _ c.in_ok-taken.ensures.net cycle v1) (c.in_ok-next.ensures.value cycle v3)
    ∙ ap (λ k. if is_raised (run.net n c.in_ok-taken.taken.number) then k else run.net n c.args.held.left.number) (c.in_ok-fewer.ensures.value cycle v2)
    ∙ ap (λ t. if t then run.net n c.args.held.beats.number - 1 else run.net n c.args.held.left.number) (c.in_ok-taken.ensures.value cycle v1)

pub returns-clause-no_more_wait : goal.returns-clause-no_more_wait
returns-clause-no_more_wait c n w =
    let set = c.take_next.ensures.no_more_wait n w in
    (c.unless.ensures.adds.grows.no_more_wait n (c.one_fewer.ensures.adds.grows.no_more_wait n (c.choose.ensures.adds.grows.no_more_wait n set.0)), set.1)

pub one_fewer-requires-clause-net : goal.one_fewer-requires-clause-net
one_fewer-requires-clause-net c = net_lasts _ _ _ _ c.unless.ensures.adds.grows.extends c.requires.beats

pub choose-requires-clause-bit : goal.choose-requires-clause-bit
choose-requires-clause-bit c = net_lasts _ _ _ _ c.one_fewer.ensures.adds.grows.extends c.in_ok-taken.ensures.net

pub choose-requires-clause-one : goal.choose-requires-clause-one
choose-requires-clause-one c = c.in_ok-fewer.ensures.net.is_net

pub choose-requires-clause-other : goal.choose-requires-clause-other
choose-requires-clause-other c = (extends_twice _ _ _ c.unless.ensures.adds.grows.extends c.one_fewer.ensures.adds.grows.extends).nets _ _ c.requires.left.is_net

pub choose-requires-clause-widths : goal.choose-requires-clause-widths
choose-requires-clause-widths c = c.in_ok-fewer.ensures.net.has_width ∙ sym c.requires.left.has_width

pub take_next-requires-clause-register : goal.take_next-requires-clause-register
take_next-requires-clause-register c = (extends_twice _ _ _ c.unless.ensures.adds.grows.extends (extends_twice _ _ _ c.one_fewer.ensures.adds.grows.extends c.choose.ensures.adds.grows.extends)).nets _ _ c.requires.left.is_net

pub take_next-requires-clause-waits : goal.take_next-requires-clause-waits
take_next-requires-clause-waits c = c.choose.ensures.adds.grows.waits _ (c.one_fewer.ensures.adds.grows.waits _ (c.unless.ensures.adds.grows.waits _ c.requires.waits))

pub take_next-requires-clause-next : goal.take_next-requires-clause-next
take_next-requires-clause-next c = c.in_ok-next.ensures.net.is_net

pub take_next-requires-clause-widths : goal.take_next-requires-clause-widths
take_next-requires-clause-widths c = c.requires.left.has_width ∙ sym (c.in_ok-next.ensures.net.has_width ∙ c.in_ok-fewer.ensures.net.has_width)

pub returns-clause-waits : goal.returns-clause-waits
returns-clause-waits c n apart w = c.take_next.ensures.still_wait n apart (c.choose.ensures.adds.grows.waits n (c.one_fewer.ensures.adds.grows.waits n (c.unless.ensures.adds.grows.waits n w)))

pub returns-in_err-taken-clause-grows : goal.returns-in_err-taken-clause-grows
returns-in_err-taken-clause-grows c = grows_fewer _ _ _ _ (omega arith) (adds_grow _ _ _ c.unless.ensures.adds)

pub returns-in_err-taken-clause-waits : goal.returns-in_err-taken-clause-waits
returns-in_err-taken-clause-waits c n apart w = c.unless.ensures.adds.grows.waits n w

pub returns-in_err-taken-clause-full : goal.returns-in_err-taken-clause-full
returns-in_err-taken-clause-full c e = let full = c.unless.ensures.full (handed_on _ _ _ _ c.in_err-taken.was c.from_residual.ensures.1 e) in omega (arith, full)

pub returns-in_err-fewer-clause-grows : goal.returns-in_err-fewer-clause-grows
returns-in_err-fewer-clause-grows c = grows_fewer _ _ _ _ (omega arith) (adds_grow _ _ _ (adds_twice _ _ _ _ _ c.unless.ensures.adds c.one_fewer.ensures.adds))

pub returns-in_err-fewer-clause-waits : goal.returns-in_err-fewer-clause-waits
returns-in_err-fewer-clause-waits c n apart w = c.one_fewer.ensures.adds.grows.waits n (c.unless.ensures.adds.grows.waits n w)

pub returns-in_err-fewer-clause-full : goal.returns-in_err-fewer-clause-full
returns-in_err-fewer-clause-full c e =
    let most0 = c.unless.ensures.adds.most in
    let full = c.one_fewer.ensures.full (handed_on _ _ _ _ c.in_err-fewer.was c.from_residual-in_err-fewer.ensures.1 e) in
    omega (arith, most0, full)

pub returns-in_err-next-clause-grows : goal.returns-in_err-next-clause-grows
returns-in_err-next-clause-grows c = grows_fewer _ _ _ _ (omega arith) (adds_grow _ _ _ (adds_twice _ _ _ _ _ (adds_twice _ _ _ _ _ c.unless.ensures.adds c.one_fewer.ensures.adds) c.choose.ensures.adds))

pub returns-in_err-next-clause-waits : goal.returns-in_err-next-clause-waits
returns-in_err-next-clause-waits c n apart w = c.choose.ensures.adds.grows.waits n (c.one_fewer.ensures.adds.grows.waits n (c.unless.ensures.adds.grows.waits n w))

pub returns-in_err-next-clause-full : goal.returns-in_err-next-clause-full
returns-in_err-next-clause-full c e =
    let most0 = c.unless.ensures.adds.most in
    let most1 = c.one_fewer.ensures.adds.most in
    let full = c.choose.ensures.full (handed_on _ _ _ _ c.in_err-next.was c.from_residual-in_err-next.ensures.1 e) in
    omega (arith, most0, most1, full)

pub returns-clause-grows : goal.returns-clause-grows
returns-clause-grows c = grows_fewer _ _ _ _ (omega arith) (grows_twice _ _ _ _ _ (adds_grow _ _ _ (adds_twice _ _ _ _ _ (adds_twice _ _ _ _ _ c.unless.ensures.adds c.one_fewer.ensures.adds) c.choose.ensures.adds)) c.take_next.ensures.grows)

pub returns-clause-full : goal.returns-clause-full
returns-clause-full c e = cc
