use Rattle.std.proofs.Common.{◌%◌, ◌^◌, ap, ◌∙◌, arith}
use Rattle.netlist.specs.Runs.{Cycle, cycle_of}
use Rattle.net_parts.specs.Laws.{bit_fits, extends_twice, adds_twice, grows_once, adds_grow, grows_fewer, grows_twice}
use Rattle.item_queues.proofs.Counts.{moved}
use Rattle.net_parts.specs.Refusing.{handed_on}
use Rattle.item_queues.proofs.pointers.move_pointer.Goals as goal
use Rattle.net_parts.specs.Fitting.{fits_in_two}

pub returns-clause-value : goal.returns-clause-value
returns-clause-value c run cycles r n lt =
    let cycle : Cycle = cycle_of run n in
    let v2 = (c.take_next.ensures.grows.extends.runs run cycles r).valuations n (omega arith) in
    let v1 = c.add.ensures.extends.valuations cycle v2 in
    let v0 = c.fit_bits.ensures.adds.grows.extends.valuations cycle v1 in
    let wide = c.width-bits.ensures.value in
    c.take_next.ensures.value run cycles r n lt
    ∙ moved c.args.pointer.width _ _ _ _ (omega (arith, c.width-bits.ensures.bounds.0, wide)) (bit_fits _ _ c.requires.moves cycle v0)
    (c.in_ok-step.ensures.value cycle v1 ∙ ap (λ k. cycle.net c.args.moves.number % 2 ^ k) wide) (c.in_ok-next.ensures.value cycle v2).1

pub returns-clause-no_more_wait : goal.returns-clause-no_more_wait
returns-clause-no_more_wait c n w =
    let set = c.take_next.ensures.no_more_wait n w in
    (c.fit_bits.ensures.adds.grows.no_more_wait n (c.add.ensures.grows.no_more_wait n set.0), set.1)

pub returns-in_err-step-clause-grows : goal.returns-in_err-step-clause-grows
returns-in_err-step-clause-grows c = let few = fits_in_two 1 c.width-bits.result in grows_fewer _ _ _ _ (omega (arith, few)) (adds_grow _ _ _ c.fit_bits.ensures.adds)

pub returns-in_err-step-clause-waits : goal.returns-in_err-step-clause-waits
returns-in_err-step-clause-waits c n apart w = c.fit_bits.ensures.adds.grows.waits n w

pub returns-in_err-step-clause-full : goal.returns-in_err-step-clause-full
returns-in_err-step-clause-full c e =
    let few = fits_in_two 1 c.width-bits.result in
    let full = c.fit_bits.ensures.full (handed_on _ _ _ _ c.in_err-step.was c.from_residual.ensures.1 e) in
    omega (arith, few, full)

pub returns-in_err-next-clause-grows : goal.returns-in_err-next-clause-grows
returns-in_err-next-clause-grows c = let few = fits_in_two 1 c.width-bits.result in grows_fewer _ _ _ _ (omega (arith, few)) (adds_grow _ _ _ (adds_twice _ _ _ _ _ c.fit_bits.ensures.adds (grows_once _ _ c.add.ensures.extends c.add.ensures.grows)))

pub returns-in_err-next-clause-waits : goal.returns-in_err-next-clause-waits
returns-in_err-next-clause-waits c n apart w = c.add.ensures.grows.waits n (c.fit_bits.ensures.adds.grows.waits n w)

pub returns-in_err-next-clause-full : goal.returns-in_err-next-clause-full
returns-in_err-next-clause-full c e =
    let few = fits_in_two 1 c.width-bits.result in
    let most0 = c.fit_bits.ensures.adds.most in
    let full = c.add.ensures.full.0 (handed_on _ _ _ _ c.in_err-next.was c.from_residual-in_err-next.ensures.1 e) in
    omega (arith, few, most0, full)

pub returns-clause-grows : goal.returns-clause-grows
returns-clause-grows c = let few = fits_in_two 1 c.width-bits.result in grows_fewer _ _ _ _ (omega (arith, few)) (grows_twice _ _ _ _ _ (adds_grow _ _ _ (adds_twice _ _ _ _ _ c.fit_bits.ensures.adds (grows_once _ _ c.add.ensures.extends c.add.ensures.grows))) c.take_next.ensures.grows)

pub returns-clause-waits : goal.returns-clause-waits
returns-clause-waits c n apart w = c.take_next.ensures.still_wait n apart (c.add.ensures.grows.waits n (c.fit_bits.ensures.adds.grows.waits n w))

pub returns-clause-full : goal.returns-clause-full
returns-clause-full c e = cc

pub fit_bits-requires-clause-net : goal.fit_bits-requires-clause-net
fit_bits-requires-clause-net c = c.requires.moves

pub add-requires-clause-a_is : goal.add-requires-clause-a_is
add-requires-clause-a_is c = c.fit_bits.ensures.adds.grows.extends.nets _ _ c.requires.pointer

pub add-requires-clause-b_is : goal.add-requires-clause-b_is
add-requires-clause-b_is c = c.in_ok-step.ensures.net.is_net

pub take_next-requires-clause-register : goal.take_next-requires-clause-register
take_next-requires-clause-register c = (extends_twice _ _ _ c.fit_bits.ensures.adds.grows.extends c.add.ensures.extends).nets _ _ c.requires.pointer

pub take_next-requires-clause-next : goal.take_next-requires-clause-next
take_next-requires-clause-next c = c.in_ok-next.ensures.net.0
