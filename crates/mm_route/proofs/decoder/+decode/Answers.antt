use Rattle.std.proofs.Common.{◌≡◌, ◌∷◌, length, sym, subst, ap, ◌∙◌, arith, ◌+◌, List}
use Rattle.netlist.specs.Runs.{Always}
use Rattle.net_parts.specs.Laws.{if_ok, adds_fewer, adds_twice, grows_once}
use Rattle.memory_runs.specs.declared.sides.route.Route.{Route}
use Rattle.net_parts.specs.Refusing.{handed_on}
use Rattle.net_parts.specs.Nets.{IsNetOfWidth}
use Rattle.std.proofs.lemmas.List.{nil_from_length}
use Rattle.mm_route.specs.Entries.{AreEntries}
use Rattle.mm_route.specs.Decoder.{hits_in, asked_lasts}
use Rattle.mm_route.proofs.Decoding.{bit_below}
use Rattle.mm_route.proofs.decoder.+decode.Goals as goal

pub decode-requires : goal.decode-requires
decode-requires t c =
    let is = c.in-Some.ensures.cases.0 in
    let fewer = ap (length {A = Route}) is in
    let d = c.decreases in
    let few = c.requires.few in (
      omega (arith, d, fewer),
      (
        asked_lasts _ _ _ c.hit.ensures.adds.grows.extends c.requires.asked,
        ((subst (AreEntries c.args.asked.now.width) is c.requires.entries.1), (c.requires.small, omega (arith, few, fewer))),
      ),
    )

pub returns-in_ok-above-in-Some-clause-value : goal.returns-in_ok-above-in-Some-clause-value
returns-in_ok-above-in-Some-clause-value t c =
    let is = c.in-Some.ensures.cases.0 in
    if_ok c.concat.result _ (λ bits. Always c.concat.new.self (λ cycle. cycle.net bits.number ≡ hits_in cycle c.args.asked.now (c.args.first.now ∷ c.args.later.now)))
    (λ bits value cycle v2. (
    let v1 = c.concat.ensures.extends.valuations cycle v2 in
    let v0 = c.decode.ensures.adds.grows.extends.valuations cycle v1 in
    bit_below c.in_ok-held.held.width _ _ _ _ _ c.in_ok-held.ensures.net.has_width (value cycle v2).1 (c.in_ok-held.ensures.value cycle v0)
    (c.in_ok-above-in-Some.ensures.value cycle v1 ∙ ap (hits_in cycle c.args.asked.now) (sym is))))
    c.concat.ensures.value

pub returns-in_err-held-clause-adds : goal.returns-in_err-held-clause-adds
returns-in_err-held-clause-adds t c = adds_fewer _ _ _ _ (omega arith) c.hit.ensures.adds

pub returns-in_err-held-clause-full : goal.returns-in_err-held-clause-full
returns-in_err-held-clause-full t c e = let full = c.hit.ensures.full (handed_on _ _ _ _ c.in_err-held.was c.from_residual.ensures.1 e) in omega (arith, full)

pub returns-in-None-clause-adds : goal.returns-in-None-clause-adds
returns-in-None-clause-adds t c = adds_fewer _ _ _ _ (omega arith) c.hit.ensures.adds

pub returns-in-None-clause-full : goal.returns-in-None-clause-full
returns-in-None-clause-full t c e = cc

pub returns-in_err-above-in-Some-clause-adds : goal.returns-in_err-above-in-Some-clause-adds
returns-in_err-above-in-Some-clause-adds t c = let count = ap (length {A = Route}) c.in-Some.ensures.cases.0 in adds_fewer _ _ _ _ (omega (arith, count)) (adds_twice _ _ _ _ _ c.hit.ensures.adds c.decode.ensures.adds)

pub returns-in_err-above-in-Some-clause-full : goal.returns-in_err-above-in-Some-clause-full
returns-in_err-above-in-Some-clause-full t c e = let count = ap (length {A = Route}) c.in-Some.ensures.cases.0 in let most = c.hit.ensures.adds.most in let full = c.decode.ensures.full (handed_on _ _ _ _ c.in_err-above-in-Some.was c.from_residual-in_err-above-in-Some.ensures.1 e) in omega (arith, count, most, full)

pub returns-in_ok-above-in-Some-clause-adds : goal.returns-in_ok-above-in-Some-clause-adds
returns-in_ok-above-in-Some-clause-adds t c = let count = ap (length {A = Route}) c.in-Some.ensures.cases.0 in adds_fewer _ _ _ _ (omega (arith, count)) (adds_twice _ _ _ _ _ (adds_twice _ _ _ _ _ c.hit.ensures.adds c.decode.ensures.adds) (grows_once _ _ c.concat.ensures.extends c.concat.ensures.grows))

pub returns-in_ok-above-in-Some-clause-full : goal.returns-in_ok-above-in-Some-clause-full
returns-in_ok-above-in-Some-clause-full t c e = let count = ap (length {A = Route}) c.in-Some.ensures.cases.0 in let most = c.hit.ensures.adds.most in let most2 = c.decode.ensures.adds.most in let full = c.concat.ensures.full.0 e in omega (arith, count, most, most2, full)

pub concat-requires-clause-a_is : goal.concat-requires-clause-a_is
concat-requires-clause-a_is t c = c.in_ok-above-in-Some.ensures.net.is_net

pub concat-requires-clause-b_is : goal.concat-requires-clause-b_is
concat-requires-clause-b_is t c = c.decode.ensures.adds.grows.extends.nets _ _ c.in_ok-held.ensures.net.is_net

pub concat-requires-clause-widths : goal.concat-requires-clause-widths
concat-requires-clause-widths t c = let count = ap (length {A = Route}) c.in-Some.ensures.cases.0 in let few = c.requires.few in let width = c.in_ok-above-in-Some.ensures.net.has_width in let one = c.in_ok-held.ensures.net.has_width in omega (arith, count, few, width, one)

pub returns-in_ok-above-in-Some-clause-net : goal.returns-in_ok-above-in-Some-clause-net
returns-in_ok-above-in-Some-clause-net t c =
    let count = ap (length {A = Route}) c.in-Some.ensures.cases.0 in
    let width = c.in_ok-above-in-Some.ensures.net.has_width in
    let one = c.in_ok-held.ensures.net.has_width in
    if_ok c.concat.result _ (λ bits. IsNetOfWidth c.concat.new.self bits (length c.args.later.now + 1)) (λ bits net. record { is_net = net.0; has_width = net.1 ∙ omega (arith, count, width, one) }) c.concat.ensures.net

pub returns-in-None-clause-net : goal.returns-in-None-clause-net
returns-in-None-clause-net t c =
    let none = c.in-None.ensures.cases in
    let held = c.in_ok-held.ensures.net in
    record { is_net = held.is_net; has_width = held.has_width ∙ omega (arith, none) }

pub returns-in-None-clause-value : goal.returns-in-None-clause-value
returns-in-None-clause-value t c cycle v =
    let held = c.in_ok-held.ensures.value cycle v in
    subst (λ (later : List Route). cycle.net c.in_ok-held.held.number ≡ hits_in cycle c.args.asked.now (c.args.first.now ∷ later)) (sym (nil_from_length c.args.later.now c.in-None.ensures.cases)) (omega (arith, held))

pub hit-requires-clause-entry : goal.hit-requires-clause-entry
hit-requires-clause-entry t c = c.requires.entries.0
