use Rattle.std.proofs.Common.{arith, ◌∙◌}
use Rattle.netlist.specs.Runs.{Always}
use Rattle.net_parts.specs.Laws.{if_ok, extends_twice, net_lasts, adds_fewer, adds_twice, grows_once}
use Rattle.mm_arbiter.specs.Backward.{WaitsAt}
use Rattle.mm_arbiter.proofs.Words.{wait_level}
use Rattle.net_parts.specs.Refusing.{handed_on}
use Rattle.mm_arbiter.proofs.back.wait_at.Goals as goal

pub returns-clause-value : goal.returns-clause-value
returns-clause-value c =
    if_ok c.other_or_stalled.result _ (λ wait. Always c.other_or_stalled.new.builder (λ cycle. WaitsAt cycle c.args.chosen c.args.seat c.args.below.now wait))
    (λ wait value cycle v3. (
    let v2 = c.other_or_stalled.ensures.adds.grows.extends.valuations cycle v3 in
    let v1 = c.in_ok-other.ensures.extends.valuations cycle v2 in
    wait_level (cycle.net c.args.chosen.number) c.args.seat c.in_ok-here.here.width _ _ (cycle.net c.args.below.now.wait.number) _ c.in_ok-here.ensures.net.1 (c.in_ok-here.ensures.value cycle v1).1 (c.in_ok-other.ensures.value cycle v2).1 (value cycle v3)))
    c.other_or_stalled.ensures.value

pub returns-in_err-here-clause-adds : goal.returns-in_err-here-clause-adds
returns-in_err-here-clause-adds c = adds_fewer _ _ _ _ (omega arith) (grows_once _ _ c.slice.ensures.extends c.slice.ensures.grows)

pub returns-in_err-here-clause-full : goal.returns-in_err-here-clause-full
returns-in_err-here-clause-full c e = let full = c.slice.ensures.full.0 (handed_on _ _ _ _ c.in_err-here.was c.from_residual.ensures.1 e) in omega (arith, full)

pub returns-in_err-other-clause-adds : goal.returns-in_err-other-clause-adds
returns-in_err-other-clause-adds c = adds_fewer _ _ _ _ (omega arith) (adds_twice _ _ _ _ _ (grows_once _ _ c.slice.ensures.extends c.slice.ensures.grows) (grows_once _ _ c.not.ensures.extends c.not.ensures.grows))

pub returns-in_err-other-clause-full : goal.returns-in_err-other-clause-full
returns-in_err-other-clause-full c e =
    let most0 = c.slice.ensures.grows.most in
    let full = c.not.ensures.full.0 (handed_on _ _ _ _ c.in_err-other.was c.from_residual-in_err-other.ensures.1 e) in
    omega (arith, most0, full)

pub returns-clause-net : goal.returns-clause-net
returns-clause-net c = c.other_or_stalled.ensures.net

pub returns-clause-adds : goal.returns-clause-adds
returns-clause-adds c = adds_fewer _ _ _ _ (omega arith) (adds_twice _ _ _ _ _ (adds_twice _ _ _ _ _ (grows_once _ _ c.slice.ensures.extends c.slice.ensures.grows) (grows_once _ _ c.not.ensures.extends c.not.ensures.grows)) c.other_or_stalled.ensures.adds)

pub returns-clause-full : goal.returns-clause-full
returns-clause-full c e =
    let most0 = c.slice.ensures.grows.most in
    let most1 = c.not.ensures.grows.most in
    let full = c.other_or_stalled.ensures.full e in
    omega (arith, most0, most1, full)

pub slice-requires-clause-a_is : goal.slice-requires-clause-a_is
slice-requires-clause-a_is c = c.requires.chosen.is_net

pub not-requires : goal.not-requires
not-requires c = record { a_is = c.in_ok-here.ensures.net.0 }

pub other_or_stalled-requires-clause-other : goal.other_or_stalled-requires-clause-other
other_or_stalled-requires-clause-other c = record { is_net = c.in_ok-other.ensures.net.0; has_width = c.in_ok-other.ensures.net.1 ∙ c.in_ok-here.ensures.net.1 ∙ omega arith }

pub other_or_stalled-requires-clause-stall : goal.other_or_stalled-requires-clause-stall
other_or_stalled-requires-clause-stall c = net_lasts _ _ _ _ (extends_twice _ _ _ c.slice.ensures.extends c.not.ensures.extends) c.requires.below.wait
