use Rattle.std.proofs.Common.{not, ◌||◌, ap, ◌∙◌, arith}
use Rattle.histories.specs.History.{is_raised}
use Rattle.netlist.specs.Runs.{Always}
use Rattle.net_parts.specs.Laws.{if_ok, adds_twice, adds_fewer, net_lasts, extends_twice}
use Rattle.net_parts.specs.Refusing.{handed_on}
use Rattle.mm_route.specs.Backward.{WaitsAbove, picked, waits_in, backs_last}
use Rattle.mm_route.proofs.router.wait_above.Goals as goal

pub pick_wait-requires-clause-backs : goal.pick_wait-requires-clause-backs
pick_wait-requires-clause-backs c = backs_last _ _ _ _ c.default_wait.ensures.adds.grows.extends c.requires.backs

pub returns-clause-value : goal.returns-clause-value
returns-clause-value c =
    if_ok c.shut_or_stalled.result _ (λ wait. Always c.shut_or_stalled.new.builder (λ cycle. WaitsAbove cycle c.args.shown.now c.args.backs.now wait))
    (λ wait value cycle v3. (
    let v2 = c.shut_or_stalled.ensures.adds.grows.extends.valuations cycle v3 in
    let v1 = c.turned.ensures.adds.grows.extends.valuations cycle v2 in
    let v0 = c.pick_wait.ensures.adds.grows.extends.valuations cycle v1 in
    value cycle v3 ∙ ap (λ t. t || is_raised (cycle.net c.in_ok-stall.stall.number)) (c.in_ok-shut.ensures.value cycle v2)
    ∙ ap (λ n. not (is_raised (cycle.net c.args.shown.now.gate.number)) || is_raised n)
    (c.in_ok-stall.ensures.value cycle v1 ∙ ap (picked 0 (cycle.net c.args.shown.now.place.number) (waits_in cycle c.args.backs.now)) (c.in_ok-none.ensures.value cycle v0))))
    c.shut_or_stalled.ensures.value

pub returns-clause-adds : goal.returns-clause-adds
returns-clause-adds c = adds_fewer _ _ _ _ (omega arith) (adds_twice _ _ _ _ _ (adds_twice _ _ _ _ _ (adds_twice _ _ _ _ _ c.default_wait.ensures.adds c.pick_wait.ensures.adds) c.turned.ensures.adds) c.shut_or_stalled.ensures.adds)

pub returns-in_err-none-clause-adds : goal.returns-in_err-none-clause-adds
returns-in_err-none-clause-adds c = adds_fewer _ _ _ _ (omega arith) c.default_wait.ensures.adds

pub returns-in_err-none-clause-full : goal.returns-in_err-none-clause-full
returns-in_err-none-clause-full c e = let full = c.default_wait.ensures.full (handed_on _ _ _ _ c.in_err-none.was c.from_residual.ensures.1 e) in omega (arith, full)

pub returns-in_err-stall-clause-adds : goal.returns-in_err-stall-clause-adds
returns-in_err-stall-clause-adds c = adds_fewer _ _ _ _ (omega arith) (adds_twice _ _ _ _ _ c.default_wait.ensures.adds c.pick_wait.ensures.adds)

pub returns-in_err-stall-clause-full : goal.returns-in_err-stall-clause-full
returns-in_err-stall-clause-full c e = let most = c.default_wait.ensures.adds.most in let full = c.pick_wait.ensures.full (handed_on _ _ _ _ c.in_err-stall.was c.from_residual-in_err-stall.ensures.1 e) in omega (arith, most, full)

pub returns-in_err-shut-clause-adds : goal.returns-in_err-shut-clause-adds
returns-in_err-shut-clause-adds c = adds_fewer _ _ _ _ (omega arith) (adds_twice _ _ _ _ _ (adds_twice _ _ _ _ _ c.default_wait.ensures.adds c.pick_wait.ensures.adds) c.turned.ensures.adds)

pub returns-in_err-shut-clause-full : goal.returns-in_err-shut-clause-full
returns-in_err-shut-clause-full c e = let most = c.default_wait.ensures.adds.most in let most2 = c.pick_wait.ensures.adds.most in let full = c.turned.ensures.full (handed_on _ _ _ _ c.in_err-shut.was c.from_residual-in_err-shut.ensures.1 e) in omega (arith, most, most2, full)

pub returns-clause-full : goal.returns-clause-full
returns-clause-full c e = let most = c.default_wait.ensures.adds.most in let most2 = c.pick_wait.ensures.adds.most in let most3 = c.turned.ensures.adds.most in let full = c.shut_or_stalled.ensures.full e in omega (arith, most, most2, most3, full)

pub pick_wait-requires-clause-bits : goal.pick_wait-requires-clause-bits
pick_wait-requires-clause-bits c = net_lasts _ _ _ _ c.default_wait.ensures.adds.grows.extends c.requires.shown.place

pub pick_wait-requires-clause-low : goal.pick_wait-requires-clause-low
pick_wait-requires-clause-low c = c.in_ok-none.ensures.net

pub turned-requires : goal.turned-requires
turned-requires c = record { a = net_lasts _ _ _ 1 (extends_twice _ _ _ c.default_wait.ensures.adds.grows.extends c.pick_wait.ensures.adds.grows.extends) c.requires.shown.gate }

pub shut_or_stalled-requires-clause-shut : goal.shut_or_stalled-requires-clause-shut
shut_or_stalled-requires-clause-shut c = c.in_ok-shut.ensures.net

pub shut_or_stalled-requires-clause-stall : goal.shut_or_stalled-requires-clause-stall
shut_or_stalled-requires-clause-stall c = net_lasts _ _ _ 1 c.turned.ensures.adds.grows.extends c.in_ok-stall.ensures.net

pub returns-clause-net : goal.returns-clause-net
returns-clause-net c = c.shut_or_stalled.ensures.net
