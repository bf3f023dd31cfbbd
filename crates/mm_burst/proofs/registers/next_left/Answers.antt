use Rattle.std.proofs.Common.{◌≡◌, ◌-◌, if◌then◌else◌, ap, ◌∙◌, arith}
use Rattle.histories.specs.History.{is_raised}
use Rattle.netlist.specs.Runs.{Always}
use Rattle.net_parts.specs.Laws.{if_ok, net_fits, adds_fewer, grows_once, adds_twice}
use Rattle.mm_burst.proofs.Levels.{left_behind}
use Rattle.net_parts.specs.Refusing.{handed_on}
use Rattle.mm_burst.proofs.registers.next_left.Goals as goal

pub returns-clause-value : goal.returns-clause-value
returns-clause-value c =
    if_ok c.pick-2.result _ (λ made. Always c.pick-2.new.builder (λ cycle. cycle.net made.number ≡ (if is_raised (cycle.net c.args.taken.number) then (if is_raised (cycle.net c.args.piece.now.follows.number) then cycle.net c.args.piece.now.left.number - cycle.net c.args.piece.now.step.number else 0) else cycle.net c.args.held.number)))
    (λ made value cycle v. (
    let v2 = c.pick-2.ensures.adds.grows.extends.valuations cycle v in
    let v1 = c.pick.ensures.adds.grows.extends.valuations cycle v2 in
    let v0 = c.constant.ensures.adds.grows.extends.valuations cycle v1 in
    let before = c.sub.ensures.extends.valuations cycle v0 in
    let behind = left_behind (is_raised (cycle.net c.args.piece.now.follows.number)) c.args.piece.now.left.width (cycle.net c.args.piece.now.left.number) (cycle.net c.args.piece.now.step.number) (cycle.net c.in_ok-less.less.number) (cycle.net c.in_ok-none.none.number) (cycle.net c.in_ok-behind.behind.number)
    (c.requires.within cycle before) (net_fits _ _ c.requires.left.is_net cycle before) (c.in_ok-less.ensures.value cycle v0).1 (c.in_ok-none.ensures.value cycle v1) (c.in_ok-behind.ensures.value cycle v2) in
    value cycle v ∙ ap (λ n. if is_raised (cycle.net c.args.taken.number) then n else cycle.net c.args.held.number) behind))
    c.pick-2.ensures.value

pub returns-in_err-less-clause-adds : goal.returns-in_err-less-clause-adds
returns-in_err-less-clause-adds c = adds_fewer _ _ _ _ (omega arith) (grows_once _ _ c.sub.ensures.extends c.sub.ensures.grows)

pub returns-in_err-less-clause-full : goal.returns-in_err-less-clause-full
returns-in_err-less-clause-full c e =
    let full = c.sub.ensures.full.0 (handed_on _ _ _ _ c.in_err-less.was c.from_residual.ensures.1 e) in
    omega (arith, full)

pub returns-in_err-none-clause-adds : goal.returns-in_err-none-clause-adds
returns-in_err-none-clause-adds c = adds_fewer _ _ _ _ (omega arith) (adds_twice _ _ _ _ _ (grows_once _ _ c.sub.ensures.extends c.sub.ensures.grows) c.constant.ensures.adds)

pub returns-in_err-none-clause-full : goal.returns-in_err-none-clause-full
returns-in_err-none-clause-full c e =
    let most0 = c.sub.ensures.grows.most in
    let full = c.constant.ensures.full (handed_on _ _ _ _ c.in_err-none.was c.from_residual-in_err-none.ensures.1 e) in
    omega (arith, most0, full)

pub returns-in_err-behind-clause-adds : goal.returns-in_err-behind-clause-adds
returns-in_err-behind-clause-adds c = adds_fewer _ _ _ _ (omega arith) (adds_twice _ _ _ _ _ (adds_twice _ _ _ _ _ (grows_once _ _ c.sub.ensures.extends c.sub.ensures.grows) c.constant.ensures.adds) c.pick.ensures.adds)

pub returns-in_err-behind-clause-full : goal.returns-in_err-behind-clause-full
returns-in_err-behind-clause-full c e =
    let most0 = c.sub.ensures.grows.most in
    let most1 = c.constant.ensures.adds.most in
    let full = c.pick.ensures.full (handed_on _ _ _ _ c.in_err-behind.was c.from_residual-in_err-behind.ensures.1 e) in
    omega (arith, most0, most1, full)

pub returns-clause-adds : goal.returns-clause-adds
returns-clause-adds c = adds_fewer _ _ _ _ (omega arith) (adds_twice _ _ _ _ _ (adds_twice _ _ _ _ _ (adds_twice _ _ _ _ _ (grows_once _ _ c.sub.ensures.extends c.sub.ensures.grows) c.constant.ensures.adds) c.pick.ensures.adds) c.pick-2.ensures.adds)

pub returns-clause-full : goal.returns-clause-full
returns-clause-full c e =
    let most0 = c.sub.ensures.grows.most in
    let most1 = c.constant.ensures.adds.most in
    let most2 = c.pick.ensures.adds.most in
    let full = c.pick-2.ensures.full e in
    omega (arith, most0, most1, most2, full)
