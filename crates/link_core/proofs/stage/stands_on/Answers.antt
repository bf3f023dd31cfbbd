use Rattle.std.proofs.Common.{◌≡◌, arith}
use Rattle.histories.specs.History.{is_raised}
use Rattle.netlist.specs.Runs.{Always}
use Rattle.net_parts.specs.Laws.{adds_twice, if_ok, net_lasts, adds_fewer}
use Rattle.link_core.specs.StageNets.{is_standing}
use Rattle.link_core.proofs.Raised.{both_are_raised}
use Rattle.net_parts.specs.Refusing.{handed_on}
use Rattle.link_core.proofs.stage.stands_on.Goals as goal

pub returns-clause-adds : goal.returns-clause-adds
returns-clause-adds c = adds_twice _ _ _ _ _ c.shown.ensures.adds c.both.ensures.adds

pub returns-clause-value : goal.returns-clause-value
returns-clause-value c =
    if_ok c.both.result _ (λ n. Always c.both.new.builder (λ cycle. is_raised (cycle.net n.number) ≡ is_standing cycle c.args.first.now c.args.wait))
    (λ n value cycle v. (
    let before = c.both.ensures.adds.grows.extends.valuations cycle v in
    both_are_raised (is_raised (cycle.net c.in_ok-held.held.number)) _ (cycle.net c.args.wait.number) (cycle.net n.number) (c.in_ok-held.ensures.value cycle before) (value cycle v)))
    c.both.ensures.level

pub returns-in_err-held-clause-adds : goal.returns-in_err-held-clause-adds
returns-in_err-held-clause-adds c = adds_fewer _ _ _ _ (omega arith) c.shown.ensures.adds

pub returns-in_err-held-clause-full : goal.returns-in_err-held-clause-full
returns-in_err-held-clause-full c e = let full = c.shown.ensures.full (handed_on _ _ _ _ c.in_err-held.was c.from_residual.ensures.1 e) in omega (arith, full)

pub returns-clause-net : goal.returns-clause-net
returns-clause-net c = c.both.ensures.net

pub returns-clause-full : goal.returns-clause-full
returns-clause-full c e =
    let most0 = c.shown.ensures.adds.most in
    let full = c.both.ensures.full e in
    omega (arith, most0, full)

pub shown-requires : goal.shown-requires
shown-requires c = c.requires.first

pub both-requires-clause-a : goal.both-requires-clause-a
both-requires-clause-a c = c.in_ok-held.ensures.net

pub both-requires-clause-b : goal.both-requires-clause-b
both-requires-clause-b c = net_lasts _ _ _ _ c.shown.ensures.adds.grows.extends c.requires.wait
