use Rattle.std.proofs.Common.{◌≡◌, not, ◌&&◌, ap, ◌∙◌, arith}
use Rattle.histories.specs.History.{is_raised}
use Rattle.netlist.specs.Runs.{Always}
use Rattle.net_parts.specs.Laws.{if_ok, adds_fewer, adds_twice}
use Rattle.net_parts.proofs.gates.unless.Goals as goal

pub returns-clause-value : goal.returns-clause-value
returns-clause-value c =
    if_ok c.both.result _ (λ net. Always c.both.new.builder (λ cycle. is_raised (cycle.net net.number) ≡ (is_raised (cycle.net c.args.a.number) && not (is_raised (cycle.net c.args.b.number)))))
    (λ net value cycle v. value cycle v ∙ ap (λ t. is_raised (cycle.net c.args.a.number) && t) (c.in_ok-low.ensures.value cycle (c.both.ensures.adds.grows.extends.valuations cycle v)))
    c.both.ensures.value

pub returns-in_err-low-clause-adds : goal.returns-in_err-low-clause-adds
returns-in_err-low-clause-adds c = adds_fewer _ _ _ _ (omega arith) c.turned.ensures.adds

pub returns-clause-adds : goal.returns-clause-adds
returns-clause-adds c = adds_twice _ _ _ _ _ c.turned.ensures.adds c.both.ensures.adds
