use Rattle.std.proofs.Common.{◌≡◌, not, nat_eq, ap, ◌∙◌}
use Rattle.histories.specs.History.{is_raised}
use Rattle.netlist.specs.Runs.{Always}
use Rattle.net_parts.specs.Laws.{if_ok, adds_twice}
use Rattle.net_parts.specs.Levels.{none_is}
use Rattle.net_terms.proofs.makers.is_zero.Goals as goal

pub returns-clause-value : goal.returns-clause-value
returns-clause-value c =
    if_ok c.turned.result _ (λ net. Always c.turned.new.builder (λ cycle. is_raised (cycle.net net.number) ≡ nat_eq (cycle.net c.args.one.number) 0))
    (λ net value cycle v. (
    let v0 = c.turned.ensures.adds.grows.extends.valuations cycle v in
    value cycle v ∙ ap not (c.in_ok-some.ensures.value cycle v0) ∙ none_is (cycle.net c.args.one.number)))
    c.turned.ensures.value

pub returns-clause-adds : goal.returns-clause-adds
returns-clause-adds c = adds_twice _ _ _ _ _ c.is_any.ensures.adds c.turned.ensures.adds
