use Rattle.std.proofs.Common.{◌≡◌, if◌then◌else◌, ◌∙◌, ap₂}
use Rattle.histories.specs.History.{is_raised}
use Rattle.netlist.specs.Runs.{Always}
use Rattle.net_parts.specs.Laws.{if_ok}
use Rattle.command_nets.specs.Groups.{chosen_raised}
use Rattle.command_nets.proofs.counts.count_until.Goals as goal

pub returns-clause-value : goal.returns-clause-value
returns-clause-value c =
    if_ok c.choose-2.result _ (λ next. Always c.choose-2.new.builder (λ cycle. cycle.net next.number ≡ (if is_raised (cycle.net c.args.ends.number) then 0 else if is_raised (cycle.net c.args.counts.number) then cycle.net c.args.more.number else cycle.net c.args.count.number)))
    (λ next value cycle v. (
    let v1 = c.choose-2.ensures.adds.grows.extends.valuations cycle v in
    let v0 = c.choose.ensures.adds.grows.extends.valuations cycle v1 in
    value cycle v ∙ chosen_raised (cycle.net c.args.ends.number) _ _
    ∙ ap₂ (λ z m. if is_raised (cycle.net c.args.ends.number) then z else m) (c.in_ok-none.ensures.value cycle v0) (c.in_ok-some.ensures.value cycle v1 ∙ chosen_raised (cycle.net c.args.counts.number) _ _)))
    c.choose-2.ensures.value
