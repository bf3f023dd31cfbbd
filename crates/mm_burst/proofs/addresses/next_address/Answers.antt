use Rattle.std.proofs.Common.{◌≡◌, ◌+◌, ◌*◌, ◌%◌, ◌^◌, if◌then◌else◌, ap, ◌∙◌}
use Rattle.histories.specs.History.{is_raised}
use Rattle.netlist.specs.Runs.{Always}
use Rattle.net_parts.specs.Laws.{if_ok}
use Rattle.mm_burst.proofs.addresses.next_address.Goals as goal

pub returns-clause-value : goal.returns-clause-value
returns-clause-value c =
    if_ok c.pick.result _ (λ made. Always c.pick.new.builder (λ cycle. cycle.net made.number ≡ (if is_raised (cycle.net c.args.taken.number) then (cycle.net c.args.address.number + cycle.net c.args.step.number * 2 ^ c.args.lanes) % 2 ^ c.args.held.width else cycle.net c.args.held.number)))
    (λ made value cycle v. (
    let behind = c.in_ok-behind.ensures.value cycle (c.pick.ensures.adds.grows.extends.valuations cycle v) ∙ ap (λ k. (cycle.net c.args.address.number + cycle.net c.args.step.number * 2 ^ c.args.lanes) % 2 ^ k) c.requires.address.has_width in
    value cycle v ∙ ap (λ n. if is_raised (cycle.net c.args.taken.number) then n else cycle.net c.args.held.number) behind))
    c.pick.ensures.value
