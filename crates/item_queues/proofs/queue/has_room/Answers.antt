use Rattle.std.proofs.Common.{◌≡◌, ◌==◌, nat_lt, if◌then◌else◌, ap, ◌∙◌}
use Rattle.netlist.specs.Runs.{Always}
use Rattle.net_parts.specs.Laws.{if_ok}
use Rattle.item_queues.proofs.Counts.{high_if}
use Rattle.item_queues.proofs.queue.has_room.Goals as goal

pub returns-clause-value : goal.returns-clause-value
returns-clause-value g c =
    if_ok c.less.result _ (λ room. Always c.less.new.self (λ cycle. (cycle.net room.number == 1) ≡ nat_lt (cycle.net c.args.queue.now.count.number) c.args.queue.now.bound))
    (λ room value cycle v.
    high_if (nat_lt (cycle.net c.args.queue.now.count.number) c.args.queue.now.bound) (cycle.net room.number)
    ((value cycle v).1 ∙ ap (λ k. if nat_lt (cycle.net c.args.queue.now.count.number) k then 1 else 0) (c.in_ok-limit.ensures.value cycle (c.less.ensures.extends.valuations cycle v))))
    c.less.ensures.value
