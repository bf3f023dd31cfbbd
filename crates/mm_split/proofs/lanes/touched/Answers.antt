use Rattle.std.proofs.Common.{◌≡◌, not, nat_eq, ap, ◌∙◌}
use Rattle.histories.specs.History.{one_if}
use Rattle.netlist.specs.Runs.{Always}
use Rattle.net_parts.specs.Laws.{if_ok}
use Rattle.mm_split.specs.Pieces.{has_lane}
use Rattle.mm_split.proofs.Marks.{any_is}
use Rattle.mm_split.proofs.lanes.touched.Goals as goal

pub returns-clause-value : goal.returns-clause-value
returns-clause-value c =
    if_ok c.any.result _ (λ net. Always c.any.new.self (λ cycle. cycle.net net.number ≡ one_if (has_lane c.args.bytes (cycle.net c.args.enables.number) c.args.number)))
    (λ net value cycle v. (value cycle v).1 ∙ any_is (cycle.net c.in_ok-lanes.lanes.number) ∙ ap (λ n. one_if (not (nat_eq n 0))) (c.in_ok-lanes.ensures.value cycle (c.any.ensures.extends.valuations cycle v)))
    c.any.ensures.value
