use Rattle.std.proofs.Common.{◌≡◌, ◌∙◌, not, ◌&&◌, nat_lt, ap}
use Rattle.histories.specs.History.{is_raised}
use Rattle.netlist.specs.Runs.{Always}
use Rattle.net_parts.specs.Laws.{if_ok}
use Rattle.mm_gather.proofs.GivenWords.{bit_is}
use Rattle.mm_gather.proofs.reads.last_now.Goals as goal

pub returns-clause-value : goal.returns-clause-value
returns-clause-value c =
    if_ok c.unless.result _ (λ last. Always c.unless.new.builder (λ cycle. is_raised (cycle.net last.number) ≡ (is_raised (cycle.net c.args.full.number) && not (nat_lt (cycle.net c.args.more.number) (cycle.net c.args.many.number)))))
    (λ last value cycle v. (
    let left = (c.in_ok-left.ensures.value cycle (c.unless.ensures.adds.grows.extends.valuations cycle v)).1 in
    value cycle v ∙ ap (λ t. is_raised (cycle.net c.args.full.number) && not t) (ap is_raised left ∙ bit_is _)))
    c.unless.ensures.value
