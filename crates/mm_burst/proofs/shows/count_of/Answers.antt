use Rattle.std.proofs.Common.{◌≡◌}
use Rattle.netlist.specs.Runs.{Always}
use Rattle.net_parts.specs.Laws.{if_ok}
use Rattle.memory_runs.specs.Commands.{longest_burst}
use Rattle.memory_links.specs.Cutters.{beats_of}
use Rattle.mm_burst.proofs.Levels.{count_is}
use Rattle.mm_burst.proofs.shows.count_of.Goals as goal

pub returns-clause-value : goal.returns-clause-value
returns-clause-value c =
    if_ok c.fit_bits.result _ (λ count. Always c.fit_bits.new.builder (λ cycle. cycle.net count.number ≡ beats_of (longest_burst c.args.below_bits) (cycle.net c.args.left.number)))
    (λ count value cycle v. (
    let v1 = c.fit_bits.ensures.adds.grows.extends.valuations cycle v in
    let v0 = c.pick.ensures.adds.grows.extends.valuations cycle v1 in
    let before = c.is_less.ensures.adds.grows.extends.valuations cycle v0 in
    count_is c.args.below_bits (cycle.net c.args.left.number) (cycle.net c.in_ok-few.few.number) (cycle.net c.args.longest.number) (cycle.net c.in_ok-count.count.number) (cycle.net count.number) c.requires.some c.if-below_bits-eq1.false
    (c.requires.most cycle before) (c.in_ok-few.ensures.value cycle v0) (c.in_ok-count.ensures.value cycle v1) (value cycle v)))
    c.fit_bits.ensures.value
