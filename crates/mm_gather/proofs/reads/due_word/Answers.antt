use Rattle.std.proofs.Common.{◌≡◌, ◌+◌, ◌-◌, ◌*◌, ◌/◌, ◌%◌, ◌^◌, ◌∙◌, ap}
use Rattle.netlist.specs.Runs.{Always}
use Rattle.net_parts.specs.Laws.{if_ok}
use Rattle.net_parts.specs.Fitting.{cut_low}
use Rattle.mm_gather.proofs.reads.due_word.Goals as goal

pub returns-clause-value : goal.returns-clause-value
returns-clause-value c =
    if_ok c.take_place.result _ (λ word. Always c.take_place.new.builder (λ cycle. cycle.net word.number
    ≡ cycle.net c.args.wide.number / 2 ^ (c.args.width * ((cycle.net c.args.first.number + cycle.net c.args.given.number % 2 ^ c.args.first.width) % 2 ^ c.args.first.width)) % 2 ^ c.args.width))
    (λ word value cycle v. (
    let v1 = c.take_place.ensures.adds.grows.extends.valuations cycle v in
    let v0 = c.add.ensures.extends.valuations cycle v1 in
    let places = c.width-places.ensures.value in
    let low = (c.in_ok-low.ensures.value cycle v0).1 ∙ ap (λ n. cycle.net c.args.given.number / 2 ^ 0 % 2 ^ (n - 1 - 0 + 1)) places ∙ cut_low (cycle.net c.args.given.number) c.args.first.width c.requires.some in
    let at = (c.in_ok-at.ensures.value cycle v1).1 ∙ ap (λ n. (cycle.net c.args.first.number + n) % 2 ^ c.args.first.width) low in
    value cycle v ∙ ap (λ n. cycle.net c.args.wide.number / 2 ^ (c.args.width * n) % 2 ^ c.args.width) at))
    c.take_place.ensures.value
