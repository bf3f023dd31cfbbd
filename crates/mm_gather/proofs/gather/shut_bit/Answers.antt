use Rattle.std.proofs.Common.{◌≡◌, ◌∙◌, not, ◌&&◌, nat_lt, sym, ap}
use Rattle.histories.specs.History.{is_raised}
use Rattle.netlist.specs.Runs.{Always}
use Rattle.net_parts.specs.Laws.{if_ok, bit_fits}
use Rattle.mm_select.specs.Laws.{and_turned}
use Rattle.mm_gather.proofs.GivenWords.{high_is}
use Rattle.mm_gather.proofs.gather.shut_bit.Goals as goal

pub returns-clause-value : goal.returns-clause-value
returns-clause-value c =
    if_ok c.unless.result _ (λ shut. Always c.unless.new.builder (λ cycle. is_raised (cycle.net shut.number) ≡ (not (is_raised (cycle.net c.args.write.number)) && not (nat_lt (cycle.net c.args.held.now.entries.count.number) c.args.held.now.entries.bound))))
    (λ shut value cycle v. (
    let v1 = c.unless.ensures.adds.grows.extends.valuations cycle v in
    let v0 = c.turned.ensures.adds.grows.extends.valuations cycle v1 in
    let room = sym (high_is _ (bit_fits _ _ c.in_ok-room.ensures.net cycle v0)) ∙ c.in_ok-room.ensures.value cycle v0 in
    value cycle v ∙ ap (λ t. t && not (is_raised (cycle.net c.args.write.number))) (c.in_ok-full.ensures.value cycle v1 ∙ ap not room) ∙ and_turned (not (nat_lt (cycle.net c.args.held.now.entries.count.number) c.args.held.now.entries.bound)) (not (is_raised (cycle.net c.args.write.number)))))
    c.unless.ensures.value
