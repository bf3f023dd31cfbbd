use Rattle.std.proofs.Common.{◌≡◌, ◌==◌, ◌&&◌, not, if◌then◌else◌, ap, ◌∙◌}
use Rattle.netlist.specs.Runs.{Always}
use Rattle.net_parts.specs.Nets.{IsBit}
use Rattle.net_parts.specs.Laws.{bit_fits, if_ok}
use Rattle.net_parts.specs.Bits.{high_and, high_turned, chosen_high, of_chosen}
use Rattle.st_mux.proofs.turns.stays_locked.Goals as goal

pub returns-clause-value : goal.returns-clause-value
returns-clause-value c =
    if_ok c.choose.result _ (λ net. Always c.choose.new.builder (λ cycle. (cycle.net net.number == 1) ≡ (if cycle.net c.args.valid.number == 1 then not ((cycle.net c.args.ready.number == 1) && (cycle.net c.args.last.number == 1)) else cycle.net c.args.locked.number == 1)))
    (λ net value cycle v3. (
    let v2 = c.choose.ensures.adds.grows.extends.valuations cycle v3 in
    let v1 = c.not.ensures.extends.valuations cycle v2 in
    let v0 = c.and.ensures.extends.valuations cycle v1 in
    let ends : IsBit c.and.new.self c.in_ok-ends.ends = record { is_net = c.in_ok-ends.ensures.net.0; has_width = c.in_ok-ends.ensures.net.1 ∙ c.requires.ready.has_width } in
    ap (λ n. n == 1) (value cycle v3 ∙ chosen_high (cycle.net c.args.valid.number) (cycle.net c.in_ok-goes_on.goes_on.number) (cycle.net c.args.locked.number) (bit_fits _ _ c.requires.valid cycle v0))
    ∙ of_chosen (λ n. n == 1) (cycle.net c.args.valid.number == 1) (cycle.net c.in_ok-goes_on.goes_on.number) (cycle.net c.args.locked.number)
    ∙ ap (λ b. if cycle.net c.args.valid.number == 1 then b else cycle.net c.args.locked.number == 1)
    (high_turned c.in_ok-ends.ends.width (cycle.net c.in_ok-ends.ends.number) (cycle.net c.in_ok-goes_on.goes_on.number) ends.has_width (bit_fits _ _ ends cycle v1) (c.in_ok-goes_on.ensures.value cycle v2).1
    ∙ ap not (high_and (cycle.net c.args.ready.number) (cycle.net c.args.last.number) (cycle.net c.in_ok-ends.ends.number) (bit_fits _ _ c.requires.ready cycle v0) (bit_fits _ _ c.requires.last cycle v0) (c.in_ok-ends.ensures.value cycle v1).1))))
    c.choose.ensures.value
