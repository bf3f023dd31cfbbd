use Rattle.std.proofs.Common.{◌≡◌, ◌+◌, ◌*◌, ◌%◌, ◌^◌}
use Rattle.netlist.specs.Runs.{Always}
use Rattle.net_parts.specs.Laws.{if_ok}
use Rattle.mm_burst.proofs.Levels.{moved_by}
use Rattle.mm_burst.proofs.addresses.address_behind.Goals as goal

pub returns-clause-value : goal.returns-clause-value
returns-clause-value c =
    if_ok c.add.result _ (λ made. Always c.add.new.self (λ cycle. cycle.net made.number ≡ (cycle.net c.args.address.number + cycle.net c.args.words.number * 2 ^ c.args.lanes) % 2 ^ c.args.address.width))
    (λ made value cycle v. (
    let v1 = c.add.ensures.extends.valuations cycle v in
    let v0 = c.fit_bits.ensures.adds.grows.extends.valuations cycle v1 in
    moved_by c.args.address.width c.width-wanted.result (cycle.net c.args.address.number) (cycle.net c.args.words.number) (cycle.net c.in_ok-fitted.fitted.number) (cycle.net c.in_ok-bytes.bytes.number) c.args.lanes (cycle.net made.number) c.width-wanted.ensures.value
    (value cycle v).1 (c.in_ok-fitted.ensures.value cycle v1) (c.in_ok-bytes.ensures.value cycle v0)))
    c.add.ensures.value
