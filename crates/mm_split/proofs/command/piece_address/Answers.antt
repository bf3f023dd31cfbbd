use Rattle.std.proofs.Common.{◌≡◌, ◌+◌, ◌*◌, ◌/◌, ◌^◌, sym, ◌∙◌}
use Rattle.netlist.specs.Runs.{Always}
use Rattle.net_parts.specs.Laws.{if_ok, net_fits}
use Rattle.mm_split.proofs.Bits.{low_address, address_put}
use Rattle.mm_split.proofs.command.piece_address.Goals as goal

pub returns-then-width-low-clause-value : goal.returns-then-width-low-clause-value
returns-then-width-low-clause-value c cycle v =
    low_address (cycle.net c.args.address.number) c.args.address.width c.args.offset.width (cycle.net c.args.offset.number) (net_fits _ _ c.requires.address cycle v) (sym c.width-width.ensures.value ∙ c.if-width-low.true ∙ c.width-low.ensures.value)

pub returns-clause-value : goal.returns-clause-value
returns-clause-value c =
    if_ok c.concat.result _ (λ net. Always c.concat.new.self (λ cycle. cycle.net net.number ≡ cycle.net c.args.address.number / 2 ^ c.args.offset.width * 2 ^ c.args.offset.width + cycle.net c.args.offset.number))
    (λ net value cycle v. (
    let v1 = c.concat.ensures.extends.valuations cycle v in
    let v0 = c.slice.ensures.extends.valuations cycle v1 in
    let e = c.width-width.ensures.value in
    let f = c.width-low.ensures.value in
    let apart = c.if-width-low.false in
    address_put (cycle.net c.args.address.number) c.args.address.width c.args.offset.width c.width-width.result c.width-low.result (cycle.net c.in_ok-high.high.number) (cycle.net c.args.offset.number) (cycle.net net.number)
    e f (net_fits _ _ c.requires.address cycle v0) c.requires.within apart (c.in_ok-high.ensures.value cycle v1).1 (value cycle v).1))
    c.concat.ensures.value
