use Rattle.std.proofs.Common.{◌≡◌, ◌+◌, arith}
use Rattle.netlist.specs.Runs.{Always}
use Rattle.net_parts.specs.Laws.{bit_fits, if_ok, adds_fewer, adds_twice, grows_once}
use Rattle.net_parts.specs.Counts.{bit_added}
use Rattle.net_parts.proofs.counts.add_bit.Goals as goal

pub returns-clause-value : goal.returns-clause-value
returns-clause-value c =
    if_ok c.add.result _ (λ more. Always c.add.new.self (λ cycle. cycle.net more.number ≡ cycle.net c.args.sum.number + cycle.net c.args.bit.number))
    (λ more value cycle v2. (
    let v1 = c.add.ensures.extends.valuations cycle v2 in
    let v0 = c.concat.ensures.extends.valuations cycle v1 in
    bit_added c.args.sum.width c.args.bit.width (cycle.net c.args.zeros.number) (cycle.net c.args.sum.number) (cycle.net c.args.bit.number) (cycle.net c.in_ok-summand.summand.number) (cycle.net more.number)
    c.requires.sum.has_width c.requires.bit.has_width (c.requires.zeros.value cycle v0) (c.requires.small cycle v0) (bit_fits _ _ c.requires.bit cycle v0) (c.in_ok-summand.ensures.value cycle v1).1 (value cycle v2).1))
    c.add.ensures.value

pub returns-in_err-summand-clause-adds : goal.returns-in_err-summand-clause-adds
returns-in_err-summand-clause-adds c = adds_fewer _ _ _ _ (omega arith) (grows_once _ _ c.concat.ensures.extends c.concat.ensures.grows)

pub returns-clause-adds : goal.returns-clause-adds
returns-clause-adds c = adds_fewer _ _ _ _ (omega arith) (adds_twice _ _ _ _ _ (grows_once _ _ c.concat.ensures.extends c.concat.ensures.grows) (grows_once _ _ c.add.ensures.extends c.add.ensures.grows))
