use Rattle.std.proofs.Common.{◌≡◌, ◌^◌, if◌then◌else◌}
use Rattle.histories.specs.History.{is_raised}
use Rattle.netlist.specs.Runs.{Always}
use Rattle.net_parts.specs.Laws.{if_ok}
use Rattle.command_nets.specs.Levels.{one_fits}
use Rattle.mm_burst.specs.Pieces.{reach_by}
use Rattle.mm_burst.proofs.pieces.step_of.Goals as goal

pub constant-requires-clause-fits : goal.constant-requires-clause-fits
constant-requires-clause-fits c = one_fits _ c.width-bits.ensures.bounds.0

pub returns-clause-value : goal.returns-clause-value
returns-clause-value c =
    if_ok c.pick.result _ (λ step. Always c.pick.new.builder (λ cycle. cycle.net step.number ≡ (if is_raised (cycle.net c.args.writes.number) then 1 else reach_by c.args.way.now.place_bits (2 ^ c.args.way.now.lanes) c.args.way.now.below_bits (cycle.net c.args.address.number))))
    (λ step value cycle v. (
    let v0 = c.pick.ensures.adds.grows.extends.valuations cycle v in
    let one = c.in_ok-one.ensures.value cycle v0 in
    let reach = c.in_ok-reach.ensures.value cycle (c.constant.ensures.adds.grows.extends.valuations cycle v0) in
    let fact = value cycle v in cc))
    c.pick.ensures.value
