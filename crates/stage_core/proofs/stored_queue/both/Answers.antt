use Rattle.std.proofs.Common.{◌≡◌, ◌&&◌, ◌==◌}
use Rattle.netlist.specs.Runs.{Always}
use Rattle.net_parts.specs.Laws.{bit_fits, if_ok}
use Rattle.net_parts.specs.Bits.{high_and}
use Rattle.stage_core.proofs.stored_queue.both.Goals as goal

pub returns-clause-value : goal.returns-clause-value
returns-clause-value c =
    if_ok c.and.result _ (λ made. Always c.and.new.self (λ cycle. (cycle.net made.number == 1) ≡ ((cycle.net c.args.one.number == 1) && (cycle.net c.args.other.number == 1))))
    (λ made value cycle v. (
    let before = c.and.ensures.extends.valuations cycle v in
    high_and (cycle.net c.args.one.number) (cycle.net c.args.other.number) (cycle.net made.number) (bit_fits _ _ c.requires.one cycle before) (bit_fits _ _ c.requires.other cycle before) (value cycle v).1))
    c.and.ensures.value
