use Rattle.std.proofs.Common.{◌≡◌, arith}
use Rattle.netlist.specs.Runs.{Always}
use Rattle.net_parts.specs.Laws.{bit_fits, if_ok}
use Rattle.st_timing.specs.TransferNets.{moving}
use Rattle.st_timing.proofs.Moving.{moving_and}
use Rattle.st_timing.proofs.transfer.transfers.Goals as goal

pub returns-clause-value : goal.returns-clause-value
returns-clause-value c =
    if_ok c.and.result _ (λ moves. Always c.and.new.self (λ cycle. cycle.net moves.number ≡ moving c.args.latency (cycle.net c.args.valid.number) (cycle.net c.args.ready.number)))
    (λ moves value cycle v1. (
    let v0 = c.and.ensures.extends.valuations cycle v1 in
    moving_and c.args.latency (cycle.net c.args.valid.number) (cycle.net c.args.ready.number) (cycle.net moves.number) (omega arith) (bit_fits _ _ c.requires.valid cycle v0) (bit_fits _ _ c.requires.ready cycle v0) (value cycle v1).1))
    c.and.ensures.value
