use Rattle.std.proofs.Common.{◌≡◌}
use Rattle.netlist.specs.Runs.{Always}
use Rattle.net_parts.specs.Laws.{bit_fits, if_ok}
use Rattle.mm_agent.specs.Waits.{wait_by}
use Rattle.mm_agent.proofs.Waiting.{time_is}
use Rattle.mm_agent.proofs.waits.time_of.Goals as goal

pub returns-clause-value : goal.returns-clause-value
returns-clause-value c =
    if_ok c.choose.result _ (λ time. Always c.choose.new.builder (λ cycle. cycle.net time.number ≡ wait_by c.args.port.now (cycle.net c.args.write.number)))
    (λ time value cycle v. (
    let v2 = c.choose.ensures.adds.grows.extends.valuations cycle v in
    let v1 = c.constant-2.ensures.adds.grows.extends.valuations cycle v2 in
    let v0 = c.constant.ensures.adds.grows.extends.valuations cycle v1 in
    time_is c.args.port.now.writes _ _ _ _ _ _ c.if-not-port.false (bit_fits _ _ c.requires.write cycle v0) (c.in_ok-of_reads.ensures.value cycle v1) (c.in_ok-of_writes.ensures.value cycle v2) (value cycle v)))
    c.choose.ensures.value
