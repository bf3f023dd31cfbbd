use Rattle.std.proofs.Common.{◌<◌, suc, length, arith}
use Rattle.memory_runs.specs.Order.{issued}
use Rattle.memory_machines.specs.Lines.{target_of}
use Rattle.memory_awake.proofs.FairWaits.{asks_by}
use Rattle.memory_awake.proofs.Widened.{wire_operations}
use Rattle.memory_awake.proofs.fair.waiting_hosts_are_passed_by_few.Goals as goal

pub returns : goal.returns
returns c = λ responses system run inside states ranks end agent host from size built legal there here fit wired waits.
    c.askers_are_passed_by_few.ensures responses system run inside states ranks end agent host from size built legal there fit
    (λ k low high.
    let is = waits k low high in
    let within : k < end = omega (arith, high, fit) in (
      asks_by (length (issued system run host agent (suc k))) _ _ (inside.upper host agent 0) (inside.upper host agent (inside.links host agent)) k wired
          (wire_operations (inside.upper host agent (inside.links host agent)) (inside.upper host agent 0) wired (target_of system agent) k)
          (λ quiet. c.waiting_hosts_ask.ensures.asks responses system run inside states ranks end agent host k built legal there here within is.alone quiet) is.untaken,
      is.none,
    ))
