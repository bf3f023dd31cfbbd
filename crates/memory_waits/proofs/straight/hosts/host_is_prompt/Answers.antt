use Rattle.std.proofs.Common.{◌*◌, suc, arith}
use Rattle.memory_runs.specs.Commands.{longest_burst}
use Rattle.memory_waits.proofs.straight.HostStraight.{host_prompt}
use Rattle.memory_waits.proofs.straight.hosts.host_is_prompt.Goals as goal

pub returns : goal.returns
returns c = λ responses system run host down state end single legal owed machine.
    let line = c.host_machine_keeps_its_line.ensures responses system run host (suc (16 * longest_burst down.shape.burst_bits)) down state end (omega arith) single machine in
    host_prompt system run host down end (c.host_machine_is_a_part.ensures responses system run host down state end single legal owed machine)
    (line.commands end (omega arith) legal (λ k low. owed k (omega (arith, low)))).legal
