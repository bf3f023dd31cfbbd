use Rattle.memory_waits.proofs.straight.HostStraight.{host_straight}
use Rattle.memory_waits.proofs.straight.hosts.host_goes_straight.Goals as goal

pub returns : goal.returns
returns c = λ responses system run host down state end single legal owed machine.
    host_straight system run host down end (c.host_machine_is_a_part.ensures responses system run host down state end single legal owed machine)
