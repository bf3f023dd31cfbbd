use Rattle.std.proofs.Common.{◌≡◌, ◌++◌, map}
use Rattle.workload_systems.specs.Texts.{text_of}
use Rattle.workload_systems.specs.Systems.{below, host_instance}
use Rattle.workload_systems.proofs.systems.put_hosts.Given as goal

abbrev pub invariant-hosts : goal.invariant-hosts
invariant-hosts l = l.text ≡ l.initial.text ++ text_of (map (host_instance l.number) (below l.i))
