use Rattle.std.proofs.Common.{◌≡◌, ◌++◌}
use Rattle.std.specs.List.{flat_map}
use Rattle.workload_systems.specs.Texts.{text_of}
use Rattle.workload_systems.specs.Systems.{below, host_links}
use Rattle.workload_systems.proofs.systems.put_memory_connections.Given as goal

abbrev pub invariant-hosts : goal.invariant-hosts
invariant-hosts l = l.text ≡ l.initial.text ++ text_of (flat_map (host_links l.agents) (below l.i))
