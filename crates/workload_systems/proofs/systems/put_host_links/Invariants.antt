use Rattle.std.proofs.Common.{◌≡◌, ◌++◌}
use Rattle.std.specs.List.{flat_map}
use Rattle.workload_systems.specs.Texts.{text_of}
use Rattle.workload_systems.specs.Systems.{below, memory_lines}
use Rattle.workload_systems.proofs.systems.put_host_links.Given as goal

abbrev pub invariant-agents : goal.invariant-agents
invariant-agents l = l.text ≡ l.initial.text ++ text_of (flat_map (memory_lines l.i) (below l.j))
