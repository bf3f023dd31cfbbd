use Rattle.std.proofs.Common.{◌≡◌, ◌++◌, map}
use Rattle.workload_systems.specs.Texts.{text_of}
use Rattle.workload_systems.specs.Systems.{below, source_instance}
use Rattle.workload_systems.proofs.systems.put_sources.Given as goal

abbrev pub invariant-sources : goal.invariant-sources
invariant-sources l = l.text ≡ l.initial.text ++ text_of (map (source_instance l.number) (below l.k))
