use Rattle.std.proofs.Common.{◌≡◌, ◌++◌, map}
use Rattle.workload_systems.specs.Texts.{text_of}
use Rattle.workload_systems.specs.Systems.{below, sink_instance}
use Rattle.workload_systems.proofs.systems.put_sinks.Given as goal

abbrev pub invariant-sinks : goal.invariant-sinks
invariant-sinks l = l.text ≡ l.initial.text ++ text_of (map (sink_instance l.number) (below l.k))
