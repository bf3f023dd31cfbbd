use Rattle.std.proofs.Common.{◌≡◌, ◌++◌, map}
use Rattle.workload_systems.specs.Texts.{text_of}
use Rattle.workload_systems.specs.Systems.{below, stream_line}
use Rattle.workload_systems.proofs.systems.put_stream_connections.Given as goal

abbrev pub invariant-streams : goal.invariant-streams
invariant-streams l = l.text ≡ l.initial.text ++ text_of (map stream_line (below l.k))
