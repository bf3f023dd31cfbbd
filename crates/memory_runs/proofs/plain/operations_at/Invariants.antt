use Rattle.std.proofs.Common.{◌≡◌, ◌++◌, map, drop}
use Rattle.memory_runs.specs.Operations.{operation_at}
use Rattle.memory_runs.specs.Values.{seen, beat_of_value}
use Rattle.memory_runs.proofs.plain.operations_at.Given as goal

abbrev pub invariant-loop-lane : goal.invariant-loop-lane
invariant-loop-lane l = map seen l.operations.items ++ map (operation_at l.span (beat_of_value l.beat)) (drop l.lane-index l.lanes) ≡ map (operation_at l.span (beat_of_value l.beat)) l.lanes
