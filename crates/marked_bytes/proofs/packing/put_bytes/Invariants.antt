use Rattle.std.proofs.Common.{◌≤◌, ◌-◌, length, take, true}
use Rattle.marked_bytes.specs.Packing.{spelled_bytes, Writes}
use Rattle.marked_bytes.proofs.packing.put_bytes.Given as goal

abbrev pub invariant-bytes : goal.invariant-bytes
invariant-bytes g l = record {
  inside : l.done ≤ length l.bytes;
  written : Writes (spelled_bytes (take l.done l.bytes)) (g.K.Sink.held l.initial.sink) (g.K.Sink.held l.sink) (g.K.Sink.faults l.initial.sink) (g.K.Sink.faults l.sink) true;
}

abbrev pub decreases-bytes : goal.decreases-bytes
decreases-bytes g l = length l.bytes - l.done
