use Rattle.std.proofs.Common.{◌≡◌, ◌+◌, drop}
use Rattle.std.specs.List.{prefix_len}
use Rattle.vcd_reader.specs.Reads.{is_of}
use Rattle.vcd_reader.proofs.kind.run_len.Given as goal

abbrev pub invariant-run : goal.invariant-run
invariant-run l = (l.count ≡ l.byte-index) × (prefix_len (is_of l.kind) l.bytes ≡ l.count + prefix_len (is_of l.kind) (drop l.byte-index l.bytes))
