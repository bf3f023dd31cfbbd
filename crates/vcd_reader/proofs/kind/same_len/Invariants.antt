use Rattle.std.proofs.Common.{◌≡◌, ◌+◌, ◌≤◌, length, drop}
use Rattle.vcd_reader.specs.Reads.{same_len}
use Rattle.vcd_reader.proofs.kind.same_len.Given as goal

abbrev pub invariant-part : goal.invariant-part
invariant-part l = record {
  at : l.count ≡ l.byte-index;
  within : l.count ≤ length l.bytes;
  goes_on : same_len l.part l.bytes ≡ l.count + same_len (drop l.byte-index l.part) (drop l.count l.bytes);
}
