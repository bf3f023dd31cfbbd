use Rattle.std.proofs.Common.{◌≡◌, ◌≤◌, length, drop}
use Rattle.verilog_reader.specs.Spots.{fixed_at}
use Rattle.verilog_reader.proofs.spot.fixed_at.Given as goal

abbrev pub invariant-part : goal.invariant-part
invariant-part l = record {
  within : l.at ≤ length l.bytes;
  goes_on : fixed_at (drop l.byte-index l.part) (drop l.at l.bytes) l.at ≡ fixed_at l.part (drop l.fn.start l.bytes) l.fn.start;
}
