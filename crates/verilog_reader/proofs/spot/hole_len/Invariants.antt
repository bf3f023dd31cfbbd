use Rattle.std.proofs.Common.{◌≡◌, ◌+◌, drop}
use Rattle.std.specs.List.{prefix_len}
use Rattle.verilog_forms.specs.Forms.{is_hole_byte}
use Rattle.verilog_reader.proofs.spot.hole_len.Given as goal

abbrev pub invariant-hole : goal.invariant-hole
invariant-hole l = (l.count ≡ l.byte-index) × (prefix_len is_hole_byte l.bytes ≡ l.count + prefix_len is_hole_byte (drop l.byte-index l.bytes))
