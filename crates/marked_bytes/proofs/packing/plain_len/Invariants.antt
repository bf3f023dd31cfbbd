use Rattle.std.proofs.Common.{◌≡◌, ◌+◌, drop}
use Rattle.std.specs.List.{prefix_len}
use Rattle.marked_bytes.specs.Symbols.{is_plain}
use Rattle.marked_bytes.proofs.packing.plain_len.Given as goal

abbrev pub invariant-plain : goal.invariant-plain
invariant-plain l = (l.count ≡ l.byte-index) × (prefix_len is_plain l.bytes ≡ l.count + prefix_len is_plain (drop l.byte-index l.bytes))
