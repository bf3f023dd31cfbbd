use Rattle.std.proofs.Common.{◌≡◌, ◌+◌, drop}
use Rattle.std.specs.List.{prefix_len}
use Rattle.tcl_words.specs.Bytes.{is_space_or_tab}
use Rattle.tcl_words.proofs.scan.spaces_len.Given as goal

abbrev pub invariant-spaces : goal.invariant-spaces
invariant-spaces l = (l.count ≡ l.byte-index) × (prefix_len is_space_or_tab l.bytes ≡ l.count + prefix_len is_space_or_tab (drop l.byte-index l.bytes))
