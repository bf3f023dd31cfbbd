use Rattle.std.proofs.Common.{◌≡◌, ◌+◌, ◌-◌, ◌≤◌, false, length, drop}
use Rattle.tcl_words.specs.Reading.{comment_len}
use Rattle.tcl_words.proofs.scan.comment_len.Given as goal

abbrev pub invariant-comment : goal.invariant-comment
invariant-comment l = (l.at ≤ length l.bytes) × (l.at + comment_len l.odd (drop l.at l.bytes) ≡ comment_len false l.bytes)

abbrev pub decreases-comment : goal.decreases-comment
decreases-comment l = length l.bytes - l.at
