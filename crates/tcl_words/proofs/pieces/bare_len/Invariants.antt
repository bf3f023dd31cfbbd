use Rattle.std.proofs.Common.{◌≡◌, ◌-◌, ◌≤◌, length, drop}
use Rattle.tcl_words.specs.Reading.{bare_len}
use Rattle.tcl_words.proofs.pieces.bare_len.Given as goal

abbrev pub invariant-bare : goal.invariant-bare
invariant-bare l = (l.at ≤ length l.bytes) × (bare_len l.at (drop l.at l.bytes) ≡ bare_len 0 l.bytes)

abbrev pub decreases-bare : goal.decreases-bare
decreases-bare l = length l.bytes - l.at
