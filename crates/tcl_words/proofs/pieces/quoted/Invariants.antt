use Rattle.std.proofs.Common.{◌≡◌, ◌-◌, ◌<◌, ◌≤◌, [], length, drop}
use Rattle.tcl_words.specs.Reading.{quoted}
use Rattle.tcl_words.proofs.pieces.quoted.Given as goal

abbrev pub invariant-quoted : goal.invariant-quoted
invariant-quoted l = record {
  some : 0 < l.at;
  within : l.at ≤ length l.bytes;
  reads : quoted 0 l.at l.text (drop l.at l.bytes) ≡ quoted 0 1 [] (drop 1 l.bytes);
}

abbrev pub decreases-quoted : goal.decreases-quoted
decreases-quoted l = length l.bytes - l.at
