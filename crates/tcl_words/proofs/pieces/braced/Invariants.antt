use Rattle.std.proofs.Common.{◌≡◌, ◌+◌, ◌-◌, ◌<◌, ◌≤◌, [], length, drop}
use Rattle.tcl_words.specs.Reading.{braced}
use Rattle.tcl_words.proofs.pieces.braced.Given as goal

abbrev pub invariant-braced : goal.invariant-braced
invariant-braced l = record {
  some : 0 < l.at;
  deep : l.depth < l.at;
  within : l.at ≤ length l.bytes + 1;
  reads : braced 0 l.at l.depth l.text (drop l.at l.bytes) ≡ braced 0 1 0 [] (drop 1 l.bytes);
}

abbrev pub decreases-braced : goal.decreases-braced
decreases-braced l = length l.bytes + 1 - l.at
