use Rattle.std.proofs.Common.{◌≡◌, ◌+◌, ◌≤◌, ◌-◌, length}
use Rattle.waves.specs.Cuts.{texts, texts_from}
use Rattle.waves.proofs.cuts.text_count.Given as goal

abbrev pub invariant-texts : goal.invariant-texts
invariant-texts l = (length (texts l.line) ≡ l.count + length (texts_from l.at l.line)) × (l.count ≤ l.at) × (l.at ≤ length l.line + 1)

abbrev pub decreases-texts : goal.decreases-texts
decreases-texts l = length l.line + 1 - l.at
