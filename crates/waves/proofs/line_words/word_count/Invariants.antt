use Rattle.std.proofs.Common.{◌≡◌, ◌+◌, ◌≤◌, ◌-◌, length}
use Rattle.waves.specs.Cuts.{texts_from}
use Rattle.waves.proofs.line_words.word_count.Given as goal

abbrev pub invariant-words : goal.invariant-words
invariant-words l = (length (texts_from l.from l.line) ≡ l.count + length (texts_from l.at l.line)) × (l.count ≤ l.at) × (l.at ≤ length l.line + 1)

abbrev pub decreases-words : goal.decreases-words
decreases-words l = length l.line + 1 - l.at
