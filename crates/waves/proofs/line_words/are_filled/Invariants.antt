use Rattle.std.proofs.Common.{◌≡◌, ◌+◌, ◌≤◌, ◌-◌, length}
use Rattle.std.specs.List.{list_all}
use Rattle.waves.specs.Cuts.{texts_from}
use Rattle.waves.specs.Words.{is_filled, words_of}
use Rattle.waves.proofs.line_words.are_filled.Given as goal

abbrev pub invariant-words : goal.invariant-words
invariant-words l = (list_all is_filled (words_of l.line) ≡ list_all is_filled (texts_from l.at l.line)) × (l.at ≤ length l.line + 1)

abbrev pub decreases-words : goal.decreases-words
decreases-words l = length l.line + 1 - l.at
