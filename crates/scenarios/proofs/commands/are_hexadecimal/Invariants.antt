use Rattle.std.proofs.Common.{◌≡◌, length}
use Rattle.std.specs.List.{list_all}
use Rattle.waves.specs.Spelling.{is_hexadecimal}
use Rattle.scenarios.proofs.commands.are_hexadecimal.Given as goal

abbrev pub invariant-words : goal.invariant-words
invariant-words l = list_all is_hexadecimal l.words ≡ list_all is_hexadecimal l.left

abbrev pub decreases-words : goal.decreases-words
decreases-words l = length l.left
