use Rattle.std.proofs.Common.{◌≡◌, ◌++◌, length, map, true}
use Rattle.std.specs.List.{list_all}
use Rattle.waves.specs.Spelling.{is_hexadecimal, hexadecimal_in}
use Rattle.scenarios.proofs.hosts.numbers.Given as goal

abbrev pub invariant-words : goal.invariant-words
invariant-words l = (map hexadecimal_in l.words ≡ l.numbers ++ map hexadecimal_in l.left) × (list_all is_hexadecimal l.left ≡ true)

abbrev pub decreases-words : goal.decreases-words
decreases-words l = length l.left
