use Rattle.std.proofs.Common.{◌≡◌, length, true}
use Rattle.std.specs.List.{list_all}
use Rattle.waves.specs.Spelling.{is_hexadecimal}
use Rattle.scenarios.specs.Hosts.{fits_word}
use Rattle.scenarios.proofs.commands.are_words.Given as goal

abbrev pub invariant-words : goal.invariant-words
invariant-words l = (list_all (fits_word l.host) l.words ≡ list_all (fits_word l.host) l.left) × (list_all is_hexadecimal l.left ≡ true)

abbrev pub decreases-words : goal.decreases-words
decreases-words l = length l.left
