use Rattle.std.proofs.Common.{◌≡◌, ◌*◌, ◌++◌, drop}
use Rattle.waves.specs.Spelling.{bytes_in}
use Rattle.waves.proofs.hexadecimals.pairs.Given as goal

abbrev pub invariant-pairs : goal.invariant-pairs
invariant-pairs l = bytes_in l.text ≡ l.bytes ++ bytes_in (drop (2 * l.k) l.text)
