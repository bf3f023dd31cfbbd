use Rattle.std.proofs.Common.{◌≡◌, take}
use Rattle.waves.specs.Spelling.{pattern_in}
use Rattle.waves.proofs.patterns.pattern.Given as goal

abbrev pub invariant-bits : goal.invariant-bits
invariant-bits l = l.pattern ≡ pattern_in (take l.byte-index l.text)
