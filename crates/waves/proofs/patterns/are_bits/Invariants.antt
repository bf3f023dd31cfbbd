use Rattle.std.proofs.Common.{◌≡◌, drop}
use Rattle.std.specs.List.{list_all}
use Rattle.waves.specs.Spelling.{is_bit}
use Rattle.waves.proofs.patterns.are_bits.Given as goal

abbrev pub invariant-bits : goal.invariant-bits
invariant-bits l = list_all is_bit l.text ≡ list_all is_bit (drop l.byte-index l.text)
