use Rattle.std.proofs.Common.{◌≡◌, drop}
use Rattle.std.specs.List.{list_all}
use Rattle.waves.specs.Digits.{is_decimal}
use Rattle.waves.proofs.counts.are_decimal.Given as goal

abbrev pub invariant-digits : goal.invariant-digits
invariant-digits l = list_all is_decimal l.text ≡ list_all is_decimal (drop l.byte-index l.text)
