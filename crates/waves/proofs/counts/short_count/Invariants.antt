use Rattle.std.proofs.Common.{◌≡◌, ◌<◌, ◌^◌, ◌*◌, drop, true}
use Rattle.std.specs.List.{list_all}
use Rattle.waves.specs.Digits.{is_decimal, number_behind}
use Rattle.waves.proofs.counts.short_count.Given as goal

abbrev pub invariant-digits : goal.invariant-digits
invariant-digits l = (number_behind 10 0 l.text ≡ number_behind 10 l.number (drop l.byte-index l.text)) × (list_all is_decimal (drop l.byte-index l.text) ≡ true) × (l.number < 2 ^ (4 * l.byte-index))
