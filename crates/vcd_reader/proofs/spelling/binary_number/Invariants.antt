use Rattle.std.proofs.Common.{◌≡◌, ◌<◌, ◌^◌, drop}
use Rattle.vcd_reader.proofs.Runs.{bits_told}
use Rattle.vcd_reader.proofs.spelling.binary_number.Given as goal

abbrev pub invariant-digits : goal.invariant-digits
invariant-digits l = record {
  goes_on : bits_told 0 l.run ≡ bits_told l.number (drop l.digit-index l.run);
  small : l.number < 2 ^ l.digit-index;
}
