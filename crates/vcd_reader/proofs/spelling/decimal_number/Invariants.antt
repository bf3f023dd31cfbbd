use Rattle.std.proofs.Common.{◌≡◌, ◌<◌, ◌^◌, drop, true}
use Rattle.std.specs.List.{list_all}
use Rattle.vcd_reader.specs.Spellings.{is_of_number, number_behind}
use Rattle.vcd_reader.proofs.spelling.decimal_number.Given as goal

abbrev pub invariant-digits : goal.invariant-digits
invariant-digits l = record {
  goes_on : number_behind 10 0 l.digits ≡ number_behind 10 l.number (drop l.digit-index l.digits);
  all : list_all is_of_number (drop l.digit-index l.digits) ≡ true;
  small : l.number < 10 ^ l.digit-index;
}
