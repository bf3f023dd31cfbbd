use Rattle.std.proofs.Common.{◌≡◌, ◌<◌, ◌^◌, take}
use Rattle.std.specs.Str.Parse.{digits_value}
use Rattle.verilog_writer.specs.Text.{hex_digits}
use Rattle.verilog_reader.proofs.constants.hex.Given as goal

abbrev pub invariant-digits : goal.invariant-digits
invariant-digits l = record {
  value : l.value ≡ digits_value 16 (take l.byte-index l.run);
  spelled : hex_digits l.byte-index l.value ≡ take l.byte-index l.run;
  small : l.value < 16 ^ l.byte-index;
}
