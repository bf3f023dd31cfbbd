use Rattle.std.proofs.Common.{◌≡◌, take, drop}
use Rattle.std.specs.List.{list_all}
use Rattle.std.specs.Char.{is_digit}
use Rattle.verilog_forms.specs.RightSides.{value_of}
use Rattle.verilog_reader.specs.Holes.{capped}
use Rattle.verilog_reader.proofs.holes.digits.Given as goal

abbrev pub invariant-digits : goal.invariant-digits
invariant-digits l = record {
  value : l.value ≡ capped (value_of (take l.byte-index l.run));
  goes_on : list_all (λ b. is_digit b 10) (drop l.byte-index l.run) ≡ list_all (λ b. is_digit b 10) l.run;
}
