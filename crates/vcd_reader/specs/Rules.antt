-- The numbers of the rules.
use Rattle.std.specs.Prelude.{ℕ}
use Rattle.vcd_reader.specs.declared.rule.Rule.{Rule}
use Rattle.vcd_reader.specs.declared.rule.Rule.TheVariants.{OtherByte, Name, Width, Code, Time, Value}

abbrev pub number_of : Rule → ℕ
number_of OtherByte = 1
number_of Name = 2
number_of Width = 3
number_of Code = 4
number_of Time = 5
number_of Value = 6
