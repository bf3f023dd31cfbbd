-- The numbers of the rules. That there is no room for a net is no rule.
use Rattle.std.specs.Prelude.{ℕ, Option, Some, None}
use Rattle.verilog_forms.specs.declared.rule.Rule.{Rule}
use Rattle.verilog_forms.specs.declared.rule.Rule.TheVariants.{OtherByte, Name, Width, Spelling, NotThere, Bounds, Depth, Order, AfterEnd, TooManyNets}

abbrev pub number_of : Rule → Option ℕ
number_of OtherByte = Some 1
number_of Name = Some 2
number_of Width = Some 3
number_of Spelling = Some 4
number_of NotThere = Some 5
number_of Bounds = Some 6
number_of Depth = Some 7
number_of Order = Some 8
number_of AfterEnd = Some 9
number_of TooManyNets = None
