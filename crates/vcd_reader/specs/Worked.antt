-- Texts that are read as dumps, and texts that aren't.
use Rattle.std.specs.Prelude.{◌≡◌, ℕ, ◌-◌, List, [], ◌++◌, length, Option, Some, None, codes}
use Rattle.vcd_text.specs.Text.{DumpValue}
use Rattle.vcd_reader.specs.declared.rule.Rule.{Rule}
use Rattle.vcd_reader.specs.Found.{Found}
use Rattle.vcd_reader.specs.Readings.{dump_read}

-- the place and the rule of a fault
abbrev pub fault_in : List ℕ → Found DumpValue → Option (ℕ × Rule)
fault_in text (Found.told dump rest) = None
fault_in text (Found.broken rest rule) = Some (length text - length rest, rule)

-- the text is that of this dump
abbrev pub IsReadAs : List ℕ → DumpValue → Type 0
IsReadAs text dump = dump_read text ≡ Found.told dump []

-- the first fault of the text stands at this byte, and breaks this rule
abbrev pub IsRefused : List ℕ → ℕ → Rule → Type 0
IsRefused text byte rule = fault_in text (dump_read text) ≡ Some (byte, rule)

-- a header of a port of one bit and one of two, and the first row
abbrev pub two_ports : List ℕ
two_ports =
    codes "$timescale 1 ns $end\n$scope module a_interconnect $end\n$var wire 1 ! a$b $end\n$var wire 2 \" c$d $end\n$upscope $end\n$enddefinitions $end\n"

-- its first row
abbrev pub two_values : List ℕ
two_values = two_ports ++ codes "#0\n$dumpvars\n0!\nb10 \"\n$end\n"
