-- A small dump and its text.
use Rattle.std.specs.Prelude.{ℕ, List, [], ◌∷◌, codes}
use Rattle.av_base.specs.Word.{word}
use Rattle.vcd_text.specs.declared.port.DumpPort.{DumpPort}
use Rattle.vcd_text.specs.Text.{DumpValue}

abbrev pub port : List ℕ → ℕ → DumpPort
port name width = record { name = name; width = width }

-- two ports of one bit that both change once
abbrev pub inverter : DumpValue
inverter = record {
  name = codes "inv_interconnect";
  ports = port (codes "a$b$valid") 1 ∷ port (codes "c$d$valid") 1 ∷ [];
  rows = (word 1 0 ∷ word 1 1 ∷ []) ∷ (word 1 1 ∷ word 1 0 ∷ []) ∷ [];
}

abbrev pub inverter_text : List ℕ
inverter_text =
    codes "$timescale 1 ns $end\n$scope module inv_interconnect $end\n$var wire 1 ! a$b$valid $end\n$var wire 1 \" c$d$valid $end\n$upscope $end\n$enddefinitions $end\n#0\n$dumpvars\n0!\n1\"\n$end\n#1\n1!\n0\"\n#2\n"

-- a port of 8 bits beside one that never changes: the rows 1 and 3 change nothing
abbrev pub counter : DumpValue
counter = record {
  name = codes "count_interconnect";
  ports = port (codes "a$b$data") 8 ∷ port (codes "a$b$valid") 1 ∷ [];
  rows =
      (word 8 0 ∷ word 1 1 ∷ []) ∷ (word 8 0 ∷ word 1 1 ∷ []) ∷ (word 8 165 ∷ word 1 1 ∷ []) ∷ (word 8 165 ∷ word 1 1 ∷ []) ∷ [];
}

abbrev pub counter_text : List ℕ
counter_text =
    codes "$timescale 1 ns $end\n$scope module count_interconnect $end\n$var wire 8 ! a$b$data $end\n$var wire 1 \" a$b$valid $end\n$upscope $end\n$enddefinitions $end\n#0\n$dumpvars\nb0 !\n1\"\n$end\n#2\nb10100101 !\n#4\n"

-- without ports: the last line alone tells the rows
abbrev pub portless : DumpValue
portless = record { name = codes "no_interconnect"; ports = []; rows = [] ∷ [] ∷ [] ∷ [] }

abbrev pub portless_text : List ℕ
portless_text =
    codes "$timescale 1 ns $end\n$scope module no_interconnect $end\n$upscope $end\n$enddefinitions $end\n#0\n$dumpvars\n$end\n#3\n"
