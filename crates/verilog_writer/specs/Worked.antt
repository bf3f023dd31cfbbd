-- Small modules and their texts.
use Rattle.std.specs.Prelude.{ℕ, List, [], ◌∷◌, codes, Some, None, true, false}
use Rattle.av_base.specs.Word.{word}
use Rattle.netlist.specs.declared.line.Equation.TheVariants.{Input, Reg, Read}
use Rattle.netlist.specs.Netlists.{Netlist, line_of, memory_of}

-- a register between an input and an output
abbrev pub one_register : Netlist
one_register = record {
  name = codes "t_interconnect";
  ports =
      record { name = codes "a$i$d"; width = 8; output = false } ∷ record { name = codes "b$i$q"; width = 8; output = true } ∷ [];
  lines = line_of 8 (Input 0) ∷ line_of 8 (Reg (word 8 165) 0) ∷ [];
  drivers = None ∷ Some 1 ∷ [];
  memories = [];
}

abbrev pub one_register_text : List ℕ
one_register_text =
    codes "module t_interconnect (\n  input wire clk,\n  input wire reset,\n  input wire [7:0] a$i$d,\n  output wire [7:0] b$i$q\n);\n  wire [7:0] n0 = a$i$d;\n  reg [7:0] n1;\n  always @(posedge clk) if (reset) n1 <= 8'ha5; else n1 <= n0;\n  assign b$i$q = n1;\nendmodule\n"

-- a memory, which an input writes at the address of another and an output reads there
abbrev pub one_memory : Netlist
one_memory = record {
  name = codes "t_interconnect";
  ports =
      record { name = codes "a$i$d"; width = 1; output = false } ∷ record { name = codes "b$i$d"; width = 3; output = false }
      ∷ record { name = codes "c$i$q"; width = 1; output = true } ∷ [];
  lines = line_of 1 (Input 0) ∷ line_of 3 (Input 1) ∷ line_of 1 (Read 0 1) ∷ [];
  drivers = None ∷ None ∷ Some 2 ∷ [];
  memories = memory_of (record { width = 1; address_bits = 3; enable = 0; address = 1; word = 0 }) ∷ [];
}

abbrev pub one_memory_text : List ℕ
one_memory_text =
    codes "module t_interconnect (\n  input wire clk,\n  input wire reset,\n  input wire [0:0] a$i$d,\n  input wire [2:0] b$i$d,\n  output wire [0:0] c$i$q\n);\n  reg [0:0] m0 [0:7];\n  wire [0:0] n0 = a$i$d;\n  wire [2:0] n1 = b$i$d;\n  wire [0:0] n2 = m0[n1];\n  always @(posedge clk) if (n0) m0[n1] <= n0;\n  assign c$i$q = n2;\nendmodule\n"
