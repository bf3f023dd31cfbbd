-- The Verilog text of a module, in this order: its header, a line for each memory, a line for each net, a clocked line for each
-- register and then for each memory, a line for each output.
use Rattle.std.specs.Prelude.{ℕ, zero, suc, ◌+◌, ◌-◌, ◌/◌, ◌%◌, ◌^◌, List, [], ◌∷◌, ◌++◌, codes, decimal, nat_lt, slice_get, Option, Some, None, if◌then◌else◌}
use Rattle.netlist.specs.declared.line.Equation.{Equation}
use Rattle.netlist.specs.declared.line.Equation.TheVariants.{Input, Constant, And, Or, Xor, Add, Sub, Eq, Less, Concat, Not, Any, Mux, Slice, Reg, Read}
use Rattle.netlist.specs.declared.line.Line.{Line}
use Rattle.netlist.specs.declared.line.PortLine.{PortLine}
use Rattle.netlist.specs.declared.line.Memory.{Memory}
use Rattle.netlist.specs.declared.line.MemWrite.{MemWrite}
use Rattle.netlist.specs.Netlists.{Netlist, is_register}

-- a number below 16 as a hexadecimal digit in lower case
abbrev pub hex_digit : ℕ → ℕ
hex_digit n = if nat_lt n 10 then 48 + n else 87 + n

-- the lowest `count` hexadecimal digits of a number
abbrev pub hex_digits : ℕ → ℕ → List ℕ
hex_digits zero n = []
hex_digits (suc count) n = hex_digits count (n / 16) ++ hex_digit (n % 16) ∷ []

-- a constant of so many bits: the width, and a digit for each four bits or part of four
abbrev pub constant_text : ℕ → ℕ → List ℕ
constant_text width bits = decimal width ++ codes "'h" ++ hex_digits ((width + 3) / 4) bits

-- the bits of a net or port, highest first
abbrev pub range_text : ℕ → List ℕ
range_text width = codes "[" ++ decimal (width - 1) ++ codes ":0]"

abbrev pub net_name : ℕ → List ℕ
net_name n = codes "n" ++ decimal n

abbrev pub memory_name : ℕ → List ℕ
memory_name m = codes "m" ++ decimal m

abbrev pub direction_text : PortLine → List ℕ
direction_text port = if port.output then codes "output" else codes "input"

-- a port's line of the header, from behind the line before it on
abbrev pub port_text : PortLine → List ℕ
port_text port = codes ",\n  " ++ direction_text port ++ codes " wire " ++ range_text port.width ++ codes " " ++ port.name

abbrev pub ports_text : List PortLine → List ℕ
ports_text [] = []
ports_text (port ∷ ports) = port_text port ++ ports_text ports

abbrev pub header_text : Netlist → List ℕ
header_text netlist =
    codes "module " ++ netlist.name ++ codes " (\n  input wire clk,\n  input wire reset" ++ ports_text netlist.ports
    ++ codes "\n);\n"

abbrev pub name_of : Option PortLine → List ℕ
name_of None = []
name_of (Some port) = port.name

-- two nets with an operator between them
abbrev pub infix_text : ℕ → List ℕ → ℕ → List ℕ
infix_text a operator b = net_name a ++ codes " " ++ operator ++ codes " " ++ net_name b

-- what stands on the right of a net's line; a register's has nothing there
abbrev pub right_text : List PortLine → Equation → List ℕ
right_text ports (Input port) = name_of (slice_get ports port)
right_text ports (Constant value) = constant_text value.width value.bits
right_text ports (And a b) = infix_text a (codes "&") b
right_text ports (Or a b) = infix_text a (codes "|") b
right_text ports (Xor a b) = infix_text a (codes "^") b
right_text ports (Add a b) = infix_text a (codes "+") b
right_text ports (Sub a b) = infix_text a (codes "-") b
right_text ports (Eq a b) = infix_text a (codes "==") b
right_text ports (Less a b) = infix_text a (codes "<") b
right_text ports (Concat a b) = codes "{" ++ net_name a ++ codes ", " ++ net_name b ++ codes "}"
right_text ports (Not a) = codes "~" ++ net_name a
right_text ports (Any a) = codes "|" ++ net_name a
right_text ports (Mux s a b) = net_name s ++ codes " ? " ++ net_name a ++ codes " : " ++ net_name b
right_text ports (Slice a high low) = net_name a ++ codes "[" ++ decimal high ++ codes ":" ++ decimal low ++ codes "]"
right_text ports (Reg reset next) = []
right_text ports (Read m a) = memory_name m ++ codes "[" ++ net_name a ++ codes "]"

abbrev pub wire_line : List PortLine → ℕ → ℕ → Equation → List ℕ
wire_line ports n width equation =
    codes "  wire " ++ range_text width ++ codes " " ++ net_name n ++ codes " = " ++ right_text ports equation ++ codes ";\n"

abbrev pub register_line : ℕ → ℕ → List ℕ
register_line n width = codes "  reg " ++ range_text width ++ codes " " ++ net_name n ++ codes ";\n"

-- the line of memory m: the bits of its words, and its addresses up to the last
abbrev pub memory_line : ℕ → Memory → List ℕ
memory_line m memory =
    codes "  reg " ++ range_text memory.width ++ codes " " ++ memory_name m ++ codes " [0:"
    ++ decimal (2 ^ memory.address_bits - 1)
    ++ codes "];\n"

-- the lines of the memories from memory m on
abbrev pub memories_text : ℕ → List Memory → List ℕ
memories_text m [] = []
memories_text m (memory ∷ memories) = memory_line m memory ++ memories_text (m + 1) memories

-- the line of net n
abbrev pub net_line : List PortLine → ℕ → Line → List ℕ
net_line ports n line =
    if is_register line.equation then register_line n line.width else wire_line ports n line.width line.equation

-- the lines of the nets from net n on
abbrev pub nets_text : List PortLine → ℕ → List Line → List ℕ
nets_text ports n [] = []
nets_text ports n (line ∷ lines) = net_line ports n line ++ nets_text ports (n + 1) lines

-- what the clock does to register n: it takes its reset value, or what its next net has
abbrev pub clock_line : ℕ → ℕ → ℕ → ℕ → List ℕ
clock_line n width reset next =
    codes "  always @(posedge clk) if (reset) " ++ net_name n ++ codes " <= " ++ constant_text width reset ++ codes "; else "
    ++ net_name n ++ codes " <= " ++ net_name next ++ codes ";\n"

-- the clocked line of net n; only a register has one
abbrev pub clocked_line : ℕ → Equation → List ℕ
clocked_line n (Reg reset next) = clock_line n reset.width reset.bits next
clocked_line n _ = []

-- the clocked lines of the nets from net n on
abbrev pub clocked_text : ℕ → List Line → List ℕ
clocked_text n [] = []
clocked_text n (line ∷ lines) = clocked_line n line.equation ++ clocked_text (n + 1) lines

-- what the clock does to memory m: it takes a word at an address where the write is enabled
abbrev pub write_line : ℕ → MemWrite → List ℕ
write_line m write =
    codes "  always @(posedge clk) if (" ++ net_name write.enable ++ codes ") " ++ memory_name m ++ codes "["
    ++ net_name write.address ++ codes "] <= " ++ net_name write.word ++ codes ";\n"

-- the clocked line of memory m; one that waits for its write has none
abbrev pub written_line : ℕ → Option MemWrite → List ℕ
written_line m None = []
written_line m (Some write) = write_line m write

-- the clocked lines of the memories from memory m on
abbrev pub writes_text : ℕ → List Memory → List ℕ
writes_text m [] = []
writes_text m (memory ∷ memories) = written_line m memory.write ++ writes_text (m + 1) memories

-- the line of an output, by the net that drives it; an input has none
abbrev pub assign_line : PortLine → Option ℕ → List ℕ
assign_line port None = []
assign_line port (Some net) =
    if port.output then codes "  assign " ++ port.name ++ codes " = " ++ net_name net ++ codes ";\n" else []

-- the lines of the outputs among the ports, each with what drives it
abbrev pub assigns_text : List PortLine → List (Option ℕ) → List ℕ
assigns_text [] drivers = []
assigns_text (port ∷ ports) [] = []
assigns_text (port ∷ ports) (driver ∷ drivers) = assign_line port driver ++ assigns_text ports drivers

-- the one text of a module
abbrev pub text_of : Netlist → List ℕ
text_of netlist =
    header_text netlist ++ memories_text 0 netlist.memories ++ nets_text netlist.ports 0 netlist.lines
    ++ clocked_text 0 netlist.lines ++ writes_text 0 netlist.memories
    ++ assigns_text netlist.ports netlist.drivers ++ codes "endmodule\n"
