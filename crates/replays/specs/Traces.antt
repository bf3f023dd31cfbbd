-- The text of a run: a line for each cycle, with its number and the value at each output, and behind them a line with their
-- number.
use Rattle.std.specs.Prelude.{ℕ, zero, suc, ◌+◌, ◌/◌, List, [], ◌∷◌, ◌++◌, codes, decimal, if◌then◌else◌}
use Rattle.netlist.specs.declared.line.PortLine.{PortLine}
use Rattle.netlist.specs.Netlists.{Netlist}
use Rattle.netlist.specs.Runs.{Cycle, Run, cycle_of}
use Rattle.netlist.specs.Signals.{port_net}
use Rattle.verilog_writer.specs.Text.{hex_digits}

-- the value at a port: as many hexadecimal digits as its width needs
abbrev pub value_text : List ℕ → ℕ → ℕ → List ℕ
value_text name width bits = codes " " ++ name ++ codes "=" ++ hex_digits ((width + 3) / 4) bits

-- what is told of port k in a cycle: the value at an output, and nothing of an input
abbrev pub port_text : Netlist → Cycle → ℕ → PortLine → List ℕ
port_text netlist cycle k port = if port.output then value_text port.name port.width (cycle.net (port_net netlist k)) else []

-- what is told of ports from port k on
abbrev pub ports_text : Netlist → Cycle → ℕ → List PortLine → List ℕ
ports_text netlist cycle k [] = []
ports_text netlist cycle k (port ∷ ports) = port_text netlist cycle k port ++ ports_text netlist cycle (k + 1) ports

-- the line of a cycle of this number
abbrev pub cycle_line : Netlist → ℕ → Cycle → List ℕ
cycle_line netlist number cycle = decimal number ++ ports_text netlist cycle 0 netlist.ports ++ codes "\n"

-- the lines of the first cycles of a run
abbrev pub cycle_lines : Netlist → Run → ℕ → List ℕ
cycle_lines netlist run zero = []
cycle_lines netlist run (suc cycles) = cycle_lines netlist run cycles ++ cycle_line netlist cycles (cycle_of run cycles)

-- the line behind those of so many cycles
abbrev pub end_line : ℕ → List ℕ
end_line cycles = codes "end " ++ decimal cycles ++ codes "\n"

-- the text of a run of so many cycles
abbrev pub trace_text : Netlist → Run → ℕ → List ℕ
trace_text netlist run cycles = cycle_lines netlist run cycles ++ end_line cycles
