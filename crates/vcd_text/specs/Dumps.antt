-- Dumps, and what their writer keeps.
use Rattle.std.specs.Prelude.{◌≡◌, ◌≢◌, ℕ, ◌≤◌, ◌<◌, ◌^◌, List, length, map, All, AllPairs}
use Rattle.av_base.specs.Word.{Word, IsWord}
use Rattle.netlist.specs.Names.{IsModuleName, IsPortName}
use Rattle.netlist.specs.declared.line.PortLine.{PortLine}
use Rattle.vcd_text.specs.declared.port.DumpPort.{DumpPort}
use Rattle.vcd_text.specs.Text.{DumpValue}

-- a port of a dump: its name, and 1 to 128 bits
pub record IsPort (port : DumpPort) : Type 0 where
  pub name : IsPortName port.name
  pub some_bit : 1 ≤ port.width
  pub small : port.width ≤ 128

-- a word of 1 to 128 bits
abbrev pub IsValue : Word → Type 0
IsValue value = IsWord value.width value.bits

abbrev pub widths_of : List DumpPort → List ℕ
widths_of ports = map (λ (port : DumpPort). port.width) ports

-- a value for each port
pub record IsRow (ports : List DumpPort) (row : List Word) : Type 0 where
  pub widths : map (λ (value : Word). value.width) row ≡ widths_of ports
  pub words : All IsValue row

-- what a dump is: names as a module has them, no two ports of one name, and 1 to 65,536 rows
pub record IsDump (dump : DumpValue) : Type 0 where
  pub name : IsModuleName dump.name
  pub ports : All IsPort dump.ports
  pub distinct : AllPairs (λ (one other : DumpPort). one.name ≢ other.name) dump.ports
  pub some_row : 1 ≤ length dump.rows
  pub few : length dump.rows ≤ 65536
  pub rows : All (IsRow dump.ports) dump.rows

-- what the writer of a dump keeps: the module's name, its ports, how many rows were written, and the last of them
pub record DumperValue : Type 0 where
  pub name : List ℕ
  pub ports : List DumpPort
  pub cycles : ℕ
  pub row : List Word

-- it keeps a value for each port
pub record KeepsRow (dumper : DumperValue) : Type 0 where
  pub few : length dumper.ports < 2 ^ 32
  pub each : length dumper.row ≡ length dumper.ports

-- the port of a dump that a module's is
abbrev pub port_of : PortLine → DumpPort
port_of port = record { name = port.name; width = port.width }
