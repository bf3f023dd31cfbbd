-- The rows of a dump as text: a line for each cycle, with its number and the value at each port, and behind them a line with
-- their number.
use Rattle.std.specs.Prelude.{◌≡◌, ℕ, ◌+◌, ◌*◌, ◌/◌, ◌^◌, ◌<◌, ◌≤◌, List, [], ◌∷◌, ◌++◌, length, codes, decimal}
use Rattle.av_base.specs.Word.{Word}
use Rattle.vcd_text.specs.declared.port.DumpPort.{DumpPort}
use Rattle.vcd_text.specs.Text.{DumpValue, dump_text}
use Rattle.vcd_text.specs.Dumps.{IsDump}
use Rattle.vcd_reader.specs.declared.faults.DumpFault.{DumpFault}
use Rattle.vcd_reader.specs.declared.faults.DumpFault.TheVariants as read
use Rattle.vcd_reader.specs.Walks.{IsFaultOf}
use Rattle.verilog_writer.specs.Text.{hex_digits}
use Rattle.vcd_reader.specs.declared.undumps.UndumpFault.{UndumpFault}
use Rattle.vcd_reader.specs.declared.undumps.UndumpFault.TheVariants as undump

-- the value at a port: as many hexadecimal digits as its width needs
abbrev pub value_text : List ℕ → Word → List ℕ
value_text name value = codes " " ++ name ++ codes "=" ++ hex_digits ((value.width + 3) / 4) value.bits

-- the values at ports
abbrev pub values_text : List DumpPort → List Word → List ℕ
values_text [] row = []
values_text (port ∷ ports) [] = []
values_text (port ∷ ports) (value ∷ row) = value_text port.name value ++ values_text ports row

-- the line of a cycle of this number
abbrev pub row_line : List DumpPort → ℕ → List Word → List ℕ
row_line ports number row = decimal number ++ values_text ports row ++ codes "\n"

-- the lines of cycles from this number on
abbrev pub row_lines : List DumpPort → ℕ → List (List Word) → List ℕ
row_lines ports number [] = []
row_lines ports number (row ∷ rows) = row_line ports number row ++ row_lines ports (number + 1) rows

-- the line behind those of so many cycles
abbrev pub end_line : ℕ → List ℕ
end_line cycles = codes "end " ++ decimal cycles ++ codes "\n"

-- the text of a dump's rows
abbrev pub rows_text : DumpValue → List ℕ
rows_text dump = row_lines dump.ports 0 dump.rows ++ end_line (length dump.rows)

-- how many values its ports have in all cycles together
abbrev pub value_count : DumpValue → ℕ
value_count dump = length dump.rows * length dump.ports

-- the bytes are the text of a dump that is written row by row
pub record CanUndump (bytes : List ℕ) : Type 0 where
  pub dump : DumpValue
  pub is_dump : IsDump dump
  pub is_text : bytes ≡ dump_text dump
  pub few : value_count dump ≤ 2 ^ 32

-- the text is that of the rows of the dump whose text these bytes are
pub record IsUndumpOf (bytes text : List ℕ) : Type 0 where
  pub dump : DumpValue
  pub is_dump : IsDump dump
  pub is_text : bytes ≡ dump_text dump
  pub few : value_count dump ≤ 2 ^ 32
  pub rows : text ≡ rows_text dump

-- the bytes are the text of a dump whose ports have so many values, more than are written
pub record HasTooMany (bytes : List ℕ) (count : ℕ) : Type 0 where
  pub dump : DumpValue
  pub is_dump : IsDump dump
  pub is_text : bytes ≡ dump_text dump
  pub count_is : count ≡ value_count dump
  pub passed : 2 ^ 32 < count

-- why a dump is not written row by row; want of memory is no reason
abbrev pub IsUndumpFault : List ℕ → UndumpFault → Type 0
IsUndumpFault bytes (undump.Refused byte rule) = IsFaultOf bytes (read.Refused byte rule)
IsUndumpFault bytes (undump.TooManyValues count) = HasTooMany bytes count
IsUndumpFault bytes undump.NoMemory = ⊥

-- what becomes of a fault of the reader
abbrev pub fault_of : DumpFault → UndumpFault
fault_of (read.Refused byte rule) = undump.Refused byte rule
fault_of read.NoMemory = undump.NoMemory
