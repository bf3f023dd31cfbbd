-- The rows of a dump, as they are walked.
use Rattle.std.specs.Prelude.{◌≡◌, ℕ, suc, ◌≤◌, ◌<◌, ◌^◌, true, false, List, [], ◌∷◌, ◌++◌, length, All, slice_get, Some}
use Rattle.av_base.specs.Word.{Word}
use Rattle.vcd_text.specs.declared.port.DumpPort.{DumpPort}
use Rattle.vcd_text.specs.Dumps.{widths_of}
use Rattle.vcd_reader.specs.declared.faults.DumpFault.{DumpFault}
use Rattle.vcd_reader.specs.declared.faults.DumpFault.TheVariants.{Refused, NoMemory}
use Rattle.vcd_reader.specs.Found.{Found, followed}
use Rattle.vcd_reader.specs.Readings.{is_empty, change_lines, time_lines, row_lines, dump_read}
use Rattle.vcd_reader.specs.Reads.{HasBits, rows_told, TellsRows}
use Rattle.vcd_reader.specs.Worked.{fault_in}

-- a walk through rows as contracts see it: all of them, and the cycle where it is
pub record RowsValue : Type 0 where
  pub rows : List (List Word)
  pub cycle : ℕ

-- what is told behind the line of a time, before which these rows stand: they are all where the text ends there, else changes and
-- the lines of so many times at most follow
abbrev pub behind_time : ℕ → List ℕ → ℕ → List (List Word) → List Word → List ℕ → Found (List (List Word))
behind_time few widths time front row text = elim (is_empty text) [
  | true ↦ Found.told front text
  | false ↦
      followed
      (change_lines (suc (length widths)) widths 0 row text) (λ now text. time_lines few widths time (front ++ now ∷ []) now text)
]

-- Where a reader of rows is, behind the line of a time, of all that is found: this text is ahead, and from a cycle up to the time
-- the row stays the same.
pub record IsUnder (widths : List ℕ) (found : Found (List (List Word))) (cycle time : ℕ) (row : List Word)
    (text : List ℕ) : Type 0 where
  pub few : ℕ
  pub front : List (List Word)
  pub goes_on : found ≡ behind_time few widths time front row text
  pub room : length text < few
  pub count : length front ≡ time
  pub same : (k : ℕ) → cycle ≤ k → k < time → slice_get front k ≡ Some row

-- what is kept with a walk
pub record IsWalk (ports : List DumpPort) (text : List ℕ) (cycle time : ℕ) (row : List Word) (rest : List ℕ) : Type 0 where
  pub bits : All HasBits ports
  pub few : length ports ≤ 2 ^ 32
  pub each : length row ≡ length ports
  pub small : time ≤ 65536
  pub within : cycle < time
  pub told : row_lines (widths_of ports) text ≡ Found.told (rows_told (row_lines (widths_of ports) text)) []
  pub under : IsUnder (widths_of ports) (row_lines (widths_of ports) text) cycle time row rest

-- what is kept with a dump
pub record IsKept (ports : List DumpPort) (text : List ℕ) (cycles : ℕ) : Type 0 where
  pub bits : All HasBits ports
  pub few : length ports ≤ 2 ^ 32
  pub rows : TellsRows (row_lines (widths_of ports) text) cycles

-- the first fault of a text; want of memory says nothing of it
abbrev pub IsFaultOf : List ℕ → DumpFault → Type 0
IsFaultOf text (Refused byte rule) = fault_in text (dump_read text) ≡ Some (byte, rule)
IsFaultOf text NoMemory = Unit {0}
