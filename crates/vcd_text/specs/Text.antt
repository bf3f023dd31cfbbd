-- The text of a dump: a header with the ports, the values of the first row, and what changes in each later one.
use Rattle.std.specs.Prelude.{ℕ, zero, suc, ◌+◌, ◌-◌, ◌/◌, ◌%◌, ◌==◌, nat_lt, not, ◌||◌, Bool, true, false, List, [], ◌∷◌, ◌++◌, length, codes, decimal, if◌then◌else◌}
use Rattle.av_base.specs.Word.{Word}
use Rattle.vcd_text.specs.declared.port.DumpPort.{DumpPort}

-- the code of port k, of at most so many bytes
abbrev pub code_in : ℕ → ℕ → List ℕ
code_in zero k = []
code_in (suc more) k = (33 + k % 94) ∷ elim (nat_lt k 94) [ true ↦ [] | false ↦ code_in more (k / 94 - 1) ]

-- the code of port k: the byte 33 + k mod 94, and from port 94 on behind it the code of k div 94 - 1
unfoldable pub code : ℕ → List ℕ
code k = code_in (suc k) k

-- a number below 2^count in binary digits without a zero in front: none for 0
abbrev pub binary_digits : ℕ → ℕ → List ℕ
binary_digits zero n = []
binary_digits (suc count) n = if n == 0 then [] else binary_digits count (n / 2) ++ (48 + n % 2) ∷ []

-- the same, but `0` for 0
abbrev pub binary : ℕ → ℕ → List ℕ
binary count n = if n == 0 then codes "0" else binary_digits count n

-- the line of a value of port k
abbrev pub value_line : ℕ → Word → List ℕ
value_line k value =
    if value.width == 1 then (48 + value.bits) ∷ (code k ++ codes "\n")
    else codes "b" ++ binary value.width value.bits ++ codes " " ++ code k ++ codes "\n"

-- the lines of the values of the ports from port k on
abbrev pub values_text : ℕ → List Word → List ℕ
values_text k [] = []
values_text k (value ∷ values) = value_line k value ++ values_text (k + 1) values

-- the line of a value that was another before, else nothing
abbrev pub change_line : ℕ → Word → Word → List ℕ
change_line k before now = if now.bits == before.bits then [] else value_line k now

-- the lines of the ports from port k on whose values change
abbrev pub changes_text : ℕ → List Word → List Word → List ℕ
changes_text k [] now = []
changes_text k (one ∷ before) [] = []
changes_text k (one ∷ before) (value ∷ now) = change_line k one value ++ changes_text (k + 1) before now

-- whether some value changes
abbrev pub some_change : List Word → List Word → Bool
some_change [] now = false
some_change (one ∷ before) [] = false
some_change (one ∷ before) (value ∷ now) = not (value.bits == one.bits) || some_change before now

abbrev pub time_line : ℕ → List ℕ
time_line time = codes "#" ++ decimal time ++ codes "\n"

-- the lines of the first row
abbrev pub first_text : List Word → List ℕ
first_text row = codes "#0\n$dumpvars\n" ++ values_text 0 row ++ codes "$end\n"

-- the lines of the row of a later time, behind this row: none where nothing changes
abbrev pub later_text : ℕ → List Word → List Word → List ℕ
later_text time before row = if some_change before row then time_line time ++ changes_text 0 before row else []

-- the lines of the rows from a time on, behind this row
abbrev pub later_texts : ℕ → List Word → List (List Word) → List ℕ
later_texts time before [] = []
later_texts time before (row ∷ rows) = later_text time before row ++ later_texts (time + 1) row rows

-- the lines of rows from the first on
abbrev pub rows_text : List (List Word) → List ℕ
rows_text [] = []
rows_text (row ∷ rows) = first_text row ++ later_texts 1 row rows

-- the line of port k in the header
abbrev pub port_line : ℕ → DumpPort → List ℕ
port_line k port = codes "$var wire " ++ decimal port.width ++ codes " " ++ code k ++ codes " " ++ port.name ++ codes " $end\n"

abbrev pub ports_text : ℕ → List DumpPort → List ℕ
ports_text k [] = []
ports_text k (port ∷ ports) = port_line k port ++ ports_text (k + 1) ports

-- the lines before those of the ports
abbrev pub scope_text : List ℕ → List ℕ
scope_text name = codes "$timescale 1 ns $end\n$scope module " ++ name ++ codes " $end\n"

abbrev pub head_text : List ℕ → List DumpPort → List ℕ
head_text name ports = scope_text name ++ ports_text 0 ports ++ codes "$upscope $end\n$enddefinitions $end\n"

-- a dump: a module's name, its ports, and in each row a value for each port
pub record DumpValue : Type 0 where
  pub name : List ℕ
  pub ports : List DumpPort
  pub rows : List (List Word)

-- the one text of a dump; the last line tells how many rows there are
abbrev pub dump_text : DumpValue → List ℕ
dump_text dump = head_text dump.name dump.ports ++ rows_text dump.rows ++ time_line (length dump.rows)

-- the lines that a row adds behind so many others, the last of which is this one
abbrev pub row_text : ℕ → List Word → List Word → List ℕ
row_text cycles before row = if cycles == 0 then first_text row else later_text cycles before row

-- the last of rows, or this one where there are none
abbrev pub last_row : List Word → List (List Word) → List Word
last_row before [] = before
last_row before (row ∷ rows) = last_row row rows
