-- Waves files: the inputs of a module, cycle by cycle.
use Rattle.std.specs.Prelude.{◌≡◌, ℕ, ◌+◌, ◌<◌, ◌≤◌, true, nat_lt, List, [], ◌∷◌, length, drop, map, All, slice_get, Option, Some, None, is_some, if◌then◌else◌}
use Rattle.av_base.specs.Word.{Word}
use Rattle.waves.specs.declared.faults.WavesRule.{WavesRule}
use Rattle.waves.specs.declared.faults.WavesRule.TheVariants.{Lines}
use Rattle.waves.specs.declared.faults.WavesFault.{WavesFault}
use Rattle.waves.specs.declared.faults.WavesFault.TheVariants.{Refused, NoMemory}
use Rattle.waves.specs.Cuts.{lines}
use Rattle.waves.specs.Header.{cycles_in}
use Rattle.waves.specs.Rows.{IsWidth, row_of, row_rule}

-- for how many cycles the first line says that a file is
abbrev pub cycles_of : List (List ℕ) → Option ℕ
cycles_of [] = None
cycles_of (header ∷ others) = cycles_in header

-- the lines behind the first
abbrev pub later : List (List ℕ) → List (List ℕ)
later [] = []
later (header ∷ others) = others

-- the bytes are a waves file of these rows, each of values of these widths
pub record IsWavesOf (widths bytes : List ℕ) (rows : List (List Word)) : Type 0 where
  pub cycles : cycles_of (lines bytes) ≡ Some (length rows)
  pub each : map (row_of widths) (later (lines bytes)) ≡ map Some rows

-- what the line of a cycle breaks, where lines of so many cycles are due and these are there
abbrev pub line_rule : List ℕ → ℕ → Option (List ℕ) → ℕ → Option WavesRule
line_rule widths due (Some line) cycle = if nat_lt cycle due then row_rule widths line else Some Lines
line_rule widths due None cycle = if nat_lt cycle due then Some Lines else None

abbrev pub rule_at : List ℕ → ℕ → List (List ℕ) → ℕ → Option WavesRule
rule_at widths due there cycle = line_rule widths due (slice_get there cycle) cycle

-- the line of this cycle is the first that breaks a rule, and breaks this one
pub record IsFirstBroken (widths : List ℕ) (due : ℕ) (there : List (List ℕ)) (cycle : ℕ) (rule : WavesRule) : Type 0 where
  pub broken : rule_at widths due there cycle ≡ Some rule
  pub before : (earlier : ℕ) → earlier < cycle → rule_at widths due there earlier ≡ None

-- a fault among the lines of the cycles, the first of which is line 2; want of memory says nothing of them
abbrev pub IsFaultIn : List ℕ → ℕ → List (List ℕ) → WavesFault → Type 0
IsFaultIn widths due there (Refused number rule) = (cycle : ℕ) × (number ≡ cycle + 2) × IsFirstBroken widths due there cycle rule
IsFaultIn widths due there NoMemory = true ≡ true

-- a fault in the first line
abbrev pub IsFaultAtFirst : WavesFault → Type 0
IsFaultAtFirst (Refused number rule) = (number ≡ 1) × (rule ≡ Lines)
IsFaultAtFirst NoMemory = true ≡ true

-- the first fault of a file whose first line says that it is for so many cycles, or doesn't say
abbrev pub IsFaultBy : List ℕ → List ℕ → Option ℕ → WavesFault → Type 0
IsFaultBy widths bytes None fault = IsFaultAtFirst fault
IsFaultBy widths bytes (Some due) fault = IsFaultIn widths due (later (lines bytes)) fault

abbrev pub IsFaultOf : List ℕ → List ℕ → WavesFault → Type 0
IsFaultOf widths bytes fault = IsFaultBy widths bytes (cycles_of (lines bytes)) fault

-- waves as contracts see them: the widths of the inputs, and the values of each cycle
pub record WavesValue : Type 0 where
  pub widths : List ℕ
  pub rows : List (List Word)

-- the values on the first of the lines
abbrev pub first_row : List ℕ → List (List ℕ) → Option (List Word)
first_row widths [] = None
first_row widths (line ∷ others) = row_of widths line

abbrev pub there_or_none : Option (List Word) → List Word
there_or_none None = []
there_or_none (Some row) = row

-- the row whose line begins at a place
abbrev pub row_at : List ℕ → List ℕ → ℕ → List Word
row_at widths bytes start = there_or_none (first_row widths (lines (drop start bytes)))

-- at the place a line of such values begins
pub record IsStart (widths bytes : List ℕ) (start : ℕ) : Type 0 where
  pub within : start < length bytes
  pub row : is_some (first_row widths (lines (drop start bytes))) ≡ true

-- what is kept with waves
pub record AreStarts (widths bytes starts : List ℕ) : Type 0 where
  pub each_width : All IsWidth widths
  pub few : length starts ≤ 65536
  pub each : All (IsStart widths bytes) starts
