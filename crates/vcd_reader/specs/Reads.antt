-- What readers of a dump find, and what they are given.
use Rattle.std.specs.Prelude.{◌≡◌, ℕ, suc, ◌+◌, ◌≤◌, ◌<◌, Bool, false, ◌&&◌, not, ◌==◌, nat_lt, List, [], ◌∷◌, length, slice_set, Option, Some, None, Result, Ok, Err, codes, if◌then◌else◌}
use Rattle.std.specs.List.{list_any}
use Rattle.std.specs.Str.{bytes_eq}
use Rattle.std.specs.HashSet.{HashSet, contains_by}
use Rattle.std.specs.Borrow.{Bor}
use Rattle.std.specs.declared.hash.FoldHasher.{FoldHasher}
use Rattle.std.specs.declared.hash.BuildHasherDefault.{BuildHasherDefault}
use Rattle.av_base.specs.Word.{Word}
use Rattle.vcd_text.specs.declared.port.DumpPort.{DumpPort}
use Rattle.vcd_reader.specs.declared.rule.Rule.{Rule}
use Rattle.vcd_reader.specs.declared.faults.Stop.{Stop}
use Rattle.vcd_reader.specs.declared.kind.Kind.{Kind}
use Rattle.vcd_reader.specs.Found.{Found, followed, fixed}
use Rattle.vcd_reader.specs.Spellings.{is_of_name, is_of_number, is_of_code, Spelled, value_in}
use Rattle.vcd_reader.specs.Readings.{begins, width_at, first_values, change_line, change_lines, time_line}

-- the bytes of what stands in a hole
abbrev pub is_of : Kind → ℕ → Bool
is_of Kind.Name byte = is_of_name byte
is_of Kind.Number byte = is_of_number byte
is_of Kind.Code byte = is_of_code byte

-- how many bytes at the front of a text are those of a fixed part
abbrev pub same_len : List ℕ → List ℕ → ℕ
same_len [] text = 0
same_len (b ∷ bs) [] = 0
same_len (b ∷ bs) (c ∷ text) = if c == b then suc (same_len bs text) else 0

-- digits with no zero in front
abbrev pub leads : List ℕ → Bool
leads [] = false
leads (first ∷ digits) = not (first == 48)

-- what a reader finds that is left with this rest: behind what it read, or from where on a rule is broken
abbrev pub found_by : {A : Type 0} → Result A Rule → List ℕ → Found A
found_by (Ok a) rest = Found.told a rest
found_by (Err rule) rest = Found.broken rest rule

-- the same where what is found is left in a row
abbrev pub found_with : {A : Type 0} → List Word → Result A Rule → List ℕ → Found (A × List Word)
found_with row (Ok a) rest = Found.told (a, row) rest
found_with row (Err rule) rest = Found.broken rest rule

-- what stops a reader that takes memory: a rule that is broken from this rest on, or no memory, of which nothing is told
abbrev pub IsStop : {A : Type 0} → Found A → List ℕ → Stop → Type 0
IsStop found rest (Stop.Broken rule) = found ≡ Found.broken rest rule
IsStop found rest Stop.NoMemory = Unit {0}

-- what such a reader finds
abbrev pub IsFound : {A : Type 0} → Found A → Result A Stop → List ℕ → Type 0
IsFound found (Ok a) rest = found ≡ Found.told a rest
IsFound found (Err stop) rest = IsStop found rest stop

-- the ports from one up to another are let in
pub record LetsIn (from below : ℕ) (lets_in : ℕ → Bool) : Type 0 where
  pub is : (k : ℕ) → lets_in k ≡ (not (nat_lt k from) && nat_lt k below)

-- names, each where it stands in the text
abbrev pub Names : Type 0
Names = HashSet (Bor (List ℕ)) (BuildHasherDefault FoldHasher)

abbrev pub has_name : Names → List ℕ → Bool
has_name names name = contains_by (λ (one : Bor (List ℕ)). bytes_eq name one.now) names

-- the set has exactly the names of these ports
abbrev pub AreNamed : List DumpPort → Names → Type 0
AreNamed ports names = (name : List ℕ) → has_name names name ≡ list_any (λ (port : DumpPort). bytes_eq port.name name) ports

-- a port of 1 to 128 bits
pub record HasBits (port : DumpPort) : Type 0 where
  pub some_bit : 1 ≤ port.width
  pub small : port.width ≤ 128

-- whether the line of another port follows, behind its first byte
abbrev pub port_follows : List ℕ → Found Bool
port_follows text = followed (fixed (codes "$") text) (λ _ text. Found.told (begins 118 text) text)

-- the widths of the ports that are let in
pub record Suits (widths : List ℕ) (from below : ℕ) (width : ℕ → ℕ) (lets_in : ℕ → Bool) : Type 0 where
  pub lets : LetsIn from below lets_in
  pub same : (k : ℕ) → from ≤ k → k < below → width k ≡ width_at widths k

-- the value that a line spells, none where it is of the wrong form
abbrev pub valued : (ℕ → ℕ) → Found (ℕ × Spelled) → Found (ℕ × Option Word)
valued width (Found.told line rest) = Found.told (line.0, value_in (width line.0) line.1) rest
valued width (Found.broken rest rule) = Found.broken rest rule

-- a value that isn't the one before
abbrev pub changed : Word → Option Word → Option Word
changed before None = None
changed before (Some value) = if value.bits == before.bits then None else Some value

-- one change: the port behind it, and the row that it makes
abbrev pub changed_row : List ℕ → ℕ → List Word → List ℕ → Found (ℕ × List Word)
changed_row widths next row text =
    followed (change_line widths next row text) (λ line text. Found.told (line.0 + 1, slice_set row line.0 line.1) text)

-- the first row
abbrev pub first_row : List ℕ → List ℕ → Found (List Word)
first_row widths text =
    followed
    (fixed (codes "#0\n$dumpvars\n") text) (λ _ text. followed
    (first_values 0 widths text) (λ row text. followed (fixed (codes "$end\n") text) (λ _ text. Found.told row text)))

-- the first row, and the time behind it
abbrev pub begun : List ℕ → List ℕ → Found (ℕ × List Word)
begun widths text =
    followed (first_row widths text) (λ row text. followed (time_line 0 text) (λ time text. Found.told (time, row) text))

-- the row of a time, behind this one, and the time behind it
abbrev pub later_row : List ℕ → ℕ → List Word → List ℕ → Found (ℕ × List Word)
later_row widths time row text =
    followed
    (change_lines (suc (length widths)) widths 0 row text) (λ now text. followed
    (time_line time text) (λ later text. Found.told (later, now) text))

-- the rows that are told
abbrev pub rows_told : Found (List (List Word)) → List (List Word)
rows_told (Found.told rows rest) = rows
rows_told (Found.broken rest rule) = []

-- rows are told, so many, and nothing stands behind them
pub record TellsRows (found : Found (List (List Word))) (cycles : ℕ) : Type 0 where
  pub told : found ≡ Found.told (rows_told found) []
  pub count : cycles ≡ length (rows_told found)
