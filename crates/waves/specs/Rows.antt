-- The values of a cycle, as they stand on a line.
use Rattle.std.specs.Prelude.{ℕ, ◌≤◌, ◌==◌, List, [], ◌∷◌, length, Option, Some, None, is_some, if◌then◌else◌, map, filter, not}
use Rattle.av_base.specs.Word.{Word}
use Rattle.netlist.specs.declared.line.PortLine.{PortLine}
use Rattle.waves.specs.declared.faults.WavesRule.{WavesRule}
use Rattle.waves.specs.declared.faults.WavesRule.TheVariants.{Values, Spelling}
use Rattle.waves.specs.Cuts.{texts}
use Rattle.waves.specs.Digits.{value_in}

-- the widths of the input ports in header order
abbrev pub input_widths : List PortLine → List ℕ
input_widths ports = map (λ (port : PortLine). port.width) (filter (λ (port : PortLine). not port.output) ports)

abbrev pub IsWidth : ℕ → Type 0
IsWidth width = (1 ≤ width) × (width ≤ 128)

-- a value before others, where all are there
abbrev pub both : Option Word → Option (List Word) → Option (List Word)
both (Some value) (Some others) = Some (value ∷ others)
both (Some value) None = None
both None others = None

-- the values that texts write: one of each width
abbrev pub values : List ℕ → List (List ℕ) → Option (List Word)
values [] [] = Some []
values [] (text ∷ rest) = None
values (width ∷ widths) [] = None
values (width ∷ widths) (text ∷ rest) = both (value_in width text) (values widths rest)

-- the values on a line
abbrev pub row_of : List ℕ → List ℕ → Option (List Word)
row_of widths line = values widths (texts line)

-- what is wrong with a line of values
abbrev pub row_rule : List ℕ → List ℕ → Option WavesRule
row_rule widths line =
    if length (texts line) == length widths then (if is_some (row_of widths line) then None else Some Spelling) else Some Values
