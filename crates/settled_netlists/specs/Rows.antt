-- A small module, and values of its nets that hold each other up, and that don't.
use Rattle.std.specs.Prelude.{List, [], ◌∷◌, Option, Some, None}
use Rattle.av_base.specs.Word.{Word, word}
use Rattle.netlist.specs.declared.line.Equation.TheVariants.{Input, And, Not, Reg}
use Rattle.netlist.specs.Netlists.{Netlist, line_of}

abbrev pub low : Word
low = word 1 0

abbrev pub high : Word
high = word 1 1

-- an input; a register that takes its conjunction with the input; the conjunction; a register that turns each cycle; what it
-- turns to
abbrev pub small : Netlist
small = record {
  name = [];
  ports = [];
  lines = line_of 1 (Input 0) ∷ line_of 1 (Reg low 2) ∷ line_of 1 (And 0 1) ∷ line_of 1 (Reg low 4) ∷ line_of 1 (Not 3) ∷ [];
  drivers = [];
  memories = [];
}

-- the first register and the conjunction are 0
abbrev pub stays_low : List (Option Word)
stays_low = None ∷ Some low ∷ Some low ∷ []

-- the register alone
abbrev pub without_next : List (Option Word)
without_next = None ∷ Some low ∷ []

-- both are 1, which is no reset value
abbrev pub stays_high : List (Option Word)
stays_high = None ∷ Some high ∷ Some high ∷ []

-- the register that turns stays 0
abbrev pub turns : List (Option Word)
turns = None ∷ None ∷ None ∷ Some low ∷ Some high ∷ []

-- an input has a value
abbrev pub input_known : List (Option Word)
input_known = Some low ∷ []
