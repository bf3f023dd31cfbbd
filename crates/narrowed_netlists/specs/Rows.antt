-- Gaps of one digit, of four bits; and a small module.
use Rattle.std.specs.Prelude.{[], ◌∷◌}
use Rattle.av_base.specs.Word.{word}
use Rattle.netlist.specs.declared.line.Equation.TheVariants.{Input, Constant, Reg}
use Rattle.netlist.specs.Netlists.{Netlist, line_of}
use Rattle.narrowed_netlists.specs.declared.gaps.Gap.{Gap}

-- the middle of three digits
abbrev pub inner : Gap
inner = record { low = 4; zeros = 4 }

-- the lowest digit
abbrev pub bottom : Gap
bottom = record { low = 0; zeros = 4 }

-- the higher of two digits
abbrev pub top : Gap
top = record { low = 4; zeros = 4 }

-- an input, a constant, a register that takes the input, and a constant behind it
abbrev pub held : Netlist
held = record {
  name = [];
  ports = [];
  lines = line_of 1 (Input 0) ∷ line_of 1 (Constant (word 1 1)) ∷ line_of 1 (Reg (word 1 0) 0) ∷ line_of 1 (Constant
      (word 1 0)) ∷ [];
  drivers = [];
  memories = [];
}
