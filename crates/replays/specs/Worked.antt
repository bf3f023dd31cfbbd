-- A module with an input that stands turned at an output, and a run of it.
use Rattle.std.specs.Prelude.{◌-◌, ◌==◌, true, false, [], ◌∷◌, None, Some, codes, if◌then◌else◌}
use Rattle.netlist.specs.declared.line.Equation.TheVariants.{Input, Not}
use Rattle.netlist.specs.Netlists.{Netlist, line_of}
use Rattle.netlist.specs.Runs.{Run}

abbrev pub inverter : Netlist
inverter = record {
  name = codes "one_interconnect";
  ports =
      record { name = codes "a$b$valid"; width = 1; output = false }
      ∷ record { name = codes "c$d$valid"; width = 1; output = true }
      ∷ [];
  lines = line_of 1 (Input 0) ∷ line_of 1 (Not 0) ∷ [];
  drivers = None ∷ Some 1 ∷ [];
  memories = [];
}

-- 0 in the first cycle, and 1 in the second
abbrev pub rising : Run
rising = record { input = λ c port. c; net = λ c n. if n == 0 then c else 1 - c; cell = λ c m address. 0 }
