-- A module whose registers and memories leave out bits that are 0 in each cycle of every run.
use Rattle.std.specs.Prelude.{◌≡◌, ℕ, ◌+◌, ◌<◌, Bool, true, false, slice_get, Some}
use Rattle.netlist.specs.declared.line.Line.{Line}
use Rattle.netlist.specs.declared.line.Equation.{Equation}
use Rattle.netlist.specs.declared.line.Equation.TheVariants.{Input, Constant}
use Rattle.netlist.specs.Netlists.{Netlist, driver_of}
use Rattle.netlist.specs.Runs.{Run, Cycle, IsRun}
use Rattle.pruned_netlists.specs.Pruned.{HasWholeRun, HasWholeState}

abbrev pub is_fixed : Equation → Bool
is_fixed (Input port) = true
is_fixed (Constant value) = true
is_fixed _ = false

-- each of the first nets is an input or a constant
abbrev pub AreFixed : Netlist → ℕ → Type 0
AreFixed netlist count = (n : ℕ) (line : Line) → n < count → slice_get netlist.lines n ≡ Some line → is_fixed line.equation ≡ true

-- The same name and ports, and each run and each valuation shows at the ports what one of the whole module shows. The inputs and
-- constants before the first other net stand where they stood, and drive what they drove.
pub record IsNarrowed (whole narrowed : Netlist) : Type 0 where
  pub name : narrowed.name ≡ whole.name
  pub ports : narrowed.ports ≡ whole.ports
  pub runs : (run : Run) (cycles : ℕ) → IsRun narrowed run cycles → HasWholeRun whole narrowed run cycles
  pub states : (state : Cycle) → HasWholeState whole narrowed state
  pub lines : (n : ℕ) (line : Line) → slice_get whole.lines n ≡ Some line → AreFixed whole (n + 1)
      → slice_get narrowed.lines n ≡ Some line
  pub drivers : (k n : ℕ) → driver_of whole k ≡ Some n → AreFixed whole (n + 1) → driver_of narrowed k ≡ Some n
