-- A module whose nets that have one value in each cycle of every run are constants.
use Rattle.std.specs.Prelude.{◌≡◌, ◌⊎◌, ℕ, List, length, slice_get, Option, Some}
use Rattle.av_base.specs.Word.{Word}
use Rattle.netlist.specs.declared.line.Line.{Line}
use Rattle.netlist.specs.declared.line.Equation.TheVariants.{Constant}
use Rattle.netlist.specs.Netlists.{Netlist, driver_of, line_of}
use Rattle.netlist.specs.Runs.{Run, Cycle, IsRun, IsValuation, SameState}
use Rattle.netlist.specs.Signals.{signal}
use Rattle.settled_netlists.specs.Values.{AreSettled, value_at}

-- a constant of the line's width stands at net n
pub record IsConstantAt (netlist : Netlist) (n : ℕ) (line : Line) : Type 0 where
  pub value : Word
  pub is : slice_get netlist.lines n ≡ Some (line_of line.width (Constant value))

-- a state of the whole module for one of the settled module, which each valuation keeps to
pub record HasStateOf (whole settled : Netlist) (state : Cycle) : Type 0 where
  pub whole_state : Cycle
  pub each : (cycle : Cycle) → IsValuation settled cycle → SameState settled state cycle → SameState whole whole_state cycle

-- the same name, ports, drivers and memories; each net is as it was or a constant, and a constant is as it was. Each run and each
-- valuation is one of the whole module. And what holds itself up in the settled module are constants alone: there is no register
-- that keeps its reset value
pub record IsSettled (whole settled : Netlist) : Type 0 where
  pub name : settled.name ≡ whole.name
  pub ports : settled.ports ≡ whole.ports
  pub drivers : (k : ℕ) → driver_of settled k ≡ driver_of whole k
  pub memories : (m : ℕ) → slice_get settled.memories m ≡ slice_get whole.memories m
  pub count : length settled.lines ≡ length whole.lines
  pub lines : (n : ℕ) (line : Line) → slice_get whole.lines n ≡ Some line
      → (slice_get settled.lines n ≡ Some line) ⊎ IsConstantAt settled n line
  pub constants : (n w : ℕ) (value : Word) → slice_get whole.lines n ≡ Some (line_of w (Constant value))
      → slice_get settled.lines n ≡ Some (line_of w (Constant value))
  pub valuations : (cycle : Cycle) → IsValuation settled cycle → IsValuation whole cycle
  pub runs : (run : Run) (cycles : ℕ) → IsRun settled run cycles → IsRun whole run cycles
  pub signals : (run : Run) (name : List ℕ) → signal settled run name ≡ signal whole run name
  pub states : (state : Cycle) → HasStateOf whole settled state
  pub nothing_left : (values : List (Option Word)) → AreSettled settled values → (n : ℕ) (value : Word)
      → value_at values n ≡ Some value
      → slice_get settled.lines n ≡ Some (line_of value.width (Constant value))
