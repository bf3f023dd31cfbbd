-- A module without what no output depends on.
use Rattle.std.specs.Prelude.{◌≡◌, ℕ, ◌<◌, ◌≤◌, List, length, Some, slice_get}
use Rattle.av_base.specs.declared.value.Val.{Val}
use Rattle.netlist.specs.declared.line.Equation.TheVariants.{Constant}
use Rattle.netlist.specs.Netlists.{Netlist, driver_of, line_of}
use Rattle.netlist.specs.Runs.{Run, Cycle, IsRun, IsValuation, SameState}
use Rattle.netlist.specs.Signals.{signal}
use Rattle.pruned_netlists.specs.Needed.{IsNeeded, IsReadFrom}

-- a run of the whole module with the same inputs, and with the same signal at each port
pub record HasWholeRun (whole pruned : Netlist) (run : Run) (cycles : ℕ) : Type 0 where
  pub whole_run : Run
  pub is_run : IsRun whole whole_run cycles
  pub inputs : whole_run.input ≡ run.input
  pub signals : (name : List ℕ) → signal whole whole_run name ≡ signal pruned run name

-- one cycle over and over
abbrev pub over_and_over : Cycle → Run
over_and_over cycle = record { input = λ _. cycle.input; net = λ _. cycle.net; cell = λ _. cycle.cell }

-- a valuation of the whole module in this state of it, with the same inputs, and with the same signal at each port
pub record HasWholeCycle (whole pruned : Netlist) (state cycle : Cycle) : Type 0 where
  pub whole_cycle : Cycle
  pub valuation : IsValuation whole whole_cycle
  pub same_state : SameState whole state whole_cycle
  pub inputs : whole_cycle.input ≡ cycle.input
  pub signals : (name : List ℕ) → signal whole (over_and_over whole_cycle) name ≡ signal pruned (over_and_over cycle) name

-- a state of the whole module for one of the pruned module, in which each valuation has one of the whole
pub record HasWholeState (whole pruned : Netlist) (state : Cycle) : Type 0 where
  pub whole_state : Cycle
  pub each : (cycle : Cycle) → IsValuation pruned cycle → SameState pruned state cycle
      → HasWholeCycle whole pruned whole_state cycle

-- each net below this one is needed
abbrev pub AreNeededBelow : Netlist → ℕ → Type 0
AreNeededBelow netlist n = (m : ℕ) → m < n → IsNeeded netlist m

-- the same name and ports; nothing but what an output depends on, and the nets of inputs; and each run and each valuation shows
-- at the ports what one of the whole module shows. A needed net below which no net is left out keeps its number
pub record IsPruned (whole pruned : Netlist) : Type 0 where
  pub name : pruned.name ≡ whole.name
  pub ports : pruned.ports ≡ whole.ports
  pub few : length pruned.lines ≤ length whole.lines
  pub few_memories : length pruned.memories ≤ length whole.memories
  pub needed : (n : ℕ) → n < length pruned.lines → IsNeeded pruned n
  pub needed_memories : (m : ℕ) → m < length pruned.memories → IsReadFrom pruned m
  pub runs : (run : Run) (cycles : ℕ) → IsRun pruned run cycles → HasWholeRun whole pruned run cycles
  pub states : (state : Cycle) → HasWholeState whole pruned state
  pub drivers : (k n : ℕ) → driver_of whole k ≡ Some n → AreNeededBelow whole n → driver_of pruned k ≡ Some n
  pub constants : (n w : ℕ) (value : Val) → slice_get whole.lines n ≡ Some (line_of w (Constant value)) → IsNeeded whole n
      → AreNeededBelow whole n
      → slice_get pruned.lines n ≡ Some (line_of w (Constant value))
