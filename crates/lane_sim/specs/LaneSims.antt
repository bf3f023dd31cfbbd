-- A simulator of eight lanes as contracts see it: in each lane it is a plain one.
use Rattle.std.specs.Prelude.{◌≡◌, ℕ, ◌+◌, ◌<◌, Bool, true, List, [], length, slice_index_or, map}
use Rattle.av_base.specs.Word.{Word}
use Rattle.netlist.specs.declared.line.Memory.{Memory}
use Rattle.netlist.specs.declared.line.PortLine.{PortLine}
use Rattle.netlist.specs.declared.line.Line.{Line}
use Rattle.netlist.specs.Netlists.{Netlist, IsInputPort}
use Rattle.netlist.specs.Runs.{Cycle, Run, IsValuation, Steps, SameInputs, SameState, SameNets}
use Rattle.cycle_sim.specs.Sims.{SimValue, AreNets, AreWords, ArePlaces, IsSim, given_to, input_widths, present}
use Rattle.cycle_sim.specs.Standing.{IsClearedRun, StandsFor, with_cycle}
use Rattle.cycle_sim.specs.Settled.{AreSettled}
use Rattle.cycle_sim.specs.Readers.{AreReaders}
use Rattle.lane_sim.specs.LaneWords.{LaneWord, value_at}

-- the values in a lane
abbrev pub lane_words : ℕ → List LaneWord → List Word
lane_words j values = map (λ (x : LaneWord). value_at x j) values

-- the words of the memories in one lane, one memory after another, and where those of each begin
pub record CellsValue : Type 0 where
  pub places : List ℕ
  pub words : List Word

abbrev pub no_cells : CellsValue
no_cells = record { places = []; words = [] }

-- those of a lane
abbrev pub cells_at : List CellsValue → ℕ → CellsValue
cells_at cells j = slice_index_or cells j no_cells

-- the module, the values of each net, the words of each lane's memories, and whether the present cycle was evaluated
pub record LanesValue : Type 0 where
  pub netlist : Netlist
  pub nets : List LaneWord
  pub cells : List CellsValue
  pub stepped : Bool

-- the plain simulator in a lane
abbrev pub lane_of : LanesValue → ℕ → SimValue
lane_of lanes j =
    record
    { netlist = lanes.netlist; nets = lane_words j lanes.nets; words = (cells_at lanes.cells j).words; stepped = lanes.stepped }

-- the widths of values
abbrev pub widths_in : List LaneWord → List ℕ
widths_in values = map (λ (x : LaneWord). x.width) values

-- one value of the right width for each input port, in header order
abbrev pub AreLaneInputs : Netlist → List LaneWord → Type 0
AreLaneInputs netlist inputs = widths_in inputs ≡ input_widths netlist.ports

-- in each lane each net has a value of its width
abbrev pub AreLaneNets : List Line → List LaneWord → Type 0
AreLaneNets lines nets = (j : ℕ) → j < 8 → AreNets lines (lane_words j nets)

-- the memories of one lane
pub record AreCells (memories : List Memory) (cells : CellsValue) : Type 0 where
  pub places : ArePlaces memories cells.places
  pub words : AreWords memories cells.words

-- and of all eight
pub record AreLaneCells (memories : List Memory) (cells : List CellsValue) : Type 0 where
  pub count : length cells ≡ 8
  pub each : (j : ℕ) → j < 8 → AreCells memories (cells_at cells j)

-- in each lane the nets are settled
abbrev pub AreLanesSettled : Netlist → List LaneWord → List CellsValue → List Bool → ℕ → Type 0
AreLanesSettled netlist nets cells stale k =
    (j : ℕ) → j < 8 → AreSettled netlist (lane_words j nets) (cells_at cells j).words stale k

-- what a simulator of eight lanes keeps
pub record AreLanesSims (lanes : LanesValue) : Type 0 where
  pub count : length lanes.cells ≡ 8
  pub each : (j : ℕ) → j < 8 → IsSim (lane_of lanes j)
  pub places : (j : ℕ) → j < 8 → ArePlaces lanes.netlist.memories (cells_at lanes.cells j).places

-- A plain simulator evaluates its present cycle with these inputs: what it holds is what the equations give for them and for its
-- registers and memories, and nothing else is; it stands where it stood, and the run with this cycle is one cycle longer.
pub record IsStepWith (before after : SimValue) (inputs : List Word) : Type 0 where
  pub netlist : after.netlist ≡ before.netlist
  pub valuation : IsValuation after.netlist (present after)
  pub inputs_are : (k w : ℕ) → IsInputPort after.netlist.ports k w → (present after).input k ≡ given_to after.netlist inputs k
  pub state : SameState after.netlist (present before) (present after)
  pub only : (other : Cycle) → IsValuation after.netlist other → SameInputs after.netlist other (present after)
      → SameState after.netlist other (present after)
      → SameNets after.netlist other (present after)
  pub stands : (run : Run) (cycles : ℕ) → StandsFor before run cycles → StandsFor after run cycles
  pub run : (run : Run) (cycles : ℕ) → StandsFor before run cycles
      → IsClearedRun after.netlist (with_cycle run cycles (present after)) (cycles + 1)

-- A plain simulator takes the clock's edge.
pub record IsEdge (before after : SimValue) : Type 0 where
  pub netlist : after.netlist ≡ before.netlist
  pub steps : Steps after.netlist (present before) (present after)
  pub stands : (run : Run) (cycles : ℕ) → StandsFor before run cycles
      → StandsFor after (with_cycle run cycles (present before)) (cycles + 1)
