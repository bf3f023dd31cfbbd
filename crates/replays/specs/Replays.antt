-- What it is to replay waves on a module, and why they are refused.
use Rattle.std.specs.Prelude.{◌≡◌, ℕ, ◌*◌, ◌^◌, ◌<◌, ◌≤◌, List, length, slice_get, Some}
use Rattle.av_base.specs.Word.{Word}
use Rattle.netlist.specs.Netlists.{Netlist, IsInputPort}
use Rattle.netlist.specs.Runs.{Run}
use Rattle.cycle_sim.specs.Sims.{given_to}
use Rattle.cycle_sim.specs.Standing.{IsClearedRun}
use Rattle.waves.specs.Rows.{input_widths}
use Rattle.waves.specs.Waves.{IsWavesOf, IsFaultOf}
use Rattle.waves.specs.declared.faults.WavesFault.{WavesFault}
use Rattle.waves.specs.declared.faults.WavesFault.TheVariants as waves
use Rattle.replays.specs.declared.faults.ReplayFault.{ReplayFault}
use Rattle.replays.specs.declared.faults.ReplayFault.TheVariants as replay
use Rattle.replays.specs.Traces.{trace_text}

-- A run of a module on these rows: it begins with the reset values and with memories of 0, and its inputs in each cycle are the
-- values of the row, one for each input port in header order.
pub record IsRunOn (netlist : Netlist) (rows : List (List Word)) (run : Run) : Type 0 where
  pub is_run : IsClearedRun netlist run (length rows)
  pub inputs : (c : ℕ) (row : List Word) → slice_get rows c ≡ Some row → (k w : ℕ) → IsInputPort netlist.ports k w
      → run.input c k ≡ given_to netlist row k

-- the bytes are a waves file of these rows for the inputs of a module
abbrev pub AreWaves : Netlist → List ℕ → List (List Word) → Type 0
AreWaves netlist bytes rows = IsWavesOf (input_widths netlist.ports) bytes rows

-- how many values the nets have in all cycles together
abbrev pub value_count : Netlist → List (List Word) → ℕ
value_count netlist rows = length rows * length netlist.lines

-- waves that are replayed on a module
pub record CanReplay (netlist : Netlist) (bytes : List ℕ) : Type 0 where
  pub rows : List (List Word)
  pub are_waves : AreWaves netlist bytes rows
  pub few : value_count netlist rows ≤ 2 ^ 32

-- the text is that of the module's run on the rows of these waves
pub record IsReplayOf (netlist : Netlist) (bytes text : List ℕ) : Type 0 where
  pub rows : List (List Word)
  pub are_waves : AreWaves netlist bytes rows
  pub few : value_count netlist rows ≤ 2 ^ 32
  pub run : Run
  pub is_run : IsRunOn netlist rows run
  pub is_text : text ≡ trace_text netlist run (length rows)

-- rows on which the nets have this many values, more than are replayed
pub record AreTooMany (netlist : Netlist) (bytes : List ℕ) (count : ℕ) : Type 0 where
  pub rows : List (List Word)
  pub are_waves : AreWaves netlist bytes rows
  pub count_is : count ≡ value_count netlist rows
  pub passed : 2 ^ 32 < count

-- why these waves are not replayed on a module; want of memory is no reason, and a module has no text to refuse
abbrev pub IsReplayFault : Netlist → List ℕ → ReplayFault → Type 0
IsReplayFault netlist bytes (replay.WavesRefused line rule) =
    IsFaultOf (input_widths netlist.ports) bytes (waves.Refused line rule)
IsReplayFault netlist bytes (replay.TooManyValues count) = AreTooMany netlist bytes count
IsReplayFault netlist bytes _ = ⊥

-- what becomes of a fault of the waves
abbrev pub fault_of : WavesFault → ReplayFault
fault_of (waves.Refused line rule) = replay.WavesRefused line rule
fault_of waves.NoMemory = replay.NoMemory
