-- What it is to replay waves on the module of a text, and why they are refused.
use Rattle.std.specs.Prelude.{◌≡◌, ℕ, List}
use Rattle.netlist.specs.Netlists.{Netlist, IsModule}
use Rattle.verilog_writer.specs.Text.{text_of}
use Rattle.verilog_reader.specs.Faults.{IsTextFault}
use Rattle.verilog_reader.specs.declared.reading.TextFault.{TextFault}
use Rattle.verilog_reader.specs.declared.reading.TextFault.TheVariants as read
use Rattle.replays.specs.declared.faults.ReplayFault.{ReplayFault}
use Rattle.replays.specs.declared.faults.ReplayFault.TheVariants as replay
use Rattle.replays.specs.Replays.{CanReplay, IsReplayOf, IsReplayFault}

-- the text is that of a module of which this holds
pub record IsTextWith (bytes : List ℕ) (P : Netlist → Type 0) : Type 0 where
  pub netlist : Netlist
  pub is_module : IsModule netlist
  pub is_text : bytes ≡ text_of netlist
  pub holds : P netlist

-- waves that are replayed on the module of a text
abbrev pub CanReplayText : List ℕ → List ℕ → Type 0
CanReplayText bytes waves = IsTextWith bytes (λ netlist. CanReplay netlist waves)

-- what a replay of them writes
abbrev pub IsReplayOfText : List ℕ → List ℕ → List ℕ → Type 0
IsReplayOfText bytes waves trace = IsTextWith bytes (λ netlist. IsReplayOf netlist waves trace)

-- why they are not replayed; want of memory is no reason
abbrev pub IsReplayTextFault : List ℕ → List ℕ → ReplayFault → Type 0
IsReplayTextFault bytes waves (replay.TextRefused byte rule) = IsTextFault bytes (read.Refused byte rule)
IsReplayTextFault bytes waves replay.TooManyNets = IsTextFault bytes read.TooManyNets
IsReplayTextFault bytes waves fault = IsTextWith bytes (λ netlist. IsReplayFault netlist waves fault)

-- what becomes of a fault of the text
abbrev pub fault_of_text : TextFault → ReplayFault
fault_of_text (read.Refused byte rule) = replay.TextRefused byte rule
fault_of_text read.TooManyNets = replay.TooManyNets
fault_of_text read.NoMemory = replay.NoMemory
