-- What every run of a path does.
use Rattle.std.specs.Prelude.{◌≡◌, ℕ, Option, IfSome}
use Rattle.netlist.specs.Nets.{NetValue}
use Rattle.netlist.specs.Netlists.{Netlist}
use Rattle.netlist.specs.Runs.{Run, IsRun, Cycle, IsValuation, SameState}
use Rattle.netlist.specs.Longer.{Extends}
use Rattle.stream_runs.specs.Source.{IsLegalSource}
use Rattle.stream_runs.specs.Awake.{IsServedAwake}
use Rattle.stream_runs.specs.Ends.{Declared, side_of, view_of, stream_of, run_of}
use Rattle.stage_core.specs.Beats.{ShowSame}
use Rattle.st_path.specs.Between.{most_stage_memories}
use Rattle.st_path.specs.Ends.{signal_on, source_signals, sink_signals}
use Rattle.st_path.specs.declared.ends.SourceNets.{SourceNets}
use Rattle.st_path.specs.declared.ends.PathNets.{PathNets}

-- how many nets a path has at most, and how many memories
abbrev pub most_nets : ℕ
most_nets = 8000

abbrev pub most_memories : ℕ
most_memories = most_stage_memories

-- in each run of this netlist and of each longer one, as long as the source is legal, the stream is served and never idles
abbrev pub ServesInLonger : Declared → Declared → ℕ → SourceNets → Option NetValue → PathNets → Netlist → Type 0
ServesInLonger source sink depth from ready made netlist =
    (longer : Netlist) → Extends netlist longer → (run : Run) (cycles : ℕ) → IsRun longer run cycles
    → IsLegalSource (side_of source) (view_of (source_signals source from made run)) cycles
    → IsServedAwake (stream_of source sink depth)
    (run_of (source_signals source from made run) (sink_signals sink ready made run) (signal_on run made.dropped)) cycles

-- the net is the same in both cycles
abbrev pub IsSameNet : Cycle → Cycle → NetValue → Type 0
IsSameNet one other net = one.net net.number ≡ other.net net.number

-- a source sends the same in both cycles
pub record SendsSame (from : SourceNets) (one other : Cycle) : Type 0 where
  pub valid : IsSameNet one other from.valid
  pub word : IsSameNet one other from.word
  pub channel : IfSome from.channel (IsSameNet one other)
  pub error : IfSome from.error (IsSameNet one other)
  pub startofpacket : IfSome from.startofpacket (IsSameNet one other)
  pub endofpacket : IfSome from.endofpacket (IsSameNet one other)
  pub empty : IfSome from.empty (IsSameNet one other)

-- in two valuations of a longer netlist with one state, the sink is shown the same where the source sends the same, whatever
-- ready does
abbrev pub IgnoresReady : SourceNets → PathNets → Netlist → Type 0
IgnoresReady from made netlist =
    (longer : Netlist) → Extends netlist longer → (one other : Cycle) → IsValuation longer one → IsValuation longer other
    → SameState longer one other
    → SendsSame from one other → ShowSame made.beat one other
