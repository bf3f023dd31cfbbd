-- A queue between two stages.
use Rattle.std.specs.Prelude.{◌≡◌, ℕ, List}
use Rattle.netlist.specs.Nets.{NetValue}
use Rattle.netlist.specs.Netlists.{Netlist}
use Rattle.netlist.specs.Runs.{Run, IsEndlessRun}
use Rattle.netlist.specs.Longer.{Extends}
use Rattle.stream_runs.specs.View.{Beat, Side}
use Rattle.stream_machines.specs.Stage.{Shape}
use Rattle.stream_machines.specs.Buffers.{IsQueueRun}
use Rattle.stage_core.specs.declared.beat.BeatNets.{BeatNets}
use Rattle.stage_core.specs.Beats.{view_of}
use Rattle.stage_core.specs.Law.{KeepsInLonger}

-- in each endless run of each longer netlist a queue of so many beats stands between the beat `from` with ready `up`, and the
-- beat `to` with ready `ready`
abbrev pub QueuesInLonger : ℕ → Netlist → BeatNets → NetValue → BeatNets → NetValue → Type 0
QueuesInLonger depth netlist from up to ready =
    (longer : Netlist) → Extends netlist longer → (run : Run) → IsEndlessRun longer run → (side : Side) → side.pace.latency ≡ 0
    → (held : ℕ → List Beat) × IsQueueRun depth side (view_of run from up) (view_of run to ready) held

-- between these ends stand a part with one of those shapes, a queue of so many beats, and a part with one of these
pub record HasQueue (fronts : Shape → Type 0) (depth : ℕ) (rears : Shape → Type 0) (netlist : Netlist) (from : BeatNets)
    (up : NetValue) (to : BeatNets) (ready : NetValue) : Type 0 where
  -- the beat before the queue and the ready that it shows, and the beat behind it and the ready that it sees
  pub coming : BeatNets
  pub shown : NetValue
  pub going : BeatNets
  pub seen : NetValue
  pub front : (shape : Shape) → fronts shape → KeepsInLonger shape netlist from up coming shown
  pub queue : QueuesInLonger depth netlist coming shown going seen
  pub rear : (shape : Shape) → rears shape → KeepsInLonger shape netlist going seen to ready
