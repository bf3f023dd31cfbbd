-- Which stages stand between a source and a sink.
use Rattle.std.specs.Prelude.{◌≡◌, ℕ, ◌<◌, ◌≤◌, Option, Some, None, IsTrue, IsFalse}
use Rattle.stream_runs.specs.View.{Side}
use Rattle.stream_runs.specs.Ends.{Declared, side_of}
use Rattle.st_channel.specs.declared.error_tie.ErrorTie.{ErrorTie}
use Rattle.st_format.specs.declared.reorder.Reorder.{Reorder}
use Rattle.st_timing.specs.Ends.{declared}
use Rattle.stream_machines.specs.Stage.{Shape}
use Rattle.stage_core.specs.Beats.{Widths}
use Rattle.st_path.specs.Between.{most_front_memories, timed, with_errors, puts_first_high, formed, at_sink, Bounds, still, timed_bounds, formed_bounds, LeadsOn, FitSide, GivesNets}
use Rattle.st_path.specs.declared.stages.Joint.{Joint}

-- the ends of a joint
abbrev pub source_of : Joint → Declared
source_of joint = declared joint.source

abbrev pub sink_of : Joint → Declared
sink_of joint = declared joint.sink

-- the error is tied where the sink has an error port, of so many bits, and the source none; the others have the same, or the
-- sink has none
abbrev pub IsErrorTieOf : ℕ → ℕ → Option ErrorTie → Type 0
IsErrorTieOf bits wanted (Some tie) = (bits ≡ 0) × (tie.width ≡ wanted)
IsErrorTieOf bits wanted None = 0 < wanted → 0 < bits

-- the symbols are turned where the first stands in the high-order bits, and at the sink in the low-order ones
abbrev pub IsTurnBack : Declared → Declared → Option Reorder → Type 0
IsTurnBack source sink (Some turn) =
    IsTrue (puts_first_high source sink) × IsFalse sink.first_high × (turn.symbols ≡ sink.symbols)
    × (turn.bits ≡ sink.symbol_bits)
IsTurnBack source sink None = puts_first_high source sink ≡ sink.first_high

-- ---- how far the stages lead

-- the side behind them, their numbers, and how many nets and memories they make at most
pub record Reach : Type 0 where
  pub side : Side
  pub bounds : Bounds
  pub nets : ℕ
  pub memories : ℕ

-- to ready latency 0
abbrev pub timed_reach : Joint → Reach
timed_reach joint =
    record {
      side =
          timed (source_of joint) (sink_of joint);
      bounds = timed_bounds (source_of joint);
      nets = 300;
      memories = most_front_memories;
    }

-- to the sink's errors
abbrev pub errors_reach : Joint → Reach
errors_reach joint = record (timed_reach joint) { side = with_errors (source_of joint) (sink_of joint); nets = 310 }

-- to its symbols
abbrev pub formed_reach : Joint → Reach
formed_reach joint =
    record {
      side =
          formed (source_of joint) (sink_of joint);
      bounds =
          formed_bounds (source_of joint) (sink_of joint);
      nets = 3560;
      memories = most_front_memories;
    }

-- from behind the queue to the sink
abbrev pub rear_reach : Joint → Reach
rear_reach joint = record { side = at_sink (source_of joint) (sink_of joint); bounds = still; nets = 100; memories = 0 }

-- stages of such shapes, which take and give such nets and make so many, and so many memories, lead from a side, where beats
-- have the channel of this end, so far
pub record ReachesFrom (joint : Joint) (up : Side) (end : Declared) (reach : Joint → Reach) (has passing : Shape → Type 0)
    (takes : Widths → Type 0) (gives : Widths → Widths) (made memories : ℕ) : Type 0 where
  pub leads : LeadsOn (source_of joint) (sink_of joint) up (reach joint).side (reach joint).bounds has passing
  pub nets : (widths : Widths) → FitSide up end widths
      → GivesNets (reach joint).side (sink_of joint) (reach joint).nets (takes widths) (gives widths) made
  pub few_memories : memories ≤ (reach joint).memories

-- they lead from the source
abbrev pub Reaches : Joint → (Joint → Reach) → (Shape → Type 0) → (Shape → Type 0) → (Widths → Type 0) → (Widths → Widths) → ℕ → ℕ
    → Type 0
Reaches joint reach has passing takes gives made memories =
    ReachesFrom joint (side_of (source_of joint)) (source_of joint) reach has passing takes gives made memories

-- they lead from behind the queue
abbrev pub ReachesBehind : Joint → (Joint → Reach) → (Shape → Type 0) → (Shape → Type 0) → (Widths → Type 0) → (Widths → Widths)
    → ℕ → ℕ → Type 0
ReachesBehind joint reach has passing takes gives made memories =
    ReachesFrom joint (formed (source_of joint) (sink_of joint)) (sink_of joint) reach has passing takes gives made memories
