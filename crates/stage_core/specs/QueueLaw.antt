-- The nets of a queue are the machine of a queue: what follows of that, and a wire as a queue of no beats.
use Rattle.std.proofs.Common.{◌≡◌, ℕ, ◌<◌, ◌&&◌, ◌==◌, if◌then◌else◌, Bool, true, false, List, [], ◌∷◌, drop, refl, sym, subst}
use Rattle.netlist.specs.Nets.{NetValue}
use Rattle.netlist.specs.Netlists.{Netlist}
use Rattle.netlist.specs.Runs.{Run, cycle_of, IsEndlessRun}
use Rattle.stream_runs.specs.View.{EndView, Side, Beat}
use Rattle.stream_machines.specs.Stage.{Shape, KeepsStageLaw, PassesReady, PassesAll}
use Rattle.stream_machines.specs.Parts.{plain_run}
use Rattle.stream_machines.specs.Buffers.{IsQueueRun, buffer_shape}
use Rattle.stage_core.specs.declared.beat.BeatNets.{BeatNets}
use Rattle.stage_core.specs.Beats.{view_of, beat_in}
use Rattle.stage_core.specs.Law.{KeepsShape, ReadyPasses}
use Rattle.stage_core.specs.RegisterNets.{IsBufferShape}
use Rattle.stage_core.specs.Queued.{QueuesInLonger}
use Rattle.net_parts.specs.Laws.{extends_none}

wire_step : (f r : Bool) (beat : Beat)
    → [] ≡ (if f && r then drop 1 (if f && r then beat ∷ [] else []) else (if f && r then beat ∷ [] else []))
wire_step true true beat = refl
wire_step true false beat = refl
wire_step false r beat = refl

wire_run : (from : BeatNets) (ready : NetValue) (run : Run) (side : Side) → side.pace.latency ≡ 0
    → IsQueueRun 0 side (view_of run from ready) (view_of run from ready) (λ c. [])
wire_run from ready run side direct = record {
  holds = record {
    starts = refl;
    shows = λ c. record { valid = refl; beat = refl };
    moves =
        λ c legal. rw direct
        (wire_step (run.net c from.valid.number == 1) (run.net c ready.number == 1) (beat_in (cycle_of run c) from));
  };
  asks = λ c. refl;
}

-- nets that are the same are a queue of no beats
pub wire_queues : (from to : BeatNets) (depth : ℕ) (ready up : NetValue) (netlist : Netlist) → to ≡ from → depth ≡ 0 → up ≡ ready
    → QueuesInLonger depth netlist from up to ready
wire_queues from to depth ready up netlist same none same_ready longer e run endless side direct = (
  (λ c. []),
  subst (λ d. IsQueueRun d side (view_of run from up) (view_of run to ready) (λ c. [])) (sym none)
      (subst (λ (n : BeatNets). IsQueueRun 0 side (view_of run from up) (view_of run n ready) (λ c. [])) (sym same)
      (subst (λ (n : NetValue). IsQueueRun 0 side (view_of run from n) (view_of run from ready) (λ c. [])) (sym same_ready)
      (wire_run from ready run side direct))),
)

-- nets between which a queue stands in each run keep the law of a queue
pub queue_between : (shape : Shape) (from to : BeatNets) (depth : ℕ) (ready up : NetValue) (netlist : Netlist) (run : Run)
    → IsBufferShape depth shape → QueuesInLonger depth netlist from up to ready → IsEndlessRun netlist run →
    ((passes : ℕ → Bool) (depth : ℕ) (side : Side) (up down : EndView) (held : ℕ → List Beat) → IsQueueRun depth side up down held
    → side.pace.latency ≡ 0 → 0 < side.symbols → PassesAll passes side
    → KeepsStageLaw (buffer_shape passes depth side) (plain_run up down)) →
    KeepsShape shape (view_of run from up) (view_of run to ready)
queue_between shape from to depth ready up netlist run p queues endless law =
    let machine = queues netlist (extends_none netlist) run endless shape.up p.at_once in
    record {
      rank = λ _. 0;
      keeps =
          subst (λ (s : Shape). KeepsStageLaw s (plain_run (view_of run from up) (view_of run to ready))) (sym p.is)
          (law shape.passes depth shape.up _ _ machine.0 machine.1 p.at_once p.some p.passes);
    }

pub queue_ready : (shape : Shape) (from to : BeatNets) (depth : ℕ) (ready up : NetValue) (netlist : Netlist) (run : Run)
    → IsBufferShape depth shape → QueuesInLonger depth netlist from up to ready → IsEndlessRun netlist run →
    ((passes : ℕ → Bool) (depth : ℕ) (side : Side) (up down : EndView) (held : ℕ → List Beat) → IsQueueRun depth side up down held
    → side.pace.latency ≡ 0 → PassesReady (buffer_shape passes depth side) (plain_run up down)) →
    ReadyPasses shape (view_of run from up) (view_of run to ready)
queue_ready shape from to depth ready up netlist run p queues endless law =
    let machine = queues netlist (extends_none netlist) run endless shape.up p.at_once in
    subst (λ (s : Shape). ReadyPasses s (view_of run from up) (view_of run to ready)) (sym p.is)
    (law shape.passes depth shape.up _ _ machine.0 machine.1 p.at_once)
