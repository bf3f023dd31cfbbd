-- The nets of a tied ready are the machine of a tied ready.
use Rattle.std.proofs.Common.{◌≡◌, ℕ, ◌+◌, ◌<◌, Bool, true, ◌==◌, sym, subst, ap, arith}
use Rattle.netlist.specs.Nets.{NetValue}
use Rattle.netlist.specs.Netlists.{Netlist}
use Rattle.netlist.specs.Runs.{Run, cycle_of, IsEndlessRun}
use Rattle.stream_runs.specs.View.{EndView, Side}
use Rattle.stream_machines.specs.Stage.{Shape, KeepsStageLaw, PassesReady, PassesAll}
use Rattle.stream_machines.specs.Parts.{plain_run}
use Rattle.stream_machines.specs.Buffers.{direct_side}
use Rattle.stream_machines.specs.Wires.{wire_shape, IsTieRun}
use Rattle.stage_core.specs.declared.beat.BeatNets.{BeatNets}
use Rattle.stage_core.specs.Beats.{view_of, beat_in}
use Rattle.stage_core.specs.Law.{KeepsShape, ReadyPasses}
use Rattle.st_timing.specs.TieNets.{IsTieShape, IsTied}

is_tie_run : (from to : BeatNets) (ready up : NetValue) (netlist : Netlist) (run : Run) → to ≡ from → IsTied netlist up → IsEndlessRun netlist run → IsTieRun (view_of run from up) (view_of run to ready)
is_tie_run from to ready up netlist run same tied endless = record {
  asks = λ c. ap (λ n. n == 1) (tied (cycle_of run c) ((endless (c + 1)).valuations c (omega arith)));
  valid = λ c. ap (λ (n : BeatNets). run.net c n.valid.number) same;
  shows = λ c. ap (λ (n : BeatNets). beat_in (cycle_of run c) n) same;
}

pub tie_between : (shape : Shape) (from to : BeatNets) (ready up : NetValue) (netlist : Netlist) (run : Run) → IsTieShape shape → to ≡ from → IsTied netlist up → IsEndlessRun netlist run →
    ((passes : ℕ → Bool) (side : Side) (up down : EndView) → IsTieRun up down → 0 < side.symbols → PassesAll passes side → KeepsStageLaw (wire_shape passes side (direct_side side) 0 true) (plain_run up down)) →
    KeepsShape shape (view_of run from up) (view_of run to ready)
tie_between shape from to ready up netlist run p same tied endless law = record {
  rank = λ _. 0;
  keeps = subst (λ (s : Shape). KeepsStageLaw s (plain_run (view_of run from up) (view_of run to ready))) (sym p.is)
      (law shape.passes shape.up _ _ (is_tie_run from to ready up netlist run same tied endless) p.some p.passes);
}

pub tie_ready : (shape : Shape) (from to : BeatNets) (ready up : NetValue) (netlist : Netlist) (run : Run) → IsTieShape shape → to ≡ from → IsTied netlist up → IsEndlessRun netlist run →
    ((passes : ℕ → Bool) (side : Side) (up down : EndView) → IsTieRun up down → PassesReady (wire_shape passes side (direct_side side) 0 true) (plain_run up down)) →
    ReadyPasses shape (view_of run from up) (view_of run to ready)
tie_ready shape from to ready up netlist run p same tied endless law =
    subst (λ (s : Shape). ReadyPasses s (view_of run from up) (view_of run to ready)) (sym p.is)
    (law shape.passes shape.up _ _ (is_tie_run from to ready up netlist run same tied endless))
