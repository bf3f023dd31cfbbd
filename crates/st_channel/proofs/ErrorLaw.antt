-- The nets of a tied error are the machine of a tied error.
use Rattle.std.proofs.Common.{◌≡◌, ℕ, ◌+◌, ◌<◌, Bool, false, sym, subst, ap, ◌∙◌, arith}
use Rattle.netlist.specs.Nets.{NetValue}
use Rattle.netlist.specs.Netlists.{Netlist}
use Rattle.netlist.specs.Runs.{Run, cycle_of, IsEndlessRun}
use Rattle.stream_runs.specs.View.{EndView, Side, Beat}
use Rattle.stream_machines.specs.Stage.{Shape, KeepsStageLaw, PassesAll, ready_cycles}
use Rattle.stream_machines.specs.Wires.{wire_shape, wire_run, with_error_bits, IsErrorTieRun}
use Rattle.stage_core.specs.declared.beat.BeatNets.{BeatNets}
use Rattle.stage_core.specs.Beats.{view_of, beat_in}
use Rattle.stage_core.specs.Law.{KeepsShape}
use Rattle.st_channel.specs.ErrorNets.{IsErrorTieShape, TiesError}

is_error_tie_run : (from to : BeatNets) (ready up : NetValue) (netlist : Netlist) (run : Run) → TiesError from to netlist → up ≡ ready → IsEndlessRun netlist run → IsErrorTieRun (view_of run from up) (view_of run to ready)
is_error_tie_run from to ready up netlist run f through endless = record {
  asks = λ c. ap (λ (n : NetValue). run.net c n.number) through;
  valid = λ c. ap (λ (n : BeatNets). run.net c n.valid.number) f.same;
  shows = λ c.
      (ap (λ (n : BeatNets). beat_in (cycle_of run c) n) f.same
      ∙ ap (λ k. (let beat : Beat = beat_in (cycle_of run c) from in record beat { error = k })) (f.tied (cycle_of run c) ((endless (c + 1)).valuations c (omega arith))));
}

pub error_between : (width : ℕ) (shape : Shape) (from to : BeatNets) (ready up : NetValue) (netlist : Netlist) (run : Run) → IsErrorTieShape width shape → TiesError from to netlist → up ≡ ready → IsEndlessRun netlist run →
    ((passes : ℕ → Bool) (error_bits : ℕ) (side : Side) (up down : EndView) → IsErrorTieRun up down → side.error_bits ≡ 0 → 0 < side.symbols → PassesAll passes side →
    KeepsStageLaw (wire_shape passes side (with_error_bits side error_bits) side.pace.latency false) (wire_run side up down)) →
    KeepsShape shape (view_of run from up) (view_of run to ready)
error_between width shape from to ready up netlist run p f through endless law = record {
  rank = ready_cycles shape.up.pace.latency (view_of run from up);
  keeps = subst (λ (s : Shape). KeepsStageLaw s (wire_run shape.up (view_of run from up) (view_of run to ready))) (sym p.is)
      (law shape.passes width shape.up (view_of run from up) (view_of run to ready) (is_error_tie_run from to ready up netlist run f through endless) p.quiet p.some p.passes);
}
