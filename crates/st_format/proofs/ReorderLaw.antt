-- The nets of a beat with its symbols in the other order are the machine that turns them.
use Rattle.std.proofs.Common.{◌≡◌, ℕ, ◌+◌, ◌<◌, Bool, false, refl, sym, subst, ap, ◌∙◌, arith}
use Rattle.netlist.specs.Nets.{NetValue}
use Rattle.netlist.specs.Netlists.{Netlist}
use Rattle.netlist.specs.Runs.{Cycle, Run, cycle_of, IsEndlessRun, IsValuation}
use Rattle.stream_runs.specs.View.{EndView, Side, Beat}
use Rattle.stream_runs.specs.Symbols.{value_of}
use Rattle.stream_machines.specs.Stage.{Shape, KeepsStageLaw, PassesReady, PassesAll, ready_cycles}
use Rattle.stream_machines.specs.Wires.{wire_shape, wire_run, turned_side, IsReorderRun}
use Rattle.stream_machines.specs.Words.{turned_word}
use Rattle.stage_core.specs.declared.beat.BeatNets.{BeatNets}
use Rattle.stage_core.specs.Beats.{view_of, beat_in, ShowSame}
use Rattle.stage_core.specs.Law.{KeepsShape, ReadyPasses}
use Rattle.st_format.specs.ReorderNets.{IsReorderShape, TurnsBeat}

abbrev Turned : Type 0
Turned = (side : Side) (word k : ℕ) → k < side.symbols → value_of (turned_side side) (turned_word side.symbol_bits side.symbols word) k ≡ value_of side word k

module _ (shape : Shape) (symbols bits : ℕ) (from to : BeatNets) (ready up : NetValue) (netlist : Netlist) (run : Run) (p : IsReorderShape symbols bits shape) (f : TurnsBeat symbols bits from to netlist) (b : up ≡ ready) (endless : IsEndlessRun netlist run) (turned : Turned) where
  shown : (c : ℕ) → beat_in (cycle_of run c) to ≡ (record (beat_in (cycle_of run c) from) { word = turned_word bits symbols (run.net c from.word.number) })
  shown c = f.shows (cycle_of run c) ((endless (c + 1)).valuations c (omega arith))

  word_is : (c : ℕ) → run.net c to.word.number ≡ turned_word shape.up.symbol_bits shape.up.symbols (run.net c from.word.number)
  word_is c = ap (λ (x : Beat). x.word) (shown c) ∙ rw (p.bits_are, p.symbols_are) refl

  is_reorder_run : IsReorderRun shape.up (view_of run from up) (view_of run to ready)
  is_reorder_run = record {
    asks = λ c. ap (λ (n : NetValue). run.net c n.number) b;
    valid = λ c. ap (λ (n : NetValue). run.net c n.number) f.valid;
    shows = λ c. shown c ∙ ap (λ w. record (beat_in (cycle_of run c) from) { word = w }) (sym (ap (λ (x : Beat). x.word) (shown c)));
    words = λ c k h. ap (λ w. value_of (turned_side shape.up) w k) (word_is c) ∙ turned shape.up (run.net c from.word.number) k h;
    same = λ b c e. word_is b ∙ ap (turned_word shape.up.symbol_bits shape.up.symbols) e ∙ sym (word_is c);
  }

  pub reorder_between :
      ((passes : ℕ → Bool) (side : Side) (up down : EndView) → IsReorderRun side up down → 0 < side.symbols → PassesAll passes side → KeepsStageLaw (wire_shape passes side (turned_side side) side.pace.latency false) (wire_run side up down)) →
      KeepsShape shape (view_of run from up) (view_of run to ready)
  reorder_between law = record {
    rank = ready_cycles shape.up.pace.latency (view_of run from up);
    keeps = subst (λ (s : Shape). KeepsStageLaw s (wire_run shape.up (view_of run from up) (view_of run to ready))) (sym p.is) (law shape.passes shape.up _ _ is_reorder_run p.some p.passes);
  }

  pub reorder_ready : ((passes : ℕ → Bool) (side : Side) (up down : EndView) → IsReorderRun side up down → PassesReady (wire_shape passes side (turned_side side) side.pace.latency false) (wire_run side up down)) →
      ReadyPasses shape (view_of run from up) (view_of run to ready)
  reorder_ready law = subst (λ (s : Shape). ReadyPasses s (view_of run from up) (view_of run to ready)) (sym p.is) (law shape.passes shape.up _ _ is_reorder_run)

pub turns_ignores : (symbols bits : ℕ) (from to : BeatNets) (netlist : Netlist) (one other : Cycle) → TurnsBeat symbols bits from to netlist → IsValuation netlist one → IsValuation netlist other → ShowSame from one other → ShowSame to one other
turns_ignores symbols bits from to netlist one other f v w same = record {
  valid = ap (λ (n : NetValue). one.net n.number) f.valid ∙ same.valid ∙ sym (ap (λ (n : NetValue). other.net n.number) f.valid);
  beat = f.shows one v ∙ ap (λ (x : Beat). record x { word = turned_word bits symbols x.word }) same.beat ∙ sym (f.shows other w);
}
