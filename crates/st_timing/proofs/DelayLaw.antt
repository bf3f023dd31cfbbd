-- The nets of a delay of ready are the machine of a delay.
use Rattle.std.proofs.Common.{◌≡◌, ℕ, suc, ◌+◌, ◌-◌, ◌<◌, Bool, true, false, ◌&&◌, ◌||◌, ◌==◌, nat_lt, nat_le, if◌then◌else◌, refl, sym, subst, ap, ◌∙◌, arith}
use Rattle.std.specs.Int.{bit_at}
use Rattle.std.proofs.lemmas.Bool.{le-leb, lt-leb}
use Rattle.netlist.specs.Nets.{NetValue}
use Rattle.netlist.specs.Netlists.{Netlist}
use Rattle.netlist.specs.Runs.{Cycle, Run, cycle_of, IsEndlessRun, IsValuation}
use Rattle.stream_runs.specs.View.{EndView, Side}
use Rattle.stream_machines.specs.Stage.{Shape, KeepsStageLaw, PassesAll, ready_cycles}
use Rattle.stream_machines.specs.Wires.{wire_shape, wire_run, delayed_side, IsDelayRun}
use Rattle.stage_core.specs.declared.beat.BeatNets.{BeatNets}
use Rattle.stage_core.specs.Beats.{view_of, beat_in, ShowSame}
use Rattle.stage_core.specs.Law.{KeepsShape, ReadyPasses}
use Rattle.st_timing.specs.declared.delay.DelayKept.{DelayKept}
use Rattle.st_timing.specs.declared.delay.DelayKept.TheVariants.{Wire, Register}
use Rattle.st_timing.specs.TransferNets.{moving}
use Rattle.net_parts.specs.Histories.{earlier, TakesBit}
use Rattle.st_timing.specs.DelayNets.{IsDelayShape, GatesBeat, DelayForward, DelayBackward, delay_owns}
use Rattle.net_parts.specs.HistoryLaw.{history_bits}
use Rattle.st_timing.proofs.Moving.{moving_high}

-- a signal of some cycles before is high
pub earlier_high : (signal : ℕ → ℕ) (cycles c : ℕ) → (earlier signal cycles c == 1) ≡ (nat_le cycles c && (signal (c - cycles) == 1))
earlier_high signal cycles c = by_test (nat_le cycles c)
  where
    by_test : (t : Bool) → ((if t then signal (c - cycles) else 0) == 1) ≡ (t && (signal (c - cycles) == 1))
    by_test true = refl
    by_test false = refl

module _ (from to : BeatNets) (ready up : NetValue) (netlist : Netlist) (run : Run) (endless : IsEndlessRun netlist run) (latency cycles : ℕ) (side : Side) (behind : side.pace.latency ≡ latency) where
  here : (c : ℕ) → IsValuation netlist (cycle_of run c)
  here c = (endless (c + 1)).valuations c (omega arith)

  wire_delay : to ≡ from → cycles ≡ 0 → up ≡ ready → IsDelayRun cycles side (view_of run from up) (view_of run to ready)
  wire_delay same none through = record {
    asks = λ c.
        (let now : c - cycles ≡ c = omega (arith, none) in
        let at_once : nat_le cycles c ≡ true = le-leb cycles c (omega (arith, none)) in
        ap (λ (n : NetValue). run.net c n.number == 1) through ∙ sym (rw (at_once, now) refl));
    valid = λ c.
        (let at_once : nat_le cycles 0 ≡ true = le-leb cycles 0 (omega (arith, none)) in
        ap (λ (n : BeatNets). run.net c n.valid.number == 1) same ∙ sym (rw at_once (both (nat_lt 0 side.pace.latency) (run.net c from.valid.number == 1))));
    shows = λ c shown. ap (λ (n : BeatNets). beat_in (cycle_of run c) n) same;
  } where
    both : (l v : Bool) → (v && (l || true)) ≡ v
    both true true = refl
    both true false = refl
    both false true = refl
    both false false = refl

  gated_delay : (history shown : NetValue) → GatesBeat latency cycles from to history shown netlist → up ≡ shown → TakesBit netlist history ready → IsDelayRun cycles side (view_of run from up) (view_of run to ready)
  gated_delay history shown gates same takes = record {
    asks = asked;
    valid = λ c.
        (let late : nat_le cycles 0 ≡ false = lt-leb cycles 0 gates.some in
        let upward : (run.net c shown.number == 1) ≡ (run.net c up.number == 1) = ap (λ (n : NetValue). run.net c n.number == 1) (sym same) in
        ap (λ n. n == 1) (gates.valid (cycle_of run c) (here c))
        ∙ moving_high latency (run.net c from.valid.number) (run.net c shown.number)
        ∙ rw (late, behind) (ap (λ t. (run.net c from.valid.number == 1) && (nat_lt 0 latency || t)) upward));
    shows = λ c high. gates.beat (cycle_of run c) (here c);
  } where
    asked : (c : ℕ) → (run.net c up.number == 1) ≡ (nat_le cycles c && (run.net (c - cycles) ready.number == 1))
    asked c =
        let some = gates.some in
        let back : suc (cycles - 1) ≡ cycles = omega (arith, some) in
        let inside : cycles - 1 < history.width = omega (arith, some, gates.width) in
        ap (λ (n : NetValue). run.net c n.number == 1) same
        ∙ ap (λ n. n == 1) (gates.ready_is (cycle_of run c) (here c) ∙ history_bits netlist history ready run endless gates.starts takes c (cycles - 1) inside ∙ ap (λ k. earlier (λ d. run.net d ready.number) k c) back)
        ∙ earlier_high (λ d. run.net d ready.number) cycles c

  pub is_delay_run : (kept : DelayKept) → DelayForward latency cycles from to kept netlist → DelayBackward cycles kept ready up netlist → IsDelayRun cycles side (view_of run from up) (view_of run to ready)
  is_delay_run Wire f b = wire_delay f.0 f.1 b
  is_delay_run (Register history shown) f b = gated_delay history shown f b.up_is b.takes

pub delay_between : (latency cycles : ℕ) (shape : Shape) (from to : BeatNets) (kept : DelayKept) (ready up : NetValue) (netlist : Netlist) (run : Run) → IsDelayShape latency cycles shape → DelayForward latency cycles from to kept netlist → DelayBackward cycles kept ready up netlist → IsEndlessRun netlist run →
    ((passes : ℕ → Bool) (cycles : ℕ) (side : Side) (up down : EndView) → IsDelayRun cycles side up down → side.pace.allowance ≡ side.pace.latency → 0 < side.symbols → PassesAll passes side →
    KeepsStageLaw (wire_shape passes side (delayed_side side cycles) side.pace.latency false) (wire_run side up down)) →
    KeepsShape shape (view_of run from up) (view_of run to ready)
delay_between latency cycles shape from to kept ready up netlist run p f b endless law = record {
  rank = ready_cycles shape.up.pace.latency (view_of run from up);
  keeps = subst (λ (s : Shape). KeepsStageLaw s (wire_run shape.up (view_of run from up) (view_of run to ready))) (sym p.is)
      (law shape.passes cycles shape.up _ _ (is_delay_run from to ready up netlist run endless latency cycles shape.up p.behind kept f b) p.strict p.some p.passes);
}

-- ---- a delay of no cycles

through : (cycles : ℕ) (kept : DelayKept) (ready up : NetValue) (netlist : Netlist) → cycles ≡ 0 → DelayBackward cycles kept ready up netlist → up ≡ ready
through cycles Wire ready up netlist none b = b
through cycles (Register history shown) ready up netlist none b = let some = b.some in absurd (omega (arith, none))

pub delay_shown : (cycles : ℕ) (kept : DelayKept) (ready up : NetValue) (netlist : Netlist) (run : Run) (c : ℕ) → cycles ≡ 0 → DelayBackward cycles kept ready up netlist → run.net c up.number ≡ run.net c ready.number
delay_shown cycles kept ready up netlist run c none b = ap (λ (n : NetValue). run.net c n.number) (through cycles kept ready up netlist none b)

pub delay_ready : (cycles : ℕ) (shape : Shape) (from to : BeatNets) (kept : DelayKept) (ready up : NetValue) (netlist : Netlist) (run : Run) → cycles ≡ 0 → DelayBackward cycles kept ready up netlist → ReadyPasses shape (view_of run from up) (view_of run to ready)
delay_ready cycles shape from to kept ready up netlist run none b c legal before = ap (λ n. n == 1) (delay_shown cycles kept ready up netlist run c none b) ∙ before c (omega arith)

-- ---- this cycle's ready

pub delay_ignores : (latency cycles : ℕ) (from to : BeatNets) (kept : DelayKept) (netlist : Netlist) (one other : Cycle) → DelayForward latency cycles from to kept netlist → IsValuation netlist one → IsValuation netlist other → ((n : ℕ) → delay_owns kept n → one.net n ≡ other.net n) →
    ShowSame from one other → ShowSame to one other
delay_ignores latency cycles from to Wire netlist one other f v w state same = subst (λ (n : BeatNets). ShowSame n one other) (sym f.0) same
delay_ignores latency cycles from to (Register history ready) netlist one other f v w state same =
    let history_same : one.net history.number ≡ other.net history.number = state history.number refl in
    let ready_same : one.net ready.number ≡ other.net ready.number = f.ready_is one v ∙ ap (λ n. bit_at n (cycles - 1)) history_same ∙ sym (f.ready_is other w) in
    let valid_same = same.valid in
    record {
      valid = f.valid one v ∙ ap (moving latency (one.net from.valid.number)) ready_same ∙ ap (λ n. moving latency n (other.net ready.number)) valid_same ∙ sym (f.valid other w);
      beat = f.beat one v ∙ same.beat ∙ sym (f.beat other w);
    }
