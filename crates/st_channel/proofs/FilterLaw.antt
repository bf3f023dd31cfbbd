-- The nets of a filter are the machine of a filter, or a wire.
use Rattle.std.proofs.Common.{◌≡◌, ℕ, ◌+◌, ◌%◌, ◌^◌, ◌<◌, ◌≤◌, Bool, true, false, not, ◌&&◌, ◌||◌, ◌==◌, nat_lt, if◌then◌else◌, IsTrue, refl, sym, subst, ap, ◌∙◌, arith}
use Rattle.std.proofs.Math.Path.{fun_ext}
use Rattle.std.proofs.lemmas.Bool.{ltb-true, ltb-false, leb-true, le-leb, eq-eqb, ne_eqb, and_parts, or_parts, or_left}
use Rattle.netlist.specs.Nets.{NetValue}
use Rattle.netlist.specs.Netlists.{Netlist}
use Rattle.netlist.specs.Runs.{Cycle, Run, cycle_of, IsEndlessRun, IsValuation}
use Rattle.stream_runs.specs.View.{EndView, Side, Beat}
use Rattle.stream_machines.specs.Stage.{Shape, KeepsStageLaw, PassesReady, PassesAll, pass_shape, pass_run, ready_cycles}
use Rattle.stream_machines.specs.Wires.{wire_shape, wire_run, filtered_side, IsFilterRun}
use Rattle.stage_core.specs.declared.beat.BeatNets.{BeatNets}
use Rattle.stage_core.specs.Beats.{view_of, beat_in, ShowSame}
use Rattle.stage_core.specs.Law.{KeepsShape, ReadyPasses}
use Rattle.st_channel.specs.declared.filter.ChannelFilter.{ChannelFilter}
use Rattle.st_channel.specs.declared.filter.FilterKept.{FilterKept}
use Rattle.st_channel.specs.FilterNets.{compares, lets_through, is_ready_wire, IsFilterShape, FilterForward, FilterBackward}
use Rattle.net_parts.specs.Fitting.{fits_more}
use Rattle.st_channel.proofs.Numbers.{shown_where, or_none}
use Rattle.st_channel.proofs.Raising.{raised}

module _ (filter : ChannelFilter) (shape : Shape) (from to : BeatNets) (kept : FilterKept) (ready up : NetValue) (netlist : Netlist) (run : Run) (p : IsFilterShape filter shape) (f : FilterForward filter from to kept netlist) (b : FilterBackward filter kept ready up netlist) (endless : IsEndlessRun netlist run) where
  here : (c : ℕ) → IsValuation netlist (cycle_of run c)
  here c = (endless (c + 1)).valuations c (omega arith)

  -- ---- where channels are compared

  module _ (compared : compares filter ≡ true) where
    test_is : (c : ℕ) → lets_through filter (run.net c from.channel.number) ≡ shape.passes (run.net c from.channel.number)
    test_is c = rw compared (sym (p.passes (run.net c from.channel.number)))

    valid_is : (c : ℕ) → (run.net c to.valid.number == 1) ≡ ((run.net c from.valid.number == 1) && shape.passes (run.net c from.channel.number))
    valid_is c =
        ap (λ n. n == 1) (f.valid (cycle_of run c) (here c))
        ∙ shown_where (lets_through filter (run.net c from.channel.number)) (run.net c from.valid.number)
        ∙ ap (λ t. (run.net c from.valid.number == 1) && t) (test_is c)

    asked_late : nat_lt 0 filter.latency ≡ true → (c : ℕ) → (run.net c up.number == 1) ≡ ((run.net c ready.number == 1) || ((shape.up.pace.latency == 0) && not (run.net c to.valid.number == 1)))
    asked_late late c =
        let above : 0 < filter.latency = ltb-true 0 filter.latency late in
        let behind = p.behind in
        let apart : (shape.up.pace.latency == 0) ≡ false = ne_eqb shape.up.pace.latency 0 (λ e. (absurd (omega (arith, above, behind, e)))) in
        ap (λ (n : NetValue). run.net c n.number == 1) (b.wire (or_left (nat_lt 0 filter.latency) (not (compares filter)) late))
        ∙ rw apart (or_none (run.net c ready.number == 1) (not (run.net c to.valid.number == 1)))

    asked_now : nat_lt 0 filter.latency ≡ false → (c : ℕ) → (run.net c up.number == 1) ≡ ((run.net c ready.number == 1) || ((shape.up.pace.latency == 0) && not (run.net c to.valid.number == 1)))
    asked_now now c =
        let below : filter.latency ≤ 0 = ltb-false 0 filter.latency now in
        let behind = p.behind in
        let zero : (shape.up.pace.latency == 0) ≡ true = eq-eqb shape.up.pace.latency 0 (omega (arith, below, behind)) in
        let gated : is_ready_wire filter ≡ false = rw (now, compared) refl in
        b.asks gated (cycle_of run c) (here c)
        ∙ rw zero (ap (λ (n : NetValue). (run.net c ready.number == 1) || not (run.net c n.number == 1)) f.kept_is)

    asked : (t : Bool) → nat_lt 0 filter.latency ≡ t → (c : ℕ) → (run.net c up.number == 1) ≡ ((run.net c ready.number == 1) || ((shape.up.pace.latency == 0) && not (run.net c to.valid.number == 1)))
    asked true late c = asked_late late c
    asked false now c = asked_now now c

    channel_same : (c : ℕ) → IsTrue (run.net c to.valid.number == 1) → run.net c to.channel.number ≡ run.net c from.channel.number
    channel_same c high =
        let parts = and_parts (run.net c from.valid.number == 1) (shape.passes (run.net c from.channel.number)) (sym (valid_is c) ∙ high) in
        let few : run.net c from.channel.number ≤ filter.sink.largest = leb-true (run.net c from.channel.number) filter.sink.largest (sym (p.passes (run.net c from.channel.number)) ∙ parts.1) in
        let fits = filter.sink.fits in
        f.channel (cycle_of run c) (here c) ∙ fits_more (run.net c from.channel.number) filter.sink.bits filter.sink.bits (omega (arith, few, fits)) (omega arith)

    beat_same : (c : ℕ) → IsTrue (run.net c to.valid.number == 1) → beat_in (cycle_of run c) to ≡ beat_in (cycle_of run c) from
    beat_same c high =
        ap (λ (n : BeatNets). beat_in (cycle_of run c) n) f.same
        ∙ ap (λ k. (let beat : Beat = beat_in (cycle_of run c) from in record beat { channel = k })) (channel_same c high)

    is_filter_run : IsFilterRun shape.passes shape.up (view_of run from up) (view_of run to ready)
    is_filter_run = record { asks = asked (nat_lt 0 filter.latency) refl; valid = valid_is; shows = beat_same }

  within_largest : (channel : ℕ) → channel ≤ shape.up.max_channel → IsTrue (shape.passes channel) → channel ≤ filter.sink.largest
  within_largest channel le passed = leb-true channel filter.sink.largest (sym (p.passes channel) ∙ passed)

  -- ---- where all go straight through

  module _ (plain : compares filter ≡ false) where
    through : up ≡ ready
    through = b.wire (rw plain (ends (nat_lt 0 filter.latency)))
      where
        ends : (t : Bool) → (t || true) ≡ true
        ends true = refl
        ends false = refl

    few_largest : filter.source.largest ≤ filter.sink.largest
    few_largest = ltb-false filter.sink.largest filter.source.largest (or_parts (nat_lt filter.sink.largest filter.source.largest) (nat_lt filter.sink.bits filter.source.bits) plain).0

    few_bits : filter.source.bits ≤ filter.sink.bits
    few_bits = ltb-false filter.sink.bits filter.source.bits (or_parts (nat_lt filter.sink.largest filter.source.largest) (nat_lt filter.sink.bits filter.source.bits) plain).1

    valid_through : ◌≡◌ {A = ℕ → ℕ} (λ c. run.net c to.valid.number) (λ c. run.net c from.valid.number)
    valid_through = fun_ext (λ c. f.valid (cycle_of run c) (here c) ∙ rw plain refl)

    channel_through : ◌≡◌ {A = ℕ → ℕ} (λ c. run.net c to.channel.number) (λ c. run.net c from.channel.number)
    channel_through = fun_ext (λ c. f.channel (cycle_of run c) (here c) ∙ fits_more (run.net c from.channel.number) filter.source.bits filter.sink.bits (f.fits (cycle_of run c) (here c)) few_bits)

    same_view : view_of run to ready ≡ view_of run from up
    same_view =
        ap (λ (n : BeatNets). view_of run n ready) f.same
        ∙ ap (λ v. (let view : EndView = view_of run from ready in record view { valid = v; channel = λ c. run.net c to.channel.number })) valid_through
        ∙ ap (λ k. (let view : EndView = view_of run from ready in record view { channel = k })) channel_through
        ∙ ap (λ (n : NetValue). view_of run from n) (sym through)

    all_pass : PassesAll shape.passes shape.up
    all_pass channel le = p.passes channel ∙ le-leb channel filter.sink.largest (let most = p.within in let few = few_largest in omega (arith, le, most, few))

    passed : ((passes : ℕ → Bool) (side : Side) (view : EndView) → 0 < side.symbols → PassesAll passes side → KeepsStageLaw (pass_shape passes side) (pass_run side view)) →
        KeepsShape shape (view_of run from up) (view_of run to ready)
    passed law =
        subst (λ (v : EndView). KeepsShape shape (view_of run from up) v) (sym same_view)
        (record {
          rank = ready_cycles shape.up.pace.latency (view_of run from up);
          keeps = subst (λ (s : Shape). KeepsStageLaw s (pass_run shape.up (view_of run from up))) (sym p.is)
              (raised shape.passes shape.up filter.sink.largest (pass_run shape.up (view_of run from up)) (let most = p.within in let few = few_largest in omega (arith, most, few)) (law shape.passes shape.up (view_of run from up) p.some all_pass));
        })

  filtered : compares filter ≡ true →
      ((passes : ℕ → Bool) (largest : ℕ) (side : Side) (up down : EndView) → IsFilterRun passes side up down → 0 < side.symbols → ((channel : ℕ) → channel ≤ side.max_channel → IsTrue (passes channel) → channel ≤ largest) →
      KeepsStageLaw (wire_shape passes side (filtered_side side largest) side.pace.latency false) (wire_run side up down)) →
      KeepsShape shape (view_of run from up) (view_of run to ready)
  filtered compared law = record {
    rank = ready_cycles shape.up.pace.latency (view_of run from up);
    keeps = subst (λ (s : Shape). KeepsStageLaw s (wire_run shape.up (view_of run from up) (view_of run to ready))) (sym p.is)
        (law shape.passes filter.sink.largest shape.up (view_of run from up) (view_of run to ready) (is_filter_run compared) p.some within_largest);
  }

  pub filter_between : ((passes : ℕ → Bool) (largest : ℕ) (side : Side) (up down : EndView) → IsFilterRun passes side up down → 0 < side.symbols → ((channel : ℕ) → channel ≤ side.max_channel → IsTrue (passes channel) → channel ≤ largest) →
      KeepsStageLaw (wire_shape passes side (filtered_side side largest) side.pace.latency false) (wire_run side up down)) →
      ((passes : ℕ → Bool) (side : Side) (view : EndView) → 0 < side.symbols → PassesAll passes side → KeepsStageLaw (pass_shape passes side) (pass_run side view)) →
      KeepsShape shape (view_of run from up) (view_of run to ready)
  filter_between filter_law pass_law = by_test (compares filter) refl
    where
      by_test : (t : Bool) → compares filter ≡ t → KeepsShape shape (view_of run from up) (view_of run to ready)
      by_test true compared = filtered compared filter_law
      by_test false plain = passed plain pass_law

  pub filter_ready : ((passes : ℕ → Bool) (largest : ℕ) (side : Side) (up down : EndView) → IsFilterRun passes side up down → 0 < side.symbols → ((channel : ℕ) → channel ≤ side.max_channel → IsTrue (passes channel) → channel ≤ largest) →
      PassesReady (wire_shape passes side (filtered_side side largest) side.pace.latency false) (wire_run side up down)) →
      ReadyPasses shape (view_of run from up) (view_of run to ready)
  filter_ready law = by_test (compares filter) refl
    where
      by_test : (t : Bool) → compares filter ≡ t → ReadyPasses shape (view_of run from up) (view_of run to ready)
      by_test true compared =
          subst (λ (s : Shape). ReadyPasses s (view_of run from up) (view_of run to ready)) (sym p.is)
          (law shape.passes filter.sink.largest shape.up (view_of run from up) (view_of run to ready) (is_filter_run compared) p.some within_largest)
      by_test false plain = λ c legal before. ap (λ (n : NetValue). run.net c n.number == 1) (through plain) ∙ before c (omega arith)

-- ---- this cycle's ready

pub filter_ignores : (filter : ChannelFilter) (from to : BeatNets) (kept : FilterKept) (netlist : Netlist) (one other : Cycle) → FilterForward filter from to kept netlist → IsValuation netlist one → IsValuation netlist other → ShowSame from one other → ShowSame to one other
filter_ignores filter from to kept netlist one other f v w same =
    let channel : one.net from.channel.number ≡ other.net from.channel.number = ap (λ (beat : Beat). beat.channel) same.beat in
    let valid = same.valid in
    let fitted : one.net to.channel.number ≡ other.net to.channel.number = f.channel one v ∙ ap (λ n. n % 2 ^ filter.sink.bits) channel ∙ sym (f.channel other w) in
    record {
      valid = f.valid one v ∙ ap (λ n. if lets_through filter n then one.net from.valid.number else 0) channel ∙ ap (λ n. if lets_through filter (other.net from.channel.number) then n else 0) valid ∙ sym (f.valid other w);
      beat =
          ap (λ (n : BeatNets). beat_in one n) f.same
          ∙ ap (λ (beat : Beat). record beat { channel = one.net to.channel.number }) same.beat
          ∙ ap (λ k. (let beat : Beat = beat_in other from in record beat { channel = k })) fitted
          ∙ sym (ap (λ (n : BeatNets). beat_in other n) f.same);
    }
