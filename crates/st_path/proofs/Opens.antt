-- Whatever the sink does, a queue between stages lets a source go on while it has room for one of its beats.
use Rattle.std.proofs.Common.{◌≡◌, ℕ, ◌+◌, ◌*◌, ◌≤◌, ◌<◌, Bool, false, IsTrue, List, inr, refl, ap, sym, subst, ◌∙◌, arith}
use Rattle.netlist.specs.Nets.{NetValue}
use Rattle.netlist.specs.Netlists.{Netlist}
use Rattle.stream_runs.specs.View.{EndView, Beat, Side, is_high}
use Rattle.stream_runs.specs.Symbols.{Symbol}
use Rattle.stream_runs.specs.Source.{IsLegalSource}
use Rattle.stream_runs.specs.Awake.{Throughout, Sometime, stream_window, undelivered, beats_begun}
use Rattle.stream_runs.specs.Ends.{Declared, side_of, stream_of}
use Rattle.stream_machines.specs.Stage.{Shape, StageRun, KeepsStageLaw, IsStill}
use Rattle.stream_machines.specs.Buffers.{IsQueueRun, direct_side}
use Rattle.stage_core.specs.declared.beat.BeatNets.{BeatNets}
use Rattle.stage_core.specs.declared.stream.StreamNets.{StreamNets}
use Rattle.stage_core.specs.Beats.{view_of}
use Rattle.stage_core.specs.ChainNets.{IsChainOf}
use Rattle.stage_core.specs.RegisterNets.{IsBufferShape}
use Rattle.stage_core.specs.Queued.{HasQueue}
use Rattle.st_path.specs.Joining.{CanJoin}
use Rattle.st_path.specs.Between.{formed, at_sink, still, formed_bounds, queued_bounds, LeadsOn, TakesInLonger}
use Rattle.st_path.proofs.Fronts.{joined, AreWithin, step_at_most, behind, behind_free, row_bounds, queue_part, within_window}

-- what lies between is the same under the same test and between the same sides
pub same_undelivered : (passes test : ℕ → Bool) (source up sink down : Side) (from to : EndView) (c : ℕ) → passes ≡ test → source ≡ up → sink ≡ down → undelivered passes source sink from to c ≡ undelivered test up down from to c
same_undelivered passes test source up sink down from to c same_test same_up same_down =
    ap (λ (p : ℕ → Bool). undelivered p source sink from to c) same_test ∙ ap (λ (s : Side). undelivered test s sink from to c) same_up ∙ ap (λ (s : Side). undelivered test up s from to c) same_down

-- what the law of queues says: behind a stage, and before one that is still
abbrev pub QueueTakesIn : Type 0
QueueTakesIn =
    (front rear : Shape) (one two : StageRun) (depth : ℕ) (held : ℕ → List Beat) (count : ℕ) → KeepsStageLaw front one → IsQueueRun depth front.down one.down two.up held → KeepsStageLaw rear two → IsStill rear → rear.up ≡ direct_side front.down
    → ((channel : ℕ) → IsTrue (front.passes channel) → IsTrue (rear.passes channel)) → front.needs_ready ≡ false → front.down.pace.latency ≡ 0 → front.up.pace.latency ≤ front.up.pace.allowance → 0 < front.up.symbols → 0 < front.down.symbols
    → IsLegalSource front.up one.up count → (start width : ℕ) → start + width ≤ count → front.largest + (front.step + 1) * (front.hold + front.up.pace.allowance * front.up.symbols) < width
    → Throughout start width (λ c. beats_begun front.down.symbols (undelivered front.passes front.up rear.down one.up two.down c) + front.up.symbols ≤ depth) → Sometime start width (λ c. IsTrue (is_high one.up.ready c))

module _ (source sink : Declared) (depth places : ℕ) (fronts passing rears rears_passing : Shape → Type 0) (shows queued_shows : Type 0) (join : CanJoin source sink) (same : places ≡ depth)
    (front : LeadsOn source sink (side_of source) (formed source sink) (formed_bounds source sink) fronts passing) (rear : LeadsOn source sink (formed source sink) (at_sink source sink) still rears rears_passing) where
  abbrev queue : LeadsOn source sink (formed source sink) (formed source sink) (row_bounds sink depth) (IsBufferShape places) (IsBufferShape places)
  queue = queue_part source sink depth places join same

  queued_within : AreWithin (joined (formed_bounds source sink) (row_bounds sink depth)) (queued_bounds source sink depth)
  queued_within = record { least = omega arith; most = omega arith; rest = omega arith; step = (let few = step_at_most (depth * sink.symbols) 2 0 in omega (arith, few)); largest = omega arith }

  whole_within : AreWithin (joined (queued_bounds source sink depth) still) (queued_bounds source sink depth)
  whole_within = record { least = omega arith; most = omega arith; rest = omega arith; step = omega arith; largest = omega arith }

  queued : LeadsOn source sink (side_of source) (formed source sink) (queued_bounds source sink depth) (IsChainOf fronts (IsBufferShape places) (IsBufferShape places) shows)
      (IsChainOf (λ first. fronts first × passing first) (IsBufferShape places) (IsBufferShape places) shows)
  queued = behind source sink _ _ _ _ _ _ 1 _ _ _ _ _ front queue refl join.source_fits.some (inr (omega arith)) (λ e s. e) queued_within

  -- the front, the queue, and what stands behind it
  pub whole : LeadsOn source sink (side_of source) (at_sink source sink) (queued_bounds source sink depth) (IsChainOf (IsChainOf fronts (IsBufferShape places) (IsBufferShape places) shows) rears rears_passing queued_shows)
      (IsChainOf (λ first. IsChainOf fronts (IsBufferShape places) (IsBufferShape places) shows first × IsChainOf (λ first. fronts first × passing first) (IsBufferShape places) (IsBufferShape places) shows first) rears_passing rears_passing queued_shows)
  whole = behind source sink _ _ _ _ _ _ 1 _ _ _ _ _ queued rear refl join.source_fits.some (inr (omega arith)) (λ e s. e) whole_within

  parts_free : whole.shape.needs_ready ≡ false → (front.shape.needs_ready ≡ false) × (rear.shape.needs_ready ≡ false)
  unfolding whole queued
  parts_free free =
      let last = behind_free source sink _ _ _ _ _ _ 1 _ _ _ _ _ queued rear refl join.source_fits.some (inr (omega arith)) (λ e s. e) whole_within free in
      let first = behind_free source sink _ _ _ _ _ _ 1 _ _ _ _ _ front queue refl join.source_fits.some (inr (omega arith)) (λ e s. e) queued_within last.0 in
      (first.0, last.1)

  is_still : rear.shape.needs_ready ≡ false → IsStill rear.shape
  is_still free = record {
    hold = (let few = rear.hold in omega (arith, few));
    rest = (let few = rear.rest in omega (arith, few));
    step = (let few = rear.step in omega (arith, few));
    largest = (let few = rear.largest in omega (arith, few));
    needs_ready = free;
  }

  fits : front.shape.largest + (front.shape.step + 1) * (front.shape.hold + front.shape.up.pace.allowance * front.shape.up.symbols) < stream_window (stream_of source sink depth)
  fits = subst (λ (s : Side). front.shape.largest + (front.shape.step + 1) * (front.shape.hold + s.pace.allowance * s.symbols) < stream_window (stream_of source sink depth)) (sym front.up_is)
      (within_window source sink depth front.shape join (let held = front.hold in omega (arith, held)) (let few = front.step in omega (arith, few)) (let few = front.largest in omega (arith, few)))

  pub takes_in : QueueTakesIn → (netlist : Netlist) (from : BeatNets) (made : StreamNets) (ready : NetValue) → HasQueue fronts places rears netlist from made.ready made.beat ready → whole.shape.needs_ready ≡ false
      → TakesInLonger source sink depth netlist from made ready
  takes_in law netlist from made ready has free longer e run endless count legal start le room =
      let none = parts_free free in
      let one = has.front front.shape front.keeps longer e run endless in
      let two = has.rear rear.shape rear.keeps longer e run endless in
      let direct : front.shape.down.pace.latency ≡ 0 = ap (λ (s : Side). s.pace.latency) front.down_is in
      let row = has.queue longer e run endless front.shape.down direct in
      let up = view_of run from made.ready in
      let down = view_of run made.beat ready in
      law front.shape rear.shape (record { up = up; down = view_of run has.coming has.shown; rank = one.rank }) (record { up = view_of run has.going has.seen; down = down; rank = two.rank }) places row.0 count
      one.keeps row.1 two.keeps (is_still none.1) (rear.up_is ∙ ap direct_side (sym front.down_is))
      (λ channel h. subst (λ (p : ℕ → Bool). IsTrue (p channel)) (front.test ∙ sym rear.test) h)
      none.0 direct
      (subst (λ (s : Side). s.pace.latency ≤ s.pace.allowance) (sym front.up_is) join.source_fits.pace.ordered)
      (subst (λ (s : Side). 0 < s.symbols) (sym front.up_is) join.source_fits.some)
      (subst (λ (s : Side). 0 < s.symbols) (sym front.down_is) join.sink_fits.some)
      (subst (λ (s : Side). IsLegalSource s up count) (sym front.up_is) legal)
      start (stream_window (stream_of source sink depth)) le fits
      (λ c after below.
      subst (λ (s : Side). beats_begun s.symbols (undelivered front.shape.passes front.shape.up rear.shape.down up down c) + front.shape.up.symbols ≤ places) (sym front.down_is)
      (subst (λ (s : Side). beats_begun sink.symbols (undelivered front.shape.passes front.shape.up rear.shape.down up down c) + s.symbols ≤ places) (sym front.up_is)
      (subst (λ (xs : List Symbol). beats_begun sink.symbols xs + source.symbols ≤ places) (sym (same_undelivered _ _ _ _ _ _ up down c front.test front.up_is rear.down_is)) (let fits_in = room c after below in omega (arith, fits_in, same)))))
