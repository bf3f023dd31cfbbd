-- Stages that stand one behind the other lead from the source on.
use Rattle.std.proofs.Common.{◌≡◌, ◌⊎◌, inl, inr, ℕ, zero, suc, ◌+◌, ◌*◌, ◌≤◌, ◌<◌, Bool, true, false, not, ◌||◌, nat_lt, nat_le, IsTrue, Option, Some, None, Result, Ok, Err, refl, ap, sym, ◌∙◌, subst, arith}
use Rattle.std.specs.Prelude.{if◌then◌else◌, IfOk, IsFalse, max}
use Rattle.std.proofs.Math.Nat.{mul-le-mul_left, mul-le-mul_right}
use Rattle.std.proofs.lemmas.Bool.{and_parts, ltb-true, ltb-false, leb-true, leb-false, le-leb, eqb-true}
use Rattle.iface_roles.specs.declared.records.StreamPort.{StreamPort}
use Rattle.iface_roles.specs.Records.{ready_latency}
use Rattle.netlist.specs.Nets.{NetValue}
use Rattle.netlist.specs.Netlists.{Netlist}
use Rattle.netlist.specs.declared.fault.NetFault.{NetFault}
use Rattle.stream_runs.specs.View.{Pace, Side}
use Rattle.stream_runs.specs.Delivery.{stream_lag}
use Rattle.stream_runs.specs.Awake.{stream_window}
use Rattle.stream_runs.specs.Ends.{Declared, pace_of, side_of, stream_of}
use Rattle.stream_machines.specs.Stage.{Shape, PassesAll, chain_shape, pass_shape}
use Rattle.stream_machines.specs.Buffers.{buffer_shape}
use Rattle.stream_machines.specs.Wires.{wire_shape, with_error_bits, turned_side, delayed_side}
use Rattle.stage_core.specs.declared.beat.BeatNets.{BeatNets}
use Rattle.stage_core.specs.declared.stream.StreamNets.{StreamNets}
use Rattle.stage_core.specs.Law.{KeepsInLonger, PassesInLonger, IgnoresInLonger}
use Rattle.stage_core.specs.ChainNets.{ShapesFit, IsChainOf}
use Rattle.stage_core.specs.MaybeNets.{shape_of}
use Rattle.stage_core.specs.RegisterNets.{IsBufferShape}
use Rattle.st_channel.specs.declared.filter.ChannelFilter.{ChannelFilter}
use Rattle.st_channel.specs.declared.error_tie.ErrorTie.{ErrorTie}
use Rattle.st_channel.specs.ErrorNets.{IsErrorTieShape}
use Rattle.st_channel.specs.FilterNets.{IsFilterShape, compares, is_ready_wire}
use Rattle.st_format.specs.declared.reorder.Reorder.{Reorder}
use Rattle.st_format.specs.ReorderNets.{IsReorderShape}
use Rattle.st_timing.specs.declared.timing.Timing.{Timing}
use Rattle.st_timing.specs.declared.timing.Timing.TheVariants.{Tie, Buffer, Allowance, Wire}
use Rattle.st_timing.specs.DelayNets.{IsDelayShape}
use Rattle.st_timing.specs.TimingNets.{IsTimingOf, timing_shape, timing_memories, LeadsToZero}
use Rattle.st_timing.specs.Ends.{declared}
use Rattle.st_path.specs.Joining.{FitsPorts, TakesWhole, CanJoin}
use Rattle.st_path.specs.Between.{joined_channel, filtered, timed, with_errors, formed, ordered, at_sink, joined_test, queued_hold, Bounds, still, timed_bounds, queued_bounds, LeadsOn, LeadsFrom, IsDelayEnough, TakesInLonger, CarriesStream}
use Rattle.st_path.specs.Parts.{IsErrorTieOf, IsTurnBack}
use Rattle.st_path.proofs.AtPorts.{none_below}

-- ---- a part behind another

or_either : (a b : Bool) → IsTrue (a || b) → IsTrue a ⊎ IsTrue b
or_either true b h = inl refl
or_either false b h = inr h

none_of_both : (a b : Bool) → a || b ≡ false → (a ≡ false) × (b ≡ false)
none_of_both false b h = (refl, h)
none_of_both true b h = absurd (cc)

never_late : (latency : ℕ) → latency ≡ 0 → IsTrue (nat_lt 0 latency) → ⊥
never_late latency none late = let some : 0 < latency = ltb-true 0 latency late in absurd (omega (arith, some, none))

product_within : (a b c d : ℕ) → a ≤ b → c ≤ d → a * c ≤ b * d
product_within a b c d first second =
    let one : a * c ≤ b * c = mul-le-mul_right c first in
    let two : b * c ≤ b * d = mul-le-mul_left b second in
    omega (arith, one, two)

-- a part that holds something adds one step
pub step_at_most : (hold a b : ℕ) → (if nat_le hold 0 then a + b else a + b + 1) ≤ a + b + 1
step_at_most hold a b = by_test (nat_le hold 0)
  where
    by_test : (t : Bool) → (if t then a + b else a + b + 1) ≤ a + b + 1
    by_test true = omega arith
    by_test false = omega arith

step_within : (hold most a b c d : ℕ) → hold ≤ most → a ≤ c → b ≤ d → (if nat_le hold 0 then a + b else a + b + 1) ≤ (if nat_le most 0 then c + d else c + d + 1)
step_within hold most a b c d held first second = by_tests (nat_le hold 0) (nat_le most 0) refl refl
  where
    by_tests : (s t : Bool) → nat_le hold 0 ≡ s → nat_le most 0 ≡ t → (if s then a + b else a + b + 1) ≤ (if t then c + d else c + d + 1)
    by_tests true true none few = omega arith
    by_tests true false none few = omega arith
    by_tests false false none few = omega arith
    by_tests false true none few = absurd (let some : 0 < hold = leb-false hold 0 none in let zero_most : most ≤ 0 = leb-true most 0 few in omega (arith, some, zero_most))

-- the numbers of two parts, one behind the other
abbrev pub joined : Bounds → Bounds → Bounds
joined one two =
    record {
      least = one.least + two.least;
      most = one.most + two.most;
      rest = one.rest + two.rest;
      step = if nat_le two.most 0 then one.step + two.step else one.step + two.step + 1;
      largest = one.largest + two.largest + (one.step + 1) * two.most;
    }

-- numbers within others
pub record AreWithin (bounds limits : Bounds) : Type 0 where
  pub least : limits.least ≤ bounds.least
  pub most : bounds.most ≤ limits.most
  pub rest : bounds.rest ≤ limits.rest
  pub step : bounds.step ≤ limits.step
  pub largest : bounds.largest ≤ limits.largest

module _ (source sink : Declared) (up side down : Side) (one two whole : Bounds) (parts : ℕ) (has passing seconds ready_seconds : Shape → Type 0) (shows : Type 0)
    (front : LeadsOn source sink up side one has passing) (part : LeadsOn source sink side down two seconds ready_seconds)
    (at_once : side.pace.latency ≡ 0) (some : 0 < up.symbols) (divides : (up.symbols ≡ side.symbols * parts) ⊎ (down.symbols ≡ side.symbols * parts))
    (errors : 0 < down.error_bits → 0 < up.error_bits → 0 < side.error_bits) (within : AreWithin (joined one two) whole) where
  direct : part.shape.up.pace.latency ≡ 0
  direct = ap (λ (s : Side). s.pace.latency) part.up_is ∙ at_once

  fits : ShapesFit front.shape part.shape
  fits = record {
    same_side = front.down_is ∙ sym part.up_is;
    passed_on = λ channel h. subst (λ (p : ℕ → Bool). IsTrue (p channel)) (front.test ∙ sym part.test) h;
    has_symbols = subst (λ (s : Side). 0 < s.symbols) (sym front.up_is) some;
    divides = (
      parts,
      elim divides [
        | inl e ↦ inl (ap (λ (s : Side). s.symbols) front.up_is ∙ e ∙ ap (λ (s : Side). s.symbols * parts) (sym part.up_is))
        | inr e ↦ inr (ap (λ (s : Side). s.symbols) part.down_is ∙ e ∙ ap (λ (s : Side). s.symbols * parts) (sym part.up_is))
      ],
    );
    has_errors = λ a b. subst (λ (s : Side). 0 < s.error_bits) (sym part.up_is)
        (errors (subst (λ (s : Side). 0 < s.error_bits) part.down_is a) (subst (λ (s : Side). 0 < s.error_bits) front.up_is b));
    delayed = λ late. absurd (never_late _ direct late);
  }

  step_fits : (chain_shape front.shape part.shape).step ≤ whole.step
  step_fits =
      let added = step_within part.shape.hold two.most front.shape.step part.shape.step one.step two.step part.hold front.step part.step in
      let few : (if nat_le part.shape.hold 0 then front.shape.step + part.shape.step else front.shape.step + part.shape.step + 1) ≤ whole.step = (let most = within.step in omega (arith, added, most)) in
      subst (λ n. (if nat_lt 0 n then part.shape.step else (if nat_le part.shape.hold 0 then front.shape.step + part.shape.step else front.shape.step + part.shape.step + 1)) ≤ whole.step) (sym direct) few

  largest_fits : (chain_shape front.shape part.shape).largest ≤ whole.largest
  largest_fits =
      let product = product_within (front.shape.step + 1) (one.step + 1) part.shape.hold two.most (let few = front.step in omega (arith, few)) part.hold in
      let few : front.shape.largest + part.shape.largest + (front.shape.step + 1) * part.shape.hold ≤ whole.largest = (let most = within.largest in let first = front.largest in let second = part.largest in omega (arith, product, most, first, second)) in
      subst (λ n. (if nat_lt 0 n then part.shape.largest else front.shape.largest + part.shape.largest + (front.shape.step + 1) * part.shape.hold) ≤ whole.largest) (sym direct) few

  pub behind : LeadsOn source sink up down whole (IsChainOf has seconds ready_seconds shows) (IsChainOf (λ first. has first × passing first) ready_seconds ready_seconds shows)
  behind = record {
    shape = chain_shape front.shape part.shape;
    up_is = front.up_is;
    down_is = part.down_is;
    test = front.test;
    room = (let least = within.least in let first = front.room in let second = part.room in omega (arith, least, first, second));
    hold = (let most = within.most in let first = front.hold in let second = part.hold in omega (arith, most, first, second));
    rest = (let most = within.rest in let first = front.rest in let second = part.rest in omega (arith, most, first, second));
    step = step_fits;
    largest = largest_fits;
    always_ready = λ needs. elim (or_either _ _ needs) [ inl first ↦ front.always_ready first | inr second ↦ part.always_ready second ];
    keeps = record {
      first = front.shape;
      second = part.shape;
      is = refl;
      fit = fits;
      first_has = front.keeps;
      second_has = part.keeps;
      shown = λ late. absurd (never_late _ direct late);
      always_ready = λ needs. part.passes (front.always_ready needs);
    };
    passes = λ takes. record {
      first = front.shape;
      second = part.shape;
      is = refl;
      fit = fits;
      first_has = (front.keeps, front.passes takes);
      second_has = part.passes takes;
      shown = λ late. absurd (never_late _ direct late);
      always_ready = λ needs. part.passes takes;
    };
  }

  -- where it needs no ready, neither part does
  pub behind_free : behind.shape.needs_ready ≡ false → (front.shape.needs_ready ≡ false) × (part.shape.needs_ready ≡ false)
  unfolding behind
  behind_free free = none_of_both front.shape.needs_ready part.shape.needs_ready free

-- ---- the channels

-- without channel the largest is 0
pub side_channel : (end : Declared) → FitsPorts end → (side_of end).max_channel ≡ end.max_channel
side_channel end ports = by_port (nat_lt 0 end.channel_bits) refl
  where
    by_port : (b : Bool) → nat_lt 0 end.channel_bits ≡ b → (if b then end.max_channel else 0) ≡ end.max_channel
    by_port true is = refl
    by_port false is = sym (none_below end.channel_bits end.max_channel (ltb-false 0 end.channel_bits is) ports.channels)

pub joined_all : (source sink : Declared) (side : Side) → side.max_channel ≡ joined_channel source sink → PassesAll (joined_test source sink) side
joined_all source sink side same channel most = le-leb channel (joined_channel source sink) (omega (arith, same))

-- ---- the filter and the stage to ready latency 0

timing_holds : (timing : Timing) (shape : Shape) → timing_shape timing shape → shape.hold ≤ (shape.up.pace.allowance + 2) * shape.up.symbols
timing_holds (Tie stage) shape has = let none : shape.hold ≡ 0 = ap (λ (s : Shape). s.hold) has.is in omega arith
timing_holds (Buffer stage) shape has =
    let all : shape.hold ≡ (shape.up.pace.latency + 1) * shape.up.symbols = ap (λ (s : Shape). s.hold) has.is in
    let fewer : (shape.up.pace.latency + 1) * shape.up.symbols ≤ (shape.up.pace.allowance + 2) * shape.up.symbols = mul-le-mul_right shape.up.symbols (let strict = has.strict in omega (arith, strict)) in
    omega (arith, all, fewer)
timing_holds (Allowance stage) shape has = let all : shape.hold ≡ (shape.up.pace.allowance + 2) * shape.up.symbols = ap (λ (s : Shape). s.hold) has.is in omega arith
timing_holds (Wire stage) shape has = let none : shape.hold ≡ 0 = ap (λ (s : Shape). s.hold) has.is in omega arith

-- the memories of a buffer's beats, and else none
pub timing_few : (timing : Timing) → timing_memories timing ≤ 6
timing_few (Tie stage) = omega arith
timing_few (Buffer stage) = omega arith
timing_few (Allowance stage) = omega arith
timing_few (Wire stage) = omega arith

-- behind ready latency 0 nothing is held
timing_free : (source : StreamPort) (sink : StreamPort) (timing : Timing) (shape : Shape) → IsTimingOf source sink timing → timing_shape timing shape → (pace_of (declared source)).latency ≡ 0 → shape.hold ≡ 0
timing_free source sink (Tie stage) shape is has at_once = ap (λ (s : Shape). s.hold) has.is
timing_free source sink (Buffer stage) shape is has at_once = absurd (let same = is.latency_is in let some = stage.some in omega (arith, same, some, at_once))
timing_free source sink (Allowance stage) shape is has at_once = absurd (let same = is.latency_is in let some = stage.some in omega (arith, same, some, at_once))
timing_free source sink (Wire stage) shape is has at_once = ap (λ (s : Shape). s.hold) has.is

not_true : (b : Bool) → not b ≡ true → b ≡ false
not_true true h = absurd (cc)
not_true false h = refl

-- it needs an always ready sink only where the sink takes whole beats
timing_needs : (source : StreamPort) (sink : StreamPort) (timing : Timing) (shape : Shape) → IsTimingOf source sink timing → timing_shape timing shape → IsTrue shape.needs_ready → TakesWhole (declared source) (declared sink)
timing_needs source sink (Tie stage) shape is has needs =
    record { no_ready = not_true sink.ready (and_parts (not sink.ready) _ is).0; whole = eqb-true _ 0 (and_parts (not sink.ready) _ is).1 }
timing_needs source sink (Buffer stage) shape is has needs = absurd (let none : shape.needs_ready ≡ false = ap (λ (s : Shape). s.needs_ready) has.is in cc)
timing_needs source sink (Allowance stage) shape is has needs = absurd (let none : shape.needs_ready ≡ false = ap (λ (s : Shape). s.needs_ready) has.is in cc)
timing_needs source sink (Wire stage) shape is has needs = absurd (let none : shape.needs_ready ≡ false = ap (λ (s : Shape). s.needs_ready) has.is in cc)

abbrev pub pace_latency : Pace → ℕ
pace_latency pace = pace.latency

pub pace_is : (end : StreamPort) → (pace_of (declared end)).latency ≡ ready_latency end
pace_is end = by_ready end.ready
  where
    by_ready : (b : Bool) → pace_latency (if b then record { latency = end.latency; allowance = end.allowance } else record { latency = 0; allowance = 0 }) ≡ (if b then end.latency else 0)
    by_ready true = refl
    by_ready false = refl

late_wire : (late c : Bool) → IsTrue late → IsTrue (late || not c)
late_wire true c h = refl
late_wire false c h = absurd (cc)

module _ (from : StreamPort) (to : StreamPort) (filter : ChannelFilter) (timing : Timing) (join : CanJoin (declared from) (declared to)) (is : IsTimingOf from to timing)
    (latency_is : filter.latency ≡ (pace_of (declared from)).latency)
    (filter_is : IsFilterShape filter (wire_shape (joined_test (declared from) (declared to)) (side_of (declared from)) (filtered (declared from) (declared to)) (pace_of (declared from)).latency false))
    (leads : LeadsToZero timing (joined_test (declared from) (declared to)) (filtered (declared from) (declared to))) where
  abbrev source : Declared
  source = declared from

  abbrev sink : Declared
  sink = declared to

  abbrev gate : Shape
  gate = wire_shape (joined_test source sink) (side_of source) (filtered source sink) (pace_of source).latency false

  front_fits : ShapesFit gate leads.shape
  front_fits = record {
    same_side = sym leads.up;
    passed_on = λ channel h. subst (λ (p : ℕ → Bool). IsTrue (p channel)) (sym leads.test) h;
    has_symbols = join.source_fits.some;
    divides = (1, inl (let same = ap (λ (s : Side). s.symbols) leads.up in omega (arith, same)));
    has_errors = λ a b. subst (λ (s : Side). 0 < s.error_bits) (sym leads.up) b;
    delayed = λ late. (refl, ap (λ (s : Side). s.pace) (sym leads.up));
  }

  shown : IsTrue (nat_lt 0 leads.shape.up.pace.latency) → IsTrue (is_ready_wire filter)
  shown late = late_wire (nat_lt 0 filter.latency) (compares filter) (subst (λ n. IsTrue (nat_lt 0 n)) (ap (λ (s : Side). s.pace.latency) leads.up ∙ sym latency_is) late)

  abbrev latency : ℕ
  latency = (pace_of source).latency

  late_is : leads.shape.up.pace.latency ≡ latency
  late_is = ap (λ (s : Side). s.pace.latency) leads.up

  none_held : nat_lt 0 latency ≡ false → leads.shape.hold ≡ 0
  none_held at_once = timing_free from to timing leads.shape is leads.has (let none : latency ≤ 0 = ltb-false 0 latency at_once in omega (arith, none))

  step_none : (chain_shape gate leads.shape).step ≤ 0
  step_none = subst (λ n. (if nat_lt 0 n then leads.shape.step else (if nat_le leads.shape.hold 0 then 0 + leads.shape.step else 0 + leads.shape.step + 1)) ≤ 0) (sym late_is) (by_late (nat_lt 0 latency) refl)
    where
      by_late : (b : Bool) → nat_lt 0 latency ≡ b → (if b then leads.shape.step else (if nat_le leads.shape.hold 0 then 0 + leads.shape.step else 0 + leads.shape.step + 1)) ≤ 0
      by_late true late = let none = leads.step in omega (arith, none)
      by_late false late = subst (λ n. (if nat_le n 0 then 0 + leads.shape.step else 0 + leads.shape.step + 1) ≤ 0) (sym (none_held late)) (let none = leads.step in omega (arith, none))

  largest_few : (chain_shape gate leads.shape).largest ≤ latency
  largest_few = subst (λ n. (if nat_lt 0 n then leads.shape.largest else latency + leads.shape.largest + (0 + 1) * leads.shape.hold) ≤ latency) (sym late_is) (by_late (nat_lt 0 latency) refl)
    where
      by_late : (b : Bool) → nat_lt 0 latency ≡ b → (if b then leads.shape.largest else latency + leads.shape.largest + (0 + 1) * leads.shape.hold) ≤ latency
      by_late true late = leads.largest
      by_late false late = let few : leads.shape.largest ≤ latency = leads.largest in let at_once : latency ≤ 0 = ltb-false 0 latency late in let none = none_held late in omega (arith, few, at_once, none)

  pub begun : LeadsOn source sink (side_of source) (timed source sink) (timed_bounds source)
      (IsChainOf (IsFilterShape filter) (timing_shape timing) (timing_shape timing) (IsTrue (is_ready_wire filter)))
      (IsChainOf (λ first. IsFilterShape filter first × IsFilterShape filter first) (timing_shape timing) (timing_shape timing) (IsTrue (is_ready_wire filter)))
  begun = record {
    shape = chain_shape gate leads.shape;
    up_is = refl;
    down_is = leads.down;
    test = refl;
    room = omega arith;
    hold = subst (λ (s : Side). 0 + leads.shape.hold ≤ (s.pace.allowance + 2) * s.symbols) leads.up (let most = timing_holds timing leads.shape leads.has in omega arith);
    rest = (let none = leads.rest in omega (arith, none));
    step = step_none;
    largest = largest_few;
    always_ready = λ needs. timing_needs from to timing leads.shape is leads.has needs;
    keeps = record { first = gate; second = leads.shape; is = refl; fit = front_fits; first_has = filter_is; second_has = leads.has; shown = shown; always_ready = λ needs. absurd (cc) };
    passes = λ whole. record { first = gate; second = leads.shape; is = refl; fit = front_fits; first_has = (filter_is, filter_is); second_has = leads.has; shown = shown; always_ready = λ needs. absurd (cc) };
  }

-- ---- the error

abbrev pub ErrorHas : Option ErrorTie → Shape → Type 0
ErrorHas stage = shape_of (λ (s : ErrorTie) (shape : Shape). IsErrorTieShape s.width shape) stage

same_errors : (bits wanted : ℕ) → (0 < wanted → 0 < bits) → (0 < bits → bits ≡ wanted) → bits ≡ wanted
same_errors zero zero some same = refl
same_errors zero (suc wanted) some same = absurd (let none = some (omega arith) in omega arith)
same_errors (suc bits) wanted some same = same (omega arith)

pub error_part : (source sink : Declared) (stage : Option ErrorTie) → CanJoin source sink → IsErrorTieOf source.error_bits sink.error_bits stage
    → LeadsOn source sink (timed source sink) (with_errors source sink) still (ErrorHas stage) (ErrorHas stage)
error_part source sink None join is =
    let all = joined_all source sink (timed source sink) refl in
    record {
      shape = pass_shape (joined_test source sink) (timed source sink);
      up_is = refl;
      down_is = ap (with_error_bits (timed source sink)) (same_errors source.error_bits sink.error_bits is join.errors);
      test = refl;
      room = omega arith;
      hold = omega arith;
      rest = omega arith;
      step = omega arith;
      largest = omega arith;
      always_ready = λ needs. absurd (cc);
      keeps = record { is = refl; some = join.source_fits.some; passes = all };
      passes = λ whole. record { is = refl; some = join.source_fits.some; passes = all };
    }
error_part source sink (Some tie) join is =
    let all = joined_all source sink (timed source sink) refl in
    record {
      shape = wire_shape (joined_test source sink) (timed source sink) (with_error_bits (timed source sink) tie.width) 0 false;
      up_is = refl;
      down_is = ap (with_error_bits (timed source sink)) is.1;
      test = refl;
      room = omega arith;
      hold = omega arith;
      rest = omega arith;
      step = omega arith;
      largest = omega arith;
      always_ready = λ needs. absurd (cc);
      keeps = record { is = refl; quiet = is.0; some = join.source_fits.some; passes = all };
      passes = λ whole. record { is = refl; quiet = is.0; some = join.source_fits.some; passes = all };
    }

-- ---- the queue

-- the numbers of the queue
abbrev pub row_bounds : Declared → ℕ → Bounds
row_bounds sink depth = record { least = depth * sink.symbols; most = depth * sink.symbols; rest = 0; step = 0; largest = 0 }

pub queue_part : (source sink : Declared) (depth places : ℕ) → CanJoin source sink → places ≡ depth
    → LeadsOn source sink (formed source sink) (formed source sink) (row_bounds sink depth) (IsBufferShape places) (IsBufferShape places)
queue_part source sink depth places join same =
    let all = joined_all source sink (formed source sink) refl in
    record {
      shape = buffer_shape (joined_test source sink) places (formed source sink);
      up_is = refl;
      down_is = refl;
      test = refl;
      room = subst (λ k. k * sink.symbols ≤ places * sink.symbols) same (omega arith);
      hold = subst (λ k. places * sink.symbols ≤ k * sink.symbols) same (omega arith);
      rest = omega arith;
      step = omega arith;
      largest = omega arith;
      always_ready = λ needs. absurd (cc);
      keeps = record { is = refl; at_once = refl; some = join.sink_fits.some; passes = all };
      passes = λ whole. record { is = refl; at_once = refl; some = join.sink_fits.some; passes = all };
    }

-- ---- the turn to the sink's order

abbrev pub TurnHas : Option Reorder → Shape → Type 0
TurnHas stage = shape_of (λ (s : Reorder) (shape : Shape). IsReorderShape s.symbols s.bits shape) stage

pub turn_part : (source sink : Declared) (stage : Option Reorder) → CanJoin source sink → IsTurnBack source sink stage
    → LeadsOn source sink (formed source sink) (ordered source sink) still (TurnHas stage) (TurnHas stage)
turn_part source sink None join is =
    let all = joined_all source sink (formed source sink) refl in
    record {
      shape = pass_shape (joined_test source sink) (formed source sink);
      up_is = refl;
      down_is = ap (λ b. record (formed source sink) { first_high = b }) is;
      test = refl;
      room = omega arith;
      hold = omega arith;
      rest = omega arith;
      step = omega arith;
      largest = omega arith;
      always_ready = λ needs. absurd (cc);
      keeps = record { is = refl; some = join.sink_fits.some; passes = all };
      passes = λ whole. record { is = refl; some = join.sink_fits.some; passes = all };
    }
turn_part source sink (Some turn) join is =
    let all = joined_all source sink (formed source sink) refl in
    let turns = is.0 in
    let low = is.1 in
    record {
      shape = wire_shape (joined_test source sink) (formed source sink) (turned_side (formed source sink)) 0 false;
      up_is = refl;
      down_is = ap (λ b. record (formed source sink) { first_high = b }) (ap not turns ∙ sym low);
      test = refl;
      room = omega arith;
      hold = omega arith;
      rest = omega arith;
      step = omega arith;
      largest = omega arith;
      always_ready = λ needs. absurd (cc);
      keeps = record { is = refl; symbols_are = sym is.2; bits_are = join.symbol_bits ∙ sym is.3; some = join.sink_fits.some; passes = all };
      passes = λ whole. record { is = refl; symbols_are = sym is.2; bits_are = join.symbol_bits ∙ sym is.3; some = join.sink_fits.some; passes = all };
    }

-- ---- the delay of ready

abbrev pub DelayPasses : ℕ → ℕ → Shape → Type 0
DelayPasses latency cycles shape = IsDelayShape latency cycles shape × (cycles ≡ 0)

side_by_parts : (p p' : Pace) (b b' : ℕ) (k k' : Bool) (n m e : ℕ) (h : Bool) → p ≡ p' → b ≡ b' → k ≡ k'
    → ◌≡◌ {A = Side} (record { pace = p; symbols = n; symbol_bits = b; first_high = h; packets = k; max_channel = m; error_bits = e }) (record { pace = p'; symbols = n; symbol_bits = b'; first_high = h; packets = k'; max_channel = m; error_bits = e })
side_by_parts p p' b b' k k' n m e h q0 q1 q2 = rw (q0, q1, q2) refl

strict_by : (latency other : ℕ) → latency ≡ other → ◌≡◌ {A = Pace} (record { latency = latency; allowance = latency }) (record { latency = other; allowance = other })
strict_by latency other same = rw same refl

no_latency : (end : Declared) → end.ready ≡ false → (pace_of end).latency ≡ 0
no_latency end none = ap (λ (p : Pace). p.latency) (ap (λ (b : Bool). if b then record { latency = end.latency; allowance = end.allowance } else record { latency = 0; allowance = 0 }) none)

pub delay_part : (source sink : Declared) (latency cycles : ℕ) → CanJoin source sink → latency ≡ 0 → cycles ≡ (pace_of sink).latency
    → LeadsOn source sink (ordered source sink) (at_sink source sink) still (IsDelayShape latency cycles) (DelayPasses latency cycles)
delay_part source sink latency cycles join at_once same =
    let all = joined_all source sink (ordered source sink) refl in
    let delay : IsDelayShape latency cycles (wire_shape (joined_test source sink) (ordered source sink) (delayed_side (ordered source sink) cycles) 0 false) =
    record { is = refl; behind = sym at_once; strict = refl; some = join.sink_fits.some; passes = all } in
    record {
      shape = wire_shape (joined_test source sink) (ordered source sink) (delayed_side (ordered source sink) cycles) 0 false;
      up_is = refl;
      down_is = side_by_parts _ _ _ _ _ _ _ _ _ _ (strict_by (0 + cycles) (pace_of sink).latency (omega (arith, same))) join.symbol_bits join.packets;
      test = refl;
      room = omega arith;
      hold = omega arith;
      rest = omega arith;
      step = omega arith;
      largest = omega arith;
      always_ready = λ needs. absurd (cc);
      keeps = delay;
      passes = λ whole. (delay, same ∙ no_latency sink whole.no_ready);
    }

-- ---- the whole

larger_left : (a b : ℕ) → a ≤ max a b
larger_left a b = omega arith

lag_fits : (n m own allowance depth : ℕ) → own ≤ allowance → (own + 2) * n + (n + m) + depth * m ≤ n * (allowance + 3) + m * (depth + 3)
lag_fits n m own allowance depth fewer =
    let more : (own + 3) * n ≤ (allowance + 3) * n = mul-le-mul_right n (omega arith) in
    omega (arith, more)

lag_within : (source sink : Declared) (depth : ℕ) → queued_hold source sink depth ≤ stream_lag (stream_of source sink depth)
lag_within source sink depth =
    let larger : (pace_of source).allowance ≤ max (pace_of source).allowance (pace_of sink).allowance = larger_left (pace_of source).allowance (pace_of sink).allowance in
    lag_fits source.symbols sink.symbols (pace_of source).allowance (max (pace_of source).allowance (pace_of sink).allowance) depth larger

window_fits : (n m latency own allowance depth hold step largest : ℕ) → latency ≤ own → own ≤ allowance → hold ≤ (own + 2) * n + (n + m) + depth * m → step ≤ 3 → largest ≤ latency + n + 2 * m + 3 * (depth * m)
    → largest + (step + 1) * (hold + own * n) < 8 * (n * (allowance + 3) + m * (depth + 3) + 2 * allowance + 8)
window_fits n m latency own allowance depth hold step largest ordered fewer held steps most =
    let product : (step + 1) * (hold + own * n) ≤ 4 * ((own + 2) * n + (n + m) + depth * m + own * n) = product_within (step + 1) 4 (hold + own * n) ((own + 2) * n + (n + m) + depth * m + own * n) (omega (arith, steps)) (omega (arith, held)) in
    let more : own * n ≤ allowance * n = mul-le-mul_right n fewer in
    omega (arith, product, more, most, ordered, fewer)

-- a stage with such numbers stands still no longer than a window
pub within_window : (source sink : Declared) (depth : ℕ) (shape : Shape) → CanJoin source sink → shape.hold ≤ queued_hold source sink depth → shape.step ≤ 3 → shape.largest ≤ (queued_bounds source sink depth).largest
    → shape.largest + (shape.step + 1) * (shape.hold + (pace_of source).allowance * source.symbols) < stream_window (stream_of source sink depth)
within_window source sink depth shape join held steps most =
    let larger : (pace_of source).allowance ≤ max (pace_of source).allowance (pace_of sink).allowance = larger_left (pace_of source).allowance (pace_of sink).allowance in
    window_fits source.symbols sink.symbols (pace_of source).latency (pace_of source).allowance (max (pace_of source).allowance (pace_of sink).allowance) depth shape.hold shape.step shape.largest join.source_fits.pace.ordered larger held steps most

module _ (source sink : Declared) (depth : ℕ) (has passing : Shape → Type 0) (join : CanJoin source sink) (front : LeadsOn source sink (side_of source) (at_sink source sink) (queued_bounds source sink depth) has passing) where
  leads_from : LeadsFrom source sink depth front.shape
  leads_from = record {
    up = front.up_is;
    down = front.down_is;
    passes = front.test;
    room = front.room;
    hold = (let held = front.hold in let most = lag_within source sink depth in omega (arith, held, most));
    rest = (let few = front.rest in let some = join.sink_fits.some in omega (arith, few, some));
    window = within_window source sink depth front.shape join front.hold front.step front.largest;
    always_ready = front.always_ready;
  }

  -- what `emit_stream` gives of a stage that leads to the sink
  pub carries : (netlist : Netlist) (from : BeatNets) (ready : NetValue) (r : Result StreamNets NetFault)
      → IfOk r (λ made. (shape : Shape) → has shape → KeepsInLonger shape netlist from made.ready made.beat ready)
      → IfOk r (λ made. (shape : Shape) → passing shape → PassesInLonger shape netlist from made.ready made.beat ready)
      → IfOk r (λ made. IsFalse front.shape.needs_ready → TakesInLonger source sink depth netlist from made ready)
      → IfOk r (λ made. IgnoresInLonger netlist from made.beat)
      → IfOk r (λ made. CarriesStream source sink depth netlist from made ready)
  carries netlist from ready (Ok made) kept passed takes ignores = record {
    shape = front.shape;
    leads = leads_from;
    keeps = kept front.shape front.keeps;
    passes = λ whole. passed front.shape (front.passes whole);
    takes_in = takes;
    ignores = ignores;
  }
  carries netlist from ready (Err e) kept passed takes ignores = tt

-- ---- a delay of ready alone, between ends of one form

module _ (source sink : Declared) (depth latency cycles : ℕ) (join : CanJoin source sink) (enough : IsDelayEnough source sink depth)
    (latency_is : latency ≡ (pace_of source).latency) (cycles_are : latency + cycles ≡ (pace_of sink).latency) where
  same_channel : (side_of source).max_channel ≡ joined_channel source sink
  same_channel = side_channel source join.source_fits ∙ (let fewer = enough.form.max_channel in omega (arith, fewer))

  one_side : (p : Pace) (s n b b' e e' m m' : ℕ) (h h' k k' : Bool) → s ≡ n → b ≡ b' → h ≡ h' → k ≡ k' → e ≡ e' → m ≡ m'
      → ◌≡◌ {A = Side} (record { pace = p; symbols = s; symbol_bits = b; first_high = h; packets = k; max_channel = m; error_bits = e }) (record { pace = p; symbols = n; symbol_bits = b'; first_high = h'; packets = k'; max_channel = m'; error_bits = e' })
  one_side p s n b b' e e' m m' h h' k k' q0 q1 q2 q3 q4 q5 = rw (q0, q1, q2, q3, q4, q5) refl

  down : delayed_side (side_of source) cycles ≡ at_sink source sink
  down =
      one_side (record { latency = (pace_of source).latency + cycles; allowance = (pace_of source).latency + cycles }) _ _ _ _ _ _ _ _ _ _ _ _
      enough.form.symbols enough.form.symbol_bits enough.form.first_high enough.form.packets enough.form.error_bits same_channel
      ∙ ap (λ (p : Pace). record (at_sink source sink) { pace = p }) (strict_by ((pace_of source).latency + cycles) (pace_of sink).latency (omega (arith, latency_is, cycles_are)))

  pub delay_front : LeadsOn source sink (side_of source) (at_sink source sink) (queued_bounds source sink depth) (IsDelayShape latency cycles) (DelayPasses latency cycles)
  delay_front = record {
    shape = wire_shape (joined_test source sink) (side_of source) (delayed_side (side_of source) cycles) (pace_of source).latency false;
    up_is = refl;
    down_is = down;
    test = refl;
    room = subst (λ k. k * sink.symbols ≤ 0) (sym enough.no_queue) (omega arith);
    hold = omega arith;
    rest = omega arith;
    step = omega arith;
    largest = omega arith;
    always_ready = λ needs. absurd (cc);
    keeps = record { is = refl; behind = sym latency_is; strict = enough.strict; some = join.source_fits.some; passes = joined_all source sink (side_of source) same_channel };
    passes = λ whole. absurd (let has = enough.ready in let none = whole.no_ready in cc);
  }

  -- a source beat has no room in a queue without places
  pub delay_takes_in : (netlist : Netlist) (from : BeatNets) (made : StreamNets) (ready : NetValue) → TakesInLonger source sink depth netlist from made ready
  delay_takes_in netlist from made ready longer e run endless count legal start le room =
      absurd (let some = join.source_fits.some in let none = enough.no_queue in let held = room start (omega arith) (omega arith) in omega (arith, some, none, held))
