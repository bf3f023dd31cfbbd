use Rattle.std.proofs.Common.{◌≡◌, ℕ, ◌+◌, ◌<◌, Bool, true, false, refl, sym, ap, ◌∙◌, arith}
use Rattle.std.specs.Prelude.{if◌then◌else◌}
use Rattle.iface_roles.specs.declared.records.StreamPort.{StreamPort}
use Rattle.iface_roles.specs.Records.{ready_latency}
use Rattle.stream_runs.specs.View.{Pace, Side}
use Rattle.stream_runs.specs.Ends.{pace_of}
use Rattle.stream_machines.specs.Stage.{pass_shape}
use Rattle.stream_machines.specs.Buffers.{buffer_shape, direct_side}
use Rattle.stream_machines.specs.Wires.{wire_shape}
use Rattle.st_timing.specs.Ends.{declared}
use Rattle.st_timing.proofs.timing.timing_of.Goals as goal

abbrev latency_in : Pace → ℕ
latency_in pace = pace.latency

abbrev allowance_in : Pace → ℕ
allowance_in pace = pace.allowance

abbrev paced : Bool → ℕ → ℕ → Pace
paced ready latency allowance = if ready then record { latency = latency; allowance = allowance } else record { latency = 0; allowance = 0 }

latency_is : (end : StreamPort) → (pace_of (declared end)).latency ≡ ready_latency end
latency_is end = by_ready end.ready
  where
    by_ready : (b : Bool) → latency_in (paced b end.latency end.allowance) ≡ (if b then end.latency else 0)
    by_ready true = refl
    by_ready false = refl

-- behind a ready latency above 0 there is ready
allowance_is : (end : StreamPort) → 0 < (pace_of (declared end)).latency → (pace_of (declared end)).allowance ≡ end.allowance
allowance_is end some = by_ready end.ready some
  where
    by_ready : (b : Bool) → 0 < latency_in (paced b end.latency end.allowance) → allowance_in (paced b end.latency end.allowance) ≡ end.allowance
    by_ready true h = refl
    by_ready false h = absurd (omega arith)

pub returns-then-sink-source-eq0-clause-leads : goal.returns-then-sink-source-eq0-clause-leads
returns-then-sink-source-eq0-clause-leads c passes side same some all = record {
  shape = wire_shape passes side (direct_side side) 0 true;
  has = record { is = refl; some = some; passes = all };
  up = refl;
  down = refl;
  test = refl;
  rest = refl;
  step = refl;
  largest = omega arith;
}

direct : (side : Side) → side.pace.latency ≡ 0 → side.pace.allowance ≡ 0 → side ≡ direct_side side
direct side none zero = rw (none, zero) refl

pub returns-then-latency-eq0-clause-leads : goal.returns-then-latency-eq0-clause-leads
returns-then-latency-eq0-clause-leads c passes side same some all =
    let at_once : (pace_of (declared c.args.source.now)).latency ≡ 0 = latency_is c.args.source.now ∙ sym c.ready_latency-latency.ensures ∙ c.if-latency-eq0.true in
    record {
      shape = pass_shape passes side;
      has = record { is = refl; some = some; passes = all };
      up = refl;
      down = direct side (ap latency_in same ∙ at_once) (ap allowance_in same ∙ c.requires.pace.direct at_once);
      test = refl;
      rest = refl;
      step = refl;
      largest = omega arith;
    }

pub returns-then-source-latency-clause-leads : goal.returns-then-source-latency-clause-leads
returns-then-source-latency-clause-leads c passes side same some all =
    let late : (pace_of (declared c.args.source.now)).latency ≡ c.ready_latency-latency.result = latency_is c.args.source.now ∙ sym c.ready_latency-latency.ensures in
    let above = c.if-latency-eq0.false in
    let allows = allowance_is c.args.source.now (omega (arith, late, above)) in
    record {
      shape = buffer_shape passes (side.pace.allowance + 2) side;
      has = record {
        is = refl;
        behind = ap latency_in same ∙ late ∙ sym c.new-then-source-latency.ensures.latency;
        allows = ap allowance_in same ∙ allows ∙ sym c.new-then-source-latency.ensures.allowance;
        some = some;
        passes = all;
      };
      up = refl;
      down = refl;
      test = refl;
      rest = refl;
      step = refl;
      largest = omega arith;
    }

pub returns-clause-leads : goal.returns-clause-leads
returns-clause-leads c passes side same some all =
    let late : (pace_of (declared c.args.source.now)).latency ≡ c.ready_latency-latency.result = latency_is c.args.source.now ∙ sym c.ready_latency-latency.ensures in
    let above = c.if-latency-eq0.false in
    let allows = allowance_is c.args.source.now (omega (arith, late, above)) in
    let most = c.if-source-latency.false in
    let ordered = c.requires.pace.ordered in
    record {
      shape = buffer_shape passes (side.pace.latency + 1) side;
      has = record {
        is = refl;
        behind = ap latency_in same ∙ late ∙ sym c.new-2.ensures;
        strict = (let one = ap latency_in same in let two = ap allowance_in same in omega (arith, one, two, late, allows, most, ordered));
        some = some;
        passes = all;
      };
      up = refl;
      down = refl;
      test = refl;
      rest = refl;
      step = refl;
      largest = omega arith;
    }
