-- The ends of each stream keep what a path rests on, and which of them are joined by a wire.
use Rattle.std.proofs.Common.{◌≡◌, ℕ, ◌*◌, ◌≤◌, Bool, true, false, ◌&&◌, ◌||◌, not, refl, sym, subst, arith}
use Rattle.std.specs.Prelude.{nat_le, nat_lt, ◌%◌, if◌then◌else◌, ◌==◌}
use Rattle.std.proofs.lemmas.Bool.{and_parts, or_parts, eqb-true, eq-eqb, leb-true, ltb-false, lt-ltb, false≢true}
use Rattle.iface_roles.specs.declared.records.Finished.{Finished}
use Rattle.iface_roles.specs.declared.records.Finished.TheVariants.{Source}
use Rattle.iface_roles.specs.declared.records.StreamPort.{StreamPort}
use Rattle.iface_roles.specs.Proper.{IsBoundedStream}
use Rattle.system_tables.specs.Tables.{SystemTable}
use Rattle.address_map.specs.Footprints.{known_at}
use Rattle.link_rules.specs.Pairs.{KeepsAll, stream_tests, is_multiple}
use Rattle.link_rules.specs.declared.plan_connections.StreamConnection.{StreamConnection}
use Rattle.link_rules.specs.Links.{tests_as}
use Rattle.link_rules.specs.PlanConnections.{IsStreamConnection}
use Rattle.stream_runs.specs.Ends.{Declared, AreAlike, pace_of}
use Rattle.st_timing.specs.Ends.{declared, IsPaced}
use Rattle.st_path.specs.Joining.{FitsPorts, CanJoin}
use Rattle.port_tables.specs.Wires.{both_or_neither, has_same_beats, has_plain_ready, is_wire_stream}
use Rattle.port_tables.specs.EndFacts.{IsPlanned}
use Rattle.interconnect.proofs.StreamEnds.{connection_of, start_known, finish_known}

not_false : (b : Bool) → not b ≡ false → b ≡ true
not_false true e = refl
not_false false e = absurd (false≢true (sym e))

-- ---- ends that agree

pub same_flag : (a b : Bool) → both_or_neither a b ≡ true → a ≡ b
same_flag true b e = sym e
same_flag false true e = absurd (false≢true e)
same_flag false false e = refl

-- a stream that is a wire
pub record IsWire (source sink : Declared) (fifo : ℕ) : Type 0 where
  pub alike : AreAlike source sink
  pub no_queue : fifo ≡ 0

pub wire_is : (source sink : Declared) (fifo : ℕ) → is_wire_stream source sink fifo ≡ true → IsWire source sink fifo
wire_is source sink fifo e =
    let all = and_parts (has_same_beats source sink && nat_le source.max_channel sink.max_channel && has_plain_ready source sink) (fifo == 0) e in
    let two = and_parts (has_same_beats source sink && nat_le source.max_channel sink.max_channel) (has_plain_ready source sink) all.0 in
    let form = and_parts (has_same_beats source sink) (nat_le source.max_channel sink.max_channel) two.0 in
    let b7 = and_parts _ _ form.0 in
    let b6 = and_parts _ _ b7.0 in
    let b5 = and_parts _ _ b6.0 in
    let b4 = and_parts _ _ b5.0 in
    let b3 = and_parts _ _ b4.0 in
    let b2 = and_parts _ _ b3.0 in
    let r4 = and_parts _ _ two.1 in
    let r3 = and_parts _ _ r4.0 in
    let r2 = and_parts source.ready sink.ready r3.0 in
    record {
      alike = record {
        symbols = eqb-true source.symbols sink.symbols b2.0;
        symbol_bits = eqb-true source.symbol_bits sink.symbol_bits b2.1;
        first_high = same_flag source.first_high sink.first_high b3.1;
        source_ready = r2.0;
        sink_ready = r2.1;
        source_latency = eqb-true source.latency 0 r3.1;
        sink_latency = eqb-true sink.latency 0 r4.1;
        channel_bits = eqb-true source.channel_bits sink.channel_bits b4.1;
        max_channel = leb-true source.max_channel sink.max_channel form.1;
        error_bits = eqb-true source.error_bits sink.error_bits b5.1;
        packets = same_flag source.packets sink.packets b6.1;
        empty_bits = eqb-true source.empty_bits sink.empty_bits b7.1;
      };
      no_queue = eqb-true fifo 0 all.1;
    }

-- ---- what a stream of a plan keeps

not_both : (a b : Bool) → (a && b) ≡ false → a ≡ true → b ≡ false
not_both true b e is = e
not_both false b e is = absurd (false≢true is)

paced_is : (ready : Bool) (latency allowance : ℕ) → (nat_lt 8 (if ready then latency else 0) || nat_lt 16 (if ready then allowance else 0)) ≡ false
    → (if ready then nat_lt allowance latency || ((latency == 0) && nat_lt 0 allowance) else not (allowance == latency)) ≡ false
    → IsPaced (if ready then record { latency = latency; allowance = allowance } else record { latency = 0; allowance = 0 })
paced_is true latency allowance e f =
    let most = or_parts _ _ e in
    let least = or_parts _ _ f in
    record {
      short = ltb-false 8 latency most.0;
      ordered = ltb-false allowance latency least.0;
      few = ltb-false 16 allowance most.1;
      direct = λ none. (let few = ltb-false 0 allowance (not_both (latency == 0) (nat_lt 0 allowance) least.1 (eq-eqb latency 0 none)) in omega (arith, few));
    }
paced_is false latency allowance e f = record { short = omega arith; ordered = omega arith; few = omega arith; direct = λ none. refl }

-- what the ports of an end keep
fits_is : (end : StreamPort) → IsBoundedStream end → end.symbols * end.symbol_bits ≤ 128 → IsPaced (pace_of (declared end)) → FitsPorts (declared end)
fits_is end ports small pace =
    record {
      some = ports.some;
      few = ports.few;
      some_bits = ports.bit;
      small = small;
      pace = pace;
      channel = ports.channel;
      channels = ports.channels;
      error = ports.error;
      empty = ports.empty;
      empties = ports.empty_counts;
    }

-- no test of one flag and not the other
same_flags : (a b : Bool) → ((a && not b) || (b && not a)) ≡ false → a ≡ b
same_flags true true e = refl
same_flags true false e = absurd (false≢true (sym e))
same_flags false true e = absurd (false≢true (sym e))
same_flags false false e = refl

-- no test of one and not the other: with the one comes the other
with_it : (a b : Bool) → (a && not b) ≡ false → a ≡ true → b ≡ true
with_it true true e is = refl
with_it true false e is = absurd (false≢true (sym e))
with_it false b e is = absurd (false≢true is)

takes_by : (source sink m : Bool) → (not source && (sink || not m)) ≡ false → source ≡ false → (sink ≡ false) × (m ≡ true)
takes_by true sink m e is = absurd (false≢true (sym is))
takes_by false true m e is = absurd (false≢true (sym e))
takes_by false false true e is = (refl, refl)
takes_by false false false e is = absurd (false≢true (sym e))

pub can_join : (system : SystemTable) (number : ℕ) (link : StreamConnection) → IsPlanned system → IsStreamConnection system number link → IsBoundedStream link.source → IsBoundedStream link.sink
    → CanJoin (declared link.source) (declared link.sink)
can_join system number link h is source_bounded sink_bounded =
    let source = link.source in
    let sink = link.sink in
    let connection = is.connection in
    let of = connection_of system number link connection is is.connection_is in
    let tests : KeepsAll (stream_tests source sink connection.clock_fits) =
    subst (λ (b : Finished). KeepsAll (tests_as connection.clock_fits (Source source) b)) (finish_known system number link connection is of)
    (subst (λ (a : Finished). KeepsAll (tests_as connection.clock_fits a (known_at system connection.end))) (start_known system number link connection is of)
    (h.rules link.connection connection is.connection_is)) in
    let small = or_parts _ _ (tests 6) in
    let late = or_parts _ _ (tests 7) in
    let odd = or_parts _ _ (tests 9) in
    record {
      source_fits = fits_is source source_bounded (ltb-false 128 (source.symbols * source.symbol_bits) small.0) (paced_is source.ready source.latency source.allowance late.0 odd.0);
      sink_fits = fits_is sink sink_bounded (ltb-false 128 (sink.symbols * sink.symbol_bits) small.1) (paced_is sink.ready sink.latency sink.allowance late.1 odd.1);
      symbol_bits = eqb-true source.symbol_bits sink.symbol_bits (not_false (source.symbol_bits == sink.symbol_bits) (tests 1));
      packets = same_flags source.packets sink.packets (tests 2);
      waits = λ no_ready.
          let takes = takes_by source.ready sink.ready (is_multiple sink.symbols source.symbols) (tests 3) no_ready in
          record { no_ready = takes.0; whole = eqb-true (sink.symbols % source.symbols) 0 takes.1 };
      channels = λ some. eqb-true (source.symbols % sink.symbols) 0
          (with_it (nat_lt 0 source.channel_bits) (is_multiple source.symbols sink.symbols) (tests 4) (lt-ltb 0 source.channel_bits some));
      errors = λ some. eqb-true source.error_bits sink.error_bits
          (with_it (nat_lt 0 source.error_bits) (source.error_bits == sink.error_bits) (tests 5) (lt-ltb 0 source.error_bits some));
    }
