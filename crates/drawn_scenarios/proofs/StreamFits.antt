-- What is drawn for sources and sinks fits them.
use Rattle.std.proofs.Common.{◌≡◌, ℕ, zero, suc, ◌+◌, ◌*◌, ◌^◌, ◌<◌, ◌≤◌, Bool, true, false, cond, [], refl, ap, arith}
use Rattle.std.specs.Prelude.{IsTrue, nat_lt, Option, Some, None}
use Rattle.std.proofs.Math.Nat.{min-le_right}
use Rattle.std.proofs.lemmas.Nat.{pow_pos}
use Rattle.iface_roles.specs.declared.records.StreamPort.{StreamPort}
use Rattle.iface_roles.specs.Proper.{IsBoundedStream}
use Rattle.scenario_tables.specs.declared.statements.SourceBeat.{SourceBeat}
use Rattle.scenario_tables.specs.Statements.{FitsStall, FitsPorts, FitsBeat, GoesOn, FollowPackets, open_behind, IsSourceScript, IsSinkScript}
use Rattle.drawn_scenarios.specs.Draws.{always, repeated, word_of}
use Rattle.drawn_scenarios.specs.Streams.{symbol_bound, channel_of, beat_with, source_statement, source_script, sink_pattern, sink_script}
use Rattle.drawn_scenarios.proofs.DrawLemmas.{draw_small, word_fits, all_cons, repeated_count}
use Rattle.drawn_scenarios.proofs.AgentFits.{pattern_fits}

some_bound : (bits : ℕ) → 0 < symbol_bound bits
some_bound bits = let some = pow_pos bits in grind (arith, some)

channel_by : (port : StreamPort) (b : Bool) (state : ℕ) → nat_lt 0 port.channel_bits ≡ b → (channel_of port state).0 ≤ port.max_channel
unfolding channel_of
channel_by port true state e = rw e (let small = draw_small (port.max_channel + 1) state (omega arith) in omega arith)
channel_by port false state e = rw e (omega arith)

ports_fit : (port : StreamPort) (word_state channel_state : ℕ) → IsBoundedStream port
    → FitsPorts port (beat_with port (word_of port.first_high port.symbol_bits (symbol_bound port.symbol_bits) port.symbols word_state).0 (channel_of port channel_state).0)
ports_fit port word_state channel_state bounded =
    let fits = word_fits port.first_high port.symbol_bits (symbol_bound port.symbol_bits) port.symbols word_state (some_bound port.symbol_bits) (min-le_right 256 _) in
    let turned : 2 ^ (port.symbol_bits * port.symbols) ≡ 2 ^ (port.symbols * port.symbol_bits) = ap (λ e. 2 ^ e) (let e : port.symbol_bits * port.symbols ≡ port.symbols * port.symbol_bits = omega arith in e) in
    let channel_is = channel_by port (nat_lt 0 port.channel_bits) channel_state refl in
    let channels = bounded.channels in
    record { word = omega arith; channel_bits = omega arith; channel = channel_is; error = pow_pos port.error_bits; empty_bits = pow_pos port.empty_bits; empty = bounded.some }

-- a packet is open behind no beat that ends one, and none is open at first
abbrev IsClosed : StreamPort → Option ℕ → Type 0
IsClosed port opened = IsTrue port.packets → opened ≡ None

goes_on : (packets : Bool) (opened : Option ℕ) (beat : SourceBeat) → beat.first ≡ packets → IsTrue packets → opened ≡ None → GoesOn opened beat
goes_on true None beat first set closed = first
goes_on true (Some channel) beat first set closed = cc
goes_on false opened beat first set closed = cc

closed_behind : (port : StreamPort) (beat : SourceBeat) → beat.last ≡ port.packets → IsClosed port (open_behind beat)
closed_behind port beat last set = rw (last, set) refl

beat_fits : (port : StreamPort) (opened : Option ℕ) (word channel : ℕ) → FitsPorts port (beat_with port word channel) → IsClosed port opened → FitsBeat port opened (beat_with port word channel)
beat_fits port opened word channel fit closed = record {
  ports = fit;
  packet = λ set. goes_on port.packets opened (beat_with port word channel) refl set (closed set);
  unmarked = λ clear. record { first = clear; last = clear };
  full = λ unended. refl;
}

follow : (port : StreamPort) (n : ℕ) (opened : Option ℕ) (state : ℕ) → IsBoundedStream port → IsClosed port opened → FollowPackets port opened (repeated n (source_statement port) state).0
unfolding repeated source_statement
follow port zero opened state bounded closed = tt
follow port (suc n) opened state bounded closed =
    let word = word_of port.first_high port.symbol_bits (symbol_bound port.symbol_bits) port.symbols state in
    let channel = channel_of port word.1 in
    let beat = beat_with port word.0 channel.0 in
    (beat_fits port opened word.0 channel.0 (ports_fit port state word.1 bounded) closed, follow port n (open_behind beat) channel.1 bounded (closed_behind port beat refl))

pub source_fits : (port : StreamPort) (state : ℕ) → IsBoundedStream port → IsSourceScript port (source_script port state).0
unfolding source_script
source_fits port state bounded =
    let count = repeated_count (source_statement port) 32 state in
    record { short = omega arith; follow = follow port 32 None state bounded (λ set. refl) }

sink_by : (port : StreamPort) (b : Bool) (state : ℕ) → port.ready ≡ b → IsSinkScript port (cond b sink_pattern (always []) state).0
unfolding sink_pattern
sink_by port true state set = record { one = omega arith; each = all_cons (FitsStall port.ready) _ [] (record { stalls = set; is_pattern = pattern_fits state }) (λ k d less. absurd (omega arith)) }
sink_by port false state set = record { one = omega arith; each = λ k d less. absurd (omega arith) }

pub sink_fits : (port : StreamPort) (state : ℕ) → IsSinkScript port (sink_script port state).0
unfolding sink_script
sink_fits port state = sink_by port port.ready state refl
