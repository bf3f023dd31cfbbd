-- What drives the outputs of a wire serves its stream.
use Rattle.std.proofs.Common.{◌≡◌, ℕ, ◌*◌, ◌<◌, Bool, true, false, Option, Some, None, slice_get, refl, sym, ap, subst, ◌∙◌, arith}
use Rattle.std.specs.Prelude.{option_map, unwrap_or, nat_lt}
use Rattle.std.proofs.lemmas.Bool.{false≢true}
use Rattle.netlist.specs.declared.line.Line.{Line}
use Rattle.netlist.specs.Nets.{NetValue, net_of}
use Rattle.netlist.specs.Netlists.{Netlist}
use Rattle.netlist.specs.Runs.{Run}
use Rattle.stream_runs.specs.Source.{IsLegalSource}
use Rattle.stream_runs.specs.Delivery.{Stream, StreamRun, IsServed}
use Rattle.stream_runs.specs.Awake.{NeverIdles, IsServedAwake, stream_window}
use Rattle.stream_runs.specs.Ends.{Declared, Signals, AreAlike, IsWire as IsWireRun, side_of, view_of, stream_of, run_of}
use Rattle.net_parts.specs.Nets.{IsNetOfWidth, IsBit}
use Rattle.net_parts.specs.Growth.{GrowsInMemory}
use Rattle.st_path.specs.Ends.{IsNetIf, IsNetWhere, AreSourceNets, ArePathNets, signal_on, signal_of, signal_where, source_signals, sink_signals}
use Rattle.st_path.specs.Serving.{ServesInLonger}
use Rattle.st_path.specs.declared.ends.SourceNets.{SourceNets}
use Rattle.interconnect.specs.Streams.{low_line}
use Rattle.interconnect.specs.Joins.{wire_nets}
use Rattle.interconnect.proofs.Forms.{IsWire}
use Rattle.interconnect.proofs.Driving.{low_stays, extends-refl}

-- ---- signals

pub signals_of : Option (ℕ → ℕ) → Option (ℕ → ℕ) → Option (ℕ → ℕ) → Option (ℕ → ℕ) → Option (ℕ → ℕ) → Option (ℕ → ℕ) → Option (ℕ → ℕ) → Option (ℕ → ℕ) → Signals
signals_of ready valid word channel error startofpacket endofpacket empty =
    record { ready = ready; valid = valid; word = word; channel = channel; error = error; startofpacket = startofpacket; endofpacket = endofpacket; empty = empty }

pub parts_are : (s : Signals) → s ≡ signals_of s.ready s.valid s.word s.channel s.error s.startofpacket s.endofpacket s.empty
unfolding signals_of
parts_are s = refl

eight : {a b c d e f g h i j k l m n o p : Option (ℕ → ℕ)} → a ≡ i → b ≡ j → c ≡ k → d ≡ l → e ≡ m → f ≡ n → g ≡ o → h ≡ p → signals_of a b c d e f g h ≡ signals_of i j k l m n o p
eight q r s t u v w x = cc

-- signals that are the same on each port
pub same_signals : (s t : Signals) → s.ready ≡ t.ready → s.valid ≡ t.valid → s.word ≡ t.word → s.channel ≡ t.channel → s.error ≡ t.error → s.startofpacket ≡ t.startofpacket → s.endofpacket ≡ t.endofpacket
    → s.empty ≡ t.empty → s ≡ t
same_signals s t a b c d e f g h = parts_are s ∙ eight a b c d e f g h ∙ sym (parts_are t)

where_is : (netlist : Netlist) (run : Run) (present : Bool) (width : ℕ) (net : Option NetValue) (low : NetValue) → IsNetIf present width netlist net → signal_where present run (unwrap_or net low) ≡ signal_of run net
where_is netlist run true width (Some net) low is = refl
where_is netlist run true width None low is = absurd is
where_is netlist run false width net low is = ap (signal_of run) (sym is)

ready_there : (netlist : Netlist) (run : Run) (source sink : Bool) (net : Option NetValue) (low : NetValue) → source ≡ true → sink ≡ true → IsNetIf sink 1 netlist net → signal_of run net ≡ signal_where source run (unwrap_or net low)
ready_there netlist run true true net low e f is = sym (where_is netlist run true 1 net low is)
ready_there netlist run true false net low e f is = absurd (false≢true f)
ready_there netlist run false sink net low e f is = absurd (false≢true e)

wire_signals : (netlist : Netlist) (run : Run) (source sink : Declared) (from : SourceNets) (ready : Option NetValue) (low : NetValue) → AreAlike source sink → AreSourceNets netlist source from
    → IsNetIf sink.ready 1 netlist ready → sink_signals sink ready (wire_nets from ready low) run ≡ source_signals source from (wire_nets from ready low) run
wire_signals netlist run source sink from ready low alike nets is =
    same_signals _ _
    (ready_there netlist run source.ready sink.ready ready low alike.source_ready alike.sink_ready is)
    refl
    refl
    (ap (λ (w : ℕ). signal_where (nat_lt 0 w) run (unwrap_or from.channel low)) (sym alike.channel_bits) ∙ where_is netlist run (nat_lt 0 source.channel_bits) source.channel_bits from.channel low nets.channel)
    (ap (λ (w : ℕ). signal_where (nat_lt 0 w) run (unwrap_or from.error low)) (sym alike.error_bits) ∙ where_is netlist run (nat_lt 0 source.error_bits) source.error_bits from.error low nets.error)
    (ap (λ (b : Bool). signal_where b run (unwrap_or from.startofpacket low)) (sym alike.packets) ∙ where_is netlist run source.packets 1 from.startofpacket low nets.startofpacket)
    (ap (λ (b : Bool). signal_where b run (unwrap_or from.endofpacket low)) (sym alike.packets) ∙ where_is netlist run source.packets 1 from.endofpacket low nets.endofpacket)
    (ap (λ (w : ℕ). signal_where (nat_lt 0 w) run (unwrap_or from.empty low)) (sym alike.empty_bits) ∙ where_is netlist run (nat_lt 0 source.empty_bits) source.empty_bits from.empty low nets.empty)

-- ---- the law

-- the fact holds of every run of a wire whose source is legal
abbrev pub OfWires : (Stream → StreamRun → ℕ → Type 0) → Type 0
OfWires P =
    (source sink : Declared) (from to : Signals) (dropped : ℕ → ℕ) (count : ℕ) → AreAlike source sink → 0 < source.symbols → IsWireRun from to dropped count
    → IsLegalSource (side_of source) (view_of from) count → P (stream_of source sink 0) (run_of from to dropped) count

abbrev pub WiresAreServed : Type 0
WiresAreServed = OfWires IsServedAwake

-- what the law of wires says
pub wires_are_served : OfWires IsServed → OfWires (λ stream run count. NeverIdles (stream_window stream) stream run count) → WiresAreServed
wires_are_served served awake source sink from to dropped count alike some is legal =
    record {
      served = served source sink from to dropped count alike some is legal;
      awake = awake source sink from to dropped count alike some is legal;
    }

pub wire_serves : WiresAreServed → (netlist : Netlist) (source sink : Declared) (fifo : ℕ) (from : SourceNets) (ready : Option NetValue) (low : NetValue) → IsWire source sink fifo → 0 < source.symbols
    → AreSourceNets netlist source from → IsNetIf sink.ready 1 netlist ready → slice_get netlist.lines low.number ≡ Some low_line → ServesInLonger source sink fifo from ready (wire_nets from ready low) netlist
wire_serves law netlist source sink fifo from ready low wire some nets is line longer extends run cycles is_run legal =
    let made = wire_nets from ready low in
    let served = law source sink (source_signals source from made run) (sink_signals sink ready made run) (signal_on run low) cycles wire.alike some
    (record {
      joined = wire_signals netlist run source sink from ready low wire.alike nets is;
      drops_none = λ c below. ((is_run.valuations c below).nets low.number low_line (low_stays netlist longer low.number extends line)).value;
    }) legal in
    subst (λ (n : ℕ). IsServedAwake (stream_of source sink n) (run_of (source_signals source from made run) (sink_signals sink ready made run) (signal_on run low)) cycles) (sym wire.no_queue) served

-- ---- its nets

where_nets : (netlist : Netlist) (present : Bool) (width : ℕ) (net : Option NetValue) (low : NetValue) → IsNetIf present width netlist net → IsNetWhere present width netlist (unwrap_or net low)
where_nets netlist true width (Some net) low is = is
where_nets netlist true width None low is = absurd is
where_nets netlist false width net low is = tt

bit_or : (netlist : Netlist) (present : Bool) (net : Option NetValue) (low : NetValue) → IsBit netlist low → IsNetIf present 1 netlist net → IsBit netlist (unwrap_or net low)
bit_or netlist true (Some net) low bit is = is
bit_or netlist true None low bit is = absurd is
bit_or netlist false net low bit is = subst (λ (o : Option NetValue). IsBit netlist (unwrap_or o low)) (sym is) bit

pub wire_path : (netlist : Netlist) (source sink : Declared) (from : SourceNets) (ready : Option NetValue) (low : NetValue) → AreAlike source sink → AreSourceNets netlist source from
    → IsNetIf sink.ready 1 netlist ready → IsBit netlist low → ArePathNets netlist sink (wire_nets from ready low)
wire_path netlist source sink from ready low alike nets is bit =
    let bits : source.symbols * source.symbol_bits ≡ sink.symbols * sink.symbol_bits = (let a = alike.symbols in let b = alike.symbol_bits in cc) in
    record {
      ready = bit_or netlist sink.ready ready low bit is;
      valid = nets.valid;
      word = subst (IsNetOfWidth netlist from.word) bits nets.word;
      channel = subst (λ (w : ℕ). IsNetWhere (nat_lt 0 w) w netlist (unwrap_or from.channel low)) alike.channel_bits (where_nets netlist (nat_lt 0 source.channel_bits) source.channel_bits from.channel low nets.channel);
      error = subst (λ (w : ℕ). IsNetWhere (nat_lt 0 w) w netlist (unwrap_or from.error low)) alike.error_bits (where_nets netlist (nat_lt 0 source.error_bits) source.error_bits from.error low nets.error);
      startofpacket = bit_or netlist source.packets from.startofpacket low bit nets.startofpacket;
      endofpacket = bit_or netlist source.packets from.endofpacket low bit nets.endofpacket;
      empty = subst (λ (w : ℕ). IsNetWhere (nat_lt 0 w) w netlist (unwrap_or from.empty low)) alike.empty_bits (where_nets netlist (nat_lt 0 source.empty_bits) source.empty_bits from.empty low nets.empty);
      dropped = bit;
    }

pub low_bit : (netlist : Netlist) (low : NetValue) (n : ℕ) → low ≡ net_of n 1 → slice_get netlist.lines n ≡ Some low_line → IsBit netlist low
low_bit netlist low n e line =
    subst (IsBit netlist) (sym e) (record { is_net = ap (option_map (λ (l : Line). l.width)) line; has_width = refl })

pub grows-none : (count memories : ℕ) (netlist : Netlist) → GrowsInMemory count memories netlist netlist
grows-none count memories netlist = record { extends = extends-refl netlist; most = omega arith; most_memories = omega arith; drivers = refl }
