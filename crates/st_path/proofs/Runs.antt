-- In each run of a longer netlist, the nets of a stage that leads from a source to a sink serve the stream, which never idles.
use Rattle.std.proofs.Common.{◌≡◌, ℕ, suc, ◌%◌, ◌^◌, ◌<◌, ◌&&◌, ◌==◌, Bool, true, false, IsTrue, Option, Some, None, refl, ap, sym, ◌∙◌, subst, arith, nat_lt}
use Rattle.std.specs.Prelude.{if◌then◌else◌, IsFalse, unwrap_or}
use Rattle.std.proofs.lemmas.Bool.{ltb-true, eqb-true, eq-eqb}
use Rattle.netlist.specs.Nets.{NetValue}
use Rattle.netlist.specs.Netlists.{Netlist}
use Rattle.netlist.specs.Runs.{Cycle, Run, cycle_of, IsRun, IsEndlessRun, Always, GoesOn}
use Rattle.netlist.specs.Longer.{Extends}
use Rattle.stream_runs.specs.View.{EndView, Beat, Side, beat_at, is_high, is_transfer, AgreeBefore, IsReadyBefore}
use Rattle.stream_runs.specs.Source.{IsLegalSource}
use Rattle.stream_runs.specs.Delivery.{Stream, StreamRun, IsServed, RunsAgreeBefore}
use Rattle.stream_runs.specs.Awake.{NeverIdles, IsServedAwake, stream_window}
use Rattle.stream_runs.specs.Ends.{Declared, side_of, signal_or, view_of, stream_of, run_of}
use Rattle.stream_machines.specs.Stage.{KeepsStageLaw, PassesAll}
use Rattle.stream_machines.specs.Buffers.{direct_side}
use Rattle.stream_machines.specs.Parts.{plain_run}
use Rattle.stream_machines.specs.Wires.{wire_shape, IsTieRun}
use Rattle.stage_core.specs.declared.beat.BeatNets.{BeatNets}
use Rattle.stage_core.specs.declared.stream.StreamNets.{StreamNets}
use Rattle.stage_core.specs.Beats.{view_of as nets_view}
use Rattle.st_path.specs.declared.ends.SourceNets.{SourceNets}
use Rattle.st_path.specs.declared.ends.PathNets.{PathNets}
use Rattle.st_path.specs.Joining.{TakesWhole, CanJoin}
use Rattle.st_path.specs.Ends.{IsNetIf, signal_on, signal_of, signal_where, source_signals, sink_signals}
use Rattle.st_path.specs.Serving.{ServesInLonger}
use Rattle.st_path.specs.Between.{beat_of, IsReadyOf, CarriesStream, ShowsUnreached}
use Rattle.st_path.proofs.AtPorts.{kept_if, kept_bits, at_ports}
use Rattle.st_path.proofs.AlwaysReady.{always_ready, ready_before}
use Rattle.st_path.proofs.Served.{RankLaw, served_by, awake_by}
use Rattle.st_path.proofs.Fronts.{side_channel}

-- what the lower crates' laws say of runs and views
pub record Laws (netlist : Netlist) : Type 0 where
  pub same_legal : (side : Side) (one two : EndView) (count : ℕ) → AgreeBefore one two count → IsLegalSource side one count → IsLegalSource side two count
  pub same_served : (stream : Stream) (one two : StreamRun) (count : ℕ) → RunsAgreeBefore one two count → IsServed stream one count → IsServed stream two count
  pub same_awake : (window : ℕ) (stream : Stream) (one two : StreamRun) (count : ℕ) → RunsAgreeBefore one two count → NeverIdles window stream one count → NeverIdles window stream two count
  pub ranks : RankLaw
  pub goes_on : (run : Run) (cycles : ℕ) → IsRun netlist run cycles → GoesOn netlist run cycles
  pub tied : (passes : ℕ → Bool) (side : Side) (up down : EndView) → IsTieRun up down → 0 < side.symbols → PassesAll passes side
      → KeepsStageLaw (wire_shape passes side (direct_side side) 0 true) (plain_run up down)

-- a port's signal is that of its net, and 0 without one
port_level : (run endless : Run) (low : NetValue) (c : ℕ) → ((n : ℕ) → run.net c n ≡ endless.net c n) → endless.net c low.number ≡ 0 → (port : Option NetValue)
    → signal_or 0 (signal_of run port) c ≡ endless.net c (unwrap_or port low).number
port_level run endless low c same none (Some net) = same net.number
port_level run endless low c same none None = sym none

driven_level : (run endless : Run) (c : ℕ) → ((n : ℕ) → endless.net c n ≡ run.net c n) → (present : Bool) (net : NetValue)
    → kept_if present (endless.net c net.number) ≡ signal_or 0 (signal_where present run net) c
driven_level run endless c same true net = same net.number
driven_level run endless c same false net = refl

pub beat_by_parts : (w w' ch ch' e e' f f' l l' m m' : ℕ) → w ≡ w' → ch ≡ ch' → e ≡ e' → f ≡ f' → l ≡ l' → m ≡ m'
    → ◌≡◌ {A = Beat} (record { word = w; channel = ch; error = e; first = f; last = l; empty = m }) (record { word = w'; channel = ch'; error = e'; first = f'; last = l'; empty = m' })
beat_by_parts w w' ch ch' e e' f f' l l' m m' p0 p1 p2 p3 p4 p5 = rw (p0, p1, p2, p3, p4, p5) refl

direct_of : (end : Declared) → end.ready ≡ false → direct_side (side_of end) ≡ side_of end
direct_of end none = ap (λ pace. record (side_of end) { pace = pace }) (sym (ap (λ (b : Bool). if b then record { latency = end.latency; allowance = end.allowance } else record { latency = 0; allowance = 0 }) none))

no_net : (present : Bool) (width : ℕ) (netlist : Netlist) (port : Option NetValue) → present ≡ false → IsNetIf present width netlist port → port ≡ None
no_net present width netlist port none is = subst (λ b. IsNetIf b width netlist port) none is

-- what stages do in a netlist they do in a longer one
pub carries_longer : (source sink : Declared) (depth : ℕ) (netlist more : Netlist) (from : BeatNets) (made : StreamNets) (ready : NetValue) → ((longer : Netlist) → Extends more longer → Extends netlist longer)
    → CarriesStream source sink depth netlist from made ready → CarriesStream source sink depth more from made ready
carries_longer source sink depth netlist more from made ready on h = record {
  shape = h.shape;
  leads = h.leads;
  keeps = λ longer e. h.keeps longer (on longer e);
  passes = λ whole longer e. h.passes whole longer (on longer e);
  takes_in = λ free longer e. h.takes_in free longer (on longer e);
  ignores = λ longer e. h.ignores longer (on longer e);
}

module _ (source sink : Declared) (depth : ℕ) (from : SourceNets) (port : Option NetValue) (netlist old : Netlist) (low ready fitted dropped : NetValue) (made : StreamNets)
    (join : CanJoin source sink) (port_is : IsNetIf sink.ready 1 old port)
    (laws : Laws netlist) (carries : CarriesStream source sink depth netlist (beat_of from low) made ready)
    (is_low : Always netlist (λ cycle. cycle.net low.number ≡ 0)) (is_ready : IsReadyOf netlist port ready) (self : Extends netlist netlist)
    (is_fitted : 0 < sink.empty_bits → Always netlist (λ cycle. cycle.net fitted.number ≡ cycle.net made.beat.empty.number % 2 ^ sink.empty_bits))
    (shows : ShowsUnreached source sink netlist (beat_of from low) made.ready dropped) where
  abbrev path : PathNets
  path = record { ready = made.ready; beat = record made.beat { empty = fitted }; dropped = dropped }

  module _ (run endless : Run) (cycles : ℕ) (begins : (c : ℕ) → c < cycles → cycle_of endless c ≡ cycle_of run c) (is_run : IsEndlessRun netlist endless) where
    abbrev up : EndView
    up = nets_view endless (beat_of from low) made.ready

    abbrev down : EndView
    down = nets_view endless made.beat ready

    same : (c : ℕ) → c < cycles → (n : ℕ) → endless.net c n ≡ run.net c n
    same c lt n = ap (λ (cycle : Cycle). cycle.net n) (begins c lt)

    at : (P : Cycle → Type 0) → Always netlist P → (c : ℕ) → P (cycle_of endless c)
    at P always c = always (cycle_of endless c) ((is_run (suc c)).valuations c (omega arith))

    low_at : (c : ℕ) → endless.net c low.number ≡ 0
    low_at c = at (λ cycle. cycle.net low.number ≡ 0) is_low c

    same_beat : (c : ℕ) → c < cycles → beat_at (view_of (source_signals source from path run)) c ≡ beat_at up c
    same_beat c lt =
        let there = λ (n : ℕ). sym (same c lt n) in
        beat_by_parts _ _ _ _ _ _ _ _ _ _ _ _ (there from.word.number)
        (port_level run endless low c there (low_at c) from.channel)
        (port_level run endless low c there (low_at c) from.error)
        (port_level run endless low c there (low_at c) from.startofpacket)
        (port_level run endless low c there (low_at c) from.endofpacket)
        (port_level run endless low c there (low_at c) from.empty)

    sink_ready : IsFalse sink.ready → (c : ℕ) → IsTrue (is_high down.ready c)
    sink_ready none c = eq-eqb (down.ready c) 1 (by_port port is_ready (no_net sink.ready 1 old port none port_is))
      where
        by_port : (o : Option NetValue) → IsReadyOf netlist o ready → o ≡ None → endless.net c ready.number ≡ 1
        by_port (Some net) is same = absurd (let e = same in cc)
        by_port None is same = at (λ cycle. cycle.net ready.number ≡ 1) is c

    -- where the source has no ready, the ready that is made is always high
    module _ (none : source.ready ≡ false) (legal : IsLegalSource (side_of source) (view_of (source_signals source from path run)) cycles) where
      whole : TakesWhole source sink
      whole = join.waits none

      seen : IsLegalSource (side_of source) (always_ready up) cycles
      seen = laws.same_legal (side_of source) (view_of (source_signals source from path run)) (always_ready up) cycles
          (record {
            valid = λ c lt. sym (same c lt from.valid.number);
            beat = same_beat;
            ready = λ c lt. ap (λ (b : Bool). signal_or 1 (signal_where b run made.ready) c) none;
          }) legal

      made_high : IsReadyBefore up cycles
      made_high = ready_before (side_of source) (λ channel. true) up
          (laws.tied (λ channel. true) (side_of source) (always_ready up) up (record { asks = λ c. refl; valid = λ c. refl; shows = λ c. refl }) join.source_fits.some (λ channel most. refl))
          (direct_of source none) cycles seen
          (λ c legal. carries.passes whole netlist self endless is_run c (subst (λ side. IsLegalSource side up (suc c)) (sym carries.leads.up) legal) (λ k lt. sink_ready whole.no_ready k))
          cycles (omega arith)

    module _ (legal : IsLegalSource (side_of source) (view_of (source_signals source from path run)) cycles) where
      same_ready : (c : ℕ) → c < cycles → (view_of (source_signals source from path run)).ready c ≡ up.ready c
      same_ready c lt = by_ready source.ready refl
        where
          by_ready : (b : Bool) → source.ready ≡ b → signal_or 1 (signal_where b run made.ready) c ≡ up.ready c
          by_ready true is = sym (same c lt made.ready.number)
          by_ready false is = sym (eqb-true (up.ready c) 1 (made_high is legal c lt))

      same_source : AgreeBefore (view_of (source_signals source from path run)) up cycles
      same_source = record { valid = λ c lt. sym (same c lt from.valid.number); beat = same_beat; ready = same_ready }

      legal_up : IsLegalSource (side_of source) up cycles
      legal_up = laws.same_legal (side_of source) _ up cycles same_source legal

      dropped_at : (c : ℕ) → c < cycles → (endless.net c dropped.number == 1) ≡ (is_transfer (side_of source).pace up c && nat_lt sink.max_channel (up.channel c))
      dropped_at c lt = shows (cycle_of endless c) ((is_run (suc c)).valuations c (omega arith))
          (λ shown. (let most = ((legal_up c lt).formed shown).in_range in let same = side_channel source join.source_fits in omega (arith, most, same)))

      served : IsServed (stream_of source sink depth) (record { source = up; sink = at_ports sink down; dropped = λ c. endless.net c dropped.number }) cycles
      served = served_by source sink depth carries.shape up down (carries.keeps netlist self endless is_run).rank carries.leads join (carries.keeps netlist self endless is_run).keeps
          (λ whole c. sink_ready whole.no_ready c) cycles legal_up (λ c. endless.net c dropped.number) dropped_at

      awake : NeverIdles (stream_window (stream_of source sink depth)) (stream_of source sink depth) (record { source = up; sink = at_ports sink down; dropped = λ c. endless.net c dropped.number }) cycles
      awake = awake_by source sink depth carries.shape up down (carries.keeps netlist self endless is_run).rank carries.leads join (carries.keeps netlist self endless is_run).keeps
          (λ whole c. sink_ready whole.no_ready c) cycles legal_up (λ c. endless.net c dropped.number) laws.ranks
          (λ whole. carries.passes whole netlist self endless is_run) (λ free. carries.takes_in free netlist self endless is_run)

      -- empty, cut to the sink's port
      fitted_level : (c : ℕ) → c < cycles → kept_bits sink.empty_bits (endless.net c made.beat.empty.number) ≡ signal_or 0 (signal_where (nat_lt 0 sink.empty_bits) run fitted) c
      fitted_level c lt = by_port (nat_lt 0 sink.empty_bits) refl
        where
          by_port : (b : Bool) → nat_lt 0 sink.empty_bits ≡ b → (if b then endless.net c made.beat.empty.number % 2 ^ sink.empty_bits else 0) ≡ signal_or 0 (signal_where b run fitted) c
          by_port true is = sym (at (λ cycle. cycle.net fitted.number ≡ cycle.net made.beat.empty.number % 2 ^ sink.empty_bits) (is_fitted (ltb-true 0 sink.empty_bits is)) c) ∙ same c lt fitted.number
          by_port false is = refl

      sink_level : (c : ℕ) → c < cycles → (o : Option NetValue) → IsReadyOf netlist o ready → endless.net c ready.number ≡ signal_or 1 (signal_of run o) c
      sink_level c lt (Some net) is = ap (λ (n : NetValue). endless.net c n.number) is ∙ same c lt net.number
      sink_level c lt None is = at (λ cycle. cycle.net ready.number ≡ 1) is c

      same_sink : AgreeBefore (at_ports sink down) (view_of (sink_signals sink port path run)) cycles
      same_sink = record {
        valid = λ c lt. same c lt made.beat.valid.number;
        beat = λ c lt. beat_by_parts _ _ _ _ _ _ _ _ _ _ _ _ (same c lt made.beat.word.number)
            (driven_level run endless c (same c lt) (nat_lt 0 sink.channel_bits) made.beat.channel)
            (driven_level run endless c (same c lt) (nat_lt 0 sink.error_bits) made.beat.error)
            (driven_level run endless c (same c lt) sink.packets made.beat.first)
            (driven_level run endless c (same c lt) sink.packets made.beat.last)
            (fitted_level c lt);
        ready = λ c lt. sink_level c lt port is_ready;
      }

      same_run : RunsAgreeBefore (record { source = up; sink = at_ports sink down; dropped = λ c. endless.net c dropped.number }) (run_of (source_signals source from path run) (sink_signals sink port path run) (signal_on run dropped)) cycles
      same_run = record {
        source = record { valid = λ c lt. sym (same_source.valid c lt); beat = λ c lt. sym (same_source.beat c lt); ready = λ c lt. sym (same_source.ready c lt) };
        sink = same_sink;
        dropped = λ c lt. same c lt dropped.number;
      }

      served_in_run : IsServedAwake (stream_of source sink depth) (run_of (source_signals source from path run) (sink_signals sink port path run) (signal_on run dropped)) cycles
      served_in_run = record {
        served = laws.same_served (stream_of source sink depth) _ _ cycles same_run served;
        awake = laws.same_awake (stream_window (stream_of source sink depth)) (stream_of source sink depth) _ _ cycles same_run awake;
      }

  pub serves_in_longer : ServesInLonger source sink depth from port path netlist
  serves_in_longer longer extends run cycles is_run legal =
      let on = laws.goes_on run cycles (extends.runs run cycles is_run) in
      served_in_run run on.endless cycles on.begins on.is_run legal
