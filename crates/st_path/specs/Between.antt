-- The stages between a source and a sink.
use Rattle.std.specs.Prelude.{◌≡◌, ℕ, ◌+◌, ◌-◌, ◌*◌, ◌≤◌, ◌<◌, Bool, ◌||◌, ◌&&◌, ◌==◌, not, nat_lt, max, min, IsTrue, IsFalse, Option, Some, None, unwrap_or}
use Rattle.netlist.specs.Nets.{NetValue}
use Rattle.netlist.specs.Netlists.{Netlist}
use Rattle.netlist.specs.Runs.{Run, IsEndlessRun, Always}
use Rattle.netlist.specs.Longer.{Extends}
use Rattle.stream_runs.specs.View.{EndView, Side, is_high}
use Rattle.stream_runs.specs.Source.{IsLegalSource}
use Rattle.stream_runs.specs.Delivery.{reaches, stream_lag}
use Rattle.stream_runs.specs.Awake.{Throughout, Sometime, stream_window, undelivered, beats_begun}
use Rattle.stream_runs.specs.Ends.{Declared, pace_of, side_of, stream_of}
use Rattle.stream_machines.specs.Buffers.{direct_side}
use Rattle.stream_machines.specs.Stage.{Shape}
use Rattle.stream_machines.specs.Wires.{filtered_side, with_error_bits}
use Rattle.stream_machines.specs.Allowances.{strict_pace}
use Rattle.stage_core.specs.declared.beat.BeatNets.{BeatNets}
use Rattle.stage_core.specs.declared.stream.StreamNets.{StreamNets}
use Rattle.stage_core.specs.Beats.{Widths, widths_of, view_of, AreBeatNets}
use Rattle.net_parts.specs.Nets.{IsBit}
use Rattle.stage_core.specs.Law.{KeepsInLonger, PassesInLonger, IgnoresInLonger}
use Rattle.st_path.specs.declared.ends.SourceNets.{SourceNets}
use Rattle.st_path.specs.Joining.{HaveOneForm, TakesWhole}

-- how many nets the stages make at most, and how many a delay of ready; the path makes eight more, and two where beats have
-- one form
abbrev pub most_stage_nets : ℕ
most_stage_nets = 7992

abbrev pub most_delay_nets : ℕ
most_delay_nets = 5

-- how many memories the stages before the queue make at most, how many the queue, and how many all; a delay of ready makes none
abbrev pub most_front_memories : ℕ
most_front_memories = 6

abbrev pub most_queue_memories : ℕ
most_queue_memories = 6

abbrev pub most_stage_memories : ℕ
most_stage_memories = most_front_memories + most_queue_memories

-- the beat of a source, with this net for each port that it doesn't have
abbrev pub beat_of : SourceNets → NetValue → BeatNets
beat_of nets low =
    record {
      valid = nets.valid;
      word = nets.word;
      channel = unwrap_or nets.channel low;
      error = unwrap_or nets.error low;
      first = unwrap_or nets.startofpacket low;
      last = unwrap_or nets.endofpacket low;
      empty = unwrap_or nets.empty low;
    }

-- the net is that of the sink's ready port, and always 1 where it has none
abbrev pub IsReadyOf : Netlist → Option NetValue → NetValue → Type 0
IsReadyOf netlist (Some port) net = net ≡ port
IsReadyOf netlist None net = Always netlist (λ cycle. cycle.net net.number ≡ 1)

-- a delay of ready leads from the source to the sink alone: their beats have one form, no queue is asked for, the source sends
-- in ready cycles alone, and the sink's ready comes no sooner
pub record IsDelayEnough (source sink : Declared) (depth : ℕ) : Type 0 where
  pub form : HaveOneForm source sink
  pub ready : IsTrue sink.ready
  pub no_queue : depth ≡ 0
  pub strict : (pace_of source).allowance ≡ (pace_of source).latency
  pub no_sooner : (pace_of source).latency ≤ (pace_of sink).latency

-- ---- the sides from the source on

-- the largest channel that reaches the sink
abbrev pub joined_channel : Declared → Declared → ℕ
joined_channel source sink = min source.max_channel sink.max_channel

-- behind the filter
abbrev pub filtered : Declared → Declared → Side
filtered source sink = filtered_side (side_of source) (joined_channel source sink)

-- at ready latency 0
abbrev pub timed : Declared → Declared → Side
timed source sink = direct_side (filtered source sink)

-- with the sink's error port
abbrev pub with_errors : Declared → Declared → Side
with_errors source sink = with_error_bits (timed source sink) sink.error_bits

-- the first symbol is brought to the high-order bits where it stands there at the sink, or beats change their symbols
abbrev pub puts_first_high : Declared → Declared → Bool
puts_first_high source sink = source.first_high || (sink.first_high || not (source.symbols == sink.symbols))

-- with the sink's symbols
abbrev pub formed : Declared → Declared → Side
formed source sink = record (with_errors source sink) { symbols = sink.symbols; first_high = puts_first_high source sink }

-- in the sink's order
abbrev pub ordered : Declared → Declared → Side
ordered source sink = record (formed source sink) { first_high = sink.first_high }

-- and at the sink, where beats are shown in ready cycles alone, whatever its allowance
abbrev pub at_sink : Declared → Declared → Side
at_sink source sink = record (side_of sink) { pace = strict_pace (pace_of sink); max_channel = joined_channel source sink }

-- the channels that pass
abbrev pub joined_test : Declared → Declared → ℕ → Bool
joined_test source sink = reaches (at_sink source sink)

-- how many symbols are held at most: behind the stage to ready latency 0, behind those that change the symbols of a beat,
-- and behind the queue
abbrev pub timed_hold : Declared → ℕ
timed_hold source = ((pace_of source).allowance + 2) * source.symbols

abbrev pub formed_hold : Declared → Declared → ℕ
formed_hold source sink = timed_hold source + (source.symbols + sink.symbols)

abbrev pub queued_hold : Declared → Declared → ℕ → ℕ
queued_hold source sink depth = formed_hold source sink + depth * sink.symbols

-- ---- stages from one side to another

-- the numbers of such stages: how many symbols they hold at least and at most, how many they may keep for good, how much a
-- symbol may raise their rank, and their largest rank
pub record Bounds : Type 0 where
  pub least : ℕ
  pub most : ℕ
  pub rest : ℕ
  pub step : ℕ
  pub largest : ℕ

-- of stages that hold nothing and wait for nothing
abbrev pub still : Bounds
still = record { least = 0; most = 0; rest = 0; step = 0; largest = 0 }

-- behind the stage to ready latency 0
abbrev pub timed_bounds : Declared → Bounds
timed_bounds source = record { least = 0; most = timed_hold source; rest = 0; step = 0; largest = (pace_of source).latency }

-- behind those that change the symbols of a beat
abbrev pub formed_bounds : Declared → Declared → Bounds
formed_bounds source sink =
    record {
      least =
          0;
      most =
          formed_hold source sink;
      rest =
          sink.symbols - 1;
      step = 2;
      largest = (pace_of source).latency + source.symbols + 2 * sink.symbols;
    }

-- behind the queue
abbrev pub queued_bounds : Declared → Declared → ℕ → Bounds
queued_bounds source sink depth =
    record {
      least = depth * sink.symbols;
      most = queued_hold source sink depth;
      rest = sink.symbols - 1;
      step = 3;
      largest = (pace_of source).latency + source.symbols + 2 * sink.symbols + 3 * (depth * sink.symbols);
    }

-- the sides and numbers of a stage that leads from one side to another, of those between the source and the sink: where it
-- needs an always ready sink the sink takes whole beats; to such a sink it passes ready on
pub record LeadsOn (source sink : Declared) (up down : Side) (bounds : Bounds) (has passing : Shape → Type 0) : Type 0 where
  pub shape : Shape
  pub up_is : shape.up ≡ up
  pub down_is : shape.down ≡ down
  pub test : shape.passes ≡ joined_test source sink
  pub room : bounds.least ≤ shape.hold
  pub hold : shape.hold ≤ bounds.most
  pub rest : shape.rest ≤ bounds.rest
  pub step : shape.step ≤ bounds.step
  pub largest : shape.largest ≤ bounds.largest
  pub always_ready : IsTrue shape.needs_ready → TakesWhole source sink
  pub keeps : has shape
  pub passes : TakesWhole source sink → passing shape

-- the nets of a beat of this side are as wide as its word, its channel at the sink and its error
pub record FitSide (side : Side) (sink : Declared) (widths : Widths) : Type 0 where
  pub word : widths.word ≡ side.symbols * side.symbol_bits
  pub channel : widths.channel ≡ max sink.channel_bits 1
  pub error : 0 < side.error_bits → widths.error ≡ side.error_bits
  pub empty : widths.empty ≤ 8

-- a stage takes the nets that it is given, gives nets of this side, and makes so many at most
pub record GivesNets (side : Side) (sink : Declared) (most : ℕ) (accepts : Type 0) (given : Widths) (made : ℕ) : Type 0 where
  pub takes : accepts
  pub gives : FitSide side sink given
  pub few : made ≤ most

-- ---- all stages

-- a stage of this shape leads from the source to the sink: it has room for the beats of the queue, holds no more than may be
-- on its way, keeps less than a beat for good, needs an always ready sink only where the sink takes whole beats, and by its
-- rank stands still no longer than a window
pub record LeadsFrom (source sink : Declared) (depth : ℕ) (shape : Shape) : Type 0 where
  pub up : shape.up ≡ side_of source
  pub down : shape.down ≡ at_sink source sink
  pub passes : shape.passes ≡ joined_test source sink
  pub room : depth * sink.symbols ≤ shape.hold
  pub hold : shape.hold ≤ stream_lag (stream_of source sink depth)
  pub rest : shape.rest < sink.symbols
  pub window : shape.largest + (shape.step + 1) * (shape.hold + (pace_of source).allowance * source.symbols)
      < stream_window (stream_of source sink depth)
  pub always_ready : IsTrue shape.needs_ready → TakesWhole source sink

-- between these views, whatever the sink does: in each window in which the queue has room for a beat of a legal source, the
-- source sees ready
abbrev pub TakesIn : Declared → Declared → ℕ → EndView → EndView → Type 0
TakesIn source sink depth up down =
    (count : ℕ) → IsLegalSource (side_of source) up count → (start : ℕ)
    → start + stream_window (stream_of source sink depth) ≤ count
    → Throughout start (stream_window (stream_of source sink depth))
    (λ c. beats_begun sink.symbols (undelivered (joined_test source sink) (side_of source) (at_sink source sink) up down c)
    + source.symbols
    ≤ depth)
    → Sometime start (stream_window (stream_of source sink depth)) (λ c. IsTrue (is_high up.ready c))

-- in each endless run of each longer netlist
abbrev pub TakesInLonger : Declared → Declared → ℕ → Netlist → BeatNets → StreamNets → NetValue → Type 0
TakesInLonger source sink depth netlist from made ready =
    (longer : Netlist) → Extends netlist longer → (run : Run) → IsEndlessRun longer run
    → TakesIn source sink depth (view_of run from made.ready) (view_of run made.beat ready)

-- the nets are those of a stage that leads from the source to the sink, and whose beat doesn't depend on the ready of the same
-- cycle; before a sink that takes whole beats it passes ready on, and where it needs no such sink its queue takes beats in
pub record CarriesStream (source sink : Declared) (depth : ℕ) (netlist : Netlist) (from : BeatNets) (made : StreamNets)
    (ready : NetValue) : Type 0 where
  pub shape : Shape
  pub leads : LeadsFrom source sink depth shape
  pub keeps : KeepsInLonger shape netlist from made.ready made.beat ready
  pub passes : TakesWhole source sink → PassesInLonger shape netlist from made.ready made.beat ready
  pub takes_in : IsFalse shape.needs_ready → TakesInLonger source sink depth netlist from made ready
  pub ignores : IgnoresInLonger netlist from made.beat

-- the nets that a stage gives: its beat is as wide as the sink's, but for empty
pub record AreStageNets (netlist : Netlist) (source sink : Declared) (made : StreamNets) : Type 0 where
  pub ready : IsBit netlist made.ready
  pub beat : AreBeatNets netlist made.beat
  pub widths : FitSide (at_sink source sink) sink (widths_of made.beat)

-- where the beats that are shown are on the source's channels, the net is high where one above the sink's is accepted
abbrev pub ShowsUnreached : Declared → Declared → Netlist → BeatNets → NetValue → NetValue → Type 0
ShowsUnreached source sink netlist from ready dropped =
    Always netlist (λ cycle. (IsTrue (cycle.net from.valid.number == 1) → cycle.net from.channel.number ≤ source.max_channel)
    → (cycle.net dropped.number == 1)
    ≡ (((cycle.net from.valid.number == 1) && (nat_lt 0 (pace_of source).latency || (cycle.net ready.number == 1)))
    && nat_lt sink.max_channel (cycle.net from.channel.number)))
