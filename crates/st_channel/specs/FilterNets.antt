-- The filter on channels: what its calls leave in a netlist.
use Rattle.std.specs.Prelude.{◌≡◌, ℕ, ◌+◌, ◌%◌, ◌^◌, ◌<◌, ◌≤◌, Bool, false, not, ◌&&◌, ◌||◌, ◌==◌, nat_lt, nat_le, if◌then◌else◌, IsTrue, IsFalse}
use Rattle.netlist.specs.Nets.{NetValue}
use Rattle.netlist.specs.Netlists.{Netlist}
use Rattle.netlist.specs.Runs.{Cycle, Always}
use Rattle.netlist.specs.Longer.{Extends}
use Rattle.stream_machines.specs.Stage.{Shape}
use Rattle.stream_machines.specs.Wires.{wire_shape, filtered_side}
use Rattle.stage_core.specs.declared.beat.BeatNets.{BeatNets}
use Rattle.st_channel.specs.declared.filter.ChannelFilter.{ChannelFilter}
use Rattle.st_channel.specs.declared.filter.FilterKept.{FilterKept}
use Rattle.net_parts.specs.Growth.{fit_nets}

-- ---- what the filter does

-- a channel may come that the sink doesn't take, or that has more bits than the sink's
abbrev pub compares : ChannelFilter → Bool
compares filter = nat_lt filter.sink.largest filter.source.largest || nat_lt filter.sink.bits filter.source.bits

-- a beat on this channel goes through
abbrev pub lets_through : ChannelFilter → ℕ → Bool
lets_through filter channel = not (compares filter) || nat_le channel filter.sink.largest

-- ready goes straight through
abbrev pub is_ready_wire : ChannelFilter → Bool
is_ready_wire filter = nat_lt 0 filter.latency || not (compares filter)

-- in the cycle a beat transfers upstream
abbrev pub takes_beat : ChannelFilter → Cycle → BeatNets → NetValue → Bool
takes_beat filter cycle from ready =
    (cycle.net from.valid.number == 1) && (nat_lt 0 filter.latency || (cycle.net ready.number == 1))

-- and it is one that doesn't go through
abbrev pub drops : ChannelFilter → Cycle → BeatNets → NetValue → Bool
drops filter cycle from ready = takes_beat filter cycle from ready && not (lets_through filter (cycle.net from.channel.number))

-- the most nets of each call: none between ends of the same channels
abbrev pub shown_nets : ChannelFilter → ℕ
shown_nets filter = if compares filter then 4 else 0

abbrev pub forward_nets : ChannelFilter → ℕ
forward_nets filter = fit_nets filter.source.bits filter.sink.bits + shown_nets filter

abbrev pub backward_nets : ChannelFilter → ℕ
backward_nets filter = if is_ready_wire filter then 0 else 2

abbrev pub dropped_nets : ChannelFilter → ℕ
dropped_nets filter = if compares filter then 4 else 1

-- ---- as a stage

-- a side with the filter's ready latency and no larger channels than the source's upstream, and downstream the same with the
-- sink's largest channel; the channels up to that one pass
pub record IsFilterShape (filter : ChannelFilter) (shape : Shape) : Type 0 where
  pub is : shape ≡ wire_shape shape.passes shape.up (filtered_side shape.up filter.sink.largest) shape.up.pace.latency false
  pub behind : shape.up.pace.latency ≡ filter.latency
  pub within : shape.up.max_channel ≤ filter.source.largest
  pub some : 0 < shape.up.symbols
  pub passes : (channel : ℕ) → shape.passes channel ≡ nat_le channel filter.sink.largest

-- after the first call: valid is shown where the channel lets the beat through, the channel has the sink's width, and the
-- other nets go straight through
pub record FilterForward (filter : ChannelFilter) (from to : BeatNets) (kept : FilterKept) (netlist : Netlist) : Type 0 where
  pub kept_is : kept.valid ≡ to.valid
  pub same : to ≡ record from { valid = to.valid; channel = to.channel }
  pub fits : Always netlist (λ cycle. cycle.net from.channel.number < 2 ^ filter.source.bits)
  pub channel : Always netlist (λ cycle. cycle.net to.channel.number ≡ cycle.net from.channel.number % 2 ^ filter.sink.bits)
  pub valid : Always netlist (λ cycle. cycle.net to.valid.number
      ≡ (if lets_through filter (cycle.net from.channel.number) then cycle.net from.valid.number else 0))

-- after the second call: ready goes straight through, or is also shown where no beat is shown downstream
pub record FilterBackward (filter : ChannelFilter) (kept : FilterKept) (ready up : NetValue) (netlist : Netlist) : Type 0 where
  pub wire : IsTrue (is_ready_wire filter) → up ≡ ready
  pub asks : IsFalse (is_ready_wire filter)
      → Always netlist (λ cycle. (cycle.net up.number == 1)
      ≡ ((cycle.net ready.number == 1) || not (cycle.net kept.valid.number == 1)))

-- ---- what stands lasts. No contract reads these proofs; the law of the filter cites them

pub forward_lasts : (filter : ChannelFilter) (from to : BeatNets) (kept : FilterKept) (old new : Netlist)
    → FilterForward filter from to kept old → Extends old new → FilterForward filter from to kept new
forward_lasts filter from to kept old new h e = record {
  kept_is = h.kept_is;
  same = h.same;
  fits = λ cycle v. h.fits cycle (e.valuations cycle v);
  channel = λ cycle v. h.channel cycle (e.valuations cycle v);
  valid = λ cycle v. h.valid cycle (e.valuations cycle v);
}

pub backward_lasts : (filter : ChannelFilter) (kept : FilterKept) (ready up : NetValue) (old new : Netlist)
    → FilterBackward filter kept ready up old → Extends old new → FilterBackward filter kept ready up new
backward_lasts filter kept ready up old new h e =
    record { wire = h.wire; asks = λ no cycle v. h.asks no cycle (e.valuations cycle v) }
