-- A buffer behind a source of some ready latency: what its two calls leave in a netlist.
use Rattle.std.specs.Prelude.{◌≡◌, ℕ, ◌+◌, ◌^◌, ◌<◌, ◌==◌, ◌&&◌, nat_lt, ◌⊎◌}
use Rattle.std.proofs.Common.{inl, inr}
use Rattle.netlist.specs.Nets.{NetValue}
use Rattle.netlist.specs.Netlists.{Netlist, IsWaiting, WaitsForWrite}
use Rattle.netlist.specs.Runs.{Always}
use Rattle.netlist.specs.Longer.{Extends}
use Rattle.item_queues.specs.Queues.{owns, owns_memories, StepsQueue}
use Rattle.item_queues.specs.Laws.{steps_last}
use Rattle.stream_machines.specs.Stage.{Shape, PassesAll}
use Rattle.stream_machines.specs.Buffers.{buffer_shape}
use Rattle.stage_core.specs.declared.beat.BeatNets.{BeatNets}
use Rattle.stage_core.specs.declared.stored_queue.StoredKept.{StoredKept}
use Rattle.stage_core.specs.BeatPlaces.{place_nets}
use Rattle.stage_core.specs.StoredNets.{StoredKeeps, StoredForward, stored_keeps_lasts, stored_forward_lasts}
use Rattle.st_timing.specs.declared.buffer.BufferKept.{BufferKept}
use Rattle.st_timing.specs.PromiseNets.{owns_promises, ArePromises, StartsFree, PromisesGoOn, promises_last, free_lasts, going_lasts}

-- a side of this ready latency upstream, and downstream the same with ready latency 0, with a test that all channels pass; a
-- place more than the latency says holds beats
pub record IsReadyBufferShape (latency : ℕ) (shape : Shape) : Type 0 where
  pub is : shape ≡ buffer_shape shape.passes (shape.up.pace.latency + 1) shape.up
  pub behind : shape.up.pace.latency ≡ latency
  pub strict : shape.up.pace.allowance ≡ shape.up.pace.latency
  pub some : 0 < shape.up.symbols
  pub passes : PassesAll shape.passes shape.up

-- the numbers of the registers of its queue
abbrev pub queue_owns : StoredKept → ℕ → Type 0
queue_owns stored n = owns stored.queue n

-- of all its registers
abbrev pub buffer_owns : BufferKept → ℕ → Type 0
buffer_owns kept n = queue_owns kept.stored n ⊎ owns_promises kept.promises n

-- and of its memories
abbrev pub buffer_owns_memories : BufferKept → ℕ → Type 0
buffer_owns_memories kept m = owns_memories kept.stored.queue m

-- between the calls
pub record BufferKeeps (kept : BufferKept) (latency : ℕ) (netlist : Netlist) : Type 0 where
  pub latency_is : kept.latency ≡ latency
  pub stored : StoredKeeps kept.stored (kept.latency + 1) netlist
  pub promises : ArePromises netlist kept.latency kept.promises
  pub apart : (n : ℕ) → queue_owns kept.stored n → ¬ owns_promises kept.promises n

-- after the first call: the queue has a place more than the latency says, and each is free at first
pub record BufferForward (from to : BeatNets) (kept : BufferKept) (latency : ℕ) (netlist : Netlist) : Type 0 where
  pub latency_is : kept.latency ≡ latency
  pub stored : StoredForward from to kept.stored (kept.latency + 1) netlist
  pub starts : StartsFree netlist kept.latency kept.promises
  pub wide : kept.latency + 1 < 2 ^ kept.promises.free.width
  pub cycles : kept.promises.history.width ≡ kept.latency

-- after the second call: ready is shown where a place is free, and that promises one; each beat that is shown upstream comes,
-- and one that is shown downstream goes where ready is high
pub record BufferBackward (kept : BufferKept) (ready up : NetValue) (netlist : Netlist) : Type 0 where
  pub goes : NetValue
  pub asks : Always netlist (λ cycle. (cycle.net up.number == 1) ≡ nat_lt 0 (cycle.net kept.promises.free.number))
  pub gives : Always netlist (λ cycle. (cycle.net goes.number == 1)
      ≡ ((cycle.net kept.stored.shown.number == 1) && (cycle.net ready.number == 1)))
  pub promises : PromisesGoOn netlist kept.latency kept.promises up kept.stored.from.valid goes
  pub steps : StepsQueue netlist kept.stored.queue (place_nets kept.stored.from).item kept.stored.from.valid goes

-- ---- what stands lasts. No contract reads these proofs; the law of the buffer cites them

pub keeps_lasts : (kept : BufferKept) (latency : ℕ) (old new : Netlist) → BufferKeeps kept latency old → Extends old new
    → ((n : ℕ) → buffer_owns kept n → IsWaiting old n → IsWaiting new n)
    → ((m : ℕ) → buffer_owns_memories kept m → WaitsForWrite old m → WaitsForWrite new m) → BufferKeeps kept latency new
keeps_lasts kept latency old new h e w v = record {
  latency_is = h.latency_is;
  stored = stored_keeps_lasts kept.stored (kept.latency + 1) old new h.stored e (λ n o. w n (inl o)) v;
  promises = promises_last kept.latency kept.promises old new h.promises e (λ n o. w n (inr o));
  apart = h.apart;
}

pub forward_lasts : (from to : BeatNets) (kept : BufferKept) (latency : ℕ) (old new : Netlist)
    → BufferForward from to kept latency old → Extends old new → BufferForward from to kept latency new
forward_lasts from to kept latency old new h e = record {
  latency_is = h.latency_is;
  stored = stored_forward_lasts from to kept.stored (kept.latency + 1) old new h.stored e;
  starts = free_lasts kept.latency kept.promises old new h.starts e;
  wide = h.wide;
  cycles = h.cycles;
}

pub backward_lasts : (kept : BufferKept) (ready up : NetValue) (old new : Netlist) → BufferBackward kept ready up old
    → Extends old new → BufferBackward kept ready up new
backward_lasts kept ready up old new h e = record {
  goes = h.goes;
  asks = λ cycle v. h.asks cycle (e.valuations cycle v);
  gives = λ cycle v. h.gives cycle (e.valuations cycle v);
  promises = going_lasts kept.latency kept.promises up kept.stored.from.valid h.goes old new h.promises e;
  steps = steps_last old new kept.stored.queue (place_nets kept.stored.from).item kept.stored.from.valid h.goes h.steps e;
}
