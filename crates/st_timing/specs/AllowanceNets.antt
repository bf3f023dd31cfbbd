-- A buffer behind a ready allowance above the ready latency: what its two calls leave in a netlist.
use Rattle.std.specs.Prelude.{◌≡◌, ℕ, ◌+◌, ◌<◌, ◌==◌, ◌&&◌, nat_lt}
use Rattle.netlist.specs.Nets.{NetValue}
use Rattle.netlist.specs.Netlists.{Netlist, IsWaiting, WaitsForWrite}
use Rattle.netlist.specs.Runs.{Always}
use Rattle.netlist.specs.Longer.{Extends}
use Rattle.item_queues.specs.Queues.{owns, owns_memories, StepsQueue}
use Rattle.item_queues.specs.Laws.{steps_last}
use Rattle.stream_machines.specs.Stage.{Shape, PassesAll}
use Rattle.stream_machines.specs.Buffers.{buffer_shape}
use Rattle.stage_core.specs.declared.beat.BeatNets.{BeatNets}
use Rattle.stage_core.specs.BeatPlaces.{place_nets}
use Rattle.stage_core.specs.StoredNets.{StoredKeeps, StoredForward, stored_keeps_lasts, stored_forward_lasts}
use Rattle.st_timing.specs.declared.allowance.AllowanceKept.{AllowanceKept}

-- a side of this ready latency and allowance upstream, and downstream the same with ready latency 0, with a test that all
-- channels pass; two places more than the allowance says hold beats
pub record IsAllowanceShape (latency allowance : ℕ) (shape : Shape) : Type 0 where
  pub is : shape ≡ buffer_shape shape.passes (shape.up.pace.allowance + 2) shape.up
  pub behind : shape.up.pace.latency ≡ latency
  pub allows : shape.up.pace.allowance ≡ allowance
  pub some : 0 < shape.up.symbols
  pub passes : PassesAll shape.passes shape.up

-- between the calls
pub record AllowanceKeeps (kept : AllowanceKept) (allowance : ℕ) (netlist : Netlist) : Type 0 where
  pub allowance_is : kept.buffer.allowance ≡ allowance
  pub stored : StoredKeeps kept.stored (kept.buffer.allowance + 2) netlist

-- after the first call: the queue has two places more than the allowance says
pub record AllowanceForward (from to : BeatNets) (kept : AllowanceKept) (allowance : ℕ) (netlist : Netlist) : Type 0 where
  pub allowance_is : kept.buffer.allowance ≡ allowance
  pub stored : StoredForward from to kept.stored (kept.buffer.allowance + 2) netlist

-- after the second call: ready is shown where one beat at most is held; each beat that is shown upstream comes, and one that is
-- shown downstream goes where ready is high
pub record AllowanceBackward (kept : AllowanceKept) (ready up : NetValue) (netlist : Netlist) : Type 0 where
  pub goes : NetValue
  pub asks : Always netlist (λ cycle. (cycle.net up.number == 1) ≡ nat_lt (cycle.net kept.stored.queue.count.number) 2)
  pub gives : Always netlist (λ cycle. (cycle.net goes.number == 1)
      ≡ ((cycle.net kept.stored.shown.number == 1) && (cycle.net ready.number == 1)))
  pub steps : StepsQueue netlist kept.stored.queue (place_nets kept.stored.from).item kept.stored.from.valid goes

-- ---- what stands lasts. No contract reads these proofs; the law of the buffer cites them

pub keeps_lasts : (kept : AllowanceKept) (allowance : ℕ) (old new : Netlist) → AllowanceKeeps kept allowance old → Extends old new
    → ((n : ℕ) → owns kept.stored.queue n → IsWaiting old n → IsWaiting new n)
    → ((m : ℕ) → owns_memories kept.stored.queue m → WaitsForWrite old m → WaitsForWrite new m)
    → AllowanceKeeps kept allowance new
keeps_lasts kept allowance old new h e w v =
    record
    { allowance_is = h.allowance_is; stored = stored_keeps_lasts kept.stored (kept.buffer.allowance + 2) old new h.stored e w v }

pub forward_lasts : (from to : BeatNets) (kept : AllowanceKept) (allowance : ℕ) (old new : Netlist)
    → AllowanceForward from to kept allowance old → Extends old new → AllowanceForward from to kept allowance new
forward_lasts from to kept allowance old new h e =
    record {
      allowance_is =
          h.allowance_is;
      stored = stored_forward_lasts from to kept.stored (kept.buffer.allowance + 2) old new h.stored e;
    }

pub backward_lasts : (kept : AllowanceKept) (ready up : NetValue) (old new : Netlist) → AllowanceBackward kept ready up old
    → Extends old new → AllowanceBackward kept ready up new
backward_lasts kept ready up old new h e = record {
  goes = h.goes;
  asks = λ cycle v. h.asks cycle (e.valuations cycle v);
  gives = λ cycle v. h.gives cycle (e.valuations cycle v);
  steps = steps_last old new kept.stored.queue (place_nets kept.stored.from).item kept.stored.from.valid h.goes h.steps e;
}
