-- A queue of beats: what its two calls leave in a netlist.
use Rattle.std.specs.Prelude.{◌≡◌, ℕ, ◌&&◌, ◌==◌, nat_lt}
use Rattle.netlist.specs.Nets.{NetValue}
use Rattle.netlist.specs.Netlists.{Netlist, IsWaiting, WaitsForWrite}
use Rattle.netlist.specs.Runs.{Always}
use Rattle.netlist.specs.Longer.{Extends}
use Rattle.net_parts.specs.Nets.{IsBit}
use Rattle.net_parts.specs.Laws.{net_lasts}
use Rattle.net_parts.specs.Groups.{values_of}
use Rattle.item_queues.specs.Queues.{owns, owns_memories, IsQueueMade, StartsEmpty, StepsQueue, held_in}
use Rattle.item_queues.specs.Storages.{shown_oldest}
use Rattle.item_queues.specs.Laws.{queue_lasts, starts_last, steps_last}
use Rattle.stage_core.specs.declared.beat.BeatNets.{BeatNets}
use Rattle.stage_core.specs.declared.stored_queue.StoredKept.{StoredKept}
use Rattle.stage_core.specs.Beats.{AreBeatNets, group_of}
use Rattle.stage_core.specs.BeatPlaces.{place_nets}
use Rattle.stage_core.specs.Lasting.{beat_lasts}

-- between the calls
pub record StoredKeeps (kept : StoredKept) (depth : ℕ) (netlist : Netlist) : Type 0 where
  pub from : AreBeatNets netlist kept.from
  pub made : IsQueueMade netlist (place_nets kept.from).item kept.queue
  pub bound : kept.queue.bound ≡ depth
  pub shown : IsBit netlist kept.shown
  pub wait : (n : ℕ) → owns kept.queue n → IsWaiting netlist n
  pub wait_for_write : (m : ℕ) → owns_memories kept.queue m → WaitsForWrite netlist m

-- after the first call: the queue begins empty, and the oldest beat is shown, or where none is held what comes
pub record StoredForward (from to : BeatNets) (kept : StoredKept) (depth : ℕ) (netlist : Netlist) : Type 0 where
  pub from_is : from ≡ kept.from
  pub valid_is : to.valid ≡ kept.shown
  pub bound : kept.queue.bound ≡ depth
  pub made : IsQueueMade netlist (place_nets kept.from).item kept.queue
  pub starts : StartsEmpty netlist kept.queue
  pub shows : Always netlist (λ cycle. values_of cycle (group_of to)
      ≡ shown_oldest (held_in cycle kept.queue) (values_of cycle (group_of kept.from)))

-- after the second call: ready is shown where there is room, and in each run a beat that is shown then comes, and one that is
-- shown downstream goes where ready is high
pub record StoredBackward (kept : StoredKept) (ready up : NetValue) (netlist : Netlist) : Type 0 where
  pub comes : NetValue
  pub goes : NetValue
  pub asks : Always netlist (λ cycle. (cycle.net up.number == 1) ≡ nat_lt (cycle.net kept.queue.count.number) kept.queue.bound)
  pub takes : Always netlist (λ cycle. (cycle.net comes.number == 1)
      ≡ ((cycle.net kept.from.valid.number == 1) && (cycle.net up.number == 1)))
  pub gives : Always netlist (λ cycle. (cycle.net goes.number == 1)
      ≡ ((cycle.net kept.shown.number == 1) && (cycle.net ready.number == 1)))
  pub steps : StepsQueue netlist kept.queue (place_nets kept.from).item comes goes

-- ---- what stands lasts. No contract reads these proofs; the law of the queue cites them

pub stored_keeps_lasts : (kept : StoredKept) (depth : ℕ) (old new : Netlist) → StoredKeeps kept depth old → Extends old new
    → ((n : ℕ) → owns kept.queue n → IsWaiting old n → IsWaiting new n)
    → ((m : ℕ) → owns_memories kept.queue m → WaitsForWrite old m → WaitsForWrite new m) → StoredKeeps kept depth new
stored_keeps_lasts kept depth old new h e w v = record {
  from = beat_lasts old new kept.from e h.from;
  made = queue_lasts old new (place_nets kept.from).item kept.queue h.made e;
  bound = h.bound;
  shown = net_lasts old new kept.shown 1 e h.shown;
  wait = λ n o. w n o (h.wait n o);
  wait_for_write = λ m o. v m o (h.wait_for_write m o);
}

pub stored_forward_lasts : (from to : BeatNets) (kept : StoredKept) (depth : ℕ) (old new : Netlist)
    → StoredForward from to kept depth old → Extends old new → StoredForward from to kept depth new
stored_forward_lasts from to kept depth old new h e = record {
  from_is = h.from_is;
  valid_is = h.valid_is;
  bound = h.bound;
  made = queue_lasts old new (place_nets kept.from).item kept.queue h.made e;
  starts = starts_last old new kept.queue h.starts e;
  shows = λ cycle v. h.shows cycle (e.valuations cycle v);
}

pub stored_backward_lasts : (kept : StoredKept) (ready up : NetValue) (old new : Netlist) → StoredBackward kept ready up old
    → Extends old new → StoredBackward kept ready up new
stored_backward_lasts kept ready up old new h e = record {
  comes = h.comes;
  goes = h.goes;
  asks = λ cycle v. h.asks cycle (e.valuations cycle v);
  takes = λ cycle v. h.takes cycle (e.valuations cycle v);
  gives = λ cycle v. h.gives cycle (e.valuations cycle v);
  steps = steps_last old new kept.queue (place_nets kept.from).item h.comes h.goes h.steps e;
}
