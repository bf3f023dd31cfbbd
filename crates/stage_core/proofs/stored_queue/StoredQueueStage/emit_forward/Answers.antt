use Rattle.std.proofs.Common.{refl, sym, subst, ap, ◌∙◌, lit<, List, [], ◌∷◌, length, arith}
use Rattle.netlist.specs.Nets.{NetValue}
use Rattle.netlist.specs.declared.line.Memory.{Memory}
use Rattle.net_parts.specs.declared.places.PlaceNets.{PlaceNets}
use Rattle.net_parts.specs.Laws.{extends_twice, adds_grow, grows_without_memory, memory_grows_twice}
use Rattle.net_parts.specs.Groups.{AreNets, values_of}
use Rattle.net_parts.specs.PlaceRows.{ArePlaceNets, HaveSameWidths, nets_of}
use Rattle.item_queues.specs.Laws.{queue_lasts, starts_last}
use Rattle.item_queues.specs.Queues.{IsQueueMade, held_in}
use Rattle.item_queues.specs.Storages.{shown_oldest}
use Rattle.stage_core.specs.Lasting.{beat_lasts}
use Rattle.stage_core.specs.BeatPlaces.{place_are, beat_are, place_widths}
use Rattle.net_parts.specs.Memories.{waits_where_same}
use Rattle.stage_core.proofs.stored_queue.StoredQueueStage.emit_forward.Goals as goal

pub make_queue-requires : goal.make_queue-requires
make_queue-requires c = (
  lit< tt,
  (lit< tt, (c.args.self.now.some, (omega arith, (lit< tt, subst (λ (place : PlaceNets 6). AreNets c.args.builder.now place.item) (sym c.place-coming.ensures) (place_are _ _ c.requires.from).item)))),
)

pub show_oldest-requires : goal.show_oldest-requires
show_oldest-requires c = (
  lit< tt,
  (
    lit< tt,
    (
      lit< tt,
      (
        c.in_ok-queue.ensures.made,
        subst (λ (place : PlaceNets 6). ArePlaceNets c.make_queue.new.builder place) (sym c.place-coming.ensures) (place_are _ _ (beat_lasts _ _ _ c.make_queue.ensures.grows.extends c.requires.from)),
      ),
    ),
  ),
)

pub returns-clause-beat : goal.returns-clause-beat
returns-clause-beat c =
    beat_are _ _ c.of_place.result c.args.from c.in_ok-to.to c.of_place.ensures c.in_ok-to.ensures.place (subst (λ (place : PlaceNets 6). HaveSameWidths c.in_ok-to.to place) c.place-coming.ensures c.in_ok-to.ensures.widths) c.requires.from

pub returns-clause-widths : goal.returns-clause-widths
returns-clause-widths c =
    place_widths c.of_place.result c.args.from c.in_ok-to.to c.of_place.ensures (subst (λ (place : PlaceNets 6). HaveSameWidths c.in_ok-to.to place) c.place-coming.ensures c.in_ok-to.ensures.widths)

pub returns-clause-kept : goal.returns-clause-kept
returns-clause-kept c = record {
  from = beat_lasts _ _ _ (extends_twice _ _ _ c.make_queue.ensures.grows.extends c.show_oldest.ensures.adds.grows.extends) c.requires.from;
  made = subst (λ (place : PlaceNets 6). IsQueueMade c.show_oldest.new.builder place.item c.in_ok-queue.queue) c.place-coming.ensures (queue_lasts _ _ _ _ c.in_ok-queue.ensures.made c.show_oldest.ensures.adds.grows.extends);
  bound = c.in_ok-queue.ensures.bound;
  shown = c.in_ok-to.ensures.place.full;
  wait = λ n o. c.show_oldest.ensures.adds.grows.waits n (c.in_ok-queue.ensures.own_wait n o);
  wait_for_write = λ m o. waits_where_same _ _ c.show_oldest.ensures.adds.grows.memories m (c.in_ok-queue.ensures.own_wait_for_write m o);
}

pub returns-clause-owned : goal.returns-clause-owned
returns-clause-owned c n o =
    let at = c.in_ok-queue.ensures.owned n o in
    let more = c.show_oldest.ensures.adds.grows.extends.count in
    (at.0, omega (arith, at.1))

pub returns-clause-made : goal.returns-clause-made
returns-clause-made c = record {
  from_is = refl;
  valid_is = ap (λ group. first_net group c.in_ok-to.to.full) c.of_place.ensures;
  bound = c.in_ok-queue.ensures.bound;
  made = subst (λ (place : PlaceNets 6). IsQueueMade c.show_oldest.new.builder place.item c.in_ok-queue.queue) c.place-coming.ensures (queue_lasts _ _ _ _ c.in_ok-queue.ensures.made c.show_oldest.ensures.adds.grows.extends);
  starts = starts_last _ _ _ c.in_ok-queue.ensures.starts c.show_oldest.ensures.adds.grows.extends;
  shows = λ cycle v.
      ap (values_of cycle) c.of_place.ensures ∙ c.in_ok-to.ensures.value cycle v
      ∙ ap (λ (place : PlaceNets 6). shown_oldest (held_in cycle c.in_ok-queue.queue) (values_of cycle (nets_of place))) c.place-coming.ensures;
} where
  first_net : List NetValue → NetValue → NetValue
  first_net [] other = other
  first_net (net ∷ group) other = net

pub returns-clause-own_wait : goal.returns-clause-own_wait
returns-clause-own_wait c n o = c.show_oldest.ensures.adds.grows.waits n (c.in_ok-queue.ensures.own_wait n o)

pub returns-clause-newly : goal.returns-clause-newly
returns-clause-newly c n w = c.in_ok-queue.ensures.newly n (c.show_oldest.ensures.adds.grows.no_more_wait n w)

pub returns-clause-written : goal.returns-clause-written
returns-clause-written c =
    let same = c.show_oldest.ensures.adds.grows.memories in
    let count = ap (length {A = Memory}) same in
    record {
      between = λ m o. (let at = c.in_ok-queue.ensures.owned_memories m o in (at.0, omega (arith, at.1, count)));
      own = λ m o. waits_where_same _ _ same m (c.in_ok-queue.ensures.own_wait_for_write m o);
      still = λ m w. waits_where_same _ _ same m (c.make_queue.ensures.still_wait_for_write m w);
      newly = λ m w. c.in_ok-queue.ensures.newly_written m (waits_where_same _ _ (sym same) m w);
    }

pub returns-in_err-to-clause-grows : goal.returns-in_err-to-clause-grows
returns-in_err-to-clause-grows c = memory_grows_twice _ _ _ _ _ _ _ c.make_queue.ensures.grows (grows_without_memory _ _ _ (adds_grow _ _ _ c.show_oldest.ensures.adds))

pub returns-clause-grows : goal.returns-clause-grows
returns-clause-grows c = memory_grows_twice _ _ _ _ _ _ _ c.make_queue.ensures.grows (grows_without_memory _ _ _ (adds_grow _ _ _ c.show_oldest.ensures.adds))
