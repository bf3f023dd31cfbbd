use Rattle.std.proofs.Common.{sym, subst, lit<}
use Rattle.net_parts.specs.declared.places.PlaceNets.{PlaceNets}
use Rattle.net_parts.specs.Laws.{extends_twice, net_lasts, adds_twice}
use Rattle.net_parts.specs.Groups.{AreNets}
use Rattle.item_queues.specs.Queues.{IsQueueMade, StepsQueue}
use Rattle.item_queues.specs.Laws.{queue_lasts}
use Rattle.stage_core.specs.Lasting.{beat_lasts}
use Rattle.stage_core.specs.BeatPlaces.{place_are}
use Rattle.net_parts.specs.Memories.{waits_where_same}
use Rattle.stage_core.proofs.stored_queue.StoredQueueStage.emit_backward.Goals as goal

pub finish_queue-requires : goal.finish_queue-requires
finish_queue-requires c =
    let made = adds_twice _ _ _ _ _ (adds_twice _ _ _ _ _ c.has_room.ensures.adds c.both.ensures.adds) c.both-2.ensures.adds in (
      lit< tt,
      (
        lit< tt,
        (
          lit< tt,
          (
            subst (λ (place : PlaceNets 6). IsQueueMade c.both-2.new.builder place.item c.args.kept.queue) (sym c.place.ensures) (queue_lasts _ _ _ _ c.requires.kept.made made.grows.extends),
            (
              subst (λ (place : PlaceNets 6). AreNets c.both-2.new.builder place.item) (sym c.place.ensures) (place_are _ _ (beat_lasts _ _ _ made.grows.extends c.requires.kept.from)).item,
              (
                net_lasts _ _ _ _ c.both-2.ensures.adds.grows.extends c.in_ok-comes.ensures.net,
                (c.in_ok-goes.ensures.net, ((λ n o. made.grows.waits n (c.requires.kept.wait n o)), (λ m o. waits_where_same _ _ made.grows.memories m (c.requires.kept.wait_for_write m o)))),
              ),
            ),
          ),
        ),
      ),
    )

pub returns-clause-made : goal.returns-clause-made
returns-clause-made c =
    let later = c.finish_queue.ensures.grows.extends in
    let twice = extends_twice _ _ _ c.both-2.ensures.adds.grows.extends later in
    record {
      comes = c.in_ok-comes.comes;
      goes = c.in_ok-goes.goes;
      asks = λ cycle v. c.in_ok-room.ensures.value cycle (c.both.ensures.adds.grows.extends.valuations cycle (twice.valuations cycle v));
      takes = λ cycle v. c.in_ok-comes.ensures.value cycle (twice.valuations cycle v);
      gives = λ cycle v. c.in_ok-goes.ensures.value cycle (later.valuations cycle v);
      steps = subst (λ (place : PlaceNets 6). StepsQueue c.finish_queue.new.builder c.args.kept.queue place.item c.in_ok-comes.comes c.in_ok-goes.goes) c.place.ensures c.in_ok-finish_queue.ensures.steps;
    }

pub returns-clause-no_more_wait : goal.returns-clause-no_more_wait
returns-clause-no_more_wait c n w =
    let made = adds_twice _ _ _ _ _ (adds_twice _ _ _ _ _ c.has_room.ensures.adds c.both.ensures.adds) c.both-2.ensures.adds in
    let set = c.in_ok-finish_queue.ensures.no_more_wait n w in
    (made.grows.no_more_wait n set.0, set.1)
