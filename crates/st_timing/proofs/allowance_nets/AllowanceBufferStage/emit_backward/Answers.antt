use Rattle.std.proofs.Common.{◌==◌, sym, subst, ap, ◌∙◌, lit<, arith}
use Rattle.net_parts.specs.declared.places.PlaceNets.{PlaceNets}
use Rattle.net_parts.specs.Groups.{AreNets}
use Rattle.net_parts.specs.Laws.{extends_twice, net_lasts, adds_twice}
use Rattle.item_queues.specs.Queues.{IsQueueMade, StepsQueue}
use Rattle.item_queues.specs.Laws.{queue_lasts}
use Rattle.stage_core.specs.Lasting.{beat_lasts}
use Rattle.stage_core.specs.BeatPlaces.{place_are}
use Rattle.net_parts.specs.Memories.{waits_where_same}
use Rattle.st_timing.proofs.Moving.{moving_high}
use Rattle.st_timing.proofs.allowance_nets.AllowanceBufferStage.emit_backward.Goals as goal

pub is_below_two-requires-clause-count : goal.is_below_two-requires-clause-count
is_below_two-requires-clause-count c = c.requires.kept.stored.made.count_net

pub is_below_two-requires-clause-wide : goal.is_below_two-requires-clause-wide
is_below_two-requires-clause-wide c = let wide = c.requires.kept.stored.made.wide in let bound = c.requires.kept.stored.bound in omega (arith, wide, bound)

pub transfers-requires-clause-valid : goal.transfers-requires-clause-valid
transfers-requires-clause-valid c = net_lasts _ _ _ _ c.is_below_two.ensures.adds.grows.extends c.requires.kept.stored.shown

pub transfers-requires-clause-ready : goal.transfers-requires-clause-ready
transfers-requires-clause-ready c = net_lasts _ _ _ _ c.is_below_two.ensures.adds.grows.extends c.requires.ready

pub finish_queue-requires : goal.finish_queue-requires
finish_queue-requires c =
    let made = adds_twice _ _ _ _ _ c.is_below_two.ensures.adds c.transfers.ensures.adds in
    let all = made.grows.extends in (
      lit< tt,
      (
        lit< tt,
        (
          lit< tt,
          (
            subst (λ (place : PlaceNets 6). IsQueueMade c.transfers.new.builder place.item c.args.kept.stored.queue) (sym c.place.ensures) (queue_lasts _ _ _ _ c.requires.kept.stored.made all),
            (
              subst (λ (place : PlaceNets 6). AreNets c.transfers.new.builder place.item) (sym c.place.ensures) (place_are _ _ (beat_lasts _ _ _ all c.requires.kept.stored.from)).item,
              (
                net_lasts _ _ _ _ all c.requires.kept.stored.from.valid,
                (c.in_ok-goes.ensures.net, ((λ n o. made.grows.waits n (c.requires.kept.stored.wait n o)), (λ m o. waits_where_same _ _ made.grows.memories m (c.requires.kept.stored.wait_for_write m o)))),
              ),
            ),
          ),
        ),
      ),
    )

pub returns-clause-net : goal.returns-clause-net
returns-clause-net c = net_lasts _ _ _ _ (extends_twice _ _ _ c.transfers.ensures.adds.grows.extends c.finish_queue.ensures.grows.extends) c.in_ok-up.ensures.net

pub returns-clause-made : goal.returns-clause-made
returns-clause-made c =
    let last = c.finish_queue.ensures.grows.extends in
    let all = extends_twice _ _ _ c.transfers.ensures.adds.grows.extends last in
    record {
      goes = c.in_ok-goes.goes;
      asks = λ cycle v. c.in_ok-up.ensures.value cycle (all.valuations cycle v);
      gives = λ cycle v. ap (λ n. n == 1) (c.in_ok-goes.ensures.value cycle (last.valuations cycle v)) ∙ moving_high 0 (cycle.net c.args.kept.stored.shown.number) (cycle.net c.args.ready.number);
      steps = subst (λ (place : PlaceNets 6). StepsQueue c.finish_queue.new.builder c.args.kept.stored.queue place.item c.args.kept.stored.from.valid c.in_ok-goes.goes) c.place.ensures c.in_ok-finish_queue.ensures.steps;
    }

pub returns-clause-no_more_wait : goal.returns-clause-no_more_wait
returns-clause-no_more_wait c n w =
    let made = adds_twice _ _ _ _ _ c.is_below_two.ensures.adds c.transfers.ensures.adds in
    let set = c.in_ok-finish_queue.ensures.no_more_wait n w in
    (made.grows.no_more_wait n set.0, set.1)
