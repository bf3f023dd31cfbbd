use Rattle.std.proofs.Common.{◌==◌, sym, subst, ap, ◌∙◌, inl, inr, lit<, arith}
use Rattle.net_parts.specs.declared.places.PlaceNets.{PlaceNets}
use Rattle.net_parts.specs.Groups.{AreNets}
use Rattle.net_parts.specs.Laws.{extends_twice, net_lasts, adds_twice, adds_grow, grows_twice, grows_without_memory, memory_grows_twice}
use Rattle.item_queues.specs.Queues.{IsQueueMade, StepsQueue}
use Rattle.item_queues.specs.Laws.{queue_lasts}
use Rattle.stage_core.specs.Lasting.{beat_lasts}
use Rattle.stage_core.specs.BeatPlaces.{place_are}
use Rattle.net_parts.specs.Memories.{waits_where_same, memory_grows_fewer}
use Rattle.stage_core.specs.Refusing.{handed_on}
use Rattle.st_timing.specs.PromiseNets.{promises_last, going_lasts}
use Rattle.st_timing.proofs.Moving.{moving_high}
use Rattle.st_timing.proofs.buffer_nets.ReadyBufferStage.emit_backward.Goals as goal

pub has_free-requires : goal.has_free-requires
has_free-requires c = c.requires.kept.promises.free

pub transfers-requires-clause-valid : goal.transfers-requires-clause-valid
transfers-requires-clause-valid c = net_lasts _ _ _ _ c.has_free.ensures.adds.grows.extends c.requires.kept.stored.shown

pub transfers-requires-clause-ready : goal.transfers-requires-clause-ready
transfers-requires-clause-ready c = net_lasts _ _ _ _ c.has_free.ensures.adds.grows.extends c.requires.ready

pub finish_promises-requires-clause-some : goal.finish_promises-requires-clause-some
finish_promises-requires-clause-some c = c.args.kept.some

pub finish_promises-requires-clause-promises : goal.finish_promises-requires-clause-promises
finish_promises-requires-clause-promises c =
    let made = adds_twice _ _ _ _ _ c.has_free.ensures.adds c.transfers.ensures.adds in
    promises_last _ _ _ _ c.requires.kept.promises made.grows.extends (λ n o w. made.grows.waits n w)

pub finish_promises-requires-clause-promised : goal.finish_promises-requires-clause-promised
finish_promises-requires-clause-promised c = net_lasts _ _ _ _ c.transfers.ensures.adds.grows.extends c.in_ok-up.ensures.net

pub finish_promises-requires-clause-comes : goal.finish_promises-requires-clause-comes
finish_promises-requires-clause-comes c = net_lasts _ _ _ _ (extends_twice _ _ _ c.has_free.ensures.adds.grows.extends c.transfers.ensures.adds.grows.extends) c.requires.kept.stored.from.valid

pub finish_promises-requires-clause-goes : goal.finish_promises-requires-clause-goes
finish_promises-requires-clause-goes c = c.in_ok-goes.ensures.net

pub finish_queue-requires : goal.finish_queue-requires
finish_queue-requires c =
    let made = adds_twice _ _ _ _ _ c.has_free.ensures.adds c.transfers.ensures.adds in
    let all = extends_twice _ _ _ made.grows.extends c.finish_promises.ensures.grows.extends in
    let same = c.finish_promises.ensures.grows.memories ∙ made.grows.memories in (
      lit< tt,
      (
        lit< tt,
        (
          lit< tt,
          (
            subst (λ (place : PlaceNets 6). IsQueueMade c.finish_promises.new.builder place.item c.args.kept.stored.queue) (sym c.place.ensures) (queue_lasts _ _ _ _ c.requires.kept.stored.made all),
            (
              subst (λ (place : PlaceNets 6). AreNets c.finish_promises.new.builder place.item) (sym c.place.ensures) (place_are _ _ (beat_lasts _ _ _ all c.requires.kept.stored.from)).item,
              (
                net_lasts _ _ _ _ all c.requires.kept.stored.from.valid,
                (
                  net_lasts _ _ _ _ c.finish_promises.ensures.grows.extends c.in_ok-goes.ensures.net,
                  (
                    (λ n o. c.finish_promises.ensures.waits n (c.requires.kept.apart n o) (made.grows.waits n (c.requires.kept.stored.wait n o))),
                    (λ m o. waits_where_same _ _ same m (c.requires.kept.stored.wait_for_write m o)),
                  ),
                ),
              ),
            ),
          ),
        ),
      ),
    )

pub returns-clause-net : goal.returns-clause-net
returns-clause-net c = net_lasts _ _ _ _ (extends_twice _ _ _ c.transfers.ensures.adds.grows.extends (extends_twice _ _ _ c.finish_promises.ensures.grows.extends c.finish_queue.ensures.grows.extends)) c.in_ok-up.ensures.net

pub returns-clause-made : goal.returns-clause-made
returns-clause-made c =
    let last = c.finish_queue.ensures.grows.extends in
    let set = extends_twice _ _ _ c.finish_promises.ensures.grows.extends last in
    let all = extends_twice _ _ _ c.transfers.ensures.adds.grows.extends set in
    record {
      goes = c.in_ok-goes.goes;
      asks = λ cycle v. c.in_ok-up.ensures.value cycle (all.valuations cycle v);
      gives = λ cycle v. ap (λ n. n == 1) (c.in_ok-goes.ensures.value cycle (set.valuations cycle v)) ∙ moving_high 0 (cycle.net c.args.kept.stored.shown.number) (cycle.net c.args.ready.number);
      promises = going_lasts _ _ _ _ _ _ _ c.in_ok-finish_promises.ensures.on last;
      steps = subst (λ (place : PlaceNets 6). StepsQueue c.finish_queue.new.builder c.args.kept.stored.queue place.item c.args.kept.stored.from.valid c.in_ok-goes.goes) c.place.ensures c.in_ok-finish_queue.ensures.steps;
    }

pub returns-clause-no_more_wait : goal.returns-clause-no_more_wait
returns-clause-no_more_wait c n w =
    let made = adds_twice _ _ _ _ _ c.has_free.ensures.adds c.transfers.ensures.adds in
    let queue = c.in_ok-finish_queue.ensures.no_more_wait n w in
    let own = c.in_ok-finish_promises.ensures.no_more_wait n queue.0 in
    (made.grows.no_more_wait n own.0, λ o. elim o [ inl q ↦ queue.1 q | inr p ↦ own.1 p ])

pub returns-in_err-up-clause-waits : goal.returns-in_err-up-clause-waits
returns-in_err-up-clause-waits c n apart w = c.has_free.ensures.adds.grows.waits n w

pub returns-in_err-goes-clause-waits : goal.returns-in_err-goes-clause-waits
returns-in_err-goes-clause-waits c n apart w = c.transfers.ensures.adds.grows.waits n (c.has_free.ensures.adds.grows.waits n w)

pub returns-in_err-finish_promises-clause-waits : goal.returns-in_err-finish_promises-clause-waits
returns-in_err-finish_promises-clause-waits c n apart w = c.finish_promises.ensures.waits n (λ p. apart (inr p)) (c.transfers.ensures.adds.grows.waits n (c.has_free.ensures.adds.grows.waits n w))

pub returns-in_err-finish_queue-clause-waits : goal.returns-in_err-finish_queue-clause-waits
returns-in_err-finish_queue-clause-waits c n apart w =
    c.finish_queue.ensures.waits n (λ q. apart (inl q)) (c.finish_promises.ensures.waits n (λ p. apart (inr p)) (c.transfers.ensures.adds.grows.waits n (c.has_free.ensures.adds.grows.waits n w)))

pub returns-clause-waits : goal.returns-clause-waits
returns-clause-waits c n apart w =
    c.finish_queue.ensures.waits n (λ q. apart (inl q)) (c.finish_promises.ensures.waits n (λ p. apart (inr p)) (c.transfers.ensures.adds.grows.waits n (c.has_free.ensures.adds.grows.waits n w)))

pub returns-clause-written : goal.returns-clause-written
returns-clause-written c =
    let made = adds_twice _ _ _ _ _ c.has_free.ensures.adds c.transfers.ensures.adds in
    let same = c.finish_promises.ensures.grows.memories ∙ made.grows.memories in
    record {
      others = λ m apart w. c.finish_queue.ensures.still_wait_for_write m apart (waits_where_same _ _ same m w);
      settled = λ m w. (let set = c.in_ok-finish_queue.ensures.no_more_write m w in (waits_where_same _ _ (sym same) m set.0, set.1));
    }

pub returns-in_err-up-clause-grows : goal.returns-in_err-up-clause-grows
returns-in_err-up-clause-grows c = memory_grows_fewer _ _ _ _ _ _ (omega arith) (omega arith) (grows_without_memory _ _ _ (adds_grow _ _ _ c.has_free.ensures.adds))

pub returns-in_err-goes-clause-grows : goal.returns-in_err-goes-clause-grows
returns-in_err-goes-clause-grows c = memory_grows_fewer _ _ _ _ _ _ (omega arith) (omega arith) (grows_without_memory _ _ _ (adds_grow _ _ _ (adds_twice _ _ _ _ _ c.has_free.ensures.adds c.transfers.ensures.adds)))

pub returns-in_err-finish_promises-clause-grows : goal.returns-in_err-finish_promises-clause-grows
returns-in_err-finish_promises-clause-grows c =
    memory_grows_fewer _ _ _ _ _ _ (omega arith) (omega arith) (grows_without_memory _ _ _ (grows_twice _ _ _ _ _ (adds_grow _ _ _ (adds_twice _ _ _ _ _ c.has_free.ensures.adds c.transfers.ensures.adds)) c.finish_promises.ensures.grows))

pub returns-in_err-finish_queue-clause-grows : goal.returns-in_err-finish_queue-clause-grows
returns-in_err-finish_queue-clause-grows c =
    memory_grows_twice _ _ _ _ _ _ _ (grows_without_memory _ _ _ (grows_twice _ _ _ _ _ (adds_grow _ _ _ (adds_twice _ _ _ _ _ c.has_free.ensures.adds c.transfers.ensures.adds)) c.finish_promises.ensures.grows)) c.finish_queue.ensures.grows

pub returns-clause-grows : goal.returns-clause-grows
returns-clause-grows c =
    memory_grows_twice _ _ _ _ _ _ _ (grows_without_memory _ _ _ (grows_twice _ _ _ _ _ (adds_grow _ _ _ (adds_twice _ _ _ _ _ c.has_free.ensures.adds c.transfers.ensures.adds)) c.finish_promises.ensures.grows)) c.finish_queue.ensures.grows

pub returns-in_err-up-clause-full : goal.returns-in_err-up-clause-full
returns-in_err-up-clause-full c e = let full = c.has_free.ensures.full (handed_on _ _ _ _ c.in_err-up.was c.from_residual.ensures.1 e) in omega (arith, full)

pub returns-in_err-goes-clause-full : goal.returns-in_err-goes-clause-full
returns-in_err-goes-clause-full c e =
    let most = c.has_free.ensures.adds.most in
    let full = c.transfers.ensures.full (handed_on _ _ _ _ c.in_err-goes.was c.from_residual-in_err-goes.ensures.1 e) in
    omega (arith, most, full)

pub returns-in_err-finish_promises-clause-full : goal.returns-in_err-finish_promises-clause-full
returns-in_err-finish_promises-clause-full c e =
    let most = c.has_free.ensures.adds.most in
    let more = c.transfers.ensures.adds.most in
    let full = c.finish_promises.ensures.full (handed_on _ _ _ _ c.in_err-finish_promises.was c.from_residual-in_err-finish_promises.ensures.1 e) in
    omega (arith, most, more, full)

pub returns-in_err-finish_queue-clause-full : goal.returns-in_err-finish_queue-clause-full
returns-in_err-finish_queue-clause-full c e =
    let most = c.has_free.ensures.adds.most in
    let more = c.transfers.ensures.adds.most in
    let rest = c.finish_promises.ensures.grows.most in
    let full = c.finish_queue.ensures.full (handed_on _ _ _ _ c.in_err-finish_queue.was c.from_residual-in_err-finish_queue.ensures.1 e) in
    omega (arith, most, more, rest, full)

pub returns-clause-full : goal.returns-clause-full
returns-clause-full c e = cc
