use Rattle.std.proofs.Common.{[], ◌∷◌, ◌∙◌, inl, inr, sym, ap, lit<}
use Rattle.net_parts.specs.Laws.{net_lasts, extends_twice, on_ok}
use Rattle.net_parts.specs.Memories.{waits_where_same}
use Rattle.item_queues.specs.Laws.{queue_lasts, steps_last}
use Rattle.mm_gather.proofs.Queues.{queue_like}
use Rattle.mm_gather.proofs.reads.move_reads.Goals as goal

pub finish_queue-requires : goal.finish_queue-requires
finish_queue-requires c =
    let e = c.take_next.ensures.grows.extends in (
      lit< tt,
      (
        lit< tt,
        (
          lit< tt,
          (
            queue_lasts _ _ _ _ c.requires.held.entries e,
            (
              (e.nets _ _ c.requires.place, (e.nets _ _ c.requires.count, tt)),
              (
                net_lasts _ _ _ _ e c.requires.asks,
                (
                  net_lasts _ _ _ _ e c.requires.last,
                  (
                    (λ n o. c.take_next.ensures.still_wait n (c.requires.held.given_apart n (inl o)) (c.requires.waits n (inl (inl o)))),
                    (λ m o. waits_where_same _ _ c.take_next.ensures.grows.memories m (c.requires.waits_for_write m (inl o))),
                  ),
                ),
              ),
            ),
          ),
        ),
      ),
    )

pub finish_queue-requires-2 : goal.finish_queue-requires-2
finish_queue-requires-2 c =
    let e = extends_twice _ _ _ c.take_next.ensures.grows.extends c.finish_queue.ensures.grows.extends in
    let same = c.requires.held.widths ∙ ap (λ n. c.args.by.now.word.width ∷ n ∷ []) (sym c.requires.code.has_width) in (
      lit< tt,
      (
        lit< tt,
        (
          lit< tt,
          (
            queue_lasts _ _ _ _ (queue_like _ _ _ _ same c.requires.held.words) e,
            (
              (e.nets _ _ c.requires.word, (e.nets _ _ c.requires.code.is_net, tt)),
              (
                net_lasts _ _ _ _ e c.requires.comes,
                (
                  net_lasts _ _ _ _ e c.requires.last,
                  (
                    (λ n o. c.finish_queue.ensures.waits n (λ p. c.requires.held.apart n p o) (c.take_next.ensures.still_wait n (c.requires.held.given_apart n (inr o)) (c.requires.waits n (inl (inr o))))),
                    (λ m o. c.finish_queue.ensures.still_wait_for_write m (λ p. c.requires.held.memories_apart m p o) (waits_where_same _ _ c.take_next.ensures.grows.memories m (c.requires.waits_for_write m (inr o)))),
                  ),
                ),
              ),
            ),
          ),
        ),
      ),
    )

pub returns-clause-goes_on : goal.returns-clause-goes_on
returns-clause-goes_on c =
    let last = c.finish_queue-2.ensures.grows.extends in
    on_ok c.finish_queue-2.result _ _
    (λ steps. record {
      enters = steps_last _ _ _ _ _ _ c.in_ok-finish_queue.ensures.steps last;
      arrives = steps;
      counts = λ run cycles r. c.take_next.ensures.value run cycles ((extends_twice _ _ _ c.finish_queue.ensures.grows.extends last).runs run cycles r);
    })
    c.finish_queue-2.ensures.steps

pub returns-clause-no_more_wait : goal.returns-clause-no_more_wait
returns-clause-no_more_wait c =
    on_ok c.finish_queue-2.result _ _
    (λ without n w. (
    let second = without n w in
    let first = c.in_ok-finish_queue.ensures.no_more_wait n second.0 in
    let set = c.take_next.ensures.no_more_wait n first.0 in
    (set.0, λ o. elim o [ inl p ↦ (elim p [ inl one ↦ first.1 one | inr other ↦ second.1 other ]) | inr e ↦ set.1 e ])))
    c.finish_queue-2.ensures.no_more_wait
