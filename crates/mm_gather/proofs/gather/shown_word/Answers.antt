use Rattle.std.proofs.Common.{lit<}
use Rattle.item_queues.specs.Laws.{queue_lasts}
use Rattle.mm_gather.proofs.gather.shown_word.Goals as goal

pub show_oldest-requires : goal.show_oldest-requires
show_oldest-requires c =
    let e = c.comes_now.ensures.adds.grows.extends in (
      lit< tt,
      (
        lit< tt,
        (
          lit< tt,
          (
            queue_lasts _ _ _ _ c.requires.words e,
            record { full = c.in_ok-comes.ensures.net; item = (e.nets _ _ c.requires.answer.word.is_net, (e.nets _ _ c.requires.answer.code.is_net, tt)) },
          ),
        ),
      ),
    )

pub returns-clause-comes_is : goal.returns-clause-comes_is
returns-clause-comes_is c cycle v = c.in_ok-comes.ensures.value cycle (c.show_oldest.ensures.adds.grows.extends.valuations cycle v)
