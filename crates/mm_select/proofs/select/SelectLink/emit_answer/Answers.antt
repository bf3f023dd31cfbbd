use Rattle.std.proofs.Common.{◌∙◌, sym, refl, lit<, arith}
use Rattle.net_parts.specs.Laws.{net_lasts, extends_twice, adds_twice, adds_grow, grows_without_memory, memory_grows_twice}
use Rattle.net_parts.specs.Memories.{memory_grows_fewer, waits_where_same}
use Rattle.item_queues.specs.Laws.{queue_lasts}
use Rattle.mm_select.specs.Queue.{taking_lasts}
use Rattle.mm_select.specs.Laws.{sizes_times, word_size_few, word_size_some}
use Rattle.mm_select.proofs.select.SelectLink.emit_answer.Goals as goal

pub take_oldest-requires-clause-queue : goal.take_oldest-requires-clause-queue
take_oldest-requires-clause-queue c = queue_lasts _ _ _ _ c.requires.kept.queue c.either.ensures.adds.grows.extends

pub take_oldest-requires-clause-few_places : goal.take_oldest-requires-clause-few_places
take_oldest-requires-clause-few_places c = c.requires.kept.few

pub take_oldest-requires-clause-wide : goal.take_oldest-requires-clause-wide
take_oldest-requires-clause-wide c =
    let word = net_lasts _ _ _ _ c.either.ensures.adds.grows.extends c.requires.answer.word in
    record { is_net = word.is_net; has_width = c.requires.words ∙ sym (sizes_times _ _ _ c.requires.kept.ratio) }

pub take_oldest-requires-clause-few : goal.take_oldest-requires-clause-few
take_oldest-requires-clause-few c =
    let size = sizes_times _ _ _ c.requires.kept.ratio in
    let few = word_size_few _ c.requires.kept.is.wide in
    omega (arith, size, few)

pub take_oldest-requires-clause-width : goal.take_oldest-requires-clause-width
take_oldest-requires-clause-width c = let some = word_size_some _ c.requires.kept.is.narrow in omega (arith, some)

pub take_oldest-requires-clause-place : goal.take_oldest-requires-clause-place
take_oldest-requires-clause-place c = c.either.ensures.adds.grows.extends.nets _ _ c.requires.kept.place

pub asks_now-requires-clause-read : goal.asks_now-requires-clause-read
asks_now-requires-clause-read c = net_lasts _ _ _ _ (adds_twice _ _ _ _ _ c.either.ensures.adds c.take_oldest.ensures.adds).grows.extends c.requires.kept.read

pub asks_now-requires-clause-write : goal.asks_now-requires-clause-write
asks_now-requires-clause-write c = net_lasts _ _ _ _ (adds_twice _ _ _ _ _ c.either.ensures.adds c.take_oldest.ensures.adds).grows.extends c.requires.kept.write

pub asks_now-requires-clause-wait : goal.asks_now-requires-clause-wait
asks_now-requires-clause-wait c = net_lasts _ _ _ _ (adds_twice _ _ _ _ _ c.either.ensures.adds c.take_oldest.ensures.adds).grows.extends c.requires.wait

pub goes_now-requires-clause-count : goal.goes_now-requires-clause-count
goes_now-requires-clause-count c = (adds_twice _ _ _ _ _ (adds_twice _ _ _ _ _ c.either.ensures.adds c.take_oldest.ensures.adds) c.asks_now.ensures.adds).grows.extends.nets _ _ c.requires.kept.queue.count_net

pub goes_now-requires-clause-valid : goal.goes_now-requires-clause-valid
goes_now-requires-clause-valid c = net_lasts _ _ _ _ (adds_twice _ _ _ _ _ (adds_twice _ _ _ _ _ c.either.ensures.adds c.take_oldest.ensures.adds) c.asks_now.ensures.adds).grows.extends c.requires.answer.valid

pub finish_queue-requires : goal.finish_queue-requires
finish_queue-requires c =
    let all = (adds_twice _ _ _ _ _ (adds_twice _ _ _ _ _ (adds_twice _ _ _ _ _ c.either.ensures.adds c.take_oldest.ensures.adds) c.asks_now.ensures.adds) c.goes_now.ensures.adds).grows in (
      lit< tt,
      (
        lit< tt,
        (
          lit< tt,
          (
            queue_lasts _ _ _ _ c.requires.kept.queue all.extends,
            (
              (all.extends.nets _ _ c.requires.kept.place, tt),
              (
                net_lasts _ _ _ _ c.goes_now.ensures.adds.grows.extends c.in_ok-asks.ensures.net,
                (
                  c.in_ok-goes.ensures.net,
                  (
                    (λ n o. all.waits n (c.requires.kept.waits n o)),
                    (λ m o. waits_where_same _ _ all.memories m (c.requires.kept.waits_for_write m o)),
                  ),
                ),
              ),
            ),
          ),
        ),
      ),
    )

-- ---- what stands then

pub returns-clause-wait : goal.returns-clause-wait
returns-clause-wait c =
    let last = c.finish_queue.ensures.grows.extends in
    let two = extends_twice _ _ _ c.goes_now.ensures.adds.grows.extends last in
    let three = extends_twice _ _ _ c.asks_now.ensures.adds.grows.extends two in
    net_lasts _ _ _ _ (extends_twice _ _ _ c.take_oldest.ensures.adds.grows.extends three) c.in_ok-up.ensures.net

pub returns-clause-answer : goal.returns-clause-answer
returns-clause-answer c =
    let last = c.finish_queue.ensures.grows.extends in
    let all = extends_twice _ _ _ (adds_twice _ _ _ _ _ (adds_twice _ _ _ _ _ (adds_twice _ _ _ _ _ c.either.ensures.adds c.take_oldest.ensures.adds) c.asks_now.ensures.adds) c.goes_now.ensures.adds).grows.extends last in
    let two = extends_twice _ _ _ c.goes_now.ensures.adds.grows.extends last in
    record {
      valid = net_lasts _ _ _ _ all c.requires.answer.valid;
      word = net_lasts _ _ _ _ (extends_twice _ _ _ c.asks_now.ensures.adds.grows.extends two) c.in_ok-word.ensures.net;
      code = net_lasts _ _ _ _ all c.requires.answer.code;
    }

pub returns-clause-made : goal.returns-clause-made
returns-clause-made c =
    let last = c.finish_queue.ensures.grows.extends in
    let two = extends_twice _ _ _ c.goes_now.ensures.adds.grows.extends last in
    let three = extends_twice _ _ _ c.asks_now.ensures.adds.grows.extends two in
    let four = extends_twice _ _ _ c.take_oldest.ensures.adds.grows.extends three in
    record {
      waits = λ cycle v. c.in_ok-up.ensures.value cycle (four.valuations cycle v);
      valid_is = refl;
      code_is = refl;
      asks = c.in_ok-asks.asks;
      goes = c.in_ok-goes.goes;
      asks_bit = net_lasts _ _ _ _ two c.in_ok-asks.ensures.net;
      goes_bit = net_lasts _ _ _ _ last c.in_ok-goes.ensures.net;
      asks_is = λ cycle v. c.in_ok-asks.ensures.value cycle (two.valuations cycle v);
      goes_is = λ cycle v. c.in_ok-goes.ensures.value cycle (last.valuations cycle v);
      takes = taking_lasts _ _ _ _ _ _ c.in_ok-word.ensures.value three;
      moves = c.in_ok-finish_queue.ensures.steps;
    }

-- ---- what grows and what waits

pub returns-in_err-finish_queue-clause-grows : goal.returns-in_err-finish_queue-clause-grows
returns-in_err-finish_queue-clause-grows c = memory_grows_fewer _ _ _ _ _ _ (omega arith) (omega arith) (memory_grows_twice _ _ _ _ _ _ _ (grows_without_memory _ _ _ (adds_grow _ _ _ (adds_twice _ _ _ _ _ (adds_twice _ _ _ _ _ (adds_twice _ _ _ _ _ c.either.ensures.adds c.take_oldest.ensures.adds) c.asks_now.ensures.adds) c.goes_now.ensures.adds))) c.finish_queue.ensures.grows)

pub returns-in_err-finish_queue-clause-waits : goal.returns-in_err-finish_queue-clause-waits
returns-in_err-finish_queue-clause-waits c n apart w = c.finish_queue.ensures.waits n apart ((adds_twice _ _ _ _ _ (adds_twice _ _ _ _ _ (adds_twice _ _ _ _ _ c.either.ensures.adds c.take_oldest.ensures.adds) c.asks_now.ensures.adds) c.goes_now.ensures.adds).grows.waits n w)

pub returns-clause-grows : goal.returns-clause-grows
returns-clause-grows c = memory_grows_fewer _ _ _ _ _ _ (omega arith) (omega arith) (memory_grows_twice _ _ _ _ _ _ _ (grows_without_memory _ _ _ (adds_grow _ _ _ (adds_twice _ _ _ _ _ (adds_twice _ _ _ _ _ (adds_twice _ _ _ _ _ c.either.ensures.adds c.take_oldest.ensures.adds) c.asks_now.ensures.adds) c.goes_now.ensures.adds))) c.finish_queue.ensures.grows)

pub returns-clause-waits : goal.returns-clause-waits
returns-clause-waits c n apart w = c.finish_queue.ensures.waits n apart ((adds_twice _ _ _ _ _ (adds_twice _ _ _ _ _ (adds_twice _ _ _ _ _ c.either.ensures.adds c.take_oldest.ensures.adds) c.asks_now.ensures.adds) c.goes_now.ensures.adds).grows.waits n w)

pub returns-clause-no_more_wait : goal.returns-clause-no_more_wait
returns-clause-no_more_wait c n w =
    let set = c.in_ok-finish_queue.ensures.no_more_wait n w in
    ((adds_twice _ _ _ _ _ (adds_twice _ _ _ _ _ (adds_twice _ _ _ _ _ c.either.ensures.adds c.take_oldest.ensures.adds) c.asks_now.ensures.adds) c.goes_now.ensures.adds).grows.no_more_wait n set.0, set.1)

pub returns-clause-written : goal.returns-clause-written
returns-clause-written c =
    let same = (adds_twice _ _ _ _ _ (adds_twice _ _ _ _ _ (adds_twice _ _ _ _ _ c.either.ensures.adds c.take_oldest.ensures.adds) c.asks_now.ensures.adds) c.goes_now.ensures.adds).grows.memories in
    record {
      others = λ m apart w. c.finish_queue.ensures.still_wait_for_write m apart (waits_where_same _ _ same m w);
      settled = λ m w. (let set = c.in_ok-finish_queue.ensures.no_more_write m w in (waits_where_same _ _ (sym same) m set.0, set.1));
    }
