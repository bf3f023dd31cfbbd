use Rattle.std.proofs.Common.{◌*◌, ◌∙◌, [], ◌∷◌, sym, ap, arith}
use Rattle.net_parts.specs.Laws.{net_lasts, extends_twice, adds_twice, adds_grow, grows_without_memory, memory_grows_twice}
use Rattle.net_parts.specs.Memories.{memory_grows_fewer, waits_where_same}
use Rattle.item_queues.specs.Laws.{queue_lasts}
use Rattle.mm_select.specs.Laws.{sizes_times, word_size_few}
use Rattle.mm_gather.specs.Reads.{reads_last, giving_lasts}
use Rattle.mm_gather.proofs.Queues.{queue_like, same_counts, reads_as}
use Rattle.mm_gather.proofs.gather.GatherLink.emit_answer.Goals as goal

pub shown_word-requires-clause-entries : goal.shown_word-requires-clause-entries
shown_word-requires-clause-entries c = c.either.ensures.adds.grows.extends.nets _ _ c.requires.kept.held.entries.count_net

pub shown_word-requires-clause-widths : goal.shown_word-requires-clause-widths
shown_word-requires-clause-widths c = same_counts _ _ _ _ _ c.requires.kept.held.words c.requires.kept.held.entries (c.requires.kept.held.words_bound ∙ sym c.requires.kept.held.entries_bound)

pub shown_word-requires-clause-words : goal.shown_word-requires-clause-words
shown_word-requires-clause-words c =
    let bits = ap (λ n. n ∷ c.args.answer.code.width ∷ []) (sym c.requires.words) in
    let code = ap (λ n. c.args.self.now.wide_bytes * 8 ∷ n ∷ []) (sym c.requires.answer.code.has_width) in
    queue_lasts _ _ _ _ (queue_like _ _ _ _ (c.requires.kept.held.widths ∙ code ∙ bits) c.requires.kept.held.words) c.either.ensures.adds.grows.extends

pub shown_word-requires-clause-answer : goal.shown_word-requires-clause-answer
shown_word-requires-clause-answer c =
    let e = c.either.ensures.adds.grows.extends in
    record { valid = net_lasts _ _ _ _ e c.requires.answer.valid; word = net_lasts _ _ _ _ e c.requires.answer.word; code = net_lasts _ _ _ _ e c.requires.answer.code }

pub give_now-requires-clause-held : goal.give_now-requires-clause-held
give_now-requires-clause-held c =
    reads_as _ _ _ _ _ _ _ (reads_last _ _ _ _ _ _ _ c.requires.kept.held (adds_twice _ _ _ _ _ c.either.ensures.adds c.shown_word.ensures.adds).grows.extends) (sym (c.in_ok-shown.ensures.wide.has_width ∙ c.requires.words))

pub give_now-requires-clause-few_bits : goal.give_now-requires-clause-few_bits
give_now-requires-clause-few_bits c =
    let size = sizes_times _ _ _ c.requires.kept.ratio in
    let few = word_size_few _ c.requires.kept.is.wide in
    omega (arith, size, few)

pub asks_now-requires-clause-read : goal.asks_now-requires-clause-read
asks_now-requires-clause-read c = net_lasts _ _ _ _ (adds_twice _ _ _ _ _ (adds_twice _ _ _ _ _ c.either.ensures.adds c.shown_word.ensures.adds) c.give_now.ensures.adds).grows.extends c.requires.kept.read

pub asks_now-requires-clause-write : goal.asks_now-requires-clause-write
asks_now-requires-clause-write c = net_lasts _ _ _ _ (adds_twice _ _ _ _ _ (adds_twice _ _ _ _ _ c.either.ensures.adds c.shown_word.ensures.adds) c.give_now.ensures.adds).grows.extends c.requires.kept.write

pub asks_now-requires-clause-wait : goal.asks_now-requires-clause-wait
asks_now-requires-clause-wait c = net_lasts _ _ _ _ (adds_twice _ _ _ _ _ (adds_twice _ _ _ _ _ c.either.ensures.adds c.shown_word.ensures.adds) c.give_now.ensures.adds).grows.extends c.requires.wait

pub returns-in_err-asks-clause-waits : goal.returns-in_err-asks-clause-waits
returns-in_err-asks-clause-waits c n apart w = (adds_twice _ _ _ _ _ (adds_twice _ _ _ _ _ (adds_twice _ _ _ _ _ c.either.ensures.adds c.shown_word.ensures.adds) c.give_now.ensures.adds) c.asks_now.ensures.adds).grows.waits n w

pub move_reads-requires-clause-held : goal.move_reads-requires-clause-held
move_reads-requires-clause-held c = reads_as _ _ _ _ _ _ _ (reads_last _ _ _ _ _ _ _ c.requires.kept.held (adds_twice _ _ _ _ _ (adds_twice _ _ _ _ _ (adds_twice _ _ _ _ _ c.either.ensures.adds c.shown_word.ensures.adds) c.give_now.ensures.adds) c.asks_now.ensures.adds).grows.extends) (sym c.requires.words)

pub move_reads-requires-clause-place : goal.move_reads-requires-clause-place
move_reads-requires-clause-place c = (adds_twice _ _ _ _ _ (adds_twice _ _ _ _ _ (adds_twice _ _ _ _ _ c.either.ensures.adds c.shown_word.ensures.adds) c.give_now.ensures.adds) c.asks_now.ensures.adds).grows.extends.nets _ _ c.requires.kept.place

pub move_reads-requires-clause-count : goal.move_reads-requires-clause-count
move_reads-requires-clause-count c = (adds_twice _ _ _ _ _ (adds_twice _ _ _ _ _ (adds_twice _ _ _ _ _ c.either.ensures.adds c.shown_word.ensures.adds) c.give_now.ensures.adds) c.asks_now.ensures.adds).grows.extends.nets _ _ c.requires.kept.count.is_net

pub move_reads-requires-clause-word : goal.move_reads-requires-clause-word
move_reads-requires-clause-word c = (adds_twice _ _ _ _ _ (adds_twice _ _ _ _ _ (adds_twice _ _ _ _ _ c.either.ensures.adds c.shown_word.ensures.adds) c.give_now.ensures.adds) c.asks_now.ensures.adds).grows.extends.nets _ _ c.requires.answer.word.is_net

pub move_reads-requires-clause-code : goal.move_reads-requires-clause-code
move_reads-requires-clause-code c = net_lasts _ _ _ _ (adds_twice _ _ _ _ _ (adds_twice _ _ _ _ _ (adds_twice _ _ _ _ _ c.either.ensures.adds c.shown_word.ensures.adds) c.give_now.ensures.adds) c.asks_now.ensures.adds).grows.extends c.requires.answer.code

pub move_reads-requires-clause-comes : goal.move_reads-requires-clause-comes
move_reads-requires-clause-comes c = net_lasts _ _ _ _ (extends_twice _ _ _ c.give_now.ensures.adds.grows.extends c.asks_now.ensures.adds.grows.extends) c.in_ok-shown.ensures.comes

pub move_reads-requires-clause-waits : goal.move_reads-requires-clause-waits
move_reads-requires-clause-waits c n o = (adds_twice _ _ _ _ _ (adds_twice _ _ _ _ _ (adds_twice _ _ _ _ _ c.either.ensures.adds c.shown_word.ensures.adds) c.give_now.ensures.adds) c.asks_now.ensures.adds).grows.waits n (c.requires.kept.waits n o)

pub move_reads-requires-clause-waits_for_write : goal.move_reads-requires-clause-waits_for_write
move_reads-requires-clause-waits_for_write c m o = waits_where_same _ _ (adds_twice _ _ _ _ _ (adds_twice _ _ _ _ _ (adds_twice _ _ _ _ _ c.either.ensures.adds c.shown_word.ensures.adds) c.give_now.ensures.adds) c.asks_now.ensures.adds).grows.memories m (c.requires.kept.waits_for_write m o)

-- ---- what stands then

pub returns-clause-wait : goal.returns-clause-wait
returns-clause-wait c =
    let three = extends_twice _ _ _ c.asks_now.ensures.adds.grows.extends c.move_reads.ensures.grows.extends in
    net_lasts _ _ _ _ (extends_twice _ _ _ (extends_twice _ _ _ c.shown_word.ensures.adds.grows.extends c.give_now.ensures.adds.grows.extends) three) c.in_ok-up.ensures.net

pub returns-clause-answer : goal.returns-clause-answer
returns-clause-answer c =
    let two = extends_twice _ _ _ c.asks_now.ensures.adds.grows.extends c.move_reads.ensures.grows.extends in
    let three = extends_twice _ _ _ c.give_now.ensures.adds.grows.extends two in
    record { valid = net_lasts _ _ _ _ three c.in_ok-shown.ensures.valid; word = net_lasts _ _ _ _ two c.in_ok-given.ensures.net; code = net_lasts _ _ _ _ three c.in_ok-shown.ensures.code }

pub returns-clause-made : goal.returns-clause-made
returns-clause-made c =
    let last = c.move_reads.ensures.grows.extends in
    let two = extends_twice _ _ _ c.asks_now.ensures.adds.grows.extends last in
    let three = extends_twice _ _ _ c.give_now.ensures.adds.grows.extends two in
    let four = extends_twice _ _ _ c.shown_word.ensures.adds.grows.extends three in
    record {
      waits = λ cycle v. c.in_ok-up.ensures.value cycle (four.valuations cycle v);
      comes = c.in_ok-shown.shown.comes;
      wide = c.in_ok-shown.shown.wide;
      asks = c.in_ok-asks.asks;
      last = c.in_ok-given.given.last;
      next = c.in_ok-given.given.next;
      valid_bit = net_lasts _ _ _ _ three c.in_ok-shown.ensures.valid;
      comes_bit = net_lasts _ _ _ _ three c.in_ok-shown.ensures.comes;
      asks_bit = net_lasts _ _ _ _ last c.in_ok-asks.ensures.net;
      last_bit = net_lasts _ _ _ _ two c.in_ok-given.ensures.last;
      comes_is = λ cycle v. c.in_ok-shown.ensures.comes_is cycle (three.valuations cycle v);
      asks_is = λ cycle v. c.in_ok-asks.ensures.value cycle (last.valuations cycle v);
      shows = λ cycle v. c.in_ok-shown.ensures.shows cycle (three.valuations cycle v);
      gives = giving_lasts _ _ _ _ _ _ _ _ _ _ c.in_ok-given.ensures.gives two;
      goes_on = c.in_ok-move_reads.ensures.goes_on;
    }

-- ---- what grows and what waits

pub returns-in_err-move_reads-clause-grows : goal.returns-in_err-move_reads-clause-grows
returns-in_err-move_reads-clause-grows c = memory_grows_fewer _ _ _ _ _ _ (omega arith) (omega arith) (memory_grows_twice _ _ _ _ _ _ _ (grows_without_memory _ _ _ (adds_grow _ _ _ (adds_twice _ _ _ _ _ (adds_twice _ _ _ _ _ (adds_twice _ _ _ _ _ c.either.ensures.adds c.shown_word.ensures.adds) c.give_now.ensures.adds) c.asks_now.ensures.adds))) c.move_reads.ensures.grows)

pub returns-in_err-move_reads-clause-waits : goal.returns-in_err-move_reads-clause-waits
returns-in_err-move_reads-clause-waits c n apart w = c.move_reads.ensures.waits n apart ((adds_twice _ _ _ _ _ (adds_twice _ _ _ _ _ (adds_twice _ _ _ _ _ c.either.ensures.adds c.shown_word.ensures.adds) c.give_now.ensures.adds) c.asks_now.ensures.adds).grows.waits n w)

pub returns-clause-grows : goal.returns-clause-grows
returns-clause-grows c = memory_grows_fewer _ _ _ _ _ _ (omega arith) (omega arith) (memory_grows_twice _ _ _ _ _ _ _ (grows_without_memory _ _ _ (adds_grow _ _ _ (adds_twice _ _ _ _ _ (adds_twice _ _ _ _ _ (adds_twice _ _ _ _ _ c.either.ensures.adds c.shown_word.ensures.adds) c.give_now.ensures.adds) c.asks_now.ensures.adds))) c.move_reads.ensures.grows)

pub returns-clause-waits : goal.returns-clause-waits
returns-clause-waits c n apart w = c.move_reads.ensures.waits n apart ((adds_twice _ _ _ _ _ (adds_twice _ _ _ _ _ (adds_twice _ _ _ _ _ c.either.ensures.adds c.shown_word.ensures.adds) c.give_now.ensures.adds) c.asks_now.ensures.adds).grows.waits n w)

pub returns-clause-no_more_wait : goal.returns-clause-no_more_wait
returns-clause-no_more_wait c n w =
    let set = c.in_ok-move_reads.ensures.no_more_wait n w in
    ((adds_twice _ _ _ _ _ (adds_twice _ _ _ _ _ (adds_twice _ _ _ _ _ c.either.ensures.adds c.shown_word.ensures.adds) c.give_now.ensures.adds) c.asks_now.ensures.adds).grows.no_more_wait n set.0, set.1)

pub returns-clause-written : goal.returns-clause-written
returns-clause-written c =
    let same = (adds_twice _ _ _ _ _ (adds_twice _ _ _ _ _ (adds_twice _ _ _ _ _ c.either.ensures.adds c.shown_word.ensures.adds) c.give_now.ensures.adds) c.asks_now.ensures.adds).grows.memories in
    record {
      others = λ m apart w. c.move_reads.ensures.still_wait_for_write m apart (waits_where_same _ _ same m w);
      settled = λ m w. (let set = c.in_ok-move_reads.ensures.no_more_write m w in (waits_where_same _ _ (sym same) m set.0, set.1));
    }
