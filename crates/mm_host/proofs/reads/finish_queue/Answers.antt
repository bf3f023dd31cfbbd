use Rattle.std.proofs.Common.{◌||◌, length, sym, ap, ◌∙◌, inl, inr, arith}
use Rattle.netlist.specs.declared.line.Memory.{Memory}
use Rattle.histories.specs.History.{is_raised}
use Rattle.net_parts.specs.Laws.{extends_twice, net_lasts, adds_twice, adds_grow, grows_without_memory, memory_grows_twice}
use Rattle.net_parts.specs.Refusing.{handed_on}
use Rattle.mm_host.proofs.Memories.{memory_grows_fewer, writes_wait_alike}
use Rattle.mm_host.proofs.reads.finish_queue.Goals as goal

pub both-requires-clause-a : goal.both-requires-clause-a
both-requires-clause-a c = c.requires.counted.bit

pub both-requires-clause-b : goal.both-requires-clause-b
both-requires-clause-b c = c.requires.read

pub either-requires-clause-a : goal.either-requires-clause-a
either-requires-clause-a c = c.in_ok-shut.ensures.net

pub either-requires-clause-b : goal.either-requires-clause-b
either-requires-clause-b c = net_lasts _ _ _ _ c.both.ensures.adds.grows.extends c.requires.wait

pub unless-requires-clause-a : goal.unless-requires-clause-a
unless-requires-clause-a c = net_lasts _ _ _ _ (extends_twice _ _ _ c.both.ensures.adds.grows.extends c.either.ensures.adds.grows.extends) c.requires.shown

pub unless-requires-clause-b : goal.unless-requires-clause-b
unless-requires-clause-b c = net_lasts _ _ _ _ (extends_twice _ _ _ c.both.ensures.adds.grows.extends c.either.ensures.adds.grows.extends) c.requires.wait

pub count_words-requires-clause-count : goal.count_words-requires-clause-count
count_words-requires-clause-count c = net_lasts _ _ _ _ (extends_twice _ _ _ c.both.ensures.adds.grows.extends (extends_twice _ _ _ c.either.ensures.adds.grows.extends c.unless.ensures.adds.grows.extends)) c.requires.count

pub count_words-requires-clause-unanswered : goal.count_words-requires-clause-unanswered
count_words-requires-clause-unanswered c = net_lasts _ _ _ _ (extends_twice _ _ _ c.both.ensures.adds.grows.extends (extends_twice _ _ _ c.either.ensures.adds.grows.extends c.unless.ensures.adds.grows.extends)) c.requires.counted.net

pub count_words-requires-clause-low : goal.count_words-requires-clause-low
count_words-requires-clause-low c run cycles r = c.requires.counted.starts run cycles ((extends_twice _ _ _ c.both.ensures.adds.grows.extends (extends_twice _ _ _ c.either.ensures.adds.grows.extends c.unless.ensures.adds.grows.extends)).runs run cycles r)

pub count_words-requires-clause-taken : goal.count_words-requires-clause-taken
count_words-requires-clause-taken c = c.in_ok-taken.ensures.net

pub count_words-requires-clause-valid : goal.count_words-requires-clause-valid
count_words-requires-clause-valid c = net_lasts _ _ _ _ (extends_twice _ _ _ c.both.ensures.adds.grows.extends (extends_twice _ _ _ c.either.ensures.adds.grows.extends c.unless.ensures.adds.grows.extends)) c.requires.valid

pub count_words-requires-clause-waits : goal.count_words-requires-clause-waits
count_words-requires-clause-waits c = (c.unless.ensures.adds.grows.waits _ (c.either.ensures.adds.grows.waits _ (c.both.ensures.adds.grows.waits _ c.requires.waits)))

pub returns-clause-told : goal.returns-clause-told
returns-clause-told c = net_lasts _ _ _ _ (extends_twice _ _ _ c.unless.ensures.adds.grows.extends c.count_words.ensures.grows.extends) c.in_ok-told.ensures.net

pub returns-clause-on : goal.returns-clause-on
returns-clause-on c =
    let last = c.count_words.ensures.grows.extends in
    let two = extends_twice _ _ _ c.unless.ensures.adds.grows.extends last in
    let three = extends_twice _ _ _ c.either.ensures.adds.grows.extends two in
    record {
      tells = λ cycle v. c.in_ok-told.ensures.value cycle (two.valuations cycle v) ∙ ap (λ t. t || is_raised (cycle.net c.args.wait.number)) (c.in_ok-shut.ensures.value cycle (three.valuations cycle v));
      taken = c.in_ok-taken.taken;
      taken_bit = net_lasts _ _ _ _ last c.in_ok-taken.ensures.net;
      takes = λ cycle v. c.in_ok-taken.ensures.value cycle (last.valuations cycle v);
      words = c.in_ok-count_words.ensures.on;
    }

pub returns-in_err-shut-clause-grows : goal.returns-in_err-shut-clause-grows
returns-in_err-shut-clause-grows c = memory_grows_fewer _ _ _ _ _ _ (omega arith) (omega arith) (grows_without_memory _ _ _ (adds_grow _ _ _ c.both.ensures.adds))

pub returns-in_err-shut-clause-waits : goal.returns-in_err-shut-clause-waits
returns-in_err-shut-clause-waits c n apart w = c.both.ensures.adds.grows.waits n w

pub returns-in_err-shut-clause-still_wait_for_write : goal.returns-in_err-shut-clause-still_wait_for_write
returns-in_err-shut-clause-still_wait_for_write c m w = writes_wait_alike _ _ (c.both.ensures.adds.grows.memories) m w

pub returns-in_err-shut-clause-full : goal.returns-in_err-shut-clause-full
returns-in_err-shut-clause-full c e =
    let full = c.both.ensures.full (handed_on _ _ _ _ c.in_err-shut.was c.from_residual.ensures.1 e) in
    inl (omega (arith, full))

pub returns-in_err-told-clause-grows : goal.returns-in_err-told-clause-grows
returns-in_err-told-clause-grows c = memory_grows_fewer _ _ _ _ _ _ (omega arith) (omega arith) (grows_without_memory _ _ _ (adds_grow _ _ _ (adds_twice _ _ _ _ _ c.both.ensures.adds c.either.ensures.adds)))

pub returns-in_err-told-clause-waits : goal.returns-in_err-told-clause-waits
returns-in_err-told-clause-waits c n apart w = c.either.ensures.adds.grows.waits n (c.both.ensures.adds.grows.waits n w)

pub returns-in_err-told-clause-still_wait_for_write : goal.returns-in_err-told-clause-still_wait_for_write
returns-in_err-told-clause-still_wait_for_write c m w = writes_wait_alike _ _ (c.either.ensures.adds.grows.memories ∙ c.both.ensures.adds.grows.memories) m w

pub returns-in_err-told-clause-full : goal.returns-in_err-told-clause-full
returns-in_err-told-clause-full c e =
    let most0 = c.both.ensures.adds.most in
    let full = c.either.ensures.full (handed_on _ _ _ _ c.in_err-told.was c.from_residual-in_err-told.ensures.1 e) in
    inl (omega (arith, most0, full))

pub returns-in_err-taken-clause-grows : goal.returns-in_err-taken-clause-grows
returns-in_err-taken-clause-grows c = memory_grows_fewer _ _ _ _ _ _ (omega arith) (omega arith) (grows_without_memory _ _ _ (adds_grow _ _ _ (adds_twice _ _ _ _ _ (adds_twice _ _ _ _ _ c.both.ensures.adds c.either.ensures.adds) c.unless.ensures.adds)))

pub returns-in_err-taken-clause-waits : goal.returns-in_err-taken-clause-waits
returns-in_err-taken-clause-waits c n apart w = c.unless.ensures.adds.grows.waits n (c.either.ensures.adds.grows.waits n (c.both.ensures.adds.grows.waits n w))

pub returns-in_err-taken-clause-still_wait_for_write : goal.returns-in_err-taken-clause-still_wait_for_write
returns-in_err-taken-clause-still_wait_for_write c m w = writes_wait_alike _ _ (c.unless.ensures.adds.grows.memories ∙ c.either.ensures.adds.grows.memories ∙ c.both.ensures.adds.grows.memories) m w

pub returns-in_err-taken-clause-full : goal.returns-in_err-taken-clause-full
returns-in_err-taken-clause-full c e =
    let most0 = c.both.ensures.adds.most in
    let most1 = c.either.ensures.adds.most in
    let full = c.unless.ensures.full (handed_on _ _ _ _ c.in_err-taken.was c.from_residual-in_err-taken.ensures.1 e) in
    inl (omega (arith, most0, most1, full))

pub returns-in_err-count_words-clause-grows : goal.returns-in_err-count_words-clause-grows
returns-in_err-count_words-clause-grows c = memory_grows_fewer _ _ _ _ _ _ (omega arith) (omega arith) (memory_grows_twice _ _ _ _ _ _ _ (grows_without_memory _ _ _ (adds_grow _ _ _ (adds_twice _ _ _ _ _ (adds_twice _ _ _ _ _ c.both.ensures.adds c.either.ensures.adds) c.unless.ensures.adds))) c.count_words.ensures.grows)

pub returns-in_err-count_words-clause-waits : goal.returns-in_err-count_words-clause-waits
returns-in_err-count_words-clause-waits c n apart w = c.count_words.ensures.waits n apart (c.unless.ensures.adds.grows.waits n (c.either.ensures.adds.grows.waits n (c.both.ensures.adds.grows.waits n w)))

pub returns-in_err-count_words-clause-still_wait_for_write : goal.returns-in_err-count_words-clause-still_wait_for_write
returns-in_err-count_words-clause-still_wait_for_write c m w = c.count_words.ensures.still_wait_for_write m (writes_wait_alike _ _ (c.unless.ensures.adds.grows.memories ∙ c.either.ensures.adds.grows.memories ∙ c.both.ensures.adds.grows.memories) m w)

pub returns-clause-grows : goal.returns-clause-grows
returns-clause-grows c = memory_grows_fewer _ _ _ _ _ _ (omega arith) (omega arith) (memory_grows_twice _ _ _ _ _ _ _ (grows_without_memory _ _ _ (adds_grow _ _ _ (adds_twice _ _ _ _ _ (adds_twice _ _ _ _ _ c.both.ensures.adds c.either.ensures.adds) c.unless.ensures.adds))) c.count_words.ensures.grows)

pub returns-clause-waits : goal.returns-clause-waits
returns-clause-waits c n apart w = c.count_words.ensures.waits n apart (c.unless.ensures.adds.grows.waits n (c.either.ensures.adds.grows.waits n (c.both.ensures.adds.grows.waits n w)))

pub returns-clause-still_wait_for_write : goal.returns-clause-still_wait_for_write
returns-clause-still_wait_for_write c m w = c.count_words.ensures.still_wait_for_write m (writes_wait_alike _ _ (c.unless.ensures.adds.grows.memories ∙ c.either.ensures.adds.grows.memories ∙ c.both.ensures.adds.grows.memories) m w)

pub returns-in_err-count_words-clause-full : goal.returns-in_err-count_words-clause-full
returns-in_err-count_words-clause-full c e =
    let most0 = c.both.ensures.adds.most in
    let most1 = c.either.ensures.adds.most in
    let most2 = c.unless.ensures.adds.most in
    let memories = ap (length {A = Memory}) (c.unless.ensures.adds.grows.memories ∙ c.either.ensures.adds.grows.memories ∙ c.both.ensures.adds.grows.memories) in
    elim (c.count_words.ensures.full (handed_on _ _ _ _ c.in_err-count_words.was c.from_residual-in_err-count_words.ensures.1 e)) [
      | inl full ↦ inl (omega (arith, most0, most1, most2, full))
      | inr full ↦ inr (omega (arith, memories, full))
    ]

pub returns-clause-no_more_wait : goal.returns-clause-no_more_wait
returns-clause-no_more_wait c n w =
    let set = c.in_ok-count_words.ensures.no_more_wait n w in
    (c.both.ensures.adds.grows.no_more_wait n (c.either.ensures.adds.grows.no_more_wait n (c.unless.ensures.adds.grows.no_more_wait n set.0)), set.1)

pub returns-clause-no_more_wait_for_write : goal.returns-clause-no_more_wait_for_write
returns-clause-no_more_wait_for_write c m w = writes_wait_alike _ _ (sym (c.unless.ensures.adds.grows.memories ∙ c.either.ensures.adds.grows.memories ∙ c.both.ensures.adds.grows.memories)) m (c.in_ok-count_words.ensures.no_more_wait_for_write m w)

pub returns-clause-full : goal.returns-clause-full
returns-clause-full c e = cc
