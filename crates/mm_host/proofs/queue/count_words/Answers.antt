use Rattle.std.proofs.Common.{◌≡◌, Err, refl, sym, ap, ◌∙◌, inl, inr, arith}
use Rattle.netlist.specs.Nets.{NetValue}
use Rattle.net_parts.specs.Growth.{WaitsWithout, StillWaitForWrite, WriteWaitsWithout}
use Rattle.net_parts.specs.Laws.{net_lasts, memory_grows_twice, on_ok, waiting_within}
use Rattle.net_parts.specs.Refusing.{handed_on}
use Rattle.item_queues.specs.Queues.{owns_memories}
use Rattle.mm_host.specs.Queued.{owns_words}
use Rattle.mm_host.proofs.Memories.{memory_grows_fewer, write_within}
use Rattle.mm_host.proofs.queue.count_words.Goals as goal

pub hold_words-requires-clause-count : goal.hold_words-requires-clause-count
hold_words-requires-clause-count c = c.requires.count.is_net

pub move_words-requires-clause-count : goal.move_words-requires-clause-count
move_words-requires-clause-count c = net_lasts _ _ _ _ c.hold_words.ensures.grows.extends (record { is_net = c.requires.count.is_net; has_width = c.requires.count.has_width ∙ sym c.count_bits-bits.ensures.bits })

pub move_words-requires-clause-unanswered : goal.move_words-requires-clause-unanswered
move_words-requires-clause-unanswered c = c.hold_words.ensures.grows.extends.nets _ _ c.requires.unanswered.is_net

pub move_words-requires-clause-held : goal.move_words-requires-clause-held
move_words-requires-clause-held c = c.in-Ok.ensures.held

pub move_words-requires-clause-taken : goal.move_words-requires-clause-taken
move_words-requires-clause-taken c = net_lasts _ _ _ _ c.hold_words.ensures.grows.extends c.requires.taken

pub move_words-requires-clause-valid : goal.move_words-requires-clause-valid
move_words-requires-clause-valid c = net_lasts _ _ _ _ c.hold_words.ensures.grows.extends c.requires.valid

pub move_words-requires-clause-waits : goal.move_words-requires-clause-waits
move_words-requires-clause-waits c = c.in-Ok.ensures.own_wait

pub move_words-requires-clause-waits_for_write : goal.move_words-requires-clause-waits_for_write
move_words-requires-clause-waits_for_write c = c.in-Ok.ensures.own_wait_for_write

pub returns-in-Ok-clause-grows : goal.returns-in-Ok-clause-grows
returns-in-Ok-clause-grows c = memory_grows_twice _ _ _ _ _ _ _ c.hold_words.ensures.grows c.move_words.ensures.grows

pub returns-in-Ok-clause-waits : goal.returns-in-Ok-clause-waits
returns-in-Ok-clause-waits c n apart w =
    c.move_words.ensures.waits n
    (λ o. elim (c.in-Ok.ensures.owned n o) [ inl e ↦ apart e | inr later ↦ (let before = waiting_within _ n w in omega (arith, later, before)) ])
    (c.hold_words.ensures.still_wait n w)

pub returns-in-Ok-clause-no_more_wait : goal.returns-in-Ok-clause-no_more_wait
returns-in-Ok-clause-no_more_wait c =
    on_ok c.move_words.result (WaitsWithout (owns_words c.in-Ok.held) c.hold_words.new.builder c.move_words.new.builder) (WaitsWithout (λ n. n ≡ c.args.unanswered.number) c.args.builder.now c.move_words.new.builder)
    (λ moved n w. (
      elim (c.in-Ok.ensures.newly n (moved n w).0) [ inl old ↦ old | inr own ↦ absurd ((moved n w).1 own) ],
      λ e. (moved n w).1 (inl (inl (e ∙ sym (ap (λ (net : NetValue). net.number) c.in-Ok.ensures.held.count_is)))),
    ))
    c.move_words.ensures.no_more_wait

pub returns-in-Ok-clause-still_wait_for_write : goal.returns-in-Ok-clause-still_wait_for_write
returns-in-Ok-clause-still_wait_for_write c m w =
    c.move_words.ensures.still_wait_for_write m (λ o. (let own = c.in-Ok.ensures.owned_memories m o in let before = write_within _ m w in omega (arith, own, before)))
    (c.hold_words.ensures.still_wait_for_write m w)

pub returns-in-Ok-clause-no_more_wait_for_write : goal.returns-in-Ok-clause-no_more_wait_for_write
returns-in-Ok-clause-no_more_wait_for_write c =
    on_ok c.move_words.result (WriteWaitsWithout (owns_memories c.in-Ok.held.queue) c.hold_words.new.builder c.move_words.new.builder) (StillWaitForWrite c.move_words.new.builder c.args.builder.now)
    (λ moved m w. elim (c.in-Ok.ensures.newly_written m (moved m w).0) [ inl old ↦ old | inr own ↦ absurd ((moved m w).1 own) ])
    c.move_words.ensures.no_more_write

pub returns-in-Ok-clause-full : goal.returns-in-Ok-clause-full
returns-in-Ok-clause-full c e =
    let most = c.hold_words.ensures.grows.most in
    let full = c.move_words.ensures.full e in
    inl (omega (arith, most, full))

pub returns-in-Err-clause-grows : goal.returns-in-Err-clause-grows
returns-in-Err-clause-grows c = memory_grows_fewer _ _ _ _ _ _ (omega arith) (omega arith) c.hold_words.ensures.grows

pub returns-in-Err-clause-waits : goal.returns-in-Err-clause-waits
returns-in-Err-clause-waits c n apart w = c.hold_words.ensures.still_wait n w

pub returns-in-Err-clause-full : goal.returns-in-Err-clause-full
returns-in-Err-clause-full c e =
    elim (c.hold_words.ensures.full (handed_on c.hold_words.result (Err c.in-Err.fault) c.in-Err.fault _ c.in-Err.is refl e)) [ inl full ↦ inl (omega (arith, full)) | inr full ↦ inr full ]
