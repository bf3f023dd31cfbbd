use Rattle.std.proofs.Common.{List, ◌<◌, ◌∙◌, length, inl, inr, sym, subst, arith}
use Rattle.netlist.specs.Netlists.{IsWaiting}
use Rattle.net_parts.specs.Laws.{extends_twice}
use Rattle.netlist.specs.declared.line.Memory.{Memory}
use Rattle.net_parts.specs.Memories.{MemoriesCome, come_twice, waits_where_same}
use Rattle.item_queues.specs.Queues.{owns_memories}
use Rattle.item_queues.specs.Laws.{queue_lasts}
use Rattle.mm_gather.proofs.reads.hold_reads.Goals as goal

pub returns-clause-held : goal.returns-clause-held
returns-clause-held c =
    let last = c.register.ensures.grows.extends in
    let later = extends_twice _ _ _ c.hold_words.ensures.grows.extends last in
    let number = c.in_ok-given.ensures.number in
    let grown = c.hold_words.ensures.grows.extends.count in
    record {
      entries = queue_lasts _ _ _ _ c.in_ok-entries.ensures.made later;
      like = c.in_ok-words.ensures.made.0;
      widths = c.in_ok-words.ensures.made.1;
      words = queue_lasts _ _ _ _ c.in_ok-words.ensures.made.2 last;
      entries_bound = c.in_ok-entries.ensures.bound;
      words_bound = c.in_ok-words.ensures.bound;
      given = record { is_net = c.in_ok-given.ensures.net.is_net; has_width = c.in_ok-given.ensures.net.has_width ∙ c.width-width.ensures.value };
      apart = λ n one other. (let first = c.in_ok-entries.ensures.owned n one in let second = c.in_ok-words.ensures.owned n other in omega (arith, first.1, second.0));
      given_apart = λ n o e. elim o [
        | inl one ↦ (let first = c.in_ok-entries.ensures.owned n one in omega (arith, first.1, grown, number, e))
        | inr other ↦ (let second = c.in_ok-words.ensures.owned n other in omega (arith, second.1, number, e))
      ];
      memories_apart = λ m one other. (let first = c.in_ok-entries.ensures.owned_memories m one in let second = c.in_ok-words.ensures.owned_memories m other in omega (arith, first.1, second.0));
    }

pub returns-clause-owned : goal.returns-clause-owned
returns-clause-owned c n o =
    let number = c.in_ok-given.ensures.number in
    let first = c.make_queue.ensures.grows.extends.count in
    let second = c.hold_words.ensures.grows.extends.count in
    let third = c.in_ok-given.ensures.within in
    let more = c.register.ensures.grows.extends.count in
    elim o [
      | inl p ↦ (elim p [
        | inl one ↦ (let own = c.in_ok-entries.ensures.owned n one in (own.0, omega (arith, own.1, second, more)))
        | inr other ↦ (let own = c.in_ok-words.ensures.owned n other in (omega (arith, own.0, first), omega (arith, own.1, more)))
      ])
      | inr e ↦ (omega (arith, e, number, first, second), omega (arith, e, third))
    ]

pub returns-clause-owned_memories : goal.returns-clause-owned_memories
returns-clause-owned_memories c m o =
    let first : MemoriesCome (owns_memories c.in_ok-entries.entries) c.args.builder.now c.make_queue.new.builder = record {
      between = c.in_ok-entries.ensures.owned_memories;
      own = c.in_ok-entries.ensures.own_wait_for_write;
      still = c.make_queue.ensures.still_wait_for_write;
      newly = c.in_ok-entries.ensures.newly_written;
    } in
    let second : MemoriesCome (owns_memories c.in_ok-words.words) c.make_queue.new.builder c.hold_words.new.builder = record {
      between = c.in_ok-words.ensures.owned_memories;
      own = c.in_ok-words.ensures.own_wait_for_write;
      still = c.hold_words.ensures.still_wait_for_write;
      newly = c.in_ok-words.ensures.newly_written;
    } in
    let both = (come_twice _ _ _ _ _ c.make_queue.ensures.grows.extends c.hold_words.ensures.grows.extends first second).between m o in
    (both.0, subst (λ (l : List Memory). m < length l) (sym c.register.ensures.grows.memories) both.1)

pub returns-clause-own_wait : goal.returns-clause-own_wait
returns-clause-own_wait c n o =
    elim o [
      | inl p ↦ c.register.ensures.still_wait n (elim p [ inl one ↦ c.hold_words.ensures.still_wait n (c.in_ok-entries.ensures.own_wait n one) | inr other ↦ c.in_ok-words.ensures.own_wait n other ])
      | inr e ↦ subst (IsWaiting c.register.new.builder) (sym e) c.in_ok-given.ensures.waits
    ]

pub returns-clause-newly_written : goal.returns-clause-newly_written
returns-clause-newly_written c m w =
    let before = waits_where_same _ _ (sym c.register.ensures.grows.memories) m w in
    elim (c.in_ok-words.ensures.newly_written m before) [
      | inl old ↦ (elim (c.in_ok-entries.ensures.newly_written m old) [ inl first ↦ inl first | inr one ↦ inr (inl one) ])
      | inr other ↦ inr (inr other)
    ]
