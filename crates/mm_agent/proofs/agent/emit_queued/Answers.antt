use Rattle.std.proofs.Common.{◌≡◌, ℕ, ◌+◌, ◌≤◌, Bool, true, false, ◌&&◌, ◌||◌, if◌then◌else◌, Some, None, refl, sym, ap, subst, ◌∙◌, inl, inr, arith}
use Rattle.netlist.specs.Netlists.{Netlist}
use Rattle.netlist.specs.Longer.{Extends}
use Rattle.net_parts.specs.Growth.{StillWait, WaitsWithout, StillWaitForWrite, WriteWaitsWithout}
use Rattle.net_parts.specs.Laws.{on_ok, waiting_within, memory_grows_twice}
use Rattle.net_parts.specs.Refusing.{handed_on}
use Rattle.command_nets.specs.declared.nets.CommandNets.{CommandNets}
use Rattle.command_nets.specs.Groups.{command_lasts}
use Rattle.read_queues.specs.Held.{owns_queue, bits_of, AreWordsOf}
use Rattle.mm_agent.specs.Agents.{counts_words, count_bits, BearsOneTag, agent_lasts}
use Rattle.mm_agent.specs.Memories.{write_within, memory_grows_fewer}
use Rattle.mm_agent.proofs.agent.emit_queued.Goals as goal

and_first : (a b : Bool) → (a && b) ≡ true → a ≡ true
and_first true b e = refl
and_first false b e = cc

and_second : (a b : Bool) → (a && b) ≡ true → b ≡ true
and_second true b e = e
and_second false b e = cc

some_bits : (t : Bool) (width bits : ℕ) → 1 ≤ width → (if t then Some width else None) ≡ Some bits → 1 ≤ bits
some_bits true width bits some e = let same : width ≡ bits = cc in omega (arith, some, same)
some_bits false width bits some e = cc

fits_word : (t : Bool) (width tag : ℕ) → tag ≤ 128 → (t ≡ true → width + tag ≤ 128) → bits_of (if t then Some width else None) + tag ≤ 128
fits_word true width tag small fits = fits refl
fits_word false width tag small fits = omega (arith, small)

one_tag_lasts : (old new : Netlist) (command : CommandNets) → BearsOneTag old command → Extends old new → BearsOneTag new command
one_tag_lasts old new command h e = record { tag = h.tag; always = λ cycle v. h.always cycle (e.valuations cycle v) }

-- ---- what the calls ask

pub emit_around-requires-clause-nets : goal.emit_around-requires-clause-nets
emit_around-requires-clause-nets c = agent_lasts _ _ _ _ c.requires.nets c.make_queue.ensures.grows.extends

pub emit_around-requires-clause-command : goal.emit_around-requires-clause-command
emit_around-requires-clause-command c = command_lasts _ _ _ c.make_queue.ensures.grows.extends c.requires.command

pub make_queue-requires-clause-some_count : goal.make_queue-requires-clause-some_count
make_queue-requires-clause-some_count c bits e = some_bits (counts_words c.args.port.now) _ bits c.width.ensures.bounds.0 (sym c.count_bits-counts.ensures ∙ e)

pub make_queue-requires-clause-small : goal.make_queue-requires-clause-small
make_queue-requires-clause-small c =
    let counts = c.count_bits-counts.ensures ∙ ap (count_bits c.args.port.now) c.width.ensures.value in
    let small = c.width-bits.ensures.bounds in
    let tag = c.width-bits.ensures.value in
    rw (counts, tag) (fits_word (counts_words c.args.port.now) c.args.command.now.count.width c.args.command.now.tag.width (omega (arith, small.1, tag)) c.requires.words)

pub emit_around-requires-clause-tag : goal.emit_around-requires-clause-tag
emit_around-requires-clause-tag c one = one_tag_lasts _ _ _ (c.requires.tag one) c.make_queue.ensures.grows.extends

pub emit_around-requires-clause-queue : goal.emit_around-requires-clause-queue
emit_around-requires-clause-queue c = record { reads = and_first _ _ (and_second (c.args.several || counts_words c.args.port.now) _ c.requires.needed); kind = and_second c.args.port.now.reads _ (and_second (c.args.several || counts_words c.args.port.now) _ c.requires.needed); made = c.in_ok-queue.ensures.made; bound = c.in_ok-queue.ensures.bound ∙ c.bound_on.ensures.bound }

pub emit_around-requires-clause-queue_tag : goal.emit_around-requires-clause-queue_tag
emit_around-requires-clause-queue_tag c = record { is_net = c.in_ok-queue.ensures.made.tag_net; has_width = c.in_ok-queue.ensures.tag ∙ c.width-bits.ensures.value }

pub emit_around-requires-clause-words : goal.emit_around-requires-clause-words
emit_around-requires-clause-words c = subst (λ bits. AreWordsOf bits c.in_ok-queue.queue.words) (c.count_bits-counts.ensures ∙ ap (count_bits c.args.port.now) c.width.ensures.value) c.in_ok-queue.ensures.kind

pub emit_around-requires-clause-own_wait : goal.emit_around-requires-clause-own_wait
emit_around-requires-clause-own_wait c = c.in_ok-queue.ensures.own_wait

pub emit_around-requires-clause-own_waits_for_write : goal.emit_around-requires-clause-own_waits_for_write
emit_around-requires-clause-own_waits_for_write c = c.in_ok-queue.ensures.own_waits_for_write

-- ---- growth

pub returns-in_err-queue-clause-grows : goal.returns-in_err-queue-clause-grows
returns-in_err-queue-clause-grows c = memory_grows_fewer _ _ _ _ _ _ (omega arith) (omega arith) c.make_queue.ensures.grows

pub returns-clause-grows : goal.returns-clause-grows
returns-clause-grows c = memory_grows_twice _ _ _ _ _ _ _ c.make_queue.ensures.grows c.emit_around.ensures.grows

pub returns-in_err-queue-clause-full : goal.returns-in_err-queue-clause-full
returns-in_err-queue-clause-full c e = elim (c.make_queue.ensures.full (handed_on _ _ _ _ c.in_err-queue.was c.from_residual.ensures.1 e)) [
  | inl lines ↦ inl (omega (arith, lines))
  | inr memories ↦ inr memories
]

pub returns-clause-full : goal.returns-clause-full
returns-clause-full c e =
    let most = c.make_queue.ensures.grows.most in
    let full = c.emit_around.ensures.full e in
    inl (omega (arith, most, full))

-- ---- what waits

pub returns-in_err-queue-clause-waits : goal.returns-in_err-queue-clause-waits
returns-in_err-queue-clause-waits c n w = c.make_queue.ensures.still_wait n w

pub returns-clause-waits : goal.returns-clause-waits
returns-clause-waits c n w =
    let within = waiting_within _ n w in
    c.emit_around.ensures.waits n (λ o. (let made = c.in_ok-queue.ensures.owned n o in omega (arith, made.0, within))) (c.make_queue.ensures.still_wait n w)

pub returns-clause-no_more_wait : goal.returns-clause-no_more_wait
returns-clause-no_more_wait c =
    on_ok c.emit_around.result (WaitsWithout (owns_queue c.in_ok-queue.queue) c.make_queue.new.builder c.emit_around.new.builder) (StillWait c.emit_around.new.builder c.args.builder.now)
    (λ without n w. (let set = without n w in elim (c.in_ok-queue.ensures.newly n set.0) [ inl before ↦ before | inr own ↦ absurd (set.1 own) ]))
    c.emit_around.ensures.no_more_wait

pub returns-in_err-queue-clause-still_wait_for_write : goal.returns-in_err-queue-clause-still_wait_for_write
returns-in_err-queue-clause-still_wait_for_write c m w = c.make_queue.ensures.still_wait_for_write m w

pub returns-clause-still_wait_for_write : goal.returns-clause-still_wait_for_write
returns-clause-still_wait_for_write c m w =
    let within = write_within _ m w in
    let own = c.in_ok-queue.ensures.owned_memory in
    c.emit_around.ensures.still_wait_for_write m (λ e. omega (arith, own.0, within, e)) (c.make_queue.ensures.still_wait_for_write m w)

pub returns-clause-no_more_wait_for_write : goal.returns-clause-no_more_wait_for_write
returns-clause-no_more_wait_for_write c =
    on_ok c.emit_around.result (WriteWaitsWithout (λ m. m ≡ c.in_ok-queue.queue.memory.number) c.make_queue.new.builder c.emit_around.new.builder) (StillWaitForWrite c.emit_around.new.builder c.args.builder.now)
    (λ without m w. (let set = without m w in elim (c.in_ok-queue.ensures.newly_written m set.0) [ inl before ↦ before | inr own ↦ absurd (set.1 own) ]))
    c.emit_around.ensures.no_more_write

-- ---- what is made

pub returns-clause-nets : goal.returns-clause-nets
returns-clause-nets c = c.emit_around.ensures.nets

pub returns-clause-part : goal.returns-clause-part
returns-clause-part c = c.emit_around.ensures.part

pub returns-clause-registers : goal.returns-clause-registers
returns-clause-registers c = c.emit_around.ensures.registers

pub returns-clause-queue : goal.returns-clause-queue
returns-clause-queue c = c.emit_around.ensures.queue

pub returns-clause-machine : goal.returns-clause-machine
returns-clause-machine c = c.emit_around.ensures.machine

pub returns-clause-one_tag : goal.returns-clause-one_tag
returns-clause-one_tag c = c.emit_around.ensures.one_tag
