use Rattle.std.proofs.Common.{◌≡◌, ℕ, ◌+◌, ◌^◌, ◌<◌, Bool, true, false, if◌then◌else◌, Some, None, refl, sym, subst, ◌∙◌, inl, inr, arith}
use Rattle.iface_roles.specs.declared.records.AgentPort.{AgentPort}
use Rattle.netlist.specs.Nets.{NetValue}
use Rattle.netlist.specs.Netlists.{Netlist, IsNet}
use Rattle.net_parts.specs.Growth.{GrowsBy}
use Rattle.netlist.specs.Longer.{Extends}
use Rattle.net_parts.specs.Laws.{extends_twice, net_lasts, register_lasts, waiting_register, adds_grow, grows_fewer, grows_twice, grows_without_memory, memory_grows_twice}
use Rattle.net_parts.specs.Refusing.{handed_on}
use Rattle.command_nets.specs.declared.nets.CommandNets.{CommandNets}
use Rattle.command_nets.specs.Ports.{HasNet, has_lasts}
use Rattle.read_queues.specs.declared.words.OldestWords.{OldestWords}
use Rattle.read_queues.specs.declared.words.OldestWords.TheVariants.{One, Counted}
use Rattle.read_queues.specs.declared.queue.HeldReadQueue.{HeldReadQueue}
use Rattle.read_queues.specs.Held.{owns_queue, queue_lasts, AreWordsOf, has_counts, count_width}
use Rattle.read_queues.specs.Queues.{RunsAsQueue}
use Rattle.mm_agent.specs.declared.nets.AgentMade.{AgentMade}
use Rattle.mm_agent.specs.declared.reads.HeldReads.{HeldReads}
use Rattle.mm_agent.specs.declared.reads.HeldReads.TheVariants.{Never, Counts, Row, Queued}
use Rattle.mm_agent.specs.Agents.{AreMadeNets, counts_words}
use Rattle.mm_agent.specs.Reads.{owns_reads, held_queue}
use Rattle.mm_agent.specs.Forms.{part_nets, QueueGoesOn, part_lasts, queue_goes_on}
use Rattle.mm_agent.proofs.Machine.{machine}
use Rattle.mm_agent.specs.Memories.{writes_wait_alike, writes_waited_alike}
use Rattle.mm_agent.proofs.agent.emit_around.Goals as goal

-- ---- the part has so many nets, for one host or for several

around_grows : (several : Bool) (queue : HeldReadQueue) (old new : Netlist) → GrowsBy (part_nets several (Some queue)) old new → GrowsBy 26 old new
around_grows true queue old new g = g
around_grows false queue old new g = g

around_full : (several : Bool) (queue : HeldReadQueue) (lines : ℕ) → 2 ^ 20 < lines + part_nets several (Some queue) → 2 ^ 20 < lines + 26
around_full true queue lines h = h
around_full false queue lines h = h

-- ---- what the calls ask

count_told : (t : Bool) (netlist : Netlist) (count : NetValue) (words : OldestWords) → IsNet netlist count → AreWordsOf (if t then Some count.width else None) words → HasNet netlist (has_counts words) (count_width words) (if t then Some count else None)
count_told true netlist count (Counted held got) is h = (refl, record { is_net = is; has_width = sym h.bits })
count_told true netlist count One is h = absurd (let kind = h.kind in cc)
count_told false netlist count words is h = h.kind

pub emit_part-requires-clause-queued : goal.emit_part-requires-clause-queued
emit_part-requires-clause-queued c = sym c.requires.needed

pub emit_part-requires-clause-queue : goal.emit_part-requires-clause-queue
emit_part-requires-clause-queue c = c.requires.queue

pub emit_part-requires-clause-queue_tag : goal.emit_part-requires-clause-queue_tag
emit_part-requires-clause-queue_tag c = c.requires.queue_tag

pub unless-requires-clause-a : goal.unless-requires-clause-a
unless-requires-clause-a c = net_lasts _ _ _ _ c.emit_part.ensures.grows.extends c.requires.command.read

pub unless-requires-clause-b : goal.unless-requires-clause-b
unless-requires-clause-b c = c.in_ok-made.ensures.nets.waitrequest

pub finish_queue-requires-clause-held : goal.finish_queue-requires-clause-held
finish_queue-requires-clause-held c = queue_lasts _ _ _ c.requires.queue.made (extends_twice _ _ _ c.emit_part.ensures.grows.extends c.unless.ensures.adds.grows.extends)

pub finish_queue-requires-clause-taken : goal.finish_queue-requires-clause-taken
finish_queue-requires-clause-taken c = rw c.traffic_of-traffic.ensures c.in_ok-taken.ensures.net

pub finish_queue-requires-clause-tag : goal.finish_queue-requires-clause-tag
finish_queue-requires-clause-tag c = rw c.traffic_of-traffic.ensures (record {
  is_net = (extends_twice _ _ _ c.emit_part.ensures.grows.extends c.unless.ensures.adds.grows.extends).nets _ _ c.requires.command.tag;
  has_width = sym c.requires.queue_tag.has_width;
})

pub finish_queue-requires-clause-count : goal.finish_queue-requires-clause-count
finish_queue-requires-clause-count c =
    let grown = extends_twice _ _ _ c.emit_part.ensures.grows.extends c.unless.ensures.adds.grows.extends in
    rw c.traffic_of-traffic.ensures (count_told (counts_words c.args.port.now) _ c.args.command.now.count c.args.queue.words (grown.nets _ _ c.requires.command.count) c.requires.words)

pub finish_queue-requires-clause-valid : goal.finish_queue-requires-clause-valid
finish_queue-requires-clause-valid c = rw c.traffic_of-traffic.ensures (net_lasts _ _ _ _ c.unless.ensures.adds.grows.extends c.in_ok-made.ensures.nets.answer.valid)

pub finish_queue-requires-clause-waits : goal.finish_queue-requires-clause-waits
finish_queue-requires-clause-waits c n o = c.unless.ensures.adds.grows.waits n (c.emit_part.ensures.waits n (c.requires.own_wait n o))

pub finish_queue-requires-clause-waits_for_write : goal.finish_queue-requires-clause-waits_for_write
finish_queue-requires-clause-waits_for_write c = writes_wait_alike _ _ (c.unless.ensures.adds.grows.memories ∙ c.emit_part.ensures.grows.memories) _ c.requires.own_waits_for_write

-- ---- growth

pub returns-in_err-made-clause-grows : goal.returns-in_err-made-clause-grows
returns-in_err-made-clause-grows c = grows_without_memory _ _ _ (grows_fewer _ _ _ _ (omega arith) (around_grows c.args.several c.args.queue _ _ c.emit_part.ensures.grows))

pub returns-in_err-taken-clause-grows : goal.returns-in_err-taken-clause-grows
returns-in_err-taken-clause-grows c = grows_without_memory _ _ _ (grows_fewer _ _ _ _ (omega arith) (grows_twice _ _ _ _ _ (around_grows c.args.several c.args.queue _ _ c.emit_part.ensures.grows) (adds_grow _ _ _ c.unless.ensures.adds)))

pub returns-in_err-finish_queue-clause-grows : goal.returns-in_err-finish_queue-clause-grows
returns-in_err-finish_queue-clause-grows c = memory_grows_twice _ _ _ _ _ _ _ (grows_without_memory _ _ _ (grows_twice _ _ _ _ _ (around_grows c.args.several c.args.queue _ _ c.emit_part.ensures.grows) (adds_grow _ _ _ c.unless.ensures.adds))) c.finish_queue.ensures.grows

pub returns-clause-grows : goal.returns-clause-grows
returns-clause-grows c = memory_grows_twice _ _ _ _ _ _ _ (grows_without_memory _ _ _ (grows_twice _ _ _ _ _ (around_grows c.args.several c.args.queue _ _ c.emit_part.ensures.grows) (adds_grow _ _ _ c.unless.ensures.adds))) c.finish_queue.ensures.grows

pub returns-in_err-made-clause-full : goal.returns-in_err-made-clause-full
returns-in_err-made-clause-full c e = let full = around_full c.args.several c.args.queue _ (c.emit_part.ensures.full (handed_on _ _ _ _ c.in_err-made.was c.from_residual.ensures.1 e)) in omega (arith, full)

pub returns-in_err-taken-clause-full : goal.returns-in_err-taken-clause-full
returns-in_err-taken-clause-full c e =
    let most0 = (around_grows c.args.several c.args.queue _ _ c.emit_part.ensures.grows).most in
    let full = c.unless.ensures.full (handed_on _ _ _ _ c.in_err-taken.was c.from_residual-in_err-taken.ensures.1 e) in
    omega (arith, most0, full)

pub returns-in_err-finish_queue-clause-full : goal.returns-in_err-finish_queue-clause-full
returns-in_err-finish_queue-clause-full c e =
    let most0 = (around_grows c.args.several c.args.queue _ _ c.emit_part.ensures.grows).most in
    let most1 = c.unless.ensures.adds.most in
    let full = c.finish_queue.ensures.full (handed_on _ _ _ _ c.in_err-finish_queue.was c.from_residual-in_err-finish_queue.ensures.1 e) in
    omega (arith, most0, most1, full)

pub returns-clause-full : goal.returns-clause-full
returns-clause-full c e = cc

-- ---- what waits

pub returns-in_err-made-clause-waits : goal.returns-in_err-made-clause-waits
returns-in_err-made-clause-waits c n apart w = c.emit_part.ensures.waits n w

pub returns-in_err-taken-clause-waits : goal.returns-in_err-taken-clause-waits
returns-in_err-taken-clause-waits c n apart w = c.unless.ensures.adds.grows.waits n (c.emit_part.ensures.waits n w)

pub returns-in_err-finish_queue-clause-waits : goal.returns-in_err-finish_queue-clause-waits
returns-in_err-finish_queue-clause-waits c n apart w = c.finish_queue.ensures.waits n apart (c.unless.ensures.adds.grows.waits n (c.emit_part.ensures.waits n w))

pub returns-clause-waits : goal.returns-clause-waits
returns-clause-waits c n apart w = c.finish_queue.ensures.waits n apart (c.unless.ensures.adds.grows.waits n (c.emit_part.ensures.waits n w))

pub returns-clause-no_more_wait : goal.returns-clause-no_more_wait
returns-clause-no_more_wait c n w = let set = c.in_ok-finish_queue.ensures.no_more_wait n w in (c.in_ok-made.ensures.no_more_wait n (c.unless.ensures.adds.grows.no_more_wait n set.0), set.1)

pub returns-in_err-made-clause-still_wait_for_write : goal.returns-in_err-made-clause-still_wait_for_write
returns-in_err-made-clause-still_wait_for_write c m apart w = writes_wait_alike _ _ c.emit_part.ensures.grows.memories m w

pub returns-in_err-taken-clause-still_wait_for_write : goal.returns-in_err-taken-clause-still_wait_for_write
returns-in_err-taken-clause-still_wait_for_write c m apart w = writes_wait_alike _ _ (c.unless.ensures.adds.grows.memories ∙ c.emit_part.ensures.grows.memories) m w

pub returns-in_err-finish_queue-clause-still_wait_for_write : goal.returns-in_err-finish_queue-clause-still_wait_for_write
returns-in_err-finish_queue-clause-still_wait_for_write c m apart w = c.finish_queue.ensures.still_wait_for_write m apart (writes_wait_alike _ _ (c.unless.ensures.adds.grows.memories ∙ c.emit_part.ensures.grows.memories) m w)

pub returns-clause-still_wait_for_write : goal.returns-clause-still_wait_for_write
returns-clause-still_wait_for_write c m apart w = c.finish_queue.ensures.still_wait_for_write m apart (writes_wait_alike _ _ (c.unless.ensures.adds.grows.memories ∙ c.emit_part.ensures.grows.memories) m w)

pub returns-clause-no_more_write : goal.returns-clause-no_more_write
returns-clause-no_more_write c m w = let set = c.in_ok-finish_queue.ensures.no_more_write m w in (writes_waited_alike _ _ (c.unless.ensures.adds.grows.memories ∙ c.emit_part.ensures.grows.memories) m set.0, set.1)

-- ---- what is made

made_lasts : (old new : Netlist) (port : AgentPort) (command : CommandNets) (made : AgentMade) → AreMadeNets old port command made → Extends old new → AreMadeNets new port command made
made_lasts old new port command made h e = record {
  address = has_lasts old new _ _ made.address h.address e;
  read = has_lasts old new _ _ made.read h.read e;
  waitrequest = net_lasts old new made.waitrequest 1 e h.waitrequest;
  answer = record { valid = net_lasts _ _ _ _ e h.answer.valid; word = net_lasts _ _ _ _ e h.answer.word; code = net_lasts _ _ _ _ e h.answer.code };
  answer_tag = net_lasts _ _ _ _ e h.answer_tag;
}

owned_by : (reads : HeldReads) (queue : HeldReadQueue) (n : ℕ) → held_queue reads ≡ Some queue → owns_reads reads n → owns_queue queue n
owned_by Never queue n e o = absurd o
owned_by (Counts unanswered full) queue n e o = absurd (cc)
owned_by (Row row) queue n e o = absurd (cc)
owned_by (Queued held) queue n e o = (let same : held ≡ queue = cc in subst (λ (q : HeldReadQueue). owns_queue q n) same o)

pub returns-clause-nets : goal.returns-clause-nets
returns-clause-nets c = made_lasts _ _ _ _ _ c.in_ok-made.ensures.nets (extends_twice _ _ _ c.unless.ensures.adds.grows.extends c.finish_queue.ensures.grows.extends)

pub returns-clause-part : goal.returns-clause-part
returns-clause-part c = part_lasts _ _ _ _ _ _ _ c.in_ok-made.ensures.part (extends_twice _ _ _ c.unless.ensures.adds.grows.extends c.finish_queue.ensures.grows.extends)

pub returns-clause-registers : goal.returns-clause-registers
returns-clause-registers c n o =
    let more = extends_twice _ _ _ c.unless.ensures.adds.grows.extends c.finish_queue.ensures.grows.extends in
    register_lasts _ _ n more (elim o [
      | inl read ↦ waiting_register _ n c.well_made.ensures (c.emit_part.ensures.waits n (c.requires.own_wait n (owned_by _ _ n c.in_ok-made.ensures.queue read)))
      | inr wait ↦ c.in_ok-made.ensures.registers n (inr wait)
    ])

pub returns-clause-queue : goal.returns-clause-queue
returns-clause-queue c queue is =
    let same : queue ≡ c.args.queue = (let own = c.in_ok-made.ensures.queue in cc) in
    subst (QueueGoesOn c.finish_queue.new.builder c.args.port.now c.args.command.now c.in_ok-made.made.waitrequest c.in_ok-made.made.answer.valid) (sym same) (record {
      taken = c.in_ok-taken.taken;
      is_taken = λ cycle v. c.in_ok-taken.ensures.value cycle (c.finish_queue.ensures.grows.extends.valuations cycle v);
      runs = subst (RunsAsQueue c.finish_queue.new.builder c.args.queue) c.traffic_of-traffic.ensures c.in_ok-finish_queue.ensures.runs;
    })

pub returns-clause-machine : goal.returns-clause-machine
returns-clause-machine c longer e run endless end fit = record {
  state = _;
  machine = machine c.args.several c.args.port.now c.args.nets.now c.args.command.now _ longer (part_lasts _ _ _ _ _ _ _ (returns-clause-part c) e) (queue_goes_on c.finish_queue.new.builder longer c.args.port.now c.args.command.now c.in_ok-made.made (returns-clause-queue c) e) run endless end fit;
}

pub returns-clause-one_tag : goal.returns-clause-one_tag
returns-clause-one_tag c = c.in_ok-made.ensures.one_tag
