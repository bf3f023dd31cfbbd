use Rattle.std.proofs.Common.{◌≡◌, ℕ, Bool, true, false, ◌+◌, ◌^◌, ◌<◌, ◌⊎◌, length, None, sym, ◌∙◌, inl, inr}
use Rattle.std.specs.Prelude.{Result, Ok, Err, IfOk}
use Rattle.histories.specs.History.{one_if}
use Rattle.iface_roles.specs.declared.records.AgentPort.{AgentPort}
use Rattle.netlist.specs.Netlists.{Netlist}
use Rattle.net_parts.specs.Laws.{if_ok, on_ok, grows_without_memory}
use Rattle.net_parts.specs.Growth.{GrowsBy, GrowsInMemory, StillWait, StillWaitForWrite}
use Rattle.net_parts.specs.Nets.{IsRegister}
use Rattle.command_nets.specs.declared.nets.CommandNets.{CommandNets}
use Rattle.mm_agent.specs.declared.nets.AgentMade.{AgentMade}
use Rattle.mm_agent.specs.declared.reads.HeldReads.{HeldReads}
use Rattle.mm_agent.specs.declared.reads.HeldReads.TheVariants.{Never, Counts, Row, Queued}
use Rattle.mm_agent.specs.Reads.{held_queue, owns_reads, sets_reads}
use Rattle.mm_agent.specs.Forms.{owns, part_nets, nets_by, NoRoomBy, AnyQueueGoesOn, IgnoresAnswer, RunsAsAgent, part_lasts}
use Rattle.mm_agent.proofs.Machine.{machine}
use Rattle.mm_agent.proofs.Ignores.{ignores}
use Rattle.mm_agent.specs.Memories.{writes_wait_alike, writes_waited_alike}
use Rattle.mm_agent.proofs.agent.emit_agent.Goals as goal

-- ---- with a queue or without one

abbrev NoRoom : Bool → Bool → Netlist → Type 0
NoRoom several queued netlist = NoRoomBy queued (nets_by several queued) netlist

queue_grows : (several queued : Bool) (old new : Netlist) → queued ≡ true → GrowsInMemory 60 1 old new → GrowsInMemory (nets_by several queued) (one_if queued) old new
queue_grows several true old new e g = g
queue_grows several false old new e g = cc

no_queue_room : (several queued : Bool) (netlist : Netlist) → queued ≡ true → (2 ^ 20 < length netlist.lines + 60) ⊎ (2 ^ 16 < length netlist.memories + 1) → NoRoom several queued netlist
no_queue_room several true netlist e h = h
no_queue_room several false netlist e h = cc

part_grows : (several queued : Bool) (old new : Netlist) → queued ≡ false → GrowsBy (part_nets several None) old new → GrowsInMemory (nets_by several queued) (one_if queued) old new
part_grows several true old new e g = cc
part_grows several false old new e g = grows_without_memory _ _ _ g

part_grows_alone : (several queued : Bool) (old new : Netlist) → queued ≡ false → GrowsBy (part_nets several None) old new → GrowsBy (nets_by several queued) old new
part_grows_alone several true old new e g = cc
part_grows_alone several false old new e g = g

no_part_room : (several queued : Bool) (netlist : Netlist) → queued ≡ false → 2 ^ 20 < length netlist.lines + part_nets several None → NoRoom several queued netlist
no_part_room several true netlist e h = cc
no_part_room several false netlist e h = h

owned_alone : (reads : HeldReads) (n : ℕ) → held_queue reads ≡ None → owns_reads reads n → sets_reads reads n
owned_alone Never n e o = o
owned_alone (Counts unanswered full) n e o = o
owned_alone (Row row) n e o = o
owned_alone (Queued queue) n e o = absurd (cc)

both_ok : {X E : Type 0} (r : Result X E) (P Q R : X → Type 0) → ((x : X) → P x → Q x → R x) → IfOk r P → IfOk r Q → IfOk r R
both_ok (Ok x) P Q R f p q = f x p q
both_ok (Err e) P Q R f p q = tt

-- ---- with a queue

pub emit_queued-requires-clause-needed : goal.emit_queued-requires-clause-needed
emit_queued-requires-clause-needed c = sym c.needs_queue.ensures ∙ c.if-needs_queue.true

pub returns-then-needs_queue-clause-nets : goal.returns-then-needs_queue-clause-nets
returns-then-needs_queue-clause-nets c = c.emit_queued.ensures.nets

pub returns-then-needs_queue-clause-part : goal.returns-then-needs_queue-clause-part
returns-then-needs_queue-clause-part c = c.emit_queued.ensures.part

pub returns-then-needs_queue-clause-one_tag : goal.returns-then-needs_queue-clause-one_tag
returns-then-needs_queue-clause-one_tag c = c.emit_queued.ensures.one_tag

pub returns-then-needs_queue-clause-registers : goal.returns-then-needs_queue-clause-registers
returns-then-needs_queue-clause-registers c = c.emit_queued.ensures.registers

pub returns-then-needs_queue-clause-ignores : goal.returns-then-needs_queue-clause-ignores
returns-then-needs_queue-clause-ignores c =
    if_ok c.emit_queued.result _ (IgnoresAnswer c.emit_queued.new.builder c.args.command.now)
    (λ made part. ignores c.args.several c.args.port.now c.args.nets.now c.emit_queued.new.builder c.args.command.now made c.requires.port part)
    c.emit_queued.ensures.part

pub returns-then-needs_queue-clause-queue : goal.returns-then-needs_queue-clause-queue
returns-then-needs_queue-clause-queue c = c.emit_queued.ensures.queue

pub returns-then-needs_queue-clause-machine : goal.returns-then-needs_queue-clause-machine
returns-then-needs_queue-clause-machine c = c.emit_queued.ensures.machine

pub returns-then-needs_queue-clause-grows : goal.returns-then-needs_queue-clause-grows
returns-then-needs_queue-clause-grows c = queue_grows c.args.several _ _ _ (sym c.needs_queue.ensures ∙ c.if-needs_queue.true) c.emit_queued.ensures.grows

pub returns-then-needs_queue-clause-waits : goal.returns-then-needs_queue-clause-waits
returns-then-needs_queue-clause-waits c = c.emit_queued.ensures.waits

pub returns-then-needs_queue-clause-no_more_wait : goal.returns-then-needs_queue-clause-no_more_wait
returns-then-needs_queue-clause-no_more_wait c = c.emit_queued.ensures.no_more_wait

pub returns-then-needs_queue-clause-still_wait_for_write : goal.returns-then-needs_queue-clause-still_wait_for_write
returns-then-needs_queue-clause-still_wait_for_write c = c.emit_queued.ensures.still_wait_for_write

pub returns-then-needs_queue-clause-no_more_wait_for_write : goal.returns-then-needs_queue-clause-no_more_wait_for_write
returns-then-needs_queue-clause-no_more_wait_for_write c = c.emit_queued.ensures.no_more_wait_for_write

pub returns-then-needs_queue-clause-full : goal.returns-then-needs_queue-clause-full
returns-then-needs_queue-clause-full c e = no_queue_room c.args.several _ _ (sym c.needs_queue.ensures ∙ c.if-needs_queue.true) (c.emit_queued.ensures.full e)

-- ---- without one

pub emit_part-requires-clause-queue : goal.emit_part-requires-clause-queue
emit_part-requires-clause-queue c = tt

pub emit_part-requires-clause-queue_tag : goal.emit_part-requires-clause-queue_tag
emit_part-requires-clause-queue_tag c = tt

pub emit_part-requires-clause-queued : goal.emit_part-requires-clause-queued
emit_part-requires-clause-queued c = sym c.if-needs_queue.false ∙ c.needs_queue.ensures

pub returns-else-needs_queue-clause-nets : goal.returns-else-needs_queue-clause-nets
returns-else-needs_queue-clause-nets c = c.emit_part.ensures.nets

pub returns-else-needs_queue-clause-part : goal.returns-else-needs_queue-clause-part
returns-else-needs_queue-clause-part c = c.emit_part.ensures.part

pub returns-else-needs_queue-clause-one_tag : goal.returns-else-needs_queue-clause-one_tag
returns-else-needs_queue-clause-one_tag c = c.emit_part.ensures.one_tag

pub returns-else-needs_queue-clause-registers : goal.returns-else-needs_queue-clause-registers
returns-else-needs_queue-clause-registers c =
    both_ok c.emit_part.result _ _ (λ made. (n : ℕ) → owns made n → IsRegister c.emit_part.new.builder n)
    (λ made queue set n o. set n (elim o [ inl read ↦ inl (owned_alone made.reads n queue read) | inr wait ↦ inr wait ]))
    c.emit_part.ensures.queue c.emit_part.ensures.registers

pub returns-else-needs_queue-clause-ignores : goal.returns-else-needs_queue-clause-ignores
returns-else-needs_queue-clause-ignores c =
    if_ok c.emit_part.result _ (IgnoresAnswer c.emit_part.new.builder c.args.command.now)
    (λ made part. ignores c.args.several c.args.port.now c.args.nets.now c.emit_part.new.builder c.args.command.now made c.requires.port part)
    c.emit_part.ensures.part

no_queue_goes_on : (netlist : Netlist) (port : AgentPort) (command : CommandNets) (made : AgentMade) → held_queue made.reads ≡ None → AnyQueueGoesOn netlist port command made
no_queue_goes_on netlist port command made none queue is = absurd (cc)

pub returns-else-needs_queue-clause-queue : goal.returns-else-needs_queue-clause-queue
returns-else-needs_queue-clause-queue c =
    if_ok c.emit_part.result _ (AnyQueueGoesOn c.emit_part.new.builder c.args.port.now c.args.command.now)
    (λ made queue. no_queue_goes_on c.emit_part.new.builder c.args.port.now c.args.command.now made queue)
    c.emit_part.ensures.queue

pub returns-else-needs_queue-clause-machine : goal.returns-else-needs_queue-clause-machine
returns-else-needs_queue-clause-machine c =
    both_ok c.emit_part.result _ _ (RunsAsAgent c.emit_part.new.builder c.args.port.now c.args.nets.now c.args.command.now)
    (λ made queue part longer e run endless end fit. record {
      state = _;
      machine = machine c.args.several c.args.port.now c.args.nets.now c.args.command.now made longer (part_lasts _ _ _ _ _ _ _ part e) (no_queue_goes_on longer c.args.port.now c.args.command.now made queue) run endless end fit;
    })
    c.emit_part.ensures.queue c.emit_part.ensures.part

pub returns-else-needs_queue-clause-grows : goal.returns-else-needs_queue-clause-grows
returns-else-needs_queue-clause-grows c = part_grows c.args.several _ _ _ (sym c.needs_queue.ensures ∙ c.if-needs_queue.false) c.emit_part.ensures.grows

pub returns-else-needs_queue-clause-waits : goal.returns-else-needs_queue-clause-waits
returns-else-needs_queue-clause-waits c = c.emit_part.ensures.waits

pub returns-else-needs_queue-clause-no_more_wait : goal.returns-else-needs_queue-clause-no_more_wait
returns-else-needs_queue-clause-no_more_wait c = c.emit_part.ensures.no_more_wait

pub returns-else-needs_queue-clause-still_wait_for_write : goal.returns-else-needs_queue-clause-still_wait_for_write
returns-else-needs_queue-clause-still_wait_for_write c = writes_wait_alike _ _ c.emit_part.ensures.grows.memories

pub returns-else-needs_queue-clause-no_more_wait_for_write : goal.returns-else-needs_queue-clause-no_more_wait_for_write
returns-else-needs_queue-clause-no_more_wait_for_write c =
    on_ok c.emit_part.result (StillWait c.emit_part.new.builder c.args.builder.now) (StillWaitForWrite c.emit_part.new.builder c.args.builder.now)
    (λ same. writes_waited_alike _ _ c.emit_part.ensures.grows.memories)
    c.emit_part.ensures.no_more_wait

pub returns-else-needs_queue-clause-full : goal.returns-else-needs_queue-clause-full
returns-else-needs_queue-clause-full c e = no_part_room c.args.several _ _ (sym c.needs_queue.ensures ∙ c.if-needs_queue.false) (c.emit_part.ensures.full e)

pub returns-then-needs_queue-clause-grows_alone : goal.returns-then-needs_queue-clause-grows_alone
returns-then-needs_queue-clause-grows_alone c alone = absurd (let some = sym c.needs_queue.ensures ∙ c.if-needs_queue.true in cc)

pub returns-else-needs_queue-clause-grows_alone : goal.returns-else-needs_queue-clause-grows_alone
returns-else-needs_queue-clause-grows_alone c alone = part_grows_alone c.args.several _ _ _ alone c.emit_part.ensures.grows
