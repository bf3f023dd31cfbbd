use Rattle.std.proofs.Common.{◌≤◌, ◌^◌, nat_lt, length, sym, subst, ap, ◌∙◌, inl, inr, arith}
use Rattle.std.proofs.lemmas.Slice.Zip.{AllZip-long}
use Rattle.iface_roles.specs.Proper.{span_of}
use Rattle.netlist.specs.declared.line.Memory.{Memory}
use Rattle.net_parts.specs.Refusing.{handed_on}
use Rattle.net_parts.specs.Laws.{extends_twice, net_lasts, waiting_register, grows_without_memory, memory_grows_twice, waiting_within}
use Rattle.command_nets.specs.Nets.{Widths, AreAnswerNets}
use Rattle.command_nets.specs.Groups.{answer_lasts}
use Rattle.link_core.specs.PipeNets.{keeps_lasts as pipe_lasts}
use Rattle.mm_agent.specs.Agents.{agent_lasts}
use Rattle.mm_agent.specs.Memories.{memory_grows_fewer, memory_grows_within, writes_wait_alike, writes_waited_alike}
use Rattle.mm_arbiter.specs.Forward.{keeps_lasts, forward_lasts}
use Rattle.mm_fabric.specs.Askers.{AreToldBelow}
use Rattle.mm_fabric.proofs.BurstWidths.{few_bits}
use Rattle.mm_fabric.proofs.Asking.{all_widths, none_of, asked_are_commands, asked_have_widths, address_width, word_width, enables_width, count_width, tag_width, lone_bears, answers_bear, owned_wait, told_of, fewer_nets, fewer_memories, no_room_for}
use Rattle.mm_fabric.proofs.AgentParts.{agent_part_is}
use Rattle.mm_fabric.proofs.SeatBounds.{bounds_reads}
use Rattle.mm_arbiter.specs.Backward.{AreBelowNets}
use Rattle.mm_fabric.proofs.Below.{own_width, bears_below, bears_on, stages_last}
use Rattle.mm_fabric.proofs.agents.emit_agent_part.Goals as goal

pub emit_arbiter-requires-clause-some : goal.emit_arbiter-requires-clause-some
emit_arbiter-requires-clause-some c = let same = AllZip-long _ _ _ c.requires.commands.each in let some = c.requires.askers.some in omega (arith, same, some)

pub emit_arbiter-requires-clause-same : goal.emit_arbiter-requires-clause-same
emit_arbiter-requires-clause-same c = sym (AllZip-long _ _ _ c.requires.commands.each)

pub emit_arbiter-requires-clause-few : goal.emit_arbiter-requires-clause-few
emit_arbiter-requires-clause-few c = let same = AllZip-long _ _ _ c.requires.commands.each in let few = c.requires.askers.few in omega (arith, same, few)

pub emit_arbiter-requires-clause-commands : goal.emit_arbiter-requires-clause-commands
emit_arbiter-requires-clause-commands c = asked_are_commands _ _ _ _ c.requires.commands.each

pub emit_arbiter-requires-clause-alike : goal.emit_arbiter-requires-clause-alike
emit_arbiter-requires-clause-alike c = record { widths = all_widths c.requires.commands.widths; each = asked_have_widths _ _ _ _ c.requires.commands.each }

pub returns-in_err-asked-clause-grows : goal.returns-in_err-asked-clause-grows
returns-in_err-asked-clause-grows c =
    let same = AllZip-long _ _ _ c.requires.commands.each in
    memory_grows_fewer _ _ _ _ _ _ (omega (arith, same)) (omega arith) (grows_without_memory _ _ _ c.emit_arbiter.ensures.grows)

pub returns-in_err-asked-clause-full : goal.returns-in_err-asked-clause-full
returns-in_err-asked-clause-full c e =
    let same = AllZip-long _ _ _ c.requires.commands.each in
    let full = c.emit_arbiter.ensures.full (handed_on _ _ _ _ c.in_err-asked.was c.from_residual.ensures.1 e) in
    inl (omega (arith, same, full))

pub returns-in_err-command-clause-grows : goal.returns-in_err-command-clause-grows
returns-in_err-command-clause-grows c =
    let same = AllZip-long _ _ _ c.requires.commands.each in
    let few = c.requires.stages in
    memory_grows_within _ _ _ _ _ _ _ _ _ (grows_without_memory _ _ _ c.emit_arbiter.ensures.grows) (grows_without_memory _ _ _ c.begin_stages.ensures.grows) (omega (arith, same, few)) (omega arith)

pub returns-in_err-command-clause-full : goal.returns-in_err-command-clause-full
returns-in_err-command-clause-full c e =
    let same = AllZip-long _ _ _ c.requires.commands.each in
    let few = c.requires.stages in
    let most = c.emit_arbiter.ensures.grows.most in
    let full = c.begin_stages.ensures.full (handed_on _ _ _ _ c.in_err-command.was c.from_residual-in_err-command.ensures.1 e) in
    inl (omega (arith, same, few, most, full))

pub emit_agent-requires-clause-nets : goal.emit_agent-requires-clause-nets
emit_agent-requires-clause-nets c = agent_lasts _ _ _ _ c.requires.nets (extends_twice _ _ _ c.emit_arbiter.ensures.grows.extends c.begin_stages.ensures.grows.extends)

pub emit_agent-requires-clause-reaches : goal.emit_agent-requires-clause-reaches
emit_agent-requires-clause-reaches c =
    let asked = c.requires.commands in
    let widths = c.in_ok-asked.ensures.widths (all_widths asked.widths) (asked_have_widths _ _ _ _ asked.each) in
    let same = ap (λ (w : Widths). w.address) c.in_ok-command.ensures.widths ∙ address_width asked.widths c.in_ok-asked.asked widths in
    subst (λ n. span_of c.args.port.now ≤ 2 ^ n) (sym same) asked.reaches

pub emit_agent-requires-clause-tag : goal.emit_agent-requires-clause-tag
emit_agent-requires-clause-tag c lone =
    let same = AllZip-long _ _ _ c.requires.commands.each in
    let kind = c.in_ok-asked.ensures.kept.kind in
    let bears = lone_bears _ _ c.requires.commands.widths _ _ _ c.in_ok-asked.arbiter c.requires.commands.each c.emit_arbiter.ensures.grows.extends c.in_ok-asked.ensures.made (cc) in
    bears_below _ c.in_ok-asked.asked _ (c.in_ok-command.ensures.one_tag lone) (bears_on _ _ c.in_ok-asked.asked c.begin_stages.ensures.grows.extends bears)

pub emit_agent-requires-clause-words : goal.emit_agent-requires-clause-words
emit_agent-requires-clause-words c some =
    let asked = c.requires.commands in
    let widths = c.in_ok-asked.ensures.widths (all_widths asked.widths) (asked_have_widths _ _ _ _ asked.each) in
    let count = ap (λ (w : Widths). w.count) c.in_ok-command.ensures.widths ∙ count_width asked.widths c.in_ok-asked.asked widths ∙ asked.count in
    let tag = ap (λ (w : Widths). w.tag) c.in_ok-command.ensures.widths ∙ tag_width asked.widths c.in_ok-asked.asked widths ∙ asked.tag in
    let few = few_bits c.args.port.now.burst_bits c.requires.port.ports.burst in
    omega (arith, count, tag, few)

pub returns-in_err-made-clause-grows : goal.returns-in_err-made-clause-grows
returns-in_err-made-clause-grows c =
    let same = AllZip-long _ _ _ c.requires.commands.each in
    let few = c.requires.stages in
    let hosts = nat_lt 1 (length c.args.askers.now) in
    let fewer = fewer_nets hosts c.args.port.now in
    let more = fewer_memories hosts c.args.port.now in
    memory_grows_within _ _ _ _ _ _ _ _ _ (memory_grows_twice _ _ _ _ _ _ _ (grows_without_memory _ _ _ c.emit_arbiter.ensures.grows) (grows_without_memory _ _ _ c.begin_stages.ensures.grows)) c.emit_agent.ensures.grows (omega (arith, same, few, fewer)) (omega (arith, more))

pub returns-in_err-made-clause-full : goal.returns-in_err-made-clause-full
returns-in_err-made-clause-full c e =
    let same = AllZip-long _ _ _ c.requires.commands.each in
    let few = c.requires.stages in
    let hosts = nat_lt 1 (length c.args.askers.now) in
    let fewer = fewer_nets hosts c.args.port.now in
    let most = c.emit_arbiter.ensures.grows.most in
    let later = c.begin_stages.ensures.grows.most in
    let memories = ap (length {A = Memory}) c.emit_arbiter.ensures.grows.memories in
    let same_memories = ap (length {A = Memory}) c.begin_stages.ensures.grows.memories in
    elim (no_room_for hosts c.args.port.now _ (c.emit_agent.ensures.full (handed_on _ _ _ _ c.in_err-made.was c.from_residual-in_err-made.ensures.1 e))) [
      | inl full ↦ inl (omega (arith, same, few, fewer, most, later, full))
      | inr full ↦ inr (omega (arith, memories, same_memories, full))
    ]

pub finish_stages-requires-clause-kept : goal.finish_stages-requires-clause-kept
finish_stages-requires-clause-kept c = pipe_lasts c.args.stages c.in_ok-command.kept _ _ c.in_ok-command.ensures.stages.begun.keeps c.emit_agent.ensures.grows.extends c.emit_agent.ensures.waits

pub finish_stages-requires-clause-wait : goal.finish_stages-requires-clause-wait
finish_stages-requires-clause-wait c = c.in_ok-made.ensures.nets.waitrequest

pub finish_stages-requires-clause-answer : goal.finish_stages-requires-clause-answer
finish_stages-requires-clause-answer c = own_width _ _ _ c.in_ok-made.ensures.nets.answer

pub finish_stages-requires-clause-tag : goal.finish_stages-requires-clause-tag
finish_stages-requires-clause-tag c = c.in_ok-made.ensures.nets.answer_tag.is_net

pub returns-in_err-told-clause-grows : goal.returns-in_err-told-clause-grows
returns-in_err-told-clause-grows c =
    let same = AllZip-long _ _ _ c.requires.commands.each in
    let few = c.requires.stages in
    let hosts = nat_lt 1 (length c.args.askers.now) in
    let fewer = fewer_nets hosts c.args.port.now in
    let more = fewer_memories hosts c.args.port.now in
    memory_grows_within _ _ _ _ _ _ _ _ _ (memory_grows_twice _ _ _ _ _ _ _ (memory_grows_twice _ _ _ _ _ _ _ (grows_without_memory _ _ _ c.emit_arbiter.ensures.grows) (grows_without_memory _ _ _ c.begin_stages.ensures.grows)) c.emit_agent.ensures.grows) (grows_without_memory _ _ _ c.finish_stages.ensures.grows)
    (omega (arith, same, few, fewer)) (omega (arith, more))

pub returns-in_err-told-clause-waits : goal.returns-in_err-told-clause-waits
returns-in_err-told-clause-waits c n w =
    let within = waiting_within _ n (c.emit_arbiter.ensures.waits n w) in
    c.finish_stages.ensures.waits n (λ o. (let made = c.in_ok-command.ensures.owned n o in omega (arith, made.0, within))) (c.emit_agent.ensures.waits n (c.begin_stages.ensures.waits n (c.emit_arbiter.ensures.waits n w)))

pub returns-in_err-told-clause-full : goal.returns-in_err-told-clause-full
returns-in_err-told-clause-full c e =
    let same = AllZip-long _ _ _ c.requires.commands.each in
    let few = c.requires.stages in
    let fewer = fewer_nets (nat_lt 1 (length c.args.askers.now)) c.args.port.now in
    let most = c.emit_arbiter.ensures.grows.most in
    let later = c.begin_stages.ensures.grows.most in
    let latest = c.emit_agent.ensures.grows.most in
    let full = c.finish_stages.ensures.full (handed_on _ _ _ _ c.in_err-told.was c.from_residual-in_err-told.ensures.1 e) in
    inl (omega (arith, same, few, fewer, most, later, latest, full))

pub finish_arbiter-requires-clause-held : goal.finish_arbiter-requires-clause-held
finish_arbiter-requires-clause-held c =
    let same = AllZip-long _ _ _ c.requires.commands.each in
    let e = extends_twice _ _ _ (extends_twice _ _ _ c.begin_stages.ensures.grows.extends c.emit_agent.ensures.grows.extends) c.finish_stages.ensures.grows.extends in
    keeps_lasts _ _ _ _ (rw (sym same) c.in_ok-asked.ensures.kept) e
    (λ n o w.
    (let within = waiting_within _ n w in
    c.finish_stages.ensures.waits n (λ p. (let made = c.in_ok-command.ensures.owned n p in omega (arith, made.0, within))) (c.emit_agent.ensures.waits n (c.begin_stages.ensures.waits n w))))

pub finish_arbiter-requires-clause-below : goal.finish_arbiter-requires-clause-below
finish_arbiter-requires-clause-below c =
    let asked = c.requires.commands in
    let widths = c.in_ok-asked.ensures.widths (all_widths asked.widths) (asked_have_widths _ _ _ _ asked.each) in
    let made = c.in_ok-made.ensures.nets in
    let tag = made.answer_tag.has_width ∙ ap (λ (w : Widths). w.tag) c.in_ok-command.ensures.widths ∙ tag_width asked.widths c.in_ok-asked.asked widths ∙ asked.tag in
    let bits = made.answer.word.has_width ∙ sym c.word_bits-bits.ensures.bits in
    subst (λ n. AreBelowNets c.finish_stages.new.builder c.in_ok-told.told 4 n) bits
    (subst (λ n. AreBelowNets c.finish_stages.new.builder c.in_ok-told.told n c.in_ok-made.made.answer.word.width) tag c.in_ok-told.ensures.told)

pub finish_arbiter-requires-clause-tag : goal.finish_arbiter-requires-clause-tag
finish_arbiter-requires-clause-tag c =
    let asked = c.requires.commands in
    let same = AllZip-long _ _ _ asked.each in
    let kind = c.in_ok-asked.ensures.kept.kind in
    let e = extends_twice _ _ _ (extends_twice _ _ _ (extends_twice _ _ _ c.emit_arbiter.ensures.grows.extends c.begin_stages.ensures.grows.extends) c.emit_agent.ensures.grows.extends) c.finish_stages.ensures.grows.extends in
    answers_bear _ _ _ asked.widths _ _ c.in_ok-asked.asked c.in_ok-asked.arbiter _ asked.each e c.in_ok-asked.ensures.made (cc)
    (λ lone. c.in_ok-told.ensures.alone lone ∙ c.in_ok-made.ensures.one_tag lone ∙ c.in_ok-command.ensures.one_tag lone)

pub returns-in_err-backs-clause-grows : goal.returns-in_err-backs-clause-grows
returns-in_err-backs-clause-grows c =
    let same = AllZip-long _ _ _ c.requires.commands.each in
    let few = c.requires.stages in
    let hosts = nat_lt 1 (length c.args.askers.now) in
    let fewer = fewer_nets hosts c.args.port.now in
    let more = fewer_memories hosts c.args.port.now in
    memory_grows_within _ _ _ _ _ _ _ _ _ (memory_grows_twice _ _ _ _ _ _ _ (memory_grows_twice _ _ _ _ _ _ _ (memory_grows_twice _ _ _ _ _ _ _ (grows_without_memory _ _ _ c.emit_arbiter.ensures.grows) (grows_without_memory _ _ _ c.begin_stages.ensures.grows)) c.emit_agent.ensures.grows) (grows_without_memory _ _ _ c.finish_stages.ensures.grows)) (grows_without_memory _ _ _ c.finish_arbiter.ensures.grows)
    (omega (arith, same, few, fewer)) (omega (arith, more))

pub returns-in_err-backs-clause-waits : goal.returns-in_err-backs-clause-waits
returns-in_err-backs-clause-waits c n w =
    let within = waiting_within _ n w in
    let before = c.emit_arbiter.ensures.waits n w in
    let below = waiting_within _ n before in
    c.finish_arbiter.ensures.waits n (λ o. (let made = c.in_ok-asked.ensures.owned n o in omega (arith, made.0, within)))
    (c.finish_stages.ensures.waits n (λ o. (let made = c.in_ok-command.ensures.owned n o in omega (arith, made.0, below))) (c.emit_agent.ensures.waits n (c.begin_stages.ensures.waits n before)))

pub returns-in_err-seats-clause-grows : goal.returns-in_err-seats-clause-grows
returns-in_err-seats-clause-grows c =
    let same = AllZip-long _ _ _ c.requires.commands.each in
    let few = c.requires.stages in
    let hosts = nat_lt 1 (length c.args.askers.now) in
    let fewer = fewer_nets hosts c.args.port.now in
    let more = fewer_memories hosts c.args.port.now in
    memory_grows_within _ _ _ _ _ _ _ _ _ (memory_grows_twice _ _ _ _ _ _ _ (memory_grows_twice _ _ _ _ _ _ _ (memory_grows_twice _ _ _ _ _ _ _ (grows_without_memory _ _ _ c.emit_arbiter.ensures.grows) (grows_without_memory _ _ _ c.begin_stages.ensures.grows)) c.emit_agent.ensures.grows) (grows_without_memory _ _ _ c.finish_stages.ensures.grows)) (grows_without_memory _ _ _ c.finish_arbiter.ensures.grows)
    (omega (arith, same, few, fewer)) (omega (arith, more))

pub returns-in_err-seats-clause-waits : goal.returns-in_err-seats-clause-waits
returns-in_err-seats-clause-waits c n w =
    let within = waiting_within _ n w in
    let before = c.emit_arbiter.ensures.waits n w in
    let below = waiting_within _ n before in
    c.finish_arbiter.ensures.waits n (λ o. (let made = c.in_ok-asked.ensures.owned n o in omega (arith, made.0, within)))
    (c.finish_stages.ensures.waits n (λ o. (let made = c.in_ok-command.ensures.owned n o in omega (arith, made.0, below))) (c.emit_agent.ensures.waits n (c.begin_stages.ensures.waits n before)))

pub returns-clause-grows : goal.returns-clause-grows
returns-clause-grows c =
    let same = AllZip-long _ _ _ c.requires.commands.each in
    let few = c.requires.stages in
    let hosts = nat_lt 1 (length c.args.askers.now) in
    let fewer = fewer_nets hosts c.args.port.now in
    let more = fewer_memories hosts c.args.port.now in
    memory_grows_within _ _ _ _ _ _ _ _ _ (memory_grows_twice _ _ _ _ _ _ _ (memory_grows_twice _ _ _ _ _ _ _ (memory_grows_twice _ _ _ _ _ _ _ (grows_without_memory _ _ _ c.emit_arbiter.ensures.grows) (grows_without_memory _ _ _ c.begin_stages.ensures.grows)) c.emit_agent.ensures.grows) (grows_without_memory _ _ _ c.finish_stages.ensures.grows)) (grows_without_memory _ _ _ c.finish_arbiter.ensures.grows)
    (omega (arith, same, few, fewer)) (omega (arith, more))

pub returns-clause-waits : goal.returns-clause-waits
returns-clause-waits c n w =
    let within = waiting_within _ n w in
    let before = c.emit_arbiter.ensures.waits n w in
    let below = waiting_within _ n before in
    c.finish_arbiter.ensures.waits n (λ o. (let made = c.in_ok-asked.ensures.owned n o in omega (arith, made.0, within)))
    (c.finish_stages.ensures.waits n (λ o. (let made = c.in_ok-command.ensures.owned n o in omega (arith, made.0, below))) (c.emit_agent.ensures.waits n (c.begin_stages.ensures.waits n before)))

pub returns-in_err-backs-clause-full : goal.returns-in_err-backs-clause-full
returns-in_err-backs-clause-full c e =
    let same = AllZip-long _ _ _ c.requires.commands.each in
    let few = c.requires.stages in
    let fewer = fewer_nets (nat_lt 1 (length c.args.askers.now)) c.args.port.now in
    let most = c.emit_arbiter.ensures.grows.most in
    let later = c.begin_stages.ensures.grows.most in
    let latest = c.emit_agent.ensures.grows.most in
    let last = c.finish_stages.ensures.grows.most in
    let full = c.finish_arbiter.ensures.full (handed_on _ _ _ _ c.in_err-backs.was c.from_residual-in_err-backs.ensures.1 e) in
    inl (omega (arith, same, few, fewer, most, later, latest, last, full))

pub seats_of-requires-clause-commands : goal.seats_of-requires-clause-commands
seats_of-requires-clause-commands c = AllZip-long _ _ _ c.requires.commands.each

pub returns-clause-no_more_wait : goal.returns-clause-no_more_wait
returns-clause-no_more_wait c n w =
    let last = c.in_ok-backs.ensures.no_more_wait n w in
    let late = c.in_ok-told.ensures.no_more_wait n last.0 in
    elim (c.in_ok-command.ensures.newly n (c.in_ok-made.ensures.no_more_wait n late.0))
    [ inl before ↦ elim (c.in_ok-asked.ensures.newly n before) [ inl old ↦ old | inr own ↦ absurd (last.1 own) ] | inr own ↦ absurd (late.1 own) ]

pub returns-clause-backs : goal.returns-clause-backs
returns-clause-backs c =
    let below = c.in_ok-told.ensures.told in
    let e = c.finish_arbiter.ensures.grows.extends in
    let told = c.in_ok-seats.ensures.backs ∙ c.deref.ensures.value in
    let bits = c.in_ok-made.ensures.nets.answer.word.has_width in
    subst (λ bits. AreToldBelow c.finish_arbiter.new.builder bits c.in_ok-seats.seats) c.word_bits-bits.ensures.bits
    (told_of _ _ _ _ _ _ _ c.in_ok-backs.ensures.made c.in_ok-backs.ensures.count (net_lasts _ _ _ 1 e below.wait)
    (subst (λ n. AreAnswerNets c.finish_arbiter.new.builder c.in_ok-told.told.answer n) (bits ∙ sym c.word_bits-bits.ensures.bits) (answer_lasts _ _ _ _ e below.answer)) told)

pub returns-clause-part : goal.returns-clause-part
returns-clause-part c =
    let same = AllZip-long _ _ _ c.requires.commands.each in
    let asked = c.requires.commands in
    let widths = c.in_ok-asked.ensures.widths (all_widths asked.widths) (asked_have_widths _ _ _ _ asked.each) in
    let pipe = c.in_ok-command.ensures in
    let made = c.in_ok-made.ensures in
    let kind = c.in_ok-asked.ensures.kept.kind in
    let begun = c.begin_stages.ensures.grows.extends in
    let grown = extends_twice _ _ _ begun c.emit_agent.ensures.grows.extends in
    let ends = extends_twice _ _ _ c.finish_stages.ensures.grows.extends c.finish_arbiter.ensures.grows.extends in
    let chosen = forward_lasts _ _ _ _ _ _ c.in_ok-asked.ensures.made begun in
    let forward = forward_lasts _ _ _ _ _ _ c.in_ok-asked.ensures.made (extends_twice _ _ _ grown ends) in
    let keeps = keeps_lasts _ _ _ _ c.in_ok-asked.ensures.kept grown (λ n o w. c.emit_agent.ensures.waits n (c.begin_stages.ensures.waits n w)) in
    let stands = stages_last c.begin_stages.new.builder c.emit_agent.new.builder c.args.stages (nat_lt 1 (length c.args.askers.now)) c.in_ok-asked.asked c.in_ok-command.command c.in_ok-command.kept pipe.stages c.emit_agent.ensures.grows.extends c.emit_agent.ensures.waits in
    let run = c.in_ok-told.ensures.machine c.in_ok-asked.asked c.in_ok-command.command stands
    (λ lone. (bears_on _ _ c.in_ok-asked.asked grown (lone_bears _ _ c.requires.commands.widths _ _ _ c.in_ok-asked.arbiter c.requires.commands.each c.emit_arbiter.ensures.grows.extends c.in_ok-asked.ensures.made (cc)), made.one_tag lone ∙ pipe.one_tag lone)) in
    agent_part_is c.begin_stages.new.builder c.emit_agent.new.builder c.finish_arbiter.new.builder c.args.stages c.args.port.now c.args.nets.now c.args.askers.now c.args.commands.now c.in_ok-asked.asked c.in_ok-told.told c.in_ok-command.command c.in_ok-asked.arbiter c.in_ok-made.made c.in_ok-backs.backs.items c.in_ok-seats.seats
    (record {
      bounded = c.requires.port;
      nets_are = agent_lasts _ _ _ _ c.requires.nets (extends_twice _ _ _ c.emit_arbiter.ensures.grows.extends begun);
      command_is = pipe.command;
      word = ap (λ (w : Widths). w.word) pipe.widths ∙ word_width asked.widths c.in_ok-asked.asked widths ∙ asked.word;
      enables = ap (λ (w : Widths). w.enables) pipe.widths ∙ enables_width asked.widths c.in_ok-asked.asked widths ∙ asked.enables;
      count = ap (λ (w : Widths). w.count) pipe.widths ∙ count_width asked.widths c.in_ok-asked.asked widths ∙ asked.count;
      tag = ap (λ (w : Widths). w.tag) pipe.widths ∙ tag_width asked.widths c.in_ok-asked.asked widths ∙ asked.tag;
      chosen = chosen;
      stages_ignore = pipe.ignores_answer;
      grows = c.emit_agent.ensures.grows.extends;
      made_are = made.nets;
      registers = made.registers;
      ignores = made.ignores;
      runs = made.machine;
      arbiter_registers = λ n o. waiting_register _ n c.well_made.ensures (owned_wait _ _ _ keeps n o);
      ends = ends;
      turns = c.in_ok-backs.ensures.machine c.args.commands.now c.in_ok-asked.asked same forward;
      stages_run = λ longer f. run longer (extends_twice _ _ longer c.finish_arbiter.ensures.grows.extends f);
      no_stage = λ none. (sym (pipe.no_stage none), c.in_ok-told.ensures.no_stage none);
    })
    c.in_ok-seats.ensures.askers c.in_ok-seats.ensures.commands (c.in_ok-seats.ensures.backs ∙ c.deref.ensures.value)

pub returns-clause-bounds : goal.returns-clause-bounds
returns-clause-bounds c =
    let same = AllZip-long _ _ _ c.requires.commands.each in
    let last = extends_twice _ _ _ c.finish_stages.ensures.grows.extends c.finish_arbiter.ensures.grows.extends in
    let from_agent = extends_twice _ _ _ c.emit_agent.ensures.grows.extends last in
    let from_stages = extends_twice _ _ _ c.begin_stages.ensures.grows.extends from_agent in
    bounds_reads c.args.builder.now c.emit_agent.new.builder c.finish_arbiter.new.builder c.args.stages c.args.port.now c.args.nets.now c.args.askers.now c.args.commands.now c.in_ok-asked.asked c.in_ok-command.command c.in_ok-asked.arbiter c.in_ok-told.told c.in_ok-made.made c.in_ok-backs.backs.items c.in_ok-seats.seats
    (record {
      part = c.in_ok-made.ensures.part;
      queue = c.in_ok-made.ensures.queue;
      grows = last;
      widths = c.requires.commands.widths;
      each = c.requires.commands.each;
      grew = extends_twice _ _ _ c.emit_arbiter.ensures.grows.extends from_stages;
      passes = c.in_ok-backs.ensures.passes c.args.commands.now c.in_ok-asked.asked same (forward_lasts _ _ _ _ _ _ c.in_ok-asked.ensures.made from_stages);
      lone = λ one. c.in_ok-asked.ensures.made.alone (none_of c.in_ok-asked.arbiter.round (c.in_ok-asked.ensures.kept.kind ∙ ap (nat_lt 1) same ∙ one));
      stages_run = (returns-clause-part c).stages_run;
      one_tag = c.in_ok-command.ensures.one_tag;
    })
    c.in_ok-seats.ensures.askers c.in_ok-seats.ensures.commands (c.in_ok-seats.ensures.backs ∙ c.deref.ensures.value)

pub returns-in_err-asked-clause-still_wait_for_write : goal.returns-in_err-asked-clause-still_wait_for_write
returns-in_err-asked-clause-still_wait_for_write c m w = writes_wait_alike c.args.builder.now c.emit_arbiter.new.builder c.emit_arbiter.ensures.grows.memories m w

pub returns-in_err-command-clause-still_wait_for_write : goal.returns-in_err-command-clause-still_wait_for_write
returns-in_err-command-clause-still_wait_for_write c m w = writes_wait_alike c.emit_arbiter.new.builder c.begin_stages.new.builder c.begin_stages.ensures.grows.memories m (writes_wait_alike c.args.builder.now c.emit_arbiter.new.builder c.emit_arbiter.ensures.grows.memories m w)

pub returns-in_err-made-clause-still_wait_for_write : goal.returns-in_err-made-clause-still_wait_for_write
returns-in_err-made-clause-still_wait_for_write c m w = c.emit_agent.ensures.still_wait_for_write m (writes_wait_alike c.emit_arbiter.new.builder c.begin_stages.new.builder c.begin_stages.ensures.grows.memories m (writes_wait_alike c.args.builder.now c.emit_arbiter.new.builder c.emit_arbiter.ensures.grows.memories m w))

pub returns-in_err-told-clause-still_wait_for_write : goal.returns-in_err-told-clause-still_wait_for_write
returns-in_err-told-clause-still_wait_for_write c m w = writes_wait_alike c.emit_agent.new.builder c.finish_stages.new.builder c.finish_stages.ensures.grows.memories m (c.emit_agent.ensures.still_wait_for_write m (writes_wait_alike c.emit_arbiter.new.builder c.begin_stages.new.builder c.begin_stages.ensures.grows.memories m (writes_wait_alike c.args.builder.now c.emit_arbiter.new.builder c.emit_arbiter.ensures.grows.memories m w)))

pub returns-in_err-backs-clause-still_wait_for_write : goal.returns-in_err-backs-clause-still_wait_for_write
returns-in_err-backs-clause-still_wait_for_write c m w = writes_wait_alike c.finish_stages.new.builder c.finish_arbiter.new.builder c.finish_arbiter.ensures.grows.memories m (writes_wait_alike c.emit_agent.new.builder c.finish_stages.new.builder c.finish_stages.ensures.grows.memories m (c.emit_agent.ensures.still_wait_for_write m (writes_wait_alike c.emit_arbiter.new.builder c.begin_stages.new.builder c.begin_stages.ensures.grows.memories m (writes_wait_alike c.args.builder.now c.emit_arbiter.new.builder c.emit_arbiter.ensures.grows.memories m w))))

pub returns-in_err-seats-clause-still_wait_for_write : goal.returns-in_err-seats-clause-still_wait_for_write
returns-in_err-seats-clause-still_wait_for_write c m w = writes_wait_alike c.finish_stages.new.builder c.finish_arbiter.new.builder c.finish_arbiter.ensures.grows.memories m (writes_wait_alike c.emit_agent.new.builder c.finish_stages.new.builder c.finish_stages.ensures.grows.memories m (c.emit_agent.ensures.still_wait_for_write m (writes_wait_alike c.emit_arbiter.new.builder c.begin_stages.new.builder c.begin_stages.ensures.grows.memories m (writes_wait_alike c.args.builder.now c.emit_arbiter.new.builder c.emit_arbiter.ensures.grows.memories m w))))

pub returns-clause-still_wait_for_write : goal.returns-clause-still_wait_for_write
returns-clause-still_wait_for_write c m w = writes_wait_alike c.finish_stages.new.builder c.finish_arbiter.new.builder c.finish_arbiter.ensures.grows.memories m (writes_wait_alike c.emit_agent.new.builder c.finish_stages.new.builder c.finish_stages.ensures.grows.memories m (c.emit_agent.ensures.still_wait_for_write m (writes_wait_alike c.emit_arbiter.new.builder c.begin_stages.new.builder c.begin_stages.ensures.grows.memories m (writes_wait_alike c.args.builder.now c.emit_arbiter.new.builder c.emit_arbiter.ensures.grows.memories m w))))

pub returns-clause-no_more_wait_for_write : goal.returns-clause-no_more_wait_for_write
returns-clause-no_more_wait_for_write c m w =
    let below = writes_waited_alike c.emit_agent.new.builder c.finish_stages.new.builder c.finish_stages.ensures.grows.memories m (writes_waited_alike c.finish_stages.new.builder c.finish_arbiter.new.builder c.finish_arbiter.ensures.grows.memories m w) in
    writes_waited_alike c.args.builder.now c.emit_arbiter.new.builder c.emit_arbiter.ensures.grows.memories m (writes_waited_alike c.emit_arbiter.new.builder c.begin_stages.new.builder c.begin_stages.ensures.grows.memories m (c.in_ok-made.ensures.no_more_wait_for_write m below))
