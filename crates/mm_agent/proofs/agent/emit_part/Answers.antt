use Rattle.std.proofs.Common.{ℕ, Option, Some, None, sym, subst, ap, ◌∙◌, inl, inr, arith}
use Rattle.std.specs.Prelude.{IfSome, is_some}
use Rattle.iface_roles.specs.declared.records.AgentPort.{AgentPort}
use Rattle.netlist.specs.Nets.{NetValue}
use Rattle.netlist.specs.Netlists.{Netlist, IsWaiting}
use Rattle.netlist.specs.Longer.{Extends}
use Rattle.net_parts.specs.Nets.{IsNetOfWidth}
use Rattle.net_parts.specs.Refusing.{handed_on}
use Rattle.net_parts.specs.Laws.{extends_twice, net_lasts, waiting_within, waiting_register, register_lasts, adds_grow, grows_fewer, grows_twice}
use Rattle.command_nets.specs.Ports.{HasNet, has_lasts, given}
use Rattle.mm_agent.specs.Agents.{agent_lasts}
use Rattle.read_queues.specs.declared.queue.HeldReadQueue.{HeldReadQueue}
use Rattle.mm_agent.specs.Reads.{IsReadQueue, finish_nets, read_queue_lasts, reads_last, reads_go_on, row_is_there}
use Rattle.mm_agent.specs.Waits.{wait_lasts, wait_goes_on, stood_is_net}
use Rattle.mm_agent.specs.Answers.{tag_nets, answers_last}
use Rattle.mm_agent.proofs.Waiting.{as_given}
use Rattle.mm_agent.proofs.Words.{words_given, one_answer_tag}
use Rattle.mm_agent.proofs.agent.emit_part.Goals as goal

-- ---- what the calls ask

queue_lasts : (old new : Netlist) (port : AgentPort) (queue : Option HeldReadQueue) → IfSome queue (IsReadQueue old port) → Extends old new → IfSome queue (IsReadQueue new port)
queue_lasts old new port None h e = tt
queue_lasts old new port (Some queue) h e = read_queue_lasts old new port queue h e

tag_lasts : (old new : Netlist) (bits : ℕ) (queue : Option HeldReadQueue) → IfSome queue (λ held. IsNetOfWidth old held.tag bits) → Extends old new → IfSome queue (λ held. IsNetOfWidth new held.tag bits)
tag_lasts old new bits None h e = tt
tag_lasts old new bits (Some queue) h e = net_lasts old new queue.tag bits e h

pub place_address-requires-clause-address : goal.place_address-requires-clause-address
place_address-requires-clause-address c = c.requires.command.address

pub hold_wait-requires-clause-waitrequest : goal.hold_wait-requires-clause-waitrequest
hold_wait-requires-clause-waitrequest c = has_lasts _ _ _ _ _ c.requires.nets.waitrequest c.place_address.ensures.adds.grows.extends

pub hold_wait-requires-clause-write : goal.hold_wait-requires-clause-write
hold_wait-requires-clause-write c = net_lasts _ _ _ _ c.place_address.ensures.adds.grows.extends c.requires.command.write

pub hold_reads-requires-clause-queue : goal.hold_reads-requires-clause-queue
hold_reads-requires-clause-queue c = queue_lasts _ _ _ c.args.queue c.requires.queue (extends_twice _ _ _ c.place_address.ensures.adds.grows.extends c.hold_wait.ensures.grows.extends)

pub answer_tag-requires-clause-queue : goal.answer_tag-requires-clause-queue
answer_tag-requires-clause-queue c =
    let e5 = extends_twice _ _ _ c.finish_reads.ensures.grows.extends c.finish_wait.ensures.grows.extends in
    let e4 = extends_twice _ _ _ c.give_answer.ensures.grows.extends e5 in
    let e3 = extends_twice _ _ _ c.hold_reads.ensures.grows.extends e4 in
    let e2 = extends_twice _ _ _ c.hold_wait.ensures.grows.extends e3 in
    let lasts = tag_lasts _ _ c.args.command.now.tag.width c.args.queue c.requires.queue_tag (extends_twice _ _ _ c.place_address.ensures.adds.grows.extends e2) in
    subst (λ (q : Option HeldReadQueue). IfSome q (λ held. IsNetOfWidth c.finish_wait.new.builder held.tag c.args.command.now.tag.width)) (sym c.in_ok-shown.ensures.queue) lasts

pub finish_reads-requires-clause-shown : goal.finish_reads-requires-clause-shown
finish_reads-requires-clause-shown c = net_lasts _ _ _ _ c.give_answer.ensures.grows.extends c.in_ok-shown.ensures.shown

pub finish_reads-requires-clause-valid : goal.finish_reads-requires-clause-valid
finish_reads-requires-clause-valid c = c.in_ok-answer.ensures.nets.valid

pub hold_reads-requires-clause-read : goal.hold_reads-requires-clause-read
hold_reads-requires-clause-read c = net_lasts _ _ _ _ (extends_twice _ _ _ c.place_address.ensures.adds.grows.extends c.hold_wait.ensures.grows.extends) c.requires.command.read

pub give_answer-requires-clause-nets : goal.give_answer-requires-clause-nets
give_answer-requires-clause-nets c =
    let e2 = extends_twice _ _ _ c.hold_wait.ensures.grows.extends c.hold_reads.ensures.grows.extends in
    agent_lasts _ _ _ _ c.requires.nets (extends_twice _ _ _ c.place_address.ensures.adds.grows.extends e2)

pub give_answer-requires-clause-row : goal.give_answer-requires-clause-row
give_answer-requires-clause-row c = row_is_there _ _ _ _ _ c.in_ok-shown.ensures.held

pub finish_reads-requires-clause-held : goal.finish_reads-requires-clause-held
finish_reads-requires-clause-held c = reads_last _ _ _ _ _ _ c.in_ok-shown.ensures.held c.give_answer.ensures.grows.extends

pub finish_reads-requires-clause-read : goal.finish_reads-requires-clause-read
finish_reads-requires-clause-read c =
    let e3 = extends_twice _ _ _ c.hold_reads.ensures.grows.extends c.give_answer.ensures.grows.extends in
    let e2 = extends_twice _ _ _ c.hold_wait.ensures.grows.extends e3 in
    net_lasts _ _ _ _ (extends_twice _ _ _ c.place_address.ensures.adds.grows.extends e2) c.requires.command.read

pub finish_reads-requires-clause-busy : goal.finish_reads-requires-clause-busy
finish_reads-requires-clause-busy c = net_lasts _ _ _ _ (extends_twice _ _ _ c.hold_reads.ensures.grows.extends c.give_answer.ensures.grows.extends) c.in_ok-told.ensures.busy

pub finish_reads-requires-clause-waits : goal.finish_reads-requires-clause-waits
finish_reads-requires-clause-waits c n own = c.give_answer.ensures.still_wait n (c.in_ok-shown.ensures.own_wait n own)

pub finish_wait-requires-clause-held : goal.finish_wait-requires-clause-held
finish_wait-requires-clause-held c =
    let e3 = extends_twice _ _ _ c.give_answer.ensures.grows.extends c.finish_reads.ensures.grows.extends in
    stood_is_net _ _ _ _ _ _ (wait_lasts _ _ _ _ _ _ _ c.in_ok-told.ensures.held (extends_twice _ _ _ c.hold_reads.ensures.grows.extends e3))

pub finish_wait-requires-clause-read : goal.finish_wait-requires-clause-read
finish_wait-requires-clause-read c = net_lasts _ _ _ _ (extends_twice _ _ _ c.give_answer.ensures.grows.extends c.finish_reads.ensures.grows.extends) c.in_ok-shown.ensures.shown

pub finish_wait-requires-clause-write : goal.finish_wait-requires-clause-write
finish_wait-requires-clause-write c =
    let e4 = extends_twice _ _ _ c.give_answer.ensures.grows.extends c.finish_reads.ensures.grows.extends in
    let e3 = extends_twice _ _ _ c.hold_reads.ensures.grows.extends e4 in
    let e2 = extends_twice _ _ _ c.hold_wait.ensures.grows.extends e3 in
    net_lasts _ _ _ _ (extends_twice _ _ _ c.place_address.ensures.adds.grows.extends e2) c.requires.command.write

pub finish_wait-requires-clause-busy : goal.finish_wait-requires-clause-busy
finish_wait-requires-clause-busy c =
    let e3 = extends_twice _ _ _ c.give_answer.ensures.grows.extends c.finish_reads.ensures.grows.extends in
    net_lasts _ _ _ _ (extends_twice _ _ _ c.hold_reads.ensures.grows.extends e3) c.in_ok-told.ensures.busy

pub finish_wait-requires-clause-waits : goal.finish_wait-requires-clause-waits
finish_wait-requires-clause-waits c n own =
    let late = c.in_ok-told.ensures.owned n own in
    let held = c.give_answer.ensures.still_wait n (c.hold_reads.ensures.still_wait n (c.in_ok-told.ensures.own_wait n own)) in
    c.finish_reads.ensures.waits n (λ o. (let made = c.in_ok-shown.ensures.owned n o in omega (arith, made.0, late.1))) held

pub answer_tag-requires-clause-tag : goal.answer_tag-requires-clause-tag
answer_tag-requires-clause-tag c =
    let e5 = extends_twice _ _ _ c.finish_reads.ensures.grows.extends c.finish_wait.ensures.grows.extends in
    let e4 = extends_twice _ _ _ c.give_answer.ensures.grows.extends e5 in
    let e3 = extends_twice _ _ _ c.hold_reads.ensures.grows.extends e4 in
    let e2 = extends_twice _ _ _ c.hold_wait.ensures.grows.extends e3 in
    (extends_twice _ _ _ c.place_address.ensures.adds.grows.extends e2).nets _ _ c.requires.command.tag

-- ---- growth

pub returns-in_err-address-clause-grows : goal.returns-in_err-address-clause-grows
returns-in_err-address-clause-grows c =
    grows_fewer _ _ _ _ (omega arith) (adds_grow _ _ _ c.place_address.ensures.adds)

pub returns-in_err-told-clause-grows : goal.returns-in_err-told-clause-grows
returns-in_err-told-clause-grows c =
    grows_fewer _ _ _ _ (omega arith) (grows_twice _ _ _ _ _ (adds_grow _ _ _ c.place_address.ensures.adds) c.hold_wait.ensures.grows)

pub returns-in_err-shown-clause-grows : goal.returns-in_err-shown-clause-grows
returns-in_err-shown-clause-grows c =
    let begun = grows_twice _ _ _ _ _ (adds_grow _ _ _ c.place_address.ensures.adds) c.hold_wait.ensures.grows in
    grows_fewer _ _ _ _ (omega arith) (grows_twice _ _ _ _ _ begun c.hold_reads.ensures.grows)

pub returns-in_err-answer-clause-grows : goal.returns-in_err-answer-clause-grows
returns-in_err-answer-clause-grows c =
    let begun = grows_twice _ _ _ _ _ (adds_grow _ _ _ c.place_address.ensures.adds) c.hold_wait.ensures.grows in
    grows_fewer _ _ _ _ (omega arith) (grows_twice _ _ _ _ _ (grows_twice _ _ _ _ _ begun c.hold_reads.ensures.grows) c.give_answer.ensures.grows)

pub returns-in_err-waitrequest-clause-grows : goal.returns-in_err-waitrequest-clause-grows
returns-in_err-waitrequest-clause-grows c =
    let finish = ap finish_nets c.in_ok-shown.ensures.queue in
    let begun = grows_twice _ _ _ _ _ (adds_grow _ _ _ c.place_address.ensures.adds) c.hold_wait.ensures.grows in
    let held = grows_twice _ _ _ _ _ (grows_twice _ _ _ _ _ begun c.hold_reads.ensures.grows) c.give_answer.ensures.grows in
    grows_fewer _ _ _ _ (omega (arith, finish)) (grows_twice _ _ _ _ _ held c.finish_reads.ensures.grows)

pub returns-in_err-finish_wait-clause-grows : goal.returns-in_err-finish_wait-clause-grows
returns-in_err-finish_wait-clause-grows c =
    let finish = ap finish_nets c.in_ok-shown.ensures.queue in
    let begun = grows_twice _ _ _ _ _ (adds_grow _ _ _ c.place_address.ensures.adds) c.hold_wait.ensures.grows in
    let held = grows_twice _ _ _ _ _ (grows_twice _ _ _ _ _ begun c.hold_reads.ensures.grows) c.give_answer.ensures.grows in
    grows_fewer _ _ _ _ (omega (arith, finish)) (grows_twice _ _ _ _ _ (grows_twice _ _ _ _ _ held c.finish_reads.ensures.grows) c.finish_wait.ensures.grows)

pub returns-in_err-answer_tag-clause-grows : goal.returns-in_err-answer_tag-clause-grows
returns-in_err-answer_tag-clause-grows c =
    let finish = ap finish_nets c.in_ok-shown.ensures.queue in
    let tags = ap (tag_nets c.args.several) c.in_ok-shown.ensures.queue in
    let begun = grows_twice _ _ _ _ _ (adds_grow _ _ _ c.place_address.ensures.adds) c.hold_wait.ensures.grows in
    let held = grows_twice _ _ _ _ _ (grows_twice _ _ _ _ _ begun c.hold_reads.ensures.grows) c.give_answer.ensures.grows in
    let set = grows_twice _ _ _ _ _ (grows_twice _ _ _ _ _ held c.finish_reads.ensures.grows) c.finish_wait.ensures.grows in
    grows_fewer _ _ _ _ (omega (arith, finish, tags)) (grows_twice _ _ _ _ _ set c.answer_tag.ensures.grows)

pub returns-clause-grows : goal.returns-clause-grows
returns-clause-grows c =
    let finish = ap finish_nets c.in_ok-shown.ensures.queue in
    let tags = ap (tag_nets c.args.several) c.in_ok-shown.ensures.queue in
    let begun = grows_twice _ _ _ _ _ (adds_grow _ _ _ c.place_address.ensures.adds) c.hold_wait.ensures.grows in
    let held = grows_twice _ _ _ _ _ (grows_twice _ _ _ _ _ begun c.hold_reads.ensures.grows) c.give_answer.ensures.grows in
    let set = grows_twice _ _ _ _ _ (grows_twice _ _ _ _ _ held c.finish_reads.ensures.grows) c.finish_wait.ensures.grows in
    grows_fewer _ _ _ _ (omega (arith, finish, tags)) (grows_twice _ _ _ _ _ set c.answer_tag.ensures.grows)

-- ---- fullness

pub returns-in_err-address-clause-full : goal.returns-in_err-address-clause-full
returns-in_err-address-clause-full c e =
    let full = c.place_address.ensures.full (handed_on _ _ _ _ c.in_err-address.was c.from_residual.ensures.1 e) in
    omega (arith, full)

pub returns-in_err-told-clause-full : goal.returns-in_err-told-clause-full
returns-in_err-told-clause-full c e =
    let most0 = c.place_address.ensures.adds.most in
    let full = c.hold_wait.ensures.full (handed_on _ _ _ _ c.in_err-told.was c.from_residual-in_err-told.ensures.1 e) in
    omega (arith, most0, full)

pub returns-in_err-shown-clause-full : goal.returns-in_err-shown-clause-full
returns-in_err-shown-clause-full c e =
    let most0 = c.place_address.ensures.adds.most in
    let most1 = c.hold_wait.ensures.grows.most in
    let full = c.hold_reads.ensures.full (handed_on _ _ _ _ c.in_err-shown.was c.from_residual-in_err-shown.ensures.1 e) in
    omega (arith, most0, most1, full)

pub returns-in_err-answer-clause-full : goal.returns-in_err-answer-clause-full
returns-in_err-answer-clause-full c e =
    let most0 = c.place_address.ensures.adds.most in
    let most1 = c.hold_wait.ensures.grows.most in
    let most2 = c.hold_reads.ensures.grows.most in
    let full = c.give_answer.ensures.full (handed_on _ _ _ _ c.in_err-answer.was c.from_residual-in_err-answer.ensures.1 e) in
    omega (arith, most0, most1, most2, full)

pub returns-in_err-waitrequest-clause-full : goal.returns-in_err-waitrequest-clause-full
returns-in_err-waitrequest-clause-full c e =
    let finish = ap finish_nets c.in_ok-shown.ensures.queue in
    let most0 = c.place_address.ensures.adds.most in
    let most1 = c.hold_wait.ensures.grows.most in
    let most2 = c.hold_reads.ensures.grows.most in
    let most3 = c.give_answer.ensures.grows.most in
    let full = c.finish_reads.ensures.full (handed_on _ _ _ _ c.in_err-waitrequest.was c.from_residual-in_err-waitrequest.ensures.1 e) in
    omega (arith, finish, most0, most1, most2, most3, full)

pub returns-in_err-finish_wait-clause-full : goal.returns-in_err-finish_wait-clause-full
returns-in_err-finish_wait-clause-full c e =
    let finish = ap finish_nets c.in_ok-shown.ensures.queue in
    let most0 = c.place_address.ensures.adds.most in
    let most1 = c.hold_wait.ensures.grows.most in
    let most2 = c.hold_reads.ensures.grows.most in
    let most3 = c.give_answer.ensures.grows.most in
    let most4 = c.finish_reads.ensures.grows.most in
    let full = c.finish_wait.ensures.full (handed_on _ _ _ _ c.in_err-finish_wait.was c.from_residual-in_err-finish_wait.ensures.1 e) in
    omega (arith, finish, most0, most1, most2, most3, most4, full)

pub returns-in_err-answer_tag-clause-full : goal.returns-in_err-answer_tag-clause-full
returns-in_err-answer_tag-clause-full c e =
    let finish = ap finish_nets c.in_ok-shown.ensures.queue in
    let tags = ap (tag_nets c.args.several) c.in_ok-shown.ensures.queue in
    let most0 = c.place_address.ensures.adds.most in
    let most1 = c.hold_wait.ensures.grows.most in
    let most2 = c.hold_reads.ensures.grows.most in
    let most3 = c.give_answer.ensures.grows.most in
    let most4 = c.finish_reads.ensures.grows.most in
    let most5 = c.finish_wait.ensures.grows.most in
    let full = c.answer_tag.ensures.full (handed_on _ _ _ _ c.in_err-answer_tag.was c.from_residual-in_err-answer_tag.ensures.1 e) in
    omega (arith, finish, tags, most0, most1, most2, most3, most4, most5, full)

pub returns-clause-full : goal.returns-clause-full
returns-clause-full c e = cc

-- ---- registers that wait

pub returns-in_err-address-clause-waits : goal.returns-in_err-address-clause-waits
returns-in_err-address-clause-waits c n w = c.place_address.ensures.adds.grows.waits n w

pub returns-in_err-told-clause-waits : goal.returns-in_err-told-clause-waits
returns-in_err-told-clause-waits c n w = c.hold_wait.ensures.still_wait n (c.place_address.ensures.adds.grows.waits n w)

pub returns-in_err-shown-clause-waits : goal.returns-in_err-shown-clause-waits
returns-in_err-shown-clause-waits c n w = c.hold_reads.ensures.still_wait n (c.hold_wait.ensures.still_wait n (c.place_address.ensures.adds.grows.waits n w))

pub returns-in_err-answer-clause-waits : goal.returns-in_err-answer-clause-waits
returns-in_err-answer-clause-waits c n w = c.give_answer.ensures.still_wait n (c.hold_reads.ensures.still_wait n (c.hold_wait.ensures.still_wait n (c.place_address.ensures.adds.grows.waits n w)))

pub returns-in_err-waitrequest-clause-waits : goal.returns-in_err-waitrequest-clause-waits
returns-in_err-waitrequest-clause-waits c n w =
    let held = c.hold_wait.ensures.still_wait n (c.place_address.ensures.adds.grows.waits n w) in
    let within = waiting_within _ n held in
    c.finish_reads.ensures.waits n (λ o. (let made = c.in_ok-shown.ensures.owned n o in omega (arith, made.0, within))) (c.give_answer.ensures.still_wait n (c.hold_reads.ensures.still_wait n held))

pub returns-in_err-finish_wait-clause-waits : goal.returns-in_err-finish_wait-clause-waits
returns-in_err-finish_wait-clause-waits c n w =
    let before = c.place_address.ensures.adds.grows.waits n w in
    let begun = waiting_within _ n before in
    let held = c.hold_wait.ensures.still_wait n before in
    let within = waiting_within _ n held in
    let read = c.finish_reads.ensures.waits n (λ o. (let made = c.in_ok-shown.ensures.owned n o in omega (arith, made.0, within))) (c.give_answer.ensures.still_wait n (c.hold_reads.ensures.still_wait n held)) in
    c.finish_wait.ensures.waits n (λ o. (let made = c.in_ok-told.ensures.owned n o in omega (arith, made.0, begun))) read

pub returns-in_err-answer_tag-clause-waits : goal.returns-in_err-answer_tag-clause-waits
returns-in_err-answer_tag-clause-waits c n w =
    let before = c.place_address.ensures.adds.grows.waits n w in
    let begun = waiting_within _ n before in
    let held = c.hold_wait.ensures.still_wait n before in
    let within = waiting_within _ n held in
    let read = c.finish_reads.ensures.waits n (λ o. (let made = c.in_ok-shown.ensures.owned n o in omega (arith, made.0, within))) (c.give_answer.ensures.still_wait n (c.hold_reads.ensures.still_wait n held)) in
    c.answer_tag.ensures.still_wait n (c.finish_wait.ensures.waits n (λ o. (let made = c.in_ok-told.ensures.owned n o in omega (arith, made.0, begun))) read)

pub returns-clause-waits : goal.returns-clause-waits
returns-clause-waits c n w =
    let before = c.place_address.ensures.adds.grows.waits n w in
    let begun = waiting_within _ n before in
    let held = c.hold_wait.ensures.still_wait n before in
    let within = waiting_within _ n held in
    let read = c.finish_reads.ensures.waits n (λ o. (let made = c.in_ok-shown.ensures.owned n o in omega (arith, made.0, within))) (c.give_answer.ensures.still_wait n (c.hold_reads.ensures.still_wait n held)) in
    c.answer_tag.ensures.still_wait n (c.finish_wait.ensures.waits n (λ o. (let made = c.in_ok-told.ensures.owned n o in omega (arith, made.0, begun))) read)

pub returns-clause-no_more_wait : goal.returns-clause-no_more_wait
returns-clause-no_more_wait c n w =
    let stood = c.in_ok-finish_wait.ensures.no_more_wait n (c.in_ok-answer_tag.ensures.no_more_wait n w) in
    let late = c.in_ok-waitrequest.ensures.no_more_wait n stood.0 in
    elim (c.in_ok-shown.ensures.newly n (c.in_ok-answer.ensures.no_more_wait n late.0)) [
      | inl before ↦ elim (c.in_ok-told.ensures.newly n before) [
        | inl first ↦ c.place_address.ensures.adds.grows.no_more_wait n first
        | inr own ↦ absurd (stood.1 own)
      ]
      | inr own ↦ absurd (late.1 own)
    ]

-- ---- what is made

pub returns-clause-one_tag : goal.returns-clause-one_tag
returns-clause-one_tag c = one_answer_tag _ c.args.several _ _ _ _ c.in_ok-answer_tag.ensures.value

pub returns-clause-nets : goal.returns-clause-nets
returns-clause-nets c =
    let e6 = c.answer_tag.ensures.grows.extends in
    let e5 = extends_twice _ _ _ c.finish_wait.ensures.grows.extends e6 in
    let e4 = extends_twice _ _ _ c.finish_reads.ensures.grows.extends e5 in
    let e3 = extends_twice _ _ _ c.give_answer.ensures.grows.extends e4 in
    let e2 = extends_twice _ _ _ c.hold_reads.ensures.grows.extends e3 in
    let e1 = extends_twice _ _ _ c.hold_wait.ensures.grows.extends e2 in
    let answer = c.in_ok-answer.ensures.nets in
    record {
      address = has_lasts _ _ _ _ _ c.in_ok-address.ensures.net e1;
      read = subst (λ (o : Option NetValue). HasNet c.answer_tag.new.builder c.args.port.now.reads 1 o) (sym c.read_of.ensures) (given _ c.args.port.now.reads c.in_ok-shown.shown.shown (net_lasts _ _ _ _ e3 c.in_ok-shown.ensures.shown));
      waitrequest = net_lasts _ _ _ _ e5 c.in_ok-waitrequest.ensures.told;
      answer = record { valid = net_lasts _ _ _ _ e4 answer.valid; word = net_lasts _ _ _ _ e4 answer.word; code = net_lasts _ _ _ _ e4 answer.code };
      answer_tag = c.in_ok-answer_tag.ensures.net;
    }

pub returns-clause-part : goal.returns-clause-part
returns-clause-part c =
    let e6 = c.answer_tag.ensures.grows.extends in
    let e5 = extends_twice _ _ _ c.finish_wait.ensures.grows.extends e6 in
    let e4 = extends_twice _ _ _ c.finish_reads.ensures.grows.extends e5 in
    let e3 = extends_twice _ _ _ c.give_answer.ensures.grows.extends e4 in
    let e2 = extends_twice _ _ _ c.hold_reads.ensures.grows.extends e3 in
    let e1 = extends_twice _ _ _ c.hold_wait.ensures.grows.extends e2 in
    let e0 = extends_twice _ _ _ c.place_address.ensures.adds.grows.extends e1 in
    let nets_are = agent_lasts _ _ _ _ c.requires.nets e0 in
    let wait = wait_lasts _ _ _ _ _ _ _ c.in_ok-told.ensures.held e2 in
    let held = reads_last _ _ _ _ _ _ c.in_ok-shown.ensures.held e3 in
    let answers = answers_last _ _ _ _ _ _ c.in_ok-answer.ensures.value e4 in
    record {
      queued = ap (λ (o : Option HeldReadQueue). is_some o) c.in_ok-shown.ensures.queue ∙ c.requires.queued;
      nets_are = nets_are;
      shown = c.in_ok-shown.shown.shown;
      shown_bit = net_lasts _ _ _ _ e3 c.in_ok-shown.ensures.shown;
      read_bit = net_lasts _ _ _ _ e0 c.requires.command.read;
      read = c.read_of.ensures;
      busy = c.in_ok-told.told.busy;
      waits = as_given _ _ _ _ _ _ nets_are.waitrequest (net_lasts _ _ _ _ e2 c.in_ok-told.ensures.busy) wait;
      wait_held = wait;
      wait_on = wait_goes_on _ _ _ _ _ _ _ c.in_ok-finish_wait.ensures.on e6;
      address = λ cycle v. c.in_ok-address.ensures.value cycle (e1.valuations cycle v);
      answer = words_given _ _ _ _ _ _ _ held answers;
      answers = answers;
      held = held;
      on = reads_go_on _ _ _ _ _ _ _ _ c.in_ok-waitrequest.ensures.on e5;
      one_tag = λ one. (let bears = c.requires.tag one in record { tag = bears.tag; always = λ cycle v. bears.always cycle (e0.valuations cycle v) });
      tag = one_answer_tag _ c.args.several _ _ _ _ c.in_ok-answer_tag.ensures.value;
      answer_tag = c.in_ok-answer_tag.ensures.value;
    }

pub returns-clause-registers : goal.returns-clause-registers
returns-clause-registers c n o =
    let waits : IsWaiting c.give_answer.new.builder n = c.give_answer.ensures.still_wait n (elim o [
      | inl read ↦ c.in_ok-shown.ensures.own_wait n read
      | inr own ↦ c.hold_reads.ensures.still_wait n (c.in_ok-told.ensures.own_wait n own)
    ]) in
    register_lasts _ _ n (extends_twice _ _ _ c.finish_reads.ensures.grows.extends (extends_twice _ _ _ c.finish_wait.ensures.grows.extends c.answer_tag.ensures.grows.extends)) (waiting_register _ n c.well_made.ensures waits)

pub returns-clause-queue : goal.returns-clause-queue
returns-clause-queue c = c.in_ok-shown.ensures.queue
