use Rattle.std.proofs.Common.{length, refl, inl, inr, sym, subst, ap, arith}
use Rattle.netlist.specs.declared.line.Memory.{Memory}
use Rattle.netlist.specs.Nets.{NetValue}
use Rattle.std.proofs.Common.{Option}
use Rattle.net_parts.specs.Laws.{extends_twice, net_lasts, adds_grow, grows_without_memory, memory_grows_twice}
use Rattle.command_nets.specs.Ports.{HasNet, given}
use Rattle.mm_host.specs.Reads.{reads_last, reads_go_on}
use Rattle.mm_host.specs.Writes.{writes_go_on}
use Rattle.mm_host.specs.Forms.{held_lasts, goes_on_lasts}
use Rattle.mm_host.proofs.Machine.{machine}
use Rattle.mm_host.proofs.Memories.{memory_grows_fewer, then_grows, writes_wait_alike}
use Rattle.net_parts.specs.Refusing.{handed_on}
use Rattle.mm_host.proofs.host.finish_host.Goals as goal

pub finish_reads-requires-clause-held : goal.finish_reads-requires-clause-held
finish_reads-requires-clause-held c = reads_last _ _ _ _ _ _ c.requires.held.reads c.finish_writes.ensures.grows.extends

pub returns-in_err-response-clause-waits : goal.returns-in_err-response-clause-waits
returns-in_err-response-clause-waits c n apart w =
    c.give_response.ensures.adds.grows.waits n (c.finish_reads.ensures.waits n (λ o. apart (inl o)) (c.finish_writes.ensures.waits n (λ o. apart (inr o)) w))

pub returns-clause-waits : goal.returns-clause-waits
returns-clause-waits c n apart w =
    c.give_response.ensures.adds.grows.waits n (c.finish_reads.ensures.waits n (λ o. apart (inl o)) (c.finish_writes.ensures.waits n (λ o. apart (inr o)) w))

pub returns-clause-nets : goal.returns-clause-nets
returns-clause-nets c =
    let more = c.give_response.ensures.adds.grows.extends in
    let all = extends_twice _ _ _ c.finish_writes.ensures.grows.extends (extends_twice _ _ _ c.finish_reads.ensures.grows.extends more) in
    record {
      waitrequest = net_lasts _ _ _ _ more c.in_ok-waitrequest.ensures.told;
      readdata = net_lasts _ _ _ _ all c.requires.answer.word;
      readdatavalid = subst (λ (o : Option NetValue). HasNet c.give_response.new.builder c.args.port.now.readdatavalid 1 o) (sym c.valid_of.ensures) (given _ c.args.port.now.readdatavalid c.args.answer.now.valid (net_lasts _ _ _ _ all c.requires.answer.valid));
      response = c.in_ok-response.ensures.net;
    }

pub returns-clause-on : goal.returns-clause-on
returns-clause-on c =
    let more = c.give_response.ensures.adds.grows.extends in
    let all = extends_twice _ _ _ c.finish_reads.ensures.grows.extends more in
    record {
      reads = reads_go_on _ _ c.args.held.now.read c.args.held.now.command.count c.args.held.now.command.read c.args.wait c.args.answer.now.valid c.in_ok-waitrequest.waitrequest c.args.held.now.reads c.in_ok-waitrequest.ensures.on more;
      writes = writes_go_on _ _ c.args.held.now.command.write c.args.wait c.args.held.now.writes c.in_ok-finish_writes.ensures.on all;
      word = refl;
      valid = c.valid_of.ensures;
      response = c.in_ok-response.ensures.value;
    }

pub returns-clause-machine : goal.returns-clause-machine
returns-clause-machine c longer e run endless end few =
    let more = c.give_response.ensures.adds.grows.extends in
    let all = extends_twice _ _ _ c.finish_writes.ensures.grows.extends (extends_twice _ _ _ c.finish_reads.ensures.grows.extends (extends_twice _ _ _ more e)) in
    record {
      state = _;
      machine = machine c.args.port.now c.args.held.now c.args.wait c.args.answer.now _ longer (held_lasts _ _ _ _ c.requires.held all) (goes_on_lasts _ _ _ _ _ _ _ (returns-clause-on c) e) run endless end few;
    }

pub finish_writes-requires-clause-held : goal.finish_writes-requires-clause-held
finish_writes-requires-clause-held c = c.requires.held.writes

pub finish_writes-requires-clause-write : goal.finish_writes-requires-clause-write
finish_writes-requires-clause-write c = c.requires.held.fields.write

pub finish_writes-requires-clause-wait : goal.finish_writes-requires-clause-wait
finish_writes-requires-clause-wait c = c.requires.wait

pub finish_writes-requires-clause-waits : goal.finish_writes-requires-clause-waits
finish_writes-requires-clause-waits c n o = c.requires.own_wait n (inr o)

pub finish_reads-requires-clause-read : goal.finish_reads-requires-clause-read
finish_reads-requires-clause-read c = net_lasts _ _ _ _ c.finish_writes.ensures.grows.extends c.requires.held.fields.read

pub finish_reads-requires-clause-count : goal.finish_reads-requires-clause-count
finish_reads-requires-clause-count c = net_lasts _ _ _ _ c.finish_writes.ensures.grows.extends c.requires.held.fields.count

pub finish_reads-requires-clause-shown : goal.finish_reads-requires-clause-shown
finish_reads-requires-clause-shown c = net_lasts _ _ _ _ c.finish_writes.ensures.grows.extends c.requires.held.shown

pub finish_reads-requires-clause-wait : goal.finish_reads-requires-clause-wait
finish_reads-requires-clause-wait c = net_lasts _ _ _ _ c.finish_writes.ensures.grows.extends c.requires.wait

pub finish_reads-requires-clause-valid : goal.finish_reads-requires-clause-valid
finish_reads-requires-clause-valid c = net_lasts _ _ _ _ c.finish_writes.ensures.grows.extends c.requires.answer.valid

pub finish_reads-requires-clause-waits : goal.finish_reads-requires-clause-waits
finish_reads-requires-clause-waits c n o = c.finish_writes.ensures.waits n (c.requires.held.apart n o) (c.requires.own_wait n (inl o))

pub give_response-requires-clause-valid : goal.give_response-requires-clause-valid
give_response-requires-clause-valid c = net_lasts _ _ _ _ (extends_twice _ _ _ c.finish_writes.ensures.grows.extends c.finish_reads.ensures.grows.extends) c.requires.answer.valid

pub give_response-requires-clause-code : goal.give_response-requires-clause-code
give_response-requires-clause-code c = net_lasts _ _ _ _ (extends_twice _ _ _ c.finish_writes.ensures.grows.extends c.finish_reads.ensures.grows.extends) c.requires.answer.code

pub returns-in_err-finish_writes-clause-grows : goal.returns-in_err-finish_writes-clause-grows
returns-in_err-finish_writes-clause-grows c = memory_grows_fewer _ _ _ _ _ _ (omega arith) (omega arith) (grows_without_memory _ _ _ c.finish_writes.ensures.grows)

pub returns-in_err-finish_writes-clause-waits : goal.returns-in_err-finish_writes-clause-waits
returns-in_err-finish_writes-clause-waits c n apart w = c.finish_writes.ensures.waits n (λ o. apart (inr o)) w

pub returns-in_err-finish_writes-clause-full : goal.returns-in_err-finish_writes-clause-full
returns-in_err-finish_writes-clause-full c e = let full = c.finish_writes.ensures.full (handed_on _ _ _ _ c.in_err-finish_writes.was c.from_residual.ensures.1 e) in inl (omega (arith, full))

pub returns-in_err-waitrequest-clause-grows : goal.returns-in_err-waitrequest-clause-grows
returns-in_err-waitrequest-clause-grows c = memory_grows_fewer _ _ _ _ _ _ (omega arith) (omega arith) (memory_grows_twice _ _ _ _ _ _ _ (grows_without_memory _ _ _ c.finish_writes.ensures.grows) c.finish_reads.ensures.grows)

pub returns-in_err-waitrequest-clause-waits : goal.returns-in_err-waitrequest-clause-waits
returns-in_err-waitrequest-clause-waits c n apart w = c.finish_reads.ensures.waits n (λ o. apart (inl o)) (c.finish_writes.ensures.waits n (λ o. apart (inr o)) w)

pub returns-in_err-waitrequest-clause-full : goal.returns-in_err-waitrequest-clause-full
returns-in_err-waitrequest-clause-full c e =
    let most0 = c.finish_writes.ensures.grows.most in
    let memories = ap (length {A = Memory}) c.finish_writes.ensures.grows.memories in
    elim (c.finish_reads.ensures.full (handed_on _ _ _ _ c.in_err-waitrequest.was c.from_residual-in_err-waitrequest.ensures.1 e)) [
      | inl full ↦ inl (omega (arith, most0, full))
      | inr full ↦ inr (omega (arith, memories, full))
    ]

pub returns-in_err-response-clause-grows : goal.returns-in_err-response-clause-grows
returns-in_err-response-clause-grows c = then_grows _ _ _ _ _ _ _ _ (memory_grows_twice _ _ _ _ _ _ _ (grows_without_memory _ _ _ c.finish_writes.ensures.grows) c.finish_reads.ensures.grows) (adds_grow _ _ _ c.give_response.ensures.adds) (omega arith) (omega arith)

pub returns-in_err-response-clause-full : goal.returns-in_err-response-clause-full
returns-in_err-response-clause-full c e =
    let most0 = c.finish_writes.ensures.grows.most in
    let most1 = c.finish_reads.ensures.grows.most in
    let full = c.give_response.ensures.full (handed_on _ _ _ _ c.in_err-response.was c.from_residual-in_err-response.ensures.1 e) in
    inl (omega (arith, most0, most1, full))

pub returns-clause-grows : goal.returns-clause-grows
returns-clause-grows c = then_grows _ _ _ _ _ _ _ _ (memory_grows_twice _ _ _ _ _ _ _ (grows_without_memory _ _ _ c.finish_writes.ensures.grows) c.finish_reads.ensures.grows) (adds_grow _ _ _ c.give_response.ensures.adds) (omega arith) (omega arith)

pub returns-clause-full : goal.returns-clause-full
returns-clause-full c e = cc

pub returns-clause-no_more_wait : goal.returns-clause-no_more_wait
returns-clause-no_more_wait c n w =
    let late = c.in_ok-waitrequest.ensures.no_more_wait n (c.give_response.ensures.adds.grows.no_more_wait n w) in
    let rest = c.in_ok-finish_writes.ensures.no_more_wait n late.0 in
    (rest.0, λ o. elim o [ inl p ↦ late.1 p | inr q ↦ rest.1 q ])

pub returns-in_err-finish_writes-clause-still_wait_for_write : goal.returns-in_err-finish_writes-clause-still_wait_for_write
returns-in_err-finish_writes-clause-still_wait_for_write c m w = writes_wait_alike _ _ c.finish_writes.ensures.grows.memories m w

pub returns-in_err-waitrequest-clause-still_wait_for_write : goal.returns-in_err-waitrequest-clause-still_wait_for_write
returns-in_err-waitrequest-clause-still_wait_for_write c m w = c.finish_reads.ensures.still_wait_for_write m (writes_wait_alike _ _ c.finish_writes.ensures.grows.memories m w)

pub returns-in_err-response-clause-still_wait_for_write : goal.returns-in_err-response-clause-still_wait_for_write
returns-in_err-response-clause-still_wait_for_write c m w =
    writes_wait_alike _ _ c.give_response.ensures.adds.grows.memories m (c.finish_reads.ensures.still_wait_for_write m (writes_wait_alike _ _ c.finish_writes.ensures.grows.memories m w))

pub returns-clause-still_wait_for_write : goal.returns-clause-still_wait_for_write
returns-clause-still_wait_for_write c m w =
    writes_wait_alike _ _ c.give_response.ensures.adds.grows.memories m (c.finish_reads.ensures.still_wait_for_write m (writes_wait_alike _ _ c.finish_writes.ensures.grows.memories m w))

pub returns-clause-no_more_wait_for_write : goal.returns-clause-no_more_wait_for_write
returns-clause-no_more_wait_for_write c m w =
    let late = writes_wait_alike _ _ (sym c.give_response.ensures.adds.grows.memories) m w in
    writes_wait_alike _ _ (sym c.finish_writes.ensures.grows.memories) m (c.in_ok-waitrequest.ensures.no_more_wait_for_write m late)
