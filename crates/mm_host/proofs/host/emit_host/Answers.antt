use Rattle.std.proofs.Common.{sym, subst, ◌∙◌, arith, inl, inr}
use Rattle.net_parts.specs.Laws.{extends_twice, net_lasts, adds_grow, grows_fewer, grows_twice}
use Rattle.command_nets.specs.declared.nets.CommandNets.{CommandNets}
use Rattle.command_nets.specs.Nets.{AreCommandNets}
use Rattle.mm_host.specs.Forms.{IsHeld, host_lasts, fields_last}
use Rattle.mm_host.specs.Reads.{reads_last}
use Rattle.mm_host.proofs.Ignores.{ignores, absent, single}
use Rattle.net_parts.specs.Refusing.{handed_on}
use Rattle.mm_host.proofs.host.emit_host.Goals as goal

pub hold_reads-requires-clause-none : goal.hold_reads-requires-clause-none
hold_reads-requires-clause-none c none cycle v =
    (c.in_ok-fields.ensures.value cycle v).read ∙ absent _ _ _ _ none c.requires.nets.read cycle

pub hold_writes-requires-clause-none : goal.hold_writes-requires-clause-none
hold_writes-requires-clause-none c none cycle v =
    (c.in_ok-fields.ensures.value cycle (c.hold_reads.ensures.grows.extends.valuations cycle v)).write ∙ absent _ _ _ _ none c.requires.nets.write cycle

pub hold_writes-requires-clause-single : goal.hold_writes-requires-clause-single
hold_writes-requires-clause-single c none cycle v =
    (c.in_ok-fields.ensures.value cycle (c.hold_reads.ensures.grows.extends.valuations cycle v)).count ∙ single _ c.args.port.now none _ c.requires.nets.burstcount cycle

pub returns-clause-command : goal.returns-clause-command
returns-clause-command c =
    let more = c.hold_writes.ensures.grows.extends in
    let all = extends_twice _ _ _ c.hold_reads.ensures.grows.extends more in
    let fields = fields_last _ _ _ _ c.in_ok-fields.ensures.fields all in
    subst (λ (nets : CommandNets). AreCommandNets c.hold_writes.new.builder nets) (sym c.command_of.ensures)
    (record {
      read = net_lasts _ _ _ _ more c.in_ok-reads.ensures.shown;
      write = fields.write;
      address = fields.address;
      word = fields.word.is_net;
      enables = fields.enables.is_net;
      count = fields.count.is_net;
      more = c.in_ok-writes.ensures.more;
      tag = fields.tag.is_net;
    })

pub returns-clause-held : goal.returns-clause-held
returns-clause-held c =
    let more = c.hold_writes.ensures.grows.extends in
    let all = extends_twice _ _ _ c.hold_reads.ensures.grows.extends more in
    subst (λ (nets : CommandNets). IsHeld c.hold_writes.new.builder c.args.port.now (record { nets = c.args.nets.now; read = c.in_ok-fields.fields.read; command = nets; reads = c.in_ok-reads.reads.held; writes = c.in_ok-writes.writes.held })) (sym c.command_of.ensures)
    (record {
      host = host_lasts _ _ _ _ c.requires.nets (extends_twice _ _ _ c.make_fields.ensures.adds.grows.extends all);
      shown = net_lasts _ _ _ _ more c.in_ok-reads.ensures.shown;
      more = c.in_ok-writes.ensures.more;
      fields = fields_last _ _ _ _ c.in_ok-fields.ensures.fields all;
      values = λ cycle v. c.in_ok-fields.ensures.value cycle (all.valuations cycle v);
      reads = reads_last _ _ _ _ _ _ c.in_ok-reads.ensures.held more;
      writes = c.in_ok-writes.ensures.held;
      apart = λ n o p. (let first = c.in_ok-reads.ensures.owned n o in let second = c.in_ok-writes.ensures.owned n p in omega (arith, first.1, second.0));
    })

pub returns-clause-ignores : goal.returns-clause-ignores
returns-clause-ignores c = ignores c.args.port.now _ _ (returns-clause-held c)

pub hold_reads-requires-clause-read : goal.hold_reads-requires-clause-read
hold_reads-requires-clause-read c = c.in_ok-fields.ensures.fields.read

pub hold_writes-requires-clause-write : goal.hold_writes-requires-clause-write
hold_writes-requires-clause-write c = net_lasts _ _ _ _ c.hold_reads.ensures.grows.extends c.in_ok-fields.ensures.fields.write

pub hold_writes-requires-clause-count : goal.hold_writes-requires-clause-count
hold_writes-requires-clause-count c = net_lasts _ _ _ _ c.hold_reads.ensures.grows.extends c.in_ok-fields.ensures.fields.count

pub returns-in_err-fields-clause-grows : goal.returns-in_err-fields-clause-grows
returns-in_err-fields-clause-grows c = grows_fewer _ _ _ _ (omega arith) (adds_grow _ _ _ c.make_fields.ensures.adds)

pub returns-in_err-fields-clause-still_wait : goal.returns-in_err-fields-clause-still_wait
returns-in_err-fields-clause-still_wait c n w = c.make_fields.ensures.adds.grows.waits n w

pub returns-in_err-fields-clause-full : goal.returns-in_err-fields-clause-full
returns-in_err-fields-clause-full c e = let full = c.make_fields.ensures.full (handed_on _ _ _ _ c.in_err-fields.was c.from_residual.ensures.1 e) in omega (arith, full)

pub returns-in_err-reads-clause-grows : goal.returns-in_err-reads-clause-grows
returns-in_err-reads-clause-grows c = grows_fewer _ _ _ _ (omega arith) (grows_twice _ _ _ _ _ (adds_grow _ _ _ c.make_fields.ensures.adds) c.hold_reads.ensures.grows)

pub returns-in_err-reads-clause-still_wait : goal.returns-in_err-reads-clause-still_wait
returns-in_err-reads-clause-still_wait c n w = c.hold_reads.ensures.still_wait n (c.make_fields.ensures.adds.grows.waits n w)

pub returns-in_err-reads-clause-full : goal.returns-in_err-reads-clause-full
returns-in_err-reads-clause-full c e =
    let most0 = c.make_fields.ensures.adds.most in
    let full = c.hold_reads.ensures.full (handed_on _ _ _ _ c.in_err-reads.was c.from_residual-in_err-reads.ensures.1 e) in
    omega (arith, most0, full)

pub returns-in_err-writes-clause-grows : goal.returns-in_err-writes-clause-grows
returns-in_err-writes-clause-grows c = grows_fewer _ _ _ _ (omega arith) (grows_twice _ _ _ _ _ (grows_twice _ _ _ _ _ (adds_grow _ _ _ c.make_fields.ensures.adds) c.hold_reads.ensures.grows) c.hold_writes.ensures.grows)

pub returns-in_err-writes-clause-still_wait : goal.returns-in_err-writes-clause-still_wait
returns-in_err-writes-clause-still_wait c n w = c.hold_writes.ensures.still_wait n (c.hold_reads.ensures.still_wait n (c.make_fields.ensures.adds.grows.waits n w))

pub returns-in_err-writes-clause-full : goal.returns-in_err-writes-clause-full
returns-in_err-writes-clause-full c e =
    let most0 = c.make_fields.ensures.adds.most in
    let most1 = c.hold_reads.ensures.grows.most in
    let full = c.hold_writes.ensures.full (handed_on _ _ _ _ c.in_err-writes.was c.from_residual-in_err-writes.ensures.1 e) in
    omega (arith, most0, most1, full)

pub returns-clause-grows : goal.returns-clause-grows
returns-clause-grows c = grows_fewer _ _ _ _ (omega arith) (grows_twice _ _ _ _ _ (grows_twice _ _ _ _ _ (adds_grow _ _ _ c.make_fields.ensures.adds) c.hold_reads.ensures.grows) c.hold_writes.ensures.grows)

pub returns-clause-full : goal.returns-clause-full
returns-clause-full c e = cc

pub returns-clause-still_wait : goal.returns-clause-still_wait
returns-clause-still_wait c n w = c.hold_writes.ensures.still_wait n (c.hold_reads.ensures.still_wait n (c.make_fields.ensures.adds.grows.waits n w))

pub returns-clause-own_wait : goal.returns-clause-own_wait
returns-clause-own_wait c n o = elim o [ inl p ↦ c.hold_writes.ensures.still_wait n (c.in_ok-reads.ensures.own_wait n p) | inr p ↦ c.in_ok-writes.ensures.own_wait n p ]

pub returns-clause-owned : goal.returns-clause-owned
returns-clause-owned c n o =
    let sooner = c.make_fields.ensures.adds.grows.extends.count in
    let middle = c.hold_reads.ensures.grows.extends.count in
    let later = c.hold_writes.ensures.grows.extends.count in
    elim o [
      | inl p ↦ (let at = c.in_ok-reads.ensures.owned n p in (omega (arith, at.0, sooner), omega (arith, at.1, later)))
      | inr p ↦ (let at = c.in_ok-writes.ensures.owned n p in (omega (arith, at.0, sooner, middle), at.1))
    ]

pub returns-clause-newly : goal.returns-clause-newly
returns-clause-newly c n w =
    elim (c.in_ok-writes.ensures.newly n w) [
      | inl before ↦ (elim (c.in_ok-reads.ensures.newly n before) [ inl old ↦ inl (c.make_fields.ensures.adds.grows.no_more_wait n old) | inr own ↦ inr (inl own) ])
      | inr own ↦ inr (inr own)
    ]
