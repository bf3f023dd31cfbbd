use Rattle.std.proofs.Common.{List, length, subst, sym, ap, ◌≡◌, ◌∙◌, inl, inr, arith}
use Rattle.std.specs.List.{AllZip}
use Rattle.std.proofs.lemmas.Slice.Zip.{AllZip-long}
use Rattle.net_parts.specs.Refusing.{handed_on}
use Rattle.net_parts.specs.Laws.{adds_grow, extends_twice, grows_without_memory, memory_grows_twice}
use Rattle.command_nets.specs.declared.nets.CommandNets.{CommandNets}
use Rattle.netlist.specs.declared.line.Memory.{Memory}
use Rattle.mm_agent.specs.Agents.{agent_lasts}
use Rattle.mm_agent.specs.Memories.{memory_grows_fewer, memory_grows_within, writes_wait_alike, writes_waited_alike}
use Rattle.mm_arbiter.specs.Shown.{AreCommands}
use Rattle.mm_route.specs.declared.back.BackNets.{BackNets}
use Rattle.mm_width.specs.Widths.{begun_lasts}
use Rattle.mm_fabric.specs.declared.parts.Seat.{Seat}
use Rattle.mm_fabric.specs.Askers.{AreAsked}
use Rattle.mm_fabric.specs.Lone.{BoundsReads}
use Rattle.mm_fabric.specs.Parts.{IsAgentPart, askers_of}
use Rattle.mm_fabric.specs.Rows.{AllThree, LeadsToSeat, TellsSeat, told_seats}
use Rattle.mm_fabric.specs.Wide.{ReachWithin, AreWithin, IsWidened, IsSeated}
use Rattle.mm_fabric.proofs.RowsOfLinks.{three_first, three_last}
use Rattle.mm_fabric.proofs.Widening.{all_may_lead, below_are_commands, below_within, asked_wide, all_to_seats, all_seated, told_askers, part_lasts_told, bounds_told}
use Rattle.mm_fabric.proofs.agents.join_agent.Goals as goal

pub begin_rows-requires-clause-asking : goal.begin_rows-requires-clause-asking
begin_rows-requires-clause-asking c = all_may_lead _ _ _ _ c.requires.asking

pub returns-in_err-begun-clause-grows : goal.returns-in_err-begun-clause-grows
returns-in_err-begun-clause-grows c = let same = AllZip-long _ _ _ c.requires.asking in memory_grows_fewer _ _ _ _ _ _ (omega (arith, same)) (omega (arith, same)) c.begin_rows.ensures.grows

pub returns-in_err-begun-clause-full : goal.returns-in_err-begun-clause-full
returns-in_err-begun-clause-full c e =
    let same = AllZip-long _ _ _ c.requires.asking in
    elim (c.begin_rows.ensures.full (handed_on _ _ _ _ c.in_err-begun.was c.from_residual.ensures.1 e)) [
      | inl full ↦ inl (omega (arith, same, full))
      | inr full ↦ inr (omega (arith, same, full))
    ]

pub widest-bits-requires-clause-commands : goal.widest-bits-requires-clause-commands
widest-bits-requires-clause-commands c = subst (λ (ws : List CommandNets). AreCommands c.begin_rows.new.builder ws) (sym c.deref.ensures.value) (below_are_commands _ _ _ _ _ _ c.in_ok-begun.ensures.rows)

pub widen_all-requires-clause-commands : goal.widen_all-requires-clause-commands
widen_all-requires-clause-commands c = subst (λ (ws : List CommandNets). AreCommands c.begin_rows.new.builder ws) (sym c.deref-2.ensures.value) (below_are_commands _ _ _ _ _ _ c.in_ok-begun.ensures.rows)

pub widen_all-requires-clause-within : goal.widen_all-requires-clause-within
widen_all-requires-clause-within c =
    let commands = c.in_ok-begun.begun.commands.items in
    let within = subst (λ (ws : List CommandNets). ReachWithin c.widest-bits.result.address ws) c.deref.ensures.value c.widest-bits.ensures.within in
    subst (λ (ws : List CommandNets). AreWithin c.widest-bits.result.address c.widest-bits.result.count ws) (sym c.deref-2.ensures.value)
    (subst (λ n. AreWithin c.widest-bits.result.address n commands) (sym c.widest-bits.ensures.count)
    (below_within c.args.builder.now c.begin_rows.new.builder c.args.port.now c.args.stages c.widest-bits.result.address c.args.askers.now c.args.asking.now c.in_ok-begun.begun.rows.items commands c.requires.asking c.in_ok-begun.ensures.rows c.begin_rows.ensures.grows.extends within))

pub returns-in_err-wide-clause-grows : goal.returns-in_err-wide-clause-grows
returns-in_err-wide-clause-grows c =
    let same = AllZip-long _ _ _ c.requires.asking in
    let rows = three_first _ _ _ _ c.in_ok-begun.ensures.rows in
    let commands = three_last _ _ _ _ c.in_ok-begun.ensures.rows in
    let wide = ap (length {A = CommandNets}) c.deref-2.ensures.value in
    memory_grows_within _ _ _ _ _ _ _ _ _ c.begin_rows.ensures.grows (grows_without_memory _ _ _ (adds_grow _ _ _ c.widen_all.ensures.adds)) (omega (arith, same, rows, commands, wide)) (omega (arith, same))

pub returns-in_err-wide-clause-full : goal.returns-in_err-wide-clause-full
returns-in_err-wide-clause-full c e =
    let same = AllZip-long _ _ _ c.requires.asking in
    let rows = three_first _ _ _ _ c.in_ok-begun.ensures.rows in
    let commands = three_last _ _ _ _ c.in_ok-begun.ensures.rows in
    let wide = ap (length {A = CommandNets}) c.deref-2.ensures.value in
    let most = c.begin_rows.ensures.grows.most in
    let full = c.widen_all.ensures.full (handed_on _ _ _ _ c.in_err-wide.was c.from_residual-in_err-wide.ensures.1 e) in
    inl (omega (arith, same, rows, commands, wide, most, full))

pub emit_agent_part-requires-clause-nets : goal.emit_agent_part-requires-clause-nets
emit_agent_part-requires-clause-nets c = agent_lasts _ _ _ _ c.requires.nets (extends_twice _ _ _ c.begin_rows.ensures.grows.extends c.widen_all.ensures.adds.grows.extends)

pub emit_agent_part-requires-clause-commands : goal.emit_agent_part-requires-clause-commands
emit_agent_part-requires-clause-commands c =
    let address = c.widest-bits.result.address in
    let count = c.widest-bits.result.count in
    let commands = c.in_ok-begun.begun.commands.items in
    let wide = c.in_ok-wide.wide.items in
    let within = subst (λ (ws : List CommandNets). ReachWithin address ws) c.deref.ensures.value c.widest-bits.ensures.within in
    let widened = subst (λ n. AllZip (IsWidened c.widen_all.new.builder address n) commands wide) c.widest-bits.ensures.count (subst (λ (ws : List CommandNets). AllZip (IsWidened c.widen_all.new.builder address count) ws wide) c.deref-2.ensures.value c.in_ok-wide.ensures.wide) in
    subst (λ (ws : List CommandNets). AreAsked c.widen_all.new.builder c.args.port.now c.args.askers.now ws) (sym c.deref-3.ensures.value)
    (asked_wide c.args.builder.now c.begin_rows.new.builder c.widen_all.new.builder c.args.port.now c.args.stages address c.args.askers.now c.args.asking.now c.in_ok-begun.begun.rows.items commands wide
    c.requires.asking c.in_ok-begun.ensures.rows c.begin_rows.ensures.grows.extends within c.requires.askers.some widened c.widen_all.ensures.adds.grows.extends)

pub returns-in_err-part-clause-grows : goal.returns-in_err-part-clause-grows
returns-in_err-part-clause-grows c =
    let same = AllZip-long _ _ _ c.requires.asking in
    let rows = three_first _ _ _ _ c.in_ok-begun.ensures.rows in
    let commands = three_last _ _ _ _ c.in_ok-begun.ensures.rows in
    let wide = ap (length {A = CommandNets}) c.deref-2.ensures.value in
    memory_grows_within _ _ _ _ _ _ _ _ _ (memory_grows_twice _ _ _ _ _ _ _ c.begin_rows.ensures.grows (grows_without_memory _ _ _ (adds_grow _ _ _ c.widen_all.ensures.adds))) c.emit_agent_part.ensures.grows (omega (arith, same, rows, commands, wide)) (omega (arith, same))

pub returns-in_err-part-clause-full : goal.returns-in_err-part-clause-full
returns-in_err-part-clause-full c e =
    let same = AllZip-long _ _ _ c.requires.asking in
    let rows = three_first _ _ _ _ c.in_ok-begun.ensures.rows in
    let commands = three_last _ _ _ _ c.in_ok-begun.ensures.rows in
    let wide = ap (length {A = CommandNets}) c.deref-2.ensures.value in
    let first = c.begin_rows.ensures.grows.most in
    let most = c.widen_all.ensures.adds.most in
    let older = c.begin_rows.ensures.grows.most_memories in
    let memories = ap (length {A = Memory}) c.widen_all.ensures.adds.grows.memories in
    elim (c.emit_agent_part.ensures.full (handed_on _ _ _ _ c.in_err-part.was c.from_residual-in_err-part.ensures.1 e)) [
      | inl full ↦ inl (omega (arith, same, rows, commands, wide, first, most, full))
      | inr full ↦ inr (omega (arith, same, older, memories, full))
    ]

pub finish_rows-requires-clause-rows : goal.finish_rows-requires-clause-rows
finish_rows-requires-clause-rows c =
    let address = c.widest-bits.result.address in
    let count = c.widest-bits.result.count in
    let commands = c.in_ok-begun.begun.commands.items in
    let part = c.in_ok-part.part in
    let widened = subst (λ (ws : List CommandNets). AllZip (IsWidened c.widen_all.new.builder address count) ws c.in_ok-wide.wide.items) c.deref-2.ensures.value c.in_ok-wide.ensures.wide in
    let above = subst (λ (ws : List CommandNets). AllZip (IsWidened c.widen_all.new.builder address count) commands ws) (sym (c.in_ok-part.ensures.commands ∙ c.deref-3.ensures.value)) widened in
    subst (λ (ss : List Seat). AllThree (LeadsToSeat c.emit_agent_part.new.builder c.args.port.now c.args.stages) c.args.asking.now c.in_ok-begun.begun.rows.items ss) (sym c.as_slice.ensures)
    (all_to_seats c.begin_rows.new.builder c.widen_all.new.builder c.emit_agent_part.new.builder c.args.port.now c.args.stages address count c.args.asking.now c.in_ok-begun.begun.rows.items commands part.seats
    c.in_ok-begun.ensures.rows above c.in_ok-part.ensures.backs c.widen_all.ensures.adds.grows.extends c.emit_agent_part.ensures.grows.extends)

pub finish_rows-requires-clause-begun : goal.finish_rows-requires-clause-begun
finish_rows-requires-clause-begun c =
    begun_lasts c.in_ok-begun.begun.rows.items c.begin_rows.new.builder c.emit_agent_part.new.builder c.in_ok-begun.ensures.begun (extends_twice _ _ _ c.widen_all.ensures.adds.grows.extends c.emit_agent_part.ensures.grows.extends)
    (λ n o w. c.emit_agent_part.ensures.waits n (c.widen_all.ensures.adds.grows.waits n w))
    (λ m o w. c.emit_agent_part.ensures.still_wait_for_write m (writes_wait_alike c.begin_rows.new.builder c.widen_all.new.builder c.widen_all.ensures.adds.grows.memories m w))

pub returns-in_err-told-clause-grows : goal.returns-in_err-told-clause-grows
returns-in_err-told-clause-grows c =
    let same = AllZip-long _ _ _ c.requires.asking in
    let rows = three_first _ _ _ _ c.in_ok-begun.ensures.rows in
    let commands = three_last _ _ _ _ c.in_ok-begun.ensures.rows in
    let wide = ap (length {A = CommandNets}) c.deref-2.ensures.value in
    memory_grows_within _ _ _ _ _ _ _ _ _ (memory_grows_twice _ _ _ _ _ _ _ (memory_grows_twice _ _ _ _ _ _ _ c.begin_rows.ensures.grows (grows_without_memory _ _ _ (adds_grow _ _ _ c.widen_all.ensures.adds))) c.emit_agent_part.ensures.grows) c.finish_rows.ensures.grows (omega (arith, same, rows, commands, wide)) (omega (arith, same))

pub returns-in_err-told-clause-waits : goal.returns-in_err-told-clause-waits
returns-in_err-told-clause-waits c = λ n w. c.finish_rows.ensures.waits n (λ o. c.in_ok-begun.ensures.apart n o w) (c.emit_agent_part.ensures.waits n (c.widen_all.ensures.adds.grows.waits n (c.begin_rows.ensures.waits n w)))

pub returns-in_err-told-clause-full : goal.returns-in_err-told-clause-full
returns-in_err-told-clause-full c e =
    let same = AllZip-long _ _ _ c.requires.asking in
    let rows = three_first _ _ _ _ c.in_ok-begun.ensures.rows in
    let commands = three_last _ _ _ _ c.in_ok-begun.ensures.rows in
    let wide = ap (length {A = CommandNets}) c.deref-2.ensures.value in
    let first = c.begin_rows.ensures.grows.most in
    let most = c.widen_all.ensures.adds.most in
    let later = c.emit_agent_part.ensures.grows.most in
    let full = c.finish_rows.ensures.full (handed_on _ _ _ _ c.in_err-told.was c.from_residual-in_err-told.ensures.1 e) in
    inl (omega (arith, same, rows, commands, wide, first, most, later, full))

pub seats_told-requires : goal.seats_told-requires
seats_told-requires c =
    let last = three_last _ _ _ _ c.in_ok-told.ensures.told in
    ap (length {A = BackNets}) c.deref-4.ensures.value ∙ sym last ∙ ap (length {A = Seat}) (c.as_slice.ensures ∙ sym c.as_slice-2.ensures)

pub returns-in_err-part-2-clause-grows : goal.returns-in_err-part-2-clause-grows
returns-in_err-part-2-clause-grows c =
    let same = AllZip-long _ _ _ c.requires.asking in
    let rows = three_first _ _ _ _ c.in_ok-begun.ensures.rows in
    let commands = three_last _ _ _ _ c.in_ok-begun.ensures.rows in
    let wide = ap (length {A = CommandNets}) c.deref-2.ensures.value in
    memory_grows_within _ _ _ _ _ _ _ _ _ (memory_grows_twice _ _ _ _ _ _ _ (memory_grows_twice _ _ _ _ _ _ _ c.begin_rows.ensures.grows (grows_without_memory _ _ _ (adds_grow _ _ _ c.widen_all.ensures.adds))) c.emit_agent_part.ensures.grows) c.finish_rows.ensures.grows (omega (arith, same, rows, commands, wide)) (omega (arith, same))

pub returns-in_err-part-2-clause-waits : goal.returns-in_err-part-2-clause-waits
returns-in_err-part-2-clause-waits c = λ n w. c.finish_rows.ensures.waits n (λ o. c.in_ok-begun.ensures.apart n o w) (c.emit_agent_part.ensures.waits n (c.widen_all.ensures.adds.grows.waits n (c.begin_rows.ensures.waits n w)))

pub returns-clause-part : goal.returns-clause-part
returns-clause-part c =
    let part = c.in_ok-part.part in
    let told = c.in_ok-told.told.items in
    let seats : c.in_ok-part-2.field-0 ≡ told_seats part.seats told = c.in_ok-part-2.ensures.seats ∙ ap (λ (ss : List Seat). told_seats ss c.deref-4.result.now) c.as_slice-2.ensures ∙ ap (λ (ts : List BackNets). told_seats part.seats ts) c.deref-4.ensures.value in
    let tells : AllThree (TellsSeat c.finish_rows.new.builder c.args.port.now) c.args.asking.now part.seats told = subst (λ (ss : List Seat). AllThree (TellsSeat c.finish_rows.new.builder c.args.port.now) c.args.asking.now ss told) c.as_slice.ensures c.in_ok-told.ensures.told in
    let many = sym (three_last (TellsSeat c.finish_rows.new.builder c.args.port.now) c.args.asking.now part.seats told tells) in
    subst (λ (ss : List Seat). IsAgentPart c.finish_rows.new.builder c.args.stages (record part { seats = ss })) (sym seats)
    (part_lasts_told c.emit_agent_part.new.builder c.finish_rows.new.builder c.args.stages part told many c.in_ok-part.ensures.part c.finish_rows.ensures.grows.extends)

pub returns-clause-askers : goal.returns-clause-askers
returns-clause-askers c =
    let part = c.in_ok-part.part in
    let told = c.in_ok-told.told.items in
    let seats : c.in_ok-part-2.field-0 ≡ told_seats part.seats told = c.in_ok-part-2.ensures.seats ∙ ap (λ (ss : List Seat). told_seats ss c.deref-4.result.now) c.as_slice-2.ensures ∙ ap (λ (ts : List BackNets). told_seats part.seats ts) c.deref-4.ensures.value in
    let tells : AllThree (TellsSeat c.finish_rows.new.builder c.args.port.now) c.args.asking.now part.seats told = subst (λ (ss : List Seat). AllThree (TellsSeat c.finish_rows.new.builder c.args.port.now) c.args.asking.now ss told) c.as_slice.ensures c.in_ok-told.ensures.told in
    let many = sym (three_last (TellsSeat c.finish_rows.new.builder c.args.port.now) c.args.asking.now part.seats told tells) in
    ap (λ (ss : List Seat). askers_of ss) seats ∙ told_askers part.seats told many ∙ c.in_ok-part.ensures.askers

pub returns-clause-seats : goal.returns-clause-seats
returns-clause-seats c =
    let part = c.in_ok-part.part in
    let told = c.in_ok-told.told.items in
    let seats : c.in_ok-part-2.field-0 ≡ told_seats part.seats told = c.in_ok-part-2.ensures.seats ∙ ap (λ (ss : List Seat). told_seats ss c.deref-4.result.now) c.as_slice-2.ensures ∙ ap (λ (ts : List BackNets). told_seats part.seats ts) c.deref-4.ensures.value in
    let tells : AllThree (TellsSeat c.finish_rows.new.builder c.args.port.now) c.args.asking.now part.seats told = subst (λ (ss : List Seat). AllThree (TellsSeat c.finish_rows.new.builder c.args.port.now) c.args.asking.now ss told) c.as_slice.ensures c.in_ok-told.ensures.told in
    let many = sym (three_last (TellsSeat c.finish_rows.new.builder c.args.port.now) c.args.asking.now part.seats told tells) in
    subst (λ (ss : List Seat). AllZip (IsSeated c.finish_rows.new.builder c.args.port.now) c.args.asking.now ss) (sym seats) (all_seated c.finish_rows.new.builder c.args.port.now c.args.asking.now part.seats told tells)

pub returns-clause-bounds : goal.returns-clause-bounds
returns-clause-bounds c =
    let part = c.in_ok-part.part in
    let told = c.in_ok-told.told.items in
    let seats : c.in_ok-part-2.field-0 ≡ told_seats part.seats told = c.in_ok-part-2.ensures.seats ∙ ap (λ (ss : List Seat). told_seats ss c.deref-4.result.now) c.as_slice-2.ensures ∙ ap (λ (ts : List BackNets). told_seats part.seats ts) c.deref-4.ensures.value in
    let tells : AllThree (TellsSeat c.finish_rows.new.builder c.args.port.now) c.args.asking.now part.seats told = subst (λ (ss : List Seat). AllThree (TellsSeat c.finish_rows.new.builder c.args.port.now) c.args.asking.now ss told) c.as_slice.ensures c.in_ok-told.ensures.told in
    let many = sym (three_last (TellsSeat c.finish_rows.new.builder c.args.port.now) c.args.asking.now part.seats told tells) in
    subst (λ (ss : List Seat). BoundsReads c.finish_rows.new.builder c.args.stages (record part { seats = ss })) (sym seats)
    (bounds_told c.emit_agent_part.new.builder c.finish_rows.new.builder c.args.stages part told many c.in_ok-part.ensures.bounds c.finish_rows.ensures.grows.extends)

pub returns-clause-grows : goal.returns-clause-grows
returns-clause-grows c =
    let same = AllZip-long _ _ _ c.requires.asking in
    let rows = three_first _ _ _ _ c.in_ok-begun.ensures.rows in
    let commands = three_last _ _ _ _ c.in_ok-begun.ensures.rows in
    let wide = ap (length {A = CommandNets}) c.deref-2.ensures.value in
    memory_grows_within _ _ _ _ _ _ _ _ _ (memory_grows_twice _ _ _ _ _ _ _ (memory_grows_twice _ _ _ _ _ _ _ c.begin_rows.ensures.grows (grows_without_memory _ _ _ (adds_grow _ _ _ c.widen_all.ensures.adds))) c.emit_agent_part.ensures.grows) c.finish_rows.ensures.grows (omega (arith, same, rows, commands, wide)) (omega (arith, same))

pub returns-clause-waits : goal.returns-clause-waits
returns-clause-waits c = λ n w. c.finish_rows.ensures.waits n (λ o. c.in_ok-begun.ensures.apart n o w) (c.emit_agent_part.ensures.waits n (c.widen_all.ensures.adds.grows.waits n (c.begin_rows.ensures.waits n w)))

pub returns-clause-no_more_wait : goal.returns-clause-no_more_wait
returns-clause-no_more_wait c n w =
    let last = c.in_ok-told.ensures.no_more_wait n w in
    elim (c.in_ok-begun.ensures.newly n (c.widen_all.ensures.adds.grows.no_more_wait n (c.in_ok-part.ensures.no_more_wait n last.0))) [ inl old ↦ old | inr own ↦ absurd (last.1 own) ]

pub returns-clause-still_wait_for_write : goal.returns-clause-still_wait_for_write
returns-clause-still_wait_for_write c m w =
    c.in_ok-told.ensures.still_wait_for_write m (λ o. c.in_ok-begun.ensures.memories_apart m o w)
    (c.emit_agent_part.ensures.still_wait_for_write m (writes_wait_alike c.begin_rows.new.builder c.widen_all.new.builder c.widen_all.ensures.adds.grows.memories m (c.in_ok-begun.ensures.still_wait_for_write m w)))

pub returns-clause-no_more_wait_for_write : goal.returns-clause-no_more_wait_for_write
returns-clause-no_more_wait_for_write c m w =
    let last = c.in_ok-told.ensures.written m w in
    elim (c.in_ok-begun.ensures.newly_written m (writes_waited_alike c.begin_rows.new.builder c.widen_all.new.builder c.widen_all.ensures.adds.grows.memories m (c.in_ok-part.ensures.no_more_wait_for_write m last.0))) [ inl old ↦ old | inr own ↦ absurd (last.1 own) ]
