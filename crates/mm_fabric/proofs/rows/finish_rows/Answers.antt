use Rattle.std.proofs.Common.{rules, ◌≡◌, List, [], ◌∷◌, ◌++◌, length, length-append, sym, subst, ap, ◌∙◌, arith}
use Rattle.net_parts.specs.Refusing.{handed_on}
use Rattle.net_parts.specs.Laws.{net_lasts}
use Rattle.mm_agent.specs.Memories.{memory_grows_fewer, memory_grows_within}
use Rattle.command_nets.specs.Groups.{answer_lasts}
use Rattle.mm_route.specs.declared.back.BackNets.{BackNets}
use Rattle.mm_width.specs.Pairs.{BearsOneTag}
use Rattle.mm_width.specs.Widths.{BegunWidth, AreBegunWidths}
use Rattle.mm_fabric.proofs.RowsOfLinks.{bears_last}
use Rattle.mm_fabric.proofs.RowsMade.{ToldSoFar, none_told, room_left, popped, one_fewer, wait_on, one_more_told, all_told}
use Rattle.mm_fabric.proofs.rows.finish_rows.Goals as goal

pub loop-row-init : goal.loop-row-init
loop-row-init c = none_told c.args.builder.now c.args.port.now c.args.stages c.args.asking.now c.args.rows.items c.args.seats.now c.new-told.result.items c.requires.rows c.requires.begun c.new-told.ensures.items

pub bounds-seats-k : goal.bounds-seats-k
bounds-seats-k c = (room_left _ _ _ _ _ _ _ _ _ _ _ _ c.loop-row.invariant c.in-Some.ensures.items (let same = c.pop.new.self.ok in let len = c.len-k.ensures in omega (arith, same, len))).1

pub bounds-seats-k-in-Some : goal.bounds-seats-k-in-Some
bounds-seats-k-in-Some c = (room_left _ _ _ _ _ _ _ _ _ _ _ _ c.loop-row.invariant c.in-Some.ensures.items (let same = c.pop.new.self.ok in let len = c.len-k.ensures in omega (arith, same, len))).1

pub bounds-asking-k : goal.bounds-asking-k
bounds-asking-k c = (room_left _ _ _ _ _ _ _ _ _ _ _ _ c.loop-row.invariant c.in-Some.ensures.items (let same = c.pop.new.self.ok in let len = c.len-k.ensures in omega (arith, same, len))).0

pub finish_width-requires-clause-pair : goal.finish_width-requires-clause-pair
finish_width-requires-clause-pair c = (popped _ _ _ _ _ _ _ _ _ _ _ c.len-k.result c.index-asking-k.result c.index-seats-k.result c.loop-row.invariant c.in-Some.ensures.items (let same = c.pop.new.self.ok in let len = c.len-k.ensures in omega (arith, same, len))).is.leads.row_is.pair

pub finish_width-requires-clause-link : goal.finish_width-requires-clause-link
finish_width-requires-clause-link c = (popped _ _ _ _ _ _ _ _ _ _ _ c.len-k.result c.index-asking-k.result c.index-seats-k.result c.loop-row.invariant c.in-Some.ensures.items (let same = c.pop.new.self.ok in let len = c.len-k.ensures in omega (arith, same, len))).is.leads.row_is.link

pub finish_width-requires-clause-tag : goal.finish_width-requires-clause-tag
finish_width-requires-clause-tag c =
    let row = (popped _ _ _ _ _ _ _ _ _ _ _ c.len-k.result c.index-asking-k.result c.index-seats-k.result c.loop-row.invariant c.in-Some.ensures.items (let same = c.pop.new.self.ok in let len = c.len-k.ensures in omega (arith, same, len))).is.leads.row_is in
    subst (BearsOneTag c.loop-row.builder) (sym row.from) (bears_last _ _ _ row.bears c.loop-row.invariant.grows.extends)

pub finish_width-requires-clause-begun : goal.finish_width-requires-clause-begun
finish_width-requires-clause-begun c =
    subst (λ (rs : List BegunWidth). AreBegunWidths (rs ++ c.in-Some.row ∷ []) c.loop-row.builder) (sym c.deref.ensures.value)
    (popped _ _ _ _ _ _ _ _ _ _ _ c.len-k.result c.index-asking-k.result c.index-seats-k.result c.loop-row.invariant c.in-Some.ensures.items (let same = c.pop.new.self.ok in let len = c.len-k.ensures in omega (arith, same, len))).begun

pub finish_width-requires-clause-wait : goal.finish_width-requires-clause-wait
finish_width-requires-clause-wait c = net_lasts _ _ _ 1 c.loop-row.invariant.grows.extends (popped _ _ _ _ _ _ _ _ _ _ _ c.len-k.result c.index-asking-k.result c.index-seats-k.result c.loop-row.invariant c.in-Some.ensures.items (let same = c.pop.new.self.ok in let len = c.len-k.ensures in omega (arith, same, len))).is.told.wait

pub finish_width-requires-clause-answer : goal.finish_width-requires-clause-answer
finish_width-requires-clause-answer c = answer_lasts _ _ _ _ c.loop-row.invariant.grows.extends (popped _ _ _ _ _ _ _ _ _ _ _ c.len-k.result c.index-asking-k.result c.index-seats-k.result c.loop-row.invariant c.in-Some.ensures.items (let same = c.pop.new.self.ok in let len = c.len-k.ensures in omega (arith, same, len))).is.told.answer

pub returns-in_err-wait-clause-grows : goal.returns-in_err-wait-clause-grows
returns-in_err-wait-clause-grows c =
    let few = one_fewer _ _ _ _ _ _ _ _ _ _ _ c.loop-row.invariant c.in-Some.ensures.items in
    memory_grows_within _ _ _ _ _ _ _ _ _ c.loop-row.invariant.grows c.finish_width.ensures.grows (omega (arith, few)) (omega arith)

pub returns-in_err-wait-clause-waits : goal.returns-in_err-wait-clause-waits
returns-in_err-wait-clause-waits c n none w = wait_on _ _ _ _ _ _ _ _ _ _ _ c.loop-row.invariant c.in-Some.ensures.items c.finish_width.ensures.waits n none w

pub returns-in_err-wait-clause-full : goal.returns-in_err-wait-clause-full
returns-in_err-wait-clause-full c e =
    let few = one_fewer _ _ _ _ _ _ _ _ _ _ _ c.loop-row.invariant c.in-Some.ensures.items in
    let most = c.loop-row.invariant.grows.most in
    let full = c.finish_width.ensures.full (handed_on _ _ _ _ c.in_err-wait.was c.from_residual.ensures.1 e) in
    omega (arith, few, most, full)

pub loop-row-smaller : goal.loop-row-smaller
loop-row-smaller c = let long = ap (length {A = BegunWidth}) c.in-Some.ensures.items ∙ length-append c.pop.new.self.items (c.in-Some.row ∷ []) in omega (arith, long)

pub loop-row-preserved : goal.loop-row-preserved
loop-row-preserved c =
    let back : BackNets = record { wait = c.in_ok-wait.wait; answer = c.in_ok-wait.answer } in
    let items : c.insert.new.self.items ≡ back ∷ c.loop-row.told.items = search rules in
    let last = popped _ _ _ _ _ _ _ _ _ _ _ c.len-k.result c.index-asking-k.result c.index-seats-k.result c.loop-row.invariant c.in-Some.ensures.items (let same = c.pop.new.self.ok in let len = c.len-k.ensures in omega (arith, same, len)) in
    let made = c.in_ok-wait.ensures in
    subst (λ (ts : List BackNets). ToldSoFar c.args.builder.now c.finish_width.new.builder c.args.port.now c.args.stages c.args.asking.now c.args.rows.items c.args.seats.now c.pop.new.self.items ts) (sym items)
    (one_more_told c.args.builder.now c.loop-row.builder c.finish_width.new.builder c.args.port.now c.args.stages c.args.asking.now c.args.rows.items c.args.seats.now c.loop-row.begun.items c.loop-row.told.items c.pop.new.self.items c.in-Some.row c.len-k.result c.index-asking-k.result c.index-seats-k.result back
    c.loop-row.invariant c.in-Some.ensures.items last (record { wait = made.wait; answer = made.answer; wire = made.wire; machine = made.machine })
    (subst (λ (rs : List BegunWidth). AreBegunWidths rs c.finish_width.new.builder) c.deref.ensures.value made.others) c.finish_width.ensures.grows c.finish_width.ensures.waits made.no_more_wait made.still_wait_for_write made.written)

pub returns-in_err-insert-clause-grows : goal.returns-in_err-insert-clause-grows
returns-in_err-insert-clause-grows c =
    let few = one_fewer _ _ _ _ _ _ _ _ _ _ _ c.loop-row.invariant c.in-Some.ensures.items in
    memory_grows_within _ _ _ _ _ _ _ _ _ c.loop-row.invariant.grows c.finish_width.ensures.grows (omega (arith, few)) (omega arith)

pub returns-in_err-insert-clause-waits : goal.returns-in_err-insert-clause-waits
returns-in_err-insert-clause-waits c n none w = wait_on _ _ _ _ _ _ _ _ _ _ _ c.loop-row.invariant c.in-Some.ensures.items c.finish_width.ensures.waits n none w

pub returns-clause-told : goal.returns-clause-told
returns-clause-told c = (all_told _ _ _ _ _ _ _ _ _ c.loop-row.invariant (let same = c.loop-row.begun.ok in let none = c.in_default.ensures.cases.0 in omega (arith, same, none))).told_are

pub returns-clause-grows : goal.returns-clause-grows
returns-clause-grows c = let count = c.loop-row.invariant.count in memory_grows_fewer _ _ _ _ _ _ (omega (arith, count)) (omega arith) c.loop-row.invariant.grows

pub returns-clause-waits : goal.returns-clause-waits
returns-clause-waits c = c.loop-row.invariant.waits

pub returns-clause-no_more_wait : goal.returns-clause-no_more_wait
returns-clause-no_more_wait c = (all_told _ _ _ _ _ _ _ _ _ c.loop-row.invariant (let same = c.loop-row.begun.ok in let none = c.in_default.ensures.cases.0 in omega (arith, same, none))).no_more_wait

pub returns-clause-still_wait_for_write : goal.returns-clause-still_wait_for_write
returns-clause-still_wait_for_write c = c.loop-row.invariant.writes

pub returns-clause-written : goal.returns-clause-written
returns-clause-written c = (all_told _ _ _ _ _ _ _ _ _ c.loop-row.invariant (let same = c.loop-row.begun.ok in let none = c.in_default.ensures.cases.0 in omega (arith, same, none))).written
