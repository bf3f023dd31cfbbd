use Rattle.std.proofs.Common.{rules, ◌≡◌, ◌+◌, List, [], ◌∷◌, ◌++◌, take, sym, subst, inl, inr, arith}
use Rattle.std.proofs.lemmas.List.{take_all}
use Rattle.net_parts.specs.Refusing.{handed_on}
use Rattle.mm_agent.specs.Memories.{memory_grows_fewer, memory_grows_within}
use Rattle.command_nets.specs.declared.nets.CommandNets.{CommandNets}
use Rattle.command_nets.specs.Groups.{command_lasts}
use Rattle.mm_fabric.specs.declared.parts.Asking.{Asking}
use Rattle.mm_fabric.specs.Rows.{AllThree, LeadsBelow}
use Rattle.mm_fabric.proofs.RowsOfLinks.{may_at, bears_last}
use Rattle.mm_fabric.proofs.RowsMade.{RowsSoFar, none_begun, one_more_begun}
use Rattle.mm_fabric.proofs.Widening.{taken_one}
use Rattle.mm_fabric.proofs.rows.begin_rows.Goals as goal

pub loop-asked-init : goal.loop-asked-init
loop-asked-init c = none_begun c.args.builder.now c.args.port.now c.args.stages c.new-rows.result.items c.new-commands.result.items c.new-rows.ensures.items c.new-commands.ensures.items

pub begin_width-requires-clause-from : goal.begin_width-requires-clause-from
begin_width-requires-clause-from c = command_lasts _ _ _ c.loop-asked.invariant.grows.extends (may_at _ _ c.args.asking.now c.loop-asked.asked-index _ c.requires.asking c.loop-asked-test.true c.asked-item.is).nets

pub begin_width-requires-clause-tag : goal.begin_width-requires-clause-tag
begin_width-requires-clause-tag c = bears_last _ _ _ (may_at _ _ c.args.asking.now c.loop-asked.asked-index _ c.requires.asking c.loop-asked-test.true c.asked-item.is).bears c.loop-asked.invariant.grows.extends

pub returns-in_err-below-clause-grows : goal.returns-in_err-below-clause-grows
returns-in_err-below-clause-grows c = let low = c.loop-asked-test.true in memory_grows_within _ _ _ _ _ _ _ _ _ c.loop-asked.invariant.grows c.begin_width.ensures.grows (omega (arith, low)) (omega (arith, low))

pub returns-in_err-below-clause-waits : goal.returns-in_err-below-clause-waits
returns-in_err-below-clause-waits c n w = c.begin_width.ensures.waits n (c.loop-asked.invariant.waits n w)

pub returns-in_err-below-clause-full : goal.returns-in_err-below-clause-full
returns-in_err-below-clause-full c e =
    let low = c.loop-asked-test.true in
    let most = c.loop-asked.invariant.grows.most in
    let memories = c.loop-asked.invariant.grows.most_memories in
    elim (c.begin_width.ensures.full (handed_on _ _ _ _ c.in_err-below.was c.from_residual.ensures.1 e)) [
      | inl full ↦ inl (omega (arith, low, most, full))
      | inr full ↦ inr (omega (arith, low, memories, full))
    ]

pub returns-in_err-push-clause-grows : goal.returns-in_err-push-clause-grows
returns-in_err-push-clause-grows c = let low = c.loop-asked-test.true in memory_grows_within _ _ _ _ _ _ _ _ _ c.loop-asked.invariant.grows c.begin_width.ensures.grows (omega (arith, low)) (omega (arith, low))

pub returns-in_err-push-clause-waits : goal.returns-in_err-push-clause-waits
returns-in_err-push-clause-waits c n w = c.begin_width.ensures.waits n (c.loop-asked.invariant.waits n w)

pub loop-asked-preserved : goal.loop-asked-preserved
loop-asked-preserved c =
    let index = c.loop-asked.asked-index in
    let one = c.asked-item.result in
    let new = c.begin_width.new.builder in
    let made = c.in_ok-below.ensures in
    let items : c.push.new.self.items ≡ c.loop-asked.commands.items ++ c.in_ok-below.below ∷ [] = search rules in
    let more = one_more_begun c.args.builder.now c.loop-asked.builder new c.args.port.now c.args.stages index (take index c.args.asking.now) c.loop-asked.rows.items c.loop-asked.commands.items one c.in_ok-below.below c.begin_width.new.begun.items
    c.loop-asked.invariant (may_at _ _ c.args.asking.now index one c.requires.asking c.loop-asked-test.true c.asked-item.is) made.pushed
    (record { nets = made.command; widths = made.widths; tag = made.tag; wire = made.wire; begun = made.begun; ignores = made.ignores_answer; grows = made.grows; waits = made.waits; newly = made.newly; writes = made.still_wait_for_write; newly_written = made.newly_written }) in
    subst (λ (us : List Asking). RowsSoFar c.args.builder.now new c.args.port.now c.args.stages (index + 1) us c.begin_width.new.begun.items c.push.new.self.items) (taken_one c.args.asking.now index one c.loop-asked-test.true c.asked-item.is)
    (subst (λ (ws : List CommandNets). RowsSoFar c.args.builder.now new c.args.port.now c.args.stages (index + 1) (take index c.args.asking.now ++ one ∷ []) c.begin_width.new.begun.items ws) (sym items) more)

pub returns-clause-rows : goal.returns-clause-rows
returns-clause-rows c =
    let past = c.loop-asked-test.false in
    subst (λ (us : List Asking). AllThree (LeadsBelow c.loop-asked.builder c.args.port.now c.args.stages) us c.loop-asked.rows.items c.loop-asked.commands.items) (take_all c.loop-asked.asked-index c.args.asking.now (omega (arith, past))) c.loop-asked.invariant.leads

pub returns-clause-grows : goal.returns-clause-grows
returns-clause-grows c = let low = c.loop-asked.auto.asked-index-end in memory_grows_fewer _ _ _ _ _ _ (omega (arith, low)) (omega (arith, low)) c.loop-asked.invariant.grows

pub returns-clause-waits : goal.returns-clause-waits
returns-clause-waits c = c.loop-asked.invariant.waits

pub returns-clause-newly : goal.returns-clause-newly
returns-clause-newly c = c.loop-asked.invariant.newly

pub returns-clause-apart : goal.returns-clause-apart
returns-clause-apart c = c.loop-asked.invariant.apart

pub returns-clause-still_wait_for_write : goal.returns-clause-still_wait_for_write
returns-clause-still_wait_for_write c = c.loop-asked.invariant.writes

pub returns-clause-newly_written : goal.returns-clause-newly_written
returns-clause-newly_written c = c.loop-asked.invariant.newly_written

pub returns-clause-memories_apart : goal.returns-clause-memories_apart
returns-clause-memories_apart c = c.loop-asked.invariant.memories_apart
