use Rattle.std.proofs.Common.{◌≡◌, ◌+◌, ◌*◌, length, false, Result, Ok, Err, refl, subst, sym, ◌∙◌, inl, inr, arith}
use Rattle.std.specs.Result.{OnOk, is_err}
use Rattle.net_parts.specs.Refusing.{handed_on}
use Rattle.mm_agent.specs.Memories.{memory_grows_fewer, memory_grows_within}
use Rattle.mm_fabric.specs.Asks.{asking}
use Rattle.mm_fabric.specs.Joined.{most_agent_nets, link_nets, most_memories, AreJoinedSoFar}
use Rattle.mm_fabric.specs.Wide.{joined_agent_nets, joined_agent_memories}
use Rattle.mm_fabric.proofs.Counting.{links_more, links_few}
use Rattle.mm_fabric.proofs.Joining.{none_joined, end_at, one_more_joined}
use Rattle.mm_fabric.proofs.joined.join_agents.Goals as goal

pub loop-number-init : goal.loop-number-init
loop-number-init c = subst (λ parts. AreJoinedSoFar c.args.plan.now c.args.builder.now c.args.builder.now c.args.begun.now c.args.ends.now parts 0) (sym c.new-parts.ensures) (none_joined _ _ _ _)

pub join_hosts-requires-clause-port : goal.join_hosts-requires-clause-port
join_hosts-requires-clause-port c = (end_at _ _ _ _ c.loop-number.number c.args.ends.now _ c.requires.ends c.loop-number.invariant.grows.extends c.loop-number.invariant.waits c.loop-number-test.true c.index-ends-number.is).bounded

pub join_hosts-requires-clause-nets : goal.join_hosts-requires-clause-nets
join_hosts-requires-clause-nets c = (end_at _ _ _ _ c.loop-number.number c.args.ends.now _ c.requires.ends c.loop-number.invariant.grows.extends c.loop-number.invariant.waits c.loop-number-test.true c.index-ends-number.is).nets

pub join_hosts-requires-clause-askers : goal.join_hosts-requires-clause-askers
join_hosts-requires-clause-askers c = (end_at _ _ _ _ c.loop-number.number c.args.ends.now _ c.requires.ends c.loop-number.invariant.grows.extends c.loop-number.invariant.waits c.loop-number-test.true c.index-ends-number.is).askers

pub join_hosts-requires-clause-asks : goal.join_hosts-requires-clause-asks
join_hosts-requires-clause-asks c = (end_at _ _ _ _ c.loop-number.number c.args.ends.now _ c.requires.ends c.loop-number.invariant.grows.extends c.loop-number.invariant.waits c.loop-number-test.true c.index-ends-number.is).asks

pub returns-in_err-part-clause-grows : goal.returns-in_err-part-clause-grows
returns-in_err-part-clause-grows c =
    let system = c.args.plan.now.system in
    let lt = c.loop-number-test.true in
    let few = (end_at _ _ _ _ c.loop-number.number c.args.ends.now _ c.requires.ends c.loop-number.invariant.grows.extends c.loop-number.invariant.waits c.loop-number-test.true c.index-ends-number.is).few in
    let more = links_more system c.loop-number.number in
    let most = links_few system (c.loop-number.number + 1) in
    memory_grows_within _ (joined_agent_nets (length (asking system c.loop-number.number))) _ _ (joined_agent_memories (length (asking system c.loop-number.number))) _ _ _ _ c.loop-number.invariant.grows c.join_hosts.ensures.grows (omega (arith, lt, few, more, most)) (omega (arith, lt, more, most))

pub returns-then-is_err-clause-grows : goal.returns-then-is_err-clause-grows
returns-then-is_err-clause-grows c =
    let system = c.args.plan.now.system in
    let lt = c.loop-number-test.true in
    let few = (end_at _ _ _ _ c.loop-number.number c.args.ends.now _ c.requires.ends c.loop-number.invariant.grows.extends c.loop-number.invariant.waits c.loop-number-test.true c.index-ends-number.is).few in
    let more = links_more system c.loop-number.number in
    let most = links_few system (c.loop-number.number + 1) in
    memory_grows_within _ (joined_agent_nets (length (asking system c.loop-number.number))) _ _ (joined_agent_memories (length (asking system c.loop-number.number))) _ _ _ _ c.loop-number.invariant.grows c.join_hosts.ensures.grows (omega (arith, lt, few, more, most)) (omega (arith, lt, more, most))

pub returns-clause-grows : goal.returns-clause-grows
returns-clause-grows c =
    let most = links_few c.args.plan.now.system c.loop-number.number in
    let last = c.loop-number.auto.number-end in
    memory_grows_fewer _ _ _ _ _ _ (omega (arith, most, last)) (omega (arith, most, last)) c.loop-number.invariant.grows

pub returns-in_err-part-clause-full : goal.returns-in_err-part-clause-full
returns-in_err-part-clause-full c e =
    let system = c.args.plan.now.system in
    let lt = c.loop-number-test.true in
    let few = (end_at _ _ _ _ c.loop-number.number c.args.ends.now _ c.requires.ends c.loop-number.invariant.grows.extends c.loop-number.invariant.waits c.loop-number-test.true c.index-ends-number.is).few in
    let more = links_more system c.loop-number.number in
    let links = links_few system (c.loop-number.number + 1) in
    let most = c.loop-number.invariant.grows.most in
    let full = c.join_hosts.ensures.full (handed_on _ _ _ _ c.in_err-part.was c.from_residual.ensures.1 e) in
    let memories = c.loop-number.invariant.grows.most_memories in
    elim full [
      | inl nets ↦ inl (omega (arith, lt, few, more, links, most, nets))
      | inr rest ↦ inr (omega (arith, lt, more, links, memories, rest))
    ]

pushed : {X E : Type 0} (r : Result X E) (P : Type 0) → OnOk r P → is_err r ≡ false → P
pushed (Ok x) P h e = h
pushed (Err x) P h e = absurd (cc)

pub loop-number-preserved : goal.loop-number-preserved
loop-number-preserved c =
    let made = c.in_ok-part.ensures in
    let few = (end_at _ _ _ _ c.loop-number.number c.args.ends.now _ c.requires.ends c.loop-number.invariant.grows.extends c.loop-number.invariant.waits c.loop-number-test.true c.index-ends-number.is).few in
    let longer = pushed c.push.result _ c.push.ensures.ok (sym c.is_err.ensures.value ∙ c.if-is_err.false) in
    let port = made.port in
    let nets = made.nets in
    subst (λ parts. AreJoinedSoFar c.args.plan.now c.args.builder.now c.join_hosts.new.builder c.args.begun.now c.args.ends.now parts (c.loop-number.number + 1)) (sym longer)
    (one_more_joined c.args.plan.now c.args.builder.now c.loop-number.builder c.join_hosts.new.builder c.args.begun.now c.args.ends.now c.loop-number.parts c.loop-number.number c.index-ends-number.result c.in_ok-part.part c.loop-number.invariant c.loop-number-test.true c.index-ends-number.is
    (record { is = made.part; askers = made.askers; seats = rw port made.seats; bounds = made.bounds }) (rw (port, nets) refl) (memory_grows_fewer _ (most_agent_nets + link_nets * length (asking c.args.plan.now.system c.loop-number.number)) _ (most_memories 1 (length (asking c.args.plan.now.system c.loop-number.number))) _ _ (omega (arith, few)) (omega arith) c.join_hosts.ensures.grows) made.waits made.no_more_wait made.still_wait_for_write made.no_more_wait_for_write)
