use Rattle.std.proofs.Common.{List, length, sym, subst, ap, ◌∙◌, inl, inr, arith}
use Rattle.std.proofs.lemmas.List.{length-map}
use Rattle.link_rules.specs.PlanConnections.{memory_connections}
use Rattle.netlist.specs.declared.line.Memory.{Memory}
use Rattle.net_parts.specs.Refusing.{handed_on}
use Rattle.net_parts.specs.Laws.{grows_without_memory, memory_grows_twice}
use Rattle.mm_agent.specs.Memories.{memory_grows_within, writes_wait_alike, writes_waited_alike}
use Rattle.mm_fabric.specs.declared.begun.BegunHost.{BegunHost}
use Rattle.mm_fabric.specs.declared.begun.HostEnd.{HostEnd}
use Rattle.mm_fabric.specs.declared.parts.AgentPart.{AgentPart}
use Rattle.mm_fabric.specs.Begun.{IsOfAny, AreApart, end_of, begun_nets}
use Rattle.mm_fabric.specs.Joined.{AreAgentEnds, AreJoinedFrom, most_agent_nets, link_nets}
use Rattle.mm_fabric.specs.Finished.{AllMayFinish, AreFinished, finished_nets}
use Rattle.mm_fabric.proofs.Beginning.{all_begun_last}
use Rattle.mm_fabric.proofs.Joining.{joined_last}
use Rattle.mm_fabric.proofs.Phases.{hosts_begin, agents_join, all_joined, hosts_finish}
use Rattle.mm_fabric.proofs.Making.{ends_stay, are_parts}
use Rattle.mm_fabric.proofs.Growing.{older, two_phases, three_phases}
use Rattle.mm_fabric.proofs.fabric.emit_fabric.Goals as goal

-- ---- what each phase asks

pub begin_hosts-requires-clause-ends : goal.begin_hosts-requires-clause-ends
begin_hosts-requires-clause-ends c = hosts_begin c.args.plan.now c.args.builder.now c.args.hosts.now (c.plans_are_linked.ensures c.args.plan.now c.well_made.ensures) c.requires.hosts

pub join_agents-requires-clause-ends : goal.join_agents-requires-clause-ends
join_agents-requires-clause-ends c =
    let begun = c.in_ok-begun.ensures.begun in
    let many = sym (length-map c.in_ok-begun.begun end_of) ∙ ap (λ (es : List HostEnd). length es) begun.ends_are ∙ c.requires.hosts.many in
    subst (λ (bs : List BegunHost). AreAgentEnds c.args.plan.now c.begin_hosts.new.builder bs 0 c.args.agents.now) (sym c.as_slice.ensures)
    (agents_join c.args.plan.now c.args.builder.now c.begin_hosts.new.builder c.in_ok-begun.begun c.args.agents.now (c.plans_are_linked.ensures c.args.plan.now c.well_made.ensures) c.requires.agents c.begin_hosts.ensures.grows.extends many begun.each)

pub finish_hosts-requires-clause-hosts : goal.finish_hosts-requires-clause-hosts
finish_hosts-requires-clause-hosts c =
    let begun = c.in_ok-begun.ensures.begun in
    let many = sym (length-map c.in_ok-begun.begun end_of) ∙ ap (λ (es : List HostEnd). length es) begun.ends_are ∙ c.requires.hosts.many in
    let later = all_begun_last c.args.plan.now c.begin_hosts.new.builder c.join_agents.new.builder 0 c.in_ok-begun.begun begun.each c.join_agents.ensures.grows.extends (λ n o w. c.join_agents.ensures.waits n w) in
    let parts = subst (λ (bs : List BegunHost). AreJoinedFrom c.args.plan.now c.join_agents.new.builder bs 0 c.in_ok-joined.joined) c.as_slice.ensures c.in_ok-joined.ensures.parts in
    let all = all_joined c.args.plan.now c.args.builder.now c.join_agents.new.builder c.in_ok-begun.begun c.args.agents.now c.in_ok-joined.joined c.requires.agents c.in_ok-joined.ensures.ends parts in
    subst (λ (bs : List BegunHost). AllMayFinish c.join_agents.new.builder c.as_slice-3.result.now 0 bs) (sym c.as_slice-2.ensures)
    (subst (λ (ps : List AgentPart). AllMayFinish c.join_agents.new.builder ps 0 c.in_ok-begun.begun) (sym c.as_slice-3.ensures)
    (hosts_finish c.args.plan.now c.args.builder.now c.join_agents.new.builder c.in_ok-begun.begun c.args.agents.now c.in_ok-joined.joined (c.plans_are_linked.ensures c.args.plan.now c.well_made.ensures) many later c.requires.agents c.in_ok-joined.ensures.ends all))

pub finish_hosts-requires-clause-apart : goal.finish_hosts-requires-clause-apart
finish_hosts-requires-clause-apart c = subst (λ (bs : List BegunHost). AreApart bs) (sym c.as_slice-2.ensures) c.in_ok-begun.ensures.begun.apart

-- ---- what is made

pub returns-clause-parts : goal.returns-clause-parts
returns-clause-parts c =
    let begun = c.in_ok-begun.ensures.begun in
    let later = all_begun_last c.args.plan.now c.begin_hosts.new.builder c.join_agents.new.builder 0 c.in_ok-begun.begun begun.each c.join_agents.ensures.grows.extends (λ n o w. c.join_agents.ensures.waits n w) in
    let parts = subst (λ (bs : List BegunHost). AreJoinedFrom c.args.plan.now c.join_agents.new.builder bs 0 c.in_ok-joined.joined) c.as_slice.ensures c.in_ok-joined.ensures.parts in
    are_parts c.args.plan.now c.join_agents.new.builder c.finish_hosts.new.builder c.in_ok-begun.begun (record { hosts = c.in_ok-finished.finished; agents = c.in_ok-joined.joined })
    (record {
      linked = c.plans_are_linked.ensures c.args.plan.now c.well_made.ensures;
      hosts = later;
      agents = all_joined c.args.plan.now c.args.builder.now c.finish_hosts.new.builder c.in_ok-begun.begun c.args.agents.now c.in_ok-joined.joined c.requires.agents c.in_ok-joined.ensures.ends
          (joined_last c.args.plan.now c.join_agents.new.builder c.finish_hosts.new.builder c.in_ok-begun.begun 0 c.in_ok-joined.joined parts c.finish_hosts.ensures.grows.extends);
      finished = subst (λ (ps : List AgentPart). AreFinished c.finish_hosts.new.builder ps 0 c.in_ok-begun.begun c.in_ok-finished.finished) c.as_slice-3.ensures
          (subst (λ (bs : List BegunHost). AreFinished c.finish_hosts.new.builder c.as_slice-3.result.now 0 bs c.in_ok-finished.finished) c.as_slice-2.ensures c.in_ok-finished.ensures.hosts);
    })

pub returns-clause-hosts : goal.returns-clause-hosts
returns-clause-hosts c =
    ends_stay c.finish_hosts.new.builder c.as_slice-3.result.now 0 c.in_ok-begun.begun c.in_ok-finished.finished
    (subst (λ (bs : List BegunHost). AreFinished c.finish_hosts.new.builder c.as_slice-3.result.now 0 bs c.in_ok-finished.finished) c.as_slice-2.ensures c.in_ok-finished.ensures.hosts)
    ∙ c.in_ok-begun.ensures.begun.ends_are

-- ---- how far it grows

pub returns-in_err-joined-clause-grows : goal.returns-in_err-joined-clause-grows
returns-in_err-joined-clause-grows c =
    memory_grows_within _ _ _ _ _ _ _ _ _ (grows_without_memory _ _ _ c.begin_hosts.ensures.grows) c.join_agents.ensures.grows (two_phases begun_nets finished_nets most_agent_nets link_nets (length c.args.hosts.now) (length c.args.agents.now) (length (memory_connections c.args.plan.now.system))) (omega arith)

pub returns-in_err-finished-clause-grows : goal.returns-in_err-finished-clause-grows
returns-in_err-finished-clause-grows c =
    let as_many = ap (λ (bs : List BegunHost). length bs) c.as_slice-2.ensures ∙ sym (length-map c.in_ok-begun.begun end_of) ∙ ap (λ (es : List HostEnd). length es) c.in_ok-begun.ensures.begun.ends_are in
    memory_grows_within _ _ _ _ _ _ _ _ _ (memory_grows_twice _ _ _ _ _ _ _ (grows_without_memory _ _ _ c.begin_hosts.ensures.grows) c.join_agents.ensures.grows) c.finish_hosts.ensures.grows
    (three_phases begun_nets finished_nets most_agent_nets link_nets (length c.args.hosts.now) (length c.args.agents.now) (length (memory_connections c.args.plan.now.system)) (length c.as_slice-2.result.now) as_many) (omega (arith, as_many))

pub returns-clause-grows : goal.returns-clause-grows
returns-clause-grows c =
    let as_many = ap (λ (bs : List BegunHost). length bs) c.as_slice-2.ensures ∙ sym (length-map c.in_ok-begun.begun end_of) ∙ ap (λ (es : List HostEnd). length es) c.in_ok-begun.ensures.begun.ends_are in
    memory_grows_within _ _ _ _ _ _ _ _ _ (memory_grows_twice _ _ _ _ _ _ _ (grows_without_memory _ _ _ c.begin_hosts.ensures.grows) c.join_agents.ensures.grows) c.finish_hosts.ensures.grows
    (three_phases begun_nets finished_nets most_agent_nets link_nets (length c.args.hosts.now) (length c.args.agents.now) (length (memory_connections c.args.plan.now.system)) (length c.as_slice-2.result.now) as_many) (omega (arith, as_many))

-- ---- what waits

pub returns-in_err-finished-clause-waits : goal.returns-in_err-finished-clause-waits
returns-in_err-finished-clause-waits c n w =
    let none = older c.args.builder.now c.begin_hosts.new.builder c.in_ok-begun.begun n c.in_ok-begun.ensures.begun.owned w in
    c.finish_hosts.ensures.waits n (subst (λ (bs : List BegunHost). ¬ IsOfAny bs n) (sym c.as_slice-2.ensures) none) (c.join_agents.ensures.waits n (c.begin_hosts.ensures.waits n w))

pub returns-clause-waits : goal.returns-clause-waits
returns-clause-waits c n w =
    let none = older c.args.builder.now c.begin_hosts.new.builder c.in_ok-begun.begun n c.in_ok-begun.ensures.begun.owned w in
    c.finish_hosts.ensures.waits n (subst (λ (bs : List BegunHost). ¬ IsOfAny bs n) (sym c.as_slice-2.ensures) none) (c.join_agents.ensures.waits n (c.begin_hosts.ensures.waits n w))

pub returns-clause-no_more_wait : goal.returns-clause-no_more_wait
returns-clause-no_more_wait c n w =
    let late = c.in_ok-finished.ensures.no_more_wait n w in
    elim (c.in_ok-begun.ensures.begun.newly n (c.in_ok-joined.ensures.no_more_wait n late.0)) [ inl before ↦ before | inr own ↦ absurd (late.1 (subst (λ (bs : List BegunHost). IsOfAny bs n) (sym c.as_slice-2.ensures) own)) ]

pub returns-clause-still_wait_for_write : goal.returns-clause-still_wait_for_write
returns-clause-still_wait_for_write c m w = c.finish_hosts.ensures.still_wait_for_write m (c.in_ok-joined.ensures.still_wait_for_write m (writes_wait_alike c.args.builder.now c.begin_hosts.new.builder c.begin_hosts.ensures.grows.memories m w))

pub returns-clause-no_more_wait_for_write : goal.returns-clause-no_more_wait_for_write
returns-clause-no_more_wait_for_write c m w = writes_waited_alike c.args.builder.now c.begin_hosts.new.builder c.begin_hosts.ensures.grows.memories m (c.in_ok-joined.ensures.no_more_wait_for_write m (c.in_ok-finished.ensures.no_more_wait_for_write m w))

-- ---- where there is no room

pub returns-in_err-begun-clause-full : goal.returns-in_err-begun-clause-full
returns-in_err-begun-clause-full c e =
    let full = c.begin_hosts.ensures.full (handed_on _ _ _ _ c.in_err-begun.was c.from_residual.ensures.1 e) in
    let most = two_phases begun_nets finished_nets most_agent_nets link_nets (length c.args.hosts.now) (length c.args.agents.now) (length (memory_connections c.args.plan.now.system)) in
    inl (omega (arith, full, most))

pub returns-in_err-joined-clause-full : goal.returns-in_err-joined-clause-full
returns-in_err-joined-clause-full c e =
    let most = two_phases begun_nets finished_nets most_agent_nets link_nets (length c.args.hosts.now) (length c.args.agents.now) (length (memory_connections c.args.plan.now.system)) in
    let grown = c.begin_hosts.ensures.grows.most in
    let memories = ap (length {A = Memory}) c.begin_hosts.ensures.grows.memories in
    elim (c.join_agents.ensures.full (handed_on _ _ _ _ c.in_err-joined.was c.from_residual-in_err-joined.ensures.1 e)) [
      | inl full ↦ inl (omega (arith, full, most, grown))
      | inr full ↦ inr (omega (arith, memories, full))
    ]

pub returns-in_err-finished-clause-full : goal.returns-in_err-finished-clause-full
returns-in_err-finished-clause-full c e =
    let as_many = ap (λ (bs : List BegunHost). length bs) c.as_slice-2.ensures ∙ sym (length-map c.in_ok-begun.begun end_of) ∙ ap (λ (es : List HostEnd). length es) c.in_ok-begun.ensures.begun.ends_are in
    let most = three_phases begun_nets finished_nets most_agent_nets link_nets (length c.args.hosts.now) (length c.args.agents.now) (length (memory_connections c.args.plan.now.system)) (length c.as_slice-2.result.now) as_many in
    let grown = c.begin_hosts.ensures.grows.most in
    let joined = c.join_agents.ensures.grows.most in
    let memories = ap (length {A = Memory}) c.begin_hosts.ensures.grows.memories in
    let more = c.join_agents.ensures.grows.most_memories in
    elim (c.finish_hosts.ensures.full (handed_on _ _ _ _ c.in_err-finished.was c.from_residual-in_err-finished.ensures.1 e)) [
      | inl full ↦ inl (omega (arith, full, most, grown, joined))
      | inr full ↦ inr (omega (arith, full, as_many, memories, more))
    ]
