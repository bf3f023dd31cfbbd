use Rattle.std.proofs.Common.{◌≡◌, ◌≤◌, List, sym, subst, ap, ◌∙◌}
use Rattle.std.specs.Prelude.{IfOk}
use Rattle.std.specs.List.{AllZip}
use Rattle.net_parts.specs.Laws.{if_ok}
use Rattle.mm_arbiter.specs.declared.asker.Asker.{Asker}
use Rattle.mm_fabric.specs.declared.parts.Asking.{Asking}
use Rattle.mm_fabric.specs.Asks.{asking_among, asking, AllHaveCommands, AsksAs, IsSeatFor}
use Rattle.mm_fabric.specs.Wide.{AsksFor, IsSeated}
use Rattle.mm_fabric.specs.Parts.{IsAgentPart}
use Rattle.mm_fabric.proofs.Leading.{can_have, all_ask, all_seated}
use Rattle.mm_fabric.proofs.asks.join_hosts.Goals as goal

pub commands_for-requires : goal.commands_for-requires
commands_for-requires c =
    let all : c.deref.result.now ≡ asking c.args.plan.now.system c.args.number = c.deref.ensures.value ∙ c.in_ok-askers.ensures.askers ∙ ap (asking_among c.args.number) c.memory_connections.ensures in
    subst (AllHaveCommands c.args.number c.args.begun.now) (sym all) (can_have _ _ c.args.number _ c.args.begun.now _ c.requires.asks)

pub join_agent-requires-clause-asking : goal.join_agent-requires-clause-asking
join_agent-requires-clause-asking c =
    let plain = c.in_ok-askers.ensures.askers ∙ ap (asking_among c.args.number) c.memory_connections.ensures in
    let all : c.deref.result.now ≡ asking c.args.plan.now.system c.args.number = c.deref.ensures.value ∙ plain in
    let again : c.deref-2.result.now ≡ asking c.args.plan.now.system c.args.number = c.deref-2.ensures.value ∙ plain in
    let zipped = subst (λ (xs : List Asker). AllZip (AsksAs c.args.number c.args.begun.now) xs c.in_ok-asking.asking.items) all c.in_ok-asking.ensures.asking in
    subst (λ (xs : List Asker). AllZip (AsksFor c.args.builder.now c.args.end.now.port) xs c.deref-3.result.now) (sym again)
    (subst (λ (ys : List Asking). AllZip (AsksFor c.args.builder.now c.args.end.now.port) (asking c.args.plan.now.system c.args.number) ys) (sym c.deref-3.ensures.value)
    (all_ask c.args.plan.now c.args.builder.now c.args.number c.args.end.now.port c.args.begun.now (asking c.args.plan.now.system c.args.number) c.in_ok-asking.asking.items c.requires.asks zipped))

pub join_agent-requires-clause-stages : goal.join_agent-requires-clause-stages
join_agent-requires-clause-stages c = subst (λ n. n ≤ 4) (sym c.stages.ensures) c.well_made.ensures.system.stages

pub returns-clause-part : goal.returns-clause-part
returns-clause-part c = subst (λ n. IfOk c.join_agent.result (IsAgentPart c.join_agent.new.builder n)) c.stages.ensures c.join_agent.ensures.part

pub returns-clause-seats : goal.returns-clause-seats
returns-clause-seats c =
    let plain = c.in_ok-askers.ensures.askers ∙ ap (asking_among c.args.number) c.memory_connections.ensures in
    let all : c.deref.result.now ≡ asking c.args.plan.now.system c.args.number = c.deref.ensures.value ∙ plain in
    let port = c.args.end.now.port in
    let zipped = subst (λ (xs : List Asker). AllZip (AsksAs c.args.number c.args.begun.now) xs c.in_ok-asking.asking.items) all c.in_ok-asking.ensures.asking in
    if_ok c.join_agent.result _ (λ part. AllZip (IsSeatFor c.join_agent.new.builder port c.args.number c.args.begun.now) (asking c.args.plan.now.system c.args.number) part.seats)
    (λ part seated. all_seated c.join_agent.new.builder port c.args.number c.args.begun.now (asking c.args.plan.now.system c.args.number) c.in_ok-asking.asking.items part.seats zipped
    (subst (λ (ys : List Asking). AllZip (IsSeated c.join_agent.new.builder port) ys part.seats) c.deref-3.ensures.value seated))
    c.join_agent.ensures.seats

pub returns-clause-bounds : goal.returns-clause-bounds
returns-clause-bounds c = rw (← c.stages.ensures) c.join_agent.ensures.bounds
