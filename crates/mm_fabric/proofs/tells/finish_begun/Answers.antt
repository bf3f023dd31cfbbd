use Rattle.std.proofs.Common.{◌*◌, List, length, sym, subst, ap, ◌∙◌, inl, inr, arith}
use Rattle.std.specs.List.{AllZip}
use Rattle.std.proofs.lemmas.Slice.Zip.{AllZip-long}
use Rattle.net_parts.specs.Laws.{grows_none, grows_without_memory}
use Rattle.memory_runs.specs.declared.sides.route.Route.{Route}
use Rattle.command_nets.specs.declared.nets.CommandNets.{CommandNets}
use Rattle.mm_route.specs.declared.back.BackNets.{BackNets}
use Rattle.mm_route.specs.Backward.{AreBackNets}
use Rattle.mm_agent.specs.Memories.{memory_grows_fewer}
use Rattle.mm_fabric.specs.Trunks.{IsTrunk}
use Rattle.mm_fabric.specs.Tells.{IsBackFor, AllHaveSeats}
use Rattle.mm_fabric.specs.Lone.{IsBoundedRoute}
use Rattle.mm_fabric.proofs.Telling.{can_have, backs_stand}
use Rattle.mm_fabric.proofs.LoneSeats.{bounded_route}
use Rattle.mm_fabric.proofs.tells.finish_begun.Goals as goal

pub backs_for-requires : goal.backs_for-requires
backs_for-requires c = subst (AllHaveSeats c.args.number c.args.parts.now) (sym c.as_slice-routes.ensures) (can_have _ _ c.args.number c.args.parts.now _ c.requires.tell)

pub finish_host_part-requires-clause-trunk : goal.finish_host_part-requires-clause-trunk
finish_host_part-requires-clause-trunk c =
    let many = ap (λ (bs : List BackNets). length bs) c.deref-2.ensures.value ∙ AllZip-long _ _ _ c.in_ok-backs.ensures.backs ∙ ap (λ (rs : List Route). length rs) c.as_slice-routes.ensures in
    subst (λ n. IsTrunk c.args.builder.now c.args.begun.now.port n c.args.begun.now.trunk) (sym many) c.requires.trunk

pub finish_host_part-requires-clause-few : goal.finish_host_part-requires-clause-few
finish_host_part-requires-clause-few c =
    let many = ap (λ (bs : List BackNets). length bs) c.deref-2.ensures.value ∙ AllZip-long _ _ _ c.in_ok-backs.ensures.backs ∙ ap (λ (rs : List Route). length rs) c.as_slice-routes.ensures in
    let few = c.requires.few in
    omega (arith, many, few)

pub finish_host_part-requires-clause-routes : goal.finish_host_part-requires-clause-routes
finish_host_part-requires-clause-routes c = ap (λ (bs : List BackNets). length bs) c.deref-2.ensures.value ∙ AllZip-long _ _ _ c.in_ok-backs.ensures.backs

pub finish_host_part-requires-clause-backs : goal.finish_host_part-requires-clause-backs
finish_host_part-requires-clause-backs c =
    let bits = c.args.begun.now.port.word_bytes * 8 in
    let zipped = subst (λ (rs : List Route). AllZip (IsBackFor c.args.number c.args.parts.now) rs c.in_ok-backs.backs.items) c.as_slice-routes.ensures c.in_ok-backs.ensures.backs in
    subst (λ (bs : List BackNets). AreBackNets c.args.builder.now bits bs) (sym c.deref-2.ensures.value)
    (backs_stand c.args.builder.now bits c.args.number c.args.parts.now c.args.begun.now.routes c.in_ok-backs.backs.items c.requires.tell zipped)

pub returns-in_err-backs-clause-grows : goal.returns-in_err-backs-clause-grows
returns-in_err-backs-clause-grows c = memory_grows_fewer _ _ _ _ _ _ (omega arith) (omega arith) (grows_without_memory _ _ _ (grows_none _))

pub returns-clause-grows : goal.returns-clause-grows
returns-clause-grows c =
    let many = ap (λ (bs : List BackNets). length bs) c.deref-2.ensures.value ∙ AllZip-long _ _ _ c.in_ok-backs.ensures.backs ∙ ap (λ (rs : List Route). length rs) c.as_slice-routes.ensures in
    memory_grows_fewer _ _ _ _ _ _ (omega (arith, many)) (omega arith) c.finish_host_part.ensures.grows

pub returns-clause-full : goal.returns-clause-full
returns-clause-full c e =
    let many = ap (λ (bs : List BackNets). length bs) c.deref-2.ensures.value ∙ AllZip-long _ _ _ c.in_ok-backs.ensures.backs ∙ ap (λ (rs : List Route). length rs) c.as_slice-routes.ensures in
    elim (c.finish_host_part.ensures.full e) [ inl full ↦ inl (omega (arith, many, full)) | inr full ↦ inr full ]

pub finish_host_part-requires-clause-bounded : goal.finish_host_part-requires-clause-bounded
finish_host_part-requires-clause-bounded c free =
    let begun = c.args.begun.now in
    let zipped = subst (λ (rs : List Route). AllZip (IsBackFor c.args.number c.args.parts.now) rs c.in_ok-backs.backs.items) c.as_slice-routes.ensures c.in_ok-backs.ensures.backs in
    subst (λ (rs : List Route). IsBoundedRoute c.args.builder.now rs begun.trunk.host.command c.deref.result.now c.deref-2.result.now) (sym c.as_slice-routes.ensures)
    (subst (λ (cs : List CommandNets). IsBoundedRoute c.args.builder.now begun.routes begun.trunk.host.command cs c.deref-2.result.now) (sym c.deref.ensures.value)
    (subst (λ (bs : List BackNets). IsBoundedRoute c.args.builder.now begun.routes begun.trunk.host.command begun.commands.items bs) (sym c.deref-2.ensures.value)
    (bounded_route c.args.builder.now c.args.parts.now c.args.number begun c.in_ok-backs.backs.items (c.requires.lone free) zipped)))
