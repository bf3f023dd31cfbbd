use Rattle.std.proofs.Common.{◌≡◌, Some, slice_get, arith, ap, sym, subst, ◌∙◌}
use Rattle.std.proofs.lemmas.Option.{slice_get-get_or}
use Rattle.address_map.specs.Maps.{agents_of}
use Rattle.interconnect.specs.Outputs.{HaveOwnRoles}
use Rattle.interconnect.specs.Agents.{agent_outputs}
use Rattle.interconnect.proofs.Driving.{is_an_end}
use Rattle.interconnect.proofs.Passing.{found_at}
use Rattle.interconnect.proofs.HostPorts.{agent_own}
use Rattle.interconnect.proofs.Each.{none_driven, may_now, one_more, all_driven, no_others}
use Rattle.interconnect.proofs.FabricJoins.{agents_are_ends}
use Rattle.interconnect.proofs.agents.drive_agents.Goals as goal

pub loop-number-init : goal.loop-number-init
loop-number-init c = none_driven c.args.plan.now.system agent_outputs (agents_of c.args.plan.now.system) c.args.parts.now c.args.builder.now

pub drive_at-requires-clause-end : goal.drive_at-requires-clause-end
drive_at-requires-clause-end c =
    let system = c.args.plan.now.system in
    let at = found_at c.agents.result.now (agents_of system) c.loop-number.number _ c.agents.ensures (let inside = c.loop-number-test.true in let many = c.requires.can.many in omega (arith, inside, many)) in
    is_an_end system _ (agents_are_ends system c.ports_are_known.ensures c.loop-number.number _ at)

pub drive_at-requires-clause-roles : goal.drive_at-requires-clause-roles
drive_at-requires-clause-roles c = subst HaveOwnRoles (sym c.agent_outputs.ensures) (agent_own c.index-parts-number.result)

pub drive_at-requires-clause-can : goal.drive_at-requires-clause-can
drive_at-requires-clause-can c =
    let system = c.args.plan.now.system in
    let at = found_at c.agents.result.now (agents_of system) c.loop-number.number _ c.agents.ensures (let inside = c.loop-number-test.true in let many = c.requires.can.many in omega (arith, inside, many)) in
    let has : slice_get c.args.parts.now c.loop-number.number ≡ Some c.index-parts-number.result = slice_get-get_or c.args.parts.now c.loop-number.number c.index-parts-number.result c.loop-number-test.true ∙ ap Some (sym c.index-parts-number.is) in
    may_now system agent_outputs (agents_of system) c.args.parts.now c.args.builder.now c.loop-number.builder c.loop-number.number _ c.index-parts-number.result c.agent_outputs.result c.ports_are_known.ensures (agents_are_ends system c.ports_are_known.ensures)
    c.requires.can c.loop-number.invariant at has c.agent_outputs.ensures

pub loop-number-preserved : goal.loop-number-preserved
loop-number-preserved c =
    let system = c.args.plan.now.system in
    let at = found_at c.agents.result.now (agents_of system) c.loop-number.number _ c.agents.ensures (let inside = c.loop-number-test.true in let many = c.requires.can.many in omega (arith, inside, many)) in
    let has : slice_get c.args.parts.now c.loop-number.number ≡ Some c.index-parts-number.result = slice_get-get_or c.args.parts.now c.loop-number.number c.index-parts-number.result c.loop-number-test.true ∙ ap Some (sym c.index-parts-number.is) in
    one_more system agent_outputs (agents_of system) c.args.parts.now c.args.builder.now c.loop-number.builder c.drive_at.new.builder c.loop-number.number _ c.index-parts-number.result c.agent_outputs.result c.loop-number.invariant at has c.agent_outputs.ensures
    (record { same = c.drive_at.ensures.same; extends = c.drive_at.ensures.extends; driven = c.drive_at.ensures.driven; others = c.drive_at.ensures.others })

pub returns-clause-driven : goal.returns-clause-driven
returns-clause-driven c =
    all_driven c.args.plan.now.system agent_outputs (agents_of c.args.plan.now.system) c.args.parts.now c.args.builder.now c.loop-number.builder c.loop-number.number (omega (arith, c.loop-number-test.false)) c.loop-number.invariant

pub returns-clause-others : goal.returns-clause-others
returns-clause-others c = no_others c.args.plan.now.system agent_outputs (agents_of c.args.plan.now.system) c.args.parts.now c.args.builder.now c.loop-number.builder c.loop-number.number c.loop-number.invariant
