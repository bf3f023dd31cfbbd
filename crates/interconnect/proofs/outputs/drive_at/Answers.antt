use Rattle.std.proofs.Common.{◌≡◌, Some, slice_get, arith, ap, sym, ◌∙◌}
use Rattle.std.proofs.lemmas.Option.{slice_get-get_or, slice_get_within}
use Rattle.port_tables.specs.PortMaps.{port_at}
use Rattle.interconnect.proofs.Driving.{is_among, may_drive, can_as, step_as, one_more_driven}
use Rattle.interconnect.proofs.outputs.drive_at.Goals as goal

pub drive-requires : goal.drive-requires
drive-requires c =
    let system = c.args.plan.now.system in
    let o = c.output-item.result in
    let there : slice_get c.args.outputs.now c.loop-output.output-index ≡ Some o = slice_get-get_or c.args.outputs.now c.loop-output.output-index o c.loop-output-test.true ∙ ap Some (sym c.output-item.is) in
    can_as c.loop-output.builder c.port_at-port.result (port_at system c.args.end o.role) o.net c.port_at-port.ensures
    (may_drive system c.args.end c.args.outputs.now c.args.builder.now c.loop-output.builder c.loop-output.output-index o c.ports_are_known.ensures (is_among system c.args.end c.requires.end) c.requires.roles there c.requires.can c.loop-output.invariant)

pub loop-output-preserved : goal.loop-output-preserved
loop-output-preserved c =
    let system = c.args.plan.now.system in
    let o = c.output-item.result in
    let there : slice_get c.args.outputs.now c.loop-output.output-index ≡ Some o = slice_get-get_or c.args.outputs.now c.loop-output.output-index o c.loop-output-test.true ∙ ap Some (sym c.output-item.is) in
    one_more_driven c.keeps.ensures.chain system c.args.end c.args.outputs.now c.args.builder.now c.loop-output.builder c.drive.new.builder c.loop-output.output-index o there c.loop-output.invariant
    (step_as c.loop-output.builder c.drive.new.builder c.port_at-port.result (port_at system c.args.end o.role) o.net c.port_at-port.ensures
    c.drive.ensures.same c.drive.ensures.extends c.drive.ensures.driver c.drive.ensures.others)

pub returns-clause-driven : goal.returns-clause-driven
returns-clause-driven c n o e = c.loop-output.invariant.driven n o (let inside = slice_get_within c.args.outputs.now n o e in omega (arith, inside, c.loop-output-test.false)) e

pub returns-clause-others : goal.returns-clause-others
returns-clause-others c k none = c.loop-output.invariant.others k (λ n o below e. none o.role)
