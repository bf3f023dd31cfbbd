use Rattle.std.proofs.Common.{◌≡◌, Some, slice_get, arith, ap, sym, ◌∙◌}
use Rattle.std.proofs.lemmas.Option.{slice_get-get_or, slice_get_within}
use Rattle.routed_modules.proofs.Driving.{can_drive, one_more_driven, all_driven}
use Rattle.routed_modules.proofs.drivers.drive_each.Goals as goal

pub drive-requires : goal.drive-requires
drive-requires c =
    let there : slice_get c.args.drivers.now c.loop-port.port ≡ Some c.index-drivers-port.result = slice_get-get_or c.args.drivers.now c.loop-port.port c.index-drivers-port.result c.loop-port-test.true ∙ ap Some (sym c.index-drivers-port.is) in
    can_drive c.args.drivers.now c.args.builder.now c.loop-port.builder c.loop-port.port c.index-drivers-port.result c.requires.each c.loop-port.invariant there

pub loop-port-preserved : goal.loop-port-preserved
loop-port-preserved c =
    let there : slice_get c.args.drivers.now c.loop-port.port ≡ Some c.index-drivers-port.result = slice_get-get_or c.args.drivers.now c.loop-port.port c.index-drivers-port.result c.loop-port-test.true ∙ ap Some (sym c.index-drivers-port.is) in
    one_more_driven c.args.drivers.now c.args.builder.now c.loop-port.builder c.drive.new.builder c.loop-port.port c.index-drivers-port.result there c.loop-port.invariant
    (record { same = c.drive.ensures.same; extends = c.drive.ensures.extends; driver_is = c.drive.ensures.driver; kept = c.drive.ensures.kept; others = c.drive.ensures.others })

pub returns-clause-driven : goal.returns-clause-driven
returns-clause-driven c k net e = c.loop-port.invariant.driven k net (let inside = slice_get_within c.args.drivers.now k (Some net) e in omega (arith, inside, c.loop-port-test.false)) e

pub returns-clause-whole : goal.returns-clause-whole
returns-clause-whole c = all_driven c.args.drivers.now c.args.builder.now c.loop-port.builder c.requires.each c.loop-port.invariant.same (returns-clause-driven c)
