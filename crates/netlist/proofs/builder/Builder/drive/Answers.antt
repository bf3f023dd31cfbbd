use Rattle.std.proofs.Common.{◌≡◌, sym, subst, Some}
use Rattle.netlist.specs.Netlists.{Netlist, IsWellMade, driver_of}
use Rattle.netlist.specs.Longer.{Extends}
use Rattle.netlist.proofs.Growth.{IsWellMade-with_driver, Extends-with_driver, place_within, driven_view}
use Rattle.netlist.proofs.Lists.{driver-set}
use Rattle.netlist.proofs.builder.Builder.drive.Goals as goal

pub invariant_of-self : goal.invariant_of-self
invariant_of-self c =
    let well : IsWellMade c.args.self.now = subst IsWellMade c.self.view_is c.self.invariant in
    let new = driven_view _ c.args.self.now c.args.port c.number.result c.args.net.number c.self.view_is c.number.ensures in
    subst IsWellMade (sym new) (IsWellMade-with_driver c.args.self.now c.args.port c.args.net.number well (record { width = c.args.net.width; port = c.requires.output; net = c.requires.net_is }))

pub returns-clause-driver : goal.returns-clause-driver
returns-clause-driver c =
    let well : IsWellMade c.args.self.now = subst IsWellMade c.self.view_is c.self.invariant in
    let new = driven_view _ c.args.self.now c.args.port c.number.result c.args.net.number c.self.view_is c.number.ensures in
    subst (λ (b : Netlist). driver_of b c.args.port ≡ Some c.args.net.number) (sym new)
    (driver-set c.args.self.now.drivers c.args.port c.args.net.number (place_within c.args.self.now c.args.port c.args.net.width well c.requires.output))

pub returns-clause-extends : goal.returns-clause-extends
returns-clause-extends c =
    let new = driven_view _ c.args.self.now c.args.port c.number.result c.args.net.number c.self.view_is c.number.ensures in
    subst (λ (b : Netlist). Extends c.args.self.now b) (sym new) (Extends-with_driver c.args.self.now c.args.port c.args.net.number c.requires.undriven)
