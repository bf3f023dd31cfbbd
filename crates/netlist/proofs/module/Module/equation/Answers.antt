use Rattle.std.proofs.Common.{◌≡◌, ◌<◌, length, slice_get, Some, refl, subst, sym}
use Rattle.netlist.specs.Netlists.{Netlist, IsModule}
use Rattle.netlist.proofs.Growth.{whole_line, line_read}
use Rattle.netlist.proofs.module.Module.equation.Goals as goal

pub returns : goal.returns
returns c w has =
    let whole : IsModule c.args.self.now = subst IsModule c.self.view_is c.self.invariant in
    let few : c.args.net < length c.self.inside.lines.items = subst (λ (b : Netlist). c.args.net < length b.lines) (sym c.self.view_is) c.requires in
    let at = subst (λ (b : Netlist). slice_get b.lines c.args.net ≡ Some c.index.result.now) c.self.view_is (line_read c.self.inside.lines.items c.args.net c.args.net c.index.result.now refl few c.index.ensures) in
    whole_line c.args.self.now c.args.net w c.index.result.now (whole.clocked c.args.net) at has
