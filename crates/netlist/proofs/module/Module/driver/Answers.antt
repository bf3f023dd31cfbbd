use Rattle.std.proofs.Common.{◌≡◌, ℕ, ◌∙◌, sym, subst, get_or, Option, IsSome}
use Rattle.netlist.specs.Netlists.{Netlist, IsModule, driver_of}
use Rattle.netlist.proofs.Growth.{driver_read, driver_width}
use Rattle.netlist.proofs.module.Module.driver.Goals as goal

is_driver : (inside now : Netlist) (k w : ℕ) (d : Option ℕ) → inside ≡ now → IsModule inside → Rattle.netlist.specs.Netlists.IsOutputPort now.ports k w → d ≡ get_or inside.drivers k d → d ≡ driver_of now k
is_driver inside now k w d v m i e = let whole : IsModule now = subst IsModule v m in driver_read now k w d whole.well_made i (subst (λ (b : Netlist). d ≡ get_or b.drivers k d) v e)

pub unwrap-requires : goal.unwrap-requires
unwrap-requires c =
    let whole : IsModule c.args.self.now = subst IsModule c.self.view_is c.self.invariant in
    let is = is_driver _ c.args.self.now c.args.port c.requires.0 c.index.result.now c.self.view_is c.self.invariant c.requires.1 c.index.ensures in
    subst IsSome (sym is) (whole.driven c.args.port c.requires.0 c.requires.1)

pub returns-clause-driver : goal.returns-clause-driver
returns-clause-driver c =
    sym (is_driver _ c.args.self.now c.args.port c.requires.0 c.index.result.now c.self.view_is c.self.invariant c.requires.1 c.index.ensures) ∙ c.unwrap.ensures

pub returns-clause-width : goal.returns-clause-width
returns-clause-width c w i =
    let whole : IsModule c.args.self.now = subst IsModule c.self.view_is c.self.invariant in
    let is = is_driver _ c.args.self.now c.args.port c.requires.0 c.index.result.now c.self.view_is c.self.invariant c.requires.1 c.index.ensures in
    driver_width c.args.self.now c.args.port w c.unwrap.result whole.well_made (sym is ∙ c.unwrap.ensures) i
