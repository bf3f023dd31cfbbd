use Rattle.std.proofs.Common.{◌<◌, length, sym, subst}
use Rattle.cycle_sim.specs.Sims.{SimValue}
use Rattle.netlist.specs.Netlists.{HasWidth}
use Rattle.cycle_sim.proofs.Lines.{value_width}
use Rattle.cycle_sim.proofs.sim.Sim.value.Goals as goal

pub returns-clause-width : goal.returns-clause-width
returns-clause-width c =
    let lt = subst (λ (s : SimValue). c.args.net < length s.netlist.lines) (sym c.self.view_is) c.requires.net_is in
    subst (λ (s : SimValue). HasWidth s.netlist c.args.net c.index.result.now.width) c.self.view_is
    (value_width c.self.inside.module.lines c.self.inside.nets.items c.args.net c.index.result.now c.self.invariant.0.nets lt c.index.ensures)
