use Rattle.std.proofs.Common.{ap, ◌∙◌}
use Rattle.netlist.specs.Netlists.{is_register}
use Rattle.cycle_sim.proofs.reading.Lines.{equation_is}
use Rattle.cycle_sim.proofs.reading.RegisterLists.{no_register}
use Rattle.cycle_sim.proofs.reading.registers.register_at.Goals as goal

pub returns-in_default : goal.returns-in_default
returns-in_default c = record {
  net = tt;
  next = λ line at. tt;
  none = λ line at. ap is_register (equation_is c.args.module.now c.args.net c.equation.result c.requires.module c.requires.net_is c.equation.ensures line at) ∙ no_register c.equation.result c.in_default.not-Reg;
}
