use Rattle.std.proofs.Common.{ℕ, ◌≡◌, Option, sym, subst, ap, ◌∙◌, arith}
use Rattle.std.specs.Prelude.{unwrap_or}
use Rattle.cycle_sim.specs.Sims.{SimValue, present, bits_at}
use Rattle.netlist.specs.Netlists.{IsOutputPort, input_net}
use Rattle.netlist.specs.Signals.{port_net}
use Rattle.cycle_sim.proofs.Lines.{within, operand_width, operand}
use Rattle.av_base.specs.Word.{Word}
use Rattle.cycle_sim.proofs.sim.Sim.output.Goals as goal

pub index-requires : goal.index-requires
index-requires c =
    let port = subst (λ (s : SimValue). (w : ℕ) × IsOutputPort s.netlist.ports c.args.port w) (sym c.self.view_is) c.requires.port_is in
    let lt = within c.self.inside.module.lines c.self.inside.nets.items c.driver.result port.0 c.self.invariant.0.nets (c.driver.ensures.width port.0 port.1) in
    omega (arith, lt, c.self.inside.nets.ok.0)

pub returns-clause-width : goal.returns-clause-width
returns-clause-width c =
    let port = subst (λ (s : SimValue). (w : ℕ) × IsOutputPort s.netlist.ports c.args.port w) (sym c.self.view_is) c.requires.port_is in
    let width = operand_width c.self.inside.module.lines c.self.inside.nets.items c.driver.result port.0 c.self.invariant.0.nets (c.driver.ensures.width port.0 port.1) _ c.index.ensures in
    subst (λ (s : SimValue). IsOutputPort s.netlist.ports c.args.port c.index.result.now.width) c.self.view_is (subst (λ w. IsOutputPort c.self.inside.module.ports c.args.port w) (sym width) port.1)

pub returns-clause-bits : goal.returns-clause-bits
returns-clause-bits c =
    let port = subst (λ (s : SimValue). (w : ℕ) × IsOutputPort s.netlist.ports c.args.port w) (sym c.self.view_is) c.requires.port_is in
    let bits = ap (λ (x : Word). x.bits) (operand c.self.inside.module.lines c.self.inside.nets.items c.driver.result port.0 c.self.invariant.0.nets (c.driver.ensures.width port.0 port.1) _ c.index.ensures) in
    let net : port_net c.self.inside.module c.args.port ≡ c.driver.result = ap (λ (o : Option ℕ). unwrap_or o (input_net c.self.inside.module.ports c.args.port)) c.driver.ensures.driver in
    subst (λ (s : SimValue). c.index.result.now.bits ≡ (present s).net (port_net s.netlist c.args.port)) c.self.view_is (bits ∙ ap (bits_at c.self.inside.nets.items) (sym net))
