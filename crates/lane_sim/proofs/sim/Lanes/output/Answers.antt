use Rattle.std.proofs.Common.{ℕ, ◌≡◌, Option, sym, subst, ap, ◌∙◌, arith}
use Rattle.std.specs.Prelude.{unwrap_or}
use Rattle.av_base.specs.Word.{Word}
use Rattle.netlist.specs.Netlists.{IsOutputPort, input_net}
use Rattle.netlist.specs.Signals.{port_net}
use Rattle.cycle_sim.specs.Sims.{present, bits_at}
use Rattle.lane_sim.specs.LaneSims.{LanesValue, lane_of, lane_words}
use Rattle.lane_sim.proofs.LaneLists.{within_lanes, lane_width, lane_operand}
use Rattle.lane_sim.proofs.sim.Lanes.output.Goals as goal

pub index-requires : goal.index-requires
index-requires c =
    let port = subst (λ (v : LanesValue). (w : ℕ) × IsOutputPort v.netlist.ports c.args.port w) (sym c.self.view_is) c.requires.port_is in
    let lt = within_lanes c.self.inside.module.lines c.self.inside.nets.items c.driver.result port.0 (λ j below. (c.self.invariant.0.each j below).nets) (c.driver.ensures.width port.0 port.1) in
    omega (arith, lt, c.self.inside.nets.ok.0)

pub returns-clause-width : goal.returns-clause-width
returns-clause-width c =
    let port = subst (λ (v : LanesValue). (w : ℕ) × IsOutputPort v.netlist.ports c.args.port w) (sym c.self.view_is) c.requires.port_is in
    let width = lane_width c.self.inside.module.lines c.self.inside.nets.items c.driver.result port.0 (λ j below. (c.self.invariant.0.each j below).nets) (c.driver.ensures.width port.0 port.1) c.index.result.now c.index.ensures in
    subst (λ (v : LanesValue). IsOutputPort v.netlist.ports c.args.port c.lane.result.width) c.self.view_is
    (subst (λ w. IsOutputPort c.self.inside.module.ports c.args.port w) (sym (ap (λ (x : Word). x.width) c.lane.ensures ∙ width)) port.1)

pub returns-clause-bits : goal.returns-clause-bits
returns-clause-bits c =
    let port = subst (λ (v : LanesValue). (w : ℕ) × IsOutputPort v.netlist.ports c.args.port w) (sym c.self.view_is) c.requires.port_is in
    let bits = ap (λ (x : Word). x.bits) (c.lane.ensures ∙ lane_operand c.args.lane c.requires.lane_is c.self.inside.module.lines c.self.inside.nets.items c.driver.result port.0 (λ j below. (c.self.invariant.0.each j below).nets) (c.driver.ensures.width port.0 port.1) c.index.result.now c.index.ensures) in
    let net : port_net c.self.inside.module c.args.port ≡ c.driver.result = ap (λ (o : Option ℕ). unwrap_or o (input_net c.self.inside.module.ports c.args.port)) c.driver.ensures.driver in
    subst (λ (v : LanesValue). c.lane.result.bits ≡ (present (lane_of v c.args.lane)).net (port_net v.netlist c.args.port)) c.self.view_is (bits ∙ ap (bits_at (lane_words c.args.lane c.self.inside.nets.items)) (sym net))
