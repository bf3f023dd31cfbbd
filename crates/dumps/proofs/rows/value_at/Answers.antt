use Rattle.std.proofs.Common.{◌≡◌, ◌<◌, length, refl, sym, ap, subst, arith}
use Rattle.std.specs.Prelude.{ℕ}
use Rattle.netlist.specs.Netlists.{input_net}
use Rattle.cycle_sim.specs.Sims.{present}
use Rattle.dumps.proofs.Ports.{input_within, input_value, output_value}
use Rattle.dumps.proofs.rows.value_at.Goals as goal

pub output-requires-clause-port_is : goal.output-requires-clause-port_is
output-requires-clause-port_is c = (c.args.port.now.width, record { port = c.args.port.now; is = c.requires.there; output = c.if-port.true; width = refl })

pub value-requires-clause-net_is : goal.value-requires-clause-net_is
value-requires-clause-net_is c =
    let within = input_within c.args.sim.now.netlist c.well_made.ensures.is_module c.args.number c.args.port.now c.requires.there c.if-port.false in
    omega (arith, within, c.requires.inputs)

pub returns-then-port : goal.returns-then-port
returns-then-port c = output_value c.args.sim.now.netlist (present c.args.sim.now) c.args.number c.args.port.now c.output.result c.requires.there c.output.ensures.width c.output.ensures.bits

pub returns-else-port : goal.returns-else-port
returns-else-port c =
    input_value c.args.sim.now.netlist c.well_made.ensures.is_module (present c.args.sim.now) c.args.number c.args.port.now c.args.inputs c.value.result c.requires.there c.if-port.false c.requires.inputs c.value.ensures.width c.value.ensures.bits
