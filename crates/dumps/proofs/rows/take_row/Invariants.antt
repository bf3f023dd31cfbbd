use Rattle.cycle_sim.specs.Sims.{present}
use Rattle.dumps.proofs.Ports.{IsPartRow}
use Rattle.dumps.proofs.rows.take_row.Given as goal

abbrev pub invariant-each : goal.invariant-each
invariant-each l = IsPartRow l.sim.netlist (present l.sim) l.number l.row.items l.inputs
