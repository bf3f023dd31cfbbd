use Rattle.port_tables.specs.EndFacts.{planned}
use Rattle.port_tables.proofs.PortPlaces.{are_told, entries-few}
use Rattle.port_tables.proofs.port_table.PortMap.make.Goals as goal

pub invariant_of-result : goal.invariant_of-result
invariant_of-result c = record { few = entries-few c.args.plan.now.system c.in_ok-port_entries.field-0 (planned c.args.plan.now c.well_made.ensures) c.in_ok-port_entries.ensures }

pub returns-clause-told : goal.returns-clause-told
returns-clause-told c =
    are_told c.args.plan.now.system _ (planned c.args.plan.now c.well_made.ensures) (record { entries = c.in_ok-port_entries.ensures; agents = c.in_ok-agents.ensures; sinks = c.in_ok-sinks.ensures })
