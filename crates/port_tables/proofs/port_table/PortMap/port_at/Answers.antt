use Rattle.port_tables.specs.EndFacts.{planned}
use Rattle.port_tables.proofs.PortPlaces.{place_is}
use Rattle.port_tables.specs.Lists.{among_at}
use Rattle.port_tables.specs.Ports.{ends_of}
use Rattle.port_tables.proofs.port_table.PortMap.port_at.Goals as goal

pub returns : goal.returns
returns c =
    place_is c.args.plan.now.system c.args.self.now.entries c.args.end c.args.role c.find.result (planned c.args.plan.now c.well_made.ensures) c.requires.map
    (among_at (ends_of c.args.plan.now.system) c.requires.end.0 c.args.end c.requires.end.1) c.find.ensures
