use Rattle.std.proofs.Common.{sym, subst, List}
use Rattle.system_tables.specs.declared.tables.EndId.{EndId}
use Rattle.port_tables.specs.Ends.{ArePlanEnds}
use Rattle.port_tables.specs.EndFacts.{planned}
use Rattle.port_tables.specs.Numbering.{are_hosts, are_agents}
use Rattle.port_tables.proofs.header.port_entries.Goals as goal

pub push_ends-requires : goal.push_ends-requires
push_ends-requires c = subst (λ (ends : List EndId). ArePlanEnds c.args.plan.now.system ends) (sym c.hosts.ensures) (are_hosts c.args.plan.now.system (planned c.args.plan.now c.well_made.ensures))

pub push_ends-requires-2 : goal.push_ends-requires-2
push_ends-requires-2 c = subst (λ (ends : List EndId). ArePlanEnds c.args.plan.now.system ends) (sym c.agents.ensures) (are_agents c.args.plan.now.system (planned c.args.plan.now c.well_made.ensures))
