use Rattle.std.proofs.Common.{subst, ◌∙◌}
use Rattle.iface_roles.specs.declared.records.Finished.TheVariants.{Agent}
use Rattle.iface_roles.specs.Proper.{IsProper}
use Rattle.address_map.specs.Maps.{agents_of}
use Rattle.link_rules.proofs.LinkLemmas.{known_is}
use Rattle.link_rules.proofs.PlanLemmas.{there, same_known, end_known}
use Rattle.link_rules.proofs.plan.Plan.agent.Goals as goal

pub interface-requires : goal.interface-requires
interface-requires c =
    let system = c.args.self.now.system in
    let one = c.ends_are_known.ensures.agents system c.well_made.ensures.system c.args.number _ (there c.agents.result.now (agents_of system) c.args.number _ c.agents.ensures c.requires) in
    (Agent one.agent, one.is)

pub unreachable-requires : goal.unreachable-requires
unreachable-requires c =
    let system = c.args.self.now.system in
    let one = c.ends_are_known.ensures.agents system c.well_made.ensures.system c.args.number _ (there c.agents.result.now (agents_of system) c.args.number _ c.agents.ensures c.requires) in
    c.in_default.not-Agent one.agent (same_known system _ c.interface.result (Agent one.agent) c.interface.ensures one.is)

pub returns-clause-at : goal.returns-clause-at
returns-clause-at c =
    let system = c.args.self.now.system in
    record {
      end = _;
      end_is = there c.agents.result.now (agents_of system) c.args.number _ c.agents.ensures c.requires;
      is = known_is system _ c.interface.result c.interface.ensures ∙ c.in-Agent.is;
    }

pub returns-clause-end : goal.returns-clause-end
returns-clause-end c =
    let system = c.args.self.now.system in
    let at = there c.agents.result.now (agents_of system) c.args.number _ c.agents.ensures c.requires in
    end_known system (agents_of system) c.args.number _ c.interface.result (Agent c.in-Agent.port) at c.interface.ensures c.in-Agent.is

pub returns-clause-bounded : goal.returns-clause-bounded
returns-clause-bounded c =
    let system = c.args.self.now.system in
    let one = c.ends_are_known.ensures.agents system c.well_made.ensures.system c.args.number _ (there c.agents.result.now (agents_of system) c.args.number _ c.agents.ensures c.requires) in
    let same = same_known system _ (Agent one.agent) c.interface.result one.is c.interface.ensures ∙ c.in-Agent.is in
    c.proper_records_are_bounded.ensures.agent c.in-Agent.port (subst IsProper same one.proper)
