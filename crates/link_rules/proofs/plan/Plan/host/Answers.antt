use Rattle.std.proofs.Common.{subst, ◌∙◌}
use Rattle.iface_roles.specs.declared.records.Finished.TheVariants.{Host}
use Rattle.iface_roles.specs.Proper.{IsProper}
use Rattle.address_map.specs.Maps.{hosts_of}
use Rattle.link_rules.proofs.LinkLemmas.{known_is}
use Rattle.link_rules.proofs.PlanLemmas.{there, same_known, end_known}
use Rattle.link_rules.proofs.plan.Plan.host.Goals as goal

pub interface-requires : goal.interface-requires
interface-requires c =
    let system = c.args.self.now.system in
    let one = c.ends_are_known.ensures.hosts system c.well_made.ensures.system c.args.number _ (there c.hosts.result.now (hosts_of system) c.args.number _ c.hosts.ensures c.requires) in
    (Host one.host, one.is)

pub unreachable-requires : goal.unreachable-requires
unreachable-requires c =
    let system = c.args.self.now.system in
    let one = c.ends_are_known.ensures.hosts system c.well_made.ensures.system c.args.number _ (there c.hosts.result.now (hosts_of system) c.args.number _ c.hosts.ensures c.requires) in
    c.in_default.not-Host one.host (same_known system _ c.interface.result (Host one.host) c.interface.ensures one.is)

pub returns-clause-at : goal.returns-clause-at
returns-clause-at c =
    let system = c.args.self.now.system in
    record {
      end = _;
      end_is = there c.hosts.result.now (hosts_of system) c.args.number _ c.hosts.ensures c.requires;
      is = known_is system _ c.interface.result c.interface.ensures ∙ c.in-Host.is;
    }

pub returns-clause-end : goal.returns-clause-end
returns-clause-end c =
    let system = c.args.self.now.system in
    let at = there c.hosts.result.now (hosts_of system) c.args.number _ c.hosts.ensures c.requires in
    end_known system (hosts_of system) c.args.number _ c.interface.result (Host c.in-Host.port) at c.interface.ensures c.in-Host.is

pub returns-clause-bounded : goal.returns-clause-bounded
returns-clause-bounded c =
    let system = c.args.self.now.system in
    let one = c.ends_are_known.ensures.hosts system c.well_made.ensures.system c.args.number _ (there c.hosts.result.now (hosts_of system) c.args.number _ c.hosts.ensures c.requires) in
    let same = same_known system _ (Host one.host) c.interface.result one.is c.interface.ensures ∙ c.in-Host.is in
    c.proper_records_are_bounded.ensures.host c.in-Host.port (subst IsProper same one.proper)
