use Rattle.std.proofs.Common.{sym, ap, ◌∙◌}
use Rattle.iface_roles.specs.declared.records.HostPort.{HostPort}
use Rattle.iface_roles.specs.declared.records.Finished.TheVariants.{Host}
use Rattle.address_map.specs.Maps.{hosts_of}
use Rattle.port_tables.specs.EndFacts.{known_is}
use Rattle.stand_ins.specs.Steps.{all_steps}
use Rattle.benches.proofs.hosts.HostEnds.{host_is_end}
use Rattle.benches.proofs.parts.Numbered.{end_at}
use Rattle.benches.proofs.hosts.host.first_host.Goals as goal

pub of-requires : goal.of-requires
of-requires c =
    let at = end_at c.hosts.result.now (hosts_of c.args.plan.now.system) c.args.number _ c.hosts.ensures c.requires.number in
    (Host c.host-port.result, c.host-port.ensures.end _ at)

pub of-requires-2-clause-end : goal.of-requires-2-clause-end
of-requires-2-clause-end c =
    let at = end_at c.hosts.result.now (hosts_of c.args.plan.now.system) c.args.number _ c.hosts.ensures c.requires.number in
    (c.args.number, host_is_end c.args.plan.now.system c.args.number _ at)

pub of-requires-3-clause-end : goal.of-requires-3-clause-end
of-requires-3-clause-end c =
    let at = end_at c.hosts.result.now (hosts_of c.args.plan.now.system) c.args.number _ c.hosts.ensures c.requires.number in
    (c.args.number, host_is_end c.args.plan.now.system c.args.number _ at)

pub new-requires-clause-script : goal.new-requires-clause-script
new-requires-clause-script c = c.requires.script c.host-port.result c.host-port.ensures.at

pub returns : goal.returns
returns c =
    let system = c.args.plan.now.system in
    let at = end_at c.hosts.result.now (hosts_of system) c.args.number _ c.hosts.ensures c.requires.number in
    record {
      of = record {
        at = record { end = _; end_is = at; is = known_is system _ _ (c.host-port.ensures.end _ at) ∙ ap Host (sym c.new.ensures.port) };
        name = c.of.ensures;
        places = c.of-2.ensures;
        ports = c.of-3.ensures;
      };
      left = c.new.ensures.left ∙ ap (λ (port : HostPort). all_steps port c.args.script.now) (sym c.new.ensures.port);
    }
