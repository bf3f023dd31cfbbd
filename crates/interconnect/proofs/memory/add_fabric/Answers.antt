use Rattle.std.proofs.Common.{length, Err, sym, ap, subst, ◌∙◌}
use Rattle.address_map.specs.Maps.{hosts_of, agents_of}
use Rattle.interconnect.specs.Hosts.{AreHostsIn}
use Rattle.interconnect.specs.Agents.{AreAgentsIn}
use Rattle.interconnect.proofs.Adding.{are_hosts, are_agents, room_for_all, adds_fabric}
use Rattle.interconnect.proofs.memory.add_fabric.Goals as goal

pub emit_fabric-requires-clause-hosts : goal.emit_fabric-requires-clause-hosts
emit_fabric-requires-clause-hosts c =
    are_hosts c.args.plan.now c.args.builder.now _ (subst (AreHostsIn c.args.plan.now.system c.args.builder.now (length (hosts_of c.args.plan.now.system))) (sym c.as_slice.ensures) c.in_ok-hosts.ensures)

pub emit_fabric-requires-clause-agents : goal.emit_fabric-requires-clause-agents
emit_fabric-requires-clause-agents c =
    are_agents c.args.plan.now c.args.builder.now _ (subst (AreAgentsIn c.args.plan.now.system c.args.builder.now (length (agents_of c.args.plan.now.system))) (sym c.as_slice-2.ensures) c.in_ok-agents.ensures)

pub unreachable-requires : goal.unreachable-requires
unreachable-requires c =
    let hosts = subst (AreHostsIn c.args.plan.now.system c.args.builder.now (length (hosts_of c.args.plan.now.system))) (sym c.as_slice.ensures) c.in_ok-hosts.ensures in
    let agents = subst (AreAgentsIn c.args.plan.now.system c.args.builder.now (length (agents_of c.args.plan.now.system))) (sym c.as_slice-2.ensures) c.in_ok-agents.ensures in
    room_for_all c.args.plan.now.system c.args.builder.now _ _ c.ports_are_known.ensures c.requires.begun hosts.many agents.many (record { connections = c.links_are_connections.ensures c.args.plan.now c.well_made.ensures; agents = c.links_are_few.ensures c.args.plan.now c.well_made.ensures }) (c.emit_fabric.ensures.full (c.in-Err-TooManyNets.is ∙ ap Err c.in-Err-TooManyNets.field-0-is))

pub returns-in-Ok : goal.returns-in-Ok
returns-in-Ok c =
    adds_fabric c.args.plan.now c.args.builder.now c.emit_fabric.new.builder _ _ c.in-Ok.parts (record {
      hosts_in = subst (AreHostsIn c.args.plan.now.system c.args.builder.now (length (hosts_of c.args.plan.now.system))) (sym c.as_slice.ensures) c.in_ok-hosts.ensures;
      agents_in = subst (AreAgentsIn c.args.plan.now.system c.args.builder.now (length (agents_of c.args.plan.now.system))) (sym c.as_slice-2.ensures) c.in_ok-agents.ensures;
      hosts_are = c.in-Ok.ensures.hosts;
      agents_are = c.in-Ok.ensures.agents;
      stands = c.in-Ok.ensures.parts;
      grows = c.emit_fabric.ensures.grows;
      no_more_wait = c.in-Ok.ensures.no_more_wait;
      no_more_wait_for_write = c.in-Ok.ensures.no_more_wait_for_write;
    })
