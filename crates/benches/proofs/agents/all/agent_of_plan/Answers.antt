use Rattle.std.proofs.Common.{ap, subst, sym, ◌∙◌}
use Rattle.iface_roles.specs.declared.records.AgentPort.{AgentPort}
use Rattle.iface_roles.specs.declared.records.Finished.TheVariants.{Agent}
use Rattle.address_map.specs.Maps.{agents_of}
use Rattle.port_tables.specs.EndFacts.{known_is}
use Rattle.stand_ins.specs.Whole.{IsFirst}
use Rattle.benches.proofs.agents.Making.{an_end}
use Rattle.benches.proofs.parts.Numbered.{end_at}
use Rattle.benches.proofs.agents.all.agent_of_plan.Goals as goal

pub new-requires-clause-script : goal.new-requires-clause-script
new-requires-clause-script c = c.requires.script c.agent-port.result c.agent-port.ensures.at

pub of-requires : goal.of-requires
of-requires c =
    let at = end_at c.agents.result.now (agents_of c.args.plan.now.system) c.args.number _ c.agents.ensures c.requires.number in
    (Agent c.agent-port.result, c.agent-port.ensures.end _ at)

pub of-requires-2-clause-end : goal.of-requires-2-clause-end
of-requires-2-clause-end c =
    an_end c.args.plan.now.system c.args.number _ (end_at c.agents.result.now (agents_of c.args.plan.now.system) c.args.number _ c.agents.ensures c.requires.number)

pub of-requires-3-clause-end : goal.of-requires-3-clause-end
of-requires-3-clause-end c =
    an_end c.args.plan.now.system c.args.number _ (end_at c.agents.result.now (agents_of c.args.plan.now.system) c.args.number _ c.agents.ensures c.requires.number)

pub of-requires-3-clause-agent : goal.of-requires-3-clause-agent
of-requires-3-clause-agent c = end_at c.agents.result.now (agents_of c.args.plan.now.system) c.args.number _ c.agents.ensures c.requires.number

pub returns : goal.returns
returns c =
    let system = c.args.plan.now.system in
    let at = end_at c.agents.result.now (agents_of system) c.args.number _ c.agents.ensures c.requires.number in
    let port_is = c.in-Ok.ensures.port_is in
    record {
      of = record {
        at = record { end = _; end_is = at; is = known_is system _ _ (c.agent-port.ensures.end _ at) ∙ ap Agent (sym port_is) };
        name = c.of.ensures;
        places = c.of-2.ensures;
        ports = c.of-3.ensures;
      };
      first = subst (λ (port : AgentPort). IsFirst port c.args.script.now c.args.cycles c.in-Ok.stand_in) (sym port_is) c.in-Ok.ensures;
      bytes = c.script_holds_bytes.ensures;
    }
