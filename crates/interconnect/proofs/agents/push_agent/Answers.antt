use Rattle.std.proofs.Common.{◌*◌, Result, Ok, Err}
use Rattle.std.specs.Result.{OnOk}
use Rattle.address_map.specs.Maps.{agents_of}
use Rattle.mm_agent.specs.declared.nets.AgentNets.{AgentNets}
use Rattle.port_tables.specs.declared.roles.PortRole.TheVariants as role
use Rattle.port_tables.specs.EndFacts.{known_is}
use Rattle.port_tables.specs.Ports.{ports_of}
use Rattle.port_tables.specs.PortMaps.{port_at}
use Rattle.interconnect.proofs.Passing.{found_at}
use Rattle.interconnect.proofs.HostPorts.{input_if, IsAgentRead, agent_inputs_are, agent_nets_are}
use Rattle.interconnect.proofs.Gathered.{one_agent_more}
use Rattle.interconnect.proofs.NumberedEnds.{agent_end_at, agent_ports_at}
use Rattle.interconnect.proofs.agents.push_agent.Goals as goal

pub input_of-requires-clause-end : goal.input_of-requires-clause-end
input_of-requires-clause-end c = agent_end_at c.args.plan.now.system c.agents.result.now c.args.number _ c.ports_are_known.ensures c.agents.ensures c.requires.inside

pub input_of-requires-clause-input : goal.input_of-requires-clause-input
input_of-requires-clause-input c =
    let system = c.args.plan.now.system in
    let port = c.agent-port.result in
    let ports = agent_ports_at system c.agents.result.now c.args.number _ port c.ports_are_known.ensures c.agents.ensures c.requires.inside c.agent-port.ensures.end in
    (1, input_if (ports_of system) (port.waitrequest) (1) (port_at system _ role.WaitRequest) ports.waitrequest)

pub input_of-requires-2-clause-end : goal.input_of-requires-2-clause-end
input_of-requires-2-clause-end c = agent_end_at c.args.plan.now.system c.agents.result.now c.args.number _ c.ports_are_known.ensures c.agents.ensures c.requires.inside

pub input_of-requires-2-clause-input : goal.input_of-requires-2-clause-input
input_of-requires-2-clause-input c =
    let system = c.args.plan.now.system in
    let port = c.agent-port.result in
    let ports = agent_ports_at system c.agents.result.now c.args.number _ port c.ports_are_known.ensures c.agents.ensures c.requires.inside c.agent-port.ensures.end in
    (port.word_bytes * 8, input_if (ports_of system) (port.reads) (port.word_bytes * 8) (port_at system _ role.ReadData) ports.readdata)

pub input_of-requires-3-clause-end : goal.input_of-requires-3-clause-end
input_of-requires-3-clause-end c = agent_end_at c.args.plan.now.system c.agents.result.now c.args.number _ c.ports_are_known.ensures c.agents.ensures c.requires.inside

pub input_of-requires-3-clause-input : goal.input_of-requires-3-clause-input
input_of-requires-3-clause-input c =
    let system = c.args.plan.now.system in
    let port = c.agent-port.result in
    let ports = agent_ports_at system c.agents.result.now c.args.number _ port c.ports_are_known.ensures c.agents.ensures c.requires.inside c.agent-port.ensures.end in
    (1, input_if (ports_of system) (port.readdatavalid) (1) (port_at system _ role.ReadDataValid) ports.readdatavalid)

pub input_of-requires-4-clause-end : goal.input_of-requires-4-clause-end
input_of-requires-4-clause-end c = agent_end_at c.args.plan.now.system c.agents.result.now c.args.number _ c.ports_are_known.ensures c.agents.ensures c.requires.inside

pub input_of-requires-4-clause-input : goal.input_of-requires-4-clause-input
input_of-requires-4-clause-input c =
    let system = c.args.plan.now.system in
    let port = c.agent-port.result in
    let ports = agent_ports_at system c.agents.result.now c.args.number _ port c.ports_are_known.ensures c.agents.ensures c.requires.inside c.agent-port.ensures.end in
    (2, input_if (ports_of system) (port.response) (2) (port_at system _ role.Response) ports.response)

-- what holds where there is no fault
on_ok : {T E A B : Type 0} (r : Result T E) → OnOk r A → (A → B) → OnOk r B
on_ok (Ok t) a f = f a
on_ok (Err e) a f = tt

pub returns : goal.returns
returns c =
    let system = c.args.plan.now.system in
    let port = c.agent-port.result in
    let at = found_at c.agents.result.now (agents_of system) c.args.number _ c.agents.ensures c.requires.inside in
    let nets : AgentNets = record { waitrequest = c.input_of.result; readdata = c.input_of-2.result; readdatavalid = c.input_of-3.result; response = c.input_of-4.result } in
    let read : IsAgentRead system c.args.builder.now _ port nets = record {
      ports = agent_ports_at system c.agents.result.now c.args.number _ port c.ports_are_known.ensures c.agents.ensures c.requires.inside c.agent-port.ensures.end;
      bounded = c.agent-port.ensures.bounded;
      waitrequest = record { net_is = c.input_of.ensures.net; is = c.input_of.ensures.is };
      readdata = record { net_is = c.input_of-2.ensures.net; is = c.input_of-2.ensures.is };
      readdatavalid = record { net_is = c.input_of-3.ensures.net; is = c.input_of-3.ensures.is };
      response = record { net_is = c.input_of-4.ensures.net; is = c.input_of-4.ensures.is };
    } in
    on_ok c.push.result c.push.ensures.ok (λ is. one_agent_more system c.args.builder.now c.args.number c.args.ends.now _ (record { port = port; nets = nets }) c.requires.before (record {
      end = _;
      end_is = at;
      port_is = known_is system _ _ (c.agent-port.ensures.end _ at);
      bounded = c.agent-port.ensures.bounded;
      inputs = agent_inputs_are system c.args.builder.now _ port nets read;
    }) (agent_nets_are system c.args.builder.now _ port nets read) is)
