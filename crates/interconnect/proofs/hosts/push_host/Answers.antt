use Rattle.std.proofs.Common.{◌*◌, Result, Ok, Err, arith}
use Rattle.std.specs.Result.{OnOk}
use Rattle.address_map.specs.Maps.{hosts_of}
use Rattle.memory_runs.specs.Sides.{burst_width}
use Rattle.mm_host.specs.declared.nets.HostNets.{HostNets}
use Rattle.mm_host.specs.Hosts.{bursts}
use Rattle.port_tables.specs.declared.roles.PortRole.TheVariants as role
use Rattle.port_tables.specs.EndFacts.{known_is}
use Rattle.port_tables.specs.Ports.{ports_of}
use Rattle.port_tables.specs.PortMaps.{port_at}
use Rattle.interconnect.proofs.Passing.{found_at}
use Rattle.interconnect.proofs.HostPorts.{input_there, input_if, IsHostRead, host_inputs, host_nets_are}
use Rattle.interconnect.proofs.Gathered.{one_host_more}
use Rattle.interconnect.proofs.NumberedEnds.{host_end_at, host_ports_at}
use Rattle.interconnect.proofs.hosts.push_host.Goals as goal

pub input_net-requires-clause-end : goal.input_net-requires-clause-end
input_net-requires-clause-end c = host_end_at c.args.plan.now.system c.hosts.result.now c.args.number _ c.ports_are_known.ensures c.hosts.ensures c.requires.inside

pub input_net-requires-clause-input : goal.input_net-requires-clause-input
input_net-requires-clause-input c =
    let system = c.args.plan.now.system in
    let port = c.host-port.result in
    let ports = host_ports_at system c.hosts.result.now c.args.number _ port c.ports_are_known.ensures c.hosts.ensures c.requires.inside c.host-port.ensures.end in
    (port.address_bits, input_there system _ role.Address port.address_bits (let some = c.host-port.ensures.bounded.addressed in omega (arith, some)) ports.address)

pub input_of-requires-clause-end : goal.input_of-requires-clause-end
input_of-requires-clause-end c = host_end_at c.args.plan.now.system c.hosts.result.now c.args.number _ c.ports_are_known.ensures c.hosts.ensures c.requires.inside

pub input_of-requires-clause-input : goal.input_of-requires-clause-input
input_of-requires-clause-input c =
    let system = c.args.plan.now.system in
    let port = c.host-port.result in
    let ports = host_ports_at system c.hosts.result.now c.args.number _ port c.ports_are_known.ensures c.hosts.ensures c.requires.inside c.host-port.ensures.end in
    (1, input_if (ports_of system) (port.reads) (1) (port_at system _ role.Read) ports.read)

pub input_of-requires-2-clause-end : goal.input_of-requires-2-clause-end
input_of-requires-2-clause-end c = host_end_at c.args.plan.now.system c.hosts.result.now c.args.number _ c.ports_are_known.ensures c.hosts.ensures c.requires.inside

pub input_of-requires-2-clause-input : goal.input_of-requires-2-clause-input
input_of-requires-2-clause-input c =
    let system = c.args.plan.now.system in
    let port = c.host-port.result in
    let ports = host_ports_at system c.hosts.result.now c.args.number _ port c.ports_are_known.ensures c.hosts.ensures c.requires.inside c.host-port.ensures.end in
    (1, input_if (ports_of system) (port.writes) (1) (port_at system _ role.Write) ports.write)

pub input_of-requires-3-clause-end : goal.input_of-requires-3-clause-end
input_of-requires-3-clause-end c = host_end_at c.args.plan.now.system c.hosts.result.now c.args.number _ c.ports_are_known.ensures c.hosts.ensures c.requires.inside

pub input_of-requires-3-clause-input : goal.input_of-requires-3-clause-input
input_of-requires-3-clause-input c =
    let system = c.args.plan.now.system in
    let port = c.host-port.result in
    let ports = host_ports_at system c.hosts.result.now c.args.number _ port c.ports_are_known.ensures c.hosts.ensures c.requires.inside c.host-port.ensures.end in
    (port.word_bytes * 8, input_if (ports_of system) (port.writes) (port.word_bytes * 8) (port_at system _ role.WriteData) ports.writedata)

pub input_of-requires-4-clause-end : goal.input_of-requires-4-clause-end
input_of-requires-4-clause-end c = host_end_at c.args.plan.now.system c.hosts.result.now c.args.number _ c.ports_are_known.ensures c.hosts.ensures c.requires.inside

pub input_of-requires-4-clause-input : goal.input_of-requires-4-clause-input
input_of-requires-4-clause-input c =
    let system = c.args.plan.now.system in
    let port = c.host-port.result in
    let ports = host_ports_at system c.hosts.result.now c.args.number _ port c.ports_are_known.ensures c.hosts.ensures c.requires.inside c.host-port.ensures.end in
    (port.word_bytes, input_if (ports_of system) (port.enables) (port.word_bytes) (port_at system _ role.ByteEnable) ports.byteenable)

pub input_of-requires-5-clause-end : goal.input_of-requires-5-clause-end
input_of-requires-5-clause-end c = host_end_at c.args.plan.now.system c.hosts.result.now c.args.number _ c.ports_are_known.ensures c.hosts.ensures c.requires.inside

pub input_of-requires-5-clause-input : goal.input_of-requires-5-clause-input
input_of-requires-5-clause-input c =
    let system = c.args.plan.now.system in
    let port = c.host-port.result in
    let ports = host_ports_at system c.hosts.result.now c.args.number _ port c.ports_are_known.ensures c.hosts.ensures c.requires.inside c.host-port.ensures.end in
    (burst_width port.burst_bits, input_if (ports_of system) (bursts port) (burst_width port.burst_bits) (port_at system _ role.BurstCount) ports.burstcount)

-- what holds where there is no fault
on_ok : {T E A B : Type 0} (r : Result T E) → OnOk r A → (A → B) → OnOk r B
on_ok (Ok t) a f = f a
on_ok (Err e) a f = tt

pub returns : goal.returns
returns c =
    let system = c.args.plan.now.system in
    let port = c.host-port.result in
    let at = found_at c.hosts.result.now (hosts_of system) c.args.number _ c.hosts.ensures c.requires.inside in
    let ports = host_ports_at system c.hosts.result.now c.args.number _ port c.ports_are_known.ensures c.hosts.ensures c.requires.inside c.host-port.ensures.end in
    let address = input_there system _ role.Address port.address_bits (let some = c.host-port.ensures.bounded.addressed in omega (arith, some)) ports.address in
    let nets : HostNets = record { address = c.input_net.result; read = c.input_of.result; write = c.input_of-2.result; writedata = c.input_of-3.result; byteenable = c.input_of-4.result; burstcount = c.input_of-5.result } in
    let read : IsHostRead system c.args.builder.now _ port nets = record {
      ports = ports;
      bounded = c.host-port.ensures.bounded;
      address_is = c.input_net.ensures.net port.address_bits address;
      address = c.input_net.ensures.is port.address_bits address;
      read = record { net_is = c.input_of.ensures.net; is = c.input_of.ensures.is };
      write = record { net_is = c.input_of-2.ensures.net; is = c.input_of-2.ensures.is };
      writedata = record { net_is = c.input_of-3.ensures.net; is = c.input_of-3.ensures.is };
      byteenable = record { net_is = c.input_of-4.ensures.net; is = c.input_of-4.ensures.is };
      burstcount = record { net_is = c.input_of-5.ensures.net; is = c.input_of-5.ensures.is };
    } in
    on_ok c.push.result c.push.ensures.ok (λ is. one_host_more system c.args.builder.now c.args.number c.args.ends.now _ (record { port = port; nets = nets }) c.requires.before (record {
      end = _;
      end_is = at;
      port_is = known_is system _ _ (c.host-port.ensures.end _ at);
      bounded = c.host-port.ensures.bounded;
      inputs = host_inputs system c.args.builder.now _ port nets read;
    }) (host_nets_are system c.args.builder.now _ port nets read) is)
