-- What stands next to hosts and agents stands in each longer netlist. No contract reads these proofs.
use Rattle.std.specs.Prelude.{ℕ, ◌*◌, List}
use Rattle.iface_roles.specs.declared.records.AgentPort.{AgentPort}
use Rattle.iface_roles.specs.declared.records.HostPort.{HostPort}
use Rattle.link_rules.specs.Plans.{PlanTable}
use Rattle.netlist.specs.Netlists.{Netlist}
use Rattle.netlist.specs.Longer.{Extends}
use Rattle.net_parts.specs.Laws.{extends_twice, net_lasts, register_lasts}
use Rattle.memory_runs.specs.declared.sides.route.Route.{Route}
use Rattle.command_nets.specs.declared.nets.CommandNets.{CommandNets}
use Rattle.command_nets.specs.Groups.{command_lasts, answer_lasts}
use Rattle.command_nets.specs.Ports.{has_lasts}
use Rattle.mm_route.specs.Forward.{forward_lasts}
use Rattle.mm_host.specs.declared.nets.HostAnswer.{HostAnswer}
use Rattle.mm_host.specs.Forms.{held_lasts, AreAnswersTo}
use Rattle.mm_agent.specs.declared.nets.AgentMade.{AgentMade}
use Rattle.mm_agent.specs.Agents.{agent_lasts, AreMadeNets, has_address}
use Rattle.mm_arbiter.specs.Forward.{forward_lasts as chosen_lasts}
use Rattle.mm_fabric.specs.declared.parts.HostPart.{HostPart}
use Rattle.mm_fabric.specs.declared.parts.Seat.{Seat}
use Rattle.mm_fabric.specs.declared.parts.AgentPart.{AgentPart}
use Rattle.mm_fabric.specs.Parts.{IsHostPart, IsAgentPart, Meets, commands_below, commands_above, askers_of}
use Rattle.mm_fabric.specs.Fabrics.{Fabric, IsFabric, AreJoined}

told_lasts : (old new : Netlist) (port : HostPort) (told : HostAnswer) → AreAnswersTo old port told → Extends old new
    → AreAnswersTo new port told
told_lasts old new port told h e = record {
  waitrequest = net_lasts old new told.waitrequest 1 e h.waitrequest;
  readdata = net_lasts old new told.readdata (port.word_bytes * 8) e h.readdata;
  readdatavalid = has_lasts old new port.readdatavalid 1 told.readdatavalid h.readdatavalid e;
  response = has_lasts old new port.response 2 told.response h.response e;
}

made_lasts : (old new : Netlist) (port : AgentPort) (command : CommandNets) (made : AgentMade) → AreMadeNets old port command made
    → Extends old new → AreMadeNets new port command made
made_lasts old new port command made h e = record {
  address = has_lasts old new (has_address port) port.address_bits made.address h.address e;
  read = has_lasts old new port.reads 1 made.read h.read e;
  waitrequest = net_lasts old new made.waitrequest 1 e h.waitrequest;
  answer = answer_lasts old new made.answer (port.word_bytes * 8) e h.answer;
  answer_tag = net_lasts old new made.answer_tag command.tag.width e h.answer_tag;
}

pub host_part_lasts : (old new : Netlist) (number : ℕ) (routes : List Route) (part : HostPart) → IsHostPart old number routes part
    → Extends old new → IsHostPart new number routes part
host_part_lasts old new number routes part h e = record {
  bounded = h.bounded;
  held = held_lasts old new part.port part.held h.held e;
  told = told_lasts old new part.port part.told h.told e;
  host_registers = λ n o. register_lasts old new n e (h.host_registers n o);
  host_ignores = λ one other v w. h.host_ignores one other (e.valuations one v) (e.valuations other w);
  host_runs = λ longer f. h.host_runs longer (extends_twice old new longer e f);
  agents = h.agents;
  route_registers = λ n o. register_lasts old new n e (h.route_registers n o);
  route = forward_lasts routes number part.held.command (commands_below part.ways) part.route old new h.route e;
  route_runs = λ longer f. h.route_runs longer (extends_twice old new longer e f);
}

pub agent_part_lasts : (old new : Netlist) (stages : ℕ) (part : AgentPart) → IsAgentPart old stages part → Extends old new
    → IsAgentPart new stages part
agent_part_lasts old new stages part h e = record {
  bounded = h.bounded;
  nets = agent_lasts old new part.port part.nets h.nets e;
  command = command_lasts old new part.command e h.command;
  word = h.word;
  enables = h.enables;
  count = h.count;
  tag = h.tag;
  made = made_lasts old new part.port part.command part.made h.made e;
  registers = λ n o. register_lasts old new n e (h.registers n o);
  ignores = λ one other v w. h.ignores one other (e.valuations one v) (e.valuations other w);
  runs = λ longer f. h.runs longer (extends_twice old new longer e f);
  arbiter_registers = λ n o. register_lasts old new n e (h.arbiter_registers n o);
  chosen = chosen_lasts (askers_of part.seats) (commands_above part.seats) part.asked part.arbiter old new h.chosen e;
  turns = λ longer f. h.turns longer (extends_twice old new longer e f);
  stages_run = λ longer f. h.stages_run longer (extends_twice old new longer e f);
  stages_ignore = λ longer f. h.stages_ignore longer (extends_twice old new longer e f);
  no_stage = h.no_stage;
}

pub meets_lasts : (old new : Netlist) (host : HostPort) (agent : AgentPort) (command : CommandNets) (seat : Seat)
    → Meets old host agent command seat → Extends old new → Meets new host agent command seat
meets_lasts old new host agent command seat h e = record {
  runs = λ longer f. h.runs longer (extends_twice old new longer e f);
  ignores = λ longer f. h.ignores longer (extends_twice old new longer e f);
  wire = λ same. (let wire = h.wire same in (λ cycle v. wire.0 cycle (e.valuations cycle v), wire.1));
}

pub joined_lasts : (old new : Netlist) (host agent : ℕ) (above : HostPart) (below : AgentPart)
    → AreJoined old host agent above below → Extends old new → AreJoined new host agent above below
joined_lasts old new host agent above below h e = record {
  way = h.way;
  way_is = h.way_is;
  seat = h.seat;
  seat_is = h.seat_is;
  meets = meets_lasts old new above.port below.port h.way.command h.seat h.meets e;
  back = h.back;
  pair = h.pair;
}

pub fabric_lasts : (plan : PlanTable) (old new : Netlist) (fabric : Fabric) → IsFabric plan old fabric → Extends old new
    → IsFabric plan new fabric
fabric_lasts plan old new fabric h e = record {
  host_port = h.host_port;
  host = λ n low. host_part_lasts old new n _ (fabric.host n) (h.host n low) e;
  agent_port = h.agent_port;
  agent = λ n low. agent_part_lasts old new plan.system.stages (fabric.agent n) (h.agent n low) e;
  seats = h.seats;
  joined = λ n a low there has. joined_lasts old new n a (fabric.host n) (fabric.agent a) (h.joined n a low there has) e;
}
