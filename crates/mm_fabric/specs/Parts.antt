-- The parts next to a host and next to an agent: what they run as.
use Rattle.std.specs.Prelude.{◌≡◌, ℕ, ◌*◌, true, List, map}
use Rattle.iface_roles.specs.declared.records.AgentPort.{AgentPort}
use Rattle.iface_roles.specs.declared.records.HostPort.{HostPort}
use Rattle.iface_roles.specs.Proper.{IsBoundedHost, IsBoundedAgent}
use Rattle.netlist.specs.Netlists.{Netlist}
use Rattle.netlist.specs.Runs.{Always}
use Rattle.net_parts.specs.Nets.{IsRegister}
use Rattle.memory_runs.specs.declared.sides.route.Route.{Route}
use Rattle.memory_runs.specs.Sides.{burst_width}
use Rattle.command_nets.specs.declared.nets.CommandNets.{CommandNets}
use Rattle.command_nets.specs.Nets.{AreCommandNets, raw_in}
use Rattle.mm_route.specs.declared.back.BackNets.{BackNets}
use Rattle.mm_route.specs.Forward.{RouteForward}
use Rattle.mm_route.specs.Forward.{owns as owned_by_route}
use Rattle.mm_route.specs.Machine.{RunsAsMachine}
use Rattle.mm_host.specs.Forms.{IsHeld, IgnoresAnswer as HostIgnoresAnswer, AreAnswersTo, RunsAsHost}
use Rattle.mm_host.specs.Forms.{owns as owned_by_host}
use Rattle.mm_agent.specs.Agents.{AreAgentNets, AreMadeNets}
use Rattle.mm_agent.specs.Forms.{IgnoresAnswer as AgentIgnoresAnswer, RunsAsAgent}
use Rattle.mm_agent.specs.Forms.{owns as owned_by_agent}
use Rattle.mm_arbiter.specs.declared.asker.Asker.{Asker}
use Rattle.mm_arbiter.specs.declared.back.BackNets.{BackNets as ArbiterBackNets}
use Rattle.mm_arbiter.specs.declared.back.BelowNets.{BelowNets}
use Rattle.mm_arbiter.specs.Forward.{ArbiterForward}
use Rattle.mm_arbiter.specs.Forward.{owns as owned_by_arbiter}
use Rattle.mm_arbiter.specs.Machine.{RunsAsArbiter}
use Rattle.mm_fabric.specs.Trunks.{room_bits}
use Rattle.link_core.specs.Rows.{IgnoresInLonger}
use Rattle.mm_width.specs.Pairs.{is_wire_pair}
use Rattle.mm_width.specs.Widths.{WidthInLonger}
use Rattle.mm_fabric.specs.declared.parts.Way.{Way}
use Rattle.mm_fabric.specs.declared.parts.HostPart.{HostPart}
use Rattle.mm_fabric.specs.declared.parts.Seat.{Seat}
use Rattle.mm_fabric.specs.declared.parts.AgentPart.{AgentPart}
use Rattle.mm_fabric.specs.Stages.{RunsAsStages}

-- ---- next to a host

abbrev pub commands_below : List Way → List CommandNets
commands_below ways = map (λ (w : Way). w.command) ways

abbrev pub backs_below : List Way → List BackNets
backs_below ways = map (λ (w : Way). w.back) ways

-- the part next to the host, and its route, each between the other's nets; a way leads to the agent of each route
pub record IsHostPart (netlist : Netlist) (number : ℕ) (routes : List Route) (part : HostPart) : Type 0 where
  pub bounded : IsBoundedHost part.port
  pub held : IsHeld netlist part.port part.held
  pub told : AreAnswersTo netlist part.port part.told
  pub host_registers : (n : ℕ) → owned_by_host part.held n → IsRegister netlist n
  pub host_ignores : HostIgnoresAnswer netlist part.held
  pub host_runs : RunsAsHost netlist part.port part.held part.wait part.answer part.told
  pub agents : map (λ (w : Way). w.agent) part.ways ≡ map (λ (r : Route). r.agent) routes
  pub route_registers : (n : ℕ) → owned_by_route part.route n → IsRegister netlist n
  pub route : RouteForward routes number part.held.command (commands_below part.ways) part.route netlist
  pub route_runs : RunsAsMachine netlist routes number part.held.command (commands_below part.ways) (room_bits part.port)
      (backs_below part.ways) part.wait part.answer

-- ---- next to an agent

abbrev pub askers_of : List Seat → List Asker
askers_of seats = map (λ (s : Seat). record { host = s.host; shares = s.shares }) seats

abbrev pub commands_above : List Seat → List CommandNets
commands_above seats = map (λ (s : Seat). s.command) seats

abbrev pub backs_above : List Seat → List ArbiterBackNets
backs_above seats = map (λ (s : Seat). record { wait = s.back.wait; answer = s.back.answer }) seats

-- what the part next to the agent tells the pipe
abbrev pub below_of : AgentPart → BelowNets
below_of part = record { wait = part.made.waitrequest; answer = part.made.answer; tag = part.made.answer_tag }

-- the arbiter, the pipe of so many stages and the part next to the agent, each between the nets of the next
pub record IsAgentPart (netlist : Netlist) (stages : ℕ) (part : AgentPart) : Type 0 where
  pub bounded : IsBoundedAgent part.port
  pub nets : AreAgentNets netlist part.port part.nets
  pub command : AreCommandNets netlist part.command
  -- with the words and the bursts of the agent
  pub word : part.command.word.width ≡ part.port.word_bytes * 8
  pub enables : part.command.enables.width ≡ part.port.word_bytes
  pub count : part.command.count.width ≡ burst_width part.port.burst_bits
  -- and the number of a host
  pub tag : part.command.tag.width ≡ 4
  pub made : AreMadeNets netlist part.port part.command part.made
  pub registers : (n : ℕ) → owned_by_agent part.made n → IsRegister netlist n
  pub ignores : AgentIgnoresAnswer netlist part.command part.made
  pub runs : RunsAsAgent netlist part.port part.nets part.command part.made
  pub arbiter_registers : (n : ℕ) → owned_by_arbiter part.arbiter n → IsRegister netlist n
  pub chosen : ArbiterForward (askers_of part.seats) (commands_above part.seats) part.asked part.arbiter netlist
  pub turns : RunsAsArbiter netlist (askers_of part.seats) (commands_above part.seats) part.asked part.told
      (backs_above part.seats)
  pub stages_run : RunsAsStages netlist stages part.asked part.told part.command (below_of part)
  pub stages_ignore : IgnoresInLonger netlist part.asked part.command
  -- the same nets above and below where there is no stage
  pub no_stage : stages ≡ 0 → (part.asked ≡ part.command) × (part.told ≡ below_of part)

-- ---- between them

-- the links of a host and an agent lead from the host's command to a seat. Where none is needed the nets are the same, but for
-- zeros over an address
pub record Meets (netlist : Netlist) (host : HostPort) (agent : AgentPort) (command : CommandNets) (seat : Seat) : Type 0 where
  pub runs : WidthInLonger host agent netlist command seat.told.wait seat.told.answer seat.command seat.back.wait seat.back.answer
  pub ignores : IgnoresInLonger netlist command seat.command
  pub wire : is_wire_pair host agent ≡ true
      → Always netlist (λ cycle. raw_in cycle seat.command ≡ raw_in cycle command) × (seat.back ≡ seat.told)
