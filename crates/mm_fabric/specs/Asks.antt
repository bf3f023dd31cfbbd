-- The hosts of a plan that ask an agent, and their commands for it.
use Rattle.std.specs.Prelude.{◌≡◌, ℕ, ◌≤◌, nat_eq, List, [], ◌∷◌, length, map, filter, if◌then◌else◌, Option, Some, None, slice_get}
use Rattle.iface_roles.specs.declared.records.AgentPort.{AgentPort}
use Rattle.iface_roles.specs.Proper.{range_of, span_of}
use Rattle.system_tables.specs.Tables.{SystemTable}
use Rattle.link_rules.specs.declared.plan_connections.MemoryConnection.{MemoryConnection}
use Rattle.link_rules.specs.PlanConnections.{memory_connections}
use Rattle.link_rules.specs.Plans.{PlanTable}
use Rattle.netlist.specs.Netlists.{Netlist}
use Rattle.memory_runs.specs.declared.sides.route.Route.{Route}
use Rattle.command_nets.specs.declared.nets.CommandNets.{CommandNets}
use Rattle.mm_arbiter.specs.declared.asker.Asker.{Asker}
use Rattle.mm_width.specs.Pairs.{MayMeet}
use Rattle.mm_fabric.specs.declared.begun.BegunHost.{BegunHost}
use Rattle.mm_fabric.specs.declared.parts.Asking.{Asking}
use Rattle.mm_fabric.specs.declared.parts.Seat.{Seat}
use Rattle.mm_fabric.specs.Begun.{IsBegun}
use Rattle.mm_fabric.specs.Wide.{IsSeated}

-- those of the links that are the agent's
abbrev pub asking_among : ℕ → List MemoryConnection → List Asker
asking_among agent links =
    map (λ link. record { host = link.host_number; shares = link.shares }) (filter (λ link. nat_eq link.agent_number agent) links)

-- the hosts that are joined to an agent, in the order of the connections
abbrev pub asking : SystemTable → ℕ → List Asker
asking system agent = asking_among agent (memory_connections system)

-- the command of the first route to an agent
abbrev pub command_to : ℕ → List Route → List CommandNets → Option CommandNets
command_to agent (route ∷ routes) (command ∷ commands) =
    if nat_eq route.agent agent then Some command else command_to agent routes commands
command_to agent routes commands = None

-- this command is that of the asker's host for the agent
pub record IsCommandFor (agent : ℕ) (begun : List BegunHost) (asker : Asker) (command : CommandNets) : Type 0 where
  pub host : BegunHost
  pub at : slice_get begun asker.host ≡ Some host
  pub many : length host.commands.items ≡ length host.routes
  pub leads : command_to agent host.routes host.commands.items ≡ Some command

-- this asks for the agent: the ports of the asker's host and its command
pub record AsksAs (agent : ℕ) (begun : List BegunHost) (asker : Asker) (one : Asking) : Type 0 where
  pub is : IsCommandFor agent begun asker one.command
  pub port : one.port ≡ is.host.port

-- there is a command for each
abbrev pub AllHaveCommands : ℕ → List BegunHost → List Asker → Type 0
AllHaveCommands agent begun [] = Unit {0}
AllHaveCommands agent begun (asker ∷ later) =
    ((command : CommandNets) × IsCommandFor agent begun asker command) × AllHaveCommands agent begun later

-- the asker's host, which may meet the agent, is begun with a route there. Its range holds the agent's span and a word of its own
pub record CanAsk (plan : PlanTable) (netlist : Netlist) (agent : ℕ) (port : AgentPort) (begun : List BegunHost)
    (asker : Asker) : Type 0 where
  pub command : CommandNets
  pub host : BegunHost
  pub at : slice_get begun asker.host ≡ Some host
  pub leads : command_to agent host.routes host.commands.items ≡ Some command
  pub is : IsBegun plan netlist asker.host host
  pub pair : MayMeet host.port port
  pub word : host.port.word_bytes ≤ range_of host.port
  pub span : span_of port ≤ range_of host.port

abbrev pub AllCanAsk : PlanTable → Netlist → ℕ → AgentPort → List BegunHost → List Asker → Type 0
AllCanAsk plan netlist agent port begun [] = Unit {0}
AllCanAsk plan netlist agent port begun (asker ∷ later) =
    CanAsk plan netlist agent port begun asker × AllCanAsk plan netlist agent port begun later

-- the links from the asker's host, with its command for the agent, lead to this seat
pub record IsSeatFor (netlist : Netlist) (port : AgentPort) (agent : ℕ) (begun : List BegunHost) (asker : Asker)
    (seat : Seat) : Type 0 where
  pub one : Asking
  pub asks : AsksAs agent begun asker one
  pub seated : IsSeated netlist port one seat
