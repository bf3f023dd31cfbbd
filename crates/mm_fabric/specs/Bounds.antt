-- Which hosts need no count of their unanswered reads: those whose only agent, with no link between them, bears fewer than 16.
use Rattle.std.specs.Prelude.{ℕ, ◌+◌, ◌*◌, Bool, false, ◌&&◌, if◌then◌else◌, nat_eq, nat_lt, List, find, Option}
use Rattle.std.specs.Option.{option_map_or}
use Rattle.iface_roles.specs.declared.records.AgentPort.{AgentPort}
use Rattle.link_rules.specs.declared.plan_connections.MemoryConnection.{MemoryConnection}
use Rattle.link_rules.specs.PlanConnections.{memory_connections}
use Rattle.link_rules.specs.Plans.{PlanTable}
use Rattle.memory_runs.specs.Sides.{agent_side, bound_of}
use Rattle.memory_parts.specs.Agent.{row_places}
use Rattle.memory_runs.specs.declared.sides.route.Route.{Route}
use Rattle.mm_route.specs.Entries.{is_lone}
use Rattle.mm_width.specs.Pairs.{is_wire_pair}

-- how many reads at most the agent has unanswered, where each is of one word: as many as it bears, or one for each cycle until a
-- word comes
abbrev pub reads_at : AgentPort → ℕ
reads_at agent = if agent.readdatavalid then bound_of agent else row_places (agent_side agent)

-- it reads, each read is of one word, and behind so many stages, which hold three each, fewer than 16 are unanswered
abbrev pub bears_few : ℕ → AgentPort → Bool
bears_few stages agent = agent.reads && nat_lt agent.burst_bits 2 && nat_lt (reads_at agent + 3 * stages) 16

-- no link stands between the ends, and the agent bears few
abbrev pub bears_link : PlanTable → MemoryConnection → Bool
bears_link plan link = bears_few plan.system.stages link.agent && is_wire_pair link.host link.agent

-- the first link of the host, in the order of its connections
abbrev pub first_link : ℕ → List MemoryConnection → Option MemoryConnection
first_link host links = find (λ link. nat_eq link.host_number host) links

-- so does the agent of that link
abbrev pub first_bears_few : PlanTable → ℕ → Bool
first_bears_few plan host = option_map_or (bears_link plan) (first_link host (memory_connections plan.system)) false

-- nothing need be counted next to the host: all its addresses, of so many bits, lead to such an agent
abbrev pub needs_no_count : PlanTable → ℕ → List Route → ℕ → Bool
needs_no_count plan host routes width = is_lone routes width && first_bears_few plan host
