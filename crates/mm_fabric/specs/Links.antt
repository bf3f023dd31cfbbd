-- The links of a plan as the parts between its hosts and agents need them.
use Rattle.std.specs.Prelude.{◌≡◌, ℕ, ◌<◌, ◌≤◌, Some, IsTrue, length, slice_get}
use Rattle.iface_roles.specs.Proper.{range_of, span_of}
use Rattle.address_map.specs.Maps.{hosts_of, agents_of}
use Rattle.link_rules.specs.declared.plan_connections.MemoryConnection.{MemoryConnection}
use Rattle.link_rules.specs.PlanConnections.{memory_connections}
use Rattle.link_rules.specs.Plans.{PlanTable}
use Rattle.memory_runs.specs.declared.sides.route.Route.{Route}
use Rattle.memory_plans.specs.Routes.{routes_of, HasRoute}
use Rattle.memory_plans.specs.Systems.{memory_system}
use Rattle.memory_runs.specs.Order.{is_joined}
use Rattle.memory_machines.specs.Turns.{seats_of}
use Rattle.mm_arbiter.specs.declared.asker.Asker.{Asker}
use Rattle.mm_arbiter.specs.Machine.{seats_from}
use Rattle.mm_width.specs.Pairs.{MayMeet}
use Rattle.memory_plans.specs.Maps.{IsHostOf, IsAgentOf, HasHost, HasAgent, JoinsEnds}
use Rattle.mm_fabric.specs.Askers.{MayAsk}
use Rattle.mm_fabric.specs.Asks.{asking}

-- a link joins this host to this agent, which may meet: the host has a route there, and its range holds the agent's span and a
-- word of its own
pub record HasLinkBetween (plan : PlanTable) (host agent : ℕ) : Type 0 where
  pub link : MemoryConnection
  pub place : ℕ
  pub is : slice_get (memory_connections plan.system) place ≡ Some link
  pub host_port : IsHostOf plan host link.host
  pub agent_port : IsAgentOf plan agent link.agent
  pub host_below : host < length (hosts_of plan.system)
  pub agent_below : agent < length (agents_of plan.system)
  pub span : span_of link.agent ≤ range_of link.host
  pub word : link.host.word_bytes ≤ range_of link.host
  pub pair : MayMeet link.host link.agent
  pub route : HasRoute (routes_of plan.system host) agent
  pub joined : IsTrue (is_joined (memory_system plan) agent host)

-- the host has ports that fit the tables and 1 to 32 routes, each along a link
pub record IsLinkedHost (plan : PlanTable) (host : ℕ) : Type 0 where
  pub ports : HasHost plan host
  pub some : 1 ≤ length (routes_of plan.system host)
  pub few : length (routes_of plan.system host) ≤ 32
  pub links : (k : ℕ) (route : Route) → slice_get (routes_of plan.system host) k ≡ Some route
      → HasLinkBetween plan host route.agent

-- the agent has ports that fit the tables, and 1 to 16 hosts may ask it, each along a link
pub record IsLinkedAgent (plan : PlanTable) (agent : ℕ) : Type 0 where
  pub ports : HasAgent plan agent
  pub askers : MayAsk (asking plan.system agent)
  pub few : length (asking plan.system agent) ≤ 16
  pub seats : seats_from (asking plan.system agent) ≡ seats_of (memory_system plan) agent
  pub links : (k : ℕ) (asker : Asker) → slice_get (asking plan.system agent) k ≡ Some asker → HasLinkBetween plan asker.host agent

-- all hosts and all agents are linked, each link joins the ports of its numbers, and where the system joins two there is a link
pub record IsLinkedPlan (plan : PlanTable) : Type 0 where
  pub hosts : (h : ℕ) → h < length (hosts_of plan.system) → IsLinkedHost plan h
  pub agents : (a : ℕ) → a < length (agents_of plan.system) → IsLinkedAgent plan a
  pub ends : (k : ℕ) (link : MemoryConnection) → slice_get (memory_connections plan.system) k ≡ Some link → JoinsEnds plan link
  pub joints : (h a : ℕ) → IsTrue (is_joined (memory_system plan) a h) → HasLinkBetween plan h a
