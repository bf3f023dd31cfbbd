-- The hosts and agents of a plan have links.
use Rattle.std.proofs.Common.{◌≡◌, ℕ, ◌<◌, List, [], ◌∷◌, length, map, slice_get, Some, sym, ap, ◌∙◌, arith}
use Rattle.std.proofs.lemmas.Option.{same_Some, slice_get_within}
use Rattle.iface_roles.specs.declared.kinds.Kind.TheVariants.{Mm}
use Rattle.iface_roles.specs.declared.kinds.Side.{Side}
use Rattle.iface_roles.specs.declared.kinds.Side.TheVariants.{Start, End}
use Rattle.iface_roles.specs.declared.records.Finished.TheVariants.{Host, Agent}
use Rattle.system_tables.specs.declared.tables.Connection.{Connection}
use Rattle.system_tables.specs.declared.tables.EndId.{EndId}
use Rattle.system_tables.specs.Tables.{SystemTable}
use Rattle.address_map.specs.Ends.{each_once}
use Rattle.address_map.specs.Footprints.{known_at}
use Rattle.address_map.specs.Maps.{mm_connections, mm_ends, end_at, IsJoined, hosts_of, agents_of}
use Rattle.link_rules.specs.declared.plan_connections.MemoryConnection.{MemoryConnection}
use Rattle.link_rules.specs.PlanConnections.{memory_connections, IsMemoryConnection, HasMemoryConnection}
use Rattle.link_rules.specs.Plans.{PlanTable, IsPlan}
use Rattle.port_tables.specs.EndFacts.{IsPlanned, planned, known_is}
use Rattle.port_tables.specs.Lists.{Among, among_at, among_map, among_image}
use Rattle.port_tables.specs.Numbering.{among_once, mm_kind}
use Rattle.interconnect.proofs.Passing.{there_at}

-- what the laws of links and ends say of a plan
pub record LinkLaws (plan : PlanTable) : Type 0 where
  pub is_plan : IsPlan plan
  pub numbered : (k : ℕ) (link : MemoryConnection) → slice_get (memory_connections plan.system) k ≡ Some link → IsMemoryConnection plan.system link
  pub each : (number : ℕ) (connection : Connection) → slice_get plan.system.connections number ≡ Some connection → connection.kind ≡ Mm → HasMemoryConnection plan.system number
  pub one : (side : Side) (j k : ℕ) (end : EndId) → slice_get (mm_ends side plan.system) j ≡ Some end → slice_get (mm_ends side plan.system) k ≡ Some end → j ≡ k
  pub joined : (side : Side) (number : ℕ) (end : EndId) → slice_get (mm_ends side plan.system) number ≡ Some end → IsJoined plan.system side end

-- ---- the links of a plan

module _ (plan : PlanTable) (laws : LinkLaws plan) where
  abbrev pub links : List MemoryConnection
  links = memory_connections plan.system

  pub is_planned : IsPlanned plan.system
  is_planned = planned plan laws.is_plan

  module _ (k : ℕ) (link : MemoryConnection) (at : slice_get (memory_connections plan.system) k ≡ Some link) where
    pub of_connection : IsMemoryConnection plan.system link
    of_connection = laws.numbered k link at

    pub start_known : known_at plan.system of_connection.connection.start ≡ Host link.host
    start_known = known_is plan.system of_connection.connection.start (Host link.host) of_connection.host

    pub end_known : known_at plan.system of_connection.connection.end ≡ Agent link.agent
    end_known = known_is plan.system of_connection.connection.end (Agent link.agent) of_connection.agent

    pub agent_below : link.agent_number < length (agents_of plan.system)
    agent_below = slice_get_within (agents_of plan.system) link.agent_number of_connection.connection.end of_connection.agent_is

    pub host_below : link.host_number < length (hosts_of plan.system)
    host_below = slice_get_within (hosts_of plan.system) link.host_number of_connection.connection.start of_connection.host_is

  -- ---- hosts and agents have links

  link_there : (side : Side) (number : ℕ) (end : EndId) → slice_get (mm_ends side plan.system) number ≡ Some end → (place : ℕ) × (link : MemoryConnection) × (at : slice_get links place ≡ Some link) × (end_at side (of_connection place link at).connection ≡ end)
  link_there side number end is =
      let j = laws.joined side number end is in
      let has = laws.each j.number j.connection j.is (mm_kind j.connection.kind j.kind) in
      let l = of_connection has.place has.link has.is in
      let same : l.connection ≡ j.connection = same_Some l.connection j.connection (sym l.connection_is ∙ ap (slice_get plan.system.connections) has.connection ∙ j.is) in
      (has.place, has.link, has.is, ap (end_at side) same ∙ j.there)

  pub record HostHasLink (host : ℕ) : Type 0 where
    pub place : ℕ
    pub link : MemoryConnection
    pub at : slice_get (memory_connections plan.system) place ≡ Some link
    pub is : link.host_number ≡ host

  pub host_has_link : (host : ℕ) → host < length (hosts_of plan.system) → HostHasLink host
  host_has_link host below =
      let end = there_at (hosts_of plan.system) host below in
      let l = link_there Start host end.0 end.1 in
      record { place = l.0; link = l.1; at = l.2; is = laws.one Start l.1.host_number host end.0 ((of_connection l.0 l.1 l.2).host_is ∙ ap Some l.3) end.1 }

  pub record AgentHasLink (agent : ℕ) : Type 0 where
    pub place : ℕ
    pub link : MemoryConnection
    pub at : slice_get (memory_connections plan.system) place ≡ Some link
    pub is : link.agent_number ≡ agent

  pub agent_has_link : (agent : ℕ) → agent < length (agents_of plan.system) → AgentHasLink agent
  agent_has_link agent below =
      let end = there_at (agents_of plan.system) agent below in
      let l = link_there End agent end.0 end.1 in
      record { place = l.0; link = l.1; at = l.2; is = laws.one End l.1.agent_number agent end.0 ((of_connection l.0 l.1 l.2).agent_is ∙ ap Some l.3) end.1 }

  -- an agent has a host
  pub agent_has_host : (a : ℕ) → a < length (agents_of plan.system) → 0 < length (hosts_of plan.system)
  agent_has_host a below =
      let l = agent_has_link a below in
      let inside = host_below l.place l.link l.at in
      omega (arith, inside)

-- ---- where there is a host, there is an agent

some_ends : (ends : List EndId) (end : EndId) → Among end ends → 0 < length (each_once ends)
some_ends [] end a = absurd a
some_ends (e ∷ ends) end a = omega arith

pub some_agent : (system : SystemTable) → 0 < length (hosts_of system) → 0 < length (agents_of system)
some_agent system some =
    let host = there_at (hosts_of system) 0 some in
    let starts = among_once (map (end_at Start) (mm_connections system)) host.0 (among_at (hosts_of system) 0 host.0 host.1) in
    let from = among_map (end_at Start) (mm_connections system) host.0 starts in
    some_ends _ _ (among_image (end_at End) (mm_connections system) from.from from.among)
