-- The components of a bench have scripts and records.
use Rattle.std.proofs.Common.{◌≡◌, ℕ, zero, suc, ◌<◌, List, [], ◌∷◌, ◌++◌, flat_map, length, slice_get, Some, None, refl, sym, subst, ◌∙◌, arith}
use Rattle.iface_roles.specs.declared.records.HostPort.{HostPort}
use Rattle.iface_roles.specs.declared.records.AgentPort.{AgentPort}
use Rattle.iface_roles.specs.declared.records.Finished.TheVariants.{Host, Agent}
use Rattle.iface_roles.specs.Proper.{IsProper, IsBoundedHost, IsBoundedAgent}
use Rattle.system_tables.specs.declared.tables.EndId.{EndId}
use Rattle.system_tables.specs.Tables.{SystemTable, IsSystem}
use Rattle.address_map.specs.Maps.{hosts_of, agents_of}
use Rattle.link_rules.specs.PlanConnections.{IsHostEnd, IsAgentEnd}
use Rattle.port_tables.specs.EndFacts.{known_is}
use Rattle.port_tables.specs.Lists.{Among, among_at, among_front, among_back}
use Rattle.link_rules.specs.Links.{streams_of}
use Rattle.port_tables.specs.Ports.{connection_ends, ends_of}
use Rattle.scenario_tables.specs.Scenarios.{IsHostAt, IsAgentAt}

-- an item of a list as long as another, beside an item of the other
pub record Beside {Y : Type 0} (ys : List Y) (k : ℕ) : Type 0 where
  pub item : Y
  pub is : slice_get ys k ≡ Some item

pub beside : {X Y : Type 0} (xs : List X) (ys : List Y) (k : ℕ) (x : X) → length xs ≡ length ys → slice_get xs k ≡ Some x → Beside ys k
beside [] ys k x count e = absurd (let n : None ≡ Some x = e in cc)
beside (y ∷ xs) [] k x count e = absurd (omega arith)
beside (y ∷ xs) (z ∷ ys) zero x count e = record { item = z; is = refl }
beside (y ∷ xs) (z ∷ ys) (suc k) x count e = let rest = beside xs ys k x (omega arith) e in record { item = rest.item; is = rest.is }

abbrev HostsAreKnown : Type 0
HostsAreKnown = (system : SystemTable) → IsSystem system → (number : ℕ) (end : EndId) → slice_get (hosts_of system) number ≡ Some end → IsHostEnd system end

abbrev AgentsAreKnown : Type 0
AgentsAreKnown = (system : SystemTable) → IsSystem system → (number : ℕ) (end : EndId) → slice_get (agents_of system) number ≡ Some end → IsAgentEnd system end

same_host_port : (a b : HostPort) → Host a ≡ Host b → a ≡ b
same_host_port a b e = cc

same_agent_port : (a b : AgentPort) → Agent a ≡ Agent b → a ≡ b
same_agent_port a b e = cc

pub bounded_host : (system : SystemTable) → IsSystem system → HostsAreKnown → ((host : HostPort) → IsProper (Host host) → IsBoundedHost host) → (h : ℕ) (port : HostPort) → IsHostAt system h port → IsBoundedHost port
bounded_host system is_system known bounded h port at =
    let end = known system is_system h at.end at.end_is in
    let same : end.host ≡ port = same_host_port end.host port (sym (known_is system at.end (Host end.host) end.is) ∙ at.is) in
    subst IsBoundedHost same (bounded end.host end.proper)

pub bounded_agent : (system : SystemTable) → IsSystem system → AgentsAreKnown → ((agent : AgentPort) → IsProper (Agent agent) → IsBoundedAgent agent) → (a : ℕ) (port : AgentPort) → IsAgentAt system a port → IsBoundedAgent port
bounded_agent system is_system known bounded a port at =
    let end = known system is_system a at.end at.end_is in
    let same : end.agent ≡ port = same_agent_port end.agent port (sym (known_is system at.end (Agent end.agent) end.is) ∙ at.is) in
    subst IsBoundedAgent same (bounded end.agent end.proper)

pub agent_is_an_end : (system : SystemTable) (a : ℕ) (end : EndId) → slice_get (agents_of system) a ≡ Some end → Among end (ends_of system)
agent_is_an_end system a end at =
    among_front (hosts_of system ++ agents_of system) (flat_map (connection_ends system) (streams_of system)) end (among_back (hosts_of system) (agents_of system) end (among_at (agents_of system) a end at))

-- an item at each place inside
pub has : {X : Type 0} (xs : List X) (k : ℕ) → k < length xs → Beside xs k
has [] k h = absurd (omega arith)
has (first ∷ later) zero h = record { item = first; is = refl }
has (first ∷ later) (suc k) h = let rest = has later k (omega arith) in record { item = rest.item; is = rest.is }

pub inside : {X : Type 0} (xs : List X) (k : ℕ) (x : X) → slice_get xs k ≡ Some x → k < length xs
inside [] k x e = absurd (let n : None ≡ Some x = e in cc)
inside (y ∷ xs) zero x e = omega arith
inside (y ∷ xs) (suc k) x e = let low = inside xs k x e in omega arith
