-- The hosts and agents of a plan, by their numbers.
use Rattle.std.proofs.Common.{◌≡◌, ℕ, ◌<◌, zero, suc, List, [], ◌∷◌, Some, length, refl, ap, ◌∙◌, arith}
use Rattle.std.specs.Prelude.{slice_get}
use Rattle.std.specs.Option.{option_map_or}
use Rattle.iface_roles.specs.declared.records.HostPort.{HostPort}
use Rattle.iface_roles.specs.declared.records.AgentPort.{AgentPort}
use Rattle.iface_roles.specs.declared.records.Finished.{Finished}
use Rattle.iface_roles.specs.declared.records.Finished.TheVariants.{Host, Agent, Other}
use Rattle.iface_roles.specs.Proper.{IsProper, IsBoundedHost, IsBoundedAgent}
use Rattle.system_tables.specs.declared.tables.EndId.{EndId}
use Rattle.system_tables.specs.Tables.{SystemTable, IsEnd}
use Rattle.address_map.specs.Footprints.{known_at}
use Rattle.address_map.specs.Maps.{hosts_of, agents_of}
use Rattle.link_rules.specs.declared.plan_connections.MemoryConnection.{MemoryConnection}
use Rattle.link_rules.specs.PlanConnections.{memory_connections, IsMemoryConnection, IsHostEnd, IsAgentEnd}
use Rattle.link_rules.specs.Plans.{PlanTable}
use Rattle.memory_plans.specs.Systems.{known_in}
use Rattle.memory_plans.specs.Maps.{HasHost, HasAgent, JoinsEnds}

there_at : {X : Type 0} (xs : List X) (k : ℕ) → k < length xs → (x : X) × (slice_get xs k ≡ Some x)
there_at [] k below = absurd (omega (arith, below))
there_at (x ∷ xs) zero below = (x, refl)
there_at (x ∷ xs) (suc k) below = there_at xs k (omega (arith, below))

pub known_is : (system : SystemTable) (end : EndId) (known : Finished) → IsEnd system end known → known_at system end ≡ known
known_is system end known e = rw (e.instance_is, e.interface_is) e.is

known_there : (system : SystemTable) (ends : List EndId) (k : ℕ) (end : EndId) (known : Finished) → slice_get ends k ≡ Some end → IsEnd system end known → known_in system ends k ≡ known
known_there system ends k end known at there = ap (λ o. option_map_or (known_at system) o Other) at ∙ known_is system end known there

pub ends_of : (plan : PlanTable) → ((k : ℕ) (link : MemoryConnection) → slice_get (memory_connections plan.system) k ≡ Some link → IsMemoryConnection plan.system link)
    → (k : ℕ) (link : MemoryConnection) → slice_get (memory_connections plan.system) k ≡ Some link → JoinsEnds plan link
ends_of plan numbered k link at =
    let l = numbered k link at in
    record {
      host = known_there plan.system (hosts_of plan.system) link.host_number l.connection.start (Host link.host) l.host_is l.host;
      agent = known_there plan.system (agents_of plan.system) link.agent_number l.connection.end (Agent link.agent) l.agent_is l.agent;
    }

pub a_host : (plan : PlanTable) → ((number : ℕ) (end : EndId) → slice_get (hosts_of plan.system) number ≡ Some end → IsHostEnd plan.system end)
    → ((host : HostPort) → IsProper (Host host) → IsBoundedHost host) → (host : ℕ) → host < length (hosts_of plan.system) → HasHost plan host
a_host plan known bounds host below =
    let at = there_at (hosts_of plan.system) host below in
    let end = known host at.0 at.1 in
    record { port = end.host; is = known_there plan.system (hosts_of plan.system) host at.0 (Host end.host) at.1 end.is; bounded = bounds end.host end.proper }

pub an_agent : (plan : PlanTable) → ((number : ℕ) (end : EndId) → slice_get (agents_of plan.system) number ≡ Some end → IsAgentEnd plan.system end)
    → ((agent : AgentPort) → IsProper (Agent agent) → IsBoundedAgent agent) → (agent : ℕ) → agent < length (agents_of plan.system) → HasAgent plan agent
an_agent plan known bounds agent below =
    let at = there_at (agents_of plan.system) agent below in
    let end = known agent at.0 at.1 in
    record { port = end.agent; is = known_there plan.system (agents_of plan.system) agent at.0 (Agent end.agent) at.1 end.is; bounded = bounds end.agent end.proper }
