-- The ends of hosts, agents and streams are apart, and so are their ports.
use Rattle.std.proofs.Common.{◌≡◌, ℕ, ◌++◌, map, Some, sym, ap, ◌∙◌}
use Rattle.std.specs.List.{flat_map}
use Rattle.iface_roles.specs.declared.records.Finished.{Finished}
use Rattle.iface_roles.specs.declared.records.Finished.TheVariants.{Host, Agent, Source, Sink, Other}
use Rattle.system_tables.specs.declared.tables.EndId.{EndId}
use Rattle.system_tables.specs.declared.tables.Connection.{Connection}
use Rattle.system_tables.specs.Tables.{SystemTable}
use Rattle.address_map.specs.Footprints.{known_at}
use Rattle.address_map.specs.Maps.{mm_connections, hosts_of, agents_of}
use Rattle.link_rules.specs.Links.{streams_of}
use Rattle.port_tables.specs.declared.roles.PortRole.{PortRole}
use Rattle.port_tables.specs.Lists.{Among, among_front, among_back, among_map}
use Rattle.port_tables.specs.Ports.{connection_ends, ends_of}
use Rattle.port_tables.specs.PortMaps.{HasKnownPorts, port_at}
use Rattle.port_tables.specs.EndFacts.{IsPlanned, known_is}
use Rattle.port_tables.specs.Numbering.{among_once, mm_among}
use Rattle.interconnect.specs.Outputs.{IsNoPortOf}
use Rattle.interconnect.proofs.Driving.{other_port}

-- what stands at an end
abbrev pub sort : Finished → ℕ
sort (Host host) = 0
sort (Agent agent) = 1
sort (Source source) = 2
sort (Sink sink) = 3
sort Other = 4

-- an end of a system, and what stands there
pub record IsEndOf (system : SystemTable) (end : EndId) (n : ℕ) : Type 0 where
  pub among : Among end (ends_of system)
  pub sort_is : sort (known_at system end) ≡ n

pub host_end : (system : SystemTable) (end : EndId) → IsPlanned system → Among end (hosts_of system) → IsEndOf system end 0
host_end system end h a =
    let from = among_map (λ (c : Connection). c.start) (mm_connections system) end (among_once (map (λ (c : Connection). c.start) (mm_connections system)) end a) in
    let joins = mm_among system from.from h from.among in
    record {
      among = among_front (hosts_of system ++ agents_of system) (flat_map (connection_ends system) (streams_of system)) end (among_front (hosts_of system) (agents_of system) end a);
      sort_is = ap (λ (e : EndId). sort (known_at system e)) (sym from.makes) ∙ ap sort (known_is system from.from.start (Host joins.host) joins.start);
    }

pub agent_end : (system : SystemTable) (end : EndId) → IsPlanned system → Among end (agents_of system) → IsEndOf system end 1
agent_end system end h a =
    let from = among_map (λ (c : Connection). c.end) (mm_connections system) end (among_once (map (λ (c : Connection). c.end) (mm_connections system)) end a) in
    let joins = mm_among system from.from h from.among in
    record {
      among = among_front (hosts_of system ++ agents_of system) (flat_map (connection_ends system) (streams_of system)) end (among_back (hosts_of system) (agents_of system) end a);
      sort_is = ap (λ (e : EndId). sort (known_at system e)) (sym from.makes) ∙ ap sort (known_is system from.from.end (Agent joins.agent) joins.end);
    }

-- a port of an end of one sort is none of an end of another
pub other_sort : (system : SystemTable) (a b : EndId) (m n k : ℕ) (r : PortRole) → HasKnownPorts system → IsEndOf system a m → IsEndOf system b n → (m ≡ n → ⊥) → port_at system b r ≡ Some k → IsNoPortOf system a k
other_sort system a b m n k r h one other apart there =
    other_port system a b r k h one.among other.among (λ same. apart (sym one.sort_is ∙ ap (λ (e : EndId). sort (known_at system e)) same ∙ other.sort_is)) there
