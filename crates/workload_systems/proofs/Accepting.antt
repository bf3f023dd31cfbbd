-- Tests that tell that a system is accepted.
use Rattle.std.proofs.Common.{ℕ, false, Bool, ◌&&◌, not, List, [], ◌∷◌, length, take, Result, Ok, Err}
use Rattle.std.specs.Prelude.{None, slice_index_or, codes, Option, Some}
use Rattle.std.specs.List.{list_all, range_with_len}
use Rattle.iface_roles.specs.declared.kinds.Kind.{Kind}
use Rattle.iface_roles.specs.declared.kinds.Kind.TheVariants.{Mm, Stream}
use Rattle.iface_roles.specs.declared.kinds.Side.{Side}
use Rattle.iface_roles.specs.declared.kinds.Side.TheVariants.{Start, End}
use Rattle.iface_roles.specs.declared.records.Finished.{Finished}
use Rattle.iface_roles.specs.declared.records.Finished.TheVariants.{Host, Agent, Source, Sink}
use Rattle.system_tables.specs.Tables.{SystemTable}
use Rattle.component_scripts.specs.Tables.{ComponentTable}
use Rattle.address_map.specs.Footprints.{footprints}
use Rattle.address_map.specs.MapRules as maps
use Rattle.link_rules.specs.Links.{tests_of, limit_tests}
use Rattle.address_map.specs.Maps.{hosts_of, agents_of}
use Rattle.link_rules.specs.declared.plan_connections.MemoryConnection.{MemoryConnection}
use Rattle.link_rules.specs.declared.plan_connections.StreamConnection.{StreamConnection}
use Rattle.link_rules.specs.PlanConnections.{memory_connections, stream_connections}
use Rattle.workload_systems.specs.Systems.{hosts, agents}
use Rattle.workload_systems.specs.Workloads.{host_port, agent_port, stream_port, workload_links, workload_streams}
use Rattle.workload_systems.specs.Components.{host_name, agent_name, source_name, sink_name}

abbrev pub table : ℕ → List ℕ → List ℕ → Kind → Side → Finished → ComponentTable
table file name interface kind side finished = record {
  name = name;
  place = record { file = file; line = 1; byte = 25 };
  interfaces = record { name = interface; kind = kind; side = side; clock = []; finished = finished } ∷ [];
}

abbrev pub host_table : ℕ → ℕ → ComponentTable
host_table file exponent = table file (host_name exponent) (codes "m") Mm Start (Host (host_port exponent))

abbrev pub agent_table : ℕ → ℕ → ComponentTable
agent_table file exponent = table file (agent_name exponent) (codes "s") Mm End (Agent (agent_port exponent))

abbrev pub source_table : ℕ → ℕ → ℕ → ComponentTable
source_table file latency symbols = table file (source_name latency symbols) (codes "o") Stream Start (Source (stream_port latency symbols))

abbrev pub sink_table : ℕ → ℕ → ComponentTable
sink_table file symbols = table file (sink_name symbols) (codes "i") Stream End (Sink (stream_port 0 symbols))

abbrev pub library : List ComponentTable
library = host_table 2 0 ∷ host_table 3 1 ∷ host_table 4 2 ∷ host_table 5 3 ∷ agent_table 6 0 ∷ agent_table 7 1 ∷ agent_table 8 2 ∷ agent_table 9 3
    ∷ source_table 10 0 1 ∷ source_table 11 0 2 ∷ source_table 12 0 3 ∷ source_table 13 0 4 ∷ source_table 14 1 1 ∷ source_table 15 1 2 ∷ source_table 16 1 3 ∷ source_table 17 1 4
    ∷ sink_table 18 1 ∷ sink_table 19 2 ∷ sink_table 20 3 ∷ sink_table 21 4 ∷ []

-- no connection breaks a rule on maps
abbrev pub fits_maps : SystemTable → Bool
fits_maps system = list_all (λ k. list_all not (maps.tests (take k (footprints system)) (slice_index_or (footprints system) k None))) (range_with_len 0 (length (footprints system)))

-- or on its ends
abbrev pub fits_ends : SystemTable → Bool
fits_ends system = list_all (λ connection. list_all not (tests_of system connection)) system.connections

abbrev pub fits_limits : SystemTable → Bool
fits_limits system = list_all not (limit_tests system)

abbrev pub fits : {E : Type 0} → Result SystemTable E → Bool
fits (Ok system) = fits_maps system && (fits_ends system && fits_limits system)
fits (Err refusal) = false

-- what tells a workload system: its name, its links, and how many hosts and agents there are
abbrev pub Facts : Type 0
Facts = List ℕ × (List MemoryConnection × (List StreamConnection × (ℕ × ℕ)))

abbrev pub facts_of : SystemTable → Facts
facts_of system = (system.name, (memory_connections system, (stream_connections system, (length (hosts_of system), length (agents_of system)))))

abbrev pub facts : {E : Type 0} → Result SystemTable E → Option Facts
facts (Ok system) = Some (facts_of system)
facts (Err refusal) = None

abbrev pub workload_facts : ℕ → Facts
workload_facts number = (codes "w", (workload_links number, (workload_streams number, (hosts number, agents number))))
