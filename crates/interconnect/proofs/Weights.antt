-- How many nets hosts and agents take.
use Rattle.std.proofs.Common.{ℕ, ◌+◌, ◌*◌, ◌≤◌, length, arith}
use Rattle.system_tables.specs.Tables.{SystemTable}
use Rattle.address_map.specs.Maps.{hosts_of, agents_of, mm_connections}
use Rattle.link_rules.specs.PlanConnections.{memory_connections}
use Rattle.mm_fabric.specs.Ends.{fabric_nets}
use Rattle.port_tables.specs.EndFacts.{IsPlanned}
use Rattle.interconnect.specs.Fabrics.{memory_nets}

-- a plan has few links
pub record HasFewLinks (system : SystemTable) : Type 0 where
  pub connections : length (memory_connections system) ≤ length (mm_connections system)
  pub agents : length (memory_connections system) ≤ 16 * length (agents_of system)

-- with room for the nets of their inputs
pub fabric_few : (hosts agents links : ℕ) → fabric_nets hosts agents links ≤ 2000 * hosts + 8000 * agents + 1000 * links
fabric_few hosts agents links = omega arith

pub memory_few : (system : SystemTable) → HasFewLinks system → memory_nets system ≤ 2000 * length (hosts_of system) + 8000 * length (agents_of system) + 1000 * length (mm_connections system)
memory_few system few =
    let nets = fabric_few (length (hosts_of system)) (length (agents_of system)) (length (memory_connections system)) in
    let links = few.connections in
    omega (arith, nets, links)

pub memory_room : (system : SystemTable) → IsPlanned system → HasFewLinks system → memory_nets system ≤ 800000
memory_room system h few =
    let nets = fabric_few (length (hosts_of system)) (length (agents_of system)) (length (memory_connections system)) in
    let hosts = h.few_hosts in
    let agents = h.few_agents in
    let links = few.agents in
    omega (arith, nets, hosts, agents, links)
