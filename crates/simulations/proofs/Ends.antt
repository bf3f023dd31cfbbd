-- The hosts, agents and streams of a plan, by the records at their ends.
use Rattle.std.proofs.Common.{◌≡◌, ℕ, Option, Some, slice_get, refl, sym, ap, ◌∙◌}
use Rattle.std.specs.Option.{option_map_or}
use Rattle.iface_roles.specs.declared.records.HostPort.{HostPort}
use Rattle.iface_roles.specs.declared.records.AgentPort.{AgentPort}
use Rattle.iface_roles.specs.declared.records.Finished.TheVariants.{Host, Agent, Other}
use Rattle.system_tables.specs.declared.tables.EndId.{EndId}
use Rattle.system_tables.specs.Tables.{SystemTable}
use Rattle.address_map.specs.Footprints.{known_at}
use Rattle.address_map.specs.Maps.{hosts_of, agents_of}
use Rattle.link_rules.specs.Plans.{PlanTable}
use Rattle.netlist.specs.Netlists.{Netlist}
use Rattle.netlist.specs.Runs.{Run}
use Rattle.memory_runs.specs.Views.{HostSide, AgentSide}
use Rattle.memory_runs.specs.Sides.{host_side, agent_side}
use Rattle.memory_plans.specs.Systems.{memory_system, side_of_host, side_of_agent}
use Rattle.memory_plans.specs.Shown.{silent_host, silent_agent}
use Rattle.port_tables.specs.Ports.{name_at}
use Rattle.interconnect.specs.Memory.{host_view, agent_view, host_in, agent_in}
use Rattle.scenario_tables.specs.Scenarios.{IsHostAt, IsAgentAt}

some_same : {X : Type 0} (x y : X) → Some x ≡ Some y → x ≡ y
some_same x y e = cc

-- ---- one record at an end

host_same : (a b : HostPort) → Host a ≡ Host b → a ≡ b
host_same a b e = cc

agent_same : (a b : AgentPort) → Agent a ≡ Agent b → a ≡ b
agent_same a b e = cc

pub same_host_end : (system : SystemTable) (h : ℕ) (one other : HostPort) (a : IsHostAt system h one) (b : IsHostAt system h other) → a.end ≡ b.end
same_host_end system h one other a b = some_same a.end b.end (sym a.end_is ∙ b.end_is)

pub one_host : (system : SystemTable) (h : ℕ) (one other : HostPort) → IsHostAt system h one → IsHostAt system h other → one ≡ other
one_host system h one other a b = host_same one other (sym a.is ∙ ap (known_at system) (same_host_end system h one other a b) ∙ b.is)

pub same_agent_end : (system : SystemTable) (k : ℕ) (one other : AgentPort) (a : IsAgentAt system k one) (b : IsAgentAt system k other) → a.end ≡ b.end
same_agent_end system k one other a b = some_same a.end b.end (sym a.end_is ∙ b.end_is)

pub one_agent : (system : SystemTable) (k : ℕ) (one other : AgentPort) → IsAgentAt system k one → IsAgentAt system k other → one ≡ other
one_agent system k one other a b = agent_same one other (sym a.is ∙ ap (known_at system) (same_agent_end system k one other a b) ∙ b.is)

-- ---- what a run shows there

module _ (plan : PlanTable) where
  host_known : (found : Option EndId) (end : EndId) (port : HostPort) → found ≡ Some end → known_at plan.system end ≡ Host port → side_of_host (option_map_or (known_at plan.system) found Other) ≡ host_side port
  host_known found end port is known = rw (is, known) refl

  agent_known : (found : Option EndId) (end : EndId) (port : AgentPort) → found ≡ Some end → known_at plan.system end ≡ Agent port → side_of_agent (option_map_or (known_at plan.system) found Other) ≡ agent_side port
  agent_known found end port is known = rw (is, known) refl

  pub host_side_is : (h : ℕ) (port : HostPort) → IsHostAt plan.system h port → (memory_system plan).host h ≡ host_side port
  host_side_is h port at = host_known (slice_get (hosts_of plan.system) h) at.end port at.end_is at.is

  pub agent_side_is : (a : ℕ) (port : AgentPort) → IsAgentAt plan.system a port → (memory_system plan).agent a ≡ agent_side port
  agent_side_is a port at = agent_known (slice_get (agents_of plan.system) a) at.end port at.end_is at.is

  host_found : (netlist : Netlist) (run : Run) (side : HostSide) (found : Option EndId) (end : EndId) (port : HostPort) → side ≡ host_side port → found ≡ Some end
      → option_map_or (λ (e : EndId). host_view netlist run side.word_bytes (name_at plan.system e)) found silent_host ≡ host_view netlist run port.word_bytes (name_at plan.system end)
  host_found netlist run side found end port is there = rw (is, there) refl

  agent_found : (netlist : Netlist) (run : Run) (side : AgentSide) (found : Option EndId) (end : EndId) (port : AgentPort) → side ≡ agent_side port → found ≡ Some end
      → option_map_or (λ (e : EndId). agent_view netlist run side.word_bytes (name_at plan.system e)) found silent_agent ≡ agent_view netlist run port.word_bytes (name_at plan.system end)
  agent_found netlist run side found end port is there = rw (is, there) refl

  pub host_in_is : (netlist : Netlist) (run : Run) (h : ℕ) (port : HostPort) (at : IsHostAt plan.system h port) → host_in plan netlist run h ≡ host_view netlist run port.word_bytes (name_at plan.system at.end)
  host_in_is netlist run h port at = host_found netlist run ((memory_system plan).host h) (slice_get (hosts_of plan.system) h) at.end port (host_side_is h port at) at.end_is

  pub agent_in_is : (netlist : Netlist) (run : Run) (a : ℕ) (port : AgentPort) (at : IsAgentAt plan.system a port) → agent_in plan netlist run a ≡ agent_view netlist run port.word_bytes (name_at plan.system at.end)
  agent_in_is netlist run a port at = agent_found netlist run ((memory_system plan).agent a) (slice_get (agents_of plan.system) a) at.end port (agent_side_is a port at) at.end_is
