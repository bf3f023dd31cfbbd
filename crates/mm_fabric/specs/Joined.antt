-- The agents of a plan, each behind its begun hosts.
use Rattle.std.specs.Prelude.{◌≡◌, ℕ, ◌+◌, ◌*◌, ◌≤◌, nat_lt, List, [], ◌∷◌, length, map, take, count_by}
use Rattle.std.specs.List.{AllZip}
use Rattle.iface_roles.specs.Proper.{IsBoundedAgent}
use Rattle.system_tables.specs.Tables.{SystemTable}
use Rattle.link_rules.specs.PlanConnections.{memory_connections}
use Rattle.link_rules.specs.Plans.{PlanTable}
use Rattle.netlist.specs.Netlists.{Netlist}
use Rattle.net_parts.specs.Growth.{GrowsInMemory, StillWait, StillWaitForWrite}
use Rattle.mm_agent.specs.Agents.{AreAgentNets}
use Rattle.mm_width.specs.Widths.{width_command_nets, width_answer_nets, width_memories}
use Rattle.mm_fabric.specs.declared.asks.AgentEnd.{AgentEnd}
use Rattle.mm_fabric.specs.declared.begun.BegunHost.{BegunHost}
use Rattle.mm_fabric.specs.declared.parts.AgentPart.{AgentPart}
use Rattle.mm_fabric.specs.Parts.{IsAgentPart, askers_of}
use Rattle.mm_fabric.specs.Askers.{MayAsk, agent_part_nets}
use Rattle.mm_fabric.specs.Asks.{asking, AllCanAsk, IsSeatFor}
use Rattle.mm_fabric.specs.Lone.{BoundsReads}

-- ---- what is given

-- 1 to 16 begun hosts ask the agent of this number
pub record IsAgentEnd (plan : PlanTable) (netlist : Netlist) (begun : List BegunHost) (number : ℕ) (end : AgentEnd) : Type 0 where
  pub bounded : IsBoundedAgent end.port
  pub nets : AreAgentNets netlist end.port end.nets
  pub askers : MayAsk (asking plan.system number)
  pub few : length (asking plan.system number) ≤ 16
  pub asks : AllCanAsk plan netlist number end.port begun (asking plan.system number)

-- those of the agents from this number on
abbrev pub AreAgentEnds : PlanTable → Netlist → List BegunHost → ℕ → List AgentEnd → Type 0
AreAgentEnds plan netlist begun number [] = Unit {0}
AreAgentEnds plan netlist begun number (end ∷ ends) =
    IsAgentEnd plan netlist begun number end × AreAgentEnds plan netlist begun (number + 1) ends

-- ---- what is made

-- the part stands behind the hosts that ask, with links from each to its seat, and bounds the reads of each
pub record IsJoined (plan : PlanTable) (netlist : Netlist) (begun : List BegunHost) (number : ℕ) (part : AgentPart) : Type 0 where
  pub is : IsAgentPart netlist plan.system.stages part
  pub askers : askers_of part.seats ≡ asking plan.system number
  pub seats : AllZip (IsSeatFor netlist part.port number begun) (asking plan.system number) part.seats
  pub bounds : BoundsReads netlist plan.system.stages part

abbrev pub AreJoinedFrom : PlanTable → Netlist → List BegunHost → ℕ → List AgentPart → Type 0
AreJoinedFrom plan netlist begun number [] = Unit {0}
AreJoinedFrom plan netlist begun number (part ∷ parts) =
    IsJoined plan netlist begun number part × AreJoinedFrom plan netlist begun (number + 1) parts

abbrev pub end_of : AgentPart → AgentEnd
end_of part = record { port = part.port; nets = part.nets }

-- the most nets that an agent takes, but for its links
abbrev pub most_agent_nets : ℕ
most_agent_nets = 4 * 16 + agent_part_nets 16

-- the most nets that a link takes
abbrev pub link_nets : ℕ
link_nets = width_command_nets + width_answer_nets

-- how many memories so many agents with so many links take
abbrev pub most_memories : ℕ → ℕ → ℕ
most_memories agents links = agents + width_memories * links

-- how many links lead to the agents of numbers below so many
abbrev pub links_below : SystemTable → ℕ → ℕ
links_below system count = count_by (λ link. nat_lt link.agent_number count) (memory_connections system)

-- so many agents are joined
pub record AreJoinedSoFar (plan : PlanTable) (old now : Netlist) (begun : List BegunHost) (ends : List AgentEnd)
    (parts : List AgentPart) (count : ℕ) : Type 0 where
  pub ends_are : map end_of parts ≡ take count ends
  pub each : AreJoinedFrom plan now begun 0 parts
  pub grows : GrowsInMemory (most_agent_nets * count + link_nets * links_below plan.system count)
      (most_memories count (links_below plan.system count)) old now
  pub waits : StillWait old now
  pub no_more_wait : StillWait now old
  pub waits_for_write : StillWaitForWrite old now
  pub no_more_wait_for_write : StillWaitForWrite now old
