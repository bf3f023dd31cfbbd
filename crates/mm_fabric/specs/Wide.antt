-- The commands that are asked of an agent: addresses on nets as wide as the widest, and counts on nets of the agent's width.
use Rattle.std.specs.Prelude.{◌≡◌, ℕ, ◌+◌, ◌*◌, ◌^◌, ◌≤◌, List, [], ◌∷◌}
use Rattle.iface_roles.specs.declared.records.AgentPort.{AgentPort}
use Rattle.iface_roles.specs.Proper.{span_of}
use Rattle.netlist.specs.Netlists.{Netlist}
use Rattle.netlist.specs.Runs.{Always}
use Rattle.command_nets.specs.declared.nets.CommandNets.{CommandNets}
use Rattle.command_nets.specs.Nets.{AreCommandNets, widths_of, raw_in}
use Rattle.mm_arbiter.specs.declared.asker.Asker.{Asker}
use Rattle.mm_arbiter.specs.Wider.{wider}
use Rattle.mm_width.specs.Pairs.{MayMeet, MayAskOf}
use Rattle.mm_width.specs.Widths.{width_command_nets, width_answer_nets, width_memories}
use Rattle.mm_fabric.specs.declared.parts.Asking.{Asking}
use Rattle.mm_fabric.specs.declared.parts.Seat.{Seat}
use Rattle.mm_fabric.specs.Askers.{IsTold, agent_part_nets}
use Rattle.mm_fabric.specs.Parts.{Meets}

-- the host of an asker may meet the agent. Its command reaches the span of the agent and bears the number of the host
pub record AsksFor (netlist : Netlist) (port : AgentPort) (asker : Asker) (asking : Asking) : Type 0 where
  pub nets : AreCommandNets netlist asking.command
  pub pair : MayMeet asking.port port
  pub widths : MayAskOf asking.port port (widths_of asking.command)
  pub reaches : span_of port ≤ 2 ^ asking.command.address.width
  pub tag : asking.command.tag.width ≡ 4
  pub bears : Always netlist (λ cycle. cycle.net asking.command.tag.number ≡ asker.host)

-- the links of an asking host lead to this seat, and tell it words of its size
pub record IsSeated (netlist : Netlist) (agent : AgentPort) (asking : Asking) (seat : Seat) : Type 0 where
  pub meets : Meets netlist asking.port agent asking.command seat
  pub told : IsTold netlist (asking.port.word_bytes * 8) seat

-- no net of an address is wider
abbrev pub ReachWithin : ℕ → List CommandNets → Type 0
ReachWithin address [] = Unit {0}
ReachWithin address (command ∷ commands) = (command.address.width ≤ address) × ReachWithin address commands

-- nor one of a count
abbrev pub AreWithin : ℕ → ℕ → List CommandNets → Type 0
AreWithin address count [] = Unit {0}
AreWithin address count (command ∷ commands) =
    ((command.address.width ≤ address) × (command.count.width ≤ count)) × AreWithin address count commands

-- the same beat
abbrev pub ShowsBeatOf : Netlist → CommandNets → CommandNets → Type 0
ShowsBeatOf netlist command wide = Always netlist (λ cycle. raw_in cycle wide ≡ raw_in cycle command)

-- on an address and a count of so many bits
pub record IsWidened (netlist : Netlist) (address count : ℕ) (command wide : CommandNets) : Type 0 where
  pub nets : AreCommandNets netlist wide
  pub widths : widths_of wide ≡ wider command address count
  pub beat : ShowsBeatOf netlist command wide

-- the most nets that an agent with so many askers takes, their links among them
abbrev pub joined_agent_nets : ℕ → ℕ
joined_agent_nets askers = (width_command_nets + width_answer_nets) * askers + 4 * askers + agent_part_nets askers

-- and the most memories
abbrev pub joined_agent_memories : ℕ → ℕ
joined_agent_memories askers = width_memories * askers + 1
