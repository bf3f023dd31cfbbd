-- What is given to the parts next to an agent: the hosts that ask, and their commands.
use Rattle.std.specs.Prelude.{◌≡◌, ℕ, ◌+◌, ◌*◌, ◌^◌, ◌<◌, ◌≤◌, ◌⊎◌, List, [], ◌∷◌, length}
use Rattle.std.specs.List.{AllZip}
use Rattle.iface_roles.specs.declared.records.AgentPort.{AgentPort}
use Rattle.iface_roles.specs.Proper.{span_of}
use Rattle.netlist.specs.Netlists.{Netlist}
use Rattle.netlist.specs.Runs.{Always}
use Rattle.memory_runs.specs.Sides.{burst_width}
use Rattle.command_nets.specs.declared.nets.CommandNets.{CommandNets}
use Rattle.command_nets.specs.Nets.{AreCommandNets, AreAnswerNets, Widths, widths_of}
use Rattle.net_parts.specs.Nets.{IsBit}
use Rattle.mm_agent.specs.declared.nets.AgentMade.{AgentMade}
use Rattle.mm_agent.specs.Forms.{most_nets}
use Rattle.mm_arbiter.specs.declared.asker.Asker.{Asker}
use Rattle.mm_fabric.specs.declared.parts.Seat.{Seat}
use Rattle.mm_arbiter.specs.declared.back.BelowNets.{BelowNets}
use Rattle.mm_arbiter.specs.Shown.{AreAskers}
use Rattle.mm_arbiter.specs.Forward.{arbiter_nets}
use Rattle.mm_arbiter.specs.Backward.{back_nets}
use Rattle.mm_arbiter.specs.Backs.{HostsFit}
use Rattle.mm_arbiter.specs.Machine.{seats_from, AreApart}

-- the hosts that are joined to an agent: one at least, each once, with a number of four bits and its shares
pub record MayAsk (askers : List Asker) : Type 0 where
  pub some : 1 ≤ length askers
  pub few : length askers ≤ 128
  pub shares : AreAskers askers
  pub hosts : HostsFit 4 askers
  pub apart : AreApart (seats_from askers)

-- the command of an asker has these widths, and bears the number of its host
pub record IsAsked (netlist : Netlist) (widths : Widths) (asker : Asker) (command : CommandNets) : Type 0 where
  pub nets : AreCommandNets netlist command
  pub widths_are : widths_of command ≡ widths
  pub tag : Always netlist (λ cycle. cycle.net command.tag.number ≡ asker.host)

-- the commands reach the span of the agent with words of its size and counts of its bursts, on nets as wide as the others'
pub record AreAsked (netlist : Netlist) (port : AgentPort) (askers : List Asker) (commands : List CommandNets) : Type 0 where
  pub widths : Widths
  pub reaches : span_of port ≤ 2 ^ widths.address
  pub word : widths.word ≡ port.word_bytes * 8
  pub enables : widths.enables ≡ port.word_bytes
  pub count : widths.count ≡ burst_width port.burst_bits
  pub tag : widths.tag ≡ 4
  pub each : AllZip (IsAsked netlist widths) askers commands

-- what the part next to an agent tells the arbiter
abbrev pub told_by : AgentMade → BelowNets
told_by made = record { wait = made.waitrequest; answer = made.answer; tag = made.answer_tag }

-- what the links of a seat tell is of this netlist, with words of so many bits
pub record IsTold (netlist : Netlist) (bits : ℕ) (seat : Seat) : Type 0 where
  pub wait : IsBit netlist seat.told.wait
  pub answer : AreAnswerNets netlist seat.told.answer bits

-- what the arbiter tells the links of a seat is of this netlist, with words of so many bits
pub record IsToldBelow (netlist : Netlist) (bits : ℕ) (seat : Seat) : Type 0 where
  pub wait : IsBit netlist seat.back.wait
  pub answer : AreAnswerNets netlist seat.back.answer bits

abbrev pub AreToldBelow : Netlist → ℕ → List Seat → Type 0
AreToldBelow netlist bits [] = Unit {0}
AreToldBelow netlist bits (seat ∷ seats) = IsToldBelow netlist bits seat × AreToldBelow netlist bits seats

-- the most nets that a pipe of four stages takes
abbrev pub pipe_nets : ℕ
pipe_nets = 41 * 4

-- the most nets that the parts next to an agent with so many askers take
abbrev pub agent_part_nets : ℕ → ℕ
agent_part_nets askers = arbiter_nets askers + most_nets + back_nets askers + pipe_nets

-- the module has no room for so many nets, or for so many memories
abbrev pub HasNoRoomFor : ℕ → ℕ → Netlist → Type 0
HasNoRoomFor nets memories netlist = (2 ^ 20 < length netlist.lines + nets) ⊎ (2 ^ 16 < length netlist.memories + memories)
