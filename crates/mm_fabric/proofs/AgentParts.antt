-- An arbiter, a pipe of stages and the part below them are what stands next to an agent.
use Rattle.std.proofs.Common.{◌≡◌, ℕ, ◌*◌, List, sym, subst}
use Rattle.iface_roles.specs.declared.records.AgentPort.{AgentPort}
use Rattle.iface_roles.specs.Proper.{IsBoundedAgent}
use Rattle.netlist.specs.Netlists.{Netlist}
use Rattle.netlist.specs.Longer.{Extends}
use Rattle.net_parts.specs.Nets.{IsRegister}
use Rattle.net_parts.specs.Laws.{extends_twice, net_lasts, register_lasts}
use Rattle.memory_runs.specs.Sides.{burst_width}
use Rattle.command_nets.specs.declared.nets.CommandNets.{CommandNets}
use Rattle.command_nets.specs.Nets.{AreCommandNets}
use Rattle.command_nets.specs.Groups.{command_lasts, answer_lasts}
use Rattle.command_nets.specs.Ports.{has_lasts}
use Rattle.mm_agent.specs.declared.nets.AgentNets.{AgentNets}
use Rattle.mm_agent.specs.declared.nets.AgentMade.{AgentMade}
use Rattle.mm_agent.specs.Agents.{AreAgentNets, AreMadeNets, has_address, agent_lasts}
use Rattle.mm_agent.specs.Forms.{IgnoresAnswer, RunsAsAgent}
use Rattle.mm_agent.specs.Forms.{owns as owned_by_agent}
use Rattle.mm_arbiter.specs.declared.asker.Asker.{Asker}
use Rattle.mm_arbiter.specs.declared.back.BackNets.{BackNets}
use Rattle.mm_arbiter.specs.declared.arbiter.HeldArbiter.{HeldArbiter}
use Rattle.mm_arbiter.specs.Forward.{ArbiterForward, forward_lasts}
use Rattle.mm_arbiter.specs.Forward.{owns as owned_by_arbiter}
use Rattle.mm_arbiter.specs.declared.back.BelowNets.{BelowNets}
use Rattle.mm_arbiter.specs.Machine.{RunsAsArbiter}
use Rattle.link_core.specs.Rows.{IgnoresInLonger}
use Rattle.mm_fabric.specs.Stages.{RunsAsStages}
use Rattle.mm_fabric.specs.declared.parts.Seat.{Seat}
use Rattle.mm_fabric.specs.Parts.{IsAgentPart, askers_of, commands_above, backs_above}
use Rattle.mm_fabric.specs.Askers.{told_by}

pub made_last : (old new : Netlist) (port : AgentPort) (command : CommandNets) (made : AgentMade) → AreMadeNets old port command made → Extends old new → AreMadeNets new port command made
made_last old new port command made h e = record {
  address = has_lasts old new (has_address port) port.address_bits made.address h.address e;
  read = has_lasts old new port.reads 1 made.read h.read e;
  waitrequest = net_lasts old new made.waitrequest 1 e h.waitrequest;
  answer = answer_lasts old new made.answer _ e h.answer;
  answer_tag = net_lasts old new made.answer_tag command.tag.width e h.answer_tag;
}

-- what stands when each is made
pub record StandsBelow (begun grown done : Netlist) (stages : ℕ) (port : AgentPort) (nets : AgentNets) (askers : List Asker) (commands : List CommandNets) (asked : CommandNets) (told : BelowNets) (command : CommandNets) (arbiter : HeldArbiter) (made : AgentMade) (backs : List BackNets) : Type 0 where
  pub bounded : IsBoundedAgent port
  pub nets_are : AreAgentNets begun port nets
  pub command_is : AreCommandNets begun command
  pub word : command.word.width ≡ port.word_bytes * 8
  pub enables : command.enables.width ≡ port.word_bytes
  pub count : command.count.width ≡ burst_width port.burst_bits
  pub tag : command.tag.width ≡ 4
  pub chosen : ArbiterForward askers commands asked arbiter begun
  pub stages_ignore : IgnoresInLonger begun asked command
  pub grows : Extends begun grown
  pub made_are : AreMadeNets grown port command made
  pub registers : (n : ℕ) → owned_by_agent made n → IsRegister grown n
  pub ignores : IgnoresAnswer grown command made
  pub runs : RunsAsAgent grown port nets command made
  pub arbiter_registers : (n : ℕ) → owned_by_arbiter arbiter n → IsRegister grown n
  pub ends : Extends grown done
  pub turns : RunsAsArbiter done askers commands asked told backs
  pub stages_run : RunsAsStages done stages asked told command (told_by made)
  pub no_stage : stages ≡ 0 → (asked ≡ command) × (told ≡ told_by made)

pub agent_part_is : (begun grown done : Netlist) (stages : ℕ) (port : AgentPort) (nets : AgentNets) (askers : List Asker) (commands : List CommandNets) (asked : CommandNets) (told : BelowNets) (command : CommandNets) (arbiter : HeldArbiter) (made : AgentMade) (backs : List BackNets) (seats : List Seat) →
    StandsBelow begun grown done stages port nets askers commands asked told command arbiter made backs → askers_of seats ≡ askers → commands_above seats ≡ commands → backs_above seats ≡ backs →
    IsAgentPart done stages (record { port = port; nets = nets; seats = seats; arbiter = arbiter; asked = asked; told = told; command = command; made = made })
agent_part_is begun grown done stages port nets askers commands asked told command arbiter made backs seats h same_askers same_commands same_backs =
    let e = extends_twice begun grown done h.grows h.ends in
    record {
      bounded = h.bounded;
      nets = agent_lasts begun done port nets h.nets_are e;
      command = command_lasts begun done command e h.command_is;
      word = h.word;
      enables = h.enables;
      count = h.count;
      tag = h.tag;
      made = made_last grown done port command made h.made_are h.ends;
      registers = λ n o. register_lasts grown done n h.ends (h.registers n o);
      ignores = λ one other v w. h.ignores one other (h.ends.valuations one v) (h.ends.valuations other w);
      runs = λ longer f. h.runs longer (extends_twice grown done longer h.ends f);
      arbiter_registers = λ n o. register_lasts grown done n h.ends (h.arbiter_registers n o);
      chosen = subst (λ (xs : List Asker). ArbiterForward xs (commands_above seats) asked arbiter done) (sym same_askers)
          (subst (λ (cs : List CommandNets). ArbiterForward askers cs asked arbiter done) (sym same_commands) (forward_lasts askers commands asked arbiter begun done h.chosen e));
      turns = subst (λ (xs : List Asker). RunsAsArbiter done xs (commands_above seats) asked told (backs_above seats)) (sym same_askers)
          (subst (λ (cs : List CommandNets). RunsAsArbiter done askers cs asked told (backs_above seats)) (sym same_commands)
          (subst (λ (bs : List BackNets). RunsAsArbiter done askers commands asked told bs) (sym same_backs) h.turns));
      stages_run = h.stages_run;
      stages_ignore = λ longer f. h.stages_ignore longer (extends_twice begun done longer e f);
      no_stage = h.no_stage;
    }
