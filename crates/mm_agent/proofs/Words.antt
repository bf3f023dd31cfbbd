-- The words of an agent that has readdatavalid, and the tag of its answers where it is one.
use Rattle.std.proofs.Common.{◌≡◌, Bool, true, false}
use Rattle.iface_roles.specs.declared.records.AgentPort.{AgentPort}
use Rattle.netlist.specs.Nets.{NetValue}
use Rattle.netlist.specs.Netlists.{Netlist}
use Rattle.netlist.specs.Runs.{Always}
use Rattle.command_nets.specs.declared.nets.AnswerNets.{AnswerNets}
use Rattle.mm_agent.specs.declared.nets.AgentNets.{AgentNets}
use Rattle.mm_agent.specs.declared.reads.HeldReads.{HeldReads}
use Rattle.mm_agent.specs.declared.reads.HeldReads.TheVariants.{Never, Counts, Row, Queued}
use Rattle.mm_agent.specs.Agents.{GivesAnswer}
use Rattle.mm_agent.specs.Answers.{AreAnswersGiven, IsAnswerTag}
use Rattle.mm_agent.specs.Reads.{AreReadsHeld}

pub words_given : (netlist : Netlist) (port : AgentPort) (nets : AgentNets) (answer : AnswerNets) (read shown : NetValue) (held : HeldReads) → AreReadsHeld netlist port read shown held → AreAnswersGiven netlist port nets answer held →
    port.readdatavalid ≡ true → Always netlist (GivesAnswer nets answer)
words_given netlist port nets answer read shown Never k g some = absurd (let none = k.kind in cc)
words_given netlist port nets answer read shown (Counts unanswered full) k g some = g
words_given netlist port nets answer read shown (Row row) k g some = absurd (let none = k.kind in cc)
words_given netlist port nets answer read shown (Queued queue) k g some = g

pub one_answer_tag : (netlist : Netlist) (several : Bool) (port : AgentPort) (tag : NetValue) (held : HeldReads) (made : NetValue) → IsAnswerTag netlist several port tag held made → several ≡ false → made ≡ tag
one_answer_tag netlist true port tag held made h e = cc
one_answer_tag netlist false port tag held made h e = h
