-- The words that an agent gives, and the answers that are made of them.
use Rattle.std.specs.Prelude.{◌≡◌, ℕ, ◌+◌, ◌-◌, ◌<◌, ◌≤◌, Bool, true, false, Option, Some, None}
use Rattle.std.specs.Int.{bit_at}
use Rattle.iface_roles.specs.declared.records.AgentPort.{AgentPort}
use Rattle.netlist.specs.Nets.{NetValue}
use Rattle.netlist.specs.Netlists.{Netlist}
use Rattle.netlist.specs.Runs.{Run, cycle_of, IsRun, Always}
use Rattle.netlist.specs.Longer.{Extends}
use Rattle.net_parts.specs.Histories.{earlier}
use Rattle.memory_parts.specs.Agent.{row_places}
use Rattle.memory_runs.specs.Sides.{agent_side}
use Rattle.command_nets.specs.declared.nets.AnswerNets.{AnswerNets}
use Rattle.command_nets.specs.Ports.{value_or}
use Rattle.read_queues.specs.declared.queue.HeldReadQueue.{HeldReadQueue}
use Rattle.mm_agent.specs.declared.nets.AgentNets.{AgentNets}
use Rattle.mm_agent.specs.declared.reads.HeldReads.{HeldReads}
use Rattle.mm_agent.specs.declared.reads.HeldReads.TheVariants.{Never, Counts, Row, Queued}
use Rattle.mm_agent.specs.Agents.{GivesAnswer}

-- beside a row what the agent gives at a port goes on in its cycle, and at latency 0 in the next one
pub record GivesRowPort (netlist : Netlist) (port : AgentPort) (given : Option NetValue) (made : NetValue) : Type 0 where
  pub soon : 1 ≤ port.read_latency → Always netlist (λ cycle. cycle.net made.number ≡ value_or 0 given cycle)
  pub late : port.read_latency ≡ 0 → (run : Run) (cycles : ℕ) → IsRun netlist run cycles → (c : ℕ) → c + 1 < cycles
      → run.net (c + 1) made.number ≡ value_or 0 given (cycle_of run c)

-- a word is answered where the row's last bit is high
pub record GivesRow (netlist : Netlist) (port : AgentPort) (nets : AgentNets) (answer : AnswerNets)
    (row : NetValue) : Type 0 where
  pub valid : Always netlist (λ cycle. cycle.net answer.valid.number
      ≡ bit_at (cycle.net row.number) (row_places (agent_side port) - 1))
  pub word : GivesRowPort netlist port nets.readdata answer.word
  pub code : GivesRowPort netlist port nets.response answer.code

-- an agent that can't read gives no word; its codes go on as beside a row
pub record GivesNoWord (netlist : Netlist) (port : AgentPort) (nets : AgentNets) (answer : AnswerNets) : Type 0 where
  pub valid : Always netlist (λ cycle. cycle.net answer.valid.number ≡ 0)
  pub word : Always netlist (λ cycle. cycle.net answer.word.number ≡ 0)
  pub code : GivesRowPort netlist port nets.response answer.code

abbrev pub AreAnswersGiven : Netlist → AgentPort → AgentNets → AnswerNets → HeldReads → Type 0
AreAnswersGiven netlist port nets answer Never = GivesNoWord netlist port nets answer
AreAnswersGiven netlist port nets answer (Counts unanswered full) = Always netlist (GivesAnswer nets answer)
AreAnswersGiven netlist port nets answer (Row row) = GivesRow netlist port nets answer row
AreAnswersGiven netlist port nets answer (Queued queue) = Always netlist (GivesAnswer nets answer)

-- ---- tags

-- the most nets that the tags of several hosts take, beside those of a queue
abbrev pub tag_nets : Bool → Option HeldReadQueue → ℕ
tag_nets false queue = 0
tag_nets true None = 63
tag_nets true (Some queue) = 0

-- in each run the net shows what another showed so many cycles before, and 0 before that
pub record IsEarlier (netlist : Netlist) (from net : NetValue) (count : ℕ) : Type 0 where
  pub value : (run : Run) (cycles : ℕ) → IsRun netlist run cycles → (c : ℕ) → c < cycles
      → run.net c net.number ≡ earlier (λ d. run.net d from.number) count c

-- the tag of an answer: the one of all commands, the one that went along the row, or that of the oldest read in the queue
abbrev pub IsAnswerTag : Netlist → Bool → AgentPort → NetValue → HeldReads → NetValue → Type 0
IsAnswerTag netlist false port tag held made = made ≡ tag
IsAnswerTag netlist true port tag Never made = Unit {0}
IsAnswerTag netlist true port tag (Counts unanswered full) made = Unit {0}
IsAnswerTag netlist true port tag (Row row) made = IsEarlier netlist tag made (row_places (agent_side port))
IsAnswerTag netlist true port tag (Queued queue) made = made ≡ queue.tag

-- ---- what stands lasts. No contract reads these proofs; the laws of the agent cite them

pub row_port_lasts : (old new : Netlist) (port : AgentPort) (given : Option NetValue) (made : NetValue)
    → GivesRowPort old port given made → Extends old new → GivesRowPort new port given made
row_port_lasts old new port given made h e =
    record {
      soon =
          λ some cycle v. h.soon some cycle (e.valuations cycle v);
      late =
          λ none run cycles r. h.late none run cycles (e.runs run cycles r);
    }

pub answers_last : (old new : Netlist) (port : AgentPort) (nets : AgentNets) (answer : AnswerNets) (held : HeldReads)
    → AreAnswersGiven old port nets answer held → Extends old new → AreAnswersGiven new port nets answer held
answers_last old new port nets answer Never h e = record {
  valid = λ cycle v. h.valid cycle (e.valuations cycle v);
  word = λ cycle v. h.word cycle (e.valuations cycle v);
  code = row_port_lasts old new port nets.response answer.code h.code e;
}
answers_last old new port nets answer (Counts unanswered full) h e = λ cycle v. h cycle (e.valuations cycle v)
answers_last old new port nets answer (Row row) h e = record {
  valid = λ cycle v. h.valid cycle (e.valuations cycle v);
  word = row_port_lasts old new port nets.readdata answer.word h.word e;
  code = row_port_lasts old new port nets.response answer.code h.code e;
}
answers_last old new port nets answer (Queued queue) h e = λ cycle v. h cycle (e.valuations cycle v)

pub answer_tag_lasts : (old new : Netlist) (several : Bool) (port : AgentPort) (tag : NetValue) (held : HeldReads)
    (made : NetValue)
    → IsAnswerTag old several port tag held made → Extends old new → IsAnswerTag new several port tag held made
answer_tag_lasts old new false port tag held made h e = h
answer_tag_lasts old new true port tag Never made h e = h
answer_tag_lasts old new true port tag (Counts unanswered full) made h e = h
answer_tag_lasts old new true port tag (Row row) made h e =
    record { value = λ run cycles r. h.value run cycles (e.runs run cycles r) }
answer_tag_lasts old new true port tag (Queued queue) made h e = h
