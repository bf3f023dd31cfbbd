-- The agent machine keeps its line.
use Rattle.std.proofs.Common.{ℕ, ◌≤◌, ◌≡◌, Bool, true, false, List, arith, refl}
use Rattle.memory_runs.specs.Views.{System, Run, Responses, AgentSide, AgentView}
use Rattle.memory_runs.specs.Legal.{IsLegalAgent}
use Rattle.memory_machines.specs.Lines.{AreOwedByTag, AreTaggedInOrder, TaggedPort}
use Rattle.memory_parts.specs.Queue.{Entry, QueuesReads}
use Rattle.memory_machines.specs.Lines.{IsFit, IsAgentLine, AgentCarriesAnswers}
use Rattle.memory_parts.specs.Agent.{AgentState, ShowsToAgent, GivesQueued, GivesFixed, IsAgentMachine, IsAgentPlan}
use Rattle.memory_parts.proofs.AgentLine.{carries_commands}
use Rattle.memory_parts.proofs.AgentWords.{GivesInOrder, bytes_front, codes_front, queued_in_order}
use Rattle.memory_parts.proofs.AgentRow.{fixed_in_order}
use Rattle.memory_machines.specs.Link.{Port}

-- what holds for so many cycles holds for fewer
queues_shorter : (port : Port) (valid : ℕ → ℕ) (queue : ℕ → List Entry) (end c : ℕ) → c ≤ end → QueuesReads port valid queue end → QueuesReads port valid queue c
queues_shorter port valid queue end c low q = record { begins = q.begins; next = λ k less. q.next k (omega arith) }

shows_shorter : (side : AgentSide) (view : AgentView) (up : TaggedPort) (state : AgentState) (end c : ℕ) → c ≤ end → ShowsToAgent side view up state end → ShowsToAgent side view up state c
shows_shorter side view up state end c low m = record {
  words = m.words;
  bursts = m.bursts;
  plain = m.plain;
  read = λ k less has. m.read k (omega arith) has;
  no_read = λ k less has. m.no_read k (omega arith) has;
  write = λ k less has. m.write k (omega arith) has;
  no_write = λ k less has. m.no_write k (omega arith) has;
  address = λ k less. m.address k (omega arith);
  word = λ k less has. m.word k (omega arith) has;
  no_word = λ k less has. m.no_word k (omega arith) has;
  enables = λ k less has. m.enables k (omega arith) has;
  all_lanes = λ k less has. m.all_lanes k (omega arith) has;
  count = λ k less. m.count k (omega arith);
  grant = λ k less. m.grant k (omega arith);
  wait = λ k less. m.wait k (omega arith);
  stood_first = m.stood_first;
  stood_next = λ k less has. m.stood_next k (omega arith) has;
  queues = λ has. queues_shorter up.port view.readdatavalid state.queue end c low (m.queues has);
}

queued_shorter : (responses : Responses) (view : AgentView) (up : TaggedPort) (state : AgentState) (end c : ℕ) → c ≤ end → GivesQueued responses view up state end → GivesQueued responses view up state c
queued_shorter responses view up state end c low g = record {
  valid = λ k less. g.valid k (omega arith);
  word = λ k less. g.word k (omega arith);
  code = λ k less. g.code k (omega arith);
  tag = λ k less some. g.tag k (omega arith) some;
}

fixed_shorter : (responses : Responses) (side : AgentSide) (view : AgentView) (up : TaggedPort) (state : AgentState) (end c : ℕ) → c ≤ end → GivesFixed responses side view up state end → GivesFixed responses side view up state c
fixed_shorter responses side view up state end c low g = record {
  empty = g.empty;
  first = λ k less. g.first k (omega arith);
  next = λ k i less. g.next k i (omega arith);
  valid = λ k less. g.valid k (omega arith);
  tag = λ k less. g.tag k (omega arith);
  word = λ k less some. g.word k (omega arith) some;
  code = λ k less some. g.code k (omega arith) some;
  word_late = λ k less none. g.word_late k (omega arith) none;
  code_late = λ k less none. g.code_late k (omega arith) none;
}

-- words with the tags of their commands in order are owed for each tag by itself
abbrev pub TagsInOrder : Type 0
TagsInOrder = (system : System) (tagged : TaggedPort) (end : ℕ) → AreTaggedInOrder tagged end → AreOwedByTag system tagged end

pub agent_line : TagsInOrder → (responses : Responses) (system : System) (run : Run) (agent : ℕ) (up : TaggedPort) (state : AgentState) (end : ℕ) →
    IsAgentPlan (system.agent agent) → IsAgentMachine responses (system.agent agent) (run.at_agent agent) up state end → IsAgentLine responses system run agent 0 up end
agent_line owed_by_tag responses system run agent up state end plan machine = record {
  commands = λ c low fit proper. carries_commands system run agent up state c (shows_shorter side view up state end c low machine.commands) plan fit proper;
  answers = λ c low fit proper. answers c low fit proper;
}
  where
    side : AgentSide
    side = system.agent agent

    view : AgentView
    view = run.at_agent agent

    in_order : (c : ℕ) → c ≤ end → IsFit system agent up.port c → IsLegalAgent (system.agent agent) (run.at_agent agent) c → (b : Bool) → (system.agent agent).has_readdatavalid ≡ b → GivesInOrder responses system run agent up c
    in_order c low fit proper true has =
        queued_in_order system run agent up state c (shows_shorter (system.agent agent) (run.at_agent agent) up state end c low machine.commands) plan fit responses proper has
        (queued_shorter responses (run.at_agent agent) up state end c low (machine.queued has))
    in_order c low fit proper false has =
        fixed_in_order system run agent up state c (shows_shorter (system.agent agent) (run.at_agent agent) up state end c low machine.commands) plan fit responses has
        (fixed_shorter responses (system.agent agent) (run.at_agent agent) up state end c low (machine.fixed has))

    answers : (c : ℕ) → c ≤ end → IsFit system agent up.port c → IsLegalAgent (system.agent agent) (run.at_agent agent) c → AgentCarriesAnswers responses system run agent up c
    answers c low fit proper =
        let m = shows_shorter (system.agent agent) (run.at_agent agent) up state end c low machine.commands in
        let gives = in_order c low fit proper (system.agent agent).has_readdatavalid refl in
        record {
          bytes = λ h k there less. bytes_front system run agent up state c m plan fit responses gives h k less;
          codes = λ are h k there less. codes_front system run agent up state c m plan fit responses gives are h k less;
          owed = owed_by_tag system up c gives.tags;
        }
