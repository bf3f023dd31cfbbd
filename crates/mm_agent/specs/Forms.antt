-- The part next to an agent: what its call leaves in a netlist, and that it runs as the machine of an agent.
use Rattle.std.specs.Prelude.{◌≡◌, ℕ, ◌+◌, ◌^◌, ◌<◌, ◌≤◌, Bool, true, false, not, ◌&&◌, ◌⊎◌, length, Option, Some, None, is_some, IsTrue, IsFalse}
use Rattle.histories.specs.History.{is_raised, one_if}
use Rattle.iface_roles.specs.declared.records.AgentPort.{AgentPort}
use Rattle.netlist.specs.Nets.{NetValue}
use Rattle.netlist.specs.Netlists.{Netlist}
use Rattle.netlist.specs.Runs.{Cycle, Run, IsEndlessRun, IsValuation, Always}
use Rattle.netlist.specs.Longer.{Extends}
use Rattle.net_parts.specs.Nets.{IsBit}
use Rattle.net_parts.specs.Laws.{net_lasts}
use Rattle.memory_runs.specs.Views.Responses.{AreCodes}
use Rattle.memory_machines.specs.Link.{Port}
use Rattle.memory_machines.specs.Lines.{TaggedPort, ServesKinds}
use Rattle.memory_parts.specs.Queue.{takes_read}
use Rattle.memory_parts.specs.Agent.{AgentState, IsAgentMachine}
use Rattle.memory_runs.specs.Sides.{agent_side}
use Rattle.command_nets.specs.declared.nets.CommandNets.{CommandNets}
use Rattle.command_nets.specs.Nets.{port_in, ShowSame}
use Rattle.command_nets.specs.Ports.{value_or, SameLevel}
use Rattle.read_queues.specs.declared.queue.HeldReadQueue.{HeldReadQueue}
use Rattle.read_queues.specs.declared.queue.ReadTraffic.{ReadTraffic}
use Rattle.read_queues.specs.Queues.{RunsAsQueue, runs_last}
use Rattle.mm_agent.specs.declared.nets.AgentNets.{AgentNets}
use Rattle.mm_agent.specs.declared.nets.AgentMade.{AgentMade}
use Rattle.mm_agent.specs.Agents.{AreAgentNets, agent_lasts, AcceptsAtOnce, needs_queue, count_of, BearsOneTag, PlacesAddress, GivesAnswer, read_of, shape_above, counts_words, agent_view}
use Rattle.mm_agent.specs.Reads.{owns_reads, sets_reads, held_queue, hold_nets, finish_nets, AreReadsHeld, ReadsGoOn, reads_last, reads_go_on}
use Rattle.mm_agent.specs.Answers.{tag_nets, AreAnswersGiven, IsAnswerTag, answers_last, answer_tag_lasts}
use Rattle.mm_agent.specs.Waits.{owns_wait, IsWaitHeld, WaitGoesOn, wait_lasts, wait_goes_on}

-- the most nets that a part takes, beside those of a queue
abbrev pub part_nets : Bool → Option HeldReadQueue → ℕ
part_nets several queue = 22 + hold_nets queue + finish_nets queue + tag_nets several queue

-- and with a queue
abbrev pub nets_by : Bool → Bool → ℕ
nets_by several false = part_nets several None
nets_by several true = 60

abbrev pub agent_nets : Bool → AgentPort → ℕ
agent_nets several port = nets_by several (needs_queue several port)

-- the most nets for any agent
abbrev pub most_nets : ℕ
most_nets = part_nets true None

-- a queue has one memory
abbrev pub agent_memories : Bool → AgentPort → ℕ
agent_memories several port = one_if (needs_queue several port)

-- the module has no room for so many nets, or for the memory of a queue
abbrev pub NoRoomBy : Bool → ℕ → Netlist → Type 0
NoRoomBy false nets netlist = 2 ^ 20 < length netlist.lines + nets
NoRoomBy true nets netlist = (2 ^ 20 < length netlist.lines + nets) ⊎ (2 ^ 16 < length netlist.memories + 1)

abbrev pub HasNoRoom : Bool → AgentPort → Netlist → Type 0
HasNoRoom several port netlist = NoRoomBy (needs_queue several port) (agent_nets several port) netlist

-- the numbers of its registers
abbrev pub owns : AgentMade → ℕ → Type 0
owns made n = owns_reads made.reads n ⊎ owns_wait made.wait n

-- those beside the registers of a queue
abbrev pub sets : AgentMade → ℕ → Type 0
sets made n = sets_reads made.reads n ⊎ owns_wait made.wait n

-- the nets of the part: its bound on reads by `shown`, and its wait by `busy`
pub record IsAgentPart (netlist : Netlist) (several : Bool) (port : AgentPort) (nets : AgentNets) (command : CommandNets)
    (made : AgentMade) : Type 0 where
  pub queued : is_some (held_queue made.reads) ≡ needs_queue several port
  pub nets_are : AreAgentNets netlist port nets
  pub shown : NetValue
  pub shown_bit : IsBit netlist shown
  pub read_bit : IsBit netlist command.read
  pub read : made.read ≡ read_of port shown
  pub busy : NetValue
  -- the agent's waitrequest, or low where it has none and accepts at once
  pub waits : (port.waitrequest ≡ false → AcceptsAtOnce port)
      → Always netlist (λ cycle. cycle.net busy.number ≡ value_or 0 nets.waitrequest cycle)
  pub wait_held : IsWaitHeld netlist port nets.waitrequest command.write busy made.wait
  pub wait_on : WaitGoesOn netlist port shown command.write busy made.wait
  pub address : Always netlist (λ cycle. PlacesAddress port (cycle.net command.address.number) (value_or 0 made.address cycle))
  -- with readdatavalid words go on in their cycle
  pub answer : port.readdatavalid ≡ true → Always netlist (GivesAnswer nets made.answer)
  pub answers : AreAnswersGiven netlist port nets made.answer made.reads
  pub held : AreReadsHeld netlist port command.read shown made.reads
  pub on : ReadsGoOn netlist command.read shown busy made.answer.valid made.waitrequest made.reads
  pub one_tag : several ≡ false → BearsOneTag netlist command
  pub tag : several ≡ false → made.answer_tag ≡ command.tag
  pub answer_tag : IsAnswerTag netlist several port command.tag made.reads made.answer_tag

-- what comes to a queue: each read that is taken above, with its tag and its words, and each word
abbrev pub traffic_of : AgentPort → CommandNets → NetValue → NetValue → ReadTraffic
traffic_of port command valid taken = record { taken = taken; tag = command.tag; count = count_of port command; valid = valid }

-- the queue goes on by it
pub record QueueGoesOn (netlist : Netlist) (port : AgentPort) (command : CommandNets) (told valid : NetValue)
    (queue : HeldReadQueue) : Type 0 where
  pub taken : NetValue
  pub is_taken : Always netlist (λ cycle. is_raised (cycle.net taken.number)
      ≡ (is_raised (cycle.net command.read.number) && not (is_raised (cycle.net told.number))))
  pub runs : RunsAsQueue netlist queue (traffic_of port command valid taken)

-- where there is one
abbrev pub AnyQueueGoesOn : Netlist → AgentPort → CommandNets → AgentMade → Type 0
AnyQueueGoesOn netlist port command made =
    (queue : HeldReadQueue) → held_queue made.reads ≡ Some queue
    → QueueGoesOn netlist port command made.waitrequest made.answer.valid queue

-- the agent is shown the same in both cycles; all else that it is shown is of the command
pub record ShowSameTo (made : AgentMade) (one other : Cycle) : Type 0 where
  pub address : SameLevel made.address one other
  pub read : SameLevel made.read one other

-- what the agent is shown doesn't depend on its waitrequest or its answers in that cycle
abbrev pub IgnoresAnswer : Netlist → CommandNets → AgentMade → Type 0
IgnoresAnswer netlist command made =
    (one other : Cycle) → IsValuation netlist one → IsValuation netlist other
    → ((n : ℕ) → owns_reads made.reads n → one.net n ≡ other.net n) → ShowSame command one other → ShowSameTo made one other

-- ---- runs

-- the side above
abbrev pub port_above : AgentPort → CommandNets → AgentMade → Run → Port
port_above port command made run = port_in (shape_above port) run command made.waitrequest made.answer

abbrev pub tagged_above : AgentPort → CommandNets → AgentMade → Run → TaggedPort
tagged_above port command made run =
    record { port = port_above port command made run; answer_tag = λ c. run.net c made.answer_tag.number }

-- what the part asks of the commands: no kind that the agent lacks, and reads of one word where they may have no more, else of
-- one at least
pub record AreFitFor (port : AgentPort) (up : Port) (end : ℕ) : Type 0 where
  pub kinds : ServesKinds (agent_side port) up end
  pub one_word : IsFalse (counts_words port) → (c : ℕ) → c < end → IsTrue (takes_read up c) → up.commands.count c ≡ 1
  pub some_words : IsTrue (counts_words port) → (c : ℕ) → c < end → IsTrue (takes_read up c) → 1 ≤ up.commands.count c

-- the run has a state with which it is one of the machine of an agent
pub record IsAgentRun (port : AgentPort) (nets : AgentNets) (command : CommandNets) (made : AgentMade) (run : Run)
    (end : ℕ) : Type 0 where
  pub state : AgentState
  pub machine : IsAgentMachine AreCodes (agent_side port) (agent_view port nets command made run)
      (tagged_above port command made run) state end

-- so is each endless run of each longer netlist in which the commands are fit
abbrev pub RunsAsAgent : Netlist → AgentPort → AgentNets → CommandNets → AgentMade → Type 0
RunsAsAgent netlist port nets command made =
    (longer : Netlist) → Extends netlist longer → (run : Run) → IsEndlessRun longer run
    → (end : ℕ) → AreFitFor port (port_above port command made run) end → IsAgentRun port nets command made run end

-- ---- what stands lasts. No contract reads a proof of it; the laws of an agent cite it

pub part_lasts : (old new : Netlist) (several : Bool) (port : AgentPort) (nets : AgentNets) (command : CommandNets)
    (made : AgentMade)
    → IsAgentPart old several port nets command made → Extends old new → IsAgentPart new several port nets command made
part_lasts old new several port nets command made h e = record {
  queued = h.queued;
  nets_are = agent_lasts old new port nets h.nets_are e;
  shown = h.shown;
  shown_bit = net_lasts old new h.shown 1 e h.shown_bit;
  read_bit = net_lasts old new command.read 1 e h.read_bit;
  read = h.read;
  busy = h.busy;
  waits = λ served cycle v. h.waits served cycle (e.valuations cycle v);
  wait_held = wait_lasts old new port nets.waitrequest command.write h.busy made.wait h.wait_held e;
  wait_on = wait_goes_on old new port h.shown command.write h.busy made.wait h.wait_on e;
  address = λ cycle v. h.address cycle (e.valuations cycle v);
  answer = λ served cycle v. h.answer served cycle (e.valuations cycle v);
  answers = answers_last old new port nets made.answer made.reads h.answers e;
  held = reads_last old new port command.read h.shown made.reads h.held e;
  on = reads_go_on old new command.read h.shown h.busy made.answer.valid made.waitrequest made.reads h.on e;
  one_tag =
      λ one. (let bears = h.one_tag one in
      record { tag = bears.tag; always = λ cycle v. bears.always cycle (e.valuations cycle v) });
  tag = h.tag;
  answer_tag = answer_tag_lasts old new several port command.tag made.reads made.answer_tag h.answer_tag e;
}

pub queue_goes_on : (old new : Netlist) (port : AgentPort) (command : CommandNets) (made : AgentMade)
    → AnyQueueGoesOn old port command made → Extends old new → AnyQueueGoesOn new port command made
queue_goes_on old new port command made h e queue is =
    (let on = h queue is in
    record {
      taken =
          on.taken;
      is_taken =
          λ cycle v. on.is_taken cycle (e.valuations cycle v);
      runs =
          runs_last old new queue (traffic_of port command made.answer.valid on.taken) on.runs e;
    })
