-- What stands in for an agent as contracts see it, and what it has to do with a run.
use Rattle.std.specs.Prelude.{◌*◌, ◌≡◌, ◌+◌, ◌%◌, ◌^◌, ◌<◌, ◌≤◌, ℕ, Bool, not, ◌&&◌, ◌||◌, nat_eq, List, [], ◌∷◌, ◌++◌, length, drop, replicate, flat_map, slice_index_or, slice_get, Some, IsTrue, IsFalse, if◌then◌else◌}
use Rattle.iface_roles.specs.declared.records.AgentPort.{AgentPort}
use Rattle.iface_roles.specs.Proper.{IsBoundedAgent}
use Rattle.histories.specs.History.{is_raised, one_if}
use Rattle.memory_runs.specs.Views.{Levels, levels_at, AgentSide, AgentView}
use Rattle.memory_runs.specs.Operations.{Beat, own_operations, memory_after}
use Rattle.memory_runs.specs.Commands.{Burst, transfer_at, byte_address, agent_accepts, burst_after, burst_before, stood_before, write_transfer, longest_burst}
use Rattle.memory_runs.specs.Sides.{agent_side}
use Rattle.scenario_tables.specs.declared.statements.AgentStatement.{AgentStatement}
use Rattle.stand_ins.specs.declared.delayed.Answer.{Answer}
use Rattle.stand_ins.specs.declared.waiting.Waiting.{Waiting}
use Rattle.stand_ins.specs.declared.burst.WriteBurst.{WriteBurst}
use Rattle.stand_ins.specs.Contents.{filled, contents_before}
use Rattle.stand_ins.specs.Codes.{code_at}
use Rattle.stand_ins.specs.Answers.{answer, latency_of, is_due, word_due, code_due, word_asked, code_asked, no_answer, answer_behind, waiting_after, waiting_before}
use Rattle.stand_ins.specs.StandIns.{stall_pattern, stalls_in, gives_in, word_in, code_in}
use Rattle.stand_ins.specs.Memory.{MemoryValue, contents_of}
use Rattle.stand_ins.specs.Kept.{WaitingValue}

-- its port, what its script says, how many cycles are over, of how many, and what they have left
pub record AgentStandInValue : Type 0 where
  pub port : AgentPort
  pub stalls : List Bool
  pub latency : ℕ
  pub coded : List AgentStatement  -- those that say the codes of words
  pub cycle : ℕ
  pub cycles : ℕ
  pub stood : ℕ
  pub burst : Burst
  pub memory : MemoryValue
  pub waiting : List Waiting
  pub delayed : List Answer

-- the codes of words, by their byte addresses
abbrev pub codes_of : AgentStandInValue → ℕ → ℕ
codes_of agent = code_at (agent_side agent.port) agent.coded

-- ---- one cycle

abbrev pub carries : Levels → Bool
carries levels = is_raised levels.read || is_raised levels.write

abbrev pub wait_of : AgentSide → Levels → ℕ
wait_of side levels = if is_raised levels.write then side.write_wait else side.read_wait

-- whether these levels are accepted in the cycle
abbrev pub accepts : AgentStandInValue → Levels → Bool
accepts agent levels =
    if agent.port.waitrequest then carries levels && not (stalls_in agent.stalls agent.cycle)
    else carries levels && nat_eq agent.stood (wait_of (agent_side agent.port) levels)

abbrev pub reads : AgentStandInValue → Levels → Bool
reads agent levels = accepts agent levels && not (is_raised levels.write)

-- the byte address of the word that levels write, or of the first one that they read
abbrev pub address_shown : AgentStandInValue → Levels → ℕ
address_shown agent levels =
    let shape = (agent_side agent.port).shape in
    if is_raised levels.write then
    (if nat_eq agent.burst.left 0 then byte_address shape levels.address else agent.burst.first)
    + (if nat_eq agent.burst.left 0 then 0 else agent.burst.done) * shape.word_bytes
    else byte_address shape levels.address

abbrev pub gives : AgentStandInValue → Bool
gives agent = agent.port.readdatavalid && is_due agent.cycle agent.waiting

-- the word of the cycle, but for the one that is asked for in it
abbrev pub word_shown : AgentStandInValue → ℕ
word_shown agent =
    if agent.port.readdatavalid then word_due agent.cycle agent.waiting else (slice_index_or agent.delayed 0 no_answer).word

-- and its code
abbrev pub code_shown : AgentStandInValue → ℕ
code_shown agent =
    if agent.port.readdatavalid then code_due agent.cycle agent.waiting else (slice_index_or agent.delayed 0 no_answer).code

-- the word that is asked for in the cycle
abbrev pub word_now : AgentStandInValue → Levels → ℕ
word_now agent levels = word_asked (agent_side agent.port) (contents_of agent.memory) levels (reads agent levels)

-- and its code
abbrev pub code_now : AgentStandInValue → Levels → ℕ
code_now agent levels = code_asked (agent_side agent.port) (codes_of agent) levels (reads agent levels)

-- the word with its code, where levels ask for one or don't
abbrev pub answer_asked : AgentStandInValue → Levels → Bool → Answer
answer_asked agent levels asks =
    answer (word_asked (agent_side agent.port) (contents_of agent.memory) levels asks)
    (code_asked (agent_side agent.port) (codes_of agent) levels asks)

-- what a cycle with these levels leaves of the words that wait or are under way, where they ask for words or don't. The rest
-- stays
pub record IsAnswered (agent : AgentStandInValue) (levels : Levels) (asks : Bool) (after : AgentStandInValue) : Type 0 where
  pub port : after.port ≡ agent.port
  pub stalls : after.stalls ≡ agent.stalls
  pub latency : after.latency ≡ agent.latency
  pub coded : after.coded ≡ agent.coded
  pub cycle : after.cycle ≡ agent.cycle
  pub cycles : after.cycles ≡ agent.cycles
  pub stood : after.stood ≡ agent.stood
  pub burst : after.burst ≡ agent.burst
  pub memory : after.memory ≡ agent.memory
  pub waiting : IsTrue agent.port.readdatavalid
      → after.waiting
      ≡ waiting_after (agent_side agent.port) agent.latency agent.cycle (contents_of agent.memory)
      (codes_of agent) levels asks agent.waiting
  pub delayed : IsFalse agent.port.readdatavalid → after.delayed ≡ drop 1 (agent.delayed ++ answer_asked agent levels asks ∷ [])

-- what a cycle with these levels leaves
pub record IsBehind (agent : AgentStandInValue) (levels : Levels) (after : AgentStandInValue) : Type 0 where
  pub port : after.port ≡ agent.port
  pub stalls : after.stalls ≡ agent.stalls
  pub latency : after.latency ≡ agent.latency
  pub coded : after.coded ≡ agent.coded
  pub cycle : after.cycle ≡ agent.cycle + 1
  pub cycles : after.cycles ≡ agent.cycles
  pub stood : after.stood
      ≡ (if carries levels && not (nat_eq agent.stood (wait_of (agent_side agent.port) levels)) then agent.stood + 1 else 0)
  pub burst : after.burst ≡ burst_after (agent_side agent.port).shape levels (accepts agent levels) agent.burst
  pub contents : contents_of after.memory
      ≡ (if accepts agent levels && is_raised levels.write
      then memory_after (contents_of agent.memory)
      (flat_map (own_operations (agent_side agent.port).shape (agent_side agent.port).span)
      (write_transfer (agent_side agent.port).shape levels agent.burst).beats)
      else contents_of agent.memory)
  pub waiting : IsTrue agent.port.readdatavalid
      → after.waiting
      ≡ waiting_after (agent_side agent.port) agent.latency agent.cycle (contents_of agent.memory) (codes_of agent) levels
      (reads agent levels) agent.waiting
  pub delayed : IsFalse agent.port.readdatavalid
      → after.delayed ≡ drop 1 (agent.delayed ++ answer_asked agent levels (reads agent levels) ∷ [])

-- ---- a run

-- how it stands before the first cycle
pub record IsFirst (port : AgentPort) (script : List AgentStatement) (cycles : ℕ) (agent : AgentStandInValue) : Type 0 where
  pub port_is : agent.port ≡ port
  pub stalls : agent.stalls ≡ stall_pattern script
  pub latency : agent.latency ≡ latency_of script
  pub codes : codes_of agent ≡ code_at (agent_side port) script
  pub cycle : agent.cycle ≡ 0
  pub cycles_are : agent.cycles ≡ cycles
  pub stood : agent.stood ≡ 0
  pub burst : agent.burst ≡ record { left = 0; done = 0; first = 0 }
  pub contents : contents_of agent.memory ≡ filled script
  pub waiting : agent.waiting ≡ []
  pub delayed : IsFalse port.readdatavalid → agent.delayed ≡ replicate port.read_latency no_answer

-- it stands for a run: as many cycles of it are over, and they have left what the definition says
pub record StandsFor (script : List AgentStatement) (agent : AgentStandInValue) (view : AgentView) : Type 0 where
  pub stalls : agent.stalls ≡ stall_pattern script
  pub latency : agent.latency ≡ latency_of script
  pub codes : codes_of agent ≡ code_at (agent_side agent.port) script
  pub stood : agent.stood ≡ stood_before (agent_side agent.port) view agent.cycle
  pub burst : agent.burst
      ≡ burst_before (agent_side agent.port).shape view.signals (agent_accepts (agent_side agent.port) view) agent.cycle
  pub contents : contents_of agent.memory ≡ contents_before (agent_side agent.port) script view agent.cycle
  pub waiting : IsTrue agent.port.readdatavalid → agent.waiting ≡ waiting_before (agent_side agent.port) script view agent.cycle
  pub delay : IsFalse agent.port.readdatavalid → length agent.delayed ≡ agent.port.read_latency
  pub delayed : IsFalse agent.port.readdatavalid → (k : ℕ) → k < agent.port.read_latency
      → slice_index_or agent.delayed k no_answer ≡ answer_behind (agent_side agent.port) script view (agent.cycle + k)

-- what it shows is what the definition says of the cycle. At read latency 0 the word is the one that the cycle's own levels ask
-- for, and so is its code
pub record ShowsAsDefined (script : List AgentStatement) (agent : AgentStandInValue) (view : AgentView) : Type 0 where
  pub waitrequest : stalls_in agent.stalls agent.cycle ≡ stalls_in (stall_pattern script) agent.cycle
  pub readdatavalid : gives agent ≡ gives_in agent.port script view agent.cycle
  pub late : IsTrue agent.port.readdatavalid → word_shown agent ≡ word_in agent.port script view agent.cycle
  pub fixed : IsFalse agent.port.readdatavalid → 1 ≤ agent.port.read_latency
      → word_shown agent ≡ word_in agent.port script view agent.cycle
  pub at_once : IsFalse agent.port.readdatavalid → agent.port.read_latency ≡ 0
      → view.waitrequest agent.cycle ≡ one_if (stalls_in agent.stalls agent.cycle) →
      word_now agent (levels_at view.signals agent.cycle) ≡ word_in agent.port script view agent.cycle
  pub late_code : IsTrue agent.port.readdatavalid → code_shown agent ≡ code_in agent.port script view agent.cycle
  pub fixed_code : IsFalse agent.port.readdatavalid → 1 ≤ agent.port.read_latency
      → code_shown agent ≡ code_in agent.port script view agent.cycle
  pub code_at_once : IsFalse agent.port.readdatavalid → agent.port.read_latency ≡ 0
      → view.waitrequest agent.cycle ≡ one_if (stalls_in agent.stalls agent.cycle) →
      code_now agent (levels_at view.signals agent.cycle) ≡ code_in agent.port script view agent.cycle

-- it takes what the agent of the run takes, and the words that it takes lie where it says
pub record TakesAsDefined (agent : AgentStandInValue) (view : AgentView) : Type 0 where
  pub accepted : accepts agent (levels_at view.signals agent.cycle) ≡ agent_accepts (agent_side agent.port) view agent.cycle
  pub address : (beat : Beat)
      → slice_get
      (transfer_at (agent_side agent.port).shape view.signals (agent_accepts (agent_side agent.port) view) agent.cycle).beats 0
      ≡ Some beat →
      beat.address ≡ address_shown agent (levels_at view.signals agent.cycle)

-- ---- what is kept

abbrev pub burst_of : WriteBurst → Burst
burst_of burst = record { left = burst.left; done = burst.done; first = burst.first }

pub record IsBurstKept (port : AgentPort) (burst : WriteBurst) : Type 0 where
  pub counted : burst.left + burst.done ≤ 65535
  pub whole : burst.first % port.word_bytes ≡ 0
  pub low : burst.first < 2 ^ 36

pub record IsKept (port : AgentPort) (cycle cycles stood : ℕ) (burst : WriteBurst) (memory : MemoryValue)
    (waiting : WaitingValue) : Type 0 where
  pub bounded : IsBoundedAgent port
  pub bytes : memory.word_bytes ≡ port.word_bytes
  pub within : cycle ≤ cycles
  pub few : cycles ≤ 65536
  pub room : cycles ≤ cycle + memory.room
  pub stood_few : stood ≤ cycle
  pub burst_kept : IsBurstKept port burst
  pub longest : IsTrue port.readdatavalid → waiting.longest ≡ longest_burst (agent_side port).burst_bits
  pub pending : IsTrue port.readdatavalid → waiting.pending ≡ (agent_side port).pending
