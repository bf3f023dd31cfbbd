-- The part next to an agent as a machine: what it shows to the agent, how long it waits above, and the answers with their tags.
-- Avalon memory-mapped: read and write transfers with waitrequest or with fixed wait states, pipelined reads with variable
-- latency (readdatavalid) or with fixed latency, bursts, read responses.
use Rattle.std.specs.Prelude.{◌≡◌, ℕ, suc, ◌+◌, ◌-◌, ◌*◌, ◌^◌, ◌%◌, ◌<◌, ◌≤◌, max, Bool, not, ◌&&◌, ◌||◌, List, length, if◌then◌else◌, nat_eq, nat_lt, IsTrue, IsFalse, Option, Some, None, is_some, MatchOption}
use Rattle.histories.specs.History.{is_raised}
use Rattle.memory_runs.specs.Views.{AgentSide, AgentView, Responses}
use Rattle.memory_runs.specs.Views.Responses.{AreZero, AreCodes}
use Rattle.memory_runs.specs.Commands.{byte_address, wait_time, stood_after}
use Rattle.memory_machines.specs.Lines.{TaggedPort}
use Rattle.memory_parts.specs.Queue.{Entry, QueuesReads, head_tag, takes_read}

-- the registers, as functions of the cycle: with readdatavalid the unanswered reads, without it the row of tags,
-- and without waitrequest for how many cycles the beat has stood
pub record AgentState : Type 0 where
  pub queue : ℕ → List Entry
  pub row : ℕ → ℕ → Option ℕ  -- of a cycle and a place
  pub stood : ℕ → ℕ

-- as many reads are unanswered as the agent bears. It is told by registers alone
abbrev pub is_full : AgentSide → AgentState → ℕ → Bool
is_full side state c = side.has_readdatavalid && not (nat_lt (length (state.queue c)) side.pending)

-- the agent doesn't accept what it is shown: by waitrequest, or until its wait states are over
abbrev pub is_busy : AgentSide → AgentView → AgentState → ℕ → Bool
is_busy side view state c =
    if side.has_waitrequest then is_raised (view.waitrequest c) else not (nat_eq (state.stood c) (wait_time side view c))

abbrev pub code_by : Responses → ℕ → ℕ
code_by AreZero code = 0
code_by AreCodes code = code

-- the commands and the wait above. Each signal to the agent is told by registers and by the command above
pub record ShowsToAgent (side : AgentSide) (view : AgentView) (up : TaggedPort) (state : AgentState) (end : ℕ) : Type 0 where
  pub words : up.shape.word_bytes ≡ side.word_bytes
  pub bursts : up.shape.burst_bits ≡ side.burst_bits
  pub plain : IsFalse side.has_burst → side.burst_bits ≡ 1
  -- a read isn't shown while the agent bears no more; a write always is
  pub read : (c : ℕ) → c < end → IsTrue side.has_read → view.read c ≡ (if is_full side state c then 0 else up.commands.read c)
  pub no_read : (c : ℕ) → c < end → IsFalse side.has_read → view.read c ≡ 0
  pub write : (c : ℕ) → c < end → IsTrue side.has_write → view.write c ≡ up.commands.write c
  pub no_write : (c : ℕ) → c < end → IsFalse side.has_write → view.write c ≡ 0
  -- the offset in the agent's span, in the agent's unit
  pub address : (c : ℕ) → c < end → view.address c * side.unit_bytes ≡ byte_address up.shape (up.commands.address c) % side.span
  pub word : (c : ℕ) → c < end → IsTrue side.has_write → view.word c ≡ up.commands.word c
  pub no_word : (c : ℕ) → c < end → IsFalse side.has_write → view.word c ≡ 0
  pub enables : (c : ℕ) → c < end → IsTrue side.has_enables → view.enables c ≡ up.commands.enables c
  pub all_lanes : (c : ℕ) → c < end → IsFalse side.has_enables → view.enables c + 1 ≡ 2 ^ side.word_bytes
  pub count : (c : ℕ) → c < end → view.count c ≡ (if side.has_burst then up.commands.count c else 1)
  pub grant : (c : ℕ) → c < end → view.grant c ≡ up.commands.tag c
  -- a beat is taken above exactly when the agent accepts it
  pub wait : (c : ℕ) → c < end
      → is_raised (up.commands.waitrequest c)
      ≡ (is_full side state c && is_raised (up.commands.read c)) || is_busy side view state c
  -- without waitrequest: a count of the cycles in which the beat has stood
  pub stood_first : state.stood 0 ≡ 0
  pub stood_next : (c : ℕ) → suc c < end → IsFalse side.has_waitrequest
      → state.stood (suc c) ≡ stood_after side view c (state.stood c)
  -- with readdatavalid: the queue of unanswered reads
  pub queues : IsTrue side.has_readdatavalid → QueuesReads up.port view.readdatavalid state.queue end

-- with readdatavalid: each word goes up in its cycle, with the tag of the oldest unanswered read
pub record GivesQueued (responses : Responses) (view : AgentView) (up : TaggedPort) (state : AgentState) (end : ℕ) : Type 0 where
  pub valid : (c : ℕ) → c < end → is_raised (up.answers.valid c) ≡ is_raised (view.readdatavalid c)
  pub word : (c : ℕ) → c < end → up.answers.word c ≡ view.readdata c
  pub code : (c : ℕ) → c < end → up.answers.code c ≡ code_by responses (view.response c)
  pub tag : (c : ℕ) → c < end → 0 < length (state.queue c) → up.answer_tag c ≡ head_tag (state.queue c)

-- how many cycles after its acceptance a read's word goes up, at fixed latency
abbrev pub row_places : AgentSide → ℕ
row_places side = max 1 side.read_latency

-- without readdatavalid: a row of registers hands on the tag of each read, and the word goes up at its end.
-- At latency 0 the word waits for one cycle in a register, since no word may come in the cycle of its read
pub record GivesFixed (responses : Responses) (side : AgentSide) (view : AgentView) (up : TaggedPort) (state : AgentState)
    (end : ℕ) : Type 0 where
  pub empty : (i : ℕ) → state.row 0 i ≡ None
  pub first : (c : ℕ) → suc c < end → state.row (suc c) 0 ≡ (if takes_read up.port c then Some (up.commands.tag c) else None)
  pub next : (c i : ℕ) → suc c < end → state.row (suc c) (suc i) ≡ state.row c i
  pub valid : (c : ℕ) → c < end → is_raised (up.answers.valid c) ≡ is_some (state.row c (row_places side - 1))
  pub tag : (c : ℕ) → c < end → MatchOption (state.row c (row_places side - 1)) (Unit {0}) (λ tag. up.answer_tag c ≡ tag)
  pub word : (c : ℕ) → c < end → 1 ≤ side.read_latency → up.answers.word c ≡ view.readdata c
  pub code : (c : ℕ) → c < end → 1 ≤ side.read_latency → up.answers.code c ≡ code_by responses (view.response c)
  pub word_late : (c : ℕ) → suc c < end → side.read_latency ≡ 0 → up.answers.word (suc c) ≡ view.readdata c
  pub code_late : (c : ℕ) → suc c < end → side.read_latency ≡ 0 → up.answers.code (suc c) ≡ code_by responses (view.response c)

pub record IsAgentMachine (responses : Responses) (side : AgentSide) (view : AgentView) (up : TaggedPort) (state : AgentState)
    (end : ℕ) : Type 0 where
  pub commands : ShowsToAgent side view up state end
  pub queued : IsTrue side.has_readdatavalid → GivesQueued responses view up state end
  pub fixed : IsFalse side.has_readdatavalid → GivesFixed responses side view up state end

-- what the plan says of an agent that its machine rests on
pub record IsAgentPlan (side : AgentSide) : Type 0 where
  pub word : 0 < side.word_bytes
  pub unit : 0 < side.unit_bytes
  pub pending : 1 ≤ side.pending
  pub span : ℕ  -- in words
  pub spans : side.span ≡ span * side.word_bytes
  pub some_span : 0 < side.span
  -- bursts of reads need readdatavalid
  pub one_word : IsFalse side.has_readdatavalid → IsTrue side.has_read → side.burst_bits ≡ 1
