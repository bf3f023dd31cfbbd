-- The part next to a host as a machine: byte addresses, `more`, the bound on unanswered reads, and hosts without readdatavalid.
-- Avalon memory-mapped: reads with waitrequest alone, pipelined reads with readdatavalid, bursts, read responses.
use Rattle.std.specs.Prelude.{◌≡◌, ℕ, suc, ◌-◌, ◌<◌, Bool, false, not, ◌&&◌, ◌||◌, List, length, if◌then◌else◌, nat_eq, nat_lt, IsTrue, IsFalse}
use Rattle.histories.specs.History.{is_raised, one_if}
use Rattle.memory_runs.specs.Views.{HostSide, HostView, Responses}
use Rattle.memory_runs.specs.Views.Responses.{AreZero, AreCodes}
use Rattle.memory_runs.specs.Commands.{byte_address}
use Rattle.memory_machines.specs.Paths.{AnswerView}
use Rattle.memory_machines.specs.Link.{Port, takes}
use Rattle.memory_parts.specs.Queue.{Entry, QueuesReads, takes_read}

-- the registers, as functions of the cycle: with readdatavalid the unanswered reads (without bursts their number is enough),
-- the beats that a write burst lacks, and without readdatavalid that the read was taken below and isn't answered
pub record HostState : Type 0 where
  pub queue : ℕ → List Entry
  pub left : ℕ → ℕ
  pub asked : ℕ → Bool

-- a read isn't shown: 16 are unanswered, or the one that stands was taken below already
abbrev pub is_shut : HostSide → HostState → ℕ → Bool
is_shut side state c = if side.has_readdatavalid then not (nat_lt (length (state.queue c)) 16) else state.asked c

-- the beat that is shown is the last of its command
abbrev pub ends_now : HostView → HostState → ℕ → Bool
ends_now view state c =
    not (is_raised (view.write c)) || (if nat_eq (state.left c) 0 then nat_eq (view.count c) 1 else nat_eq (state.left c) 1)

-- `response` is 0 in a cycle without a word
abbrev pub response_by : Responses → HostSide → AnswerView → ℕ → ℕ
response_by AreZero side answers c = 0
response_by AreCodes side answers c = if side.has_response && is_raised (answers.valid c) then answers.code c else 0

abbrev pub left_past : HostView → HostState → ℕ → ℕ
left_past view state c = if nat_eq (state.left c) 0 then view.count c - 1 else state.left c - 1

pub record IsHostMachine (responses : Responses) (side : HostSide) (view : HostView) (down : Port) (state : HostState)
    (end : ℕ) : Type 0 where
  pub words : down.shape.word_bytes ≡ side.word_bytes
  pub units : down.shape.unit_bytes ≡ 1
  pub bursts : down.shape.burst_bits ≡ side.burst_bits
  -- the commands, in bytes; `more` is high on all beats of a command but its last
  pub read : (c : ℕ) → c < end → down.commands.read c ≡ (if is_shut side state c then 0 else view.read c)
  pub write : (c : ℕ) → c < end → down.commands.write c ≡ view.write c
  pub address : (c : ℕ) → c < end → down.commands.address c ≡ byte_address side.shape (view.address c)
  pub word : (c : ℕ) → c < end → down.commands.word c ≡ view.word c
  pub enables : (c : ℕ) → c < end → down.commands.enables c ≡ view.enables c
  pub count : (c : ℕ) → c < end → down.commands.count c ≡ view.count c
  pub more : (c : ℕ) → c < end → down.commands.more c ≡ one_if (not (ends_now view state c))
  pub tag : (c : ℕ) → c < end → down.commands.tag c ≡ 0
  -- without readdatavalid a read waits until its word comes
  pub wait : (c : ℕ) → c < end
      → is_raised (view.waitrequest c)
      ≡ (if is_raised (view.read c) && not side.has_readdatavalid then not (state.asked c && is_raised (down.answers.valid c))
      else (is_shut side state c && is_raised (view.read c)) || is_raised (down.commands.waitrequest c))
  -- the registers
  pub starts : state.left 0 ≡ 0
  pub lasts : (c : ℕ) → suc c < end
      → state.left (suc c) ≡ (if takes down c && is_raised (view.write c) then left_past view state c else state.left c)
  pub quiet : state.asked 0 ≡ false
  pub asks : (c : ℕ) → suc c < end → IsFalse side.has_readdatavalid
      → state.asked (suc c) ≡ (state.asked c || takes_read down c) && not (is_raised (down.answers.valid c))
  pub queues : IsTrue side.has_readdatavalid → QueuesReads down down.answers.valid state.queue end
  -- the answers
  pub valid : (c : ℕ) → c < end → IsTrue side.has_readdatavalid
      → is_raised (view.readdatavalid c) ≡ is_raised (down.answers.valid c)
  pub answer : (c : ℕ) → c < end → IsTrue (is_raised (down.answers.valid c)) → view.readdata c ≡ down.answers.word c
  pub response : (c : ℕ) → c < end → view.response c ≡ response_by responses side down.answers c

-- a host without readdatavalid reads one word at a time: bursts of reads need readdatavalid
abbrev pub ReadsWords : HostSide → HostView → ℕ → Type 0
ReadsWords side view end =
    IsFalse side.has_readdatavalid → (c : ℕ) → c < end → IsTrue (is_raised (view.read c)) → view.count c ≡ 1
