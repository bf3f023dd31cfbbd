-- When an agent gives the words that it was asked for, and with which codes.
use Rattle.std.specs.Prelude.{ℕ, zero, suc, ◌+◌, ◌-◌, ◌==◌, Bool, false, not, ◌&&◌, nat_lt, nat_le, List, [], ◌∷◌, ◌++◌, length, map, filter, drop, if◌then◌else◌}
use Rattle.histories.specs.History.{is_raised, numbers}
use Rattle.memory_runs.specs.Views.{Levels, levels_at, AgentSide, AgentView}
use Rattle.memory_runs.specs.Commands.{byte_address, longest_burst, agent_accepts, read_beat}
use Rattle.scenario_tables.specs.declared.statements.AgentStatement.{AgentStatement}
use Rattle.scenario_tables.specs.Statements.{latencies_of}
use Rattle.stand_ins.specs.declared.delayed.Answer.{Answer}
use Rattle.stand_ins.specs.declared.waiting.Waiting.{Waiting}
use Rattle.stand_ins.specs.Contents.{contents_before, word_at}
use Rattle.stand_ins.specs.Codes.{code_at}

-- a read is taken in a cycle
abbrev pub takes_read : AgentSide → AgentView → ℕ → Bool
takes_read side view cycle = agent_accepts side view cycle && not (is_raised (view.write cycle))

abbrev pub answer : ℕ → ℕ → Answer
answer word code = record { word = word; code = code }

-- ---- with readdatavalid

-- how many cycles behind its taking a word comes at the earliest: 1 where nothing is said
abbrev pub first_or_one : List ℕ → ℕ
first_or_one [] = 1
first_or_one (cycles ∷ later) = cycles

abbrev pub latency_of : List AgentStatement → ℕ
latency_of script = first_or_one (latencies_of script)

-- a word is given in a cycle where these wait: the first of them, once it is due
abbrev pub is_due : ℕ → List Waiting → Bool
is_due cycle [] = false
is_due cycle (first ∷ later) = nat_le first.due cycle

-- the word that is given; 0 where none is
abbrev pub word_due : ℕ → List Waiting → ℕ
word_due cycle [] = 0
word_due cycle (first ∷ later) = if nat_le first.due cycle then first.word else 0

-- and its code
abbrev pub code_due : ℕ → List Waiting → ℕ
code_due cycle [] = 0
code_due cycle (first ∷ later) = if nat_le first.due cycle then first.code else 0

-- those that wait on behind the cycle
abbrev pub still_waiting : ℕ → List Waiting → List Waiting
still_waiting cycle waiting = if is_due cycle waiting then drop 1 waiting else waiting

-- the commands that aren't fully answered
abbrev pub commands_among : List Waiting → ℕ
commands_among waiting = length (filter (λ (one : Waiting). one.last) waiting)

-- the agent bears a read of so many words behind those that wait
abbrev pub is_borne : AgentSide → List Waiting → ℕ → Bool
is_borne side waiting count = nat_lt (commands_among waiting) side.pending && nat_le count (longest_burst side.burst_bits)

-- a word that waits, as it is given
abbrev pub answer_of : Waiting → Answer
answer_of one = answer one.word one.code

-- a word of a read command, as the bytes are when it is taken. Each byte address has its code
abbrev pub asked_word : AgentSide → (ℕ → ℕ) → (ℕ → ℕ) → ℕ → Levels → ℕ → Waiting
asked_word side contents codes due levels number = record {
  word = word_at side contents (read_beat side.shape levels number).address;
  code = codes (read_beat side.shape levels number).address;
  due = due;
  last = number + 1 == levels.count;
}

abbrev pub asked_words : AgentSide → (ℕ → ℕ) → (ℕ → ℕ) → ℕ → Levels → List Waiting
asked_words side contents codes due levels = map (asked_word side contents codes due levels) (numbers 0 levels.count)

-- those that wait behind a cycle in which a read is taken or none is. A read that the agent doesn't bear gets no word
abbrev pub waiting_after : AgentSide → ℕ → ℕ → (ℕ → ℕ) → (ℕ → ℕ) → Levels → Bool → List Waiting → List Waiting
waiting_after side latency cycle contents codes levels reads waiting =
    if reads && is_borne side (still_waiting cycle waiting) levels.count
    then still_waiting cycle waiting ++ asked_words side contents codes (cycle + latency) levels
    else still_waiting cycle waiting

-- those that wait when a cycle begins
abbrev pub waiting_before : AgentSide → List AgentStatement → AgentView → ℕ → List Waiting
waiting_before side script view zero = []
waiting_before side script view (suc cycle) =
    waiting_after side (latency_of script) cycle (contents_before side script view cycle) (code_at side script)
    (levels_at view.signals cycle) (takes_read side view cycle)
    (waiting_before side script view cycle)

-- ---- without it

-- the word that is asked for in a cycle; 0 where none is
abbrev pub word_asked : AgentSide → (ℕ → ℕ) → Levels → Bool → ℕ
word_asked side contents levels reads = if reads then word_at side contents (byte_address side.shape levels.address) else 0

abbrev pub word_asked_in : AgentSide → List AgentStatement → AgentView → ℕ → ℕ
word_asked_in side script view cycle =
    word_asked side (contents_before side script view cycle) (levels_at view.signals cycle) (takes_read side view cycle)

-- the word of the read that was taken as many cycles before as the read latency says; 0 where none was
abbrev pub word_behind : AgentSide → List AgentStatement → AgentView → ℕ → ℕ
word_behind side script view cycle =
    if nat_le side.read_latency cycle then word_asked_in side script view (cycle - side.read_latency) else 0

-- the code of the word that is asked for in a cycle; 0 where none is
abbrev pub code_asked : AgentSide → (ℕ → ℕ) → Levels → Bool → ℕ
code_asked side codes levels reads = if reads then codes (byte_address side.shape levels.address) else 0

abbrev pub code_asked_in : AgentSide → List AgentStatement → AgentView → ℕ → ℕ
code_asked_in side script view cycle =
    code_asked side (code_at side script) (levels_at view.signals cycle) (takes_read side view cycle)

abbrev pub code_behind : AgentSide → List AgentStatement → AgentView → ℕ → ℕ
code_behind side script view cycle =
    if nat_le side.read_latency cycle then code_asked_in side script view (cycle - side.read_latency) else 0

-- no word with no code
abbrev pub no_answer : Answer
no_answer = answer 0 0

-- the word and its code
abbrev pub answer_behind : AgentSide → List AgentStatement → AgentView → ℕ → Answer
answer_behind side script view cycle = answer (word_behind side script view cycle) (code_behind side script view cycle)
