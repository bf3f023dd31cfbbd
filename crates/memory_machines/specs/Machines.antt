-- Machines of links over views: what a side takes, as a list of beats; a stage with a queue; machines that send each beat in
-- parts.
use Rattle.std.specs.Prelude.{◌≡◌, ℕ, zero, suc, ◌≤◌, ◌<◌, ◌+◌, ◌-◌, ◌*◌, ◌/◌, ◌%◌, ◌^◌, Bool, true, false, not, ◌&&◌, ◌||◌, List, [], ◌∷◌, ◌++◌, length, drop, if◌then◌else◌, nat_lt, nat_eq, filter, map, flat_map, IsTrue, IsFalse}
use Rattle.histories.specs.History.{one_if, only_if, is_raised, all_accepted, numbers}
use Rattle.memory_runs.specs.Views.{Shape, Levels, levels_at}
use Rattle.memory_machines.specs.Paths.{CommandView, AnswerView}
use Rattle.memory_runs.specs.Operations.{Beat, Operation, operations_of, pieces}
use Rattle.memory_runs.specs.Views.Kind.{Reads, Writes}
use Rattle.memory_runs.specs.Commands.{Burst, burst_after, burst_before, transfer_of, shows, is_held, is_of_reads, byte_address}
use Rattle.memory_machines.specs.Link.{Target, Port, Marked, AreLegalAt, CarriesCommands, takes, items_from, items_of, acted_after, operations_among, operations_in, beats_with, words_at, words_owed}

-- a beat as a cycle shows it
pub record Raw : Type 0 where
  pub levels : Levels
  pub more : ℕ
  pub tag : ℕ

abbrev pub raw_at : Port → ℕ → Raw
raw_at port c = record { levels = levels_at port.commands.signals c; more = port.commands.more c; tag = port.commands.tag c }

-- the beats that a side has taken before a cycle
abbrev pub raws : Port → ℕ → List Raw
raws port c = all_accepted (takes port) (raw_at port) c

abbrev pub idle : Burst
idle = record { left = 0; done = 0; first = 0 }

abbrev pub mark : Shape → Burst → Raw → Marked
mark shape burst raw = record { tag = raw.tag; more = is_raised raw.more; transfer = transfer_of shape raw.levels burst }

abbrev pub burst_past : Shape → Burst → Raw → Burst
burst_past shape burst raw = burst_after shape raw.levels true burst

-- the transfers of a list of beats
abbrev pub marked : Shape → Burst → List Raw → List Marked
marked shape burst [] = []
marked shape burst (raw ∷ later) = mark shape burst raw ∷ marked shape (burst_past shape burst raw) later

abbrev pub burst_of : Shape → Burst → List Raw → Burst
burst_of shape burst [] = burst
burst_of shape burst (raw ∷ later) = burst_of shape (burst_past shape burst raw) later

-- a beat that a legal host may show where a burst stands so
pub record IsFitBeat (shape : Shape) (burst : Burst) (raw : Raw) : Type 0 where
  pub one_kind : IsTrue (not (is_raised raw.levels.read && is_raised raw.levels.write))
  pub least : IsFalse (nat_lt 0 burst.left) → 1 ≤ raw.levels.count
  pub most : IsFalse (nat_lt 0 burst.left) → raw.levels.count ≤ 2 ^ (shape.burst_bits - 1)
  pub finished : IsTrue (nat_lt 0 burst.left) → IsFalse (is_raised raw.levels.read)
  pub joined : IsTrue ((transfer_of shape raw.levels burst).ends || is_raised raw.more)

-- what a side shows in the cycles before `end` fits where its bursts stand, whatever is accepted
abbrev pub ShowsFitBeats : Port → ℕ → Type 0
ShowsFitBeats port end =
    (c : ℕ) → c < end → IsTrue (shows port.commands.signals c)
    → IsFitBeat port.shape (burst_before port.shape port.commands.signals (takes port) c) (raw_at port c)

abbrev pub port_of : Shape → CommandView → AnswerView → Port
port_of shape commands answers = record { shape = shape; commands = commands; answers = answers }

-- a side shows the head of a queue
abbrev pub ShowsHead : Port → ℕ → List Raw → Type 0
ShowsHead port c [] = shows port.commands.signals c ≡ false
ShowsHead port c (raw ∷ later) = (shows port.commands.signals c ≡ true) × (raw_at port c ≡ raw)

-- a stage: a queue for the commands and a register for the answers
pub record IsStageRun (depth : ℕ) (up down : Port) (queue : ℕ → List Raw) : Type 0 where
  pub begins : queue 0 ≡ []
  pub heads : (c : ℕ) → ShowsHead down c (queue c)
  pub room : (c : ℕ) → takes up c ≡ true → length (queue c) < depth
  pub next : (c : ℕ) → queue (suc c) ≡ drop (if takes down c then 1 else 0) (queue c) ++ only_if (takes up c) (raw_at up c)
  pub quiet : is_raised (up.answers.valid 0) ≡ false
  pub valid : (c : ℕ) → up.answers.valid (suc c) ≡ down.answers.valid c
  pub word : (c : ℕ) → up.answers.word (suc c) ≡ down.answers.word c
  pub code : (c : ℕ) → up.answers.code (suc c) ≡ down.answers.code c

-- the part of a wide beat that lies in word number `piece` of `bytes` bytes
abbrev pub piece_of : ℕ → Beat → ℕ → Beat
piece_of bytes beat piece = record {
  kind = beat.kind;
  address = beat.address + piece * bytes;
  word = (beat.word / 256 ^ (piece * bytes)) % 256 ^ bytes;
  enables = (beat.enables / 2 ^ (piece * bytes)) % 2 ^ bytes;
}

-- what the parts of each beat of a list are, in order
abbrev pub expand : Shape → (Burst → Raw → List Raw) → Burst → List Raw → List Raw
expand shape parts burst [] = []
expand shape parts burst (raw ∷ later) = parts burst raw ++ expand shape parts (burst_past shape burst raw) later

-- all beats of a list are fit
abbrev pub AreFit : Shape → Burst → List Raw → Type 0
AreFit shape burst [] = Unit {0}
AreFit shape burst (raw ∷ later) = IsFitBeat shape burst raw × AreFit shape (burst_past shape burst raw) later

-- whether the joined command has had an operation and isn't closed, after these transfers
abbrev pub acted_past : Target → Shape → Bool → List Marked → Bool
acted_past target shape acted [] = acted
acted_past target shape acted (m ∷ later) = acted_past target shape (acted_after target shape acted m) later

-- what the parts of one beat keep, wherever no burst is under way below
pub record Expands (target : Target) (wide narrow : Shape) (parts : Burst → Raw → List Raw) (burst : Burst) (raw : Raw)
    (below : Burst) : Type 0 where
  pub fit : AreFit narrow below (parts burst raw)
  pub free : (burst_of narrow below (parts burst raw)).left ≡ 0
  pub items : (acted : Bool)
      → items_from target narrow acted (marked narrow below (parts burst raw)) ≡ items_of target wide acted (mark wide burst raw)
  pub acted : (acted : Bool)
      → acted_past target narrow acted (marked narrow below (parts burst raw))
      ≡ acted_after target wide acted (mark wide burst raw)
  pub operations : operations_among target narrow (marked narrow below (parts burst raw))
      ≡ operations_in target wide (mark wide burst raw)
  pub beats : (tag : ℕ)
      → length (beats_with tag (marked narrow below (parts burst raw)))
      ≤ pieces wide narrow * length (beats_with tag (mark wide burst raw ∷ []))

-- the parts of the beat that a side shows
abbrev pub parts_at : (Burst → Raw → List Raw) → Port → ℕ → List Raw
parts_at parts port c = parts (burst_before port.shape port.commands.signals (takes port) c) (raw_at port c)

-- a machine that sends the parts of the beat that stands above, and accepts it with the last of them, in the cycles before `end`.
-- `sent` are those that have gone, `rest` those behind the one that is shown
pub record IsExpanderRun (parts : Burst → Raw → List Raw) (up down : Port) (sent rest : ℕ → List Raw) (end : ℕ) : Type 0 where
  pub begins : sent 0 ≡ []
  pub next : (c : ℕ) → sent (suc c) ≡ (if takes up c then [] else sent c ++ only_if (takes down c) (raw_at down c))
  pub stands : (c : ℕ) → c < end → shows down.commands.signals c ≡ true → shows up.commands.signals c ≡ true
  pub part : (c : ℕ) → c < end → shows down.commands.signals c ≡ true → parts_at parts up c ≡ sent c ++ raw_at down c ∷ rest c
  pub accepts : (c : ℕ) → c < end → takes up c ≡ true → sent c ++ only_if (takes down c) (raw_at down c) ≡ parts_at parts up c
  pub waits : (c : ℕ) → c < end → is_held down.commands.signals (takes down) c ≡ true → takes up c ≡ false
  pub keeps : (c : ℕ) → suc c < end → is_held down.commands.signals (takes down) c ≡ true
      → shows down.commands.signals (suc c) ≡ true

-- one beat as a command by itself
abbrev pub single : ℕ → ℕ → Beat → Raw
single tag more beat = record {
  levels = record {
    read = if is_of_reads beat.kind then 1 else 0;
    write = if is_of_reads beat.kind then 0 else 1;
    address = beat.address;
    word = beat.word;
    enables = beat.enables;
    count = 1;
  };
  more = more;
  tag = tag;
}

-- commands of one beat each, joined by `more`; the last one's `more` is `last`
abbrev pub joined : ℕ → ℕ → List Beat → List Raw
joined tag last [] = []
joined tag last (beat ∷ []) = single tag last beat ∷ []
joined tag last (beat ∷ next ∷ later) = single tag 1 beat ∷ joined tag last (next ∷ later)

abbrev pub is_touched : Beat → Bool
is_touched beat = not (nat_eq beat.enables 0)

-- the pieces of a wide beat that have an enabled lane
abbrev pub touched : Shape → Shape → Beat → List Beat
touched wide narrow beat = filter is_touched (map (piece_of narrow.word_bytes beat) (numbers 0 (pieces wide narrow)))

-- the first piece, where none has an enabled lane and the command needs one all the same
abbrev pub or_first : Shape → Bool → Beat → List Beat → List Beat
or_first narrow needed beat [] = if needed then piece_of narrow.word_bytes beat 0 ∷ [] else []
or_first narrow needed beat (piece ∷ later) = piece ∷ later

-- the beat of a command of one beat
abbrev pub beat_of : Shape → Levels → Beat
beat_of shape levels = record {
  kind = if is_raised levels.write then Writes else Reads;
  address = byte_address shape levels.address;
  word = if is_raised levels.write then levels.word else 0;
  enables = levels.enables;
}

-- what a splitter of commands of one beat sends for a beat: a read, and a beat that closes the joined commands, come to one piece
-- at least
abbrev pub split_parts : Shape → Shape → Burst → Raw → List Raw
split_parts wide narrow burst raw =
    let beat = beat_of wide raw.levels in
    joined raw.tag raw.more
    (or_first narrow (not (is_raised raw.more) || not (is_raised raw.levels.write)) beat (touched wide narrow beat))

abbrev pub is_empty : {A : Type 0} → List A → Bool
is_empty {A} [] = true
is_empty {A} (x ∷ xs) = false

-- 1 while a word is owed below, as the cycle begins
abbrev pub owing_rank : Port → ℕ → ℕ
owing_rank down c = one_if (nat_lt (length (words_at down c)) (words_owed down c))

-- a narrow beat as a beat of a wide word: its lanes stand at its offset in that word
abbrev pub select_of : ℕ → Beat → Beat
select_of bytes beat = record {
  kind = beat.kind;
  address = beat.address - beat.address % bytes;
  word = beat.word * 256 ^ (beat.address % bytes);
  enables = beat.enables * 2 ^ (beat.address % bytes);
}

-- what a lane selector of commands of one beat sends for a beat
abbrev pub select_parts : Shape → Shape → Burst → Raw → List Raw
select_parts narrow wide burst raw = single raw.tag raw.more (select_of wide.word_bytes (beat_of narrow raw.levels)) ∷ []

-- what has gone of the beat that stands above, told by the two sides
abbrev pub parts_sent : Port → Port → ℕ → List Raw
parts_sent up down zero = []
parts_sent up down (suc c) = if takes up c then [] else parts_sent up down c ++ only_if (takes down c) (raw_at down c)

-- ---- what the laws of these machines ask

-- the paths above and below a machine
pub record Sides : Type 0 where
  pub commands_above : CommandView
  pub answers_above : AnswerView
  pub commands_below : CommandView
  pub answers_below : AnswerView

-- a stage, with its queue as each cycle begins
pub record Stage : Type 0 where
  pub depth : ℕ
  pub shape : Shape
  pub sides : Sides
  pub queue : ℕ → List Raw

abbrev pub above : Stage → Port
above stage = port_of stage.shape stage.sides.commands_above stage.sides.answers_above

abbrev pub below : Stage → Port
below stage = port_of stage.shape stage.sides.commands_below stage.sides.answers_below

abbrev pub RunsAsStage : Stage → Type 0
RunsAsStage stage = IsStageRun stage.depth (above stage) (below stage) stage.queue

-- waitrequest is low above wherever there is room
abbrev pub WaitsOnlyWhenFull : Stage → Type 0
WaitsOnlyWhenFull stage =
    (c : ℕ) → length (stage.queue c) < stage.depth → is_raised (stage.sides.commands_above.waitrequest c) ≡ false

-- in these states of the burst the parts of a beat are right, and they are the states that a legal host leads to
pub record ExpandsWhile (target : Target) (wide narrow : Shape) (parts : Burst → Raw → List Raw)
    (stands : Burst → Bool) : Type 0 where
  pub begins : IsTrue (stands idle)
  pub lasts : (burst : Burst) (raw : Raw) → IsFitBeat wide burst raw → IsTrue (stands burst)
      → IsTrue (stands (burst_past wide burst raw))
  pub expands : (burst : Burst) (raw : Raw) (below : Burst) → IsFitBeat wide burst raw → IsTrue (stands burst) → below.left ≡ 0
      → Expands target wide narrow parts burst raw below

-- every machine that sends these parts carries commands and holds nothing
abbrev pub PartsCarryCommands : Target → Shape → Shape → (Burst → Raw → List Raw) → Type 0
PartsCarryCommands target wide narrow parts =
    (sides : Sides) (sent rest : ℕ → List Raw) (end : ℕ) →
    let up = port_of wide sides.commands_above sides.answers_above in
    let down = port_of narrow sides.commands_below sides.answers_below in
    IsExpanderRun parts up down sent rest end → AreLegalAt up end → CarriesCommands target 0 up down end

-- narrow words of the agent's size, `count` of which make a wide one, whose commands are of one beat
pub record MaySplit (target : Target) (wide narrow : Shape) (count : ℕ) : Type 0 where
  pub bytes : narrow.unit_bytes ≡ 1
  pub some : 0 < narrow.word_bytes
  pub same : narrow.word_bytes ≡ target.shape.word_bytes
  pub one : 0 < count
  pub whole : wide.word_bytes ≡ count * narrow.word_bytes
  pub one_beat : wide.burst_bits ≡ 1

-- the operations of the pieces of a wide beat, in order
abbrev pub operations_of_pieces : Shape → Shape → Shape → ℕ → Beat → List Operation
operations_of_pieces wide narrow target span beat =
    flat_map (λ piece. operations_of narrow target span (piece_of target.word_bytes beat piece)) (numbers 0 (pieces wide target))

-- wide words of the agent's size, which has byte enables
pub record MaySelect (narrow wide target : Shape) : Type 0 where
  pub some : 0 < narrow.word_bytes
  pub same : wide.word_bytes ≡ target.word_bytes
  pub enables : target.has_enables ≡ true

-- the lanes of a narrow beat lie in one word of the agent, and its byte enables fit their port
pub record LiesInOneWord (narrow target : Shape) (address enables : ℕ) : Type 0 where
  pub lanes : address % target.word_bytes + narrow.word_bytes ≤ target.word_bytes
  pub few : enables < 2 ^ narrow.word_bytes

-- a beat that a lane selector passes on: of a command of one beat, with no burst under way above or below
pub record MaySelectBeat (target : Target) (narrow wide : Shape) (burst : Burst) (raw : Raw) (below : Burst) : Type 0 where
  pub bytes : wide.unit_bytes ≡ 1
  pub words : MaySelect narrow wide target.shape
  pub smaller : narrow.word_bytes ≤ target.shape.word_bytes
  pub one_beat : raw.levels.count ≡ 1
  pub free_above : burst.left ≡ 0
  pub free_below : below.left ≡ 0
  pub in_word : LiesInOneWord narrow target.shape (byte_address narrow raw.levels.address) raw.levels.enables
