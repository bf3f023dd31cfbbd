-- The machine of a lane selector: commands of one beat go from narrow words to the wide words that hold them.
use Rattle.std.specs.Prelude.{◌≡◌, ℕ, zero, suc, ◌+◌, ◌-◌, ◌*◌, ◌/◌, ◌%◌, ◌^◌, ◌<◌, Bool, true, false, not, ◌&&◌, ◌||◌, List, [], ◌∷◌, ◌++◌, length, drop, if◌then◌else◌, nat_lt, IsTrue}
use Rattle.histories.specs.History.{is_raised, only_if}
use Rattle.memory_runs.specs.Views.{Shape, Levels, levels_at}
use Rattle.memory_runs.specs.Commands.{byte_address, shows}
use Rattle.memory_machines.specs.Link.{Target, Port, takes}
use Rattle.memory_links.specs.Links.{LinkForm}

-- where a narrow word stands in its wide word, in bytes
abbrev pub offset_in : Shape → Shape → ℕ → ℕ
offset_in narrow wide address = byte_address narrow address % wide.word_bytes

-- a narrow word on each of so many places of a wide one
abbrev pub repeated : ℕ → ℕ → ℕ → ℕ
repeated bytes zero word = 0
repeated bytes (suc many) word = word % 256 ^ bytes + 256 ^ bytes * repeated bytes many word

-- a narrow beat as a beat of the wide word: its lanes stand at its offset, and its word on every place, since the lanes tell
-- which one counts
abbrev pub selected : Shape → Shape → Levels → Levels
selected narrow wide levels = record {
  read = levels.read;
  write = levels.write;
  address = byte_address narrow levels.address - offset_in narrow wide levels.address;
  word = repeated narrow.word_bytes (wide.word_bytes / narrow.word_bytes) levels.word;
  enables = levels.enables * 2 ^ offset_in narrow wide levels.address;
  count = 1;
}

abbrev pub silenced : Bool → Levels → Levels
silenced shut levels = record levels { read = if shut then 0 else levels.read }

abbrev pub takes_read : Port → ℕ → Bool
takes_read port c = takes port c && not (is_raised (port.commands.write c))

abbrev pub first_of : List ℕ → ℕ
first_of [] = 0
first_of (x ∷ xs) = x

-- a read is held back while `room` reads are under way
abbrev pub is_shut : ℕ → Port → (ℕ → List ℕ) → ℕ → Bool
is_shut room up offsets c = not (is_raised (up.commands.write c)) && not (nat_lt (length (offsets c)) room)

-- `offsets` is the queue of the offsets of the reads under way, as each cycle begins
pub record RunsAsSelect (room : ℕ) (up down : Port) (offsets : ℕ → List ℕ) : Type 0 where
  pub levels : (c : ℕ)
      → levels_at down.commands.signals c
      ≡ silenced (is_shut room up offsets c) (selected up.shape down.shape (levels_at up.commands.signals c))
  pub more : (c : ℕ) → down.commands.more c ≡ up.commands.more c
  pub tag : (c : ℕ) → down.commands.tag c ≡ up.commands.tag c
  pub waitrequest : (c : ℕ)
      → is_raised (up.commands.waitrequest c) ≡ (is_shut room up offsets c || is_raised (down.commands.waitrequest c))
  pub begins : offsets 0 ≡ []
  pub next : (c : ℕ)
      → offsets (suc c)
      ≡ drop (if is_raised (down.answers.valid c) then 1 else 0) (offsets c)
      ++ only_if (takes_read up c) (offset_in up.shape down.shape (up.commands.address c))
  pub valid : (c : ℕ) → up.answers.valid c ≡ down.answers.valid c
  -- where a read is under way
  pub word : (c : ℕ) → 0 < length (offsets c)
      → up.answers.word c ≡ (down.answers.word c / 256 ^ first_of (offsets c)) % 256 ^ up.shape.word_bytes
  pub code : (c : ℕ) → up.answers.code c ≡ down.answers.code c

-- narrow words, `many` of which make one word of the agent, which has byte enables. Commands have one beat on both sides
pub record IsSelectPlan (target : Target) (narrow wide : Shape) (many : ℕ) : Type 0 where
  pub some : 0 < narrow.word_bytes
  pub more : 1 < many
  pub whole : wide.word_bytes ≡ many * narrow.word_bytes
  pub same : wide.word_bytes ≡ target.shape.word_bytes
  pub bytes : wide.unit_bytes ≡ 1
  pub enables : target.shape.has_enables ≡ true
  pub one_beat : narrow.burst_bits ≡ 1
  pub one_beat_below : wide.burst_bits ≡ 1

-- the byte enables of what is shown fit their port
abbrev pub EnablesFit : Port → ℕ → Type 0
EnablesFit port end =
    (c : ℕ) → c < end → IsTrue (shows port.commands.signals c) → port.commands.enables c < 2 ^ port.shape.word_bytes

-- it holds nothing, and its rank is always 0, where at least two reads may be under way
abbrev pub select_form : Target → LinkForm
select_form target =
    record { target = target; hold = 0; paces = record { largest = 0; hold = 0 } ∷ []; word_for_word = true; makes_lanes = false }
