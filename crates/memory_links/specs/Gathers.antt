-- The machine that reads a wide word once for all narrow words of it that a read asks: a read burst that lies in one wide word
-- goes as one beat, whose word is given out again in narrow words, one a cycle. Write beats go as through a lane selector.
use Rattle.std.specs.Prelude.{◌≡◌, ℕ, zero, suc, ◌+◌, ◌-◌, ◌*◌, ◌/◌, ◌%◌, ◌^◌, ◌<◌, ◌≤◌, Bool, true, false, not, ◌&&◌, ◌||◌, List, [], ◌∷◌, ◌++◌, length, drop, if◌then◌else◌, nat_lt, IsTrue}
use Rattle.histories.specs.History.{is_raised, one_if, only_if}
use Rattle.memory_runs.specs.Views.{Shape, Levels, levels_at}
use Rattle.memory_runs.specs.Legal.{Word}
use Rattle.memory_runs.specs.Commands.{byte_address, shows}
use Rattle.memory_machines.specs.Link.{Target, Port, is_nonempty}
use Rattle.memory_links.specs.Links.{LinkForm}
use Rattle.memory_links.specs.Selects.{offset_in, repeated, silenced, takes_read}

-- the same byte enables on so many neighbouring places of `bytes` lanes
abbrev pub spread : ℕ → ℕ → ℕ → ℕ
spread bytes zero enables = 0
spread bytes (suc many) enables = enables + spread bytes many enables * 2 ^ bytes

-- a command that lies in one wide word, as a beat of it. What would reach past its end is left out
abbrev pub gathered : Shape → Shape → Levels → Levels
gathered narrow wide levels = record {
  read = levels.read;
  write = levels.write;
  address = byte_address narrow levels.address - offset_in narrow wide levels.address;
  word = repeated narrow.word_bytes (wide.word_bytes / narrow.word_bytes) levels.word;
  enables =
      (spread narrow.word_bytes levels.count levels.enables * 2 ^ offset_in narrow wide levels.address) % 2 ^ wide.word_bytes;
  count = 1;
}

-- a read under way: where its first narrow word stands in the wide one, in bytes, and how many there are
pub record Entry : Type 0 where
  pub offset : ℕ
  pub count : ℕ

-- the registers, as each cycle begins
pub record GatherState : Type 0 where
  pub entries : ℕ → List Entry  -- the reads under way, the oldest first
  pub words : ℕ → List Word  -- those of their words that have come
  pub given : ℕ → ℕ  -- how many narrow words of the oldest are given

abbrev pub first_entry : List Entry → Entry
first_entry [] = record { offset = 0; count = 0 }
first_entry (e ∷ later) = e

abbrev pub first_word : List Word → Word
first_word [] = record { word = 0; code = 0 }
first_word (w ∷ later) = w

abbrev pub word_at : Port → ℕ → Word
word_at port c = record { word = port.answers.word c; code = port.answers.code c }

-- a read is held back while `room` reads are under way
abbrev pub is_shut : ℕ → Port → GatherState → ℕ → Bool
is_shut room up state c = not (is_raised (up.commands.write c)) && not (nat_lt (length (state.entries c)) room)

-- a word comes that a read waits for
abbrev pub comes : Port → GatherState → ℕ → Bool
comes down state c = is_raised (down.answers.valid c) && nat_lt (length (state.words c)) (length (state.entries c))

-- the words that are there, that of this cycle among them
abbrev pub held : Port → GatherState → ℕ → List Word
held down state c = state.words c ++ only_if (comes down state c) (word_at down c)

-- the last narrow word of the oldest is given
abbrev pub is_last : Port → GatherState → ℕ → Bool
is_last down state c = is_nonempty (held down state c) && not (nat_lt (suc (state.given c)) (first_entry (state.entries c)).count)

abbrev pub entry_at : Port → Port → ℕ → Entry
entry_at up down c = record { offset = offset_in up.shape down.shape (up.commands.address c); count = up.commands.count c }

pub record RunsAsGather (room : ℕ) (up down : Port) (state : GatherState) : Type 0 where
  pub levels : (c : ℕ)
      → levels_at down.commands.signals c
      ≡ silenced (is_shut room up state c) (gathered up.shape down.shape (levels_at up.commands.signals c))
  pub more : (c : ℕ) → down.commands.more c ≡ up.commands.more c
  pub tag : (c : ℕ) → down.commands.tag c ≡ up.commands.tag c
  pub waitrequest : (c : ℕ)
      → is_raised (up.commands.waitrequest c) ≡ (is_shut room up state c || is_raised (down.commands.waitrequest c))
  pub entries_begin : state.entries 0 ≡ []
  pub entries_next : (c : ℕ)
      → state.entries (suc c)
      ≡ drop (one_if (is_last down state c)) (state.entries c) ++ only_if (takes_read up c) (entry_at up down c)
  pub words_begin : state.words 0 ≡ []
  pub words_next : (c : ℕ) → state.words (suc c) ≡ drop (one_if (is_last down state c)) (held down state c)
  pub given_begins : state.given 0 ≡ 0
  pub given_next : (c : ℕ)
      → state.given (suc c)
      ≡ (if is_last down state c then 0 else if is_nonempty (held down state c) then suc (state.given c) else state.given c)
  pub valid : (c : ℕ) → is_raised (up.answers.valid c) ≡ is_nonempty (held down state c)
  -- a place past the end of the wide word, where no read of a legal side goes, is one from its start on
  pub word : (c : ℕ) → IsTrue (is_nonempty (held down state c))
      → up.answers.word c
      ≡ ((first_word (held down state c)).word / 256 ^
      (((first_entry (state.entries c)).offset
      + state.given c * up.shape.word_bytes) % down.shape.word_bytes)) % 256 ^ up.shape.word_bytes
  pub code : (c : ℕ) → IsTrue (is_nonempty (held down state c)) → up.answers.code c ≡ (first_word (held down state c)).code

-- narrow words, `many` of which make one word of the agent, which has byte enables
pub record IsGatherPlan (target : Target) (narrow wide : Shape) (many : ℕ) : Type 0 where
  pub some : 0 < narrow.word_bytes
  pub more : 1 < many
  pub whole : wide.word_bytes ≡ many * narrow.word_bytes
  pub same : wide.word_bytes ≡ target.shape.word_bytes
  pub bytes : wide.unit_bytes ≡ 1
  pub enables : target.shape.has_enables ≡ true

-- what is shown fits its ports, a burst has a beat at least and lies in one wide word, and a write has one beat
pub record LiesInWord (narrow wide : Shape) (levels : Levels) : Type 0 where
  pub few : levels.enables < 2 ^ narrow.word_bytes
  pub some : 0 < levels.count
  pub within : offset_in narrow wide levels.address + levels.count * narrow.word_bytes ≤ wide.word_bytes
  pub single : IsTrue (is_raised levels.write) → levels.count ≡ 1

abbrev pub LieInWords : Port → Shape → ℕ → Type 0
LieInWords port wide end =
    (c : ℕ) → c < end → IsTrue (shows port.commands.signals c) → LiesInWord port.shape wide (levels_at port.commands.signals c)

-- it holds nothing, its rank is always 0, and a word above is a part of one from below
abbrev pub gather_form : Target → LinkForm
gather_form target =
    record
    { target = target; hold = 0; paces = record { largest = 0; hold = 0 } ∷ []; word_for_word = false; makes_lanes = false }
