-- The memory of an agent as contracts see it.
use Rattle.std.specs.Prelude.{◌<◌, ◌≤◌, ℕ, ◌+◌, ◌*◌, ◌/◌, ◌%◌, nat_eq, List, [], ◌∷◌, map, filter, replicate, slice_index, AllPairs, if◌then◌else◌}
use Rattle.memory_runs.specs.Operations.{Operation, is_enabled, byte_at}
use Rattle.memory_runs.specs.Operations.Operation.{Write}
use Rattle.stand_ins.specs.declared.memory.StoredWord.{StoredWord}

-- the words that were written, how many bytes a word has, and for how many further words there is room
pub record MemoryValue : Type 0 where
  pub words : List StoredWord
  pub word_bytes : ℕ
  pub room : ℕ

-- the bytes of a word: 0 where it was never written
abbrev pub bytes_of_word : List StoredWord → ℕ → List ℕ
bytes_of_word [] number = replicate 16 0
bytes_of_word (word ∷ later) number = if nat_eq word.number number then word.bytes else bytes_of_word later number

-- the byte at each place
abbrev pub contents_of : MemoryValue → ℕ → ℕ
contents_of memory place = slice_index (bytes_of_word memory.words (place / memory.word_bytes)) (place % memory.word_bytes)

-- the contents with other bytes in one word
abbrev pub with_bytes : MemoryValue → ℕ → List ℕ → ℕ → ℕ
with_bytes memory number bytes place =
    if nat_eq number (place / memory.word_bytes) then slice_index bytes (place % memory.word_bytes) else contents_of memory place

-- the write of a lane of the word with a number
abbrev pub lane_write : ℕ → ℕ → ℕ → ℕ → Operation
lane_write word_bytes number word lane = Write (number * word_bytes + lane) (byte_at word lane)

-- the writes of the enabled ones of some lanes
abbrev pub lane_writes : ℕ → ℕ → ℕ → ℕ → List ℕ → List Operation
lane_writes word_bytes number word enables lanes = map (lane_write word_bytes number word) (filter (is_enabled enables) lanes)

abbrev pub IsByteCount : ℕ → Type 0
IsByteCount bytes = (1 ≤ bytes) × (bytes ≤ 16)

-- each word has a lower number than those behind it
abbrev pub AreRising : List StoredWord → Type 0
AreRising words = AllPairs (λ word later. word.number < later.number) words

pub record IsInOrder (words : List StoredWord) (word_bytes : ℕ) : Type 0 where
  pub bytes : IsByteCount word_bytes
  pub rising : AreRising words
