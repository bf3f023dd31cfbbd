-- The words of beats that come apart, are joined, or are turned.
use Rattle.std.specs.Prelude.{ℕ, zero, suc, ◌+◌, ◌-◌, ◌*◌, ◌/◌, ◌%◌, ◌^◌, ◌==◌, nat_le, if◌then◌else◌, List, [], ◌∷◌, ◌++◌, length, ◌≤◌, ◌<◌, ◌≡◌, IsTrue}
use Rattle.stream_runs.specs.View.{Beat, EndView, Side, beat_at, is_high}
use Rattle.stream_runs.specs.Symbols.{symbol_count, value_of}
use Rattle.stream_machines.specs.Parts.{joined_errors, first_of_row}

-- part number t of a word
abbrev pub part_word : Side → ℕ → ℕ → ℕ → ℕ
part_word narrow parts word t =
    word / 2 ^ (narrow.symbol_bits * (narrow.symbols * (parts - 1 - t))) % 2 ^ (narrow.symbol_bits * narrow.symbols)

-- the pieces of a beat from part number t on, where so many symbols are left
abbrev pub pieces_from : Side → ℕ → Beat → ℕ → ℕ → ℕ → List Beat
pieces_from narrow parts whole zero t left = []
pieces_from narrow parts whole (suc more) t left =
    if nat_le left narrow.symbols
    then record {
      word =
          part_word narrow parts whole.word t;
      channel =
          whole.channel;
      error =
          whole.error;
      first = if t == 0 then whole.first else 0;
      last = whole.last;
      empty = narrow.symbols - left;
    }
    ∷ []
    else record {
      word =
          part_word narrow parts whole.word t;
      channel =
          whole.channel;
      error = whole.error;
      first = if t == 0 then whole.first else 0;
      last = 0;
      empty = 0;
    }
    ∷ pieces_from narrow parts whole more (t + 1) (left - narrow.symbols)

-- the pieces of a beat
abbrev pub pieces : Side → Side → ℕ → Beat → List Beat
pieces narrow wide parts whole = pieces_from narrow parts whole parts 0 (symbol_count wide whole)

-- the word with the words of these beats in its highest places, of so many places
abbrev pub joined_word : Side → ℕ → List Beat → ℕ
joined_word narrow places [] = 0
joined_word narrow zero (beat ∷ beats) = 0
joined_word narrow (suc places) (beat ∷ beats) =
    beat.word % 2 ^ (narrow.symbol_bits * narrow.symbols) * 2 ^ (narrow.symbol_bits * (narrow.symbols * places))
    + joined_word narrow places beats

-- the beat that joins others
abbrev pub joined_beat : Side → Side → ℕ → List Beat → Beat → Beat
joined_beat narrow wide parts earlier latest =
    record {
      word = joined_word narrow parts (earlier ++ latest ∷ []);
      channel = latest.channel;
      error = joined_errors (earlier ++ latest ∷ []);
      first = first_of_row earlier latest;
      last = latest.last;
      empty = wide.symbols - narrow.symbols * (length earlier + 1) + latest.empty;
    }

-- the word with so many symbols in the other order
abbrev pub turned_word : ℕ → ℕ → ℕ → ℕ
turned_word bits zero word = 0
turned_word bits (suc symbols) word = word % 2 ^ bits * 2 ^ (bits * symbols) + turned_word bits symbols (word / 2 ^ bits)

-- the word of a beat with its empty symbols set to 0, where the first symbol has the high-order bits
abbrev pub cleared_word : Side → Beat → ℕ
cleared_word side beat =
    beat.word / 2 ^ (side.symbol_bits * (side.symbols - symbol_count side beat))
    * 2 ^ (side.symbol_bits * (side.symbols - symbol_count side beat))

-- the beat with this word
abbrev pub cleared_beat : Side → Beat → Beat
cleared_beat side beat = record beat { word = cleared_word side beat }

-- the empty symbols of the beat are 0
abbrev pub HasClearEmpty : Side → Beat → Type 0
HasClearEmpty side beat = (k : ℕ) → symbol_count side beat ≤ k → k < side.symbols → value_of side beat.word k ≡ 0

-- the empty symbols of each beat that is shown in the cycles before count are 0
abbrev pub ShowsClear : Side → EndView → ℕ → Type 0
ShowsClear side view count = (c : ℕ) → c < count → IsTrue (is_high view.valid c) → HasClearEmpty side (beat_at view c)
