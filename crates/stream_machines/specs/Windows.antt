-- Symbols that come in beats of one size and go out in beats of another, as soon as there are enough of them or a packet ends.
-- Both sides have the first symbol in the high-order bits.
use Rattle.std.specs.Prelude.{ℕ, suc, ◌+◌, ◌-◌, ◌<◌, ◌≡◌, ◌⊎◌, not, ◌&&◌, ◌||◌, ◌==◌, nat_le, nat_lt, bit_or, if◌then◌else◌, Bool, false, IsTrue, IsFalse}
use Rattle.stream_runs.specs.View.{EndView, Beat, Side, beat_at, is_high, is_transfer}
use Rattle.stream_runs.specs.Symbols.{symbol_count, value_of}
use Rattle.stream_runs.specs.Source.{IsLegalSource, ShowsSame}
use Rattle.stream_machines.specs.Stage.{Shape}

-- symbols in a row: how many they are, the data of each, their channel, all bits that are set in one of their errors, and the
-- marks of the first and of the last one
pub record Row : Type 0 where
  pub count : ℕ
  pub value : ℕ → ℕ
  pub channel : ℕ
  pub error : ℕ
  pub first : ℕ
  pub last : ℕ

-- two rows of the same symbols
pub record AreSameRow (one other : Row) : Type 0 where
  pub count : one.count ≡ other.count
  pub values : (k : ℕ) → k < one.count → one.value k ≡ other.value k
  pub channel : one.channel ≡ other.channel
  pub error : one.error ≡ other.error
  pub first : one.first ≡ other.first
  pub last : one.last ≡ other.last

-- they make a beat of so many symbols: there are enough, or the last one ends a packet
abbrev pub is_whole : ℕ → Row → Bool
is_whole size row = nat_le size row.count || (row.last == 1)

-- they leave no symbol behind a beat of so many
abbrev pub fits : ℕ → Row → Bool
fits size row = nat_le row.count size

-- a row with the symbols of a beat behind it
abbrev pub with_beat : Side → Row → Beat → Row
with_beat side row beat =
    record {
      count = row.count + symbol_count side beat;
      value = λ k. if nat_lt k row.count then row.value k else value_of side beat.word (k - row.count);
      channel = beat.channel;
      error = bit_or row.error beat.error;
      first = if row.count == 0 then beat.first else row.first;
      last = beat.last;
    }

-- what is left of a row behind a beat of so many symbols, where it has this error
abbrev pub behind_beat : ℕ → ℕ → Row → Row
behind_beat size error row =
    record {
      count = row.count - size;
      value = λ k. row.value (k + size);
      channel = row.channel;
      error = if fits size row then 0 else error;
      first = 0;
      last = if fits size row then 0 else row.last;
    }

-- the beat has the first symbols of the row, as many as fit
pub record IsFront (side : Side) (row : Row) (beat : Beat) : Type 0 where
  pub values : (k : ℕ) → k < side.symbols → k < row.count → value_of side beat.word k ≡ row.value k
  pub channel : beat.channel ≡ row.channel
  pub error : beat.error ≡ row.error
  pub first : beat.first ≡ row.first
  pub last : beat.last ≡ (if fits side.symbols row then row.last else 0)
  pub empty : IsTrue (beat.last == 1) → beat.empty ≡ side.symbols - row.count

-- what goes out next: what is held where that makes a beat by itself, and else with the beat that is shown upstream behind it
abbrev pub next_row : Side → Side → EndView → Row → ℕ → Row
next_row from into up held c = if is_whole into.symbols held then held else with_beat from held (beat_at up c)

-- the error of what is left of that: a beat leaves symbols of the latest beat alone
abbrev pub error_left : Side → EndView → Row → ℕ → ℕ
error_left into up held c = if is_whole into.symbols held then held.error else up.error c

-- what is held a cycle later
abbrev pub row_after : Side → Side → EndView → EndView → Row → ℕ → Row
row_after from into up down held c =
    if is_transfer into.pace down c
    then behind_beat into.symbols (error_left into up held c) (next_row from into up held c)
    else (if is_transfer from.pace up c then with_beat from held (beat_at up c) else held)

-- a machine with a window of symbols, those that it holds and those of the beat that comes: it takes beats as long as it holds
-- less than a beat, and shows one as soon as the window has it. What it does with beats that aren't legal is free
pub record IsWindowRun (from into : Side) (up down : EndView) (held : ℕ → Row) : Type 0 where
  pub starts : AreSameRow (held 0) (record { count = 0; value = λ k. 0; channel = 0; error = 0; first = 0; last = 0 })
  pub asks : (c : ℕ) → IsLegalSource from up (suc c)
      → is_high up.ready c ≡ (not (is_whole into.symbols (held c)) && (not (is_high down.valid c) || is_high down.ready c))
  pub valid : (c : ℕ) → IsLegalSource from up (suc c)
      → is_high down.valid c
      ≡ (is_whole into.symbols (held c)
      || (is_high up.valid c && is_whole into.symbols (with_beat from (held c) (beat_at up c))))
  pub shows : (c : ℕ) → IsLegalSource from up (suc c) → IsTrue (is_high down.valid c)
      → IsFront into (next_row from into up (held c) c) (beat_at down c)
  pub moves : (c : ℕ) → IsLegalSource from up (suc c) → AreSameRow (held (suc c)) (row_after from into up down (held c) c)
  -- a beat that waits stands unchanged, where it has symbols of the beat upstream as long as that does
  pub stays : (c : ℕ) → IsLegalSource from up (suc (suc c)) → IsTrue (is_high down.valid c)
      → IsFalse (is_transfer into.pace down c)
      → (IsTrue (is_whole into.symbols (held c))) ⊎ ShowsSame up c (suc c) → beat_at down (suc c) ≡ beat_at down c

-- how many symbols it may hold: less than a beat of the larger size
abbrev pub window_hold : ℕ → ℕ → ℕ
window_hold from into = if nat_le from into then into - 1 else from - 1

-- what the machine promises
abbrev pub window_shape : (ℕ → Bool) → Side → Side → Shape
window_shape passes from into =
    record {
      up =
          from;
      down =
          into;
      passes =
          passes;
      hold =
          window_hold from.symbols into.symbols;
      rest = into.symbols - 1;
      step = 0;
      largest = 0;
      needs_ready = false;
    }
