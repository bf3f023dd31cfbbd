-- Machines that hold no symbol: each beat goes out in the cycle in which it comes in.
use Rattle.std.specs.Prelude.{ℕ, ◌+◌, ◌-◌, ◌<◌, ◌≡◌, Bool, not, ◌&&◌, ◌||◌, ◌==◌, nat_lt, nat_le, IsTrue}
use Rattle.stream_runs.specs.View.{EndView, Side, beat_at, is_high, is_transfer}
use Rattle.stream_runs.specs.Symbols.{value_of}
use Rattle.stream_machines.specs.Words.{cleared_beat}
use Rattle.stream_machines.specs.Stage.{Shape, StageRun, ready_cycles}

-- what a machine that holds nothing promises
abbrev pub wire_shape : (ℕ → Bool) → Side → Side → ℕ → Bool → Shape
wire_shape passes up down largest needs_ready =
    record { up = up; down = down; passes = passes; hold = 0; rest = 0; step = 0; largest = largest; needs_ready = needs_ready }

-- its run: the rank is how many ready cycles are still to come of the ready that was shown
abbrev pub wire_run : Side → EndView → EndView → StageRun
wire_run side up down = record { up = up; down = down; rank = ready_cycles side.pace.latency up }

-- the largest channel behind the filter
abbrev pub filtered_side : Side → ℕ → Side
filtered_side side largest = record side { max_channel = largest }

-- a filter on channels: it shows the ready that it sees, and at ready latency 0 also where it shows no beat
pub record IsFilterRun (passes : ℕ → Bool) (side : Side) (up down : EndView) : Type 0 where
  pub asks : (c : ℕ) → is_high up.ready c ≡ (is_high down.ready c || ((side.pace.latency == 0) && not (is_high down.valid c)))
  pub valid : (c : ℕ) → is_high down.valid c ≡ (is_high up.valid c && passes (up.channel c))
  pub shows : (c : ℕ) → IsTrue (is_high down.valid c) → beat_at down c ≡ beat_at up c

-- in the cycle the filter takes a beat that it suppresses
abbrev pub suppresses : (ℕ → Bool) → Side → EndView → ℕ → Bool
suppresses passes side up c = is_transfer side.pace up c && not (passes (up.channel c))

-- dropped is high exactly there
abbrev pub ShowsSuppressed : (ℕ → Bool) → Side → EndView → (ℕ → ℕ) → Type 0
ShowsSuppressed passes side up dropped = (c : ℕ) → is_high dropped c ≡ suppresses passes side up c

-- ready comes so many cycles later, and no beat is shown but in a ready cycle; a delay of no cycles at ready latency 0
-- is a wire, which shows each beat at once
abbrev pub delayed_side : Side → ℕ → Side
delayed_side side cycles =
    record side { pace = record { latency = side.pace.latency + cycles; allowance = side.pace.latency + cycles } }

pub record IsDelayRun (cycles : ℕ) (side : Side) (up down : EndView) : Type 0 where
  pub asks : (c : ℕ) → is_high up.ready c ≡ (nat_le cycles c && is_high down.ready (c - cycles))
  pub valid : (c : ℕ)
      → is_high down.valid c ≡ (is_high up.valid c && (nat_lt 0 side.pace.latency || (nat_le cycles 0 || is_high up.ready c)))
  pub shows : (c : ℕ) → IsTrue (is_high down.valid c) → beat_at down c ≡ beat_at up c

-- ready is tied to 1
pub record IsTieRun (up down : EndView) : Type 0 where
  pub asks : (c : ℕ) → IsTrue (is_high up.ready c)
  pub valid : (c : ℕ) → down.valid c ≡ up.valid c
  pub shows : (c : ℕ) → beat_at down c ≡ beat_at up c

-- the same end with an error port of so many bits
abbrev pub with_error_bits : Side → ℕ → Side
with_error_bits side bits = record side { error_bits = bits }

-- the error of each beat is 0
pub record IsErrorTieRun (up down : EndView) : Type 0 where
  pub asks : (c : ℕ) → up.ready c ≡ down.ready c
  pub valid : (c : ℕ) → down.valid c ≡ up.valid c
  pub shows : (c : ℕ) → beat_at down c ≡ (record (beat_at up c) { error = 0 })

-- the empty symbols of each beat are set to 0
pub record IsClearRun (side : Side) (up down : EndView) : Type 0 where
  pub asks : (c : ℕ) → up.ready c ≡ down.ready c
  pub valid : (c : ℕ) → down.valid c ≡ up.valid c
  pub shows : (c : ℕ) → beat_at down c ≡ cleared_beat side (beat_at up c)

-- the symbols of each beat stand in the other order
abbrev pub turned_side : Side → Side
turned_side side = record side { first_high = not side.first_high }

pub record IsReorderRun (side : Side) (up down : EndView) : Type 0 where
  pub asks : (c : ℕ) → up.ready c ≡ down.ready c
  pub valid : (c : ℕ) → down.valid c ≡ up.valid c
  pub shows : (c : ℕ) → beat_at down c ≡ (record (beat_at up c) { word = down.word c })
  pub words : (c : ℕ) → (k : ℕ) → k < side.symbols
      → value_of (turned_side side) (down.word c) k ≡ value_of side (up.word c) k
  pub same : (b c : ℕ) → up.word b ≡ up.word c → down.word b ≡ down.word c
