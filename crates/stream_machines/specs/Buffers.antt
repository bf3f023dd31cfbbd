-- Machines that hold beats whole: a buffer behind a source of some ready latency, and a register.
use Rattle.std.specs.Prelude.{ℕ, suc, ◌+◌, ◌*◌, ◌≡◌, Bool, true, false, ◌||◌, ◌&&◌, ◌==◌, nat_lt, if◌then◌else◌, IsTrue, List, [], ◌∷◌, ◌++◌, length, drop}
use Rattle.stream_runs.specs.View.{EndView, Beat, Pace, Side, beat_at, is_high, is_transfer}
use Rattle.stream_runs.specs.Source.{IsLegalSource}
use Rattle.stream_machines.specs.Stage.{Shape, ShowAlike, ready_cycles}

-- ready latency 0
abbrev pub zero_pace : Pace
zero_pace = record { latency = 0; allowance = 0 }

-- the same end with ready latency 0
abbrev pub direct_side : Side → Side
direct_side side = record side { pace = zero_pace }

-- the first beat that is held is shown; where none is, the beat that comes passes through, or none is shown
abbrev pub ShowsHeld : Bool → List Beat → EndView → EndView → ℕ → Type 0
ShowsHeld true [] up down c = ShowAlike up down c c
ShowsHeld false [] up down c = is_high down.valid c ≡ false
ShowsHeld through (beat ∷ beats) up down c = IsTrue (is_high down.valid c) × (beat_at down c ≡ beat)

-- the beat that is taken in, if one is
abbrev pub taken_now : Side → EndView → ℕ → List Beat
taken_now side up c = if is_transfer side.pace up c then beat_at up c ∷ [] else []

-- the beats that a machine holds as each cycle begins. It need not have places for what a source sends that isn't legal
pub record HoldsBeats (through : Bool) (side : Side) (up down : EndView) (held : ℕ → List Beat) : Type 0 where
  pub starts : held 0 ≡ []
  pub shows : (c : ℕ) → ShowsHeld through (held c) up down c
  pub moves : (c : ℕ) → IsLegalSource side up (suc c)
      → held (suc c)
      ≡ (if is_transfer zero_pace down c then drop 1 (held c ++ taken_now side up c) else held c ++ taken_now side up c)

-- what such a machine with this many places promises
abbrev pub buffer_shape : (ℕ → Bool) → ℕ → Side → Shape
buffer_shape passes places side =
    record {
      up =
          side;
      down =
          direct_side side;
      passes = passes;
      hold = places * side.symbols;
      rest = 0;
      step = 0;
      largest = 0;
      needs_ready = false;
    }

-- a buffer with a place more than the ready latency: it shows ready where the beats that it holds, and those that may
-- still come of the ready that it showed, leave a place, as long as the source is legal
pub record IsBufferRun (side : Side) (up down : EndView) (held : ℕ → List Beat) : Type 0 where
  pub holds : HoldsBeats true side up down held
  pub asks : (c : ℕ) → IsLegalSource side up c
      → is_high up.ready c ≡ nat_lt (length (held c) + ready_cycles side.pace.latency up c) (side.pace.latency + 1)

-- a register for one beat, which takes the next beat in the cycle in which it gives its own
pub record IsRegisterRun (side : Side) (up down : EndView) (held : ℕ → List Beat) : Type 0 where
  pub holds : HoldsBeats false side up down held
  pub asks : (c : ℕ) → is_high up.ready c ≡ (nat_lt (length (held c)) 1 || is_high down.ready c)

-- a buffer behind a source that sends some beats after the last ready, as many as its allowance says: it shows ready
-- where the beats that it holds leave a place for all of those, and one for the beat of the cycle
pub record IsAllowanceRun (places : ℕ) (side : Side) (up down : EndView) (held : ℕ → List Beat) : Type 0 where
  pub holds : HoldsBeats true side up down held
  pub asks : (c : ℕ) → is_high up.ready c ≡ nat_lt (length (held c) + side.pace.allowance) places

-- a queue: it shows ready where it begins a cycle with room; a queue of no beats is a wire
pub record IsQueueRun (depth : ℕ) (side : Side) (up down : EndView) (held : ℕ → List Beat) : Type 0 where
  pub holds : HoldsBeats true side up down held
  pub asks : (c : ℕ) → is_high up.ready c ≡ (nat_lt (length (held c)) depth || ((depth == 0) && is_high down.ready c))
