-- What a source must keep to, in the cycles before a given one.
use Rattle.std.specs.Prelude.{ℕ, zero, suc, ◌+◌, ◌-◌, ◌<◌, ◌≤◌, ◌≡◌, Bool, false, not, ◌&&◌, ◌||◌, ◌==◌, nat_le, nat_lt, if◌then◌else◌, IsTrue, IsFalse, ⊤}
use Rattle.stream_runs.specs.View.{EndView, Beat, Pace, Side, beat_at, is_high, is_ready_cycle, is_transfer}

-- all signals of the source are the same in both cycles
pub record ShowsSame (view : EndView) (b c : ℕ) : Type 0 where
  pub valid : view.valid b ≡ view.valid c
  pub beat : beat_at view b ≡ beat_at view c

-- ready was high in some cycle up to this one
abbrev pub was_ready : EndView → ℕ → Bool
was_ready view zero = is_high view.ready zero
was_ready view (suc c) = is_high view.ready (suc c) || was_ready view c

-- how many beats transferred, up to and with this cycle, since the last cycle in which ready was high
abbrev pub beats_since_ready : Pace → EndView → ℕ → ℕ
beats_since_ready pace view zero = if is_high view.ready zero then 0 else (if is_transfer pace view zero then 1 else 0)
beats_since_ready pace view (suc c) =
    if is_high view.ready (suc c) then 0 else beats_since_ready pace view c + (if is_transfer pace view (suc c) then 1 else 0)

-- the allowance lasts: ready has been high at least the latency ago, and at most so many beats came since it was last high
abbrev pub is_allowed_late : Pace → EndView → ℕ → Bool
is_allowed_late pace view c =
    nat_le pace.latency c && was_ready view (c - pace.latency) && nat_le (beats_since_ready pace view c) pace.allowance

-- the pace lets a beat be shown in the cycle: always at latency 0, else in ready cycles, and where the allowance is
-- above the latency as long as it lasts
abbrev pub may_show : Pace → EndView → ℕ → Bool
may_show pace view c =
    (pace.latency == 0)
    || (if nat_lt pace.latency pace.allowance then is_allowed_late pace view c else is_ready_cycle pace view c)

-- a packet is open as the cycle begins: the latest beat that transferred does not end one
abbrev pub is_open : Pace → EndView → ℕ → Bool
is_open pace view zero = false
is_open pace view (suc c) = if is_transfer pace view c then not (is_high view.last c) else is_open pace view c

-- the channel of the latest beat that transferred before the cycle
abbrev pub channel_before : Pace → EndView → ℕ → ℕ
channel_before pace view zero = 0
channel_before pace view (suc c) = if is_transfer pace view c then view.channel c else channel_before pace view c

-- a beat that was shown and did not transfer in the cycle before stands unchanged
abbrev pub IsHeld : Pace → EndView → ℕ → Type 0
IsHeld pace view zero = ⊤
IsHeld pace view (suc c) = IsTrue (is_high view.valid c) → IsFalse (is_transfer pace view c) → ShowsSame view c (suc c)

-- in the cycle the source keeps to the rules of ready
pub record KeepsPace (pace : Pace) (view : EndView) (c : ℕ) : Type 0 where
  pub allowed : IsTrue (is_high view.valid c) → IsTrue (may_show pace view c)
  pub held : IsHeld pace view c

-- a source may send the beat, where a packet is open or not, and the beat before it was on this channel
pub record IsWellFormed (side : Side) (opened : Bool) (channel : ℕ) (beat : Beat) : Type 0 where
  -- it begins a packet exactly where none is open
  pub begins : IsTrue side.packets → (beat.first == 1) ≡ not opened
  -- without packets it bears no mark
  pub unmarked : IsFalse side.packets → ((beat.first == 1) ≡ false) × ((beat.last == 1) ≡ false)
  pub holds_data : IsTrue (beat.last == 1) → beat.empty < side.symbols
  pub in_range : beat.channel ≤ side.max_channel
  pub one_channel : IsTrue side.packets → IsTrue opened → beat.channel ≡ channel
  -- without an error port it shows no error
  pub quiet : side.error_bits ≡ 0 → beat.error ≡ 0

-- in the cycle the source is legal
pub record IsLegalAt (side : Side) (view : EndView) (c : ℕ) : Type 0 where
  pub paced : KeepsPace side.pace view c
  pub formed : IsTrue (is_high view.valid c)
      → IsWellFormed side (is_open side.pace view c) (channel_before side.pace view c) (beat_at view c)

-- the source is legal in each cycle before this one
abbrev pub IsLegalSource : Side → EndView → ℕ → Type 0
IsLegalSource side view count = (c : ℕ) → c < count → IsLegalAt side view c

-- the module, as the source of a sink, keeps to the rules of ready in each cycle before this one
abbrev pub IsProperAtSink : Side → EndView → ℕ → Type 0
IsProperAtSink side view count = (c : ℕ) → c < count → KeepsPace side.pace view c
