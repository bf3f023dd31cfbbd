-- What an end of a stream shows, cycle by cycle, and when a beat of it transfers.
use Rattle.std.specs.Prelude.{ℕ, ◌-◌, Bool, not, ◌&&◌, ◌||◌, ◌==◌, nat_le, nat_lt, ◌<◌, ◌≡◌, IsTrue}

-- the number on each port of an end in each cycle: `word` is data, `first` is startofpacket, `last` is endofpacket
pub record EndView : Type 0 where
  pub valid : ℕ → ℕ
  pub word : ℕ → ℕ
  pub channel : ℕ → ℕ
  pub error : ℕ → ℕ
  pub first : ℕ → ℕ
  pub last : ℕ → ℕ
  pub empty : ℕ → ℕ
  pub ready : ℕ → ℕ

-- a beat: what stands on the ports of an end beside valid
pub record Beat : Type 0 where
  pub word : ℕ
  pub channel : ℕ
  pub error : ℕ
  pub first : ℕ
  pub last : ℕ
  pub empty : ℕ

-- the beat that is shown in the cycle, if one is
abbrev pub beat_at : EndView → ℕ → Beat
beat_at view c =
    record {
      word =
          view.word c;
      channel =
          view.channel c;
      error = view.error c;
      first = view.first c;
      last = view.last c;
      empty = view.empty c;
    }

-- the ready latency, and the ready allowance: how many beats may come after the last cycle with ready
pub record Pace : Type 0 where
  pub latency : ℕ
  pub allowance : ℕ

-- what is declared of an end: its pace, the symbols of a beat, the bits of a symbol, whether the first symbol has the high-order
-- bits, whether there are packets, the largest channel, and the bits of an error, none where the end has no error port
pub record Side : Type 0 where
  pub pace : Pace
  pub symbols : ℕ
  pub symbol_bits : ℕ
  pub first_high : Bool
  pub packets : Bool
  pub max_channel : ℕ
  pub error_bits : ℕ

-- the signal is 1 in the cycle
abbrev pub is_high : (ℕ → ℕ) → ℕ → Bool
is_high signal c = signal c == 1

-- ready was high as many cycles before this one as the latency says; before the first cycle it was low
abbrev pub is_ready_cycle : Pace → EndView → ℕ → Bool
is_ready_cycle pace view c = nat_le pace.latency c && is_high view.ready (c - pace.latency)

-- a beat transfers: it is shown, and at ready latency 0 ready is high
abbrev pub is_transfer : Pace → EndView → ℕ → Bool
is_transfer pace view c = is_high view.valid c && (nat_lt 0 pace.latency || is_high view.ready c)

-- a beat is shown and doesn't transfer
abbrev pub is_stalled : Pace → EndView → ℕ → Bool
is_stalled pace view c = is_high view.valid c && not (is_transfer pace view c)

-- ready is high in each cycle before this one
abbrev pub IsReadyBefore : EndView → ℕ → Type 0
IsReadyBefore view count = (c : ℕ) → c < count → IsTrue (is_high view.ready c)

-- two ends show the same in each cycle before this one
pub record AgreeBefore (one two : EndView) (count : ℕ) : Type 0 where
  pub valid : (c : ℕ) → c < count → one.valid c ≡ two.valid c
  pub beat : (c : ℕ) → c < count → beat_at one c ≡ beat_at two c
  pub ready : (c : ℕ) → c < count → one.ready c ≡ two.ready c
