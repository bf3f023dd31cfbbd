-- A machine that is a multiplexer: it leads one input straight to the output, the next one in turn that shows a beat, and stays
-- with it as long as its beat waits or its packet goes on.
use Rattle.std.specs.Prelude.{ℕ, suc, ◌+◌, ◌-◌, ◌<◌, ◌≤◌, ◌≡◌, ◌==◌, Bool, false, not, ◌&&◌, nat_lt, if◌then◌else◌, IsTrue, IsFalse}
use Rattle.stream_runs.specs.View.{beat_at, is_high}
use Rattle.routed_runs.specs.Multiplexed.{Multiplexer, MultiplexerRun}
use Rattle.routed_runs.specs.Beats.{with_channel}

-- how many turns it is from one input to another, where all take turns by their numbers: all of them to the same one again
abbrev pub turns_to : ℕ → ℕ → ℕ → ℕ
turns_to inputs holder i = if nat_lt holder i then i - holder else inputs + i - holder

-- the input that is led to the output in a cycle, that of the cycle before, and whether these must be the same
pub record Turns : Type 0 where
  pub chosen : ℕ → ℕ
  pub holder : ℕ → ℕ
  pub locked : ℕ → Bool

-- the input shows a beat in the cycle
abbrev pub asks : MultiplexerRun → ℕ → ℕ → Bool
asks run c i = is_high (run.inputs i).valid c

pub record IsMultiplexerRun (mux : Multiplexer) (run : MultiplexerRun) (turns : Turns) : Type 0 where
  pub starts : turns.holder 0 < mux.inputs
  pub starts_free : turns.locked 0 ≡ false
  -- the choice: the holder where it is locked, and else the first in turn behind it that asks, where one does
  pub is_input : (c : ℕ) → turns.chosen c < mux.inputs
  pub keeps : (c : ℕ) → IsTrue (turns.locked c) → turns.chosen c ≡ turns.holder c
  pub asked : (c : ℕ) → IsFalse (turns.locked c) → (i : ℕ) → i < mux.inputs → IsTrue (asks run c i)
      → IsTrue (asks run c (turns.chosen c))
  pub first : (c : ℕ) → IsFalse (turns.locked c) → (i : ℕ) → i < mux.inputs → IsTrue (asks run c i)
      → turns_to mux.inputs (turns.holder c) (turns.chosen c) ≤ turns_to mux.inputs (turns.holder c) i
  -- what is chosen is led to the output, on the channel of its number
  pub valid : (c : ℕ) → is_high run.output.valid c ≡ asks run c (turns.chosen c)
  pub beat : (c : ℕ) → IsTrue (is_high run.output.valid c)
      → beat_at run.output c ≡ with_channel (turns.chosen c) (beat_at (run.inputs (turns.chosen c)) c)
  -- and it alone sees ready
  pub ready : (c i : ℕ) → i < mux.inputs → is_high (run.inputs i).ready c ≡ ((turns.chosen c == i) && is_high run.output.ready c)
  -- the next cycle
  pub holds : (c : ℕ) → turns.holder (suc c) ≡ turns.chosen c
  pub locks : (c : ℕ)
      → turns.locked (suc c)
      ≡ (if is_high run.output.valid c then not (is_high run.output.ready c && is_high run.output.last c) else turns.locked c)
