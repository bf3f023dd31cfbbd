-- A multiplexer: packets of several inputs come out of one output, each on the channel that has the number of its input.
use Rattle.std.specs.Prelude.{ℕ, ◌+◌, ◌-◌, ◌*◌, ◌<◌, ◌≤◌, ◌≡◌, ◌==◌, Bool, true, not, ◌&&◌, IsTrue, IsFalse, List, filter, length}
use Rattle.histories.specs.History.{before, is_first, numbers}
use Rattle.stream_runs.specs.View.{EndView, Side, is_high, is_transfer}
use Rattle.stream_runs.specs.Source.{IsLegalSource, is_open}
use Rattle.stream_runs.specs.Symbols.{accepted_symbols, delivered_symbols}
use Rattle.stream_runs.specs.Awake.{Throughout, Sometime}
use Rattle.routed_runs.specs.Routes.{direct, direct_end, symbols_on, FollowWithin, routing_window}

-- so many inputs, and so many symbols of so many bits a beat
pub record Multiplexer : Type 0 where
  pub inputs : ℕ
  pub symbols : ℕ
  pub bits : ℕ

abbrev pub input_side : Multiplexer → Side
input_side mux = direct_end true mux.symbols mux.bits 0

abbrev pub output_side : Multiplexer → Side
output_side mux = direct_end true mux.symbols mux.bits (mux.inputs - 1)

-- what the inputs show, by their numbers, and the output
pub record MultiplexerRun : Type 0 where
  pub inputs : ℕ → EndView
  pub output : EndView

-- in the cycles before count each input is legal
abbrev pub AreLegalInputs : Multiplexer → MultiplexerRun → ℕ → Type 0
AreLegalInputs mux run count = (i : ℕ) → i < mux.inputs → IsLegalSource (input_side mux) (run.inputs i) count

-- some input passes the test
abbrev pub SomeInput : Multiplexer → MultiplexerRun → (EndView → Bool) → Type 0
SomeInput mux run test = (i : ℕ) × (i < mux.inputs) × IsTrue (test (run.inputs i))

-- the first beat of a packet is accepted in the cycle
abbrev pub begins : EndView → ℕ → Bool
begins input c = is_transfer direct input c && is_high input.first c

-- and it is presented in the cycle
abbrev pub presents : EndView → ℕ → Bool
presents input c = is_first (is_high input.valid) (is_transfer direct input) c && is_high input.first c

-- the other inputs at which a packet begins in the cycle
abbrev pub begun_elsewhere : Multiplexer → MultiplexerRun → ℕ → ℕ → List ℕ
begun_elsewhere mux run i c = filter (λ j. not (j == i) && begins (run.inputs j) c) (numbers 0 mux.inputs)

-- no beat is accepted from one cycle up to another
abbrev pub AcceptsNone : EndView → ℕ → ℕ → Type 0
AcceptsNone input from to = (c : ℕ) → from ≤ c → c < to → IsFalse (is_transfer direct input c)

-- what goes on in a cycle of a window: the output is ready, and some input shows a beat, and so does each one inside a packet
pub record AreAllWaiting (mux : Multiplexer) (run : MultiplexerRun) (c : ℕ) : Type 0 where
  pub ready : IsTrue (is_high run.output.ready c)
  pub some : SomeInput mux run (λ input. is_high input.valid c)
  pub inside : (i : ℕ) → i < mux.inputs → IsTrue (is_open direct (run.inputs i) c) → IsTrue (is_high (run.inputs i).valid c)

-- the output is ready, and a symbol that an input accepted isn't delivered yet
pub record IsOwed (mux : Multiplexer) (run : MultiplexerRun) (c : ℕ) : Type 0 where
  pub ready : IsTrue (is_high run.output.ready c)
  pub input : ℕ
  pub is_input : input < mux.inputs
  pub undelivered : length (symbols_on input (delivered_symbols (output_side mux) run.output c))
      < length (accepted_symbols (input_side mux) (run.inputs input) c)

-- what a multiplexer does in the cycles before count
pub record IsMultiplexed (mux : Multiplexer) (run : MultiplexerRun) (count : ℕ) : Type 0 where
  -- it is a legal source
  pub legal : IsLegalSource (output_side mux) run.output count
  -- what comes on the channel of an input is what the input accepted
  pub follows : (i : ℕ) → i < mux.inputs → (c : ℕ) → c ≤ count
      → FollowWithin (2 * mux.symbols) (accepted_symbols (input_side mux) (run.inputs i) c)
      (symbols_on i (delivered_symbols (output_side mux) run.output c))
  -- from a beat with a first mark up to the one with its last mark all are on one channel
  pub whole : (b c : ℕ) → b < c → c < count
      → IsTrue (is_transfer direct run.output b) → IsTrue (is_high run.output.first b)
      → ((d : ℕ) → b ≤ d → d < c → IsTrue (is_transfer direct run.output d) → IsFalse (is_high run.output.last d))
      → IsTrue (is_transfer direct run.output c) → run.output.channel c ≡ run.output.channel b
  -- before a packet that is presented begins, at most as many begin at other inputs as there are inputs
  pub fair : (i : ℕ) → i < mux.inputs → (b c : ℕ) → b ≤ c → c ≤ count
      → IsTrue (presents (run.inputs i) b) → AcceptsNone (run.inputs i) b c
      → length (before (begun_elsewhere mux run i) c) ≤ length (before (begun_elsewhere mux run i) b) + mux.inputs
  -- a beat is accepted where beats wait
  pub accepts : (start : ℕ) → start + routing_window ≤ count
      → Throughout start routing_window (AreAllWaiting mux run)
      → Sometime start routing_window (λ c. SomeInput mux run (λ input. is_transfer direct input c))
  -- and one is delivered where symbols do
  pub delivers : (start : ℕ) → start + routing_window ≤ count
      → Throughout start routing_window (IsOwed mux run)
      → Sometime start routing_window (λ c. IsTrue (is_transfer direct run.output c))
