-- How long a stream may stand still.
use Rattle.std.specs.Prelude.{ℕ, ◌+◌, ◌-◌, ◌*◌, ◌<◌, ◌≤◌, ◌≡◌, Bool, ◌||◌, ◌==◌, nat_le, if◌then◌else◌, IsTrue, IsFalse, List, [], ◌∷◌, length, drop}
use Rattle.std.specs.List.{list_any}
use Rattle.stream_runs.specs.View.{EndView, Side, is_high, is_ready_cycle, is_transfer}
use Rattle.stream_runs.specs.Symbols.{Symbol, delivered_symbols, kept_symbols}
use Rattle.stream_runs.specs.Delivery.{reaches, Stream, StreamRun, IsServed, larger_allowance, stream_lag}

-- the fact holds in each cycle of the window
abbrev pub Throughout : ℕ → ℕ → (ℕ → Type 0) → Type 0
Throughout start length P = (c : ℕ) → start ≤ c → c < start + length → P c

-- the fact holds in some cycle of the window
abbrev pub Sometime : ℕ → ℕ → (ℕ → Type 0) → Type 0
Sometime start length P = (c : ℕ) × (start ≤ c) × (c < start + length) × P c

-- how many cycles a window has
abbrev pub stream_window : Stream → ℕ
stream_window stream = 8 * (stream_lag stream + 2 * larger_allowance stream + 8)

-- the kept symbols that were not delivered before the cycle
abbrev pub undelivered : (ℕ → Bool) → Side → Side → EndView → EndView → ℕ → List Symbol
undelivered passes source sink from to c = drop (length (delivered_symbols sink to c)) (kept_symbols passes source from c)

-- the symbols that are on their way as the cycle begins
abbrev pub on_the_way : Stream → StreamRun → ℕ → List Symbol
on_the_way stream run c = undelivered (reaches stream.sink) stream.source stream.sink run.source run.sink c

-- the symbols fill a beat, or end a packet
abbrev pub makes_beat : ℕ → List Symbol → Bool
makes_beat size symbols = nat_le size (length symbols) || list_any (λ symbol. symbol.last) symbols

-- how many beats of this size the symbols fill or begin, where the beat that is begun has room for so many more
abbrev pub beats_with_room : ℕ → ℕ → List Symbol → ℕ
beats_with_room size room [] = 0
beats_with_room size room (symbol ∷ symbols) =
    if (room == 0) || symbol.first
    then 1 + beats_with_room size (if symbol.last then 0 else size - 1) symbols
    else beats_with_room size (if symbol.last then 0 else room - 1) symbols

-- how many beats of this size the symbols fill or begin
abbrev pub beats_begun : ℕ → List Symbol → ℕ
beats_begun size symbols = beats_with_room size 0 symbols

-- in each window of this length that ends by the cycle, a stream whose sink lets it go on goes on
pub record NeverIdles (window : ℕ) (stream : Stream) (run : StreamRun) (count : ℕ) : Type 0 where
  -- where a beat is there throughout, one is delivered
  pub delivers : (start : ℕ) → start + window ≤ count
      → Throughout start window (λ c. IsTrue (is_ready_cycle stream.sink.pace run.sink c))
      → Throughout start window (λ c. IsTrue (makes_beat stream.sink.symbols (on_the_way stream run c)))
      → Sometime start window (λ c. IsTrue (is_transfer stream.sink.pace run.sink c))
  -- the source sees ready
  pub accepts : (start : ℕ) → start + window ≤ count
      → Throughout start window (λ c. IsTrue (is_ready_cycle stream.sink.pace run.sink c))
      → Sometime start window (λ c. IsTrue (is_high run.source.ready c))
  -- whatever the sink does, the source sees ready while the queue has room
  pub takes_in : (start : ℕ) → start + window ≤ count
      → Throughout start window (λ c. beats_begun stream.sink.symbols (on_the_way stream run c) + stream.source.symbols
      ≤ stream.fifo_depth)
      → Sometime start window (λ c. IsTrue (is_high run.source.ready c))
  -- whatever the sink does, where a beat is there throughout one is shown, at ready latency 0
  pub shows : stream.sink.pace.latency ≡ 0 → (start : ℕ) → start + window ≤ count
      → Throughout start window (λ c. IsTrue (makes_beat stream.sink.symbols (on_the_way stream run c)))
      → Sometime start window (λ c. IsTrue (is_high run.sink.valid c))
  -- and where the source shows beats throughout and none is shown to the sink, one is accepted
  pub frees : stream.sink.pace.latency ≡ 0 → (start : ℕ) → start + window ≤ count
      → Throughout start window (λ c. IsTrue (is_high run.source.valid c))
      → Throughout start window (λ c. IsFalse (is_high run.sink.valid c))
      → Sometime start window (λ c. IsTrue (is_transfer stream.source.pace run.source c))

-- a stream that is served and never idles
pub record IsServedAwake (stream : Stream) (run : StreamRun) (count : ℕ) : Type 0 where
  pub served : IsServed stream run count
  pub awake : NeverIdles (stream_window stream) stream run count

-- in each stretch of so many cycles that ends by the cycle, a sink to which a beat is shown throughout shows ready
abbrev pub AnswersWithin : ℕ → EndView → ℕ → Type 0
AnswersWithin patience view count =
    (start : ℕ) → start + patience ≤ count
    → Throughout start patience (λ c. IsTrue (is_high view.valid c))
    → Sometime start patience (λ c. IsTrue (is_high view.ready c))
