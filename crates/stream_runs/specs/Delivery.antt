-- What a sink is given of what its source sent.
use Rattle.std.specs.Prelude.{ℕ, suc, ◌+◌, ◌*◌, ◌<◌, ◌≤◌, ◌≡◌, Bool, ◌&&◌, nat_le, nat_lt, max, IsTrue, List, map, length, take, drop}
use Rattle.histories.specs.History.{IsPrefix}
use Rattle.stream_runs.specs.View.{EndView, Side, is_high, is_transfer, AgreeBefore}
use Rattle.stream_runs.specs.Symbols.{Symbol, without_error, shown_count, delivered_symbols, kept_symbols, joined_error}
use Rattle.stream_runs.specs.Source.{IsProperAtSink}

-- the kept symbols at the places of those that the sink's beat of this cycle holds
abbrev pub matched_symbols : (ℕ → Bool) → Side → Side → EndView → EndView → ℕ → List Symbol
matched_symbols passes source sink from to c =
    take (shown_count sink to c) (drop (length (delivered_symbols sink to c)) (kept_symbols passes source from (suc c)))

-- in the cycles before count, what the sink is given is a prefix of what is kept of the source's symbols
pub record DeliversPrefix (passes : ℕ → Bool) (source sink : Side) (from to : EndView) (count : ℕ) : Type 0 where
  -- in data, channel and marks
  pub in_order : (c : ℕ) → c ≤ count
      → IsPrefix (map without_error (delivered_symbols sink to c)) (map without_error (kept_symbols passes source from c))
  -- each beat holds a symbol
  pub holds_data : (c : ℕ) → c < count → IsTrue (is_transfer sink.pace to c) → 0 < shown_count sink to c
  -- at a sink with error, the error of a beat is that of all source beats whose symbols it holds
  pub errors : 0 < sink.error_bits → (c : ℕ) → c < count → IsTrue (is_transfer sink.pace to c)
      → to.error c ≡ joined_error (matched_symbols passes source sink from to c)

-- no more symbols than this were kept and not delivered, at each moment up to the cycle
abbrev pub LagsWithin : ℕ → (ℕ → Bool) → Side → Side → EndView → EndView → ℕ → Type 0
LagsWithin limit passes source sink from to count =
    (c : ℕ) → c ≤ count → length (kept_symbols passes source from c) ≤ length (delivered_symbols sink to c) + limit

-- the channels that a sink takes
abbrev pub reaches : Side → ℕ → Bool
reaches sink channel = nat_le channel sink.max_channel

-- in the cycles before count, dropped is high exactly where a source beat on a channel above the sink's is accepted
abbrev pub ShowsDropped : Side → Side → EndView → (ℕ → ℕ) → ℕ → Type 0
ShowsDropped source sink from dropped count =
    (c : ℕ) → c < count → is_high dropped c ≡ (is_transfer source.pace from c && nat_lt sink.max_channel (from.channel c))

-- a stream: what is declared of its two ends, and the beats of its queue
pub record Stream : Type 0 where
  pub source : Side
  pub sink : Side
  pub fifo_depth : ℕ

-- a run of a stream: what its two ends show, and its port dropped
pub record StreamRun : Type 0 where
  pub source : EndView
  pub sink : EndView
  pub dropped : ℕ → ℕ

-- two runs of a stream show the same in each cycle before this one
pub record RunsAgreeBefore (one two : StreamRun) (count : ℕ) : Type 0 where
  pub source : AgreeBefore one.source two.source count
  pub sink : AgreeBefore one.sink two.sink count
  pub dropped : (c : ℕ) → c < count → one.dropped c ≡ two.dropped c

-- the larger allowance of the two ends
abbrev pub larger_allowance : Stream → ℕ
larger_allowance stream = max stream.source.pace.allowance stream.sink.pace.allowance

-- how many kept symbols may be on their way
abbrev pub stream_lag : Stream → ℕ
stream_lag stream = stream.source.symbols * (larger_allowance stream + 3) + stream.sink.symbols * (stream.fifo_depth + 3)

-- in the cycles before count the stream is served: the sink is given a prefix of what its channels let through, with
-- its errors and at most so late, by the rules of ready, and dropped shows what doesn't reach it
pub record IsServed (stream : Stream) (run : StreamRun) (count : ℕ) : Type 0 where
  pub delivers : DeliversPrefix (reaches stream.sink) stream.source stream.sink run.source run.sink count
  pub lags : LagsWithin (stream_lag stream) (reaches stream.sink) stream.source stream.sink run.source run.sink count
  pub proper : IsProperAtSink stream.sink run.sink count
  pub drops : ShowsDropped stream.source stream.sink run.source run.dropped count
