-- The law that each adapter keeps, over what its two sides show.
use Rattle.std.specs.Prelude.{ℕ, zero, suc, ◌+◌, ◌-◌, ◌*◌, ◌<◌, ◌≤◌, ◌≡◌, Bool, false, not, ◌&&◌, ◌||◌, ◌⊎◌, nat_lt, nat_le, IsTrue, IsFalse, List, length, if◌then◌else◌}
use Rattle.std.specs.List.{list_any}
use Rattle.stream_runs.specs.View.{EndView, Side, beat_at, is_high, is_ready_cycle, is_transfer, is_stalled, IsReadyBefore}
use Rattle.stream_runs.specs.Symbols.{Symbol, symbols_in}
use Rattle.stream_runs.specs.Source.{IsLegalSource, IsLegalAt}
use Rattle.stream_runs.specs.Delivery.{DeliversPrefix, LagsWithin}
use Rattle.stream_runs.specs.Awake.{undelivered}

-- what a stage promises of itself: its sides, the channels that it passes, how many symbols it may hold, how many it
-- may keep for good, how much a symbol may raise its rank, its largest rank, and whether its sink must always be ready
pub record Shape : Type 0 where
  pub up : Side
  pub down : Side
  pub passes : ℕ → Bool
  pub hold : ℕ
  pub rest : ℕ
  pub step : ℕ
  pub largest : ℕ
  pub needs_ready : Bool

-- a run of a stage: what its sides show, and its rank as each cycle begins
pub record StageRun : Type 0 where
  pub up : EndView
  pub down : EndView
  pub rank : ℕ → ℕ

-- the passing symbols that are in the stage as the cycle begins
abbrev pub inside : Shape → StageRun → ℕ → List Symbol
inside shape run c = undelivered shape.passes shape.up shape.down run.up run.down c

-- it has no symbol to give but what it may keep
abbrev pub is_drained : Shape → StageRun → ℕ → Bool
is_drained shape run c =
    nat_le (length (inside shape run c)) shape.rest && not (list_any (λ symbol. symbol.last) (inside shape run c))

-- it asks for beats, and has none to give
abbrev pub is_at_rest : Shape → StageRun → ℕ → Bool
is_at_rest shape run c = is_high run.up.ready c && is_drained shape run c

-- no beat waits to come in, and there is none to give
abbrev pub is_idle : Shape → StageRun → ℕ → Bool
is_idle shape run c = not (is_stalled shape.up.pace run.up c) && is_drained shape run c

-- both sides have a ready latency above 0
abbrev pub is_delayed : Shape → Bool
is_delayed shape = nat_lt 0 shape.up.pace.latency && nat_lt 0 shape.down.pace.latency

-- a beat goes out in the cycle
abbrev pub gives : Shape → StageRun → ℕ → Bool
gives shape run c = is_transfer shape.down.pace run.down c

-- a delayed stage that is at rest may raise its rank at will
abbrev pub is_exempt : Shape → StageRun → ℕ → Bool
is_exempt shape run c = is_at_rest shape run c && is_delayed shape

-- the rank shows in the cycle that the stage comes nearer to giving a beat
pub record RankMoves (shape : Shape) (run : StageRun) (c : ℕ) : Type 0 where
  pub bounded : run.rank c ≤ shape.largest
  pub stays : IsFalse (gives shape run c) → IsFalse (is_exempt shape run c) → run.rank (suc c) ≤ run.rank c
  pub falls : IsFalse (gives shape run c) → IsTrue (is_ready_cycle shape.down.pace run.down c)
      → IsFalse (is_at_rest shape run c) → run.rank (suc c) < run.rank c
  pub rises : IsTrue (gives shape run c) → IsFalse (is_exempt shape run c)
      → run.rank (suc c) ≤ run.rank c + shape.step * length (symbols_in shape.down run.down c)
  -- whatever ready does, while no beat is shown, at ready latency 0
  pub advances : shape.down.pace.latency ≡ 0 → IsFalse (is_high run.down.valid c) → IsFalse (is_idle shape run c)
      → run.rank (suc c) < run.rank c

-- what a stage keeps in the cycles before count
pub record StageLaw (shape : Shape) (run : StageRun) (count : ℕ) : Type 0 where
  pub prefix : DeliversPrefix shape.passes shape.up shape.down run.up run.down count
  pub hold : LagsWithin shape.hold shape.passes shape.up shape.down run.up run.down count
  pub rank : (c : ℕ) → c < count → RankMoves shape run c

-- the stage keeps its law as long as its upstream beats are legal, and its sink always ready where it needs that; its
-- beats are legal a cycle longer
pub record KeepsStageLaw (shape : Shape) (run : StageRun) : Type 0 where
  pub law : (count : ℕ) → IsLegalSource shape.up run.up count
      → (IsTrue shape.needs_ready → IsReadyBefore run.down count) → StageLaw shape run count
  pub legal : (c : ℕ) → IsLegalSource shape.up run.up (suc c) → (IsTrue shape.needs_ready → IsReadyBefore run.down c)
      → IsLegalAt shape.down run.down c

-- as long as the sink was always ready, the stage shows ready
abbrev pub PassesReady : Shape → StageRun → Type 0
PassesReady shape run =
    (c : ℕ) → IsLegalSource shape.up run.up (suc c) → IsReadyBefore run.down (suc c) → IsTrue (is_high run.up.ready c)

-- ready is shown upstream in each cycle in which no beat is shown downstream
abbrev pub AsksWhileIdle : EndView → EndView → Type 0
AsksWhileIdle up down = (c : ℕ) → IsFalse (is_high down.valid c) → IsTrue (is_high up.ready c)

-- the test passes every channel up to the side's largest
abbrev pub PassesAll : (ℕ → Bool) → Side → Type 0
PassesAll passes side = (channel : ℕ) → channel ≤ side.max_channel → IsTrue (passes channel)

-- two ends show the same, one in cycle b and the other in cycle c
pub record ShowAlike (one two : EndView) (b c : ℕ) : Type 0 where
  pub valid : one.valid b ≡ two.valid c
  pub beat : beat_at one b ≡ beat_at two c

-- the two parts fit: the sides between them agree, and every channel that passes the first passes the second
pub record Fits (first second : Shape) (one two : StageRun) : Type 0 where
  pub same_side : first.down ≡ second.up
  pub same_view : one.down ≡ two.up
  pub passed_on : (channel : ℕ) → IsTrue (first.passes channel) → IsTrue (second.passes channel)
  pub has_symbols : 0 < first.up.symbols
  -- the symbols per beat between the parts divide those of one end, so that no error reaches a beat that holds none of
  -- its symbols
  pub divides : (parts : ℕ) × ((first.up.symbols ≡ second.up.symbols * parts) ⊎ (second.down.symbols ≡ second.up.symbols * parts))
  -- an error that reaches the end passes the middle
  pub has_errors : 0 < second.down.error_bits → 0 < first.up.error_bits → 0 < second.up.error_bits
  -- before a delayed side the first part holds nothing, keeps the pace, and shows the ready that it sees
  pub delayed : IsTrue (nat_lt 0 second.up.pace.latency)
      → (first.hold ≡ 0) × (first.up.pace ≡ second.up.pace) × ((c : ℕ) → is_high one.up.ready c ≡ is_high two.up.ready c)
  -- a first part that needs an always ready sink has one
  pub always_ready : IsTrue first.needs_ready → PassesReady second two

-- a chain: its run, whose middle is the first part's downstream and the second part's upstream
abbrev pub chain_shape : Shape → Shape → Shape
chain_shape first second =
    record {
      up = first.up;
      down = second.down;
      passes = first.passes;
      hold = first.hold + second.hold;
      rest = first.rest + second.rest;
      step =
          if nat_lt 0 second.up.pace.latency then second.step
          else (if nat_le second.hold 0 then first.step + second.step else first.step + second.step + 1);
      largest =
          if nat_lt 0 second.up.pace.latency then second.largest
          else first.largest + second.largest + (first.step + 1) * second.hold;
      needs_ready = first.needs_ready || second.needs_ready;
    }

-- a shape that holds nothing, adds nothing to a rank, and needs no ready
pub record IsStill (shape : Shape) : Type 0 where
  pub hold : shape.hold ≡ 0
  pub rest : shape.rest ≡ 0
  pub step : shape.step ≡ 0
  pub largest : shape.largest ≡ 0
  pub needs_ready : shape.needs_ready ≡ false

-- the rank of a chain as the cycle begins
abbrev pub chain_rank : Shape → Shape → StageRun → StageRun → ℕ → ℕ
chain_rank first second one two c =
    if nat_lt 0 second.up.pace.latency
    then two.rank c
    else one.rank c + two.rank c + (first.step + 1) * (second.hold - length (inside second two c))

-- the run of a chain
abbrev pub chain_run : Shape → Shape → StageRun → StageRun → StageRun
chain_run first second one two = record { up = one.up; down = two.down; rank = chain_rank first second one two }

-- what a stage that passes each beat as it is promises, for ends of this side
abbrev pub pass_shape : (ℕ → Bool) → Side → Shape
pass_shape passes side =
    record
    { up = side; down = side; passes = passes; hold = 0; rest = 0; step = 0; largest = side.pace.latency; needs_ready = false }

-- in how many of the cycles just before this one, so many of them, ready was high
abbrev pub ready_cycles : ℕ → EndView → ℕ → ℕ
ready_cycles zero view c = 0
ready_cycles (suc length) view zero = 0
ready_cycles (suc length) view (suc c) = (if is_high view.ready c then 1 else 0) + ready_cycles length view c

-- its run: both sides show the same, and its rank is how many ready cycles are still to come of the ready that was shown
abbrev pub pass_run : Side → EndView → StageRun
pass_run side view = record { up = view; down = view; rank = ready_cycles side.pace.latency view }
