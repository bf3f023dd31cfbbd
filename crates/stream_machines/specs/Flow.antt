-- How an adapter passes symbols on, cycle by cycle: what it holds, what comes in and what goes out.
use Rattle.std.specs.Prelude.{ℕ, suc, ◌<◌, ◌≤◌, ◌≡◌, Bool, ◌&&◌, if◌then◌else◌, IsTrue, List, [], ◌++◌, map, length}
use Rattle.stream_runs.specs.View.{EndView, Side, is_high, is_transfer, IsReadyBefore}
use Rattle.stream_runs.specs.Symbols.{Symbol, without_error, shown_count, shown_symbols, symbols_in, joined_error}
use Rattle.stream_runs.specs.Source.{IsLegalSource, KeepsPace}
use Rattle.stream_machines.specs.Stage.{Shape, StageRun, gives, inside, RankMoves}

-- the passing symbols that come in in the cycle
abbrev pub kept_in : (ℕ → Bool) → Side → EndView → ℕ → List Symbol
kept_in passes side view c = if is_transfer side.pace view c && passes (view.channel c) then shown_symbols side view c else []

-- the passing symbols of the beat that is shown in the cycle
abbrev pub kept_shown : (ℕ → Bool) → Side → EndView → ℕ → List Symbol
kept_shown passes side view c = if is_high view.valid c && passes (view.channel c) then shown_symbols side view c else []

-- what is there and what comes in is what goes out and what is there then
pub record PassesOn (shape : Shape) (run : StageRun) (store : ℕ → List Symbol) (c : ℕ) : Type 0 where
  pub out : List Symbol
  pub split : store c ++ kept_in shape.passes shape.up run.up c ≡ out ++ store (suc c)
  pub same : map without_error out ≡ map without_error (symbols_in shape.down run.down c)
  pub joined : IsTrue (gives shape run c) → run.down.error c ≡ joined_error out
  pub some : IsTrue (gives shape run c) → 0 < shown_count shape.down run.down c
  pub few : length (store (suc c)) ≤ shape.hold

-- a shown beat holds the first symbols of what is there and what is shown upstream
pub record ShowsNext (shape : Shape) (run : StageRun) (store : ℕ → List Symbol) (c : ℕ) : Type 0 where
  pub front : List Symbol
  pub rest : List Symbol
  pub split : store c ++ kept_shown shape.passes shape.up run.up c ≡ front ++ rest
  pub same : map without_error front ≡ map without_error (shown_symbols shape.down run.down c)
  pub error : run.down.error c ≡ joined_error front
  pub some : 0 < shown_count shape.down run.down c

-- an adapter with a list of the symbols that it holds as each cycle begins
pub record IsFlow (shape : Shape) (run : StageRun) (store : ℕ → List Symbol) : Type 0 where
  pub starts : store 0 ≡ []
  pub passes_on : (c : ℕ) → IsLegalSource shape.up run.up (suc c)
      → (IsTrue shape.needs_ready → IsReadyBefore run.down (suc c)) → PassesOn shape run store c
  pub shows : (c : ℕ) → IsLegalSource shape.up run.up (suc c) → (IsTrue shape.needs_ready → IsReadyBefore run.down c)
      → IsTrue (is_high run.down.valid c) → ShowsNext shape run store c
  pub paced : (c : ℕ) → IsLegalSource shape.up run.up (suc c) → (IsTrue shape.needs_ready → IsReadyBefore run.down c)
      → KeepsPace shape.down.pace run.down c
  pub ranked : (c : ℕ) → IsLegalSource shape.up run.up (suc c)
      → (IsTrue shape.needs_ready → IsReadyBefore run.down (suc c)) → inside shape run c ≡ store c
      → RankMoves shape run c
