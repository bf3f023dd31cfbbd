-- Ends with ready latency 0, and stages at rest.
use Rattle.std.proofs.Common.{◌≡◌, ℕ, ◌-◌, ◌≤◌, Bool, true, false, cond, not, IsTrue, ◌&&◌, ◌||◌, List, [], length, refl, ap, sym, subst, arith, nat_lt, nat_le}
use Rattle.std.specs.List.{list_any}
use Rattle.std.proofs.lemmas.Bool.{and_parts, and_from, and_left, or_right, le-ltb, le-leb, cond-true}
use Rattle.stream_runs.specs.View.{Pace, EndView, Side, is_high, is_transfer, is_stalled, is_ready_cycle}
use Rattle.stream_runs.specs.Symbols.{Symbol, shown_symbols, symbols_in}
use Rattle.stream_runs.specs.Source.{IsLegalAt}
use Rattle.stream_machines.specs.Stage.{Shape, StageRun, inside, is_drained, is_at_rest, is_idle}
use Rattle.stream_machines.specs.Flow.{kept_in, kept_shown}

-- at ready latency 0 a beat passes where valid and ready are high
pub direct_transfer : (pace : Pace) (view : EndView) (c : ℕ) → pace.latency ≡ 0 → is_transfer pace view c ≡ (is_high view.valid c && is_high view.ready c)
direct_transfer pace view c direct =
    let none : nat_lt 0 pace.latency ≡ false = le-ltb 0 pace.latency (omega arith) in
    ap (λ b. is_high view.valid c && (b || is_high view.ready c)) none

pub direct_ready : (pace : Pace) (view : EndView) (c : ℕ) → pace.latency ≡ 0 → is_ready_cycle pace view c ≡ true → is_high view.ready c ≡ true
direct_ready pace view c direct ready =
    let same : c - pace.latency ≡ c = omega arith in
    subst (λ n. is_high view.ready n ≡ true) same (and_parts (nat_le pace.latency c) (is_high view.ready (c - pace.latency)) ready).1

pub ready_at_once : (pace : Pace) (view : EndView) (c : ℕ) → pace.latency ≡ 0 → is_high view.ready c ≡ true → is_ready_cycle pace view c ≡ true
ready_at_once pace view c direct ready =
    let same : c ≡ c - pace.latency = omega arith in
    and_from _ _ (le-leb pace.latency c (omega arith)) (subst (λ n. is_high view.ready n ≡ true) same ready)

-- no beat waits where none is shown, or where one that is shown transfers
pub none_waits : (pace : Pace) (view : EndView) (c : ℕ) → is_high view.valid c ≡ false → is_stalled pace view c ≡ false
none_waits pace view c low = and_left _ _ low

pub open_frees : (pace : Pace) (view : EndView) (c : ℕ) → (nat_lt 0 pace.latency || is_high view.ready c) ≡ true → is_stalled pace view c ≡ false
open_frees pace view c goes = by_ports (is_high view.valid c) (nat_lt 0 pace.latency || is_high view.ready c) goes
  where
    by_ports : (v o : Bool) → o ≡ true → (v && not (v && o)) ≡ false
    by_ports false o e = refl
    by_ports true o e = ap not e

pub ready_frees : (pace : Pace) (view : EndView) (c : ℕ) → is_high view.ready c ≡ true → is_stalled pace view c ≡ false
ready_frees pace view c ready = open_frees pace view c (or_right _ _ ready)

-- a stage that holds few symbols, none with a last mark, is drained
pub drained_with : (shape : Shape) (run : StageRun) (c : ℕ) (xs : List Symbol) → inside shape run c ≡ xs → length xs ≤ shape.rest
    → list_any (λ (symbol : Symbol). symbol.last) xs ≡ false → is_drained shape run c ≡ true
drained_with shape run c xs is few unmarked =
    let none : (nat_le (length xs) shape.rest && not (list_any (λ (symbol : Symbol). symbol.last) xs)) ≡ true = and_from _ _ (le-leb (length xs) shape.rest few) (ap not unmarked) in
    subst (λ (ys : List Symbol). (nat_le (length ys) shape.rest && not (list_any (λ (symbol : Symbol). symbol.last) ys)) ≡ true) (sym is) none

-- one that shows ready besides is at rest
pub rests_with : (shape : Shape) (run : StageRun) (c : ℕ) (xs : List Symbol) → inside shape run c ≡ xs → is_high run.up.ready c ≡ true → length xs ≤ shape.rest
    → list_any (λ (symbol : Symbol). symbol.last) xs ≡ false → is_at_rest shape run c ≡ true
rests_with shape run c xs is ready few unmarked = and_from _ _ ready (drained_with shape run c xs is few unmarked)

-- one before which no beat waits, and that holds few symbols, none with a last mark, is idle
pub idle_with : (shape : Shape) (run : StageRun) (c : ℕ) (xs : List Symbol) → inside shape run c ≡ xs → is_stalled shape.up.pace run.up c ≡ false → length xs ≤ shape.rest
    → list_any (λ (symbol : Symbol). symbol.last) xs ≡ false → is_idle shape run c ≡ true
idle_with shape run c xs is free few unmarked = and_from _ _ (ap not free) (drained_with shape run c xs is few unmarked)

-- all that comes in passes the test
pub kept_in_all : (passes : ℕ → Bool) (side : Side) (view : EndView) (c : ℕ) → IsLegalAt side view c → ((channel : ℕ) → channel ≤ side.max_channel → IsTrue (passes channel)) → kept_in passes side view c ≡ symbols_in side view c
kept_in_all passes side view c legal all_pass = by_transfer (is_transfer side.pace view c) refl
  where
    by_transfer : (b : Bool) → is_transfer side.pace view c ≡ b → cond (b && passes (view.channel c)) (shown_symbols side view c) [] ≡ cond b (shown_symbols side view c) []
    by_transfer false stays = refl
    by_transfer true moves =
        let shown = (and_parts (is_high view.valid c) (nat_lt 0 side.pace.latency || is_high view.ready c) moves).0 in
        cond-true (passes (view.channel c)) (shown_symbols side view c) [] (all_pass (view.channel c) (legal.formed shown).in_range)

pub kept_shown_all : (passes : ℕ → Bool) (side : Side) (view : EndView) (c : ℕ) → IsLegalAt side view c → ((channel : ℕ) → channel ≤ side.max_channel → IsTrue (passes channel)) → is_high view.valid c ≡ true → kept_shown passes side view c ≡ shown_symbols side view c
kept_shown_all passes side view c legal all_pass shown =
    cond-true _ (shown_symbols side view c) [] (and_from _ _ shown (all_pass (view.channel c) (legal.formed shown).in_range))

pub or_none : (a b : Bool) → (a || b) ≡ false → (a ≡ false) × (b ≡ false)
or_none true b e = absurd (cc)
or_none false b e = (refl, e)
