-- A rank keeps a stage awake.
use Rattle.std.proofs.Common.{◌≡◌, ◌⊎◌, ℕ, zero, suc, ◌+◌, ◌-◌, ◌*◌, ◌≤◌, ◌<◌, Bool, true, false, not, IsTrue, IsFalse, ◌||◌, ◌&&◌, [], filter, length, refl, ap, sym, ◌∙◌, subst, inl, inr, arith, length-append, length-drop, nat_lt, nat_le}
use Rattle.std.specs.List.{list_any}
use Rattle.std.proofs.lemmas.List.Elements.{filter-append}
use Rattle.std.proofs.lemmas.List.Sums.{length-filter, count_by-le-length}
use Rattle.std.proofs.lemmas.Bool.{cases_Bool, cases_lt, and_parts, and_from, and_left, and_right, or_cases, leb-true, lt-leb, lt-ltb, le-ltb, both_ways, cond-false}
use Rattle.std.proofs.Math.Nat.{mul-le-mul_left}
use Rattle.stream_runs.specs.Laws.{shorter_delivery, length_in, length_in_order, some_or_none}
use Rattle.stream_runs.specs.View.{EndView, Pace, Side, beat_at, is_high, is_transfer, is_ready_cycle}
use Rattle.stream_runs.specs.Symbols.{transferred_symbols, symbols_in, shown_symbols, kept_symbols, Symbol}
use Rattle.stream_runs.specs.Source.{IsLegalSource, beats_since_ready}
use Rattle.stream_machines.specs.ReadyCycles.{one_if, strict_shows}
use Rattle.stream_machines.specs.Allowances.{since, since_next, since_within, one_at_most}
use Rattle.stream_machines.proofs.BeatCounts.{held_within}
use Rattle.stream_runs.specs.Awake.{Throughout, Sometime, makes_beat, undelivered}
use Rattle.stream_machines.specs.Stage.{Shape, StageRun, inside, is_drained, is_at_rest, gives, StageLaw}

-- the law up to a cycle is the law up to each earlier one
pub shorter_law : (shape : Shape) (run : StageRun) (b c : ℕ) → b ≤ c → StageLaw shape run c → StageLaw shape run b
shorter_law shape run b c h law =
    record {
      prefix = shorter_delivery shape.passes shape.up shape.down run.up run.down b c h law.prefix;
      hold = λ d k. law.hold d (omega arith);
      rank = λ d k. law.rank d (omega arith);
    }

-- a stage that has a beat to give is not drained
undrained : (shape : Shape) (run : StageRun) (c : ℕ) → shape.rest < shape.down.symbols → makes_beat shape.down.symbols (inside shape run c) ≡ true → is_drained shape run c ≡ false
undrained shape run c small work = by_kind (or_cases _ _ work)
  where
    by_kind : (nat_le shape.down.symbols (length (inside shape run c)) ≡ true) ⊎ (list_any (λ (symbol : Symbol). symbol.last) (inside shape run c) ≡ true)
        → (nat_le (length (inside shape run c)) shape.rest && not (list_any (λ (symbol : Symbol). symbol.last) (inside shape run c))) ≡ false
    by_kind (inl many) = and_left _ _ (lt-leb (length (inside shape run c)) shape.rest (omega (arith, leb-true shape.down.symbols (length (inside shape run c)) many)))
    by_kind (inr marked) = and_right _ _ (ap not marked)

-- where a rank falls in each cycle of a window in which a test fails, the test holds in some cycle of a longer one
pub rank_ends : (rank : ℕ → ℕ) (test : ℕ → Bool) (start width : ℕ) → rank start < width
    → ((c : ℕ) → start ≤ c → c < start + width → test c ≡ false → rank (suc c) < rank c)
    → Sometime start width (λ c. IsTrue (test c))
rank_ends rank test start width long falls = found (some_or_none test start width)
  where
    fallen : Throughout start width (λ c. test c ≡ false) → (k : ℕ) → k ≤ width → rank (start + k) + k ≤ rank start
    fallen none zero h = let same : start ≡ start + 0 = omega arith in subst (λ n. rank n + 0 ≤ rank start) same (omega arith)
    fallen none (suc k) h =
        let earlier = fallen none k (omega arith) in
        let now = falls (start + k) (omega arith) (omega arith) (none (start + k) (omega arith) (omega arith)) in
        let next : suc (start + k) ≡ start + suc k = omega arith in
        subst (λ n. rank n + suc k ≤ rank start) next (omega (arith, earlier, now))

    found : Sometime start width (λ c. IsTrue (test c)) ⊎ Throughout start width (λ c. test c ≡ false) → Sometime start width (λ c. IsTrue (test c))
    found (inl held) = held
    found (inr none) = absurd (omega (arith, long, fallen none width (omega arith)))

-- in a window of ready cycles that is longer than the largest rank, a stage that has a beat to give throughout gives one
pub stage_delivers : (shape : Shape) (run : StageRun) (count : ℕ) → StageLaw shape run count → shape.rest < shape.down.symbols
    → (start width : ℕ) → start + width ≤ count → shape.largest < width
    → Throughout start width (λ c. IsTrue (is_ready_cycle shape.down.pace run.down c))
    → Throughout start width (λ c. IsTrue (makes_beat shape.down.symbols (undelivered shape.passes shape.up shape.down run.up run.down c)))
    → Sometime start width (λ c. IsTrue (is_transfer shape.down.pace run.down c))
stage_delivers shape run count law small start width h long ready work =
    rank_ends run.rank (is_transfer shape.down.pace run.down) start width (omega (arith, long, (law.rank start (omega arith)).bounded))
    (λ c from to quiet. (law.rank c (omega arith)).falls quiet (ready c from to) (and_right _ _ (undrained shape run c small (work c from to))))

-- and in one of any cycles, at ready latency 0, it shows one
pub stage_shows : (shape : Shape) (run : StageRun) (count : ℕ) → StageLaw shape run count → shape.rest < shape.down.symbols → shape.down.pace.latency ≡ 0
    → (start width : ℕ) → start + width ≤ count → shape.largest < width
    → Throughout start width (λ c. IsTrue (makes_beat shape.down.symbols (undelivered shape.passes shape.up shape.down run.up run.down c)))
    → Sometime start width (λ c. IsTrue (is_high run.down.valid c))
stage_shows shape run count law small direct start width h long work =
    rank_ends run.rank (is_high run.down.valid) start width (omega (arith, long, (law.rank start (omega arith)).bounded))
    (λ c from to low. (law.rank c (omega arith)).advances direct low (and_right _ _ (undrained shape run c small (work c from to))))

-- one that shows none, and before which a beat waits, takes one in
pub stage_frees : (shape : Shape) (run : StageRun) (count : ℕ) → StageLaw shape run count → shape.down.pace.latency ≡ 0
    → (start width : ℕ) → start + width ≤ count → shape.largest < width
    → Throughout start width (λ c. IsTrue (is_high run.up.valid c))
    → Throughout start width (λ c. IsFalse (is_high run.down.valid c))
    → Sometime start width (λ c. IsTrue (is_transfer shape.up.pace run.up c))
stage_frees shape run count law direct start width h long sent quiet =
    rank_ends run.rank (is_transfer shape.up.pace run.up) start width (omega (arith, long, (law.rank start (omega arith)).bounded))
    (λ c from to kept. (law.rank c (omega arith)).advances direct (quiet c from to) (and_left _ _ (ap not (and_from _ _ (sent c from to) (ap not kept)))))

-- what a stage that shows no ready can still do: its rank, and what it holds
abbrev pub work_left : Shape → StageRun → ℕ → ℕ
work_left shape run c = run.rank c + (shape.step + 1) * length (inside shape run c)

work_step : (step rank rank' held held' out more : ℕ) → held' + out ≤ held + more → rank' ≤ rank + step * out → rank' + (step + 1) * held' + out ≤ rank + (step + 1) * (held + more)
work_step step rank rank' held held' out more e h = omega (arith, h, mul-le-mul_left (step + 1) e)

-- how many beats transfer in so many cycles from this one on
abbrev comes_in : Pace → EndView → ℕ → ℕ → ℕ
comes_in pace view start zero = 0
comes_in pace view start (suc k) = comes_in pace view start k + one_if (is_transfer pace view (start + k))

module _ (shape : Shape) (run : StageRun) (count : ℕ) (law : StageLaw shape run count) where
  abbrev comes : ℕ → ℕ
  comes c = one_if (is_transfer shape.up.pace run.up c)

  -- a beat has no more symbols than its side says
  few_come : (c : ℕ) → length (symbols_in shape.up run.up c) ≤ shape.up.symbols * comes c
  few_come c = by_beat (is_transfer shape.up.pace run.up c) refl
    where
      by_beat : (b : Bool) → is_transfer shape.up.pace run.up c ≡ b → length (symbols_in shape.up run.up c) ≤ shape.up.symbols * one_if b
      by_beat true moves = let all = length_in shape.up run.up c moves in let few = held_within shape.up (beat_at run.up c) in omega (arith, all, few)
      by_beat false quiet = let none : length (symbols_in shape.up run.up c) ≡ 0 = ap length (cond-false (is_transfer shape.up.pace run.up c) (shown_symbols shape.up run.up c) [] quiet) in omega (arith, none)

  -- what goes out is missing, and no more comes in than a beat
  moved : (c : ℕ) → c < count → length (inside shape run (suc c)) + length (symbols_in shape.down run.down c) ≤ length (inside shape run c) + shape.up.symbols * comes c
  moved c h =
      let test = λ (symbol : Symbol). shape.passes symbol.channel in
      let split = ap length (filter-append test (transferred_symbols shape.up run.up c) (symbols_in shape.up run.up c)) ∙ length-append (filter test (transferred_symbols shape.up run.up c)) (filter test (symbols_in shape.up run.up c)) in
      let part = length-filter test (symbols_in shape.up run.up c) in
      let some = count_by-le-length test (symbols_in shape.up run.up c) in
      let later = length-drop (length (transferred_symbols shape.down run.down (suc c))) (kept_symbols shape.passes shape.up run.up (suc c)) in
      let now = length-drop (length (transferred_symbols shape.down run.down c)) (kept_symbols shape.passes shape.up run.up c) in
      let fits = length_in_order _ _ (law.prefix.in_order (suc c) h) in
      let fitted = length_in_order _ _ (law.prefix.in_order c (omega arith)) in
      let grown = length-append (transferred_symbols shape.down run.down c) (symbols_in shape.down run.down c) in
      omega (arith, split, part, some, later, now, fits, fitted, grown, few_come c)

  -- in a ready cycle in which no ready is shown upstream, less is left to do, but for the beat that comes in
  less_left : (c : ℕ) → c < count → is_high run.up.ready c ≡ false → is_ready_cycle shape.down.pace run.down c ≡ true
      → work_left shape run (suc c) < work_left shape run c + (shape.step + 1) * (shape.up.symbols * comes c)
  less_left c h shut ready = by_beat (cases_Bool (gives shape run c))
    where
      restless : is_at_rest shape run c ≡ false
      restless = and_left _ _ shut

      spread : (shape.step + 1) * (length (inside shape run c) + shape.up.symbols * comes c) ≡ (shape.step + 1) * length (inside shape run c) + (shape.step + 1) * (shape.up.symbols * comes c)
      spread = omega arith

      by_beat : (gives shape run c ≡ true) ⊎ (gives shape run c ≡ false) → work_left shape run (suc c) < work_left shape run c + (shape.step + 1) * (shape.up.symbols * comes c)
      by_beat (inl given) =
          let out = length_in shape.down run.down c given in
          let some = law.prefix.holds_data c h given in
          let step = work_step shape.step (run.rank c) (run.rank (suc c)) (length (inside shape run c)) (length (inside shape run (suc c))) (length (symbols_in shape.down run.down c)) (shape.up.symbols * comes c) (moved c h) ((law.rank c h).rises given (and_left _ _ restless)) in
          omega (arith, step, spread, out, some)
      by_beat (inr quiet) =
          let falls = (law.rank c h).falls quiet ready restless in
          let none : length (symbols_in shape.down run.down c) ≡ 0 = ap length (cond-false (is_transfer shape.down.pace run.down c) (shown_symbols shape.down run.down c) [] quiet) in
          let more : length (inside shape run (suc c)) ≤ length (inside shape run c) + shape.up.symbols * comes c = omega (arith, moved c h, none) in
          omega (arith, falls, spread, mul-le-mul_left (shape.step + 1) more)

  less_throughout : (start k : ℕ) → start + k ≤ count → ((c : ℕ) → start ≤ c → c < start + k → is_high run.up.ready c ≡ false)
      → ((c : ℕ) → start ≤ c → c < start + k → is_ready_cycle shape.down.pace run.down c ≡ true)
      → work_left shape run (start + k) + k ≤ work_left shape run start + (shape.step + 1) * (shape.up.symbols * comes_in shape.up.pace run.up start k)
  less_throughout start zero h shut ready = let same : start + 0 ≡ start = omega arith in subst (λ n. work_left shape run n + 0 ≤ work_left shape run start + (shape.step + 1) * (shape.up.symbols * 0)) (sym same) (omega arith)
  less_throughout start (suc k) h shut ready =
      let earlier = less_throughout start k (omega arith) (λ c from to. shut c from (omega arith)) (λ c from to. ready c from (omega arith)) in
      let next : suc (start + k) ≡ start + suc k = omega arith in
      let falls = less_left (start + k) (omega arith) (shut (start + k) (omega arith) (omega arith)) (ready (start + k) (omega arith) (omega arith)) in
      let all : (shape.step + 1) * (shape.up.symbols * (comes_in shape.up.pace run.up start k + comes (start + k))) ≡ (shape.step + 1) * (shape.up.symbols * comes_in shape.up.pace run.up start k) + (shape.step + 1) * (shape.up.symbols * comes (start + k)) = omega arith in
      subst (λ n. work_left shape run n + suc k ≤ work_left shape run start + (shape.step + 1) * (shape.up.symbols * (comes_in shape.up.pace run.up start k + comes (start + k)))) next (omega (arith, falls, earlier, all))

-- ---- what a legal source sends while no ready is shown

comes_within : (pace : Pace) (view : EndView) (start k : ℕ) → comes_in pace view start k ≤ k
comes_within pace view start zero = omega arith
comes_within pace view start (suc k) = let earlier = comes_within pace view start k in omega (arith, earlier, one_at_most (is_transfer pace view (start + k)))

-- where nothing comes after so many cycles, no more beats come
comes_until : (pace : Pace) (view : EndView) (start n k : ℕ) → ((c : ℕ) → start + n ≤ c → c < start + k → is_transfer pace view c ≡ false) → comes_in pace view start k ≤ n
comes_until pace view start n zero still = omega arith
comes_until pace view start n (suc k) still = by_time (cases_lt k n) (comes_until pace view start n k (λ c from to. still c from (omega arith)))
  where
    by_time : (k < n) ⊎ (n ≤ k) → comes_in pace view start k ≤ n → comes_in pace view start (suc k) ≤ n
    by_time (inl early) earlier = let few = comes_within pace view start (suc k) in omega (arith, few)
    by_time (inr late) earlier = let none = ap one_if (still (start + k) (omega arith) (omega arith)) in omega (arith, earlier, none)

module _ (side : Side) (view : EndView) (count start : ℕ) (legal : IsLegalSource side view count) where
  -- behind ready latency 0 it sends nothing
  none_direct : side.pace.latency ≤ 0 → (c : ℕ) → is_high view.ready c ≡ false → is_transfer side.pace view c ≡ false
  none_direct direct c shut = and_right _ _ (both (le-ltb 0 side.pace.latency direct) shut)
    where
      both : {a b : Bool} → a ≡ false → b ≡ false → (a || b) ≡ false
      both {a} {b} p q = rw (p, q) refl

  -- where the allowance is the latency, nothing once no ready was shown for so long
  none_late : 0 < side.pace.latency → side.pace.allowance ≡ side.pace.latency → (c : ℕ) → start + side.pace.latency ≤ c → c < count → ((b : ℕ) → start ≤ b → b ≤ c → is_high view.ready b ≡ false) → is_transfer side.pace view c ≡ false
  none_late delayed strict c late h shut = by_beat (cases_Bool (is_transfer side.pace view c))
    where
      by_beat : (is_transfer side.pace view c ≡ true) ⊎ (is_transfer side.pace view c ≡ false) → is_transfer side.pace view c ≡ false
      by_beat (inr still) = still
      by_beat (inl moves) =
          let shown = (and_parts (is_high view.valid c) (nat_lt 0 side.pace.latency || is_high view.ready c) moves).0 in
          let ready = (and_parts (nat_le side.pace.latency c) (is_high view.ready (c - side.pace.latency)) (strict_shows side.pace view c strict (lt-ltb 0 side.pace.latency delayed) ((legal c h).paced.allowed shown))).1 in
          absurd (both_ways _ (shut (c - side.pace.latency) (omega arith) (omega arith)) ready)

  -- each beat that comes counts against the allowance
  comes_since : (k : ℕ) → ((c : ℕ) → start ≤ c → c < start + k → is_high view.ready c ≡ false) → comes_in side.pace view start k ≤ since side.pace view (start + k)
  comes_since zero shut = omega arith
  comes_since (suc k) shut =
      let earlier = comes_since k (λ c from to. shut c from (omega arith)) in
      let low = shut (start + k) (omega arith) (omega arith) in
      let more : beats_since_ready side.pace view (start + k) ≡ since side.pace view (start + k) + one_if (is_transfer side.pace view (start + k)) = since_next side.pace view (start + k) ∙ cond-false (is_high view.ready (start + k)) 0 _ low in
      let next : suc (start + k) ≡ start + suc k = omega arith in
      subst (λ n. comes_in side.pace view start k + one_if (is_transfer side.pace view (start + k)) ≤ since side.pace view n) next (omega (arith, earlier, more))

  -- while no ready is shown, no more beats come than the allowance says
  comes_few : side.pace.latency ≤ side.pace.allowance → (k : ℕ) → start + k ≤ count → ((c : ℕ) → start ≤ c → c < start + k → is_high view.ready c ≡ false) → comes_in side.pace view start k ≤ side.pace.allowance
  comes_few ordered k h shut = by_pace (cases_lt 0 side.pace.latency) (cases_lt side.pace.latency side.pace.allowance)
    where
      by_pace : (0 < side.pace.latency) ⊎ (side.pace.latency ≤ 0) → (side.pace.latency < side.pace.allowance) ⊎ (side.pace.allowance ≤ side.pace.latency) → comes_in side.pace view start k ≤ side.pace.allowance
      by_pace (inr direct) any = let none = comes_until side.pace view start 0 k (λ c from to. none_direct direct c (shut c (omega arith) to)) in omega (arith, none)
      by_pace (inl delayed) (inl above) = omega (arith, comes_since k shut, since_within side view delayed above (start + k) (λ b below. legal b (omega arith)))
      by_pace (inl delayed) (inr strict) =
          let few = comes_until side.pace view start side.pace.latency k (λ c from to. none_late delayed (omega arith) c from (omega arith) (λ b first last. shut b first (omega arith))) in
          omega (arith, few)

-- in a window of ready cycles that is longer than all that a stage can still do, the beats of an allowance among it, the stage shows ready
pub stage_accepts : (shape : Shape) (run : StageRun) (count : ℕ) → StageLaw shape run count → IsLegalSource shape.up run.up count → shape.up.pace.latency ≤ shape.up.pace.allowance
    → (start width : ℕ) → start + width ≤ count → shape.largest + (shape.step + 1) * (shape.hold + shape.up.pace.allowance * shape.up.symbols) < width
    → Throughout start width (λ c. IsTrue (is_ready_cycle shape.down.pace run.down c))
    → Sometime start width (λ c. IsTrue (is_high run.up.ready c))
stage_accepts shape run count law legal ordered start width h long ready = found (some_or_none (is_high run.up.ready) start width)
  where
    held : length (inside shape run start) ≤ shape.hold
    held = omega (arith, length-drop (length (transferred_symbols shape.down run.down start)) (kept_symbols shape.passes shape.up run.up start), law.hold start (omega arith))

    found : Sometime start width (λ c. IsTrue (is_high run.up.ready c)) ⊎ Throughout start width (λ c. is_high run.up.ready c ≡ false) → Sometime start width (λ c. IsTrue (is_high run.up.ready c))
    found (inl shown) = shown
    found (inr shut) =
        let less = less_throughout shape run count law start width h shut ready in
        let come : shape.up.symbols * comes_in shape.up.pace run.up start width ≤ shape.up.symbols * shape.up.pace.allowance = mul-le-mul_left shape.up.symbols (comes_few shape.up run.up count start legal ordered width h shut) in
        let sum : length (inside shape run start) + shape.up.symbols * comes_in shape.up.pace run.up start width ≤ shape.hold + shape.up.pace.allowance * shape.up.symbols = omega (arith, held, come) in
        let product : (shape.step + 1) * (length (inside shape run start) + shape.up.symbols * comes_in shape.up.pace run.up start width) ≤ (shape.step + 1) * (shape.hold + shape.up.pace.allowance * shape.up.symbols) = mul-le-mul_left (shape.step + 1) sum in
        let spread : (shape.step + 1) * (length (inside shape run start) + shape.up.symbols * comes_in shape.up.pace run.up start width) ≡ (shape.step + 1) * length (inside shape run start) + (shape.step + 1) * (shape.up.symbols * comes_in shape.up.pace run.up start width) = omega arith in
        absurd (omega (arith, (law.rank start (omega arith)).bounded, product, spread, less))
