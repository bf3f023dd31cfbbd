-- Machines that hold no symbol keep the law of a stage.
use Rattle.std.proofs.Common.{◌≡◌, ◌⊎◌, ℕ, zero, suc, ◌+◌, ◌-◌, ◌≤◌, ◌<◌, Bool, true, false, cond, not, IsTrue, ◌&&◌, ◌||◌, List, [], ◌∷◌, map, length, refl, ap, sym, ◌∙◌, subst, inl, inr, arith, eqb, nat_lt, nat_le}
use Rattle.std.specs.List.{range_with_len}
use Rattle.std.proofs.lemmas.List.{append-nil, length-map}
use Rattle.std.proofs.lemmas.List.FromFn.{length-map-range_with_len}
use Rattle.std.proofs.lemmas.Bool.{cases_Bool, cases_lt, and_parts, and_from, and_left, or_left, or_right, cond-true, cond-false, eq-eqb, eqb-true, both_ways, lt-ltb, le-leb, lt-leb, le-ltb, ne_eqb, leb-true}
use Rattle.stream_runs.specs.Laws.{shown_holds, joined_error_of_beat}
use Rattle.stream_runs.specs.View.{Pace, EndView, Side, Beat, beat_at, is_high, is_transfer, is_stalled, is_ready_cycle, IsReadyBefore}
use Rattle.stream_runs.specs.Symbols.{Symbol, without_error, symbol_in, symbols_of, symbol_count, shown_count, shown_symbols, value_of}
use Rattle.stream_runs.specs.Source.{IsLegalSource, IsLegalAt, IsHeld, ShowsSame, KeepsPace, may_show, was_ready, beats_since_ready, is_allowed_late}
use Rattle.stream_machines.specs.Stage.{Shape, StageRun, KeepsStageLaw, PassesReady, PassesAll, AsksWhileIdle, RankMoves, inside, gives, is_at_rest, is_delayed, ready_cycles}
use Rattle.stream_machines.specs.Flow.{IsFlow, PassesOn}
use Rattle.stream_machines.specs.Parts.{plain_run}
use Rattle.stream_machines.specs.Buffers.{zero_pace, direct_side}
use Rattle.stream_machines.specs.Wires.{wire_shape, wire_run, filtered_side, IsFilterRun, delayed_side, IsDelayRun, IsTieRun, with_error_bits, IsErrorTieRun, IsClearRun, turned_side, IsReorderRun}
use Rattle.stream_machines.specs.Words.{cleared_word, cleared_beat, HasClearEmpty}
use Rattle.stream_machines.proofs.WordLemmas.{cleared_kept, cleared_empty}
use Rattle.stream_machines.proofs.FlowLaw.{no_rank}
use Rattle.stream_machines.proofs.FlowKeeps.{flow_keeps}
use Rattle.stream_machines.proofs.Direct.{direct_transfer, rests_with, idle_with, none_waits, ready_frees}
use Rattle.stream_machines.specs.ReadyCycles.{one_if, ready_cycles_step, ready_cycles_le, comes_in_ready}

-- what a machine that holds nothing keeps to in a cycle
pub record IsWire (shape : Shape) (run : StageRun) (c : ℕ) : Type 0 where
  pub moves : gives shape run c ≡ (is_transfer shape.up.pace run.up c && shape.passes (run.up.channel c))
  pub symbols : IsTrue (gives shape run c) → map without_error (shown_symbols shape.up run.up c) ≡ map without_error (shown_symbols shape.down run.down c)
  pub error : IsTrue (gives shape run c) → run.down.error c ≡ run.up.error c

-- and where it shows a beat
pub record ShowsThrough (shape : Shape) (run : StageRun) (c : ℕ) : Type 0 where
  pub valid : (is_high run.up.valid c && shape.passes (run.up.channel c)) ≡ true
  pub symbols : map without_error (shown_symbols shape.up run.up c) ≡ map without_error (shown_symbols shape.down run.down c)
  pub error : run.down.error c ≡ run.up.error c

length_shown : (side : Side) (view : EndView) (c : ℕ) → length (map without_error (shown_symbols side view c)) ≡ shown_count side view c
length_shown side view c = length-map (shown_symbols side view c) without_error ∙ length-map-range_with_len (symbol_in side (beat_at view c)) 0 (shown_count side view c)

module _ (shape : Shape) (run : StageRun) (positive : 0 < shape.up.symbols)
    (wire : (c : ℕ) → IsLegalSource shape.up run.up (suc c) → (IsTrue shape.needs_ready → IsReadyBefore run.down (suc c)) → IsWire shape run c)
    (through : (c : ℕ) → IsLegalSource shape.up run.up (suc c) → (IsTrue shape.needs_ready → IsReadyBefore run.down c) → IsTrue (is_high run.down.valid c) → ShowsThrough shape run c)
    (paced : (c : ℕ) → IsLegalSource shape.up run.up (suc c) → (IsTrue shape.needs_ready → IsReadyBefore run.down c) → KeepsPace shape.down.pace run.down c)
    (ranked : (c : ℕ) → IsLegalSource shape.up run.up (suc c) → (IsTrue shape.needs_ready → IsReadyBefore run.down (suc c)) → inside shape run c ≡ [] → RankMoves shape run c) where
  nothing : ℕ → List Symbol
  nothing c = []

  wire_passes_on : (c : ℕ) → IsLegalSource shape.up run.up (suc c) → IsWire shape run c → PassesOn shape run nothing c
  unfolding nothing
  wire_passes_on c legal w = by_gives (is_transfer shape.up.pace run.up c && shape.passes (run.up.channel c)) w.moves
    where
      by_gives : (b : Bool) → gives shape run c ≡ b → PassesOn shape run nothing c
      by_gives true moves =
          let came : (is_transfer shape.up.pace run.up c && shape.passes (run.up.channel c)) ≡ true = sym w.moves ∙ moves in
          let shown : is_high run.up.valid c ≡ true = (and_parts (is_high run.up.valid c) (nat_lt 0 shape.up.pace.latency || is_high run.up.ready c) (and_parts (is_transfer shape.up.pace run.up c) _ came).0).0 in
          let some : 0 < shown_count shape.up run.up c = shown_holds shape.up run.up positive c (legal c (omega arith)) shown in
          record {
            out = shown_symbols shape.up run.up c;
            split = cond-true _ (shown_symbols shape.up run.up c) [] came ∙ sym (append-nil (shown_symbols shape.up run.up c));
            same = w.symbols moves ∙ ap (map without_error) (sym (cond-true (gives shape run c) (shown_symbols shape.down run.down c) [] moves));
            joined = λ _. w.error moves ∙ sym (joined_error_of_beat shape.up (beat_at run.up c) some);
            some = λ _. omega (arith, some, sym (length_shown shape.up run.up c) ∙ (ap length (w.symbols moves) ∙ length_shown shape.down run.down c));
            few = omega arith;
          }
      by_gives false quiet =
          record {
            out = [];
            split = cond-false _ (shown_symbols shape.up run.up c) [] (sym w.moves ∙ quiet);
            same = ap (map without_error) (sym (cond-false (gives shape run c) (shown_symbols shape.down run.down c) [] quiet));
            joined = λ moves. absurd (both_ways _ quiet moves);
            some = λ moves. absurd (both_ways _ quiet moves);
            few = omega arith;
          }

  wire_flow : IsFlow shape run nothing
  unfolding nothing
  wire_flow =
      record {
        starts = refl;
        passes_on = λ c legal ready. wire_passes_on c legal (wire c legal ready);
        shows = λ c legal ready valid.
            let t = through c legal ready valid in
            record {
              front = shown_symbols shape.up run.up c;
              rest = [];
              split = cond-true _ (shown_symbols shape.up run.up c) [] t.valid ∙ sym (append-nil (shown_symbols shape.up run.up c));
              same = t.symbols;
              error = t.error ∙ sym (joined_error_of_beat shape.up (beat_at run.up c) (shown_holds shape.up run.up positive c (legal c (omega arith)) (and_parts (is_high run.up.valid c) _ t.valid).0));
              some = omega (arith, shown_holds shape.up run.up positive c (legal c (omega arith)) (and_parts (is_high run.up.valid c) _ t.valid).0, sym (length_shown shape.up run.up c) ∙ (ap length t.symbols ∙ length_shown shape.down run.down c));
            };
        paced = paced;
        ranked = ranked;
      }

  pub wire_keeps : shape.up.packets ≡ shape.down.packets → (shape.down.error_bits ≡ 0 → shape.up.error_bits ≡ 0) → ((channel : ℕ) → channel ≤ shape.up.max_channel → IsTrue (shape.passes channel) → channel ≤ shape.down.max_channel) → KeepsStageLaw shape run
  wire_keeps packets no_errors within = flow_keeps shape run nothing wire_flow positive packets no_errors within

-- ---- the rank of a machine that holds nothing

-- the sink's ready cycles are those of the source, both ready latencies are above 0, or the upstream one is 0, and no beat
-- waits while none is shown
pub delayed_rank : (passes : ℕ → Bool) (up_side down_side : Side) (needs_ready : Bool) (up down : EndView) (c : ℕ)
    → inside (wire_shape passes up_side down_side up_side.pace.latency needs_ready) (wire_run up_side up down) c ≡ []
    → (0 < up_side.pace.latency → 0 < down_side.pace.latency)
    → (is_ready_cycle down_side.pace down c ≡ true → is_ready_cycle up_side.pace up c ≡ true)
    → (down_side.pace.latency ≡ 0 → is_high down.valid c ≡ false → is_stalled up_side.pace up c ≡ false)
    → RankMoves (wire_shape passes up_side down_side up_side.pace.latency needs_ready) (wire_run up_side up down) c
delayed_rank passes up_side down_side needs_ready up down c none both_delayed ready_too free =
    record {
      bounded = ready_cycles_le up_side.pace.latency up c;
      stays = λ quiet moving. stays moving (cases_Bool (is_high up.ready c)) (cases_lt 0 up_side.pace.latency);
      falls = λ quiet ready restless. falls (ready_too ready) (not_ready restless (cases_Bool (is_high up.ready c)));
      rises = λ given moving. omega (arith, stays moving (cases_Bool (is_high up.ready c)) (cases_lt 0 up_side.pace.latency));
      advances = λ direct low busy. absurd (both_ways _ busy (idle_with (wire_shape passes up_side down_side up_side.pace.latency needs_ready) (wire_run up_side up down) c [] none (free direct low) (omega arith) refl));
    }
  where
    step : ready_cycles up_side.pace.latency up (suc c) + one_if (is_ready_cycle up_side.pace up c) ≡ ready_cycles up_side.pace.latency up c + one_if (is_high up.ready c)
    step = ready_cycles_step up_side.pace.latency up c

    rest_is : is_high up.ready c ≡ true → is_at_rest (wire_shape passes up_side down_side up_side.pace.latency needs_ready) (wire_run up_side up down) c ≡ true
    rest_is ready = rests_with (wire_shape passes up_side down_side up_side.pace.latency needs_ready) (wire_run up_side up down) c [] none ready (omega arith) refl

    not_ready : is_at_rest (wire_shape passes up_side down_side up_side.pace.latency needs_ready) (wire_run up_side up down) c ≡ false → (is_high up.ready c ≡ true) ⊎ (is_high up.ready c ≡ false) → is_high up.ready c ≡ false
    not_ready restless (inl ready) = absurd (both_ways _ restless (rest_is ready))
    not_ready restless (inr low) = low

    falls : is_ready_cycle up_side.pace up c ≡ true → is_high up.ready c ≡ false → ready_cycles up_side.pace.latency up (suc c) < ready_cycles up_side.pace.latency up c
    falls ready low =
        let s : ready_cycles up_side.pace.latency up (suc c) + 1 ≡ ready_cycles up_side.pace.latency up c + 0 =
        subst (λ b. ready_cycles up_side.pace.latency up (suc c) + one_if b ≡ ready_cycles up_side.pace.latency up c + 0) ready
        (subst (λ b. ready_cycles up_side.pace.latency up (suc c) + one_if (is_ready_cycle up_side.pace up c) ≡ ready_cycles up_side.pace.latency up c + one_if b) low step) in
        omega (arith, s)

    stays : (is_at_rest (wire_shape passes up_side down_side up_side.pace.latency needs_ready) (wire_run up_side up down) c && is_delayed (wire_shape passes up_side down_side up_side.pace.latency needs_ready)) ≡ false
        → (is_high up.ready c ≡ true) ⊎ (is_high up.ready c ≡ false) → (0 < up_side.pace.latency) ⊎ (up_side.pace.latency ≤ 0) → ready_cycles up_side.pace.latency up (suc c) ≤ ready_cycles up_side.pace.latency up c
    stays moving (inr low) l =
        let s : ready_cycles up_side.pace.latency up (suc c) + one_if (is_ready_cycle up_side.pace up c) ≡ ready_cycles up_side.pace.latency up c + 0 =
        subst (λ b. ready_cycles up_side.pace.latency up (suc c) + one_if (is_ready_cycle up_side.pace up c) ≡ ready_cycles up_side.pace.latency up c + one_if b) low step in
        omega (arith, s)
    stays moving (inl ready) (inr direct) = omega (arith, ready_cycles_le up_side.pace.latency up (suc c))
    stays moving (inl ready) (inl delayed) =
        absurd (both_ways _ moving (and_from _ _ (rest_is ready) (and_from _ _ (lt-ltb 0 up_side.pace.latency delayed) (lt-ltb 0 down_side.pace.latency (both_delayed delayed)))))

-- where the delay is above 0, each beat that is shown transfers
shown_goes : (pace : Pace) (view : EndView) (c : ℕ) → 0 < pace.latency → is_high view.valid c ≡ true → is_transfer pace view c ≡ true
shown_goes pace view c delayed shown = and_from _ _ shown (or_left _ _ (lt-ltb 0 pace.latency delayed))

-- a beat may be shown in a ready cycle, where the allowance is the latency
shows_in_ready : (pace : Pace) (view : EndView) (c : ℕ) → pace.allowance ≡ pace.latency → is_ready_cycle pace view c ≡ true → may_show pace view c ≡ true
shows_in_ready pace view c strict ready = or_right _ _ (cond-false _ _ _ (le-ltb pace.latency pace.allowance (omega arith)) ∙ ready)

-- the same ready, and no more beats: what may be shown above may be shown below
same_was_ready : (up down : EndView) → ((b : ℕ) → is_high up.ready b ≡ is_high down.ready b) → (c : ℕ) → was_ready up c ≡ was_ready down c
same_was_ready up down same zero = same 0
same_was_ready up down same (suc c) = rw (same (suc c), same_was_ready up down same c) refl

fewer_since : (pace : Pace) (up down : EndView) → ((b : ℕ) → is_high up.ready b ≡ is_high down.ready b) → ((b : ℕ) → is_transfer pace down b ≡ true → is_transfer pace up b ≡ true)
    → (c : ℕ) → beats_since_ready pace down c ≤ beats_since_ready pace up c
fewer_since pace up down same moves zero =
    subst (λ r. beats_since_ready pace down zero ≤ cond r 0 (cond (is_transfer pace up zero) 1 0)) (sym (same zero)) (by_ready (is_high down.ready zero) (is_transfer pace up zero) (is_transfer pace down zero) (moves zero))
  where
    by_ready : (r a b : Bool) → (b ≡ true → a ≡ true) → cond r 0 (cond b 1 0) ≤ cond r 0 (cond a 1 0)
    by_ready true a b h = omega arith
    by_ready false true true h = omega arith
    by_ready false true false h = omega arith
    by_ready false false true h = let p : ◌≡◌ {A = Bool} false true = h refl in absurd (cc)
    by_ready false false false h = omega arith
fewer_since pace up down same moves (suc c) =
    subst (λ r. beats_since_ready pace down (suc c) ≤ cond r 0 (beats_since_ready pace up c + cond (is_transfer pace up (suc c)) 1 0)) (sym (same (suc c)))
    (by_ready (is_high down.ready (suc c)) (is_transfer pace up (suc c)) (is_transfer pace down (suc c)) (moves (suc c)) (fewer_since pace up down same moves c))
  where
    by_ready : (r a b : Bool) → (b ≡ true → a ≡ true) → beats_since_ready pace down c ≤ beats_since_ready pace up c
        → cond r 0 (beats_since_ready pace down c + cond b 1 0) ≤ cond r 0 (beats_since_ready pace up c + cond a 1 0)
    by_ready true a b h earlier = omega arith
    by_ready false true true h earlier = omega (arith, earlier)
    by_ready false true false h earlier = omega (arith, earlier)
    by_ready false false true h earlier = let p : ◌≡◌ {A = Bool} false true = h refl in absurd (cc)
    by_ready false false false h earlier = omega (arith, earlier)

may_show_too : (pace : Pace) (up down : EndView) → 0 < pace.latency → ((b : ℕ) → is_high up.ready b ≡ is_high down.ready b) → ((b : ℕ) → is_transfer pace down b ≡ true → is_transfer pace up b ≡ true)
    → (c : ℕ) → may_show pace up c ≡ true → may_show pace down c ≡ true
may_show_too pace up down delayed same moves c allowed = or_right _ _ (by_kind (nat_lt pace.latency pace.allowance) second)
  where
    second : cond (nat_lt pace.latency pace.allowance) (is_allowed_late pace up c) (is_ready_cycle pace up c) ≡ true
    second = subst (λ b. (b || cond (nat_lt pace.latency pace.allowance) (is_allowed_late pace up c) (is_ready_cycle pace up c)) ≡ true) (ne_eqb pace.latency 0 (λ e. omega arith)) allowed

    by_kind : (b : Bool) → cond b (is_allowed_late pace up c) (is_ready_cycle pace up c) ≡ true → cond b (is_allowed_late pace down c) (is_ready_cycle pace down c) ≡ true
    by_kind false ready = ap (λ b. nat_le pace.latency c && b) (sym (same (c - pace.latency))) ∙ ready
    by_kind true late =
        let outer = and_parts (nat_le pace.latency c && was_ready up (c - pace.latency)) (nat_le (beats_since_ready pace up c) pace.allowance) late in
        and_from _ _ (ap (λ b. nat_le pace.latency c && b) (sym (same_was_ready up down same (c - pace.latency))) ∙ outer.0)
        (le-leb (beats_since_ready pace down c) pace.allowance (omega (arith, fewer_since pace up down same moves c, leb-true _ _ outer.1)))

-- ---- the delay of ready

module _ (passes : ℕ → Bool) (cycles : ℕ) (side : Side) (up down : EndView) (run : IsDelayRun cycles side up down) (strict : side.pace.allowance ≡ side.pace.latency) (positive : 0 < side.symbols)
    (all_pass : (channel : ℕ) → channel ≤ side.max_channel → IsTrue (passes channel)) where
  -- where there is a delay at all, a beat is shown in the cycle in which it comes in
  valid_is_transfer : 0 < side.pace.latency + cycles → (c : ℕ) → is_high down.valid c ≡ is_transfer side.pace up c
  valid_is_transfer delayed c = run.valid c ∙ ap (λ b. is_high up.valid c && b) (by_latency (cases_lt 0 side.pace.latency))
    where
      by_latency : (0 < side.pace.latency) ⊎ (side.pace.latency ≤ 0) → (nat_lt 0 side.pace.latency || (nat_le cycles 0 || is_high up.ready c)) ≡ (nat_lt 0 side.pace.latency || is_high up.ready c)
      by_latency (inl above) = or_left _ _ (lt-ltb 0 side.pace.latency above) ∙ sym (or_left _ _ (lt-ltb 0 side.pace.latency above))
      by_latency (inr none) = ap (λ b. nat_lt 0 side.pace.latency || (b || is_high up.ready c)) (lt-leb cycles 0 (omega arith))

  -- a delay of no cycles at ready latency 0 shows each beat at once
  valid_is_valid : side.pace.latency + cycles ≤ 0 → (c : ℕ) → is_high down.valid c ≡ is_high up.valid c
  valid_is_valid direct c = run.valid c ∙ (ap (λ b. is_high up.valid c && b) (or_right (nat_lt 0 side.pace.latency) _ (or_left (nat_le cycles 0) (is_high up.ready c) (le-leb cycles 0 (omega arith)))) ∙ same (is_high up.valid c))
    where
      same : (b : Bool) → (b && true) ≡ b
      same true = refl
      same false = refl

  -- with no delay at all, both ends are the same
  transfer_is : (c : ℕ) → is_transfer (delayed_side side cycles).pace down c ≡ is_transfer side.pace up c
  transfer_is c = by_latency (cases_lt 0 (side.pace.latency + cycles))
    where
      by_latency : (0 < side.pace.latency + cycles) ⊎ (side.pace.latency + cycles ≤ 0) → is_transfer (delayed_side side cycles).pace down c ≡ is_transfer side.pace up c
      by_latency (inl delayed) = ap (λ b. is_high down.valid c && (b || is_high down.ready c)) (lt-ltb 0 (side.pace.latency + cycles) delayed) ∙ (same (is_high down.valid c) ∙ valid_is_transfer delayed c)
        where
          same : (b : Bool) → (b && true) ≡ b
          same true = refl
          same false = refl
      by_latency (inr direct) =
          let none : cycles ≡ 0 = omega arith in
          let zero_up : side.pace.latency ≡ 0 = omega arith in
          let back : c - cycles ≡ c = omega arith in
          let asked : is_high up.ready c ≡ is_high down.ready c = run.asks c ∙ (ap (λ b. b && is_high down.ready (c - cycles)) (le-leb cycles c (omega arith)) ∙ ap (λ n. is_high down.ready n) back) in
          direct_transfer (delayed_side side cycles).pace down c (omega arith)
          ∙ (ap (λ b. b && is_high down.ready c) (valid_is_valid direct c) ∙ (ap (λ b. is_high up.valid c && b) (sym asked) ∙ sym (direct_transfer side.pace up c zero_up)))

  -- the sink's ready cycles are those of the source
  ready_too : (c : ℕ) → is_ready_cycle side.pace up c ≡ is_ready_cycle (delayed_side side cycles).pace down c
  ready_too c = by_start (cases_lt c side.pace.latency)
    where
      by_start : (c < side.pace.latency) ⊎ (side.pace.latency ≤ c) → is_ready_cycle side.pace up c ≡ is_ready_cycle (delayed_side side cycles).pace down c
      by_start (inl early) = and_left _ _ (lt-leb side.pace.latency c early) ∙ sym (and_left _ _ (lt-leb (side.pace.latency + cycles) c (omega arith)))
      by_start (inr late) =
          let back : c - side.pace.latency - cycles ≡ c - (side.pace.latency + cycles) = omega arith in
          ap (λ b. b && is_high up.ready (c - side.pace.latency)) (le-leb side.pace.latency c late)
          ∙ (run.asks (c - side.pace.latency)
          ∙ (ap (λ n. nat_le cycles (c - side.pace.latency) && is_high down.ready n) back
          ∙ ap (λ b. b && is_high down.ready (c - (side.pace.latency + cycles))) (same_test (cases_lt (c - side.pace.latency) cycles))))
        where
          same_test : (c - side.pace.latency < cycles) ⊎ (cycles ≤ c - side.pace.latency) → nat_le cycles (c - side.pace.latency) ≡ nat_le (side.pace.latency + cycles) c
          same_test (inl early) = lt-leb cycles (c - side.pace.latency) early ∙ sym (lt-leb (side.pace.latency + cycles) c (omega (arith, late, early)))
          same_test (inr enough) = le-leb cycles (c - side.pace.latency) enough ∙ sym (le-leb (side.pace.latency + cycles) c (omega (arith, late, enough)))

  passed : (c : ℕ) → IsLegalAt side up c → is_transfer side.pace up c ≡ (is_transfer side.pace up c && passes (up.channel c))
  passed c legal = by_transfer (is_transfer side.pace up c) refl
    where
      by_transfer : (b : Bool) → is_transfer side.pace up c ≡ b → b ≡ (b && passes (up.channel c))
      by_transfer false stays = refl
      by_transfer true moves = sym (all_pass (up.channel c) (legal.formed (and_parts (is_high up.valid c) (nat_lt 0 side.pace.latency || is_high up.ready c) moves).0).in_range)

  shown_up : (c : ℕ) → is_high down.valid c ≡ true → is_high up.valid c ≡ true
  shown_up c valid = (and_parts (is_high up.valid c) (nat_lt 0 side.pace.latency || (nat_le cycles 0 || is_high up.ready c)) (sym (run.valid c) ∙ valid)).0

  delay_paced : (c : ℕ) → IsLegalSource side up (suc c) → KeepsPace (delayed_side side cycles).pace down c
  delay_paced c legal = by_latency (cases_lt 0 (side.pace.latency + cycles))
    where
      always : 0 < side.pace.latency + cycles → (b : ℕ) → IsHeld (delayed_side side cycles).pace down b
      always delayed zero = tt
      always delayed (suc b) = λ valid quiet. absurd (both_ways _ quiet (transfer_is b ∙ (sym (valid_is_transfer delayed b) ∙ valid)))

      holds : side.pace.latency + cycles ≤ 0 → (b : ℕ) → IsLegalSource side up (suc b) → IsHeld (delayed_side side cycles).pace down b
      holds direct zero earlier = tt
      holds direct (suc b) earlier = λ valid quiet.
          let held : ShowsSame up b (suc b) = (earlier (suc b) (omega arith)).paced.held (shown_up b valid) (sym (transfer_is b) ∙ quiet) in
          let valid' : is_high down.valid (suc b) ≡ true = valid_is_valid direct (suc b) ∙ (ap (λ n. eqb n 1) (sym held.valid) ∙ shown_up b valid) in
          record { valid = eqb-true (down.valid b) 1 valid ∙ sym (eqb-true (down.valid (suc b)) 1 valid'); beat = run.shows b valid ∙ (held.beat ∙ sym (run.shows (suc b) valid')) }

      by_latency : (0 < side.pace.latency + cycles) ⊎ (side.pace.latency + cycles ≤ 0) → KeepsPace (delayed_side side cycles).pace down c
      by_latency (inl delayed) =
          record {
            allowed = λ valid. shows_in_ready (delayed_side side cycles).pace down c refl (sym (ready_too c) ∙ comes_in_ready side up c strict (legal c (omega arith)) (sym (valid_is_transfer delayed c) ∙ valid));
            held = always delayed c;
          }
      by_latency (inr direct) = record { allowed = λ valid. or_left _ _ (eq-eqb (side.pace.latency + cycles) 0 (omega arith)); held = holds direct c legal }

  pub delay_keeps : KeepsStageLaw (wire_shape passes side (delayed_side side cycles) side.pace.latency false) (wire_run side up down)
  delay_keeps =
      wire_keeps (wire_shape passes side (delayed_side side cycles) side.pace.latency false) (wire_run side up down) positive
      (λ c legal _. record {
        moves = transfer_is c ∙ passed c (legal c (omega arith));
        symbols = λ given. ap (λ (b : Beat). map without_error (symbols_of side b)) (sym (run.shows c (and_parts (is_high down.valid c) (nat_lt 0 (side.pace.latency + cycles) || is_high down.ready c) given).0));
        error = λ given. ap (λ (b : Beat). b.error) (run.shows c (and_parts (is_high down.valid c) (nat_lt 0 (side.pace.latency + cycles) || is_high down.ready c) given).0);
      })
      (λ c legal _ valid. record {
        valid =
            let shown : is_high up.valid c ≡ true = shown_up c valid in
            and_from _ _ shown (all_pass (up.channel c) ((legal c (omega arith)).formed shown).in_range);
        symbols = ap (λ (b : Beat). map without_error (symbols_of side b)) (sym (run.shows c valid));
        error = ap (λ (b : Beat). b.error) (run.shows c valid);
      })
      (λ c legal _. delay_paced c legal)
      (λ c legal _ none. delayed_rank passes side (delayed_side side cycles) false up down c none (λ h. omega arith) (λ r. ready_too c ∙ r) (λ direct low. none_waits side.pace up c (sym (valid_is_valid (omega (arith, direct)) c) ∙ low)))
      refl (λ none. none) (λ channel h _. h)

-- ---- ready tied to 1

module _ (passes : ℕ → Bool) (side : Side) (up down : EndView) (run : IsTieRun up down) (positive : 0 < side.symbols)
    (all_pass : (channel : ℕ) → channel ≤ side.max_channel → IsTrue (passes channel)) where
  tie_shape : Shape
  tie_shape = wire_shape passes side (direct_side side) 0 true

  tie_takes : (c : ℕ) → is_transfer side.pace up c ≡ is_high up.valid c
  tie_takes c = ap (λ b. is_high up.valid c && b) (or_right (nat_lt 0 side.pace.latency) _ (run.asks c)) ∙ same (is_high up.valid c)
    where
      same : (b : Bool) → (b && true) ≡ b
      same true = refl
      same false = refl

  tie_gives : (c : ℕ) → is_high down.ready c ≡ true → is_transfer zero_pace down c ≡ is_high up.valid c
  tie_gives c ready = direct_transfer zero_pace down c refl ∙ (ap (λ n. eqb n 1 && is_high down.ready c) (run.valid c) ∙ (ap (λ b. is_high up.valid c && b) ready ∙ same (is_high up.valid c)))
    where
      same : (b : Bool) → (b && true) ≡ b
      same true = refl
      same false = refl

  tie_passed : (c : ℕ) → IsLegalAt side up c → is_high up.valid c ≡ (is_high up.valid c && passes (up.channel c))
  tie_passed c legal = by_valid (is_high up.valid c) refl
    where
      by_valid : (b : Bool) → is_high up.valid c ≡ b → b ≡ (b && passes (up.channel c))
      by_valid false low = refl
      by_valid true shown = sym (all_pass (up.channel c) (legal.formed shown).in_range)

  tie_held : (c : ℕ) → IsReadyBefore down c → IsHeld zero_pace down c
  tie_held zero ready = tt
  tie_held (suc c) ready = λ valid quiet. absurd (both_ways _ quiet (tie_gives c (ready c (omega arith)) ∙ (ap (λ n. eqb n 1) (sym (run.valid c)) ∙ valid)))

  pub tie_keeps : KeepsStageLaw (wire_shape passes side (direct_side side) 0 true) (plain_run up down)
  tie_keeps =
      wire_keeps (wire_shape passes side (direct_side side) 0 true) (plain_run up down) positive
      (λ c legal ready. record {
        moves = tie_gives c (ready refl c (omega arith)) ∙ (tie_passed c (legal c (omega arith)) ∙ ap (λ b. b && passes (up.channel c)) (sym (tie_takes c)));
        symbols = λ given. ap (λ (b : Beat). map without_error (symbols_of side b)) (sym (run.shows c));
        error = λ given. ap (λ (b : Beat). b.error) (run.shows c);
      })
      (λ c legal ready valid. record {
        valid = sym (tie_passed c (legal c (omega arith))) ∙ (ap (λ n. eqb n 1) (sym (run.valid c)) ∙ valid);
        symbols = ap (λ (b : Beat). map without_error (symbols_of side b)) (sym (run.shows c));
        error = ap (λ (b : Beat). b.error) (run.shows c);
      })
      (λ c legal ready. record { allowed = λ _. refl; held = tie_held c (ready refl) })
      (λ c legal ready none. no_rank (wire_shape passes side (direct_side side) 0 true) (plain_run up down) c refl refl
      (λ quiet r. rests_with (wire_shape passes side (direct_side side) 0 true) (plain_run up down) c [] none (run.asks c) (omega arith) refl)
      (λ low. idle_with (wire_shape passes side (direct_side side) 0 true) (plain_run up down) c [] none (ready_frees side.pace up c (run.asks c)) (omega arith) refl))
      refl (λ none. none) (λ channel h _. h)

-- ---- the filter on channels

-- at ready latency 0 it asks for beats while it shows none
pub filter_asks : (passes : ℕ → Bool) (side : Side) (up down : EndView) → IsFilterRun passes side up down → side.pace.latency ≡ 0 → AsksWhileIdle up down
filter_asks passes side up down run direct c idle = run.asks c ∙ or_right _ _ (and_from _ _ (eq-eqb side.pace.latency 0 direct) (ap not idle))

module _ (passes : ℕ → Bool) (largest : ℕ) (side : Side) (up down : EndView) (run : IsFilterRun passes side up down) (positive : 0 < side.symbols)
    (within : (channel : ℕ) → channel ≤ side.max_channel → IsTrue (passes channel) → channel ≤ largest) where
  filter_moves : (c : ℕ) → is_transfer side.pace down c ≡ (is_transfer side.pace up c && passes (up.channel c))
  filter_moves c = by_latency (cases_lt 0 side.pace.latency)
    where
      delayed_ports : (v p : Bool) → ((v && p) && true) ≡ ((v && true) && p)
      delayed_ports true true = refl
      delayed_ports true false = refl
      delayed_ports false p = refl

      direct_ports : (v p r : Bool) → ((v && p) && r) ≡ ((v && (r || not (v && p))) && p)
      direct_ports true true true = refl
      direct_ports true true false = refl
      direct_ports true false true = refl
      direct_ports true false false = refl
      direct_ports false p r = refl

      by_latency : (0 < side.pace.latency) ⊎ (side.pace.latency ≤ 0) → is_transfer side.pace down c ≡ (is_transfer side.pace up c && passes (up.channel c))
      by_latency (inl delayed) =
          let test = lt-ltb 0 side.pace.latency delayed in
          ap (λ b. is_high down.valid c && (b || is_high down.ready c)) test
          ∙ (ap (λ b. b && true) (run.valid c)
          ∙ (delayed_ports (is_high up.valid c) (passes (up.channel c)) ∙ ap (λ b. (is_high up.valid c && (b || is_high up.ready c)) && passes (up.channel c)) (sym test)))
      by_latency (inr direct) =
          let none : side.pace.latency ≡ 0 = omega arith in
          let asked : is_high up.ready c ≡ (is_high down.ready c || not (is_high up.valid c && passes (up.channel c))) =
          run.asks c ∙ (ap (λ b. is_high down.ready c || (b && not (is_high down.valid c))) (eq-eqb side.pace.latency 0 none) ∙ ap (λ b. is_high down.ready c || not b) (run.valid c)) in
          direct_transfer side.pace down c none
          ∙ (ap (λ b. b && is_high down.ready c) (run.valid c)
          ∙ (direct_ports (is_high up.valid c) (passes (up.channel c)) (is_high down.ready c)
          ∙ (ap (λ b. (is_high up.valid c && b) && passes (up.channel c)) (sym asked) ∙ ap (λ b. b && passes (up.channel c)) (sym (direct_transfer side.pace up c none)))))

  -- the ready that is seen is shown
  ready_shown : (c : ℕ) → is_high down.ready c ≡ true → is_high up.ready c ≡ true
  ready_shown c ready = run.asks c ∙ or_left _ _ ready

  ready_cycle_too : (c : ℕ) → is_ready_cycle side.pace down c ≡ true → is_ready_cycle side.pace up c ≡ true
  ready_cycle_too c ready =
      let parts = and_parts (nat_le side.pace.latency c) (is_high down.ready (c - side.pace.latency)) ready in
      and_from _ _ parts.0 (ready_shown (c - side.pace.latency) parts.1)

  -- above latency 0 both ends see the same ready
  pub same_ready : 0 < side.pace.latency → (c : ℕ) → is_high up.ready c ≡ is_high down.ready c
  same_ready delayed c =
      run.asks c ∙ (ap (λ b. is_high down.ready c || (b && not (is_high down.valid c))) (ne_eqb side.pace.latency 0 (λ e. omega arith)) ∙ same (is_high down.ready c))
    where
      same : (b : Bool) → (b || false) ≡ b
      same true = refl
      same false = refl

  filter_held : (c : ℕ) → IsLegalSource side up (suc c) → IsHeld side.pace down c
  filter_held zero legal = tt
  filter_held (suc c) legal = λ valid quiet.
      let both : (is_high up.valid c && passes (up.channel c)) ≡ true = sym (run.valid c) ∙ valid in
      let parts = and_parts (is_high up.valid c) (passes (up.channel c)) both in
      let stays : is_transfer side.pace up c ≡ false = still (is_transfer side.pace up c) (passes (up.channel c)) parts.1 (sym (filter_moves c) ∙ quiet) in
      let held : ShowsSame up c (suc c) = (legal (suc c) (omega arith)).paced.held parts.0 stays in
      let channel : up.channel (suc c) ≡ up.channel c = ap (λ (b : Beat). b.channel) (sym held.beat) in
      let valid' : is_high down.valid (suc c) ≡ true = run.valid (suc c) ∙ and_from _ _ (ap (λ n. eqb n 1) (sym held.valid) ∙ parts.0) (ap passes channel ∙ parts.1) in
      record {
        valid = eqb-true (down.valid c) 1 valid ∙ sym (eqb-true (down.valid (suc c)) 1 valid');
        beat = run.shows c valid ∙ (held.beat ∙ sym (run.shows (suc c) valid'));
      }
    where
      still : (a b : Bool) → b ≡ true → (a && b) ≡ false → a ≡ false
      still false b p q = refl
      still true b p q = absurd (both_ways _ q p)

  filter_allowed : (c : ℕ) → IsLegalAt side up c → is_high down.valid c ≡ true → may_show side.pace down c ≡ true
  filter_allowed c legal valid = by_latency (cases_lt 0 side.pace.latency)
    where
      shown : is_high up.valid c ≡ true
      shown = (and_parts (is_high up.valid c) (passes (up.channel c)) (sym (run.valid c) ∙ valid)).0

      by_latency : (0 < side.pace.latency) ⊎ (side.pace.latency ≤ 0) → may_show side.pace down c ≡ true
      by_latency (inr direct) = or_left _ _ (eq-eqb side.pace.latency 0 (omega arith))
      by_latency (inl delayed) =
          may_show_too side.pace up down delayed (same_ready delayed) (λ b t. (and_parts (is_transfer side.pace up b) (passes (up.channel b)) (sym (filter_moves b) ∙ t)).0) c (legal.paced.allowed shown)

  pub filter_keeps : KeepsStageLaw (wire_shape passes side (filtered_side side largest) side.pace.latency false) (wire_run side up down)
  filter_keeps =
      wire_keeps (wire_shape passes side (filtered_side side largest) side.pace.latency false) (wire_run side up down) positive
      (λ c legal _. record {
        moves = filter_moves c;
        symbols = λ given. ap (λ (b : Beat). map without_error (symbols_of side b)) (sym (run.shows c (and_parts (is_high down.valid c) (nat_lt 0 side.pace.latency || is_high down.ready c) given).0));
        error = λ given. ap (λ (b : Beat). b.error) (run.shows c (and_parts (is_high down.valid c) (nat_lt 0 side.pace.latency || is_high down.ready c) given).0);
      })
      (λ c legal _ valid. record {
        valid = sym (run.valid c) ∙ valid;
        symbols = ap (λ (b : Beat). map without_error (symbols_of side b)) (sym (run.shows c valid));
        error = ap (λ (b : Beat). b.error) (run.shows c valid);
      })
      (λ c legal _. record { allowed = filter_allowed c (legal c (omega arith)); held = filter_held c legal })
      (λ c legal _ none. delayed_rank passes side (filtered_side side largest) false up down c none (λ h. h) (ready_cycle_too c) (λ direct low. ready_frees side.pace up c (filter_asks passes side up down run direct c low)))
      refl (λ none. none) within

  pub filter_passes_ready : PassesReady (wire_shape passes side (filtered_side side largest) side.pace.latency false) (wire_run side up down)
  filter_passes_ready c legal ready = ready_shown c (ready c (omega arith))

-- a channel that does not reach the sink is above its largest
pub not_reached : (largest channel : ℕ) → not (nat_le channel largest) ≡ nat_lt largest channel
not_reached largest channel = by_order (cases_lt largest channel)
  where
    by_order : (largest < channel) ⊎ (channel ≤ largest) → not (nat_le channel largest) ≡ nat_lt largest channel
    by_order (inl above) = ap not (lt-leb channel largest above) ∙ sym (lt-ltb largest channel above)
    by_order (inr within) = ap not (le-leb channel largest within) ∙ sym (le-ltb largest channel within)

-- ---- beats that are the same but for the order of their symbols or for their error

-- both ends show valid and ready alike
module _ (passes : ℕ → Bool) (side down_side : Side) (up down : EndView) (same_pace : down_side.pace ≡ side.pace) (asks : (c : ℕ) → up.ready c ≡ down.ready c) (valid : (c : ℕ) → down.valid c ≡ up.valid c)
    (positive : 0 < side.symbols) (all_pass : (channel : ℕ) → channel ≤ side.max_channel → IsTrue (passes channel)) where
  alike_transfer : (c : ℕ) → is_transfer down_side.pace down c ≡ is_transfer side.pace up c
  alike_transfer c =
      ap (λ (p : Pace). is_transfer p down c) same_pace
      ∙ (ap (λ n. eqb n 1 && (nat_lt 0 side.pace.latency || is_high down.ready c)) (valid c) ∙ ap (λ n. is_high up.valid c && (nat_lt 0 side.pace.latency || eqb n 1)) (sym (asks c)))

  alike_passed : (c : ℕ) → IsLegalAt side up c → (b : Bool) → (b ≡ true → is_high up.valid c ≡ true) → b ≡ (b && passes (up.channel c))
  alike_passed c legal false shown = refl
  alike_passed c legal true shown = sym (all_pass (up.channel c) (legal.formed (shown refl)).in_range)

  alike_ready : (c : ℕ) → is_ready_cycle down_side.pace down c ≡ is_ready_cycle side.pace up c
  alike_ready c = ap (λ (p : Pace). is_ready_cycle p down c) same_pace ∙ ap (λ n. nat_le side.pace.latency c && eqb n 1) (sym (asks (c - side.pace.latency)))

  alike_allowed : (c : ℕ) → IsLegalAt side up c → is_high down.valid c ≡ true → may_show down_side.pace down c ≡ true
  alike_allowed c legal v = subst (λ (p : Pace). may_show p down c ≡ true) (sym same_pace) (by_latency (cases_lt 0 side.pace.latency))
    where
      shown : is_high up.valid c ≡ true
      shown = ap (λ n. eqb n 1) (sym (valid c)) ∙ v

      by_latency : (0 < side.pace.latency) ⊎ (side.pace.latency ≤ 0) → may_show side.pace down c ≡ true
      by_latency (inr direct) = or_left _ _ (eq-eqb side.pace.latency 0 (omega arith))
      by_latency (inl delayed) =
          may_show_too side.pace up down delayed (λ b. ap (λ n. eqb n 1) (asks b)) (λ b t. sym (alike_transfer b) ∙ (ap (λ (p : Pace). is_transfer p down b) same_pace ∙ t)) c (legal.paced.allowed shown)

  module _ (symbols : (c : ℕ) → map without_error (shown_symbols side up c) ≡ map without_error (shown_symbols down_side down c)) (error : (c : ℕ) → IsLegalAt side up c → IsTrue (is_high up.valid c) → down.error c ≡ up.error c)
      (forward : (b c : ℕ) → beat_at up b ≡ beat_at up c → beat_at down b ≡ beat_at down c) (packets : side.packets ≡ down_side.packets) (no_errors : down_side.error_bits ≡ 0 → side.error_bits ≡ 0) (channels : side.max_channel ≡ down_side.max_channel) where
    alike_held : (c : ℕ) → IsLegalSource side up (suc c) → IsHeld down_side.pace down c
    alike_held zero legal = tt
    alike_held (suc c) legal = λ v quiet.
        let held : ShowsSame up c (suc c) = (legal (suc c) (omega arith)).paced.held (ap (λ n. eqb n 1) (sym (valid c)) ∙ v) (sym (alike_transfer c) ∙ quiet) in
        record { valid = valid c ∙ (held.valid ∙ sym (valid (suc c))); beat = forward c (suc c) held.beat }

    pub alike_keeps : KeepsStageLaw (wire_shape passes side down_side side.pace.latency false) (wire_run side up down)
    alike_keeps =
        wire_keeps (wire_shape passes side down_side side.pace.latency false) (wire_run side up down) positive
        (λ c legal _. record {
          moves = alike_transfer c ∙ alike_passed c (legal c (omega arith)) (is_transfer side.pace up c) (λ t. (and_parts (is_high up.valid c) (nat_lt 0 side.pace.latency || is_high up.ready c) t).0);
          symbols = λ given. symbols c;
          error = λ given. error c (legal c (omega arith)) (and_parts (is_high up.valid c) (nat_lt 0 side.pace.latency || is_high up.ready c) (sym (alike_transfer c) ∙ given)).0;
        })
        (λ c legal _ v. record {
          valid = sym (alike_passed c (legal c (omega arith)) (is_high up.valid c) (λ t. t)) ∙ (ap (λ n. eqb n 1) (sym (valid c)) ∙ v);
          symbols = symbols c;
          error = error c (legal c (omega arith)) (ap (λ n. eqb n 1) (sym (valid c)) ∙ v);
        })
        (λ c legal _. record { allowed = alike_allowed c (legal c (omega arith)); held = alike_held c legal })
        (λ c legal _ none. delayed_rank passes side down_side false up down c none (λ h. subst (λ (p : Pace). 0 < p.latency) (sym same_pace) h) (λ r. sym (alike_ready c) ∙ r)
        (λ _ low. none_waits side.pace up c (ap (λ n. eqb n 1) (sym (valid c)) ∙ low)))
        packets no_errors (λ channel h _. omega (arith, channels))

-- the error port that is tied to 0, behind a source without one
pub error_tie_keeps : (passes : ℕ → Bool) (error_bits : ℕ) (side : Side) (up down : EndView) → IsErrorTieRun up down → side.error_bits ≡ 0 → 0 < side.symbols → ((channel : ℕ) → channel ≤ side.max_channel → IsTrue (passes channel))
    → KeepsStageLaw (wire_shape passes side (with_error_bits side error_bits) side.pace.latency false) (wire_run side up down)
error_tie_keeps passes error_bits side up down run none positive all_pass =
    alike_keeps passes side (with_error_bits side error_bits) up down refl run.asks run.valid positive all_pass symbols (λ c legal shown. ap (λ (b : Beat). b.error) (run.shows c) ∙ sym ((legal.formed shown).quiet none))
    (λ b c e. run.shows b ∙ (ap (λ (x : Beat). record x { error = 0 }) e ∙ sym (run.shows c))) refl (λ _. none) refl
  where
    plain_symbols : (beat : Beat) (ks : List ℕ) → map without_error (map (symbol_in side beat) ks) ≡ map without_error (map (symbol_in side (record beat { error = 0 })) ks)
    plain_symbols beat [] = refl
    plain_symbols beat (k ∷ ks) = ap (λ (xs : List Symbol). without_error (symbol_in side beat k) ∷ xs) (plain_symbols beat ks)

    symbols : (c : ℕ) → map without_error (shown_symbols side up c) ≡ map without_error (shown_symbols side down c)
    symbols c = plain_symbols (beat_at up c) (range_with_len 0 (shown_count side up c)) ∙ ap (λ (b : Beat). map without_error (symbols_of side b)) (sym (run.shows c))

-- the empty symbols that are set to 0
pub clear_keeps : (passes : ℕ → Bool) (side : Side) (up down : EndView) → IsClearRun side up down → side.first_high ≡ true → 0 < side.symbols → PassesAll passes side
    → KeepsStageLaw (wire_shape passes side side side.pace.latency false) (wire_run side up down)
clear_keeps passes side up down run high positive all_pass =
    alike_keeps passes side side up down refl run.asks run.valid positive all_pass symbols (λ c legal shown. ap (λ (b : Beat). b.error) (run.shows c))
    (λ b c e. run.shows b ∙ (ap (cleared_beat side) e ∙ sym (run.shows c))) refl (λ none. none) refl
  where
    least : (beat : Beat) → symbol_count side beat ≤ side.symbols
    least beat = by_last (eqb beat.last 1)
      where
        by_last : (b : Bool) → cond b (side.symbols - beat.empty) side.symbols ≤ side.symbols
        by_last true = omega arith
        by_last false = omega arith

    cleared_symbols : (beat : Beat) → (n j : ℕ) → j + n ≤ symbol_count side beat
        → map without_error (map (symbol_in side beat) (range_with_len j n)) ≡ map without_error (map (symbol_in side (cleared_beat side beat)) (range_with_len j n))
    cleared_symbols beat zero j h = refl
    cleared_symbols beat (suc n) j h =
        ap (λ v. (record (without_error (symbol_in side beat j)) { value = v }) ∷ map without_error (map (symbol_in side beat) (range_with_len (j + 1) n))) (sym (cleared_kept side beat j high (least beat) (omega arith)))
        ∙ ap (λ (xs : List Symbol). (record (without_error (symbol_in side beat j)) { value = value_of side (cleared_word side beat) j }) ∷ xs) (cleared_symbols beat n (j + 1) (omega arith))

    symbols : (c : ℕ) → map without_error (shown_symbols side up c) ≡ map without_error (shown_symbols side down c)
    symbols c = cleared_symbols (beat_at up c) (shown_count side up c) 0 (omega arith) ∙ ap (λ (b : Beat). map without_error (symbols_of side b)) (sym (run.shows c))

pub clear_clears : (side : Side) (up down : EndView) → IsClearRun side up down → side.first_high ≡ true → (c : ℕ) → HasClearEmpty side (beat_at down c)
clear_clears side up down run high c =
    subst (HasClearEmpty side) (sym (run.shows c)) (λ k least within. cleared_empty side (beat_at up c) k high least within)

pub clear_passes_ready : (passes : ℕ → Bool) (side : Side) (up down : EndView) → IsClearRun side up down → PassesReady (wire_shape passes side side side.pace.latency false) (wire_run side up down)
clear_passes_ready passes side up down run c legal ready = ap (λ n. eqb n 1) (run.asks c) ∙ ready c (omega arith)

-- the symbols in the other order
pub reorder_keeps : (passes : ℕ → Bool) (side : Side) (up down : EndView) → IsReorderRun side up down → 0 < side.symbols → ((channel : ℕ) → channel ≤ side.max_channel → IsTrue (passes channel))
    → KeepsStageLaw (wire_shape passes side (turned_side side) side.pace.latency false) (wire_run side up down)
reorder_keeps passes side up down run positive all_pass =
    alike_keeps passes side (turned_side side) up down refl run.asks run.valid positive all_pass symbols (λ c legal shown. ap (λ (b : Beat). b.error) (run.shows c))
    (λ b c e. run.shows b ∙ (turned (beat_at up b) (beat_at up c) (down.word b) (down.word c) e (run.same b c (ap (λ (x : Beat). x.word) e)) ∙ sym (run.shows c))) refl (λ none. none) refl
  where
    turned : (x y : Beat) (v w : ℕ) → x ≡ y → v ≡ w → (record x { word = v }) ≡ (record y { word = w })
    turned x y v w p q = rw (p, q) refl

    least : (beat : Beat) → symbol_count side beat ≤ side.symbols
    least beat = by_last (eqb beat.last 1)
      where
        by_last : (b : Bool) → cond b (side.symbols - beat.empty) side.symbols ≤ side.symbols
        by_last true = omega arith
        by_last false = omega arith

    turned_symbols : (beat : Beat) (word : ℕ) → ((k : ℕ) → k < side.symbols → value_of (turned_side side) word k ≡ value_of side beat.word k) → (n j : ℕ) → j + n ≤ side.symbols
        → map without_error (map (symbol_in side beat) (range_with_len j n)) ≡ map without_error (map (symbol_in (turned_side side) (record beat { word = word })) (range_with_len j n))
    turned_symbols beat word values zero j h = refl
    turned_symbols beat word values (suc n) j h =
        ap (λ v. (record (without_error (symbol_in side beat j)) { value = v }) ∷ map without_error (map (symbol_in side beat) (range_with_len (j + 1) n))) (sym (values j (omega arith)))
        ∙ ap (λ (xs : List Symbol). (record (without_error (symbol_in side beat j)) { value = value_of (turned_side side) word j }) ∷ xs) (turned_symbols beat word values n (j + 1) (omega arith))

    symbols : (c : ℕ) → map without_error (shown_symbols side up c) ≡ map without_error (shown_symbols (turned_side side) down c)
    symbols c = turned_symbols (beat_at up c) (down.word c) (run.words c) (shown_count side up c) 0 (omega (arith, least (beat_at up c))) ∙ ap (λ (b : Beat). map without_error (symbols_of (turned_side side) b)) (sym (run.shows c))

pub error_tie_passes_ready : (passes : ℕ → Bool) (error_bits : ℕ) (side : Side) (up down : EndView) → IsErrorTieRun up down → PassesReady (wire_shape passes side (with_error_bits side error_bits) side.pace.latency false) (wire_run side up down)
error_tie_passes_ready passes error_bits side up down run c legal ready = ap (λ n. eqb n 1) (run.asks c) ∙ ready c (omega arith)

pub reorder_passes_ready : (passes : ℕ → Bool) (side : Side) (up down : EndView) → IsReorderRun side up down → PassesReady (wire_shape passes side (turned_side side) side.pace.latency false) (wire_run side up down)
reorder_passes_ready passes side up down run c legal ready = ap (λ n. eqb n 1) (run.asks c) ∙ ready c (omega arith)

pub tie_passes_ready : (passes : ℕ → Bool) (side : Side) (up down : EndView) → IsTieRun up down → PassesReady (wire_shape passes side (direct_side side) 0 true) (plain_run up down)
tie_passes_ready passes side up down run c legal ready = run.asks c
