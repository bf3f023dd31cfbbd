-- Machines that hold beats whole keep the law of a stage.
use Rattle.std.proofs.Common.{◌≡◌, ◌⊎◌, ℕ, zero, suc, ◌+◌, ◌*◌, ◌≤◌, ◌<◌, Bool, true, false, cond, IsTrue, ◌&&◌, ◌||◌, List, [], ◌∷◌, ◌++◌, map, length, drop, refl, ap, sym, ◌∙◌, subst, inl, inr, arith, append_assoc, length-append, length-drop, eqb, nat_lt}
use Rattle.std.proofs.Math.Nat.{mul-le-mul_left}
use Rattle.std.specs.List.{flat_map}
use Rattle.std.proofs.lemmas.List.{append-nil}
use Rattle.std.proofs.lemmas.List.Concat.{flat_map-append}
use Rattle.std.proofs.lemmas.Bool.{cases_Bool, cases_lt, or_cases, eq-eqb, and_parts, and_from, and_left, and_right, or_left, or_right, cond-true, cond-false, eqb-true, both_ways, lt-ltb, le-ltb, ltb-true}
use Rattle.stream_runs.specs.Laws.{shown_holds, joined_error_of_beat}
use Rattle.stream_runs.specs.View.{EndView, Side, Beat, beat_at, is_high, is_transfer, is_stalled}
use Rattle.stream_runs.specs.Symbols.{Symbol, without_error, symbols_of, symbol_count, shown_symbols}
use Rattle.stream_runs.specs.Source.{IsLegalSource, IsHeld, ShowsSame}
use Rattle.stream_runs.specs.Awake.{beats_begun}
use Rattle.stream_machines.specs.Stage.{KeepsStageLaw, PassesReady, inside, is_at_rest, is_idle, ready_cycles}
use Rattle.stream_machines.specs.Flow.{IsFlow, PassesOn, ShowsNext, kept_in, kept_shown}
use Rattle.stream_machines.specs.Parts.{plain_run}
use Rattle.stream_machines.specs.Buffers.{zero_pace, ShowsHeld, taken_now, HoldsBeats, buffer_shape, IsBufferRun, IsAllowanceRun, IsRegisterRun, IsQueueRun}
use Rattle.stream_machines.specs.ReadyCycles.{one_if, ready_cycles_le, room}
use Rattle.stream_machines.specs.Allowances.{since, since_within, still_leaves}
use Rattle.stream_machines.proofs.FlowLaw.{no_rank, balance_of, inside_of}
use Rattle.stream_machines.proofs.FlowKeeps.{flow_keeps}
use Rattle.stream_machines.proofs.Direct.{direct_transfer, direct_ready, rests_with, idle_with, none_waits, ready_frees, kept_in_all, kept_shown_all}
use Rattle.stream_machines.proofs.BeatCounts.{AllHold, hold-append, hold-drop, length_of_beats, beats_begun-all}

-- it holds at most one more for a beat that comes in
held_grows : (through : Bool) (side : Side) (up down : EndView) (held : ℕ → List Beat) → HoldsBeats through side up down held
    → (c : ℕ) → IsLegalSource side up (suc c) → length (held (suc c)) ≤ length (held c) + one_if (is_transfer side.pace up c)
held_grows through side up down held run c legal = by_transfer (is_transfer zero_pace down c) (run.moves c legal)
  where
    taken_is : length (taken_now side up c) ≡ one_if (is_transfer side.pace up c)
    taken_is = by_taken (is_transfer side.pace up c)
      where
        by_taken : (b : Bool) → length (cond b (beat_at up c ∷ []) []) ≡ one_if b
        by_taken true = refl
        by_taken false = refl

    by_transfer : (b : Bool) → held (suc c) ≡ cond b (drop 1 (held c ++ taken_now side up c)) (held c ++ taken_now side up c) → length (held (suc c)) ≤ length (held c) + one_if (is_transfer side.pace up c)
    by_transfer true e = omega (arith, ap length e, length-drop 1 (held c ++ taken_now side up c), length-append (held c) (taken_now side up c), taken_is)
    by_transfer false e = omega (arith, ap length e, length-append (held c) (taken_now side up c), taken_is)

-- what a machine that holds beats needs besides: it never holds more than its places, a beat that passes through is taken in, it shows ready where it is idle, and no beat waits where it shows none
pub record Behaves (through : Bool) (places : ℕ) (side : Side) (up down : EndView) (held : ℕ → List Beat) : Type 0 where
  pub few : (c : ℕ) → IsLegalSource side up c → length (held c) ≤ places
  pub takes : (c : ℕ) → IsLegalSource side up (suc c) → through ≡ true → held c ≡ [] → is_high up.valid c ≡ true → is_high down.ready c ≡ true → is_transfer side.pace up c ≡ true
  pub rests : (c : ℕ) → IsLegalSource side up (suc c) → held c ≡ [] → is_high down.ready c ≡ true → is_high up.ready c ≡ true
  pub frees : (c : ℕ) → IsLegalSource side up c → held c ≡ [] → is_high down.valid c ≡ false → is_stalled side.pace up c ≡ false

module _ (through : Bool) (passes : ℕ → Bool) (places : ℕ) (side : Side) (up down : EndView) (held : ℕ → List Beat) (run : HoldsBeats through side up down held) (behaves : Behaves through places side up down held)
    (positive : 0 < side.symbols) (all_pass : (channel : ℕ) → channel ≤ side.max_channel → IsTrue (passes channel)) where
  abbrev store : ℕ → List Symbol
  store c = flat_map (symbols_of side) (held c)

  gives_is : (c : ℕ) → is_transfer zero_pace down c ≡ (is_high down.valid c && is_high down.ready c)
  gives_is c = direct_transfer zero_pace down c refl

  -- the beat that is shown is the first of those that are held and the one that is shown upstream
  data Shown (c : ℕ) : Type 0 where
    from_held : (beat : Beat) (beats : List Beat) → held c ≡ beat ∷ beats → is_high down.valid c ≡ true → beat_at down c ≡ beat → Shown c
    passing : through ≡ true → held c ≡ [] → is_high up.valid c ≡ true → down.valid c ≡ up.valid c → beat_at down c ≡ beat_at up c → Shown c
    idle : held c ≡ [] → is_high down.valid c ≡ false → Shown c

  shown_at : (c : ℕ) → Shown c
  shown_at c = by_held (held c) refl through refl (run.shows c)
    where
      by_held : (bs : List Beat) → held c ≡ bs → (t : Bool) → through ≡ t → ShowsHeld t bs up down c → Shown c
      by_held (b ∷ bs) is true e s = from_held b bs is s.0 s.1
      by_held (b ∷ bs) is false e s = from_held b bs is s.0 s.1
      by_held [] is true e s = by_valid (cases_Bool (is_high up.valid c))
        where
          by_valid : (is_high up.valid c ≡ true) ⊎ (is_high up.valid c ≡ false) → Shown c
          by_valid (inl shown) = passing e is shown (sym s.valid) (sym s.beat)
          by_valid (inr low) = idle is (ap (λ n. eqb n 1) (sym s.valid) ∙ low)
      by_held [] is false e s = idle is s

  -- with what comes in, the first is the one that goes out
  goes_first : (c : ℕ) → IsLegalSource side up (suc c) → is_transfer zero_pace down c ≡ true → held c ++ taken_now side up c ≡ beat_at down c ∷ drop 1 (held c ++ taken_now side up c)
  goes_first c legal moves = by_shown (shown_at c)
    where
      valid : is_high down.valid c ≡ true
      valid = (and_parts (is_high down.valid c) (nat_lt 0 0 || is_high down.ready c) moves).0

      ready : is_high down.ready c ≡ true
      ready = (and_parts (is_high down.valid c) (is_high down.ready c) (sym (gives_is c) ∙ moves)).1

      by_shown : Shown c → held c ++ taken_now side up c ≡ beat_at down c ∷ drop 1 (held c ++ taken_now side up c)
      by_shown (from_held b bs is v same) =
          ap (λ (q : List Beat). q ++ taken_now side up c) is ∙ (ap (λ (x : Beat). x ∷ (bs ++ taken_now side up c)) (sym same) ∙ ap (λ (q : List Beat). beat_at down c ∷ drop 1 (q ++ taken_now side up c)) (sym is))
      by_shown (passing t none shown v same) =
          let taken : taken_now side up c ≡ beat_at up c ∷ [] = cond-true (is_transfer side.pace up c) (beat_at up c ∷ []) [] (behaves.takes c legal t none shown ready) in
          let all : held c ++ taken_now side up c ≡ beat_at up c ∷ [] = ap (λ (q : List Beat). q ++ taken_now side up c) none ∙ taken in
          all ∙ (ap (λ (x : Beat). x ∷ []) (sym same) ∙ ap (λ (q : List Beat). beat_at down c ∷ drop 1 q) (sym all))
      by_shown (idle none low) = absurd (both_ways _ low valid)

  taken_holds : (c : ℕ) → IsLegalSource side up (suc c) → AllHold side (taken_now side up c)
  taken_holds c legal = by_taken (is_transfer side.pace up c) refl
    where
      by_taken : (b : Bool) → is_transfer side.pace up c ≡ b → AllHold side (cond b (beat_at up c ∷ []) [])
      by_taken true moves = (shown_holds side up positive c (legal c (omega arith)) (and_parts (is_high up.valid c) (nat_lt 0 side.pace.latency || is_high up.ready c) moves).0, tt)
      by_taken false stays = tt

  pub all_hold : (c : ℕ) → IsLegalSource side up c → AllHold side (held c)
  all_hold zero legal = subst (AllHold side) (sym run.starts) tt
  all_hold (suc c) legal = by_transfer (is_transfer zero_pace down c) (run.moves c legal) (hold-append side (held c) (taken_now side up c) (all_hold c (λ b h. legal b (omega arith))) (taken_holds c legal))
    where
      by_transfer : (b : Bool) → held (suc c) ≡ cond b (drop 1 (held c ++ taken_now side up c)) (held c ++ taken_now side up c) → AllHold side (held c ++ taken_now side up c) → AllHold side (held (suc c))
      by_transfer true e all = subst (AllHold side) (sym e) (hold-drop side (held c ++ taken_now side up c) all)
      by_transfer false e all = subst (AllHold side) (sym e) all

  store_with : (c : ℕ) → IsLegalSource side up (suc c) → store c ++ kept_in passes side up c ≡ flat_map (symbols_of side) (held c ++ taken_now side up c)
  store_with c legal =
      ap (λ (xs : List Symbol). store c ++ xs) (kept_in_all passes side up c (legal c (omega arith)) all_pass ∙ by_transfer (is_transfer side.pace up c)) ∙ sym (flat_map-append (symbols_of side) (held c) (taken_now side up c))
    where
      by_transfer : (b : Bool) → cond b (shown_symbols side up c) [] ≡ flat_map (symbols_of side) (cond b (beat_at up c ∷ []) [])
      by_transfer true = sym (append-nil (shown_symbols side up c))
      by_transfer false = refl

  passes_on : (c : ℕ) → IsLegalSource side up (suc c) → PassesOn (buffer_shape passes places side) (plain_run up down) store c
  passes_on c legal = by_transfer (is_transfer zero_pace down c) refl
    where
      few : length (store (suc c)) ≤ places * side.symbols
      few =
          let least : side.symbols * length (held (suc c)) ≤ side.symbols * places = mul-le-mul_left side.symbols (behaves.few (suc c) legal) in
          let turned : places * side.symbols ≡ side.symbols * places = omega arith in
          let turned' : length (held (suc c)) * side.symbols ≡ side.symbols * length (held (suc c)) = omega arith in
          omega (arith, length_of_beats side (held (suc c)), least, turned, turned')

      by_transfer : (b : Bool) → is_transfer zero_pace down c ≡ b → PassesOn (buffer_shape passes places side) (plain_run up down) store c
      by_transfer true moves =
          let first = goes_first c legal moves in
          let next : held (suc c) ≡ drop 1 (held c ++ taken_now side up c) = run.moves c legal ∙ cond-true (is_transfer zero_pace down c) _ _ moves in
          let some : 0 < symbol_count side (beat_at down c) = (subst (AllHold side) first (hold-append side (held c) (taken_now side up c) (all_hold c (λ b h. legal b (omega arith))) (taken_holds c legal))).0 in
          record {
            out = shown_symbols side down c;
            split = store_with c legal ∙ (ap (flat_map (symbols_of side)) first ∙ ap (λ (bs : List Beat). shown_symbols side down c ++ flat_map (symbols_of side) bs) (sym next));
            same = ap (map without_error) (sym (cond-true (is_transfer zero_pace down c) (shown_symbols side down c) [] moves));
            joined = λ _. sym (joined_error_of_beat side (beat_at down c) some);
            some = λ _. some;
            few = few;
          }
      by_transfer false quiet =
          let next : held (suc c) ≡ held c ++ taken_now side up c = run.moves c legal ∙ cond-false (is_transfer zero_pace down c) _ _ quiet in
          record {
            out = [];
            split = store_with c legal ∙ ap (flat_map (symbols_of side)) (sym next);
            same = ap (map without_error) (sym (cond-false (is_transfer zero_pace down c) (shown_symbols side down c) [] quiet));
            joined = λ moves. absurd (both_ways _ quiet moves);
            some = λ moves. absurd (both_ways _ quiet moves);
            few = few;
          }

  shows : (c : ℕ) → IsLegalSource side up (suc c) → IsTrue (is_high down.valid c) → ShowsNext (buffer_shape passes places side) (plain_run up down) store c
  shows c legal valid = by_shown (shown_at c)
    where
      by_shown : Shown c → ShowsNext (buffer_shape passes places side) (plain_run up down) store c
      by_shown (from_held b bs is v same) =
          record {
            front = symbols_of side b;
            rest = flat_map (symbols_of side) bs ++ kept_shown passes side up c;
            split = ap (λ (q : List Beat). flat_map (symbols_of side) q ++ kept_shown passes side up c) is ∙ append_assoc (symbols_of side b) (flat_map (symbols_of side) bs) (kept_shown passes side up c);
            same = ap (λ (x : Beat). map without_error (symbols_of side x)) (sym same);
            error = ap (λ (x : Beat). x.error) same ∙ sym (joined_error_of_beat side b (subst (AllHold side) is (all_hold c (λ b h. legal b (omega arith)))).0);
            some = subst (λ (x : Beat). 0 < symbol_count side x) (sym same) (subst (AllHold side) is (all_hold c (λ b h. legal b (omega arith)))).0;
          }
      by_shown (passing t none shown v same) =
          record {
            front = shown_symbols side up c;
            rest = [];
            split = ap (λ (q : List Beat). flat_map (symbols_of side) q ++ kept_shown passes side up c) none ∙ (kept_shown_all passes side up c (legal c (omega arith)) all_pass shown ∙ sym (append-nil (shown_symbols side up c)));
            same = ap (λ (x : Beat). map without_error (symbols_of side x)) (sym same);
            error = ap (λ (x : Beat). x.error) same ∙ sym (joined_error_of_beat side (beat_at up c) (shown_holds side up positive c (legal c (omega arith)) shown));
            some = subst (λ (x : Beat). 0 < symbol_count side x) (sym same) (shown_holds side up positive c (legal c (omega arith)) shown);
          }
      by_shown (idle none low) = absurd (both_ways _ low valid)

  stands : (c : ℕ) (beat : Beat) (beats : List Beat) → is_high down.valid c ≡ true → beat_at down c ≡ beat → held (suc c) ≡ beat ∷ beats → ShowsSame down c (suc c)
  stands c beat beats valid same e =
      let later : ShowsHeld through (beat ∷ beats) up down (suc c) = subst (λ (q : List Beat). ShowsHeld through q up down (suc c)) e (run.shows (suc c)) in
      by_through through later
    where
      by_through : (t : Bool) → ShowsHeld t (beat ∷ beats) up down (suc c) → ShowsSame down c (suc c)
      by_through true later = record { valid = eqb-true (down.valid c) 1 valid ∙ sym (eqb-true (down.valid (suc c)) 1 later.0); beat = same ∙ sym later.1 }
      by_through false later = record { valid = eqb-true (down.valid c) 1 valid ∙ sym (eqb-true (down.valid (suc c)) 1 later.0); beat = same ∙ sym later.1 }

  holds : (c : ℕ) → IsLegalSource side up (suc c) → IsHeld zero_pace down c
  holds zero legal = tt
  holds (suc c) legal = λ valid quiet. by_shown valid quiet (run.moves c (λ b h. legal b (omega arith)) ∙ cond-false (is_transfer zero_pace down c) _ _ quiet) (shown_at c)
    where
      by_shown : is_high down.valid c ≡ true → is_transfer zero_pace down c ≡ false → held (suc c) ≡ held c ++ taken_now side up c → Shown c → ShowsSame down c (suc c)
      by_shown valid quiet next (from_held b bs is v same) = stands c b (bs ++ taken_now side up c) valid same (next ∙ ap (λ (q : List Beat). q ++ taken_now side up c) is)
      by_shown valid quiet next (idle none low) = absurd (both_ways _ low valid)
      by_shown valid quiet next (passing t none shown v same) = by_taken (is_transfer side.pace up c) refl
        where
          empty_then : (bs : List Beat) → taken_now side up c ≡ bs → held (suc c) ≡ bs
          empty_then bs e = next ∙ (ap (λ (q : List Beat). q ++ taken_now side up c) none ∙ e)

          by_taken : (b : Bool) → is_transfer side.pace up c ≡ b → ShowsSame down c (suc c)
          by_taken true moves = stands c (beat_at up c) [] valid same (empty_then (beat_at up c ∷ []) (cond-true (is_transfer side.pace up c) _ _ moves))
          by_taken false stays =
              let up_held : ShowsSame up c (suc c) = (legal (suc c) (omega arith)).paced.held shown stays in
              let later : ShowsHeld true [] up down (suc c) = subst (λ b. ShowsHeld b [] up down (suc c)) t (subst (λ (q : List Beat). ShowsHeld through q up down (suc c)) (empty_then [] (cond-false (is_transfer side.pace up c) _ _ stays)) (run.shows (suc c))) in
              record { valid = v ∙ (up_held.valid ∙ later.valid); beat = same ∙ (up_held.beat ∙ later.beat) }

  buffer_flow : IsFlow (buffer_shape passes places side) (plain_run up down) store
  buffer_flow =
      record {
        starts = ap (flat_map (symbols_of side)) run.starts;
        passes_on = λ c legal _. passes_on c legal;
        shows = λ c legal _ valid. shows c legal valid;
        paced = λ c legal _. record { allowed = λ _. refl; held = holds c legal };
        ranked = λ c legal _ is. no_rank (buffer_shape passes places side) (plain_run up down) c refl refl (λ quiet ready. by_shown c legal is quiet (direct_ready zero_pace down c refl ready) (shown_at c)) (λ low. idles c (λ b h. legal b (omega arith)) is low (shown_at c));
      }
    where
      by_shown : (c : ℕ) → IsLegalSource side up (suc c) → inside (buffer_shape passes places side) (plain_run up down) c ≡ store c → is_transfer zero_pace down c ≡ false → is_high down.ready c ≡ true → Shown c
          → is_at_rest (buffer_shape passes places side) (plain_run up down) c ≡ true
      by_shown c legal is quiet ready (from_held b bs e v same) = absurd (both_ways _ quiet (gives_is c ∙ and_from _ _ v ready))
      by_shown c legal is quiet ready (passing t none shown v same) = absurd (both_ways _ quiet (gives_is c ∙ and_from _ _ (ap (λ n. eqb n 1) v ∙ shown) ready))
      by_shown c legal is quiet ready (idle none low) =
          rests_with (buffer_shape passes places side) (plain_run up down) c [] (is ∙ ap (flat_map (symbols_of side)) none) (behaves.rests c legal none ready) (omega arith) refl

      idles : (c : ℕ) → IsLegalSource side up c → inside (buffer_shape passes places side) (plain_run up down) c ≡ store c → is_high down.valid c ≡ false → Shown c → is_idle (buffer_shape passes places side) (plain_run up down) c ≡ true
      idles c legal is low (from_held b bs e v same) = absurd (both_ways _ low v)
      idles c legal is low (passing t none shown v same) = absurd (both_ways _ low (ap (λ n. eqb n 1) v ∙ shown))
      idles c legal is low (idle none _) =
          idle_with (buffer_shape passes places side) (plain_run up down) c [] (is ∙ ap (flat_map (symbols_of side)) none) (behaves.frees c legal none low) (omega arith) refl

  -- what is inside are the beats that are held
  pub held_inside : (c : ℕ) → IsLegalSource side up c → inside (buffer_shape passes places side) (plain_run up down) c ≡ flat_map (symbols_of side) (held c)
  held_inside c legal = inside_of (buffer_shape passes places side) (plain_run up down) store buffer_flow c
      (balance_of (buffer_shape passes places side) (plain_run up down) store buffer_flow c (λ b h. passes_on b (λ d k. legal d (omega arith))))

  pub buffer_keeps : KeepsStageLaw (buffer_shape passes places side) (plain_run up down)
  buffer_keeps = flow_keeps (buffer_shape passes places side) (plain_run up down) store buffer_flow positive refl (λ none. none) (λ channel h _. h)

-- ---- the buffer behind a source of some ready latency

module _ (side : Side) (up down : EndView) (held : ℕ → List Beat) (run : IsBufferRun side up down held) (strict : side.pace.allowance ≡ side.pace.latency) where
  asks_idle : (c : ℕ) → IsLegalSource side up c → held c ≡ [] → is_high up.ready c ≡ true
  asks_idle c legal none = run.asks c legal ∙ lt-ltb (length (held c) + ready_cycles side.pace.latency up c) (side.pace.latency + 1) (omega (arith, ap length none, ready_cycles_le side.pace.latency up c))

  buffer_behaves : Behaves true (side.pace.latency + 1) side up down held
  buffer_behaves =
      record {
        few = λ c legal. omega (arith, room side up held strict run.holds.starts (held_grows true side up down held run.holds) run.asks c legal);
        takes = λ c legal t none shown ready. and_from _ _ shown (or_right _ _ (asks_idle c (λ b h. legal b (omega arith)) none));
        rests = λ c legal none ready. asks_idle c (λ b h. legal b (omega arith)) none;
        frees = λ c legal none low. ready_frees side.pace up c (asks_idle c legal none);
      }

pub ready_buffer_keeps : (passes : ℕ → Bool) (side : Side) (up down : EndView) (held : ℕ → List Beat) → IsBufferRun side up down held → side.pace.allowance ≡ side.pace.latency → 0 < side.symbols
    → ((channel : ℕ) → channel ≤ side.max_channel → IsTrue (passes channel)) → KeepsStageLaw (buffer_shape passes (side.pace.latency + 1) side) (plain_run up down)
ready_buffer_keeps passes side up down held run strict positive all_pass =
    buffer_keeps true passes (side.pace.latency + 1) side up down held run.holds (buffer_behaves side up down held run strict) positive all_pass

-- ---- the register

module _ (side : Side) (up down : EndView) (held : ℕ → List Beat) (run : IsRegisterRun side up down held) (direct : side.pace.latency ≡ 0) where
  register_few : (c : ℕ) → IsLegalSource side up c → length (held c) ≤ 1
  register_few zero legal = omega (arith, ap length run.holds.starts)
  register_few (suc c) legal = by_held (register_few c (λ b h. legal b (omega arith))) (held c) refl (run.holds.shows c)
    where
      taken_at_most : length (taken_now side up c) ≤ 1
      taken_at_most = by_transfer (is_transfer side.pace up c)
        where
          by_transfer : (b : Bool) → length (cond b (beat_at up c ∷ []) []) ≤ 1
          by_transfer true = omega arith
          by_transfer false = omega arith

      by_held : length (held c) ≤ 1 → (bs : List Beat) → held c ≡ bs → ShowsHeld false bs up down c → length (held (suc c)) ≤ 1
      by_held few [] is s =
          let quiet : is_transfer zero_pace down c ≡ false = and_left _ _ s in
          omega (arith, ap length (run.holds.moves c legal ∙ cond-false (is_transfer zero_pace down c) _ _ quiet), length-append (held c) (taken_now side up c), ap length is, taken_at_most)
      by_held few (b ∷ bs) is s = by_ready (cases_Bool (is_high down.ready c))
        where
          full : length (held c) ≡ 1
          full = omega (arith, few, ap length is)

          by_ready : (is_high down.ready c ≡ true) ⊎ (is_high down.ready c ≡ false) → length (held (suc c)) ≤ 1
          by_ready (inl ready) =
              let moves : is_transfer zero_pace down c ≡ true = direct_transfer zero_pace down c refl ∙ and_from _ _ s.0 ready in
              omega (arith, ap length (run.holds.moves c legal ∙ cond-true (is_transfer zero_pace down c) _ _ moves), length-drop 1 (held c ++ taken_now side up c), length-append (held c) (taken_now side up c), full, taken_at_most)
          by_ready (inr low) =
              let quiet : is_transfer zero_pace down c ≡ false = direct_transfer zero_pace down c refl ∙ and_right _ _ low in
              let shut : is_high up.ready c ≡ false = run.asks c ∙ (ap (λ b. b || is_high down.ready c) (le-ltb (length (held c)) 1 (omega (arith, full))) ∙ low) in
              let stays : is_transfer side.pace up c ≡ false = direct_transfer side.pace up c direct ∙ and_right _ _ shut in
              omega (arith, ap length (run.holds.moves c legal ∙ cond-false (is_transfer zero_pace down c) _ _ quiet), length-append (held c) (taken_now side up c), full, ap length (cond-false (is_transfer side.pace up c) (beat_at up c ∷ []) [] stays))

  register_behaves : Behaves false 1 side up down held
  register_behaves =
      record {
        few = register_few;
        takes = λ c legal t none shown ready. absurd (cc);
        rests = λ c legal none ready. run.asks c ∙ or_right _ _ ready;
        frees = λ c legal none low. ready_frees side.pace up c (run.asks c ∙ or_left _ _ (lt-ltb (length (held c)) 1 (omega (arith, ap length none))));
      }

pub register_keeps : (passes : ℕ → Bool) (side : Side) (up down : EndView) (held : ℕ → List Beat) → IsRegisterRun side up down held → side.pace.latency ≡ 0 → 0 < side.symbols
    → ((channel : ℕ) → channel ≤ side.max_channel → IsTrue (passes channel)) → KeepsStageLaw (buffer_shape passes 1 side) (plain_run up down)
register_keeps passes side up down held run direct positive all_pass =
    buffer_keeps false passes 1 side up down held run.holds (register_behaves side up down held run direct) positive all_pass

-- ---- the buffer behind a source with an allowance

module _ (places : ℕ) (side : Side) (up down : EndView) (held : ℕ → List Beat) (run : IsAllowanceRun places side up down held) (delayed : 0 < side.pace.latency) (above : side.pace.latency < side.pace.allowance) (roomy : side.pace.allowance < places) where
  -- the beats that are held leave places for all that the allowance still lets come
  leaves : (c : ℕ) → IsLegalSource side up c → length (held c) + side.pace.allowance ≤ places + since side.pace up c
  leaves zero legal = omega (arith, ap length run.holds.starts)
  leaves (suc c) legal =
      still_leaves side up delayed above places (length (held c)) c (run.asks c) (leaves c (λ b h. legal b (omega arith))) (length (held (suc c))) (held_grows true side up down held run.holds c legal)

  asks_none : (c : ℕ) → held c ≡ [] → is_high up.ready c ≡ true
  asks_none c none = run.asks c ∙ lt-ltb (length (held c) + side.pace.allowance) places (omega (arith, ap length none))

  allowance_behaves : Behaves true places side up down held
  allowance_behaves =
      record {
        few = λ c legal. omega (arith, leaves c legal, since_within side up delayed above c legal);
        takes = λ c legal t none shown ready. and_from _ _ shown (or_left _ _ (lt-ltb 0 side.pace.latency delayed));
        rests = λ c legal none ready. asks_none c none;
        frees = λ c legal none low. ready_frees side.pace up c (asks_none c none);
      }

pub allowance_buffer_keeps : (passes : ℕ → Bool) (places : ℕ) (side : Side) (up down : EndView) (held : ℕ → List Beat) → IsAllowanceRun places side up down held → 0 < side.pace.latency → side.pace.latency < side.pace.allowance → side.pace.allowance < places
    → 0 < side.symbols → ((channel : ℕ) → channel ≤ side.max_channel → IsTrue (passes channel)) → KeepsStageLaw (buffer_shape passes places side) (plain_run up down)
allowance_buffer_keeps passes places side up down held run delayed above roomy positive all_pass =
    buffer_keeps true passes places side up down held run.holds (allowance_behaves places side up down held run delayed above roomy) positive all_pass

-- ---- ready

-- while its sink is always ready, a machine through which beats pass stays empty
module _ (side : Side) (up down : EndView) (held : ℕ → List Beat) (run : HoldsBeats true side up down held) where
  empty_next : (b : ℕ) → IsLegalSource side up (suc b) → held b ≡ [] → is_high down.ready b ≡ true → held (suc b) ≡ []
  empty_next b legal none ready_now = run.moves b legal ∙ by_transfer (is_transfer zero_pace down b) refl (is_transfer side.pace up b) refl
    where
      shown : ShowsHeld true [] up down b
      shown = subst (λ (q : List Beat). ShowsHeld true q up down b) none (run.shows b)

      by_transfer : (g : Bool) → is_transfer zero_pace down b ≡ g → (t : Bool) → is_transfer side.pace up b ≡ t
          → cond g (drop 1 (held b ++ cond t (beat_at up b ∷ []) [])) (held b ++ cond t (beat_at up b ∷ []) []) ≡ []
      by_transfer true moves true took = ap (λ (q : List Beat). drop 1 (q ++ beat_at up b ∷ [])) none
      by_transfer true moves false stays = ap (λ (q : List Beat). drop 1 (q ++ [])) none
      by_transfer false quiet false stays = ap (λ (q : List Beat). q ++ []) none
      by_transfer false quiet true took =
          let valid_up = (and_parts (is_high up.valid b) (nat_lt 0 side.pace.latency || is_high up.ready b) took).0 in
          absurd (both_ways _ quiet (direct_transfer zero_pace down b refl ∙ and_from _ _ (ap (λ n. eqb n 1) (sym shown.valid) ∙ valid_up) ready_now))

  stays_empty : (b : ℕ) → IsLegalSource side up b → ((d : ℕ) → d < b → is_high down.ready d ≡ true) → held b ≡ []
  stays_empty zero legal all = run.starts
  stays_empty (suc b) legal all = empty_next b legal (stays_empty b (λ d h. legal d (omega arith)) (λ d h. all d (omega arith))) (all b (omega arith))

pub ready_buffer_passes_ready : (passes : ℕ → Bool) (side : Side) (up down : EndView) (held : ℕ → List Beat) → IsBufferRun side up down held → side.pace.allowance ≡ side.pace.latency
    → PassesReady (buffer_shape passes (side.pace.latency + 1) side) (plain_run up down)
ready_buffer_passes_ready passes side up down held run strict c legal ready =
    asks_idle side up down held run strict c (λ b h. legal b (omega arith)) (stays_empty side up down held run.holds c (λ b h. legal b (omega arith)) (λ b h. ready b (omega arith)))

pub allowance_buffer_passes_ready : (passes : ℕ → Bool) (places : ℕ) (side : Side) (up down : EndView) (held : ℕ → List Beat) → IsAllowanceRun places side up down held → 0 < side.pace.latency → side.pace.latency < side.pace.allowance → side.pace.allowance < places
    → PassesReady (buffer_shape passes places side) (plain_run up down)
allowance_buffer_passes_ready passes places side up down held run delayed above roomy c legal ready =
    asks_none places side up down held run delayed above roomy c (stays_empty side up down held run.holds c (λ b h. legal b (omega arith)) (λ b h. ready b (omega arith)))

-- ---- the queue

module _ (depth : ℕ) (side : Side) (up down : EndView) (held : ℕ → List Beat) (run : IsQueueRun depth side up down held) (direct : side.pace.latency ≡ 0) where
  asks_empty : (c : ℕ) → held c ≡ [] → is_high down.ready c ≡ true → is_high up.ready c ≡ true
  asks_empty c none ready = run.asks c ∙ by_depth (cases_lt 0 depth)
    where
      by_depth : (0 < depth) ⊎ (depth ≤ 0) → (nat_lt (length (held c)) depth || ((eqb depth 0) && is_high down.ready c)) ≡ true
      by_depth (inl some) = or_left _ _ (lt-ltb (length (held c)) depth (omega (arith, ap length none)))
      by_depth (inr wire) = or_right _ _ (and_from _ _ (eq-eqb depth 0 (omega arith)) ready)

  queue_few : (c : ℕ) → IsLegalSource side up c → length (held c) ≤ depth
  queue_few zero legal = omega (arith, ap length run.holds.starts)
  queue_few (suc c) legal = by_ready (queue_few c (λ b h. legal b (omega arith))) (is_high up.ready c) refl (held_grows true side up down held run.holds c legal)
    where
      at_most : (b : Bool) → one_if b ≤ 1
      at_most true = omega arith
      at_most false = omega arith

      -- a wire keeps nothing
      through : depth ≡ 0 → is_high down.ready c ≡ true → held c ≡ [] → held (suc c) ≡ []
      through wire ready none = empty_next side up down held run.holds c legal none ready

      empty_list : (bs : List Beat) → length bs ≤ 0 → bs ≡ []
      empty_list [] h = refl
      empty_list (b ∷ bs) h = absurd (omega arith)

      by_ready : length (held c) ≤ depth → (r : Bool) → is_high up.ready c ≡ r → length (held (suc c)) ≤ length (held c) + one_if (is_transfer side.pace up c) → length (held (suc c)) ≤ depth
      by_ready few false low grows =
          let stays : is_transfer side.pace up c ≡ false = direct_transfer side.pace up c direct ∙ and_right _ _ low in
          omega (arith, few, subst (λ b. length (held (suc c)) ≤ length (held c) + one_if b) stays grows)
      by_ready few true asked grows = by_room (or_cases _ _ (sym (run.asks c) ∙ asked))
        where
          by_room : (nat_lt (length (held c)) depth ≡ true) ⊎ ((eqb depth 0 && is_high down.ready c) ≡ true) → length (held (suc c)) ≤ depth
          by_room (inl room) = omega (arith, grows, ltb-true _ _ room, at_most (is_transfer side.pace up c))
          by_room (inr open_wire) =
              let parts = and_parts (eqb depth 0) (is_high down.ready c) open_wire in
              let wire : depth ≡ 0 = eqb-true depth 0 parts.0 in
              omega (arith, ap length (through wire parts.1 (empty_list (held c) (omega (arith, few, wire)))))

  -- it shows the beat that comes where it holds none
  none_comes : (c : ℕ) → held c ≡ [] → is_high down.valid c ≡ false → is_high up.valid c ≡ false
  none_comes c none low =
      let shown : ShowsHeld true [] up down c = subst (λ (q : List Beat). ShowsHeld true q up down c) none (run.holds.shows c) in
      ap (λ n. eqb n 1) shown.valid ∙ low

  queue_behaves : Behaves true depth side up down held
  queue_behaves =
      record {
        few = queue_few;
        takes = λ c legal t none shown ready. and_from _ _ shown (or_right _ _ (asks_empty c none ready));
        rests = λ c legal none ready. asks_empty c none ready;
        frees = λ c legal none low. none_waits side.pace up c (none_comes c none low);
      }

pub queue_keeps : (passes : ℕ → Bool) (depth : ℕ) (side : Side) (up down : EndView) (held : ℕ → List Beat) → IsQueueRun depth side up down held → side.pace.latency ≡ 0 → 0 < side.symbols
    → ((channel : ℕ) → channel ≤ side.max_channel → IsTrue (passes channel)) → KeepsStageLaw (buffer_shape passes depth side) (plain_run up down)
queue_keeps passes depth side up down held run direct positive all_pass =
    buffer_keeps true passes depth side up down held run.holds (queue_behaves depth side up down held run direct) positive all_pass

-- a queue whose undelivered symbols begin fewer beats than its depth shows ready
pub queue_has_room : (passes : ℕ → Bool) (depth : ℕ) (side : Side) (up down : EndView) (held : ℕ → List Beat) → IsQueueRun depth side up down held → side.pace.latency ≡ 0 → 0 < side.symbols
    → ((channel : ℕ) → channel ≤ side.max_channel → IsTrue (passes channel)) → (c : ℕ) → IsLegalSource side up c
    → beats_begun side.symbols (inside (buffer_shape passes depth side) (plain_run up down) c) < depth → IsTrue (is_high up.ready c)
queue_has_room passes depth side up down held run direct positive all_pass c legal room =
    let behaves = queue_behaves depth side up down held run direct in
    let inside_is = held_inside true passes depth side up down held run.holds behaves positive all_pass c legal in
    let counted = ap (beats_begun side.symbols) inside_is ∙ beats_begun-all side (held c) (all_hold true passes depth side up down held run.holds behaves positive all_pass c legal) in
    run.asks c ∙ or_left _ _ (lt-ltb (length (held c)) depth (omega (arith, counted)))

pub queue_passes_ready : (passes : ℕ → Bool) (depth : ℕ) (side : Side) (up down : EndView) (held : ℕ → List Beat) → IsQueueRun depth side up down held → side.pace.latency ≡ 0
    → PassesReady (buffer_shape passes depth side) (plain_run up down)
queue_passes_ready passes depth side up down held run direct c legal ready =
    asks_empty depth side up down held run direct c (stays_empty side up down held run.holds c (λ b h. legal b (omega arith)) (λ b h. ready b (omega arith))) (ready c (omega arith))
