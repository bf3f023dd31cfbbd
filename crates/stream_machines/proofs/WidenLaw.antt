-- The machine that gathers beats keeps the law of a stage.
use Rattle.std.proofs.Common.{◌≡◌, ◌⊎◌, ℕ, zero, suc, ◌+◌, ◌-◌, ◌*◌, ◌≤◌, ◌<◌, Bool, true, false, cond, not, IsTrue, IsFalse, ◌&&◌, ◌||◌, List, [], ◌∷◌, ◌++◌, map, length, refl, ap, sym, ◌∙◌, subst, inl, inr, arith, length-append, eqb, nat_lt}
use Rattle.std.proofs.Math.Nat.{mul-le-mul_left}
use Rattle.std.specs.List.{flat_map, list_any}
use Rattle.std.proofs.lemmas.List.{append-nil}
use Rattle.std.proofs.lemmas.List.Concat.{flat_map-append}
use Rattle.std.proofs.lemmas.Bool.{cases_Bool, and_parts, and_from, and_left, or_left, or_right, cond-true, cond-false, eq-eqb, eqb-true, both_ways}
use Rattle.stream_runs.specs.Laws.{shown_holds}
use Rattle.stream_runs.specs.View.{Pace, EndView, Side, Beat, beat_at, is_high, is_transfer}
use Rattle.stream_runs.specs.Symbols.{Symbol, without_error, symbols_of, shown_count, shown_symbols, symbols_in, joined_error}
use Rattle.stream_runs.specs.Source.{IsLegalSource, IsLegalAt, IsHeld, ShowsSame, is_open, channel_before}
use Rattle.stream_machines.specs.Stage.{AsksWhileIdle, KeepsStageLaw, PassesReady}
use Rattle.stream_machines.specs.Flow.{IsFlow, PassesOn, ShowsNext, kept_in}
use Rattle.stream_machines.specs.Parts.{IsWidenRun, IsJoined, completes, widen_shape, plain_run}
use Rattle.stream_machines.proofs.FlowLaw.{no_rank}
use Rattle.stream_machines.proofs.FlowKeeps.{flow_keeps}
use Rattle.stream_machines.proofs.Direct.{direct_transfer, direct_ready, rests_with, idle_with, ready_frees, kept_in_all, kept_shown_all, or_none}
use Rattle.stream_machines.proofs.Joining.{IsRow, AllGo, row-append, go-append, total_going, length_of_all, errors_of_row, no_last, row_channel, held_is, symbols_of_joined}

-- a beat goes out where one comes in that completes a wide beat
ports_meet : (v l r : Bool) → ((v && l) && r) ≡ ((v && (not (v && l) || r)) && (v && l))
ports_meet true true true = refl
ports_meet true true false = refl
ports_meet true false r = refl
ports_meet false l r = refl

-- it asks for beats while it shows none
pub widen_asks : (parts : ℕ) (narrow wide : Side) (up down : EndView) (gathered : ℕ → List Beat) → IsWidenRun parts narrow wide up down gathered → AsksWhileIdle up down
widen_asks parts narrow wide up down gathered run c idle = run.asks c ∙ or_left _ _ (ap not (sym (run.valid c) ∙ idle))

-- what is known of the beats that are gathered, where a packet is open or not and the last beat was on this channel
record Gathering (narrow : Side) (parts : ℕ) (opened : Bool) (channel : ℕ) (beats : List Beat) : Type 0 where
  few : length beats < parts
  row : IsRow narrow channel 0 beats
  go : AllGo beats
  open_too : 0 < length beats → opened ≡ true
  in_range : 0 < length beats → channel ≤ narrow.max_channel

module _ (passes : ℕ → Bool) (parts : ℕ) (narrow wide : Side) (up down : EndView) (gathered : ℕ → List Beat) (run : IsWidenRun parts narrow wide up down gathered)
    (some_parts : 0 < parts) (positive : 0 < narrow.symbols) (size : wide.symbols ≡ narrow.symbols * parts) (direct : narrow.pace.latency ≡ 0) (pace : wide.pace ≡ narrow.pace)
    (no_channels : IsFalse narrow.packets → 1 < parts → narrow.max_channel ≡ 0) (all_pass : (channel : ℕ) → channel ≤ narrow.max_channel → IsTrue (passes channel)) where
  wide_direct : wide.pace.latency ≡ 0
  wide_direct = ap (λ (p : Pace). p.latency) pace ∙ direct

  gives_is : (c : ℕ) → is_transfer wide.pace down c ≡ (is_transfer narrow.pace up c && completes parts up (gathered c) c)
  gives_is c =
      direct_transfer wide.pace down c wide_direct
      ∙ (ap (λ b. b && is_high down.ready c) (run.valid c)
      ∙ (ports_meet (is_high up.valid c) (is_high up.last c || eqb (length (gathered c) + 1) parts) (is_high down.ready c)
      ∙ (ap (λ b. (is_high up.valid c && b) && completes parts up (gathered c) c) (sym (run.asks c))
      ∙ ap (λ b. b && completes parts up (gathered c) c) (sym (direct_transfer narrow.pace up c direct)))))

  -- with the beat that is shown, the gathered beats are a row
  row_with : (c : ℕ) → IsLegalAt narrow up c → is_high up.valid c ≡ true → Gathering narrow parts (is_open narrow.pace up c) (channel_before narrow.pace up c) (gathered c)
      → IsRow narrow (up.channel c) 0 (gathered c ++ beat_at up c ∷ [])
  row_with c legal shown g =
      row-append narrow (up.channel c) 0 (gathered c) (beat_at up c) (row_channel narrow (channel_before narrow.pace up c) (up.channel c) 0 (gathered c) on_channel g.row) g.go refl (λ h. behind (omega arith)) (shown_holds narrow up positive c legal shown)
    where
      on_channel : 0 < length (gathered c) → channel_before narrow.pace up c ≡ up.channel c
      on_channel h = by_packets (cases_Bool narrow.packets)
        where
          by_packets : (narrow.packets ≡ true) ⊎ (narrow.packets ≡ false) → channel_before narrow.pace up c ≡ up.channel c
          by_packets (inl packets) = sym ((legal.formed shown).one_channel packets (g.open_too h))
          by_packets (inr none) = omega (arith, g.in_range h, (legal.formed shown).in_range, no_channels none (omega (arith, h, g.few)))

      behind : 0 < length (gathered c) → eqb (up.first c) 1 ≡ false
      behind h = by_packets (cases_Bool narrow.packets)
        where
          by_packets : (narrow.packets ≡ true) ⊎ (narrow.packets ≡ false) → eqb (up.first c) 1 ≡ false
          by_packets (inl packets) = (legal.formed shown).begins packets ∙ ap not (g.open_too h)
          by_packets (inr none) = ((legal.formed shown).unmarked none).0

  shown_up : (c : ℕ) → is_transfer narrow.pace up c ≡ true → is_high up.valid c ≡ true
  shown_up c moves = (and_parts (is_high up.valid c) (nat_lt 0 narrow.pace.latency || is_high up.ready c) moves).0

  -- a beat that comes in and completes nothing
  goes_on : (c : ℕ) → is_high up.valid c ≡ true → completes parts up (gathered c) c ≡ false → (eqb (up.last c) 1 ≡ false) × (eqb (length (gathered c) + 1) parts ≡ false)
  goes_on c shown undone = or_none (is_high up.last c) (eqb (length (gathered c) + 1) parts) (subst (λ b. (b && (is_high up.last c || eqb (length (gathered c) + 1) parts)) ≡ false) shown undone)

  gathering : (c : ℕ) → IsLegalSource narrow up c → Gathering narrow parts (is_open narrow.pace up c) (channel_before narrow.pace up c) (gathered c)
  gathering zero legal = subst (Gathering narrow parts false 0) (sym run.starts) (record { few = some_parts; row = tt; go = tt; open_too = λ h. absurd (omega arith); in_range = λ h. absurd (omega arith) })
  gathering (suc c) legal = by_transfer (gathering c (λ b h. legal b (omega arith))) (is_transfer narrow.pace up c) refl (run.moves c)
    where
      by_completes : Gathering narrow parts (is_open narrow.pace up c) (channel_before narrow.pace up c) (gathered c) → is_transfer narrow.pace up c ≡ true → (b : Bool) → completes parts up (gathered c) c ≡ b
          → Gathering narrow parts (not (is_high up.last c)) (up.channel c) (cond b [] (gathered c ++ beat_at up c ∷ []))
      by_completes g moves true done = record { few = some_parts; row = tt; go = tt; open_too = λ h. absurd (omega arith); in_range = λ h. absurd (omega arith) }
      by_completes g moves false undone =
          let shown = shown_up c moves in
          let goes = goes_on c shown undone in
          record {
            few = omega (arith, g.few, length-append (gathered c) (beat_at up c ∷ []), more goes.1);
            row = row_with c (legal c (omega arith)) shown g;
            go = go-append (gathered c) (beat_at up c) g.go goes.0;
            open_too = λ h. ap not goes.0;
            in_range = λ h. ((legal c (omega arith)).formed shown).in_range;
          }
        where
          more : eqb (length (gathered c) + 1) parts ≡ false → (length (gathered c) + 1 ≡ parts → ⊥)
          more e same = both_ways _ e (eq-eqb (length (gathered c) + 1) parts same)

      by_transfer : Gathering narrow parts (is_open narrow.pace up c) (channel_before narrow.pace up c) (gathered c) → (b : Bool) → is_transfer narrow.pace up c ≡ b
          → gathered (suc c) ≡ cond b (cond (completes parts up (gathered c) c) [] (gathered c ++ beat_at up c ∷ [])) (gathered c)
          → Gathering narrow parts (cond b (not (is_high up.last c)) (is_open narrow.pace up c)) (cond b (up.channel c) (channel_before narrow.pace up c)) (gathered (suc c))
      by_transfer g true moves e = subst (Gathering narrow parts (not (is_high up.last c)) (up.channel c)) (sym e) (by_completes g moves (completes parts up (gathered c) c) refl)
      by_transfer g false stays e = subst (Gathering narrow parts (is_open narrow.pace up c) (channel_before narrow.pace up c)) (sym e) g

  abbrev store : ℕ → List Symbol
  store c = flat_map (symbols_of narrow) (gathered c)

  store_with : (c : ℕ) → flat_map (symbols_of narrow) (gathered c ++ beat_at up c ∷ []) ≡ flat_map (symbols_of narrow) (gathered c) ++ shown_symbols narrow up c
  store_with c = flat_map-append (symbols_of narrow) (gathered c) (beat_at up c ∷ []) ∙ ap (λ (xs : List Symbol). flat_map (symbols_of narrow) (gathered c) ++ xs) (append-nil (shown_symbols narrow up c))

  -- a wide beat that is shown
  module _ (c : ℕ) (legal : IsLegalSource narrow up (suc c)) (done : completes parts up (gathered c) c ≡ true) where
    shown_now : is_high up.valid c ≡ true
    shown_now = (and_parts (is_high up.valid c) (is_high up.last c || eqb (length (gathered c) + 1) parts) done).0

    joined_now : IsJoined narrow wide (gathered c) (beat_at up c) (beat_at down c)
    joined_now = run.shows c legal (run.valid c ∙ done)

    before_now : Gathering narrow parts (is_open narrow.pace up c) (channel_before narrow.pace up c) (gathered c)
    before_now = gathering c (λ b h. legal b (omega arith))

    row_now : IsRow narrow (up.channel c) 0 (gathered c ++ beat_at up c ∷ [])
    row_now = row_with c (legal c (omega arith)) shown_now before_now

    full_now : eqb (up.last c) 1 ≡ false → length (gathered c) + 1 ≡ parts
    full_now goes = eqb-true _ _ (second (is_high up.last c) (eqb (length (gathered c) + 1) parts) goes (and_parts (is_high up.valid c) (is_high up.last c || eqb (length (gathered c) + 1) parts) done).1)
      where
        second : (a b : Bool) → a ≡ false → (a || b) ≡ true → b ≡ true
        second true b p q = absurd (cc)
        second false b p q = q

    symbols_now : map without_error (flat_map (symbols_of narrow) (gathered c) ++ shown_symbols narrow up c) ≡ map without_error (shown_symbols wide down c)
    symbols_now =
        ap (map without_error) (sym (store_with c))
        ∙ sym (symbols_of_joined parts narrow wide (gathered c) (beat_at up c) (beat_at down c) positive size joined_now row_now before_now.go (shown_holds narrow up positive c (legal c (omega arith)) shown_now) (omega (arith, before_now.few)) full_now)

    error_now : down.error c ≡ joined_error (flat_map (symbols_of narrow) (gathered c) ++ shown_symbols narrow up c)
    error_now = joined_now.error ∙ (sym (errors_of_row narrow (up.channel c) 0 (gathered c ++ beat_at up c ∷ []) row_now) ∙ ap joined_error (store_with c))

    some_now : 0 < shown_count wide down c
    some_now =
        let total_is = held_is parts narrow wide (gathered c) (beat_at up c) (beat_at down c) positive size joined_now row_now before_now.go (shown_holds narrow up positive c (legal c (omega arith)) shown_now) (omega (arith, before_now.few)) full_now in
        let all = length_of_all narrow (gathered c ++ beat_at up c ∷ []) in
        let split = ap length (store_with c) ∙ length-append (flat_map (symbols_of narrow) (gathered c)) (shown_symbols narrow up c) in
        let latest = length_of_all narrow (beat_at up c ∷ []) in
        let same = ap length (append-nil (shown_symbols narrow up c)) in
        omega (arith, total_is, all, split, latest, same, shown_holds narrow up positive c (legal c (omega arith)) shown_now)

  passes_on : (c : ℕ) → IsLegalSource narrow up (suc c) → PassesOn (widen_shape passes parts narrow wide) (plain_run up down) store c
  passes_on c legal = by_transfer (is_transfer narrow.pace up c) refl (completes parts up (gathered c) c) refl
    where
      came : kept_in passes narrow up c ≡ symbols_in narrow up c
      came = kept_in_all passes narrow up c (legal c (omega arith)) all_pass

      later : Gathering narrow parts (is_open narrow.pace up (suc c)) (channel_before narrow.pace up (suc c)) (gathered (suc c))
      later = gathering (suc c) legal

      few : length (store (suc c)) ≤ (parts - 1) * narrow.symbols
      few =
          let least : narrow.symbols * length (gathered (suc c)) ≤ narrow.symbols * (parts - 1) = mul-le-mul_left narrow.symbols (omega (arith, later.few)) in
          let turned : (parts - 1) * narrow.symbols ≡ narrow.symbols * (parts - 1) = omega arith in
          omega (arith, length_of_all narrow (gathered (suc c)), total_going narrow (gathered (suc c)) later.go, least, turned)

      quiet_out : is_transfer wide.pace down c ≡ false → map without_error (symbols_in wide down c) ≡ []
      quiet_out quiet = ap (map without_error) (cond-false (is_transfer wide.pace down c) (shown_symbols wide down c) [] quiet)

      by_transfer : (a : Bool) → is_transfer narrow.pace up c ≡ a → (b : Bool) → completes parts up (gathered c) c ≡ b → PassesOn (widen_shape passes parts narrow wide) (plain_run up down) store c
      by_transfer false stays b is =
          let quiet : is_transfer wide.pace down c ≡ false = gives_is c ∙ and_left _ _ stays in
          let next : gathered (suc c) ≡ gathered c = run.moves c ∙ cond-false (is_transfer narrow.pace up c) _ _ stays in
          record {
            out = [];
            split = ap (λ (xs : List Symbol). store c ++ xs) (came ∙ cond-false (is_transfer narrow.pace up c) (shown_symbols narrow up c) [] stays) ∙ (append-nil (store c) ∙ ap (flat_map (symbols_of narrow)) (sym next));
            same = sym (quiet_out quiet);
            joined = λ moves. absurd (both_ways _ quiet moves);
            some = λ moves. absurd (both_ways _ quiet moves);
            few = few;
          }
      by_transfer true moves false undone =
          let quiet : is_transfer wide.pace down c ≡ false = gives_is c ∙ (ap (λ b. b && completes parts up (gathered c) c) moves ∙ undone) in
          let next : gathered (suc c) ≡ gathered c ++ beat_at up c ∷ [] = run.moves c ∙ (cond-true (is_transfer narrow.pace up c) _ _ moves ∙ cond-false (completes parts up (gathered c) c) _ _ undone) in
          record {
            out = [];
            split = ap (λ (xs : List Symbol). store c ++ xs) (came ∙ cond-true (is_transfer narrow.pace up c) (shown_symbols narrow up c) [] moves) ∙ (sym (store_with c) ∙ ap (flat_map (symbols_of narrow)) (sym next));
            same = sym (quiet_out quiet);
            joined = λ given. absurd (both_ways _ quiet given);
            some = λ given. absurd (both_ways _ quiet given);
            few = few;
          }
      by_transfer true moves true done =
          let given : is_transfer wide.pace down c ≡ true = gives_is c ∙ and_from _ _ moves done in
          let next : gathered (suc c) ≡ [] = run.moves c ∙ (cond-true (is_transfer narrow.pace up c) _ _ moves ∙ cond-true (completes parts up (gathered c) c) _ _ done) in
          record {
            out = store c ++ shown_symbols narrow up c;
            split = ap (λ (xs : List Symbol). store c ++ xs) (came ∙ cond-true (is_transfer narrow.pace up c) (shown_symbols narrow up c) [] moves)
                ∙ (sym (append-nil (store c ++ shown_symbols narrow up c)) ∙ ap (λ (bs : List Beat). (store c ++ shown_symbols narrow up c) ++ flat_map (symbols_of narrow) bs) (sym next));
            same = symbols_now c legal done ∙ ap (map without_error) (sym (cond-true (is_transfer wide.pace down c) (shown_symbols wide down c) [] given));
            joined = λ g. error_now c legal done;
            some = λ g. some_now c legal done;
            few = few;
          }

  shows : (c : ℕ) → IsLegalSource narrow up (suc c) → IsTrue (is_high down.valid c) → ShowsNext (widen_shape passes parts narrow wide) (plain_run up down) store c
  shows c legal valid =
      let done : completes parts up (gathered c) c ≡ true = sym (run.valid c) ∙ valid in
      record {
        front = store c ++ shown_symbols narrow up c;
        rest = [];
        split = ap (λ (xs : List Symbol). store c ++ xs) (kept_shown_all passes narrow up c (legal c (omega arith)) all_pass (shown_now c legal done)) ∙ sym (append-nil (store c ++ shown_symbols narrow up c));
        same = symbols_now c legal done;
        error = error_now c legal done;
        some = some_now c legal done;
      }

  holds : (c : ℕ) → IsLegalSource narrow up (suc c) → IsHeld wide.pace down c
  holds zero legal = tt
  holds (suc c) legal = λ valid quiet.
      let done : completes parts up (gathered c) c ≡ true = sym (run.valid c) ∙ valid in
      let stays : is_transfer narrow.pace up c ≡ false = still (is_transfer narrow.pace up c) (completes parts up (gathered c) c) done (sym (gives_is c) ∙ quiet) in
      let shown : is_high up.valid c ≡ true = (and_parts (is_high up.valid c) (is_high up.last c || eqb (length (gathered c) + 1) parts) done).0 in
      let next : gathered (suc c) ≡ gathered c = run.moves c ∙ cond-false (is_transfer narrow.pace up c) _ _ stays in
      let held : ShowsSame up c (suc c) = (legal (suc c) (omega arith)).paced.held shown stays in
      let done' : completes parts up (gathered (suc c)) (suc c) ≡ true =
      ap (λ (bs : List Beat). completes parts up bs (suc c)) next
      ∙ (ap (λ n. eqb n 1 && (is_high up.last (suc c) || eqb (length (gathered c) + 1) parts)) (sym held.valid)
      ∙ (ap (λ (x : Beat). is_high up.valid c && (eqb x.last 1 || eqb (length (gathered c) + 1) parts)) (sym held.beat) ∙ done)) in
      record {
        valid = eqb-true (down.valid c) 1 valid ∙ sym (eqb-true (down.valid (suc c)) 1 (run.valid (suc c) ∙ done'));
        beat = run.same c (suc c) (omega arith) legal valid (run.valid (suc c) ∙ done') (sym next) held.beat;
      }
    where
      still : (a b : Bool) → b ≡ true → (a && b) ≡ false → a ≡ false
      still false b p q = refl
      still true b p q = absurd (both_ways _ q p)

  widen_flow : IsFlow (widen_shape passes parts narrow wide) (plain_run up down) store
  widen_flow =
      record {
        starts = ap (flat_map (symbols_of narrow)) run.starts;
        passes_on = λ c legal _. passes_on c legal;
        shows = λ c legal _ valid. shows c legal valid;
        paced = λ c legal _. record { allowed = λ _. or_left _ _ (eq-eqb wide.pace.latency 0 wide_direct); held = holds c legal };
        ranked = λ c legal _ is. no_rank (widen_shape passes parts narrow wide) (plain_run up down) c refl refl
            (λ quiet ready. rests_with (widen_shape passes parts narrow wide) (plain_run up down) c (store c) is
            (run.asks c ∙ or_right _ _ (direct_ready wide.pace down c wide_direct ready)) (few_kept c legal) (none_ends c legal))
            (λ low. idle_with (widen_shape passes parts narrow wide) (plain_run up down) c (store c) is
            (ready_frees narrow.pace up c (widen_asks parts narrow wide up down gathered run c low)) (few_kept c legal) (none_ends c legal));
      }
    where
      few_kept : (c : ℕ) → IsLegalSource narrow up (suc c) → length (store c) ≤ (parts - 1) * narrow.symbols
      few_kept c legal =
          let g = gathering c (λ b h. legal b (omega arith)) in
          let least : narrow.symbols * length (gathered c) ≤ narrow.symbols * (parts - 1) = mul-le-mul_left narrow.symbols (omega (arith, g.few)) in
          let turned : (parts - 1) * narrow.symbols ≡ narrow.symbols * (parts - 1) = omega arith in
          omega (arith, length_of_all narrow (gathered c), total_going narrow (gathered c) g.go, least, turned)

      none_ends : (c : ℕ) → IsLegalSource narrow up (suc c) → list_any (λ (symbol : Symbol). symbol.last) (store c) ≡ false
      none_ends c legal = no_last narrow (gathered c) (gathering c (λ b h. legal b (omega arith))).go

-- the machine that gathers beats, between ends of ready latency 0
pub widen_keeps : (passes : ℕ → Bool) (parts : ℕ) (narrow wide : Side) (up down : EndView) (gathered : ℕ → List Beat) → IsWidenRun parts narrow wide up down gathered
    → 0 < parts → 0 < narrow.symbols → wide.symbols ≡ narrow.symbols * parts → narrow.pace.latency ≡ 0 → narrow.pace.allowance ≡ 0 → wide.pace ≡ narrow.pace
    → narrow.packets ≡ wide.packets → narrow.error_bits ≡ wide.error_bits → narrow.max_channel ≡ wide.max_channel → (IsFalse narrow.packets → 1 < parts → narrow.max_channel ≡ 0)
    → ((channel : ℕ) → channel ≤ narrow.max_channel → IsTrue (passes channel)) → KeepsStageLaw (widen_shape passes parts narrow wide) (plain_run up down)
widen_keeps passes parts narrow wide up down gathered run some_parts positive size direct strict pace packets errors channels no_channels all_pass =
    flow_keeps (widen_shape passes parts narrow wide) (plain_run up down) (store passes parts narrow wide up down gathered run some_parts positive size direct pace no_channels all_pass)
    (widen_flow passes parts narrow wide up down gathered run some_parts positive size direct pace no_channels all_pass) positive packets (λ none. errors ∙ none) (λ channel h _. omega (arith, channels))

-- it passes ready
pub widen_passes_ready : (passes : ℕ → Bool) (parts : ℕ) (narrow wide : Side) (up down : EndView) (gathered : ℕ → List Beat) → IsWidenRun parts narrow wide up down gathered
    → PassesReady (widen_shape passes parts narrow wide) (plain_run up down)
widen_passes_ready passes parts narrow wide up down gathered run c legal ready = run.asks c ∙ or_right _ _ (ready c (omega arith))

-- what it may keep for good is less than a wide beat
pub widen_rests : (passes : ℕ → Bool) (parts : ℕ) (narrow wide : Side) → 0 < parts → 0 < narrow.symbols → wide.symbols ≡ narrow.symbols * parts → (widen_shape passes parts narrow wide).rest < wide.symbols
widen_rests passes zero narrow wide some positive size = absurd (omega arith)
widen_rests passes (suc more) narrow wide some positive size =
    let less : suc more - 1 ≡ more = omega arith in
    omega (arith, size, positive, ap (λ n. n * narrow.symbols) less)
