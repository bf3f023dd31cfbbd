-- The machine that takes beats apart keeps the law of a stage.
use Rattle.std.proofs.Common.{◌≡◌, ◌⊎◌, ℕ, zero, suc, ◌+◌, ◌-◌, ◌≤◌, ◌<◌, Bool, true, false, cond, not, IsTrue, ◌&&◌, ◌||◌, List, [], ◌∷◌, ◌++◌, map, length, drop, refl, ap, sym, ◌∙◌, subst, inl, inr, arith, append_assoc, eqb, nat_lt}
use Rattle.std.specs.List.{flat_map}
use Rattle.std.proofs.lemmas.List.{append-nil}
use Rattle.std.proofs.lemmas.Bool.{cases_Bool, cases_lt, and_parts, and_from, and_right, or_left, cond-true, cond-false, eq-eqb, eqb-true, both_ways}
use Rattle.stream_runs.specs.Laws.{shown_holds, joined_error_of_beat}
use Rattle.stream_runs.specs.View.{Pace, EndView, Side, Beat, beat_at, is_high, is_transfer}
use Rattle.stream_runs.specs.Symbols.{Symbol, without_error, symbols_of, symbol_count, shown_count, shown_symbols, symbols_in}
use Rattle.stream_runs.specs.Source.{IsLegalSource, IsLegalAt, IsHeld, ShowsSame}
use Rattle.stream_machines.specs.Stage.{KeepsStageLaw, PassesReady, inside, is_at_rest, is_idle}
use Rattle.stream_machines.specs.Flow.{IsFlow, PassesOn, ShowsNext, kept_in, kept_shown}
use Rattle.stream_machines.specs.Parts.{IsNarrowRun, IsSplit, IsFirstOf, is_none, pieces_now, narrow_shape, plain_run}
use Rattle.stream_machines.proofs.FlowLaw.{no_rank}
use Rattle.stream_machines.proofs.FlowKeeps.{flow_keeps}
use Rattle.stream_machines.proofs.Direct.{direct_transfer, direct_ready, rests_with, idle_with, none_waits, kept_in_all, kept_shown_all}
use Rattle.stream_machines.proofs.Joining.{total, IsRow, length_of_all, same_held, row_of_split, symbols_of_split}

-- what is left of a beat: its last pieces, which leave out at least one
record Left (narrow wide : Side) (beats : List Beat) : Type 0 where
  channel : ℕ
  from : ℕ
  row : IsRow narrow channel from beats
  few : total narrow beats ≤ wide.symbols - narrow.symbols

module _ (passes : ℕ → Bool) (pieces_of : Beat → List Beat) (wide narrow : Side) (up down : EndView) (left : ℕ → List Beat) (run : IsNarrowRun pieces_of wide narrow up down left)
    (splits : (beat : Beat) → 0 < symbol_count wide beat → IsSplit narrow wide beat (pieces_of beat)) (positive : 0 < narrow.symbols) (positive' : 0 < wide.symbols)
    (direct : wide.pace.latency ≡ 0) (pace : narrow.pace ≡ wide.pace) (all_pass : (channel : ℕ) → channel ≤ wide.max_channel → IsTrue (passes channel)) where
  narrow_direct : narrow.pace.latency ≡ 0
  narrow_direct = ap (λ (p : Pace). p.latency) pace ∙ direct

  abbrev store : ℕ → List Symbol
  store c = flat_map (symbols_of narrow) (left c)

  -- while nothing is left both sides transfer together, and otherwise nothing comes in
  transfer_alike : (c : ℕ) → left c ≡ [] → is_transfer wide.pace up c ≡ is_transfer narrow.pace down c
  transfer_alike c none =
      let asked : is_high up.ready c ≡ is_high down.ready c = run.asks c ∙ ap (λ (bs : List Beat). is_none bs && is_high down.ready c) none in
      let valid : is_high down.valid c ≡ is_high up.valid c = run.valid c ∙ ap (λ (bs : List Beat). not (is_none bs) || is_high up.valid c) none in
      direct_transfer wide.pace up c direct ∙ (ap (λ b. is_high up.valid c && b) asked ∙ (ap (λ b. b && is_high down.ready c) (sym valid) ∙ sym (direct_transfer narrow.pace down c narrow_direct)))

  nothing_comes : (c : ℕ) (beat : Beat) (beats : List Beat) → left c ≡ beat ∷ beats → is_transfer wide.pace up c ≡ false
  nothing_comes c beat beats is =
      let shut : is_high up.ready c ≡ false = run.asks c ∙ ap (λ (bs : List Beat). is_none bs && is_high down.ready c) is in
      direct_transfer wide.pace up c direct ∙ and_right (is_high up.valid c) _ shut

  shown_while_left : (c : ℕ) (beat : Beat) (beats : List Beat) → left c ≡ beat ∷ beats → is_high down.valid c ≡ true
  shown_while_left c beat beats is = run.valid c ∙ ap (λ (bs : List Beat). not (is_none bs) || is_high up.valid c) is

  shown_down : (c : ℕ) → is_transfer narrow.pace down c ≡ true → is_high down.valid c ≡ true
  shown_down c moves = (and_parts (is_high down.valid c) (nat_lt 0 narrow.pace.latency || is_high down.ready c) moves).0

  -- the pieces of the beat that is shown
  module _ (c : ℕ) (legal : IsLegalAt wide up c) (shown : is_high up.valid c ≡ true) where
    split_now : IsSplit narrow wide (beat_at up c) (pieces_of (beat_at up c))
    split_now = splits (beat_at up c) (shown_holds wide up positive' c legal shown)

    total_now : total narrow (pieces_of (beat_at up c)) ≡ shown_count wide up c
    total_now = sym (same_held narrow (pieces_of (beat_at up c))) ∙ split_now.all

    symbols_now : shown_symbols wide up c ≡ flat_map (symbols_of narrow) (pieces_of (beat_at up c))
    symbols_now = symbols_of_split narrow wide (beat_at up c) (pieces_of (beat_at up c)) positive split_now

    left_now : (p : Beat) (ps : List Beat) → pieces_of (beat_at up c) ≡ p ∷ ps → Left narrow wide ps
    left_now p ps is = by_more (cases_lt 0 (length ps))
      where
        row : IsRow narrow (up.channel c) 0 (p ∷ ps)
        row = subst (IsRow narrow (up.channel c) 0) is (row_of_split narrow wide (beat_at up c) (pieces_of (beat_at up c)) positive split_now)

        least : shown_count wide up c ≤ wide.symbols
        least = by_last (is_high up.last c)
          where
            by_last : (b : Bool) → cond b (wide.symbols - up.empty c) wide.symbols ≤ wide.symbols
            by_last true = omega arith
            by_last false = omega arith

        sum : symbol_count narrow p + total narrow ps ≡ shown_count wide up c
        sum = ap (total narrow) (sym is) ∙ total_now

        by_more : (0 < length ps) ⊎ (length ps ≤ 0) → Left narrow wide ps
        by_more (inl more) =
            let full : symbol_count narrow p ≡ narrow.symbols = cond-false _ _ _ (row.2 more) in
            record { channel = up.channel c; from = 0 + 1; row = row.4; few = omega (arith, full, sum, least) }
        by_more (inr none) = record { channel = up.channel c; from = 0 + 1; row = row.4; few = omega (arith, nothing ps none) }
          where
            nothing : (bs : List Beat) → length bs ≤ 0 → total narrow bs ≡ 0
            nothing [] h = refl
            nothing (b ∷ bs) h = absurd (omega arith)

    some_pieces : pieces_of (beat_at up c) ≡ [] → ⊥
    some_pieces is = absurd (omega (arith, ap (total narrow) (sym is) ∙ total_now, shown_holds wide up positive' c legal shown))

  -- the piece that goes out, and what is left then
  record Goes (c : ℕ) (piece : Beat) (rest : List Beat) : Type 0 where
    shown : beat_at down c ≡ piece
    next : is_transfer narrow.pace down c ≡ true → left (suc c) ≡ rest
    some : 0 < symbol_count narrow piece
    left_then : Left narrow wide rest

  goes_kept : (c : ℕ) (beat : Beat) (beats : List Beat) → left c ≡ beat ∷ beats → Left narrow wide (beat ∷ beats) → Goes c beat beats
  goes_kept c beat beats is l =
      record {
        shown = subst (λ (bs : List Beat). IsFirstOf (beat_at down c) (pieces_now pieces_of up bs c)) is (run.shows c (shown_while_left c beat beats is));
        next = λ moves. run.moves c ∙ (cond-true (is_transfer narrow.pace down c) _ _ moves ∙ ap (λ (bs : List Beat). drop 1 (pieces_now pieces_of up bs c)) is);
        some = l.row.3;
        left_then = record { channel = l.channel; from = l.from + 1; row = l.row.4; few = omega (arith, l.few) };
      }

  goes_through : (c : ℕ) → IsLegalAt wide up c → left c ≡ [] → is_high up.valid c ≡ true → (p : Beat) (ps : List Beat) → pieces_of (beat_at up c) ≡ p ∷ ps → Goes c p ps
  goes_through c legal none shown p ps is =
      let valid : is_high down.valid c ≡ true = run.valid c ∙ (ap (λ (bs : List Beat). not (is_none bs) || is_high up.valid c) none ∙ shown) in
      let row = subst (IsRow narrow (up.channel c) 0) is (row_of_split narrow wide (beat_at up c) (pieces_of (beat_at up c)) positive (split_now c legal shown)) in
      record {
        shown = subst (IsFirstOf (beat_at down c)) is (subst (λ (bs : List Beat). IsFirstOf (beat_at down c) (pieces_now pieces_of up bs c)) none (run.shows c valid));
        next = λ moves. run.moves c ∙ (cond-true (is_transfer narrow.pace down c) _ _ moves ∙ (ap (λ (bs : List Beat). drop 1 (pieces_now pieces_of up bs c)) none ∙ ap (drop 1) is));
        some = row.3;
        left_then = left_now c legal shown p ps is;
      }

  stays_left : (c : ℕ) → is_transfer narrow.pace down c ≡ false → left (suc c) ≡ left c
  stays_left c quiet = run.moves c ∙ cond-false (is_transfer narrow.pace down c) _ _ quiet

  -- the cases of a cycle: a piece that was kept is shown, the first piece of a beat passes through, or nothing is there
  is_left : (c : ℕ) → IsLegalSource wide up c → Left narrow wide (left c)
  is_left zero legal = subst (Left narrow wide) (sym run.starts) (record { channel = 0; from = 0; row = tt; few = omega arith })
  is_left (suc c) legal = by_transfer (is_left c (λ b h. legal b (omega arith))) (cases_Bool (is_transfer narrow.pace down c))
    where
      by_left : is_transfer narrow.pace down c ≡ true → (bs : List Beat) → left c ≡ bs → Left narrow wide bs → Left narrow wide (left (suc c))
      by_left moves (b ∷ bs) is l = let g = goes_kept c b bs is l in subst (Left narrow wide) (sym (g.next moves)) g.left_then
      by_left moves [] is l = by_pieces (pieces_of (beat_at up c)) refl
        where
          shown : is_high up.valid c ≡ true
          shown = (and_parts (is_high up.valid c) (nat_lt 0 wide.pace.latency || is_high up.ready c) (transfer_alike c is ∙ moves)).0

          by_pieces : (ps : List Beat) → pieces_of (beat_at up c) ≡ ps → Left narrow wide (left (suc c))
          by_pieces [] e = absurd (some_pieces c (legal c (omega arith)) shown e)
          by_pieces (p ∷ ps) e = let g = goes_through c (legal c (omega arith)) is shown p ps e in subst (Left narrow wide) (sym (g.next moves)) g.left_then

      by_transfer : Left narrow wide (left c) → (is_transfer narrow.pace down c ≡ true) ⊎ (is_transfer narrow.pace down c ≡ false) → Left narrow wide (left (suc c))
      by_transfer l (inl moves) = by_left moves (left c) refl l
      by_transfer l (inr quiet) = subst (Left narrow wide) (sym (stays_left c quiet)) l

  -- a piece goes out
  goes_out : (c : ℕ) → IsLegalSource wide up (suc c) → (p : Beat) (ps : List Beat) → Goes c p ps → is_transfer narrow.pace down c ≡ true
      → store c ++ kept_in passes wide up c ≡ flat_map (symbols_of narrow) (p ∷ ps) → PassesOn (narrow_shape passes wide narrow) (plain_run up down) store c
  goes_out c legal p ps g moves all =
      record {
        out = symbols_of narrow p;
        split = all ∙ ap (λ (bs : List Beat). symbols_of narrow p ++ flat_map (symbols_of narrow) bs) (sym (g.next moves));
        same = ap (map without_error) (ap (symbols_of narrow) (sym g.shown) ∙ sym (cond-true (is_transfer narrow.pace down c) (shown_symbols narrow down c) [] moves));
        joined = λ _. ap (λ (b : Beat). b.error) g.shown ∙ sym (joined_error_of_beat narrow p g.some);
        some = λ _. subst (λ (b : Beat). 0 < symbol_count narrow b) (sym g.shown) g.some;
        few = omega (arith, ap (λ (bs : List Beat). length (flat_map (symbols_of narrow) bs)) (g.next moves), length_of_all narrow ps, g.left_then.few);
      }

  passes_on : (c : ℕ) → IsLegalSource wide up (suc c) → PassesOn (narrow_shape passes wide narrow) (plain_run up down) store c
  passes_on c legal = by_transfer (cases_Bool (is_transfer narrow.pace down c))
    where
      came : kept_in passes wide up c ≡ symbols_in wide up c
      came = kept_in_all passes wide up c (legal c (omega arith)) all_pass

      before : Left narrow wide (left c)
      before = is_left c (λ b h. legal b (omega arith))

      none_in : is_transfer wide.pace up c ≡ false → store c ++ kept_in passes wide up c ≡ store c
      none_in stays = ap (λ (xs : List Symbol). store c ++ xs) (came ∙ cond-false (is_transfer wide.pace up c) (shown_symbols wide up c) [] stays) ∙ append-nil (store c)

      by_left : is_transfer narrow.pace down c ≡ true → (bs : List Beat) → left c ≡ bs → PassesOn (narrow_shape passes wide narrow) (plain_run up down) store c
      by_left moves (b ∷ bs) is =
          goes_out c legal b bs (goes_kept c b bs is (subst (Left narrow wide) is before)) moves (none_in (nothing_comes c b bs is) ∙ ap (flat_map (symbols_of narrow)) is)
      by_left moves [] is = by_pieces (pieces_of (beat_at up c)) refl
        where
          taken : is_transfer wide.pace up c ≡ true
          taken = transfer_alike c is ∙ moves

          shown : is_high up.valid c ≡ true
          shown = (and_parts (is_high up.valid c) (nat_lt 0 wide.pace.latency || is_high up.ready c) taken).0

          by_pieces : (ps : List Beat) → pieces_of (beat_at up c) ≡ ps → PassesOn (narrow_shape passes wide narrow) (plain_run up down) store c
          by_pieces [] e = absurd (some_pieces c (legal c (omega arith)) shown e)
          by_pieces (p ∷ ps) e =
              goes_out c legal p ps (goes_through c (legal c (omega arith)) is shown p ps e) moves
              (ap (λ (xs : List Symbol). store c ++ xs) (came ∙ (cond-true (is_transfer wide.pace up c) (shown_symbols wide up c) [] taken ∙ symbols_now c (legal c (omega arith)) shown))
              ∙ (ap (λ (bs : List Beat). flat_map (symbols_of narrow) bs ++ flat_map (symbols_of narrow) (pieces_of (beat_at up c))) is ∙ ap (flat_map (symbols_of narrow)) e))

      stays_up : is_transfer narrow.pace down c ≡ false → (bs : List Beat) → left c ≡ bs → is_transfer wide.pace up c ≡ false
      stays_up quiet (b ∷ bs) is = nothing_comes c b bs is
      stays_up quiet [] is = transfer_alike c is ∙ quiet

      by_transfer : (is_transfer narrow.pace down c ≡ true) ⊎ (is_transfer narrow.pace down c ≡ false) → PassesOn (narrow_shape passes wide narrow) (plain_run up down) store c
      by_transfer (inl moves) = by_left moves (left c) refl
      by_transfer (inr quiet) =
          record {
            out = [];
            split = none_in (stays_up quiet (left c) refl) ∙ ap (flat_map (symbols_of narrow)) (sym (stays_left c quiet));
            same = ap (map without_error) (sym (cond-false (is_transfer narrow.pace down c) (shown_symbols narrow down c) [] quiet));
            joined = λ moves. absurd (both_ways _ quiet moves);
            some = λ moves. absurd (both_ways _ quiet moves);
            few = omega (arith, ap (λ (bs : List Beat). length (flat_map (symbols_of narrow) bs)) (stays_left c quiet), length_of_all narrow (left c), before.few);
          }

  shows_piece : (c : ℕ) (p : Beat) (ps : List Beat) (more : List Symbol) → Goes c p ps → store c ++ kept_shown passes wide up c ≡ flat_map (symbols_of narrow) (p ∷ ps) ++ more
      → ShowsNext (narrow_shape passes wide narrow) (plain_run up down) store c
  shows_piece c p ps more g all =
      record {
        front = symbols_of narrow p;
        rest = flat_map (symbols_of narrow) ps ++ more;
        split = all ∙ append_assoc (symbols_of narrow p) (flat_map (symbols_of narrow) ps) more;
        same = ap (λ (b : Beat). map without_error (symbols_of narrow b)) (sym g.shown);
        error = ap (λ (b : Beat). b.error) g.shown ∙ sym (joined_error_of_beat narrow p g.some);
        some = subst (λ (b : Beat). 0 < symbol_count narrow b) (sym g.shown) g.some;
      }

  shows : (c : ℕ) → IsLegalSource wide up (suc c) → IsTrue (is_high down.valid c) → ShowsNext (narrow_shape passes wide narrow) (plain_run up down) store c
  shows c legal valid = by_left (left c) refl (is_left c (λ b h. legal b (omega arith)))
    where
      by_left : (bs : List Beat) → left c ≡ bs → Left narrow wide bs → ShowsNext (narrow_shape passes wide narrow) (plain_run up down) store c
      by_left (b ∷ bs) is l = shows_piece c b bs (kept_shown passes wide up c) (goes_kept c b bs is l) (ap (λ (xs : List Beat). flat_map (symbols_of narrow) xs ++ kept_shown passes wide up c) is)
      by_left [] is l = by_pieces (pieces_of (beat_at up c)) refl
        where
          shown : is_high up.valid c ≡ true
          shown = sym (run.valid c ∙ ap (λ (bs : List Beat). not (is_none bs) || is_high up.valid c) is) ∙ valid

          by_pieces : (ps : List Beat) → pieces_of (beat_at up c) ≡ ps → ShowsNext (narrow_shape passes wide narrow) (plain_run up down) store c
          by_pieces [] e = absurd (some_pieces c (legal c (omega arith)) shown e)
          by_pieces (p ∷ ps) e =
              shows_piece c p ps [] (goes_through c (legal c (omega arith)) is shown p ps e)
              (ap (λ (xs : List Symbol). store c ++ xs) (kept_shown_all passes wide up c (legal c (omega arith)) all_pass shown ∙ symbols_now c (legal c (omega arith)) shown)
              ∙ (ap (λ (bs : List Beat). flat_map (symbols_of narrow) bs ++ flat_map (symbols_of narrow) (pieces_of (beat_at up c))) is ∙ (ap (flat_map (symbols_of narrow)) e ∙ sym (append-nil (flat_map (symbols_of narrow) (p ∷ ps))))))

  holds : (c : ℕ) → IsLegalSource wide up (suc c) → IsHeld narrow.pace down c
  holds zero legal = tt
  holds (suc c) legal = λ valid quiet. by_left valid quiet (left c) refl
    where
      first_same : (x y : Beat) (ps : List Beat) → (ps ≡ [] → ⊥) → IsFirstOf x ps → IsFirstOf y ps → x ≡ y
      first_same x y [] some p q = absurd (some refl)
      first_same x y (b ∷ bs) some p q = p ∙ sym q

      by_left : is_high down.valid c ≡ true → is_transfer narrow.pace down c ≡ false → (bs : List Beat) → left c ≡ bs → ShowsSame down c (suc c)
      by_left valid quiet (b ∷ bs) is =
          let later : left (suc c) ≡ b ∷ bs = stays_left c quiet ∙ is in
          let valid' : is_high down.valid (suc c) ≡ true = shown_while_left (suc c) b bs later in
          let one : beat_at down c ≡ b = subst (λ (xs : List Beat). IsFirstOf (beat_at down c) (pieces_now pieces_of up xs c)) is (run.shows c valid) in
          let two : beat_at down (suc c) ≡ b = subst (λ (xs : List Beat). IsFirstOf (beat_at down (suc c)) (pieces_now pieces_of up xs (suc c))) later (run.shows (suc c) valid') in
          record { valid = eqb-true (down.valid c) 1 valid ∙ sym (eqb-true (down.valid (suc c)) 1 valid'); beat = one ∙ sym two }
      by_left valid quiet [] is =
          let later : left (suc c) ≡ [] = stays_left c quiet ∙ is in
          let shown : is_high up.valid c ≡ true = sym (run.valid c ∙ ap (λ (bs : List Beat). not (is_none bs) || is_high up.valid c) is) ∙ valid in
          let held : ShowsSame up c (suc c) = (legal (suc c) (omega arith)).paced.held shown (transfer_alike c is ∙ quiet) in
          let valid' : is_high down.valid (suc c) ≡ true = run.valid (suc c) ∙ (ap (λ (bs : List Beat). not (is_none bs) || is_high up.valid (suc c)) later ∙ (ap (λ n. eqb n 1) (sym held.valid) ∙ shown)) in
          let one : IsFirstOf (beat_at down c) (pieces_of (beat_at up c)) = subst (λ (xs : List Beat). IsFirstOf (beat_at down c) (pieces_now pieces_of up xs c)) is (run.shows c valid) in
          let two : IsFirstOf (beat_at down (suc c)) (pieces_of (beat_at up (suc c))) = subst (λ (xs : List Beat). IsFirstOf (beat_at down (suc c)) (pieces_now pieces_of up xs (suc c))) later (run.shows (suc c) valid') in
          let two' : IsFirstOf (beat_at down (suc c)) (pieces_of (beat_at up c)) = subst (λ (b : Beat). IsFirstOf (beat_at down (suc c)) (pieces_of b)) (sym held.beat) two in
          record { valid = eqb-true (down.valid c) 1 valid ∙ sym (eqb-true (down.valid (suc c)) 1 valid'); beat = first_same (beat_at down c) (beat_at down (suc c)) (pieces_of (beat_at up c)) (λ e. some_pieces c (legal c (omega arith)) shown e) one two' }

  narrow_flow : IsFlow (narrow_shape passes wide narrow) (plain_run up down) store
  narrow_flow =
      record {
        starts = ap (flat_map (symbols_of narrow)) run.starts;
        passes_on = λ c legal _. passes_on c legal;
        shows = λ c legal _ valid. shows c legal valid;
        paced = λ c legal _. record { allowed = λ _. or_left _ _ (eq-eqb narrow.pace.latency 0 narrow_direct); held = holds c legal };
        ranked = λ c legal _ is. no_rank (narrow_shape passes wide narrow) (plain_run up down) c refl refl (λ quiet ready.
            let ready_now : is_high down.ready c ≡ true = direct_ready narrow.pace down c narrow_direct ready in
            by_left c is quiet ready_now (left c) refl)
            (λ low. idles c is low (left c) refl);
      }
    where
      by_left : (c : ℕ) → inside (narrow_shape passes wide narrow) (plain_run up down) c ≡ store c → is_transfer narrow.pace down c ≡ false → is_high down.ready c ≡ true → (bs : List Beat) → left c ≡ bs
          → is_at_rest (narrow_shape passes wide narrow) (plain_run up down) c ≡ true
      by_left c is quiet ready (b ∷ bs) e = absurd (both_ways _ quiet (direct_transfer narrow.pace down c narrow_direct ∙ and_from _ _ (shown_while_left c b bs e) ready))
      by_left c is quiet ready [] e =
          rests_with (narrow_shape passes wide narrow) (plain_run up down) c [] (is ∙ ap (flat_map (symbols_of narrow)) e) (run.asks c ∙ (ap (λ (bs : List Beat). is_none bs && is_high down.ready c) e ∙ ready)) (omega arith) refl

      idles : (c : ℕ) → inside (narrow_shape passes wide narrow) (plain_run up down) c ≡ store c → is_high down.valid c ≡ false → (bs : List Beat) → left c ≡ bs
          → is_idle (narrow_shape passes wide narrow) (plain_run up down) c ≡ true
      idles c is low (b ∷ bs) e = absurd (both_ways _ low (shown_while_left c b bs e))
      idles c is low [] e =
          let none_comes : is_high up.valid c ≡ false = sym (run.valid c ∙ ap (λ (bs : List Beat). not (is_none bs) || is_high up.valid c) e) ∙ low in
          idle_with (narrow_shape passes wide narrow) (plain_run up down) c [] (is ∙ ap (flat_map (symbols_of narrow)) e) (none_waits wide.pace up c none_comes) (omega arith) refl

-- the machine that takes beats apart, between ends of ready latency 0
pub narrow_keeps : (passes : ℕ → Bool) (pieces_of : Beat → List Beat) (wide narrow : Side) (up down : EndView) (left : ℕ → List Beat) → IsNarrowRun pieces_of wide narrow up down left
    → ((beat : Beat) → 0 < symbol_count wide beat → IsSplit narrow wide beat (pieces_of beat)) → 0 < narrow.symbols → 0 < wide.symbols → wide.pace.latency ≡ 0 → narrow.pace ≡ wide.pace
    → wide.packets ≡ narrow.packets → wide.error_bits ≡ narrow.error_bits → wide.max_channel ≡ narrow.max_channel → ((channel : ℕ) → channel ≤ wide.max_channel → IsTrue (passes channel))
    → KeepsStageLaw (narrow_shape passes wide narrow) (plain_run up down)
narrow_keeps passes pieces_of wide narrow up down left run splits positive positive' direct pace packets errors channels all_pass =
    flow_keeps (narrow_shape passes wide narrow) (plain_run up down) (store passes pieces_of wide narrow up down left run splits positive positive' direct pace all_pass)
    (narrow_flow passes pieces_of wide narrow up down left run splits positive positive' direct pace all_pass) positive' packets (λ none. errors ∙ none) (λ channel h _. omega (arith, channels))

-- with one part it passes ready
pub narrow_passes_ready : (passes : ℕ → Bool) (pieces_of : Beat → List Beat) (wide narrow : Side) (up down : EndView) (left : ℕ → List Beat) → IsNarrowRun pieces_of wide narrow up down left
    → ((beat : Beat) → 0 < symbol_count wide beat → IsSplit narrow wide beat (pieces_of beat)) → 0 < narrow.symbols → wide.symbols ≡ narrow.symbols → wide.pace.latency ≡ 0 → narrow.pace ≡ wide.pace
    → ((channel : ℕ) → channel ≤ wide.max_channel → IsTrue (passes channel)) → PassesReady (narrow_shape passes wide narrow) (plain_run up down)
narrow_passes_ready passes pieces_of wide narrow up down left run splits positive same direct pace all_pass c legal ready =
    by_left (left c) refl (is_left passes pieces_of wide narrow up down left run splits positive (omega arith) direct pace all_pass c (λ b h. legal b (omega arith)))
  where
    by_left : (bs : List Beat) → left c ≡ bs → Left narrow wide bs → IsTrue (is_high up.ready c)
    by_left [] is l = run.asks c ∙ (ap (λ (bs : List Beat). is_none bs && is_high down.ready c) is ∙ ready c (omega arith))
    by_left (b ∷ bs) is l = absurd (omega (arith, l.few, l.row.3))
