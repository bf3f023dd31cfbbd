-- A machine that leads one input at a time to the output, in turn, is a multiplexer.
use Rattle.std.specs.Prelude.{ℕ, zero, suc, ◌+◌, ◌-◌, ◌*◌, ◌≤◌, ◌<◌, ◌≡◌, Bool, true, false, not, ◌&&◌, ◌==◌, ◌⊎◌, IsTrue, if◌then◌else◌, List, [], ◌++◌, length}
use Rattle.std.proofs.Common.{refl, sym, ap, ◌∙◌, inl, inr, arith, subst, length-append}
use Rattle.std.proofs.lemmas.Bool.{and_parts, and_from, cond-true, cond-false, cases_Bool, eqb-true, eqb-false, eq-eqb, ne_eqb}
use Rattle.histories.specs.History.{before, is_first, stands_on}
use Rattle.stream_runs.specs.View.{Beat, beat_at, is_high, is_transfer}
use Rattle.stream_runs.specs.Source.{IsLegalAt, IsWellFormed, IsHeld, ShowsSame, is_open, channel_before}
use Rattle.stream_runs.specs.Symbols.{Symbol, symbols_in, shown_symbols, accepted_symbols, delivered_symbols}
use Rattle.routed_runs.specs.Routes.{direct, symbols_on}
use Rattle.routed_runs.specs.Laws.{transfer_shows, one_channel_inside}
use Rattle.routed_runs.specs.Multiplexed.{Multiplexer, MultiplexerRun, input_side, output_side, AreLegalInputs, begins, presents, begun_elsewhere, AcceptsNone, AreAllWaiting, IsOwed, IsMultiplexed}
use Rattle.routed_runs.specs.Beats.{with_channel}
use Rattle.routed_runs.specs.Multiplexing.{Turns, IsMultiplexerRun, turns_to}
use Rattle.routed_runs.proofs.machines.Following.{plain, same_length, follow_at_once, plain_on-append, plain-append, beat_on, led_on}
use Rattle.routed_runs.proofs.machines.Turning.{turns_most, turns_some, turns_fewer, turns_fall, none_of, one_of}

and_false : (a : Bool) → (a && false) ≡ false
and_false true = refl
and_false false = refl

clash : {A : Type 0} (b : Bool) → b ≡ true → b ≡ false → A
clash {A} b high low = let p : ◌≡◌ {A = Bool} true false = sym high ∙ low in absurd (cc)

module _ (mux : Multiplexer) (run : MultiplexerRun) (turns : Turns) (is : IsMultiplexerRun mux run turns) where
  -- what transfers at an input is what transfers at the output while it is chosen
  transfers : (c i : ℕ) → i < mux.inputs → is_transfer direct (run.inputs i) c ≡ ((turns.chosen c == i) && is_transfer direct run.output c)
  transfers c i is_input = by_choice (cases_Bool (turns.chosen c == i))
    where
      by_choice : ((turns.chosen c == i) ≡ true) ⊎ ((turns.chosen c == i) ≡ false) → is_transfer direct (run.inputs i) c ≡ ((turns.chosen c == i) && is_transfer direct run.output c)
      by_choice (inl here) =
          let shown : is_high run.output.valid c ≡ is_high (run.inputs i).valid c = is.valid c ∙ ap (λ j. is_high (run.inputs j).valid c) (eqb-true _ _ here) in
          rw (is.ready c i is_input, here, shown) refl
      by_choice (inr other) = rw (is.ready c i is_input, other) (and_false (is_high (run.inputs i).valid c))

  chosen_transfers : (c : ℕ) → is_transfer direct (run.inputs (turns.chosen c)) c ≡ is_transfer direct run.output c
  chosen_transfers c = transfers c (turns.chosen c) (is.is_input c) ∙ ap (λ b. b && is_transfer direct run.output c) (eq-eqb (turns.chosen c) (turns.chosen c) refl)

  -- what is shown at the output is last where that of the chosen input is
  same_last : (c : ℕ) → IsTrue (is_high run.output.valid c) → is_high run.output.last c ≡ is_high (run.inputs (turns.chosen c)).last c
  same_last c shown = ap (λ (b : Beat). b.last == 1) (is.beat c shown)

  -- a packet is open at the holder alone, where one is open at the output
  record Opened (c : ℕ) : Type 0 where
    is_input : turns.holder c < mux.inputs
    others : (i : ℕ) → i < mux.inputs → (turns.holder c ≡ i → ⊥) → is_open direct (run.inputs i) c ≡ false
    same : is_open direct (run.inputs (turns.holder c)) c ≡ is_open direct run.output c
    inside : is_open direct run.output c ≡ true → (turns.locked c ≡ true) × (channel_before direct run.output c ≡ turns.holder c)

  closed_where_free : (c : ℕ) → Opened c → turns.locked c ≡ false → is_open direct run.output c ≡ false
  closed_where_free c was free = by_open (is_open direct run.output c) refl
    where
      by_open : (b : Bool) → is_open direct run.output c ≡ b → is_open direct run.output c ≡ false
      by_open true opened = clash (turns.locked c) (was.inside opened).0 free
      by_open false closed = closed

  chosen_open : (c : ℕ) → Opened c → is_open direct (run.inputs (turns.chosen c)) c ≡ is_open direct run.output c
  chosen_open c was = by_lock (cases_Bool (turns.locked c))
    where
      by_lock : (turns.locked c ≡ true) ⊎ (turns.locked c ≡ false) → is_open direct (run.inputs (turns.chosen c)) c ≡ is_open direct run.output c
      by_lock (inl locked) = ap (λ i. is_open direct (run.inputs i) c) (is.keeps c locked) ∙ was.same
      by_lock (inr free) = by_place (cases_Bool (turns.holder c == turns.chosen c))
        where
          by_place : ((turns.holder c == turns.chosen c) ≡ true) ⊎ ((turns.holder c == turns.chosen c) ≡ false) → is_open direct (run.inputs (turns.chosen c)) c ≡ is_open direct run.output c
          by_place (inl here) = ap (λ i. is_open direct (run.inputs i) c) (sym (eqb-true _ _ here)) ∙ was.same
          by_place (inr other) = was.others (turns.chosen c) (is.is_input c) (eqb-false _ _ other) ∙ sym (closed_where_free c was free)

  opened_at : (c : ℕ) → Opened c
  opened_at zero = record { is_input = is.starts; others = λ i is_input apart. refl; same = refl; inside = λ opened. clash false opened refl }
  opened_at (suc c) = by_transfer (opened_at c) (cases_Bool (is_transfer direct run.output c))
    where
      chosen : ℕ
      chosen = turns.chosen c

      others_at : Opened c → (i : ℕ) → i < mux.inputs → (turns.holder (suc c) ≡ i → ⊥) → is_open direct (run.inputs i) (suc c) ≡ false
      others_at was i is_input apart =
          cond-false (is_transfer direct (run.inputs i) c) _ _ (transfers c i is_input ∙ ap (λ b. b && is_transfer direct run.output c) (ne_eqb _ _ (λ e. apart (is.holds c ∙ e))))
          ∙ by_holder (cases_Bool (turns.holder c == i))
        where
          by_lock : turns.holder c ≡ i → (turns.locked c ≡ true) ⊎ (turns.locked c ≡ false) → is_open direct (run.inputs i) c ≡ false
          by_lock here (inl locked) = absurd (apart (is.holds c ∙ is.keeps c locked ∙ here))
          by_lock here (inr free) = ap (λ j. is_open direct (run.inputs j) c) (sym here) ∙ was.same ∙ closed_where_free c was free

          by_holder : ((turns.holder c == i) ≡ true) ⊎ ((turns.holder c == i) ≡ false) → is_open direct (run.inputs i) c ≡ false
          by_holder (inl here) = by_lock (eqb-true _ _ here) (cases_Bool (turns.locked c))
          by_holder (inr other) = was.others i is_input (eqb-false _ _ other)

      by_transfer : Opened c → (is_transfer direct run.output c ≡ true) ⊎ (is_transfer direct run.output c ≡ false) → Opened (suc c)
      by_transfer was (inl moves) =
          let shown = transfer_shows run.output c moves in
          let ready : IsTrue (is_high run.output.ready c) = (and_parts (is_high run.output.valid c) (is_high run.output.ready c) moves).1 in
          let opened_next : is_open direct run.output (suc c) ≡ not (is_high run.output.last c) = cond-true (is_transfer direct run.output c) _ _ moves in
          let opened_chosen : is_open direct (run.inputs (turns.chosen c)) (suc c) ≡ not (is_high (run.inputs (turns.chosen c)).last c) =
          cond-true (is_transfer direct (run.inputs (turns.chosen c)) c) _ _ (chosen_transfers c ∙ moves) in
          record {
            is_input = subst (λ i. i < mux.inputs) (sym (is.holds c)) (is.is_input c);
            others = others_at was;
            same = ap (λ i. is_open direct (run.inputs i) (suc c)) (is.holds c) ∙ opened_chosen ∙ ap not (sym (same_last c shown)) ∙ sym opened_next;
            inside = λ opened. (
              is.locks c ∙ cond-true (is_high run.output.valid c) _ _ shown ∙ ap (λ b. not (b && is_high run.output.last c)) ready ∙ sym opened_next ∙ opened,
              cond-true (is_transfer direct run.output c) _ _ moves ∙ ap (λ (b : Beat). b.channel) (is.beat c shown) ∙ sym (is.holds c),
            );
          }
      by_transfer was (inr stays) =
          let opened_next : is_open direct run.output (suc c) ≡ is_open direct run.output c = cond-false (is_transfer direct run.output c) _ _ stays in
          let opened_chosen : is_open direct (run.inputs (turns.chosen c)) (suc c) ≡ is_open direct (run.inputs (turns.chosen c)) c =
          cond-false (is_transfer direct (run.inputs (turns.chosen c)) c) _ _ (chosen_transfers c ∙ stays) in
          record {
            is_input = subst (λ i. i < mux.inputs) (sym (is.holds c)) (is.is_input c);
            others = others_at was;
            same = ap (λ i. is_open direct (run.inputs i) (suc c)) (is.holds c) ∙ opened_chosen ∙ chosen_open c was ∙ sym opened_next;
            inside = λ opened. (
              is.locks c ∙ still (is_high run.output.valid c) refl (was.inside (sym opened_next ∙ opened)).0,
              cond-false (is_transfer direct run.output c) _ _ stays ∙ (was.inside (sym opened_next ∙ opened)).1 ∙ sym (is.keeps c (was.inside (sym opened_next ∙ opened)).0) ∙ sym (is.holds c),
            );
          }
        where
          still : (b : Bool) → is_high run.output.valid c ≡ b → turns.locked c ≡ true → (if b then not (is_high run.output.ready c && is_high run.output.last c) else turns.locked c) ≡ true
          still true shown locked =
              let none : is_high run.output.ready c ≡ false = ap (λ b. b && is_high run.output.ready c) (sym shown) ∙ stays in
              ap (λ b. not (b && is_high run.output.last c)) none
          still false none locked = locked

  -- ---- with legal inputs
  module _ (count : ℕ) (legal : AreLegalInputs mux run count) where
    legal_chosen : (c : ℕ) → c < count → IsLegalAt (input_side mux) (run.inputs (turns.chosen c)) c
    legal_chosen c before = legal (turns.chosen c) (is.is_input c) c before

    chosen_shows : (c : ℕ) → IsTrue (is_high run.output.valid c) → IsTrue (is_high (run.inputs (turns.chosen c)).valid c)
    chosen_shows c shown = sym (is.valid c) ∙ shown

    not_ready : (c : ℕ) → IsTrue (is_high run.output.valid c) → is_transfer direct run.output c ≡ false → is_high run.output.ready c ≡ false
    not_ready c shown stays = ap (λ b. b && is_high run.output.ready c) (sym shown) ∙ stays

    locked_next : (c : ℕ) → IsTrue (is_high run.output.valid c) → is_transfer direct run.output c ≡ false → turns.locked (suc c) ≡ true
    locked_next c shown stays = is.locks c ∙ cond-true (is_high run.output.valid c) _ _ shown ∙ ap (λ b. not (b && is_high run.output.last c)) (not_ready c shown stays)

    -- a beat that waits at an input is shown again
    waits_on : (c i : ℕ) → i < mux.inputs → suc c < count → IsTrue (is_high (run.inputs i).valid c) → is_transfer direct (run.inputs i) c ≡ false → ShowsSame (run.inputs i) c (suc c)
    waits_on c i is_input before shown stays = (legal i is_input (suc c) before).paced.held shown stays

    held_at : (c : ℕ) → c < count → IsHeld direct run.output c
    held_at zero before = tt
    held_at (suc c) before = λ shown stalls.
        (let stay : turns.chosen (suc c) ≡ turns.chosen c = is.keeps (suc c) (locked_next c shown stalls) ∙ is.holds c in
        let same : ShowsSame (run.inputs (turns.chosen c)) c (suc c) = waits_on c (turns.chosen c) (is.is_input c) before (chosen_shows c shown) (chosen_transfers c ∙ stalls) in
        let shown_next : IsTrue (is_high run.output.valid (suc c)) =
        is.valid (suc c) ∙ ap (λ i. is_high (run.inputs i).valid (suc c)) stay ∙ ap (λ n. n == 1) (sym same.valid) ∙ chosen_shows c shown in
        record {
          valid = eqb-true _ _ shown ∙ sym (eqb-true _ _ shown_next);
          beat =
              is.beat c shown ∙ ap (with_channel (turns.chosen c)) same.beat
              ∙ ap (λ i. with_channel i (beat_at (run.inputs i) (suc c))) (sym stay)
              ∙ sym (is.beat (suc c) shown_next);
        })

    legal_at : (c : ℕ) → c < count → IsLegalAt (output_side mux) run.output c
    legal_at c before =
        record {
          paced = record { allowed = λ shown. refl; held = held_at c before };
          formed = λ shown. (
              let was = opened_at c in
              let formed = (legal_chosen c before).formed (chosen_shows c shown) in
              subst (λ (beat : Beat). IsWellFormed (output_side mux) (is_open direct run.output c) (channel_before direct run.output c) beat) (sym (is.beat c shown))
              (record {
                begins = λ packets. formed.begins packets ∙ ap not (chosen_open c was);
                unmarked = formed.unmarked;
                holds_data = formed.holds_data;
                in_range = (let below = is.is_input c in omega (arith, below));
                one_channel = λ packets opened. is.keeps c (was.inside opened).0 ∙ sym (was.inside opened).1;
                quiet = formed.quiet;
              }));
        }

    -- what comes on the channel of an input is what it accepted
    same_plain : (i : ℕ) → i < mux.inputs → (c : ℕ) → plain (symbols_on i (delivered_symbols (output_side mux) run.output c)) ≡ plain (accepted_symbols (input_side mux) (run.inputs i) c)
    same_plain i is_input zero = refl
    same_plain i is_input (suc c) =
        plain_on-append i (delivered_symbols (output_side mux) run.output c) (symbols_in (output_side mux) run.output c)
        ∙ ap (λ (xs : List Symbol). xs ++ plain (symbols_on i (symbols_in (output_side mux) run.output c))) (same_plain i is_input c)
        ∙ ap (λ (ys : List Symbol). plain (accepted_symbols (input_side mux) (run.inputs i) c) ++ ys) (added (cases_Bool (is_transfer direct run.output c)) (cases_Bool (turns.chosen c == i)))
        ∙ sym (plain-append (accepted_symbols (input_side mux) (run.inputs i) c) (symbols_in (input_side mux) (run.inputs i) c))
      where
        added : (is_transfer direct run.output c ≡ true) ⊎ (is_transfer direct run.output c ≡ false) → ((turns.chosen c == i) ≡ true) ⊎ ((turns.chosen c == i) ≡ false)
            → plain (symbols_on i (symbols_in (output_side mux) run.output c)) ≡ plain (symbols_in (input_side mux) (run.inputs i) c)
        added (inr stays) e =
            ap (λ (xs : List Symbol). plain (symbols_on i xs)) (cond-false (is_transfer direct run.output c) (shown_symbols (output_side mux) run.output c) [] stays)
            ∙ sym (ap plain (cond-false (is_transfer direct (run.inputs i) c) (shown_symbols (input_side mux) (run.inputs i) c) [] (transfers c i is_input ∙ ap (λ b. (turns.chosen c == i) && b) stays ∙ and_false (turns.chosen c == i))))
        added (inl moves) (inl here) =
            let beat = is.beat c (transfer_shows run.output c moves) in
            let same : turns.chosen c ≡ i = eqb-true _ _ here in
            ap (λ (xs : List Symbol). plain (symbols_on i xs)) (cond-true (is_transfer direct run.output c) (shown_symbols (output_side mux) run.output c) [] moves)
            ∙ ap plain (beat_on i (output_side mux) run.output c true (ap (λ (b : Beat). b.channel == i) beat ∙ here))
            ∙ led_on true mux.symbols mux.bits (mux.inputs - 1) 0 i (run.inputs i) run.output c (beat ∙ ap (λ k. with_channel k (beat_at (run.inputs k) c)) same)
            ∙ sym (ap plain (cond-true (is_transfer direct (run.inputs i) c) (shown_symbols (input_side mux) (run.inputs i) c) [] (transfers c i is_input ∙ ap (λ b. b && is_transfer direct run.output c) here ∙ moves)))
        added (inl moves) (inr other) =
            let beat = is.beat c (transfer_shows run.output c moves) in
            ap (λ (xs : List Symbol). plain (symbols_on i xs)) (cond-true (is_transfer direct run.output c) (shown_symbols (output_side mux) run.output c) [] moves)
            ∙ ap plain (beat_on i (output_side mux) run.output c false (ap (λ (b : Beat). b.channel == i) beat ∙ other))
            ∙ sym (ap plain (cond-false (is_transfer direct (run.inputs i) c) (shown_symbols (input_side mux) (run.inputs i) c) [] (transfers c i is_input ∙ ap (λ b. b && is_transfer direct run.output c) other)))

    -- a locked choice outside a packet has a beat that waits
    stands : (c : ℕ) → c < count → turns.locked c ≡ true → is_open direct run.output c ≡ false → IsTrue (is_high (run.inputs (turns.holder c)).valid c)
    stands zero before locked closed = clash (turns.locked 0) locked is.starts_free
    stands (suc c) before locked closed = by_shown (λ was closed_before. stands c (omega (arith, before)) was closed_before) (cases_Bool (is_high run.output.valid c)) (cases_Bool (is_transfer direct run.output c))
      where
        by_shown : (turns.locked c ≡ true → is_open direct run.output c ≡ false → IsTrue (is_high (run.inputs (turns.holder c)).valid c))
            → (is_high run.output.valid c ≡ true) ⊎ (is_high run.output.valid c ≡ false) → (is_transfer direct run.output c ≡ true) ⊎ (is_transfer direct run.output c ≡ false)
            → IsTrue (is_high (run.inputs (turns.holder (suc c))).valid (suc c))
        by_shown earlier (inl shown) (inr stalls) =
            let same : ShowsSame (run.inputs (turns.chosen c)) c (suc c) = waits_on c (turns.chosen c) (is.is_input c) before (chosen_shows c shown) (chosen_transfers c ∙ stalls) in
            ap (λ i. is_high (run.inputs i).valid (suc c)) (is.holds c) ∙ ap (λ n. n == 1) (sym same.valid) ∙ chosen_shows c shown
        by_shown earlier (inl shown) (inl moves) =
            let ready : IsTrue (is_high run.output.ready c) = (and_parts (is_high run.output.valid c) (is_high run.output.ready c) moves).1 in
            clash (turns.locked (suc c)) locked
            (is.locks c ∙ cond-true (is_high run.output.valid c) _ _ shown ∙ ap (λ b. not (b && is_high run.output.last c)) ready ∙ sym (cond-true (is_transfer direct run.output c) (not (is_high run.output.last c)) (is_open direct run.output c) moves) ∙ closed)
        by_shown earlier (inr none) (inl moves) = clash (is_high run.output.valid c) (transfer_shows run.output c moves) none
        by_shown earlier (inr none) (inr stays) =
            let was : turns.locked c ≡ true = sym (cond-false (is_high run.output.valid c) _ _ none) ∙ sym (is.locks c) ∙ locked in
            let closed_before : is_open direct run.output c ≡ false = sym (cond-false (is_transfer direct run.output c) (not (is_high run.output.last c)) (is_open direct run.output c) stays) ∙ closed in
            clash (is_high run.output.valid c) (is.valid c ∙ ap (λ i. is_high (run.inputs i).valid c) (is.keeps c was) ∙ earlier was closed_before) none

    -- where beats wait the output shows one
    shows_waiting : (c : ℕ) → c < count → AreAllWaiting mux run c → IsTrue (is_high run.output.valid c)
    shows_waiting c before waiting = by_lock (cases_Bool (turns.locked c))
      where
        by_open : turns.locked c ≡ true → (is_open direct run.output c ≡ true) ⊎ (is_open direct run.output c ≡ false) → IsTrue (is_high (run.inputs (turns.holder c)).valid c)
        by_open locked (inl opened) = waiting.inside (turns.holder c) (opened_at c).is_input ((opened_at c).same ∙ opened)
        by_open locked (inr closed) = stands c before locked closed

        by_lock : (turns.locked c ≡ true) ⊎ (turns.locked c ≡ false) → IsTrue (is_high run.output.valid c)
        by_lock (inl locked) = is.valid c ∙ ap (λ i. is_high (run.inputs i).valid c) (is.keeps c locked) ∙ by_open locked (cases_Bool (is_open direct run.output c))
        by_lock (inr free) = is.valid c ∙ is.asked c free waiting.some.0 waiting.some.1 waiting.some.2

    multiplexed_but_fair : ((i : ℕ) → i < mux.inputs → (b c : ℕ) → b ≤ c → c ≤ count
        → IsTrue (presents (run.inputs i) b) → AcceptsNone (run.inputs i) b c
        → length (before (begun_elsewhere mux run i) c) ≤ length (before (begun_elsewhere mux run i) b) + mux.inputs) → IsMultiplexed mux run count
    multiplexed_but_fair fair =
        record {
          legal = legal_at;
          follows = λ i is_input c at_most. follow_at_once (2 * mux.symbols) _ _ (same_plain i is_input c);
          whole = λ b c from to begun first goes moves. one_channel_inside mux.symbols mux.bits (mux.inputs - 1) run.output count legal_at b begun c from to goes moves;
          fair = fair;
          accepts = λ start within waiting.
              (let here : AreAllWaiting mux run start = waiting start (omega arith) (omega arith) in
              let moves : IsTrue (is_transfer direct run.output start) = and_from _ _ (shows_waiting start (omega (arith, within)) here) here.ready in
              (start, omega arith, omega arith, (turns.chosen start, is.is_input start, chosen_transfers start ∙ moves)));
          delivers = λ start within owed.
              (let here : IsOwed mux run start = owed start (omega arith) (omega arith) in
              let same = same_length _ _ (same_plain here.input here.is_input start) in
              let less = here.undelivered in
              absurd (omega (arith, same, less)));
        }

    -- ---- packets that begin before one that waits
    module _ (i : ℕ) (is_input : i < mux.inputs) where
      abbrev turns_left : ℕ → ℕ
      turns_left c = turns_to mux.inputs (turns.holder c) i

      -- how many packets may still begin before it, and one more
      left : ℕ → ℕ
      left c = if turns.locked c then (if turns.holder c == i then 1 else turns_left c + (if is_open direct run.output c then 0 else 1)) else turns_left c

      abbrev gained : ℕ → ℕ
      gained c = length (begun_elsewhere mux run i c)

      begun_moves : (c j : ℕ) → j < mux.inputs → begins (run.inputs j) c ≡ true → (turns.chosen c ≡ j) × (is_transfer direct run.output c ≡ true)
      begun_moves c j below begun =
          let moves = (and_parts (is_transfer direct (run.inputs j) c) (is_high (run.inputs j).first c) begun).0 in
          let both = and_parts (turns.chosen c == j) (is_transfer direct run.output c) (sym (transfers c j below) ∙ moves) in
          (eqb-true _ _ both.0, both.1)

      gains_none : (c : ℕ) → ((j : ℕ) → j < mux.inputs → begins (run.inputs j) c ≡ true → j ≡ i) → gained c ≡ 0
      gains_none c only = ap length (none_of (λ j. not (j == i) && begins (run.inputs j) c) 0 mux.inputs (λ j below. fails j (omega (arith, below)) (cases_Bool (j == i)) (cases_Bool (begins (run.inputs j) c))))
        where
          fails : (j : ℕ) → j < mux.inputs → ((j == i) ≡ true) ⊎ ((j == i) ≡ false) → (begins (run.inputs j) c ≡ true) ⊎ (begins (run.inputs j) c ≡ false) → (not (j == i) && begins (run.inputs j) c) ≡ false
          fails j below (inl here) e = ap (λ b. not b && begins (run.inputs j) c) here
          fails j below (inr other) (inr none) = ap (λ b. not (j == i) && b) none ∙ and_false (not (j == i))
          fails j below (inr other) (inl begun) = absurd (eqb-false _ _ other (only j below begun))

      gains_none_still : (c : ℕ) → is_transfer direct run.output c ≡ false → gained c ≡ 0
      gains_none_still c stays = gains_none c (λ j below begun. clash (is_transfer direct run.output c) (begun_moves c j below begun).1 stays)

      gains_none_here : (c : ℕ) → turns.chosen c ≡ i → gained c ≡ 0
      gains_none_here c here = gains_none c (λ j below begun. sym (begun_moves c j below begun).0 ∙ here)

      gains_none_inside : (c : ℕ) → c < count → is_open direct run.output c ≡ true → gained c ≡ 0
      gains_none_inside c before opened = gains_none c (λ j below begun.
          (let parts = and_parts (is_transfer direct (run.inputs j) c) (is_high (run.inputs j).first c) begun in
          let formed = (legal j below c before).formed (transfer_shows (run.inputs j) c parts.0) in
          let opened_too : is_open direct (run.inputs j) c ≡ true = ap (λ k. is_open direct (run.inputs k) c) (sym (begun_moves c j below begun).0) ∙ chosen_open c (opened_at c) ∙ opened in
          clash ((run.inputs j).first c == 1) parts.1 (formed.begins refl ∙ ap not opened_too)))

      gains_one : (c : ℕ) → gained c ≤ 1
      gains_one c = one_of (λ j. not (j == i) && begins (run.inputs j) c) (turns.chosen c) 0 mux.inputs
          (λ j below passes. sym (begun_moves c j (omega (arith, below)) (and_parts (not (j == i)) (begins (run.inputs j) c) passes).1).0)

      -- bounds of what is left
      left_here : (c : ℕ) → turns.locked c ≡ true → turns.holder c ≡ i → left c ≡ 1
      unfolding left
      left_here c locked here = cond-true (turns.locked c) _ _ locked ∙ cond-true (turns.holder c == i) _ _ (eq-eqb _ _ here)

      left_free : (c : ℕ) → turns.locked c ≡ false → left c ≡ turns_left c
      unfolding left
      left_free c free = cond-false (turns.locked c) _ _ free

      left_waiting : (c : ℕ) → turns.locked c ≡ true → (turns.holder c ≡ i → ⊥) → is_open direct run.output c ≡ false → left c ≡ turns_left c + 1
      unfolding left
      left_waiting c locked apart closed = cond-true (turns.locked c) _ _ locked ∙ cond-false (turns.holder c == i) _ _ (ne_eqb _ _ apart) ∙ ap (λ b. turns_left c + (if b then 0 else 1)) closed

      left_inside : (c : ℕ) → turns.locked c ≡ true → (turns.holder c ≡ i → ⊥) → is_open direct run.output c ≡ true → left c ≡ turns_left c + 0
      unfolding left
      left_inside c locked apart opened = cond-true (turns.locked c) _ _ locked ∙ cond-false (turns.holder c == i) _ _ (ne_eqb _ _ apart) ∙ ap (λ b. turns_left c + (if b then 0 else 1)) opened

      left_most : (c : ℕ) → (turns.holder c ≡ i → ⊥) → left c ≤ turns_left c + 1
      left_most c apart = by_lock (cases_Bool (turns.locked c)) (cases_Bool (is_open direct run.output c))
        where
          by_lock : (turns.locked c ≡ true) ⊎ (turns.locked c ≡ false) → (is_open direct run.output c ≡ true) ⊎ (is_open direct run.output c ≡ false) → left c ≤ turns_left c + 1
          by_lock (inr free) e = let is_left = left_free c free in omega (arith, is_left)
          by_lock (inl locked) (inl opened) = let is_left = left_inside c locked apart opened in omega (arith, is_left)
          by_lock (inl locked) (inr closed) = let is_left = left_waiting c locked apart closed in omega (arith, is_left)

      -- where the choice is free or inside a packet
      left_moved : (c : ℕ) → (turns.holder c ≡ i → ⊥) → turns.locked c ≡ is_open direct run.output c → left c ≤ turns_left c
      left_moved c apart same = by_open (cases_Bool (is_open direct run.output c))
        where
          by_open : (is_open direct run.output c ≡ true) ⊎ (is_open direct run.output c ≡ false) → left c ≤ turns_left c
          by_open (inl opened) = let is_left = left_inside c (same ∙ opened) apart opened in omega (arith, is_left)
          by_open (inr closed) = let is_left = left_free c (same ∙ closed) in omega (arith, is_left)

      -- after a beat has gone the choice is locked where a packet is open
      moved_lock : (c : ℕ) → is_transfer direct run.output c ≡ true → turns.locked (suc c) ≡ is_open direct run.output (suc c)
      moved_lock c moves =
          is.locks c ∙ cond-true (is_high run.output.valid c) _ _ (transfer_shows run.output c moves)
          ∙ ap (λ b. not (b && is_high run.output.last c)) (and_parts (is_high run.output.valid c) (is_high run.output.ready c) moves).1
          ∙ sym (cond-true (is_transfer direct run.output c) (not (is_high run.output.last c)) (is_open direct run.output c) moves)

      lock_stays : (c : ℕ) → is_transfer direct run.output c ≡ false → turns.locked c ≡ true → turns.locked (suc c) ≡ true
      lock_stays c stays locked = by_shown (cases_Bool (is_high run.output.valid c))
        where
          by_shown : (is_high run.output.valid c ≡ true) ⊎ (is_high run.output.valid c ≡ false) → turns.locked (suc c) ≡ true
          by_shown (inl shown) = locked_next c shown stays
          by_shown (inr none) = is.locks c ∙ cond-false (is_high run.output.valid c) _ _ none ∙ locked

      turns_next : (c : ℕ) → turns_left (suc c) ≡ turns_to mux.inputs (turns.chosen c) i
      turns_next c = ap (λ k. turns_to mux.inputs k i) (is.holds c)

      not_next : (c : ℕ) → (turns.chosen c ≡ i → ⊥) → turns.holder (suc c) ≡ i → ⊥
      not_next c other here = other (sym (is.holds c) ∙ here)

      -- the input that waits is chosen, and not accepted
      kept_waiting : (c : ℕ) → turns.chosen c ≡ i → IsTrue (is_high (run.inputs i).valid c) → is_transfer direct (run.inputs i) c ≡ false → left (suc c) ≡ 1
      kept_waiting c here shown refused = left_here (suc c) locked (is.holds c ∙ here)
        where
          locked : turns.locked (suc c) ≡ true
          locked = locked_next c (is.valid c ∙ ap (λ k. is_high (run.inputs k).valid c) here ∙ shown) (sym (chosen_transfers c) ∙ ap (λ k. is_transfer direct (run.inputs k) c) here ∙ refused)

      falls : (c : ℕ) → c < count → IsTrue (is_high (run.inputs i).valid c) → is_transfer direct (run.inputs i) c ≡ false → gained c + left (suc c) ≤ left c
      falls c before shown refused = by_choice (cases_Bool (turns.chosen c == i)) (cases_Bool (turns.locked c))
        where
          chosen_other : (turns.chosen c ≡ i → ⊥) → (turns.locked c ≡ true) ⊎ (turns.locked c ≡ false) → (is_transfer direct run.output c ≡ true) ⊎ (is_transfer direct run.output c ≡ false)
              → (is_open direct run.output c ≡ true) ⊎ (is_open direct run.output c ≡ false) → gained c + left (suc c) ≤ left c
          chosen_other other (inl locked) (inl moves) (inl opened) =
              let same : turns.chosen c ≡ turns.holder c = is.keeps c locked in
              let now = left_inside c locked (λ here. other (same ∙ here)) opened in
              let next = left_moved (suc c) (not_next c other) (moved_lock c moves) in
              let kept = turns_next c ∙ ap (λ k. turns_to mux.inputs k i) same in
              let none = gains_none_inside c before opened in
              omega (arith, now, next, kept, none)
          chosen_other other (inl locked) (inl moves) (inr closed) =
              let same : turns.chosen c ≡ turns.holder c = is.keeps c locked in
              let now = left_waiting c locked (λ here. other (same ∙ here)) closed in
              let next = left_moved (suc c) (not_next c other) (moved_lock c moves) in
              let kept = turns_next c ∙ ap (λ k. turns_to mux.inputs k i) same in
              let one = gains_one c in
              omega (arith, now, next, kept, one)
          chosen_other other (inl locked) (inr stays) (inl opened) =
              let same : turns.chosen c ≡ turns.holder c = is.keeps c locked in
              let now = left_inside c locked (λ here. other (same ∙ here)) opened in
              let opened_next : is_open direct run.output (suc c) ≡ true = cond-false (is_transfer direct run.output c) _ _ stays ∙ opened in
              let next = left_inside (suc c) (lock_stays c stays locked) (not_next c other) opened_next in
              let kept = turns_next c ∙ ap (λ k. turns_to mux.inputs k i) same in
              let none = gains_none_still c stays in
              omega (arith, now, next, kept, none)
          chosen_other other (inl locked) (inr stays) (inr closed) =
              let same : turns.chosen c ≡ turns.holder c = is.keeps c locked in
              let now = left_waiting c locked (λ here. other (same ∙ here)) closed in
              let next = left_most (suc c) (not_next c other) in
              let kept = turns_next c ∙ ap (λ k. turns_to mux.inputs k i) same in
              let none = gains_none_still c stays in
              omega (arith, now, next, kept, none)
          chosen_other other (inr free) (inl moves) e =
              let now = left_free c free in
              let next = left_moved (suc c) (not_next c other) (moved_lock c moves) in
              let fewer = turns_fall mux.inputs (turns.holder c) (turns.chosen c) i (opened_at c).is_input (is.is_input c) is_input other (is.first c free i is_input shown) in
              let kept = turns_next c in
              let one = gains_one c in
              omega (arith, now, next, fewer, kept, one)
          chosen_other other (inr free) (inr stays) e =
              let now = left_free c free in
              let next = left_most (suc c) (not_next c other) in
              let fewer = turns_fall mux.inputs (turns.holder c) (turns.chosen c) i (opened_at c).is_input (is.is_input c) is_input other (is.first c free i is_input shown) in
              let kept = turns_next c in
              let none = gains_none_still c stays in
              omega (arith, now, next, fewer, kept, none)

          by_choice : ((turns.chosen c == i) ≡ true) ⊎ ((turns.chosen c == i) ≡ false) → (turns.locked c ≡ true) ⊎ (turns.locked c ≡ false) → gained c + left (suc c) ≤ left c
          by_choice (inl here) (inl locked) =
              let same : turns.chosen c ≡ i = eqb-true _ _ here in
              let now = left_here c locked (sym (is.keeps c locked) ∙ same) in
              let next = kept_waiting c same shown refused in
              let none = gains_none_here c same in
              omega (arith, now, next, none)
          by_choice (inl here) (inr free) =
              let same : turns.chosen c ≡ i = eqb-true _ _ here in
              let now = left_free c free in
              let some = turns_some mux.inputs (turns.holder c) i (opened_at c).is_input is_input in
              let next = kept_waiting c same shown refused in
              let none = gains_none_here c same in
              omega (arith, now, some, next, none)
          by_choice (inr other) lock = chosen_other (eqb-false _ _ other) lock (cases_Bool (is_transfer direct run.output c)) (cases_Bool (is_open direct run.output c))

      left_at_first : (c : ℕ) → left c ≤ mux.inputs
      left_at_first c = by_lock (cases_Bool (turns.locked c)) (cases_Bool (turns.holder c == i))
        where
          by_lock : (turns.locked c ≡ true) ⊎ (turns.locked c ≡ false) → ((turns.holder c == i) ≡ true) ⊎ ((turns.holder c == i) ≡ false) → left c ≤ mux.inputs
          by_lock (inr free) e = let now = left_free c free in let most = turns_most mux.inputs (turns.holder c) i (opened_at c).is_input is_input in omega (arith, now, most)
          by_lock (inl locked) (inl here) = let now = left_here c locked (eqb-true _ _ here) in omega (arith, now, is_input)
          by_lock (inl locked) (inr other) =
              let now = left_most c (eqb-false _ _ other) in let fewer = turns_fewer mux.inputs (turns.holder c) i (opened_at c).is_input is_input (eqb-false _ _ other) in omega (arith, now, fewer)

      first_is_shown : (b : ℕ) → IsTrue (is_first (is_high (run.inputs i).valid) (is_transfer direct (run.inputs i)) b) → IsTrue (is_high (run.inputs i).valid b)
      first_is_shown zero first = first
      first_is_shown (suc b) first = (and_parts (is_high (run.inputs i).valid (suc b)) (not (stands_on (is_high (run.inputs i).valid) (is_transfer direct (run.inputs i)) b)) first).0

      module _ (b : ℕ) (presented : IsTrue (presents (run.inputs i) b)) where
        shown_at_first : IsTrue (is_high (run.inputs i).valid b)
        shown_at_first = first_is_shown b (and_parts (is_first (is_high (run.inputs i).valid) (is_transfer direct (run.inputs i)) b) (is_high (run.inputs i).first b) presented).0

        -- it is shown until it is accepted
        still_shown : (more : ℕ) → b + more < count → AcceptsNone (run.inputs i) b (b + more) → IsTrue (is_high (run.inputs i).valid (b + more))
        still_shown zero before none = let same : b ≡ b + 0 = omega arith in subst (λ c. IsTrue (is_high (run.inputs i).valid c)) same shown_at_first
        still_shown (suc more) before none =
            let earlier = still_shown more (omega (arith, before)) (λ c from to. none c from (omega (arith, to))) in
            let same : suc (b + more) ≡ b + suc more = omega arith in
            let shows : ShowsSame (run.inputs i) (b + more) (suc (b + more)) = waits_on (b + more) i is_input (omega (arith, before)) earlier (none (b + more) (omega arith) (omega arith)) in
            subst (λ c. IsTrue (is_high (run.inputs i).valid c)) same (ap (λ n. n == 1) (sym shows.valid) ∙ earlier)

        few_begin : (more : ℕ) → b + more ≤ count → AcceptsNone (run.inputs i) b (b + more)
            → length (before (begun_elsewhere mux run i) (b + more)) + left (b + more) ≤ length (before (begun_elsewhere mux run i) b) + mux.inputs
        few_begin zero within none =
            let same : b ≡ b + 0 = omega arith in
            let most = left_at_first b in
            subst (λ c. length (before (begun_elsewhere mux run i) c) + left c ≤ length (before (begun_elsewhere mux run i) b) + mux.inputs) same (omega (arith, most))
        few_begin (suc more) within none =
            let earlier = few_begin more (omega (arith, within)) (λ c from to. none c from (omega (arith, to))) in
            let same : suc (b + more) ≡ b + suc more = omega arith in
            let shown = still_shown more (omega (arith, within)) (λ c from to. none c from (omega (arith, to))) in
            let step = falls (b + more) (omega (arith, within)) shown (none (b + more) (omega arith) (omega arith)) in
            let added = length-append (before (begun_elsewhere mux run i) (b + more)) (begun_elsewhere mux run i (b + more)) in
            subst (λ c. length (before (begun_elsewhere mux run i) c) + left c ≤ length (before (begun_elsewhere mux run i) b) + mux.inputs) same (omega (arith, earlier, step, added))

        fair_from : (c : ℕ) → b ≤ c → c ≤ count → AcceptsNone (run.inputs i) b c
            → length (before (begun_elsewhere mux run i) c) ≤ length (before (begun_elsewhere mux run i) b) + mux.inputs
        fair_from c from within none =
            let same : b + (c - b) ≡ c = omega (arith, from) in
            let few = few_begin (c - b) (omega (arith, same, within)) (subst (λ d. AcceptsNone (run.inputs i) b d) (sym same) none) in
            subst (λ d. length (before (begun_elsewhere mux run i) d) ≤ length (before (begun_elsewhere mux run i) b) + mux.inputs) same (omega (arith, few))

    pub multiplexed : IsMultiplexed mux run count
    multiplexed = multiplexed_but_fair (λ i is_input b c from within presented none. fair_from i is_input b presented c from within none)
