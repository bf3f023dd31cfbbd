-- A machine that leads each beat to the output of its channel is a demultiplexer.
use Rattle.std.specs.Prelude.{ℕ, zero, suc, ◌-◌, ◌*◌, ◌≤◌, ◌<◌, ◌≡◌, Bool, true, false, not, ◌&&◌, ◌==◌, ◌⊎◌, IsTrue, if◌then◌else◌, List, [], ◌++◌}
use Rattle.std.proofs.Common.{refl, sym, ap, ◌∙◌, inl, inr, arith, subst}
use Rattle.std.proofs.lemmas.Bool.{and_parts, and_from, cond-true, cond-false, cases_Bool, eqb-true, eq-eqb}
use Rattle.stream_runs.specs.View.{Beat, is_high, is_transfer}
use Rattle.stream_runs.specs.Source.{IsLegalSource, IsLegalAt, IsWellFormed, IsHeld, ShowsSame, is_open, channel_before}
use Rattle.stream_runs.specs.Symbols.{Symbol, symbols_in, shown_symbols, accepted_symbols, delivered_symbols}
use Rattle.routed_runs.specs.Routes.{direct, symbols_on}
use Rattle.routed_runs.specs.Laws.{transfer_shows}
use Rattle.routed_runs.specs.Demultiplexed.{Demultiplexer, DemultiplexerRun, input_side, output_side, IsWaiting, IsOwed, IsDemultiplexed}
use Rattle.routed_runs.specs.Beats.{with_channel}
use Rattle.routed_runs.specs.Demultiplexing.{IsDemultiplexerRun}
use Rattle.routed_runs.proofs.machines.Following.{plain, same_length, follow_at_once, plain_on-append, plain-append, beat_on, led_on}

and_false : (a : Bool) → (a && false) ≡ false
and_false true = refl
and_false false = refl

module _ (demux : Demultiplexer) (run : DemultiplexerRun) (is : IsDemultiplexerRun demux run) (some : 0 < demux.outputs) (count : ℕ) (legal : IsLegalSource (input_side demux) run.input count) where
  -- a shown beat has the number of an output
  in_range : (c : ℕ) → c < count → IsTrue (is_high run.input.valid c) → run.input.channel c < demux.outputs
  in_range c before shown = let most = ((legal c before).formed shown).in_range in omega (arith, most, some)

  -- what transfers at an output is what transfers at the input on its channel
  transfers : (c k : ℕ) → c < count → k < demux.outputs → is_transfer direct (run.outputs k) c ≡ (is_transfer direct run.input c && (run.input.channel c == k))
  transfers c k before is_output = by_shown (cases_Bool (is_high run.input.valid c)) (cases_Bool (run.input.channel c == k))
    where
      by_shown : (is_high run.input.valid c ≡ true) ⊎ (is_high run.input.valid c ≡ false) → (run.input.channel c == k) ≡ true ⊎ (run.input.channel c == k) ≡ false
          → is_transfer direct (run.outputs k) c ≡ (is_transfer direct run.input c && (run.input.channel c == k))
      by_shown (inr none) e = rw (is.valid c k is_output, none) refl
      by_shown (inl shown) (inr other) = rw (is.valid c k is_output, shown, other) (sym (and_false (is_high run.input.ready c)))
      by_shown (inl shown) (inl here) =
          let same : run.input.channel c ≡ k = eqb-true _ _ here in
          let ready : is_high run.input.ready c ≡ is_high (run.outputs k).ready c = is.ready c (in_range c before shown) ∙ ap (λ j. is_high (run.outputs j).ready c) same in
          rw (is.valid c k is_output, shown, here, ready) (turned (is_high (run.outputs k).ready c))
        where
          turned : (b : Bool) → b ≡ (b && true)
          turned true = refl
          turned false = refl

  -- a packet is open at the output of its channel alone
  record Opened (c k : ℕ) : Type 0 where
    opened : is_open direct (run.outputs k) c ≡ (is_open direct run.input c && (channel_before direct run.input c == k))
    channel : channel_before direct (run.outputs k) c ≡ 0

  opened_at : (c k : ℕ) → c ≤ count → k < demux.outputs → Opened c k
  opened_at zero k before is_output = record { opened = refl; channel = refl }
  opened_at (suc c) k before is_output = by_cases (opened_at c k (omega (arith, before)) is_output) (cases_Bool (is_transfer direct run.input c)) (cases_Bool (run.input.channel c == k))
    where
      moved : is_transfer direct (run.outputs k) c ≡ (is_transfer direct run.input c && (run.input.channel c == k))
      moved = transfers c k before is_output

      none_closed : (a b : Bool) → (not a && b) ≡ (if b then not a else false)
      none_closed true true = refl
      none_closed true false = refl
      none_closed false true = refl
      none_closed false false = refl

      apart : (h : IsTrue (is_transfer direct run.input c)) → (run.input.channel c == k) ≡ false → (b : Bool) → is_open direct run.input c ≡ b → (b && (channel_before direct run.input c == k)) ≡ false
      apart h other false closed = refl
      apart h other true opened = ap (λ n. n == k) (sym (((legal c before).formed (transfer_shows run.input c h)).one_channel refl opened)) ∙ other

      by_cases : Opened c k → (is_transfer direct run.input c ≡ true) ⊎ (is_transfer direct run.input c ≡ false) → ((run.input.channel c == k) ≡ true) ⊎ ((run.input.channel c == k) ≡ false) → Opened (suc c) k
      by_cases was (inr stays) e =
          let none : is_transfer direct (run.outputs k) c ≡ false = moved ∙ ap (λ b. b && (run.input.channel c == k)) stays in
          record {
            opened = cond-false (is_transfer direct (run.outputs k) c) _ _ none ∙ was.opened
                ∙ ap (λ b. b && (channel_before direct run.input c == k)) (sym (cond-false (is_transfer direct run.input c) (not (is_high run.input.last c)) (is_open direct run.input c) stays))
                ∙ ap (λ n. is_open direct run.input (suc c) && (n == k)) (sym (cond-false (is_transfer direct run.input c) (run.input.channel c) (channel_before direct run.input c) stays));
            channel = cond-false (is_transfer direct (run.outputs k) c) _ _ none ∙ was.channel;
          }
      by_cases was (inl moves) (inl here) =
          let too : is_transfer direct (run.outputs k) c ≡ true = moved ∙ ap (λ b. b && (run.input.channel c == k)) moves ∙ here in
          let beat = is.beat c k is_output (transfer_shows (run.outputs k) c too) in
          let last : is_high (run.outputs k).last c ≡ is_high run.input.last c = ap (λ (b : Beat). b.last == 1) beat in
          record {
            opened = cond-true (is_transfer direct (run.outputs k) c) _ _ too ∙ ap not last
                ∙ sym (and_true (not (is_high run.input.last c)))
                ∙ ap (λ b. not (is_high run.input.last c) && b) (sym here)
                ∙ ap (λ b. b && (run.input.channel c == k)) (sym (cond-true (is_transfer direct run.input c) (not (is_high run.input.last c)) (is_open direct run.input c) moves))
                ∙ ap (λ n. is_open direct run.input (suc c) && (n == k)) (sym (cond-true (is_transfer direct run.input c) (run.input.channel c) (channel_before direct run.input c) moves));
            channel = cond-true (is_transfer direct (run.outputs k) c) _ _ too ∙ ap (λ (b : Beat). b.channel) beat;
          }
        where
          and_true : (a : Bool) → (a && true) ≡ a
          and_true true = refl
          and_true false = refl
      by_cases was (inl moves) (inr other) =
          let none : is_transfer direct (run.outputs k) c ≡ false = moved ∙ ap (λ b. b && (run.input.channel c == k)) moves ∙ other in
          record {
            opened = cond-false (is_transfer direct (run.outputs k) c) _ _ none ∙ was.opened ∙ apart moves other (is_open direct run.input c) refl
                ∙ sym (and_false (not (is_high run.input.last c)))
                ∙ ap (λ b. not (is_high run.input.last c) && b) (sym other)
                ∙ ap (λ b. b && (run.input.channel c == k)) (sym (cond-true (is_transfer direct run.input c) (not (is_high run.input.last c)) (is_open direct run.input c) moves))
                ∙ ap (λ n. is_open direct run.input (suc c) && (n == k)) (sym (cond-true (is_transfer direct run.input c) (run.input.channel c) (channel_before direct run.input c) moves));
            channel = cond-false (is_transfer direct (run.outputs k) c) _ _ none ∙ was.channel;
          }

  -- what a shown beat says of the input
  shown_input : (c k : ℕ) → k < demux.outputs → IsTrue (is_high (run.outputs k).valid c) → IsTrue (is_high run.input.valid c) × (run.input.channel c ≡ k)
  shown_input c k is_output shown =
      let both = and_parts (is_high run.input.valid c) (run.input.channel c == k) (sym (is.valid c k is_output) ∙ shown) in
      (both.0, eqb-true _ _ both.1)

  held_at : (c k : ℕ) → c < count → k < demux.outputs → IsHeld direct (run.outputs k) c
  held_at zero k before is_output = tt
  held_at (suc c) k before is_output = λ shown stalls.
      (let at_input = shown_input c k is_output shown in
      let here : (run.input.channel c == k) ≡ true = eq-eqb _ _ at_input.1 in
      let stays : is_transfer direct run.input c ≡ false = sym (and_true (is_transfer direct run.input c)) ∙ ap (λ b. is_transfer direct run.input c && b) (sym here) ∙ sym (transfers c k (omega (arith, before)) is_output) ∙ stalls in
      let same : ShowsSame run.input c (suc c) = (legal (suc c) before).paced.held at_input.0 stays in
      let still : IsTrue (is_high run.input.valid (suc c)) = ap (λ n. n == 1) (sym same.valid) ∙ at_input.0 in
      let channel : run.input.channel (suc c) ≡ k = ap (λ (b : Beat). b.channel) (sym same.beat) ∙ at_input.1 in
      let shown_next : IsTrue (is_high (run.outputs k).valid (suc c)) = is.valid (suc c) k is_output ∙ and_from _ _ still (eq-eqb _ _ channel) in
      record {
        valid = eqb-true _ _ shown ∙ sym (eqb-true _ _ shown_next);
        beat = is.beat c k is_output shown ∙ ap (with_channel 0) same.beat ∙ sym (is.beat (suc c) k is_output shown_next);
      })
    where
      and_true : (a : Bool) → (a && true) ≡ a
      and_true true = refl
      and_true false = refl

  legal_at : (k : ℕ) → k < demux.outputs → (c : ℕ) → c < count → IsLegalAt (output_side demux) (run.outputs k) c
  legal_at k is_output c before =
      record {
        paced = record { allowed = λ shown. refl; held = held_at c k before is_output };
        formed = λ shown. (
            let at_input = shown_input c k is_output shown in
            let formed = (legal c before).formed at_input.0 in
            let was = opened_at c k (omega (arith, before)) is_output in
            subst (λ (beat : Beat). IsWellFormed (output_side demux) (is_open direct (run.outputs k) c) (channel_before direct (run.outputs k) c) beat) (sym (is.beat c k is_output shown))
            (record {
              begins = λ packets. formed.begins packets ∙ ap not (same_open at_input.0 at_input.1 (is_open direct run.input c) refl ∙ sym was.opened);
              unmarked = formed.unmarked;
              holds_data = formed.holds_data;
              in_range = omega arith;
              one_channel = λ packets opened. sym was.channel;
              quiet = formed.quiet;
            }));
      }
    where
      same_open : IsTrue (is_high run.input.valid c) → run.input.channel c ≡ k → (b : Bool) → is_open direct run.input c ≡ b → b ≡ (b && (channel_before direct run.input c == k))
      same_open shown same false closed = refl
      same_open shown same true opened = sym (eq-eqb _ _ (sym (((legal c before).formed shown).one_channel refl opened) ∙ same))

  -- what an output was given is what was accepted on its channel
  same_plain : (k : ℕ) → k < demux.outputs → (c : ℕ) → c ≤ count
      → plain (delivered_symbols (output_side demux) (run.outputs k) c) ≡ plain (symbols_on k (accepted_symbols (input_side demux) run.input c))
  same_plain k is_output zero before = refl
  same_plain k is_output (suc c) before =
      plain-append (delivered_symbols (output_side demux) (run.outputs k) c) (symbols_in (output_side demux) (run.outputs k) c)
      ∙ ap (λ (xs : List Symbol). xs ++ plain (symbols_in (output_side demux) (run.outputs k) c)) (same_plain k is_output c (omega (arith, before)))
      ∙ ap (λ (ys : List Symbol). plain (symbols_on k (accepted_symbols (input_side demux) run.input c)) ++ ys) (added (cases_Bool (is_transfer direct run.input c)) (cases_Bool (run.input.channel c == k)))
      ∙ sym (plain_on-append k (accepted_symbols (input_side demux) run.input c) (symbols_in (input_side demux) run.input c))
    where
      moved : is_transfer direct (run.outputs k) c ≡ (is_transfer direct run.input c && (run.input.channel c == k))
      moved = transfers c k before is_output

      added : (is_transfer direct run.input c ≡ true) ⊎ (is_transfer direct run.input c ≡ false) → ((run.input.channel c == k) ≡ true) ⊎ ((run.input.channel c == k) ≡ false)
          → plain (symbols_in (output_side demux) (run.outputs k) c) ≡ plain (symbols_on k (symbols_in (input_side demux) run.input c))
      added (inr stays) e =
          ap plain (cond-false (is_transfer direct (run.outputs k) c) _ _ (moved ∙ ap (λ b. b && (run.input.channel c == k)) stays))
          ∙ sym (ap (λ (xs : List Symbol). plain (symbols_on k xs)) (cond-false (is_transfer direct run.input c) (shown_symbols (input_side demux) run.input c) [] stays))
      added (inl moves) (inl here) =
          let too : is_transfer direct (run.outputs k) c ≡ true = moved ∙ ap (λ b. b && (run.input.channel c == k)) moves ∙ here in
          ap plain (cond-true (is_transfer direct (run.outputs k) c) _ _ too)
          ∙ led_on true demux.symbols demux.bits 0 (demux.outputs - 1) 0 run.input (run.outputs k) c (is.beat c k is_output (transfer_shows (run.outputs k) c too))
          ∙ sym (ap plain (beat_on k (input_side demux) run.input c true here))
          ∙ sym (ap (λ (xs : List Symbol). plain (symbols_on k xs)) (cond-true (is_transfer direct run.input c) (shown_symbols (input_side demux) run.input c) [] moves))
      added (inl moves) (inr other) =
          ap plain (cond-false (is_transfer direct (run.outputs k) c) _ _ (moved ∙ ap (λ b. b && (run.input.channel c == k)) moves ∙ other))
          ∙ sym (ap plain (beat_on k (input_side demux) run.input c false other))
          ∙ sym (ap (λ (xs : List Symbol). plain (symbols_on k xs)) (cond-true (is_transfer direct run.input c) (shown_symbols (input_side demux) run.input c) [] moves))

  pub demultiplexed : IsDemultiplexed demux run count
  demultiplexed =
      record {
        legal = legal_at;
        follows = λ k is_output c at_most. follow_at_once (2 * demux.symbols) _ _ (same_plain k is_output c at_most);
        accepts = λ start within waiting.
            (let here : IsWaiting demux run start = waiting start (omega arith) (omega arith) in
            let taken = is.ready start (in_range start (omega (arith, within)) here.shown) ∙ here.ready (run.input.channel start) (in_range start (omega (arith, within)) here.shown) in
            (start, omega arith, omega arith, and_from _ _ here.shown taken));
        delivers = λ start within owed.
            (let here : IsOwed demux run start = owed start (omega arith) (omega arith) in
            let same = same_length _ _ (same_plain here.output here.is_output start (omega (arith, within))) in
            let less = here.undelivered in
            absurd (omega (arith, same, less)));
      }
