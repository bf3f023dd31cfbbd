-- A machine that keeps the words of each channel apart is a gatherer.
use Rattle.std.specs.Prelude.{ℕ, zero, suc, ◌+◌, ◌-◌, ◌*◌, ◌≤◌, ◌<◌, ◌≡◌, Bool, true, false, not, ◌&&◌, ◌||◌, ◌==◌, ◌⊎◌, IsTrue, if◌then◌else◌, List, [], ◌∷◌, ◌++◌, map, length}
use Rattle.std.proofs.Common.{refl, sym, ap, ◌∙◌, inl, inr, arith, subst, append_assoc, append-nil, length-append}
use Rattle.std.proofs.lemmas.Bool.{and_parts, and_from, cond-true, cond-false, cases_Bool, eqb-true, eqb-false}
use Rattle.std.specs.List.{range_with_len}
use Rattle.std.proofs.lemmas.List.{length-map}
use Rattle.stream_runs.specs.View.{Beat, beat_at, is_high, is_transfer}
use Rattle.stream_runs.specs.Source.{IsLegalSource, IsLegalAt, IsHeld, ShowsSame}
use Rattle.stream_runs.specs.Symbols.{Symbol, value_of, symbols_in, symbols_of, shown_symbols, symbol_count, accepted_symbols, delivered_symbols}
use Rattle.routed_runs.specs.Routes.{direct, data_and_marks, symbols_on, FollowWithin}
use Rattle.routed_runs.specs.Laws.{transfer_shows}
use Rattle.routed_runs.specs.Gathered.{Gatherer, GathererRun, gathered_symbols, input_side, output_side, IsOwed, IsGathered}
use Rattle.routed_runs.specs.Gathering.{Started, IsGathererRun, side_by_side, completes, plain_beat}
use Rattle.routed_runs.proofs.machines.Following.{plain, plain_on-append, beat_on}
use Rattle.routed_runs.proofs.machines.WordParts.{unmarked, unmarked_symbols, word_symbols, kept, AllFit, joined_symbols, kept_length}

-- what goes out and what comes in, by what is shown, whether it ends and whether the sink is ready
goes_with : (shown ends ready : Bool) → ((shown && ends) && ready) ≡ ((shown && (not ends || ready)) && ends)
goes_with true true ready = sym (and_true ready)
  where
    and_true : (a : Bool) → (a && true) ≡ a
    and_true true = refl
    and_true false = refl
goes_with true false ready = refl
goes_with false ends ready = refl

module _ (gatherer : Gatherer) (run : GathererRun) (started : Started) (is : IsGathererRun gatherer run started) (some : 0 < gatherer.channels) (some_symbols : 0 < gatherer.symbols) (some_parts : 0 < gatherer.parts) (count : ℕ) (legal : IsLegalSource (input_side gatherer) run.input count) where
  in_range : (c : ℕ) → c < count → IsTrue (is_high run.input.valid c) → run.input.channel c < gatherer.channels
  in_range c before shown = let most = ((legal c before).formed shown).in_range in omega (arith, most, some)

  gives : (c : ℕ) → is_transfer direct run.output c ≡ (is_transfer direct run.input c && started.ends c)
  gives c = rw (is.valid c, is.ready c) (goes_with (is_high run.input.valid c) (started.ends c) (is_high run.output.ready c))

  -- a channel has fewer words than a beat, each of which fits
  record AreFew (words : List ℕ) : Type 0 where
    few : length words < gatherer.parts
    fit : AllFit gatherer.symbols gatherer.bits (gatherer.channels - 1) words

  few_at : (c k : ℕ) → k < gatherer.channels → AreFew (started.held c k)
  few_at zero k is_channel = subst AreFew (sym (is.starts k is_channel)) (record { few = some_parts; fit = tt })
  few_at (suc c) k is_channel =
      subst AreFew (sym (is.moves c k is_channel)) (by_move (few_at c k is_channel) (is_transfer direct run.input c && (run.input.channel c == k)) (completes gatherer (started.held c k)) refl)
    where
      by_move : AreFew (started.held c k) → (moves ends : Bool) → completes gatherer (started.held c k) ≡ ends
          → AreFew (if moves then (if ends then [] else run.input.word c ∷ started.held c k) else started.held c k)
      by_move was false ends e = was
      by_move was true true e = record { few = some_parts; fit = tt }
      by_move was true false e = record { few = (let less = was.few in let apart = eqb-false _ _ e in omega (arith, less, apart)); fit = (is.fits c, was.fit) }

  ended_length : (c : ℕ) → run.input.channel c < gatherer.channels → started.ends c ≡ true → length (started.held c (run.input.channel c)) + 1 ≡ gatherer.parts
  ended_length c is_channel ends = eqb-true _ _ (sym (is.ends_is c is_channel) ∙ ends)

  -- what was accepted on a channel is what was delivered there and the words that it has
  abbrev kept_of : ℕ → ℕ → List Symbol
  kept_of c k = kept gatherer.symbols gatherer.bits (gatherer.channels - 1) (started.held c k)

  abbrev taken_on : ℕ → ℕ → List Symbol
  taken_on c k = plain (symbols_on k (accepted_symbols (input_side gatherer) run.input c))

  abbrev given_on : ℕ → ℕ → List Symbol
  given_on c k = plain (symbols_on k (delivered_symbols (output_side gatherer) run.output c))

  -- the symbols that come in in a cycle, on their channel
  module _ (c : ℕ) (before : c < count) (moves : is_transfer direct run.input c ≡ true) where
    shown_now : IsTrue (is_high run.input.valid c)
    shown_now = transfer_shows run.input c moves

    coming : plain (shown_symbols (input_side gatherer) run.input c) ≡ word_symbols gatherer.symbols gatherer.bits (gatherer.channels - 1) (run.input.word c)
    coming =
        let plainly = ((legal c before).formed shown_now).unmarked refl in
        unmarked_symbols (input_side gatherer) (beat_at run.input c) (range_with_len 0 (symbol_count (input_side gatherer) (beat_at run.input c))) plainly.0 plainly.1
        ∙ ap (λ n. map (λ j. unmarked (value_of (input_side gatherer) (run.input.word c) j)) (range_with_len 0 n)) (cond-false (run.input.last c == 1) _ _ plainly.1)

    going : started.ends c ≡ true → (beat_at run.output c ≡ plain_beat (run.input.channel c) (side_by_side (gatherer.bits * gatherer.symbols) (run.input.word c ∷ started.held c (run.input.channel c))))
        → plain (shown_symbols (output_side gatherer) run.output c) ≡ kept gatherer.symbols gatherer.bits (gatherer.channels - 1) (run.input.word c ∷ started.held c (run.input.channel c))
    going ends beat =
        let is_channel = in_range c before shown_now in
        ap (λ (b : Beat). plain (symbols_of (output_side gatherer) b)) beat
        ∙ unmarked_symbols (output_side gatherer) (plain_beat (run.input.channel c) (side_by_side (gatherer.bits * gatherer.symbols) (run.input.word c ∷ started.held c (run.input.channel c)))) (range_with_len 0 (gathered_symbols gatherer)) refl refl
        ∙ joined_symbols gatherer.symbols gatherer.bits (gatherer.channels - 1) gatherer.parts (run.input.word c ∷ started.held c (run.input.channel c))
        (let length_is = ended_length c is_channel ends in omega (arith, length_is)) (is.fits c, (few_at c (run.input.channel c) is_channel).fit)

  balance : (k : ℕ) → k < gatherer.channels → (c : ℕ) → c ≤ count → taken_on c k ≡ given_on c k ++ kept_of c k
  balance k is_channel zero within = ap (λ (words : List ℕ). kept gatherer.symbols gatherer.bits (gatherer.channels - 1) words) (sym (is.starts k is_channel))
  balance k is_channel (suc c) within =
      taken_more ∙ by_move (balance k is_channel c (omega (arith, within))) (cases_Bool (is_transfer direct run.input c)) (cases_Bool (run.input.channel c == k)) (cases_Bool (started.ends c))
      ∙ ap (λ (xs : List Symbol). xs ++ kept_of (suc c) k) (sym given_more)
    where
      taken_more : taken_on (suc c) k ≡ taken_on c k ++ plain (symbols_on k (symbols_in (input_side gatherer) run.input c))
      taken_more = plain_on-append k (accepted_symbols (input_side gatherer) run.input c) (symbols_in (input_side gatherer) run.input c)

      given_more : given_on (suc c) k ≡ given_on c k ++ plain (symbols_on k (symbols_in (output_side gatherer) run.output c))
      given_more = plain_on-append k (delivered_symbols (output_side gatherer) run.output c) (symbols_in (output_side gatherer) run.output c)

      -- nothing moves on the channel
      still : taken_on c k ≡ given_on c k ++ kept_of c k → plain (symbols_on k (symbols_in (input_side gatherer) run.input c)) ≡ []
          → plain (symbols_on k (symbols_in (output_side gatherer) run.output c)) ≡ [] → started.held (suc c) k ≡ started.held c k
          → taken_on c k ++ plain (symbols_on k (symbols_in (input_side gatherer) run.input c)) ≡ (given_on c k ++ plain (symbols_on k (symbols_in (output_side gatherer) run.output c))) ++ kept_of (suc c) k
      still was none nothing same =
          ap (λ (ys : List Symbol). taken_on c k ++ ys) none ∙ append-nil (taken_on c k) ∙ was
          ∙ ap (λ (words : List ℕ). given_on c k ++ kept gatherer.symbols gatherer.bits (gatherer.channels - 1) words) (sym same)
          ∙ ap (λ (xs : List Symbol). xs ++ kept_of (suc c) k) (sym (append-nil (given_on c k)) ∙ ap (λ (ys : List Symbol). given_on c k ++ ys) (sym nothing))

      unmoved : (is_transfer direct run.input c && (run.input.channel c == k)) ≡ false → started.held (suc c) k ≡ started.held c k
      unmoved stays = is.moves c k is_channel ∙ cond-false (is_transfer direct run.input c && (run.input.channel c == k)) _ _ stays

      nothing_given : is_transfer direct run.output c ≡ false → plain (symbols_on k (symbols_in (output_side gatherer) run.output c)) ≡ []
      nothing_given stays = ap (λ (xs : List Symbol). plain (symbols_on k xs)) (cond-false (is_transfer direct run.output c) (shown_symbols (output_side gatherer) run.output c) [] stays)

      taken_now : is_transfer direct run.input c ≡ true → plain (symbols_on k (symbols_in (input_side gatherer) run.input c)) ≡ plain (symbols_on k (shown_symbols (input_side gatherer) run.input c))
      taken_now moves = ap (λ (xs : List Symbol). plain (symbols_on k xs)) (cond-true (is_transfer direct run.input c) (shown_symbols (input_side gatherer) run.input c) [] moves)

      given_now : is_transfer direct run.output c ≡ true → plain (symbols_on k (symbols_in (output_side gatherer) run.output c)) ≡ plain (symbols_on k (shown_symbols (output_side gatherer) run.output c))
      given_now moves = ap (λ (xs : List Symbol). plain (symbols_on k xs)) (cond-true (is_transfer direct run.output c) (shown_symbols (output_side gatherer) run.output c) [] moves)

      beat_now : is_transfer direct run.input c ≡ true → is_transfer direct run.output c ≡ true
          → beat_at run.output c ≡ plain_beat (run.input.channel c) (side_by_side (gatherer.bits * gatherer.symbols) (run.input.word c ∷ started.held c (run.input.channel c)))
      beat_now moves goes = is.beat c (in_range c within (transfer_shows run.input c moves)) (transfer_shows run.output c goes)

      by_move : taken_on c k ≡ given_on c k ++ kept_of c k → (is_transfer direct run.input c ≡ true) ⊎ (is_transfer direct run.input c ≡ false)
          → ((run.input.channel c == k) ≡ true) ⊎ ((run.input.channel c == k) ≡ false) → (started.ends c ≡ true) ⊎ (started.ends c ≡ false)
          → taken_on c k ++ plain (symbols_on k (symbols_in (input_side gatherer) run.input c)) ≡ (given_on c k ++ plain (symbols_on k (symbols_in (output_side gatherer) run.output c))) ++ kept_of (suc c) k
      by_move was (inr stays) e f =
          still was
          (ap (λ (xs : List Symbol). plain (symbols_on k xs)) (cond-false (is_transfer direct run.input c) (shown_symbols (input_side gatherer) run.input c) [] stays))
          (nothing_given (gives c ∙ ap (λ b. b && started.ends c) stays))
          (unmoved (ap (λ b. b && (run.input.channel c == k)) stays))
      by_move was (inl moves) (inr other) (inr goes_on) =
          still was
          (taken_now moves ∙ ap plain (beat_on k (input_side gatherer) run.input c false other))
          (nothing_given (gives c ∙ ap (λ b. b && started.ends c) moves ∙ goes_on))
          (unmoved (ap (λ b. b && (run.input.channel c == k)) moves ∙ other))
      by_move was (inl moves) (inr other) (inl ends) =
          let goes : is_transfer direct run.output c ≡ true = gives c ∙ ap (λ b. b && started.ends c) moves ∙ ends in
          still was
          (taken_now moves ∙ ap plain (beat_on k (input_side gatherer) run.input c false other))
          (given_now goes ∙ ap plain (beat_on k (output_side gatherer) run.output c false (ap (λ (b : Beat). b.channel == k) (beat_now moves goes) ∙ other)))
          (unmoved (ap (λ b. b && (run.input.channel c == k)) moves ∙ other))
      by_move was (inl moves) (inl here) (inr goes_on) =
          let same : run.input.channel c ≡ k = eqb-true _ _ here in
          let undone : completes gatherer (started.held c k) ≡ false = ap (λ j. completes gatherer (started.held c j)) (sym same) ∙ sym (is.ends_is c (in_range c within (transfer_shows run.input c moves))) ∙ goes_on in
          let held_next : started.held (suc c) k ≡ run.input.word c ∷ started.held c k =
          is.moves c k is_channel ∙ cond-true (is_transfer direct run.input c && (run.input.channel c == k)) _ _ (ap (λ b. b && (run.input.channel c == k)) moves ∙ here)
          ∙ cond-false (completes gatherer (started.held c k)) _ _ undone in
          ap (λ (ys : List Symbol). taken_on c k ++ ys) (taken_now moves ∙ ap plain (beat_on k (input_side gatherer) run.input c true here) ∙ coming c within moves)
          ∙ ap (λ (xs : List Symbol). xs ++ word_symbols gatherer.symbols gatherer.bits (gatherer.channels - 1) (run.input.word c)) was
          ∙ append_assoc (given_on c k) (kept_of c k) (word_symbols gatherer.symbols gatherer.bits (gatherer.channels - 1) (run.input.word c))
          ∙ ap (λ (words : List ℕ). given_on c k ++ kept gatherer.symbols gatherer.bits (gatherer.channels - 1) words) (sym held_next)
          ∙ ap (λ (xs : List Symbol). xs ++ kept_of (suc c) k) (sym (append-nil (given_on c k)) ∙ ap (λ (ys : List Symbol). given_on c k ++ ys) (sym (nothing_given (gives c ∙ ap (λ b. b && started.ends c) moves ∙ goes_on))))
      by_move was (inl moves) (inl here) (inl ends) =
          let same : run.input.channel c ≡ k = eqb-true _ _ here in
          let goes : is_transfer direct run.output c ≡ true = gives c ∙ ap (λ b. b && started.ends c) moves ∙ ends in
          let done : completes gatherer (started.held c k) ≡ true = ap (λ j. completes gatherer (started.held c j)) (sym same) ∙ sym (is.ends_is c (in_range c within (transfer_shows run.input c moves))) ∙ ends in
          let held_next : started.held (suc c) k ≡ [] =
          is.moves c k is_channel ∙ cond-true (is_transfer direct run.input c && (run.input.channel c == k)) _ _ (ap (λ b. b && (run.input.channel c == k)) moves ∙ here)
          ∙ cond-true (completes gatherer (started.held c k)) _ _ done in
          let out_here : (run.output.channel c == k) ≡ true = ap (λ (b : Beat). b.channel == k) (beat_now moves goes) ∙ here in
          ap (λ (ys : List Symbol). taken_on c k ++ ys) (taken_now moves ∙ ap plain (beat_on k (input_side gatherer) run.input c true here) ∙ coming c within moves)
          ∙ ap (λ (xs : List Symbol). xs ++ word_symbols gatherer.symbols gatherer.bits (gatherer.channels - 1) (run.input.word c)) was
          ∙ append_assoc (given_on c k) (kept_of c k) (word_symbols gatherer.symbols gatherer.bits (gatherer.channels - 1) (run.input.word c))
          ∙ ap (λ j. given_on c k ++ kept gatherer.symbols gatherer.bits (gatherer.channels - 1) (run.input.word c ∷ started.held c j)) (sym same)
          ∙ ap (λ (ys : List Symbol). given_on c k ++ ys) (sym (given_now goes ∙ ap plain (beat_on k (output_side gatherer) run.output c true out_here) ∙ going c within moves ends (beat_now moves goes)))
          ∙ sym (append-nil (given_on c k ++ plain (symbols_on k (symbols_in (output_side gatherer) run.output c))))
          ∙ ap (λ (words : List ℕ). (given_on c k ++ plain (symbols_on k (symbols_in (output_side gatherer) run.output c))) ++ kept gatherer.symbols gatherer.bits (gatherer.channels - 1) words) (sym held_next)

  -- how many symbols were accepted and not delivered
  kept_few : (c k : ℕ) → k < gatherer.channels → c ≤ count
      → (length (symbols_on k (accepted_symbols (input_side gatherer) run.input c)) ≡ length (symbols_on k (delivered_symbols (output_side gatherer) run.output c)) + gatherer.symbols * length (started.held c k))
  kept_few c k is_channel within =
      let whole = ap length (balance k is_channel c within) in
      let taken = length-map (symbols_on k (accepted_symbols (input_side gatherer) run.input c)) data_and_marks in
      let given = length-map (symbols_on k (delivered_symbols (output_side gatherer) run.output c)) data_and_marks in
      let both = length-append (given_on c k) (kept_of c k) in
      let rest = kept_length gatherer.symbols gatherer.bits (gatherer.channels - 1) (started.held c k) in
      omega (arith, whole, taken, given, both, rest)

  fewer_parts : (n : ℕ) → n < gatherer.parts → gatherer.symbols * n + gatherer.symbols ≤ gathered_symbols gatherer
  fewer_parts n h =
      let rest : ℕ = gatherer.parts - 1 - n in
      let whole : gatherer.parts ≡ n + 1 + rest = omega (arith, h) in
      let product : gatherer.symbols * gatherer.parts ≡ gatherer.symbols * n + gatherer.symbols + gatherer.symbols * rest = ap (λ m. gatherer.symbols * m) whole ∙ omega arith in
      omega (arith, product)

  follows_at : (k : ℕ) → k < gatherer.channels → (c : ℕ) → c ≤ count
      → FollowWithin (3 * gathered_symbols gatherer) (symbols_on k (accepted_symbols (input_side gatherer) run.input c)) (symbols_on k (delivered_symbols (output_side gatherer) run.output c))
  follows_at k is_channel c within =
      let few = kept_few c k is_channel within in
      let parts = fewer_parts (length (started.held c k)) (few_at c k is_channel).few in
      record {
        in_order = record { rest = kept_of c k; joins = sym (balance k is_channel c within) };
        few = omega (arith, few, parts);
      }

  -- a beat that waits stays as it is
  held_out : (c : ℕ) → c < count → IsHeld direct run.output c
  held_out zero before = tt
  held_out (suc c) before = λ shown stalls.
      (let both = and_parts (is_high run.input.valid c) (started.ends c) (sym (is.valid c) ∙ shown) in
      let is_channel = in_range c (omega (arith, before)) both.0 in
      let not_ready : is_high run.output.ready c ≡ false = ap (λ b. b && is_high run.output.ready c) (sym shown) ∙ stalls in
      let refused : is_transfer direct run.input c ≡ false = ap (λ b. b && is_high run.input.ready c) both.0 ∙ is.ready c ∙ ap (λ b. not b || is_high run.output.ready c) both.1 ∙ not_ready in
      let same : ShowsSame run.input c (suc c) = (legal (suc c) before).paced.held both.0 refused in
      let shown_in : IsTrue (is_high run.input.valid (suc c)) = ap (λ n. n == 1) (sym same.valid) ∙ both.0 in
      let channel : run.input.channel (suc c) ≡ run.input.channel c = ap (λ (b : Beat). b.channel) (sym same.beat) in
      let word : run.input.word (suc c) ≡ run.input.word c = ap (λ (b : Beat). b.word) (sym same.beat) in
      let held : started.held (suc c) (run.input.channel (suc c)) ≡ started.held c (run.input.channel c) =
      ap (started.held (suc c)) channel ∙ is.moves c (run.input.channel c) is_channel ∙ cond-false (is_transfer direct run.input c && (run.input.channel c == run.input.channel c)) _ _ (ap (λ b. b && (run.input.channel c == run.input.channel c)) refused) in
      let ends_next : started.ends (suc c) ≡ true =
      is.ends_is (suc c) (in_range (suc c) before shown_in) ∙ ap (completes gatherer) held ∙ sym (is.ends_is c is_channel) ∙ both.1 in
      let shown_next : IsTrue (is_high run.output.valid (suc c)) = is.valid (suc c) ∙ and_from _ _ shown_in ends_next in
      record {
        valid = eqb-true _ _ shown ∙ sym (eqb-true _ _ shown_next);
        beat =
            is.beat c is_channel shown
            ∙ ap (λ k. plain_beat k (side_by_side (gatherer.bits * gatherer.symbols) (run.input.word c ∷ started.held c (run.input.channel c)))) (sym channel)
            ∙ ap (λ w. plain_beat (run.input.channel (suc c)) (side_by_side (gatherer.bits * gatherer.symbols) (w ∷ started.held c (run.input.channel c)))) (sym word)
            ∙ ap (λ (ws : List ℕ). plain_beat (run.input.channel (suc c)) (side_by_side (gatherer.bits * gatherer.symbols) (run.input.word (suc c) ∷ ws))) (sym held)
            ∙ sym (is.beat (suc c) (in_range (suc c) before shown_in) shown_next);
      })

  shown_out : (c : ℕ) → c < count → IsTrue (is_high run.output.valid c)
      → beat_at run.output c ≡ plain_beat (run.input.channel c) (side_by_side (gatherer.bits * gatherer.symbols) (run.input.word c ∷ started.held c (run.input.channel c)))
  shown_out c before shown = is.beat c (in_range c before (and_parts (is_high run.input.valid c) (started.ends c) (sym (is.valid c) ∙ shown)).0) shown

  legal_at : (c : ℕ) → c < count → IsLegalAt (output_side gatherer) run.output c
  legal_at c before =
      record {
        paced = record { allowed = λ shown. refl; held = held_out c before };
        formed = λ shown. (
            let beat = shown_out c before shown in
            let at_input = (and_parts (is_high run.input.valid c) (started.ends c) (sym (is.valid c) ∙ shown)).0 in
            let below = in_range c before at_input in
            let channel : run.output.channel c ≡ run.input.channel c = ap (λ (b : Beat). b.channel) beat in
            let not_last : (run.output.last c == 1) ≡ false = ap (λ (b : Beat). b.last == 1) beat in
            record {
              begins = λ packets. (let p : ◌≡◌ {A = Bool} false true = packets in absurd (cc));
              unmarked = λ none. (ap (λ (b : Beat). b.first == 1) beat, not_last);
              holds_data = λ ends. (let p : ◌≡◌ {A = Bool} true false = sym ends ∙ not_last in absurd (cc));
              in_range = omega (arith, below, channel);
              one_channel = λ packets opened. (let p : ◌≡◌ {A = Bool} false true = packets in absurd (cc));
              quiet = λ none. ap (λ (b : Beat). b.error) beat;
            });
      }

  pub gathered : IsGathered gatherer run count
  gathered =
      record {
        legal = legal_at;
        follows = follows_at;
        full = λ c before moves.
            (let not_last : (run.output.last c == 1) ≡ false = ap (λ (b : Beat). b.last == 1) (shown_out c before (transfer_shows run.output c moves)) in
            cond-false (run.output.last c == 1) _ _ not_last);
        accepts = λ start within ready.
            (start, omega arith, omega arith, is.ready start ∙ ap (λ b. not (started.ends start) || b) (ready start (omega arith) (omega arith)) ∙ or_true (not (started.ends start)));
        delivers = λ start within owed.
            (let here : IsOwed gatherer run start = owed start (omega arith) (omega arith) in
            let few = kept_few start here.channel here.is_channel (omega (arith, within)) in
            let parts = fewer_parts (length (started.held start here.channel)) (few_at start here.channel here.is_channel).few in
            let enough = here.undelivered in
            absurd (omega (arith, few, parts, enough, some_symbols)));
      }
    where
      or_true : (a : Bool) → (a || true) ≡ true
      or_true true = refl
      or_true false = refl
