-- A chain keeps the law of a stage.
use Rattle.std.proofs.Common.{◌≡◌, ◌⊎◌, ℕ, zero, suc, ◌+◌, ◌-◌, ◌*◌, ◌≤◌, ◌<◌, Bool, true, false, cond, IsTrue, ◌||◌, List, map, length, take, drop, ap, sym, ◌∙◌, subst, inl, inr, arith, length-append, length-drop, nat_lt, nat_le}
use Rattle.std.proofs.lemmas.List.{take_all}
use Rattle.std.proofs.lemmas.Bool.{le-leb, cond-true, cases_lt, and_parts, or_left, or_right}
use Rattle.stream_runs.specs.View.{EndView, Side, is_high, is_transfer, IsReadyBefore}
use Rattle.histories.specs.History.{IsPrefix}
use Rattle.stream_runs.specs.Symbols.{transferred_symbols, symbols_in, kept_symbols, Symbol, without_error, shown_count, joined_error}
use Rattle.stream_runs.specs.Source.{IsLegalSource, IsLegalAt}
use Rattle.stream_runs.specs.Delivery.{DeliversPrefix, matched_symbols}
use Rattle.stream_machines.specs.Stage.{Shape, StageRun, StageLaw, KeepsStageLaw, PassesReady, Fits, chain_shape, chain_run}
use Rattle.histories.specs.Laws.{prefix_length, prefix_trans, prefix_map}
use Rattle.stream_runs.specs.Laws.{symbols_grow, length_in, length_in_order, legal_holds_data}
use Rattle.stream_machines.proofs.Kept.{kept_in_middle}
use Rattle.stream_machines.proofs.Fills.{fill, fill-at_divisor, held_at_most, fill_before, HoldsData, StartsAt, starts}
use Rattle.stream_machines.proofs.Quiet.{quiet_joined, quiet-take, quiet-drop, quiet-filter, quiet_transferred}
use Rattle.stream_machines.proofs.Errors.{GivesErrors, errors_of, join, joined_is, errors_follow, joined_where_they_follow, joined_over_beats, fill_front, part_of_prefix}
use Rattle.stream_machines.proofs.Chains.{first_of, one_of, chain-in_order, chain-held, chain-ranked}

-- what holds in the cycles before count holds in those before an earlier one
streamed_shorter : (passes : ℕ → Bool) (source sink : Side) (from to : EndView) (b c : ℕ) → b ≤ c → GivesErrors passes source sink from to c → GivesErrors passes source sink from to b
streamed_shorter passes source sink from to b c h s =
    record { in_order = λ d k. s.in_order d (omega arith); holds_data = λ d k. s.holds_data d (omega arith); errors = λ d k. s.errors d (omega arith) }

module _ (one_passes two_passes : ℕ → Bool) (up middle down : Side) (from between to : EndView) (count : ℕ)
    (passed : (channel : ℕ) → IsTrue (one_passes channel) → IsTrue (two_passes channel)) (some : HoldsData up from count) (positive : 0 < up.symbols)
    (one : GivesErrors one_passes up middle from between count) (two : DeliversPrefix two_passes middle down between to count) (c : ℕ) (h : c < count) (moves : IsTrue (is_transfer down.pace to c)) where
  kept_is : (b : ℕ) → b ≤ count → kept_symbols two_passes middle between b ≡ transferred_symbols middle between b
  kept_is b k = kept_in_middle one_passes two_passes (transferred_symbols up from b) (transferred_symbols middle between b) passed (one.in_order b k)

  middle_order : (b : ℕ) → b ≤ count → IsPrefix (map without_error (transferred_symbols down to b)) (map without_error (transferred_symbols middle between b))
  middle_order b k = subst (λ (xs : List Symbol). IsPrefix (map without_error (transferred_symbols down to b)) (map without_error xs)) (kept_is b k) (two.in_order b k)

  shown : length (transferred_symbols down to (suc c)) ≡ length (transferred_symbols down to c) + shown_count down to c
  shown = length-append (transferred_symbols down to c) (symbols_in down to c) ∙ ap (λ n. length (transferred_symbols down to c) + n) (length_in down to c moves)

  fits : length (transferred_symbols down to c) + shown_count down to c ≤ length (transferred_symbols middle between (suc c))
  fits = omega (arith, shown, length_in_order _ _ (middle_order (suc c) h))

  -- a place where a downstream beat begins is one where a middle beat begins
  begins : (parts : ℕ) → down.symbols ≡ middle.symbols * parts → (b : ℕ) → b ≤ suc c → StartsAt middle between (suc c) (length (transferred_symbols down to b))
  begins parts e b k =
      let in_middle : IsPrefix (map without_error (transferred_symbols down to b)) (map without_error (transferred_symbols middle between (suc c))) =
      prefix_trans (prefix_map without_error (symbols_grow down to b (suc c) k)) (middle_order (suc c) h) in
      let has : 0 < down.symbols = omega (arith, two.holds_data c h moves, held_at_most down to c) in
      let whole : fill middle.symbols 0 (transferred_symbols down to b) ≡ 0 = fill-at_divisor middle.symbols parts down.symbols has e (transferred_symbols down to b) (fill_before down to count two.holds_data b (omega arith)) in
      let all : take (length (transferred_symbols down to b)) (transferred_symbols down to b) ≡ transferred_symbols down to b = take_all (length (transferred_symbols down to b)) (transferred_symbols down to b) (omega arith) in
      let front : fill middle.symbols 0 (take (length (transferred_symbols down to b)) (transferred_symbols middle between (suc c))) ≡ 0 =
      fill_front middle.symbols (transferred_symbols down to b) (transferred_symbols middle between (suc c)) (length (transferred_symbols down to b)) in_middle (omega arith) ∙ (ap (fill middle.symbols 0) all ∙ whole) in
      starts middle between (suc c) (length (transferred_symbols down to b)) (length_in_order _ _ in_middle) (λ d l. one.holds_data d (omega arith)) front

  over_beats : (parts : ℕ) → down.symbols ≡ middle.symbols * parts
      → joined_error (take (shown_count down to c) (drop (length (transferred_symbols down to c)) (transferred_symbols middle between (suc c)))) ≡ joined_error (take (shown_count down to c) (drop (length (transferred_symbols down to c)) (kept_symbols one_passes up from (suc c))))
  over_beats parts e = by_order (cases_lt last.cycle first.cycle)
    where
      first : StartsAt middle between (suc c) (length (transferred_symbols down to c))
      first = begins parts e c (omega arith)

      last : StartsAt middle between (suc c) (length (transferred_symbols down to (suc c)))
      last = begins parts e (suc c) (omega arith)

      by_order : (last.cycle < first.cycle) ⊎ (first.cycle ≤ last.cycle)
          → joined_error (take (shown_count down to c) (drop (length (transferred_symbols down to c)) (transferred_symbols middle between (suc c)))) ≡ joined_error (take (shown_count down to c) (drop (length (transferred_symbols down to c)) (kept_symbols one_passes up from (suc c))))
      by_order (inl turned) =
          let shorter = prefix_length (symbols_grow middle between last.cycle first.cycle (omega arith)) in
          absurd (omega (arith, shown, first.place_is, last.place_is, shorter, two.holds_data c h moves))
      by_order (inr order) =
          let place : ℕ = length (transferred_symbols down to c) in
          let held : ℕ = shown_count down to c in
          let beats : List Symbol = transferred_symbols middle between last.cycle in
          let run = joined_over_beats one_passes up middle from between (suc c) (streamed_shorter one_passes up middle from between (suc c) count h one) first.cycle last.cycle order last.within in
          let run' : join (errors_of (drop (length (transferred_symbols down to c)) (transferred_symbols middle between last.cycle))) ≡ join (errors_of (take (length (transferred_symbols middle between last.cycle) - length (transferred_symbols down to c)) (drop (length (transferred_symbols down to c)) (kept_symbols one_passes up from (suc c))))) =
          subst (λ n. join (errors_of (drop n (transferred_symbols middle between last.cycle))) ≡ join (errors_of (take (length (transferred_symbols middle between last.cycle) - n) (drop n (kept_symbols one_passes up from (suc c)))))) (sym first.place_is) run in
          let width : length (transferred_symbols middle between last.cycle) - length (transferred_symbols down to c) ≡ shown_count down to c = omega (arith, shown, last.place_is) in
          let cut : take (shown_count down to c) (drop (length (transferred_symbols down to c)) (transferred_symbols middle between (suc c))) ≡ take (shown_count down to c) (drop (length (transferred_symbols down to c)) (transferred_symbols middle between last.cycle)) =
          part_of_prefix (transferred_symbols middle between last.cycle) (transferred_symbols middle between (suc c)) (length (transferred_symbols down to c)) (shown_count down to c) (symbols_grow middle between last.cycle (suc c) last.within) (omega (arith, shown, last.place_is)) in
          let all : take (shown_count down to c) (drop (length (transferred_symbols down to c)) (transferred_symbols middle between last.cycle)) ≡ drop (length (transferred_symbols down to c)) (transferred_symbols middle between last.cycle) =
          take_all (shown_count down to c) _ (omega (arith, length-drop (length (transferred_symbols down to c)) (transferred_symbols middle between last.cycle), width)) in
          ap joined_error (cut ∙ all) ∙ (joined_is (drop (length (transferred_symbols down to c)) (transferred_symbols middle between last.cycle)) ∙ (run' ∙ (ap (λ n. join (errors_of (take n (drop (length (transferred_symbols down to c)) (kept_symbols one_passes up from (suc c)))))) width ∙ sym (joined_is (take (shown_count down to c) (drop (length (transferred_symbols down to c)) (kept_symbols one_passes up from (suc c))))))))

  pub chain-errors : 0 < down.error_bits → (parts : ℕ) → (up.symbols ≡ middle.symbols * parts) ⊎ (down.symbols ≡ middle.symbols * parts)
      → to.error c ≡ joined_error (matched_symbols one_passes up down from to c)
  chain-errors has parts divides =
      two.errors has c h moves ∙ (ap (λ (xs : List Symbol). joined_error (take (shown_count down to c) (drop (length (transferred_symbols down to c)) xs))) (kept_is (suc c) h) ∙ by_side divides)
    where
      by_side : (up.symbols ≡ middle.symbols * parts) ⊎ (down.symbols ≡ middle.symbols * parts)
          → joined_error (take (shown_count down to c) (drop (length (transferred_symbols down to c)) (transferred_symbols middle between (suc c)))) ≡ joined_error (take (shown_count down to c) (drop (length (transferred_symbols down to c)) (kept_symbols one_passes up from (suc c))))
      by_side (inl above) = joined_where_they_follow (transferred_symbols middle between (suc c)) (kept_symbols one_passes up from (suc c)) (length (transferred_symbols down to c)) (shown_count down to c)
          (errors_follow one_passes up middle from between count parts one some above positive (suc c) h) fits
      by_side (inr below) = over_beats parts below

module _ (first second : Shape) (one two : StageRun) (fits : Fits first second one two) (keeps_one : KeepsStageLaw (first_of first second) (one_of one two)) where
  -- the middle beats are legal, and the middle is ready where the first part needs it
  middle_legal : (c : ℕ) → IsLegalSource first.up one.up (suc c) → (IsTrue first.needs_ready → IsReadyBefore two.up c) → IsLegalSource second.up two.up (suc c)
  middle_legal c legal ready b h = keeps_one.legal b (λ d k. legal d (omega arith)) (λ need d k. ready need d (omega arith))

  middle_ready : (count : ℕ) → IsLegalSource first.up one.up count → (IsTrue first.needs_ready → IsReadyBefore two.down count) → IsTrue first.needs_ready → IsReadyBefore two.up count
  middle_ready zero legal ready need c h = absurd (omega arith)
  middle_ready (suc count) legal ready need c h = by_place (cases_lt c count) (middle_ready count (λ d k. legal d (omega arith)) (λ n d k. ready n d (omega arith)) need)
    where
      by_place : (c < count) ⊎ (count ≤ c) → IsReadyBefore two.up count → IsTrue (is_high two.up.ready c)
      by_place (inl before) earlier = earlier c before
      by_place (inr here) earlier =
          fits.always_ready need c (middle_legal c (λ d k. legal d (omega arith)) (λ _ d k. earlier d (omega arith))) (λ d k. ready need d (omega arith))

  chain_law : KeepsStageLaw second two → (count : ℕ) → IsLegalSource first.up one.up count → (IsTrue (first.needs_ready || second.needs_ready) → IsReadyBefore two.down count) → StageLaw (chain_shape first second) (chain_run first second one two) count
  chain_law keeps_two count legal ready =
      record {
        prefix = record {
          in_order = chain-in_order first second one two fits.passed_on count law_one law_two;
          holds_data = law_two.prefix.holds_data;
          errors = λ has c h moves. chain-errors first.passes second.passes first.up second.up second.down one.up two.up two.down count fits.passed_on
              (legal_holds_data first.up one.up count fits.has_symbols legal) fits.has_symbols (middle_errors has) law_two.prefix c h moves has fits.divides.0 fits.divides.1;
        };
        hold = chain-held first second one two fits.passed_on count law_one law_two;
        rank = chain-ranked first second one two fits.passed_on count law_one law_two fits.delayed;
      }
    where
      ready_middle : IsTrue first.needs_ready → IsReadyBefore two.up count
      ready_middle = middle_ready count legal (λ need. ready (or_left _ _ need))

      law_one : StageLaw (first_of first second) (one_of one two) count
      law_one = keeps_one.law count legal ready_middle

      legal_middle : IsLegalSource second.up two.up count
      legal_middle c h = middle_legal c (λ d k. legal d (omega arith)) (λ need d k. ready_middle need d (omega arith)) c (omega arith)

      law_two : StageLaw second two count
      law_two = keeps_two.law count legal_middle (λ need. ready (or_right _ _ need))

      -- in the middle too each beat has the errors of what it holds: by the first part, or because there are none
      middle_errors : 0 < second.down.error_bits → GivesErrors first.passes first.up second.up one.up two.up count
      middle_errors has = record { in_order = law_one.prefix.in_order; holds_data = law_one.prefix.holds_data; errors = by_width (cases_lt 0 second.up.error_bits) }
        where
          by_width : (0 < second.up.error_bits) ⊎ (second.up.error_bits ≤ 0) → (c : ℕ) → c < count → IsTrue (is_transfer second.up.pace two.up c)
              → two.up.error c ≡ joined_error (matched_symbols first.passes first.up second.up one.up two.up c)
          by_width (inl some) = law_one.prefix.errors some
          by_width (inr none) = λ c h moves.
              let shown = (and_parts (is_high two.up.valid c) (nat_lt 0 second.up.pace.latency || is_high two.up.ready c) moves).0 in
              ((legal_middle c h).formed shown).quiet (omega arith) ∙ sym (no_errors (none_above (cases_lt 0 first.up.error_bits)) c h)
            where
              none_above : (0 < first.up.error_bits) ⊎ (first.up.error_bits ≤ 0) → first.up.error_bits ≡ 0
              none_above (inl some) = absurd (omega (arith, fits.has_errors has some))
              none_above (inr zero_bits) = omega arith

              no_errors : first.up.error_bits ≡ 0 → (c : ℕ) → c < count → joined_error (matched_symbols first.passes first.up second.up one.up two.up c) ≡ 0
              no_errors zero_bits c h =
                  quiet_joined _ (quiet-take (shown_count second.up two.up c) _ (quiet-drop (length (transferred_symbols second.up two.up c)) _
                  (quiet-filter (λ (symbol : Symbol). first.passes symbol.channel) (transferred_symbols first.up one.up (suc c)) (quiet_transferred first.up one.up zero_bits (suc c) (λ b k. legal b (omega arith))))))

  chain_legal : KeepsStageLaw second two → (c : ℕ) → IsLegalSource first.up one.up (suc c) → (IsTrue (first.needs_ready || second.needs_ready) → IsReadyBefore two.down c) → IsLegalAt second.down two.down c
  chain_legal keeps_two c legal ready =
      keeps_two.legal c (middle_legal c legal (middle_ready c (λ d k. legal d (omega arith)) (λ need. ready (or_left _ _ need)))) (λ need. ready (or_right _ _ need))

  -- the middle is ready as long as the sink is
  middle_always_ready : PassesReady second two → (count : ℕ) → IsLegalSource first.up one.up count → IsReadyBefore two.down count → IsReadyBefore two.up count
  middle_always_ready passes zero legal ready c h = absurd (omega arith)
  middle_always_ready passes (suc count) legal ready c h = by_place (cases_lt c count) (middle_always_ready passes count (λ d k. legal d (omega arith)) (λ d k. ready d (omega arith)))
    where
      by_place : (c < count) ⊎ (count ≤ c) → IsReadyBefore two.up count → IsTrue (is_high two.up.ready c)
      by_place (inl before) earlier = earlier c before
      by_place (inr here) earlier = passes c (middle_legal c (λ d k. legal d (omega arith)) (λ _ d k. earlier d (omega arith))) (λ d k. ready d (omega arith))

-- a chain of two parts that fit keeps the law of a stage, if both keep it
pub chain_keeps : (first second : Shape) (one two : StageRun) → Fits first second one two → KeepsStageLaw first one → KeepsStageLaw second two → KeepsStageLaw (chain_shape first second) (chain_run first second one two)
chain_keeps first second one two fits keeps_one keeps_two =
    let first_is : first ≡ first_of first second = ap (λ (side : Side). record first { down = side }) fits.same_side in
    let one_is : one ≡ one_of one two = ap (λ (view : EndView). record one { down = view }) fits.same_view in
    let keeps_one' = subst (λ (run : StageRun). KeepsStageLaw (first_of first second) run) one_is (subst (λ (shape : Shape). KeepsStageLaw shape one) first_is keeps_one) in
    record { law = chain_law first second one two fits keeps_one' keeps_two; legal = chain_legal first second one two fits keeps_one' keeps_two }

-- a chain of parts that pass ready passes ready
pub chain_passes_ready : (first second : Shape) (one two : StageRun) → Fits first second one two → KeepsStageLaw first one → PassesReady first one → PassesReady second two → PassesReady (chain_shape first second) (chain_run first second one two)
chain_passes_ready first second one two fits keeps_one passes_one passes_two c legal ready =
    let first_is : first ≡ first_of first second = ap (λ (side : Side). record first { down = side }) fits.same_side in
    let one_is : one ≡ one_of one two = ap (λ (view : EndView). record one { down = view }) fits.same_view in
    let keeps_one' = subst (λ (run : StageRun). KeepsStageLaw (first_of first second) run) one_is (subst (λ (shape : Shape). KeepsStageLaw shape one) first_is keeps_one) in
    let passes_one' = subst (λ (run : StageRun). PassesReady (first_of first second) run) one_is (subst (λ (shape : Shape). PassesReady shape one) first_is passes_one) in
    passes_one' c legal (middle_always_ready first second one two fits keeps_one' passes_two (suc c) legal ready)

-- a chain that holds nothing has no step, if its parts have none
pub chain_step : (first second : Shape) → (first.hold ≡ 0 → first.step ≡ 0) → (second.hold ≡ 0 → second.step ≡ 0) → (chain_shape first second).hold ≡ 0 → (chain_shape first second).step ≡ 0
chain_step first second one two none =
    by_latency (nat_lt 0 second.up.pace.latency)
  where
    held : nat_le second.hold 0 ≡ true
    held = le-leb second.hold 0 (omega arith)

    by_latency : (b : Bool) → cond b second.step (cond (nat_le second.hold 0) (first.step + second.step) (first.step + second.step + 1)) ≡ 0
    by_latency true = two (omega arith)
    by_latency false = cond-true (nat_le second.hold 0) _ _ held ∙ omega (arith, one (omega arith), two (omega arith))
