-- A stage that passes each beat as it is keeps the law of a stage.
use Rattle.std.proofs.Common.{◌≡◌, ◌⊎◌, ℕ, zero, suc, ◌+◌, ◌≤◌, ◌<◌, Bool, true, false, cond, IsTrue, ◌||◌, ◌&&◌, List, [], ◌++◌, map, length, take, drop, refl, ap, sym, ◌∙◌, subst, inl, inr, arith, nat_lt}
use Rattle.std.proofs.lemmas.List.{take_all, drop_at, drop_all}
use Rattle.std.proofs.lemmas.Bool.{cases_Bool, and_parts, and_from, cond-true, ltb-false, both_ways}
use Rattle.stream_runs.specs.View.{EndView, Side, beat_at, is_high, is_transfer, is_ready_cycle}
use Rattle.stream_runs.specs.Symbols.{transferred_symbols, shown_symbols, kept_symbols, Symbol, without_error, shown_count, joined_error}
use Rattle.stream_runs.specs.Source.{IsLegalSource}
use Rattle.stream_runs.specs.Delivery.{matched_symbols}
use Rattle.stream_machines.specs.Stage.{inside, is_at_rest, is_exempt, RankMoves, StageLaw, KeepsStageLaw, PassesReady, pass_shape, pass_run, ready_cycles}
use Rattle.stream_runs.specs.Laws.{prefix_of_same, kept_more, legal_holds_data, length_in, joined_error_of_beat}
use Rattle.stream_machines.specs.ReadyCycles.{one_if, ready_cycles_step, ready_cycles_le}
use Rattle.stream_machines.proofs.Fills.{HoldsData}
use Rattle.stream_machines.proofs.Direct.{rests_with, idle_with, none_waits}

module _ (passes : ℕ → Bool) (side : Side) (view : EndView) (positive : 0 < side.symbols)
    (all_pass : (channel : ℕ) → channel ≤ side.max_channel → IsTrue (passes channel)) (count : ℕ) (legal : IsLegalSource side view count) where
  pub all_kept : (c : ℕ) → c ≤ count → kept_symbols passes side view c ≡ transferred_symbols side view c
  all_kept zero h = refl
  all_kept (suc c) h = kept_more passes side view c ∙ (ap (λ (xs : List Symbol). xs ++ cond (is_transfer side.pace view c && passes (view.channel c)) (shown_symbols side view c) []) (all_kept c (omega arith)) ∙ ap (λ (xs : List Symbol). transferred_symbols side view c ++ xs) (by_transfer (is_transfer side.pace view c) refl))
    where
      by_transfer : (b : Bool) → is_transfer side.pace view c ≡ b → cond (b && passes (view.channel c)) (shown_symbols side view c) [] ≡ cond b (shown_symbols side view c) []
      by_transfer false stays = refl
      by_transfer true moves =
          let shown = (and_parts (is_high view.valid c) (nat_lt 0 side.pace.latency || is_high view.ready c) moves).0 in
          cond-true (passes (view.channel c)) (shown_symbols side view c) [] (all_pass (view.channel c) ((legal c h).formed shown).in_range)

  some : HoldsData side view count
  some = legal_holds_data side view count positive legal

  pass_errors : (c : ℕ) → c < count → IsTrue (is_transfer side.pace view c) → view.error c ≡ joined_error (matched_symbols passes side side view view c)
  pass_errors c h moves =
      let later : kept_symbols passes side view (suc c) ≡ transferred_symbols side view c ++ shown_symbols side view c =
      all_kept (suc c) h ∙ ap (λ (xs : List Symbol). transferred_symbols side view c ++ xs) (cond-true (is_transfer side.pace view c) (shown_symbols side view c) [] moves) in
      let part : matched_symbols passes side side view view c ≡ shown_symbols side view c =
      ap (λ (xs : List Symbol). take (shown_count side view c) (drop (length (transferred_symbols side view c)) xs)) later
      ∙ (ap (take (shown_count side view c)) (drop_at (transferred_symbols side view c) (shown_symbols side view c) (length (transferred_symbols side view c)) refl)
      ∙ take_all (shown_count side view c) (shown_symbols side view c) (omega (arith, sym (ap length (cond-true (is_transfer side.pace view c) (shown_symbols side view c) [] moves)) ∙ length_in side view c moves))) in
      sym (ap joined_error part ∙ joined_error_of_beat side (beat_at view c) (some c h moves))

  nothing_inside : (c : ℕ) → c ≤ count → inside (pass_shape passes side) (pass_run side view) c ≡ []
  nothing_inside c h = ap (drop (length (transferred_symbols side view c))) (all_kept c h) ∙ drop_all (length (transferred_symbols side view c)) (transferred_symbols side view c) (omega arith)

  rest_is : (c : ℕ) → c ≤ count → is_high view.ready c ≡ true → is_at_rest (pass_shape passes side) (pass_run side view) c ≡ true
  rest_is c h ready = rests_with (pass_shape passes side) (pass_run side view) c [] (nothing_inside c h) ready (omega arith) refl

  not_ready : (c : ℕ) → c ≤ count → is_at_rest (pass_shape passes side) (pass_run side view) c ≡ false → is_high view.ready c ≡ false
  not_ready c h restless = by_ready (cases_Bool (is_high view.ready c))
    where
      by_ready : (is_high view.ready c ≡ true) ⊎ (is_high view.ready c ≡ false) → is_high view.ready c ≡ false
      by_ready (inl ready) = absurd (both_ways _ restless (rest_is c h ready))
      by_ready (inr unready) = unready

  step_of : (c : ℕ) → ready_cycles side.pace.latency view (suc c) + one_if (is_ready_cycle side.pace view c) ≡ ready_cycles side.pace.latency view c + one_if (is_high view.ready c)
  step_of c = ready_cycles_step side.pace.latency view c

  pass_ranked : (c : ℕ) → c < count → RankMoves (pass_shape passes side) (pass_run side view) c
  pass_ranked c h =
      record {
        bounded = ready_cycles_le side.pace.latency view c;
        stays = λ quiet moving. stays (cases_Bool (is_high view.ready c)) (cases_Bool (nat_lt 0 side.pace.latency)) moving;
        falls = λ quiet ready restless. falls ready (not_ready c (omega arith) restless);
        rises = λ given moving. omega (arith, stays (cases_Bool (is_high view.ready c)) (cases_Bool (nat_lt 0 side.pace.latency)) moving);
        advances = λ direct low busy. absurd (both_ways _ busy (idle_with (pass_shape passes side) (pass_run side view) c [] (nothing_inside c (omega arith)) (none_waits side.pace view c low) (omega arith) refl));
      }
    where
      no_rise : is_high view.ready c ≡ false → ready_cycles side.pace.latency view (suc c) ≤ ready_cycles side.pace.latency view c
      no_rise unready = let step : ready_cycles side.pace.latency view (suc c) + one_if (is_ready_cycle side.pace view c) ≡ ready_cycles side.pace.latency view c + 0 = subst (λ b. ready_cycles side.pace.latency view (suc c) + one_if (is_ready_cycle side.pace view c) ≡ ready_cycles side.pace.latency view c + one_if b) unready (step_of c) in omega (arith, step)

      at_zero : nat_lt 0 side.pace.latency ≡ false → ready_cycles side.pace.latency view (suc c) ≤ ready_cycles side.pace.latency view c
      at_zero direct = let none = ltb-false 0 side.pace.latency direct in omega (arith, ready_cycles_le side.pace.latency view (suc c))

      stays : (is_high view.ready c ≡ true) ⊎ (is_high view.ready c ≡ false) → (nat_lt 0 side.pace.latency ≡ true) ⊎ (nat_lt 0 side.pace.latency ≡ false)
          → (is_exempt (pass_shape passes side) (pass_run side view) c) ≡ false → ready_cycles side.pace.latency view (suc c) ≤ ready_cycles side.pace.latency view c
      stays (inr unready) d moving = no_rise unready
      stays (inl ready) (inr direct) moving = at_zero direct
      stays (inl ready) (inl delayed) moving = absurd (both_ways _ moving (and_from _ _ (rest_is c (omega arith) ready) (and_from _ _ delayed delayed)))

      falls : is_ready_cycle side.pace view c ≡ true → is_high view.ready c ≡ false → ready_cycles side.pace.latency view (suc c) < ready_cycles side.pace.latency view c
      falls ready unready =
          let step : ready_cycles side.pace.latency view (suc c) + 1 ≡ ready_cycles side.pace.latency view c + 0 =
          subst (λ b. ready_cycles side.pace.latency view (suc c) + one_if b ≡ ready_cycles side.pace.latency view c + 0) ready
          (subst (λ b. ready_cycles side.pace.latency view (suc c) + one_if (is_ready_cycle side.pace view c) ≡ ready_cycles side.pace.latency view c + one_if b) unready (step_of c)) in
          omega (arith, step)

  pass_law : StageLaw (pass_shape passes side) (pass_run side view) count
  pass_law =
      record {
        prefix = record {
          in_order = λ c h. prefix_of_same _ _ (ap (map without_error) (sym (all_kept c h)));
          holds_data = some;
          errors = λ _. pass_errors;
        };
        hold = λ c h. omega (arith, ap length (all_kept c h));
        rank = pass_ranked;
      }

-- a stage that passes each beat as it is, between ends of any pace
pub pass_keeps : (passes : ℕ → Bool) (side : Side) (view : EndView) → 0 < side.symbols
    → ((channel : ℕ) → channel ≤ side.max_channel → IsTrue (passes channel)) → KeepsStageLaw (pass_shape passes side) (pass_run side view)
pass_keeps passes side view positive all_pass =
    record { law = λ count legal _. pass_law passes side view positive all_pass count legal; legal = λ c legal _. legal c (omega arith) }

pub pass_passes_ready : (passes : ℕ → Bool) (side : Side) (view : EndView) → PassesReady (pass_shape passes side) (pass_run side view)
pass_passes_ready passes side view c legal ready = ready c (omega arith)
