-- The nets of a window are the machine that has one.
use Rattle.std.proofs.Common.{◌≡◌, ℕ, zero, suc, ◌+◌, ◌-◌, ◌^◌, ◌<◌, ◌≤◌, Bool, true, false, not, ◌&&◌, ◌||◌, ◌==◌, nat_lt, if◌then◌else◌, IsTrue, IsFalse, refl, sym, subst, ap, ◌∙◌, arith, ◌⊎◌, inl, inr}
use Rattle.std.proofs.lemmas.Bool.{and_parts, or_parts, leb-false, both_ways}
use Rattle.netlist.specs.Nets.{NetValue}
use Rattle.netlist.specs.Netlists.{Netlist}
use Rattle.netlist.specs.Runs.{Cycle, Run, cycle_of, IsEndlessRun, IsValuation}
use Rattle.stream_runs.specs.View.{EndView, Side, Beat, beat_at, is_high, is_transfer}
use Rattle.stream_runs.specs.Source.{IsLegalSource, ShowsSame}
use Rattle.stream_machines.specs.Stage.{Shape, KeepsStageLaw, PassesAll}
use Rattle.stream_machines.specs.Parts.{plain_run, of_symbols}
use Rattle.stream_machines.specs.Windows.{Row, AreSameRow, IsFront, IsWindowRun, is_whole, with_beat, behind_beat, next_row, error_left, row_after, window_shape}
use Rattle.stage_core.specs.declared.beat.BeatNets.{BeatNets}
use Rattle.stage_core.specs.Beats.{view_of, ShowSame}
use Rattle.stage_core.specs.Groups.{Shown, shown_in, IsOfBeat}
use Rattle.stage_core.specs.Law.{KeepsShape}
use Rattle.stage_core.specs.BeatLaws.{same_state, show_same, all_same}
use Rattle.st_windows.specs.declared.sizes.WindowSizes.{WindowSizes}
use Rattle.st_windows.specs.declared.window.WindowKept.{WindowKept}
use Rattle.st_windows.specs.Cuts.{cut_of, rest_at, chosen_at}
use Rattle.st_windows.specs.Rows.{joined_count, is_alone, row_joined, row_alone, row_next, shown_front, shown_left, row_behind, row_left, row_gathered}
use Rattle.st_windows.specs.WindowNets.{IsWindowShape, WindowForward, WindowBackward}
use Rattle.st_windows.proofs.WindowRows.{into, row_in, HoldsData, alone_is, few_held, whole_is, IsRowOf, alone_row, joined_row, front_is, left_is, alone_left, joined_left, few_same, gathered_is, left_few}

one_if : (t : Bool) → ((if t then 1 else 0) == 1) ≡ t
one_if true = refl
one_if false = refl

and_second : (x y : Bool) → x ≡ true → (x && y) ≡ false → y ≡ false
and_second true y p q = q
and_second false y p q = absurd (cc)

same_row : (one two other : Row) → one ≡ two → AreSameRow two other → AreSameRow one other
same_row one two other e h = subst (λ (r : Row). AreSameRow r other) (sym e) h

row_same : (row : Row) → AreSameRow row row
row_same row = record { count = refl; values = λ k h. refl; channel = refl; error = refl; first = refl; last = refl }

-- ---- over what the registers hold and what comes

module _ (sizes : WindowSizes) (side : Side) (symbols_are : side.symbols ≡ sizes.from) (bits_are : side.symbol_bits ≡ sizes.bits) (high : side.first_high ≡ true) where
  abbrev pub held_row : Shown → Row
  held_row x = row_in sizes side symbols_are bits_are high x

  abbrev whole_row : Row → Bool
  whole_row row = is_whole sizes.into row

  -- what goes out next, as the machine has it
  abbrev pub row_of : Shown → Shown → Row
  row_of held x = if whole_row (held_row held) then held_row held else with_beat side (held_row held) x.beat

  pub shown_valid : (held x : Shown) → ((x.valid == 1) ≡ true → HoldsData sizes side symbols_are bits_are high x.beat) →
      ((shown_front sizes (row_next sizes held x)).valid == 1) ≡ (whole_row (held_row held) || ((x.valid == 1) && whole_row (with_beat side (held_row held) x.beat)))
  shown_valid held x holds =
      by_alone (is_alone sizes held) refl ∙ ap (λ t. t || ((x.valid == 1) && whole_row (with_beat side (held_row held) x.beat))) (sym (alone_is sizes side symbols_are bits_are high held))
    where
      by_valid : is_alone sizes held ≡ false → (v : Bool) → (x.valid == 1) ≡ v →
          (v && (nat_lt (sizes.into - 1) (joined_count sizes held.beat.empty x) || (x.beat.last == 1))) ≡ (v && whole_row (with_beat side (held_row held) x.beat))
      by_valid e false f = refl
      by_valid e true f = whole_is sizes side symbols_are bits_are high held x (few_held sizes side symbols_are bits_are high held e) (holds f)

      by_alone : (t : Bool) → is_alone sizes held ≡ t → ((shown_front sizes (if t then row_alone sizes held else row_joined sizes held x)).valid == 1) ≡ (t || ((x.valid == 1) && whole_row (with_beat side (held_row held) x.beat)))
      by_alone true e = refl
      by_alone false e = one_if ((x.valid == 1) && (nat_lt (sizes.into - 1) (joined_count sizes held.beat.empty x) || (x.beat.last == 1))) ∙ by_valid e (x.valid == 1) refl

  -- the nets of the next row have it
  pub next_is : (held x : Shown) → held.beat.empty ≤ sizes.held → held.beat.empty < 2 ^ sizes.count → (is_alone sizes held ≡ false → HoldsData sizes side symbols_are bits_are high x.beat) →
      IsRowOf sizes side symbols_are bits_are high (row_of held x) (row_next sizes held x)
  next_is held x few small holds =
      subst (λ t. IsRowOf sizes side symbols_are bits_are high (if t then held_row held else with_beat side (held_row held) x.beat) (row_next sizes held x)) (sym (alone_is sizes side symbols_are bits_are high held)) (by_alone (is_alone sizes held) refl)
    where
      by_alone : (t : Bool) → is_alone sizes held ≡ t → IsRowOf sizes side symbols_are bits_are high (if t then held_row held else with_beat side (held_row held) x.beat) (if t then row_alone sizes held else row_joined sizes held x)
      by_alone true e = alone_row sizes side symbols_are bits_are high held few small
      by_alone false e = joined_row sizes side symbols_are bits_are high held x (few_held sizes side symbols_are bits_are high held e) (holds e)

  -- what is left of it once a beat has gone
  left_behind : (held x : Shown) → held.beat.empty ≤ sizes.held → held.beat.empty < 2 ^ sizes.count → (is_alone sizes held ≡ false → HoldsData sizes side symbols_are bits_are high x.beat) →
      AreSameRow (held_row (row_behind sizes held x)) (behind_beat sizes.into (if whole_row (held_row held) then held.beat.error else x.beat.error) (row_of held x))
  left_behind held x few small holds =
      subst (λ t. AreSameRow (held_row (row_behind sizes held x)) (behind_beat sizes.into (if t then held.beat.error else x.beat.error) (if t then held_row held else with_beat side (held_row held) x.beat))) (sym (alone_is sizes side symbols_are bits_are high held)) (by_alone (is_alone sizes held) refl)
    where
      by_alone : (t : Bool) → is_alone sizes held ≡ t →
          AreSameRow (held_row (shown_left sizes (if t then row_alone sizes held else row_joined sizes held x)
          (if t then cut_of sizes.bits sizes.held sizes.into sizes.held held.beat.word else chosen_at held.beat.empty (rest_at sizes.bits sizes.from sizes.into sizes.held x.beat.word) (sizes.into - 1))
          (if t then held.beat.error else x.beat.error)))
          (behind_beat sizes.into (if t then held.beat.error else x.beat.error) (if t then held_row held else with_beat side (held_row held) x.beat))
      by_alone true e =
          left_is sizes side symbols_are bits_are high (held_row held) (row_alone sizes held) _ held.beat.error (alone_row sizes side symbols_are bits_are high held few small)
          (λ k within. alone_left sizes side symbols_are bits_are high held k few within)
      by_alone false e =
          let below = few_held sizes side symbols_are bits_are high held e in
          left_is sizes side symbols_are bits_are high (with_beat side (held_row held) x.beat) (row_joined sizes held x) _ x.beat.error (joined_row sizes side symbols_are bits_are high held x below (holds e))
          (λ k within. joined_left sizes side symbols_are bits_are high held x k below (holds e) within)

  pub left_within : (held x : Shown) → held.beat.empty ≤ sizes.held → (is_alone sizes held ≡ false → HoldsData sizes side symbols_are bits_are high x.beat) → (row_of held x).count - sizes.into ≤ sizes.held
  left_within held x few holds = subst (λ t. (if t then held_row held else with_beat side (held_row held) x.beat).count - sizes.into ≤ sizes.held) (sym (alone_is sizes side symbols_are bits_are high held)) (by_alone (is_alone sizes held) refl)
    where
      by_alone : (t : Bool) → is_alone sizes held ≡ t → (if t then held_row held else with_beat side (held_row held) x.beat).count - sizes.into ≤ sizes.held
      by_alone true e = omega (arith, few)
      by_alone false e = left_few sizes side symbols_are bits_are high held x (few_held sizes side symbols_are bits_are high held e) (holds e)

  -- and the registers hold it
  pub left_row : (held x : Shown) → held.beat.empty ≤ sizes.held → held.beat.empty < 2 ^ sizes.count → (is_alone sizes held ≡ false → HoldsData sizes side symbols_are bits_are high x.beat) →
      AreSameRow (held_row (row_left sizes held x)) (behind_beat sizes.into (if whole_row (held_row held) then held.beat.error else x.beat.error) (row_of held x))
  left_row held x few small holds =
      let left = left_behind held x few small holds in
      let count = left.count in
      let within = left_within held x few holds in
      subst (λ (y : Shown). AreSameRow (held_row y) (behind_beat sizes.into (if whole_row (held_row held) then held.beat.error else x.beat.error) (row_of held x)))
      (sym (few_same sizes side symbols_are bits_are high (row_behind sizes held x) (omega (arith, count, within)))) left

  -- where it makes no beat, it is few
  pub few_gathered : (row : Row) → whole_row row ≡ false → row.count < sizes.into
  few_gathered row e = leb-false sizes.into row.count (or_parts _ _ e).0

-- ---- in a run

module _ (sizes : WindowSizes) (from to : BeatNets) (kept : WindowKept) (ready up : NetValue) (netlist : Netlist) (run : Run) (f : WindowForward sizes from to kept netlist) (b : WindowBackward kept ready up netlist) (endless : IsEndlessRun netlist run)
    (side : Side) (symbols_are : side.symbols ≡ sizes.from) (bits_are : side.symbol_bits ≡ sizes.bits) (high : side.first_high ≡ true) (direct : side.pace.latency ≡ 0) where
  valued : (c : ℕ) → IsValuation netlist (cycle_of run c)
  valued c = (endless (c + 1)).valuations c (omega arith)

  abbrev upward : EndView
  upward = view_of run from up

  abbrev downward : EndView
  downward = view_of run to ready

  abbrev pub coming : ℕ → Shown
  coming c = shown_in (cycle_of run c) from

  abbrev pub holding : ℕ → Shown
  holding c = shown_in (cycle_of run c) kept.held

  abbrev row : Shown → Row
  row x = held_row sizes side symbols_are bits_are high x

  abbrev pub held : ℕ → Row
  held c = row (holding c)

  pub next_cycle : (c : ℕ) → c + 1 ≡ suc c
  next_cycle c = omega arith

  -- a legal beat has a symbol with data
  pub data_holds : (c : ℕ) → IsLegalSource side upward (suc c) → is_high upward.valid c ≡ true → HoldsData sizes side symbols_are bits_are high (beat_at upward c)
  data_holds c legal shown ends = let below = ((legal c (omega arith)).formed shown).holds_data ends in omega (arith, below, symbols_are)

  pub small : (c : ℕ) → (holding c).beat.empty < 2 ^ sizes.count
  small c = f.count_fits (cycle_of run c) (valued c)

  alone : (c : ℕ) → (run.net c kept.alone.number == 1) ≡ is_whole sizes.into (held c)
  alone c = f.alone_is (cycle_of run c) (valued c) ∙ sym (alone_is sizes side symbols_are bits_are high (holding c))

  full : (c : ℕ) → (run.net c kept.full.number == 1) ≡ is_high downward.valid c
  full c = ap (λ (n : NetValue). run.net c n.number == 1) f.full_is

  asks : (c : ℕ) → is_high upward.ready c ≡ (not (is_whole sizes.into (held c)) && (not (is_high downward.valid c) || is_high downward.ready c))
  asks c = b.asks (cycle_of run c) (valued c) ∙ ap (λ t. not t && (not (run.net c kept.full.number == 1) || (run.net c ready.number == 1))) (alone c) ∙ ap (λ t. not (is_whole sizes.into (held c)) && (not t || (run.net c ready.number == 1))) (full c)

  pub shown : (c : ℕ) → shown_in (cycle_of run c) to ≡ shown_front sizes (row_next sizes (holding c) (coming c))
  shown c = f.shows (cycle_of run c) (valued c)

  valid : (c : ℕ) → IsLegalSource side upward (suc c) → is_high downward.valid c ≡ (is_whole sizes.into (held c) || (is_high upward.valid c && is_whole sizes.into (with_beat side (held c) (beat_at upward c))))
  valid c legal = ap (λ (x : Shown). x.valid == 1) (shown c) ∙ shown_valid sizes side symbols_are bits_are high (holding c) (coming c) (data_holds c legal)

  -- where a beat is shown and what is held makes none, one comes
  pub comes_where : (c : ℕ) → IsLegalSource side upward (suc c) → is_high downward.valid c ≡ true → is_alone sizes (holding c) ≡ false → is_high upward.valid c ≡ true
  comes_where c legal shows e = (and_parts (is_high upward.valid c) _ (second _ _ (alone_is sizes side symbols_are bits_are high (holding c) ∙ e) (sym (valid c legal) ∙ shows))).0
    where
      second : (x y : Bool) → x ≡ false → (x || y) ≡ true → y ≡ true
      second true y p q = absurd (cc)
      second false y p q = q

  goes_is : (c : ℕ) → ((run.net c kept.full.number == 1) && (run.net c ready.number == 1)) ≡ is_transfer side.pace downward c
  goes_is c = rw direct (ap (λ t. t && (run.net c ready.number == 1)) (full c))

  comes_is : (c : ℕ) → ((run.net c kept.coming.number == 1) && (run.net c up.number == 1)) ≡ is_transfer side.pace upward c
  comes_is c = rw direct (ap (λ (n : NetValue). (run.net c n.number == 1) && (run.net c up.number == 1)) f.coming_is)

  pub transfer_parts : (view : EndView) (c : ℕ) → is_transfer side.pace view c ≡ (is_high view.valid c && is_high view.ready c)
  transfer_parts view c = rw direct refl

  -- one is taken only where none goes by what is held alone
  not_alone : (c : ℕ) → is_transfer side.pace upward c ≡ true → is_alone sizes (holding c) ≡ false
  not_alone c comes = sym (alone_is sizes side symbols_are bits_are high (holding c)) ∙ turned _ (and_parts _ _ (sym (asks c) ∙ (and_parts _ _ (sym (transfer_parts upward c) ∙ comes)).1)).0
    where
      turned : (t : Bool) → not t ≡ true → t ≡ false
      turned true e = absurd (cc)
      turned false e = refl

  pub moved : (c : ℕ) → holding (c + 1) ≡ (if is_transfer side.pace downward c then row_left sizes (holding c) (coming c) else (if is_transfer side.pace upward c then row_gathered sizes (row_joined sizes (holding c) (coming c)) else holding c))
  moved c =
      b.moves run (c + 2) (endless (c + 2)) c (omega arith)
      ∙ ap (λ t. if t then shown_in (cycle_of run c) kept.rest else (if (run.net c kept.coming.number == 1) && (run.net c up.number == 1) then shown_in (cycle_of run c) kept.gathered else holding c)) (goes_is c)
      ∙ ap (λ t. if is_transfer side.pace downward c then shown_in (cycle_of run c) kept.rest else (if t then shown_in (cycle_of run c) kept.gathered else holding c)) (comes_is c)
      ∙ ap (λ (x : Shown). if is_transfer side.pace downward c then x else (if is_transfer side.pace upward c then shown_in (cycle_of run c) kept.gathered else holding c)) (f.leaves (cycle_of run c) (valued c))
      ∙ ap (λ (x : Shown). if is_transfer side.pace downward c then row_left sizes (holding c) (coming c) else (if is_transfer side.pace upward c then x else holding c)) (f.gathers (cycle_of run c) (valued c))
      ∙ ap (λ (x : Shown). if is_transfer side.pace downward c then row_left sizes (holding c) (coming c) else x) (gathered_joined (is_transfer side.pace upward c) refl)
    where
      gathered_joined : (t : Bool) → is_transfer side.pace upward c ≡ t → (if t then row_gathered sizes (row_next sizes (holding c) (coming c)) else holding c) ≡ (if t then row_gathered sizes (row_joined sizes (holding c) (coming c)) else holding c)
      gathered_joined true comes = ap (λ t. row_gathered sizes (if t then row_alone sizes (holding c) else row_joined sizes (holding c) (coming c))) (not_alone c comes)
      gathered_joined false stands = refl

  -- a beat that comes while none goes makes none
  pub record Gathers (c : ℕ) : Type 0 where
    pub below : (holding c).beat.empty < sizes.into
    pub holds : HoldsData sizes side symbols_are bits_are high (beat_at upward c)
    pub few : (with_beat side (held c) (beat_at upward c)).count < sizes.into

  pub gathers : (c : ℕ) → IsLegalSource side upward (suc c) → is_transfer side.pace downward c ≡ false → is_transfer side.pace upward c ≡ true → Gathers c
  gathers c legal stands comes = by_tests (is_high upward.valid c) refl (is_whole sizes.into (held c)) refl (is_high downward.valid c) refl (is_high downward.ready c) refl (sym (transfer_parts upward c) ∙ comes)
    where
      of_parts : is_high upward.valid c ≡ true → is_whole sizes.into (held c) ≡ false → is_high downward.valid c ≡ false → Gathers c
      of_parts v w d =
          let none = sym (valid c legal) ∙ d in
          let fewer : (is_whole sizes.into (with_beat side (held c) (beat_at upward c))) ≡ false = and_second (is_high upward.valid c) (is_whole sizes.into (with_beat side (held c) (beat_at upward c))) v (or_parts (is_whole sizes.into (held c)) (is_high upward.valid c && is_whole sizes.into (with_beat side (held c) (beat_at upward c))) none).1 in
          record {
            below = few_held sizes side symbols_are bits_are high (holding c) (sym (alone_is sizes side symbols_are bits_are high (holding c)) ∙ w);
            holds = data_holds c legal v;
            few = few_gathered sizes side symbols_are bits_are high (with_beat side (held c) (beat_at upward c)) fewer;
          }

      by_tests : (v : Bool) → is_high upward.valid c ≡ v → (w : Bool) → is_whole sizes.into (held c) ≡ w → (d : Bool) → is_high downward.valid c ≡ d → (r : Bool) → is_high downward.ready c ≡ r → (is_high upward.valid c && is_high upward.ready c) ≡ true → Gathers c
      by_tests false v w p d q r s t = absurd (both_ways _ v (and_parts _ _ t).0)
      by_tests true v true p d q r s t = absurd (both_ways _ (asks c ∙ ap (λ x. not x && (not (is_high downward.valid c) || is_high downward.ready c)) p) (and_parts _ _ t).1)
      by_tests true v false p false q r s t = of_parts v p q
      by_tests true v false p true q true s t = absurd (both_ways _ stands (transfer_parts downward c ∙ ap (λ x. x && is_high downward.ready c) q ∙ s))
      by_tests true v false p true q false s t = absurd (both_ways _ (asks c ∙ ap (λ x. not x && (not (is_high downward.valid c) || is_high downward.ready c)) p ∙ ap (λ x. not x || is_high downward.ready c) q ∙ s) (and_parts _ _ t).1)

  -- as long as the source is legal, no more is held than the registers have room for
  pub next_few : (c : ℕ) → IsLegalSource side upward (suc c) → (holding c).beat.empty ≤ sizes.held → AreSameRow (held (c + 1)) (row_after side (into sizes side symbols_are bits_are high) upward downward (held c) c) × ((holding (c + 1)).beat.empty ≤ sizes.held)
  next_few c legal few = by_moves (is_transfer side.pace downward c) refl (is_transfer side.pace upward c) refl (moved c)
    where
      holds : is_transfer side.pace downward c ≡ true → is_alone sizes (holding c) ≡ false → HoldsData sizes side symbols_are bits_are high (beat_at upward c)
      holds goes e = data_holds c legal (comes_where c legal (and_parts _ _ (sym (transfer_parts downward c) ∙ goes)).0 e)

      by_moves : (g : Bool) → is_transfer side.pace downward c ≡ g → (t : Bool) → is_transfer side.pace upward c ≡ t →
          holding (c + 1) ≡ (if g then row_left sizes (holding c) (coming c) else (if t then row_gathered sizes (row_joined sizes (holding c) (coming c)) else holding c)) →
          AreSameRow (held (c + 1)) (if g then behind_beat sizes.into (error_left (into sizes side symbols_are bits_are high) upward (held c) c) (next_row side (into sizes side symbols_are bits_are high) upward (held c) c) else (if t then with_beat side (held c) (beat_at upward c) else held c)) × ((holding (c + 1)).beat.empty ≤ sizes.held)
      by_moves true goes t comes is =
          let left = left_row sizes side symbols_are bits_are high (holding c) (coming c) few (small c) (holds goes) in
          let count = ap (λ (x : Shown). x.beat.empty) is ∙ left.count in
          let within = left_within sizes side symbols_are bits_are high (holding c) (coming c) few (holds goes) in
          (same_row _ _ _ (ap row is) left, omega (arith, count, within))
      by_moves false stands true comes is =
          let g = gathers c legal stands comes in
          let made = gathered_is sizes side symbols_are bits_are high _ _ (joined_row sizes side symbols_are bits_are high (holding c) (coming c) g.below g.holds) g.few in
          let count = ap (λ (x : Shown). x.beat.empty) is ∙ made.count in
          let below = g.few in
          let behind = sizes.into_behind in
          (same_row _ _ _ (ap row is) made, omega (arith, count, below, behind))
      by_moves false stands false waits is = (same_row _ _ _ (ap row is) (row_same (held c)), subst (λ (x : Shown). x.beat.empty ≤ sizes.held) (sym is) few)

  pub few_always : (c : ℕ) → IsLegalSource side upward c → (holding c).beat.empty ≤ sizes.held
  few_always zero legal = let none = ap (λ (x : Shown). x.beat.empty) (f.starts run 1 (endless 1) (omega arith)) in omega (arith, none)
  few_always (suc c) legal = subst (λ n. (holding n).beat.empty ≤ sizes.held) (next_cycle c) (next_few c legal (few_always c (λ d before. legal d (omega (arith, before))))).1

  pub few_here : (c : ℕ) → IsLegalSource side upward (suc c) → (holding c).beat.empty ≤ sizes.held
  few_here c legal = few_always c (λ d before. legal d (omega (arith, before)))

  pub shows : (c : ℕ) → IsLegalSource side upward (suc c) → IsTrue (is_high downward.valid c) → IsFront (into sizes side symbols_are bits_are high) (next_row side (into sizes side symbols_are bits_are high) upward (held c) c) (beat_at downward c)
  shows c legal high_valid =
      subst (λ (x : Beat). IsFront (into sizes side symbols_are bits_are high) (next_row side (into sizes side symbols_are bits_are high) upward (held c) c) x) (sym (ap (λ (x : Shown). x.beat) (shown c)))
      (front_is sizes side symbols_are bits_are high _ _ (next_is sizes side symbols_are bits_are high (holding c) (coming c) (few_here c legal) (small c) (λ e. data_holds c legal (comes_where c legal high_valid e))))

  -- a beat that waits lets nothing come
  waits : (c : ℕ) → is_high downward.valid c ≡ true → is_transfer side.pace downward c ≡ false → is_transfer side.pace upward c ≡ false
  waits c shows_one stands = transfer_parts upward c ∙ ap (λ t. is_high upward.valid c && t) low ∙ none (is_high upward.valid c)
    where
      none : (t : Bool) → (t && false) ≡ false
      none true = refl
      none false = refl

      not_ready : is_high downward.ready c ≡ false
      not_ready = sym (ap (λ t. t && is_high downward.ready c) shows_one) ∙ sym (transfer_parts downward c) ∙ stands

      low : is_high upward.ready c ≡ false
      low = asks c ∙ ap (λ t. not (is_whole sizes.into (held c)) && (not t || is_high downward.ready c)) shows_one ∙ ap (λ t. not (is_whole sizes.into (held c)) && t) not_ready ∙ none (not (is_whole sizes.into (held c)))

  -- and then what is held stands
  stands_held : (c : ℕ) → is_high downward.valid c ≡ true → is_transfer side.pace downward c ≡ false → holding (c + 1) ≡ holding c
  stands_held c shows_one stands =
      moved c
      ∙ ap (λ t. if t then row_left sizes (holding c) (coming c) else (if is_transfer side.pace upward c then row_gathered sizes (row_joined sizes (holding c) (coming c)) else holding c)) stands
      ∙ ap (λ t. if t then row_gathered sizes (row_joined sizes (holding c) (coming c)) else holding c) (waits c shows_one stands)

  stays : (c : ℕ) → IsTrue (is_high downward.valid c) → IsFalse (is_transfer side.pace downward c) → (IsTrue (is_whole sizes.into (held c))) ⊎ ShowsSame upward c (suc c) → beat_at downward (suc c) ≡ beat_at downward c
  stays c shows_one stands same = subst (λ n. beat_at downward n ≡ beat_at downward c) (next_cycle c) (by_same (subst (λ n. (IsTrue (is_whole sizes.into (held c))) ⊎ ShowsSame upward c n) (sym (next_cycle c)) same))
    where
      over : shown_in (cycle_of run (c + 1)) to ≡ shown_front sizes (row_next sizes (holding c) (coming (c + 1)))
      over = shown (c + 1) ∙ ap (λ (x : Shown). shown_front sizes (row_next sizes x (coming (c + 1)))) (stands_held c shows_one stands)

      by_same : (IsTrue (is_whole sizes.into (held c))) ⊎ ShowsSame upward c (c + 1) → beat_at downward (c + 1) ≡ beat_at downward c
      by_same (inl whole) =
          let lone : is_alone sizes (holding c) ≡ true = sym (alone_is sizes side symbols_are bits_are high (holding c)) ∙ whole in
          ap (λ (x : Shown). x.beat) over
          ∙ ap (λ t. (shown_front sizes (if t then row_alone sizes (holding c) else row_joined sizes (holding c) (coming (c + 1)))).beat) lone
          ∙ sym (ap (λ (x : Shown). x.beat) (shown c) ∙ ap (λ t. (shown_front sizes (if t then row_alone sizes (holding c) else row_joined sizes (holding c) (coming c))).beat) lone)
      by_same (inr alike) =
          let come : coming (c + 1) ≡ coming c = sym (all_same from (cycle_of run c) (cycle_of run (c + 1)) (record { valid = alike.valid; beat = alike.beat })) in
          ap (λ (x : Shown). x.beat) over ∙ ap (λ (x : Shown). (shown_front sizes (row_next sizes (holding c) x)).beat) come ∙ sym (ap (λ (x : Shown). x.beat) (shown c))

  pub is_window_run : IsWindowRun side (into sizes side symbols_are bits_are high) upward downward held
  is_window_run = record {
    starts = subst (λ (x : Shown). AreSameRow (row x) (record { count = 0; value = λ k. 0; channel = 0; error = 0; first = 0; last = 0 })) (sym (f.starts run 1 (endless 1) (omega arith)))
        (record { count = refl; values = λ k h. absurd (omega arith); channel = refl; error = refl; first = refl; last = refl });
    asks = λ c legal. asks c;
    valid = valid;
    shows = shows;
    moves = λ c legal. subst (λ n. AreSameRow (held n) (row_after side (into sizes side symbols_are bits_are high) upward downward (held c) c)) (next_cycle c) (next_few c legal (few_here c legal)).0;
    stays = λ c legal. stays c;
  }

module _ (sizes : WindowSizes) (shape : Shape) (from to : BeatNets) (kept : WindowKept) (ready up : NetValue) (netlist : Netlist) (run : Run) (p : IsWindowShape sizes shape) (f : WindowForward sizes from to kept netlist) (b : WindowBackward kept ready up netlist) (endless : IsEndlessRun netlist run) where
  pub window_between :
      ((passes : ℕ → Bool) (from into : Side) (up down : EndView) (held : ℕ → Row) → IsWindowRun from into up down held → 0 < from.symbols → 0 < into.symbols → from.pace.latency ≡ 0 → from.pace.allowance ≡ 0 → into.pace ≡ from.pace → from.packets ≡ into.packets → from.error_bits ≡ into.error_bits → from.max_channel ≡ into.max_channel → (IsFalse from.packets → from.max_channel ≡ 0) → PassesAll passes from → KeepsStageLaw (window_shape passes from into) (plain_run up down)) →
      KeepsShape shape (view_of run from up) (view_of run to ready)
  window_between law = record {
    rank = λ _. 0;
    keeps = subst (λ (s : Shape). KeepsStageLaw s (plain_run (view_of run from up) (view_of run to ready))) (sym p.is)
        (law shape.passes shape.up (of_symbols shape.up sizes.into) _ _ _ (is_window_run sizes from to kept ready up netlist run f b endless shape.up p.symbols_are p.bits_are p.first_high p.at_once)
        (let some = sizes.some_from in let symbols = p.symbols_are in omega (arith, some, symbols)) sizes.some_into p.at_once p.strict refl refl refl refl p.channels p.passes);
  }

pub window_ignores : (sizes : WindowSizes) (from to : BeatNets) (kept : WindowKept) (netlist : Netlist) (one other : Cycle) → WindowForward sizes from to kept netlist → IsValuation netlist one → IsValuation netlist other → ((n : ℕ) → IsOfBeat kept.held n → one.net n ≡ other.net n) → ShowSame from one other → ShowSame to one other
window_ignores sizes from to kept netlist one other f v w state same =
    show_same to one other
    (f.shows one v
    ∙ ap (λ (x : Shown). shown_front sizes (row_next sizes x (shown_in one from))) (same_state kept.held one other f.numbers state)
    ∙ ap (λ (x : Shown). shown_front sizes (row_next sizes (shown_in other kept.held) x)) (all_same from one other same)
    ∙ sym (f.shows other w))
