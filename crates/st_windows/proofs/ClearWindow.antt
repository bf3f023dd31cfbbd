-- A window sends clear beats where it takes them.
use Rattle.std.proofs.Common.{◌≡◌, ℕ, suc, ◌+◌, ◌-◌, ◌<◌, ◌≤◌, Bool, true, false, ◌==◌, nat_le, if◌then◌else◌, IsTrue, refl, sym, subst, ap, ◌∙◌, arith, ◌⊎◌, inl, inr}
use Rattle.std.proofs.lemmas.Bool.{cases_lt, leb-true, both_ways}
use Rattle.netlist.specs.Nets.{NetValue}
use Rattle.netlist.specs.Netlists.{Netlist}
use Rattle.netlist.specs.Runs.{Run, cycle_of, IsEndlessRun}
use Rattle.stream_runs.specs.View.{EndView, Side, Beat, is_high}
use Rattle.stream_runs.specs.Symbols.{symbol_count, value_of}
use Rattle.stream_runs.specs.Source.{IsLegalSource}
use Rattle.stream_machines.specs.Stage.{Shape}
use Rattle.stream_machines.specs.Parts.{of_symbols}
use Rattle.stream_machines.specs.Windows.{is_whole, with_beat}
use Rattle.stream_machines.specs.Words.{HasClearEmpty, ShowsClear}
use Rattle.stage_core.specs.declared.beat.BeatNets.{BeatNets}
use Rattle.stage_core.specs.Beats.{view_of}
use Rattle.stage_core.specs.Groups.{Shown, shown_in}
use Rattle.st_windows.specs.declared.sizes.WindowSizes.{WindowSizes}
use Rattle.st_windows.specs.declared.window.WindowKept.{WindowKept}
use Rattle.st_windows.specs.Cuts.{symbol, cut_of, front_at}
use Rattle.st_windows.specs.Rows.{is_alone, front_of, row_joined, row_alone, row_next}
use Rattle.st_windows.specs.WindowNets.{IsWindowShape, WindowForward, WindowBackward}
use Rattle.st_windows.proofs.CutLemmas.{none_of, front_newer, front_beyond, below_is}
use Rattle.st_windows.proofs.WindowRows.{few_held, alone_is, value_here, value_from}
use Rattle.st_windows.proofs.WindowLaw.{shown, comes_where, shows, row_of, held_row}

-- behind so many symbols the word has zeros
abbrev pub IsClear : ℕ → ℕ → ℕ → ℕ → Type 0
IsClear bits size count word = (k : ℕ) → count ≤ k → k < size → symbol bits size word k ≡ 0

module _ (sizes : WindowSizes) (side : Side) (symbols_are : side.symbols ≡ sizes.from) (bits_are : side.symbol_bits ≡ sizes.bits) (high : side.first_high ≡ true) where
  -- a clear beat that comes
  coming_clear : (beat : Beat) → HasClearEmpty side beat → IsClear sizes.bits sizes.from (symbol_count side beat) beat.word
  coming_clear beat clear k behind inside = sym (value_from sizes side symbols_are bits_are high beat.word k) ∙ clear k behind (omega (arith, inside, symbols_are))

  -- the front, where the word that comes is clear
  front_clear : (held : Shown) (coming many : ℕ) → held.beat.empty < sizes.into → IsClear sizes.bits sizes.from many coming → IsClear sizes.bits sizes.into (held.beat.empty + many) (front_of sizes held coming)
  front_clear held coming many few clear k behind inside =
      ap (λ w. symbol sizes.bits sizes.into w k) (below_is held.beat.empty (front_at sizes.bits sizes.from sizes.into sizes.held held.beat.word coming) (cut_of sizes.bits sizes.held 0 sizes.into held.beat.word) sizes.into few)
      ∙ by_place (cases_lt k (held.beat.empty + sizes.from))
    where
      by_place : (k < held.beat.empty + sizes.from) ⊎ (held.beat.empty + sizes.from ≤ k) → symbol sizes.bits sizes.into (front_at sizes.bits sizes.from sizes.into sizes.held held.beat.word coming held.beat.empty) k ≡ 0
      by_place (inl within) =
          front_newer sizes.bits sizes.from sizes.into sizes.held held.beat.word coming held.beat.empty k (omega (arith, behind)) inside within
          ∙ clear (k - held.beat.empty) (omega (arith, behind)) (omega (arith, within, behind))
      by_place (inr beyond) = front_beyond sizes.bits sizes.from sizes.into sizes.held held.beat.word coming held.beat.empty k (omega (arith, behind)) inside beyond

  alone_clear : (held : Shown) → IsClear sizes.bits sizes.into held.beat.empty (row_alone sizes held).beat.word
  alone_clear held k behind inside = front_clear held 0 0 (omega (arith, behind, inside)) (λ j above below. none_of sizes.bits sizes.from j) k (omega (arith, behind)) inside

  joined_clear : (held x : Shown) → held.beat.empty < sizes.into → HasClearEmpty side x.beat → IsClear sizes.bits sizes.into (held.beat.empty + symbol_count side x.beat) (row_joined sizes held x).beat.word
  joined_clear held x few clear = front_clear held x.beat.word (symbol_count side x.beat) few (coming_clear x.beat clear)

  -- the count of what goes out next
  abbrev next_count : Shown → Shown → ℕ
  next_count held x = if is_alone sizes held then held.beat.empty else held.beat.empty + symbol_count side x.beat

  next_clear : (held x : Shown) → (is_alone sizes held ≡ false → HasClearEmpty side x.beat) → IsClear sizes.bits sizes.into (next_count held x) (row_next sizes held x).beat.word
  next_clear held x comes = by_alone (is_alone sizes held) refl
    where
      by_alone : (t : Bool) → is_alone sizes held ≡ t → IsClear sizes.bits sizes.into (if t then held.beat.empty else held.beat.empty + symbol_count side x.beat) (if t then row_alone sizes held else row_joined sizes held x).beat.word
      by_alone true e = alone_clear held
      by_alone false e = joined_clear held x (few_held sizes side symbols_are bits_are high held e) (comes e)

  -- is that of the row
  next_counts : (held x : Shown) → (row_of sizes side symbols_are bits_are high held x).count ≡ next_count held x
  next_counts held x = by_alone (is_whole sizes.into (held_row sizes side symbols_are bits_are high held)) (is_alone sizes held) (alone_is sizes side symbols_are bits_are high held)
    where
      by_alone : (w t : Bool) → w ≡ t → (if w then held_row sizes side symbols_are bits_are high held else with_beat side (held_row sizes side symbols_are bits_are high held) x.beat).count ≡ (if t then held.beat.empty else held.beat.empty + symbol_count side x.beat)
      by_alone true true e = refl
      by_alone true false e = absurd (cc)
      by_alone false true e = absurd (cc)
      by_alone false false e = refl

module _ (sizes : WindowSizes) (from to : BeatNets) (kept : WindowKept) (ready up : NetValue) (netlist : Netlist) (run : Run) (f : WindowForward sizes from to kept netlist) (b : WindowBackward kept ready up netlist) (endless : IsEndlessRun netlist run)
    (side : Side) (symbols_are : side.symbols ≡ sizes.from) (bits_are : side.symbol_bits ≡ sizes.bits) (high : side.first_high ≡ true) (direct : side.pace.latency ≡ 0) where
  abbrev upward : EndView
  upward = view_of run from up

  abbrev downward : EndView
  downward = view_of run to ready

  abbrev now : ℕ → Shown
  now c = shown_in (cycle_of run c) kept.held

  abbrev come : ℕ → Shown
  come c = shown_in (cycle_of run c) from

  pub window_clear : (count : ℕ) → IsLegalSource side upward count → ShowsClear side upward count → ShowsClear (of_symbols side sizes.into) downward count
  window_clear count legal shows_clear c before valid k behind inside =
      let here : IsLegalSource side upward (suc c) = (λ d below. legal d (omega (arith, before, below))) in
      let comes = (λ (e : is_alone sizes (now c) ≡ false). comes_where sizes from to kept ready up netlist run f b endless side symbols_are bits_are high direct c here valid e) in
      let front = shows sizes from to kept ready up netlist run f b endless side symbols_are bits_are high direct c here valid in
      let counts : (row_of sizes side symbols_are bits_are high (now c) (come c)).count ≡ next_count sizes side symbols_are bits_are high (now c) (come c) = next_counts sizes side symbols_are bits_are high (now c) (come c) in
      ap (λ (x : Shown). value_of (of_symbols side sizes.into) x.beat.word k) (shown sizes from to kept ready up netlist run f b endless side symbols_are bits_are high direct c)
      ∙ value_here sizes side symbols_are bits_are high sizes.into (row_next sizes (now c) (come c)).beat.word k
      ∙ next_clear sizes side symbols_are bits_are high (now c) (come c) (λ e. shows_clear c before (comes e)) k
      (few_behind (is_high downward.last c) refl (nat_le (row_of sizes side symbols_are bits_are high (now c) (come c)).count sizes.into) refl behind counts front.last front.empty) inside
    where
      few_behind : (l : Bool) → is_high downward.last c ≡ l → (t : Bool) → nat_le (row_of sizes side symbols_are bits_are high (now c) (come c)).count sizes.into ≡ t → (if l then sizes.into - downward.empty c else sizes.into) ≤ k
          → (row_of sizes side symbols_are bits_are high (now c) (come c)).count ≡ next_count sizes side symbols_are bits_are high (now c) (come c)
          → downward.last c ≡ (if t then (row_of sizes side symbols_are bits_are high (now c) (come c)).last else 0) → (IsTrue (is_high downward.last c) → downward.empty c ≡ sizes.into - (row_of sizes side symbols_are bits_are high (now c) (come c)).count)
          → next_count sizes side symbols_are bits_are high (now c) (come c) ≤ k
      few_behind false ends t fit behind counts last empty = absurd (omega (arith, behind, inside))
      few_behind true ends false fit behind counts last empty = absurd (both_ways _ (ap (λ n. n == 1) last) ends)
      few_behind true ends true fit behind counts last empty = let small = leb-true (row_of sizes side symbols_are bits_are high (now c) (come c)).count sizes.into fit in let is = empty ends in omega (arith, behind, counts, small, is)

-- as the law has it
pub clear_law : (sizes : WindowSizes) (shape : Shape) (from to : BeatNets) (kept : WindowKept) (ready up : NetValue) (netlist : Netlist) → IsWindowShape sizes shape → WindowForward sizes from to kept netlist → WindowBackward kept ready up netlist → (run : Run) → IsEndlessRun netlist run → (count : ℕ) →
    IsLegalSource shape.up (view_of run from up) count → ShowsClear shape.up (view_of run from up) count → ShowsClear shape.down (view_of run to ready) count
clear_law sizes shape from to kept ready up netlist p f b run endless count legal clear =
    subst (λ (s : Shape). ShowsClear s.down (view_of run to ready) count) (sym p.is)
    (window_clear sizes from to kept ready up netlist run f b endless shape.up p.symbols_are p.bits_are p.first_high p.at_once count legal clear)
