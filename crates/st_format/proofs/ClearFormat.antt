-- Behind the stages of a format the empty symbols of each beat are 0.
use Rattle.std.proofs.Common.{◌≡◌, ℕ, ◌+◌, ◌<◌, ◌≤◌, inl, inr, Bool, true, false, ◌||◌, ◌==◌, IsTrue, Option, Some, None, refl, sym, subst, ap, ◌∙◌, arith}
use Rattle.std.specs.Prelude.{IsNone}
use Rattle.std.proofs.lemmas.Bool.{both_ways, cases_lt}
use Rattle.netlist.specs.Nets.{NetValue}
use Rattle.netlist.specs.Netlists.{Netlist}
use Rattle.netlist.specs.Runs.{Cycle, Run, cycle_of, IsEndlessRun, IsValuation}
use Rattle.stream_runs.specs.View.{EndView, Side, Beat}
use Rattle.stream_runs.specs.Symbols.{value_of}
use Rattle.stream_runs.specs.Source.{IsLegalSource}
use Rattle.stream_machines.specs.Stage.{Shape}
use Rattle.stream_machines.specs.Wires.{turned_side}
use Rattle.stream_machines.specs.Words.{HasClearEmpty, turned_word}
use Rattle.stage_core.specs.declared.beat.BeatNets.{BeatNets}
use Rattle.stage_core.specs.declared.pass.Nothing.{Nothing}
use Rattle.stage_core.specs.Beats.{view_of, beat_in}
use Rattle.stage_core.specs.Law.{KeepsShape}
use Rattle.stage_core.specs.MaybeNets.{shape_of, forward_of}
use Rattle.st_format.specs.declared.reorder.Reorder.{Reorder}
use Rattle.st_format.specs.declared.clear.Clear.{Clear}
use Rattle.st_format.specs.declared.resize.Resize.{Resize}
use Rattle.st_format.specs.declared.resize.Resize.TheVariants.{Equal, Cut, Join, Slide}
use Rattle.st_format.specs.declared.resize.ResizeKept.{ResizeKept}
use Rattle.st_format.specs.declared.resize.ResizeKept.TheVariants.{Straight, OfCut, OfJoin, OfSlide}
use Rattle.st_format.specs.declared.narrow.NarrowKept.{NarrowKept}
use Rattle.st_format.specs.declared.widen.Widen.{Widen}
use Rattle.st_format.specs.declared.widen.WidenKept.{WidenKept}
use Rattle.st_windows.specs.declared.sizes.WindowSizes.{WindowSizes}
use Rattle.st_windows.specs.declared.window.WindowKept.{WindowKept}
use Rattle.st_windows.specs.WindowNets.{IsWindowShape, WindowForward, WindowBackward}
use Rattle.st_format.specs.declared.sizes.Sizes.{Sizes}
use Rattle.st_format.specs.ReorderNets.{IsReorderShape, TurnsBeat}
use Rattle.st_format.specs.ClearNets.{IsClearShape, ClearsBeat}
use Rattle.st_format.specs.NarrowNets.{IsNarrowShape, NarrowForward, NarrowBackward}
use Rattle.st_format.specs.WidenNets.{IsWidenShape, WidenForward, WidenBackward}
use Rattle.st_format.specs.ResizeNets.{resize_has, ResizeForward, ResizeBackward}
use Rattle.st_format.specs.FormatNets.{Stages, front_has, format_has}
use Rattle.st_format.specs.FormatStands.{FrontKept, FrontForward, FrontBackward, FormatForward, FormatBackward}
use Rattle.stream_machines.specs.Words.{ShowsClear}

abbrev pub TurnedFit : Type 0
TurnedFit = (side : Side) (word k : ℕ) → k < side.symbols → value_of (turned_side side) (turned_word side.symbol_bits side.symbols word) k ≡ value_of side word k

abbrev pub ClearLaw : Type 0
ClearLaw = (symbols bits : ℕ) (from to : BeatNets) (netlist : Netlist) → ClearsBeat symbols bits from to netlist → (side : Side) → side.symbols ≡ symbols → side.symbol_bits ≡ bits → side.first_high ≡ true → (cycle : Cycle) → IsValuation netlist cycle → HasClearEmpty side (beat_in cycle to)

abbrev pub NarrowLaw : Type 0
NarrowLaw = (sizes : Sizes) (shape : Shape) (from to : BeatNets) (kept : NarrowKept) (ready up : NetValue) (netlist : Netlist) → IsNarrowShape sizes shape → NarrowForward sizes from to kept netlist → NarrowBackward kept ready up netlist → (run : Run) → IsEndlessRun netlist run → (count : ℕ) →
    ShowsClear shape.up (view_of run from up) count → ShowsClear shape.down (view_of run to ready) count

abbrev pub WidenLaw : Type 0
WidenLaw = (stage : Widen) (shape : Shape) (from to : BeatNets) (kept : WidenKept) (ready up : NetValue) (netlist : Netlist) → IsWidenShape stage shape → WidenForward stage from to kept netlist → WidenBackward kept ready up netlist → (run : Run) → IsEndlessRun netlist run → (count : ℕ) →
    IsLegalSource shape.up (view_of run from up) count → ShowsClear shape.up (view_of run from up) count → ShowsClear shape.down (view_of run to ready) count

abbrev pub WindowLaw : Type 0
WindowLaw = (sizes : WindowSizes) (shape : Shape) (from to : BeatNets) (kept : WindowKept) (ready up : NetValue) (netlist : Netlist) → IsWindowShape sizes shape → WindowForward sizes from to kept netlist → WindowBackward kept ready up netlist → (run : Run) → IsEndlessRun netlist run → (count : ℕ) →
    IsLegalSource shape.up (view_of run from up) count → ShowsClear shape.up (view_of run from up) count → ShowsClear shape.down (view_of run to ready) count

-- what sends no empty symbol
abbrev pub FullLaw : Type 0
FullLaw = (side : Side) (view : EndView) (count : ℕ) → (IsTrue side.packets → side.symbols ≤ 1) → IsLegalSource side view count → ShowsClear side view count

turned_clear : TurnedFit → (side : Side) (symbols bits : ℕ) → side.symbols ≡ symbols → side.symbol_bits ≡ bits → (x : Beat) → HasClearEmpty side x → HasClearEmpty (turned_side side) (record x { word = turned_word bits symbols x.word })
turned_clear fit side symbols bits symbols_are bits_are x clear k from below =
    ap (λ n. value_of (turned_side side) (turned_word n symbols x.word) k) (sym bits_are)
    ∙ ap (λ n. value_of (turned_side side) (turned_word side.symbol_bits n x.word) k) (sym symbols_are)
    ∙ fit side x.word k below
    ∙ clear k from below

-- behind a legal source a stage is one
legal_behind : (shape : Shape) (up down : EndView) → KeepsShape shape up down → shape.needs_ready ≡ false → (count : ℕ) → IsLegalSource shape.up up count → IsLegalSource shape.down down count
legal_behind shape up down k free count legal c lt = k.keeps.legal c (λ d below. legal d (omega (arith, lt, below))) (λ needs. absurd (both_ways _ free needs))

either_free : (a b : Bool) → a ≡ false → b ≡ false → (a || b) ≡ false
either_free a b p q = rw (p, q) refl

module _ (netlist : Netlist) (run : Run) (endless : IsEndlessRun netlist run) (count : ℕ) where
  valued : (c : ℕ) → IsValuation netlist (cycle_of run c)
  valued c = (endless (c + 1)).valuations c (omega arith)

  -- the empty symbols of each beat that these nets show are 0
  abbrev pub Shows : Side → BeatNets → Type 0
  Shows side nets = (c : ℕ) → c < count → IsTrue (run.net c nets.valid.number == 1) → HasClearEmpty side (beat_in (cycle_of run c) nets)

  turn_shows : TurnedFit → (turn : Option Reorder) (shape : Shape) (from to : BeatNets) (kept : Option Nothing) → shape_of (λ (s : Reorder) (shape : Shape). IsReorderShape s.symbols s.bits shape) turn shape → forward_of (λ (s : Reorder) from to (kept : Nothing) netlist. TurnsBeat s.symbols s.bits from to netlist) turn from to kept netlist →
      Shows shape.up from → Shows shape.down to
  turn_shows fit None shape from to kept p f clear = subst (λ (s : Shape). Shows s.down to) (sym p.is) (subst (Shows shape.up) (sym f) clear)
  turn_shows fit (Some stage) shape from to None p f clear = absurd f
  turn_shows fit (Some stage) shape from to (Some held) p f clear =
      subst (λ (s : Shape). Shows s.down to) (sym p.is)
      (λ c lt v. subst (HasClearEmpty (turned_side shape.up)) (sym (f.shows (cycle_of run c) (valued c)))
      (turned_clear fit shape.up stage.symbols stage.bits p.symbols_are p.bits_are (beat_in (cycle_of run c) from) (clear c lt (sym (ap (λ (n : NetValue). run.net c n.number == 1) f.valid) ∙ v))))

  clear_shows : ClearLaw → (stage : Option Clear) (shape : Shape) (from to : BeatNets) (kept : Option Nothing) → shape_of (λ (s : Clear) (shape : Shape). IsClearShape s.symbols s.bits shape) stage shape → forward_of (λ (s : Clear) from to (kept : Nothing) netlist. ClearsBeat s.symbols s.bits from to netlist) stage from to kept netlist →
      (IsNone stage → Shows shape.up from) → Shows shape.down to
  clear_shows law None shape from to kept p f clear = subst (λ (s : Shape). Shows s.down to) (sym p.is) (subst (Shows shape.up) (sym f) (clear refl))
  clear_shows law (Some stage) shape from to None p f clear = absurd f
  clear_shows law (Some stage) shape from to (Some held) p f clear =
      subst (λ (s : Shape). Shows s.down to) (sym p.is) (λ c lt v. law stage.symbols stage.bits from to netlist f shape.up p.symbols_are p.bits_are p.first_high (cycle_of run c) (valued c))

  resize_shows : NarrowLaw → WidenLaw → WindowLaw → (resize : Resize) (shape : Shape) (from to : BeatNets) (kept : ResizeKept) (ready up : NetValue) → resize_has resize shape → ResizeForward resize from to kept netlist → ResizeBackward resize kept ready up netlist →
      IsLegalSource shape.up (view_of run from up) count → Shows shape.up from → Shows shape.down to
  resize_shows cuts joins slides Equal shape from to Straight ready up p f b legal clear = subst (λ (s : Shape). Shows s.down to) (sym p.is) (subst (Shows shape.up) (sym f) clear)
  resize_shows cuts joins slides (Cut stage) shape from to (OfCut same kept) ready up p f b legal clear = cuts stage.sizes shape from to kept ready up netlist p f b run endless count clear
  resize_shows cuts joins slides (Join stage) shape from to (OfJoin same kept) ready up p f b legal clear = joins stage shape from to kept ready up netlist p f b run endless count legal clear
  resize_shows cuts joins slides (Slide stage) shape from to (OfSlide same kept) ready up p f b legal clear = slides stage.sizes shape from to kept ready up netlist p f b run endless count legal clear
  resize_shows cuts joins slides _ shape from to _ ready up p f b legal clear = absurd f

turn_free : (turn : Option Reorder) (shape : Shape) → shape_of (λ (s : Reorder) (shape : Shape). IsReorderShape s.symbols s.bits shape) turn shape → shape.needs_ready ≡ false
turn_free None shape p = ap (λ (s : Shape). s.needs_ready) p.is
turn_free (Some stage) shape p = ap (λ (s : Shape). s.needs_ready) p.is

clear_free : (clear : Option Clear) (shape : Shape) → shape_of (λ (s : Clear) (shape : Shape). IsClearShape s.symbols s.bits shape) clear shape → shape.needs_ready ≡ false
clear_free None shape p = ap (λ (s : Shape). s.needs_ready) p.is
clear_free (Some stage) shape p = ap (λ (s : Shape). s.needs_ready) p.is

resize_free : (resize : Resize) (shape : Shape) → resize_has resize shape → shape.needs_ready ≡ false
resize_free Equal shape p = ap (λ (s : Shape). s.needs_ready) p.is
resize_free (Cut stage) shape p = ap (λ (s : Shape). s.needs_ready) p.is
resize_free (Join stage) shape p = ap (λ (s : Shape). s.needs_ready) p.is
resize_free (Slide stage) shape p = ap (λ (s : Shape). s.needs_ready) p.is

abbrev pub FrontLaw : Stages → Type 0
FrontLaw format = (shape : Shape) (from to : BeatNets) (kept : FrontKept) (ready up : NetValue) (netlist : Netlist) → front_has format.first.first.stage format.first.second.stage shape → FrontForward format.first.first.stage format.first.second.stage from to kept netlist
    → FrontBackward format.first.first.stage format.first.second.stage kept ready up netlist → (run : Run) → IsEndlessRun netlist run → KeepsShape shape (view_of run from up) (view_of run to ready)

abbrev pub ResizeLaw : Stages → Type 0
ResizeLaw format = (shape : Shape) (from to : BeatNets) (kept : ResizeKept) (ready up : NetValue) (netlist : Netlist) → resize_has format.second shape → ResizeForward format.second from to kept netlist → ResizeBackward format.second kept ready up netlist
    → (run : Run) → IsEndlessRun netlist run → KeepsShape shape (view_of run from up) (view_of run to ready)

module _ (turned : TurnedFit) (clears : ClearLaw) (cuts : NarrowLaw) (joins : WidenLaw) (slides : WindowLaw) (full : FullLaw) (format : Stages) (front_keeps : FrontLaw format) (resize_keeps : ResizeLaw format) where
  pub format_clear : (shape : Shape) (from to : BeatNets) (front : FrontKept) (back : ResizeKept) (ready up : NetValue) (netlist : Netlist) → format_has format shape → FormatForward format from to front back netlist → FormatBackward format front back ready up netlist → (run : Run) → IsEndlessRun netlist run → (count : ℕ) →
      IsLegalSource shape.up (view_of run from up) count → (IsNone format.first.second.stage → 1 < shape.down.symbols → ShowsClear shape.up (view_of run from up) count) → ShowsClear shape.down (view_of run to ready) count
  format_clear shape from to front back ready up netlist p f b run endless count legal clear =
      let turn = p.first_has.first in
      let clearing = p.first_has.second in
      let middle = f.middle in
      let up_is : shape.up ≡ turn.up = ap (λ (s : Shape). s.up) p.is ∙ ap (λ (s : Shape). s.up) p.first_has.is in
      let cleared_is : clearing.down ≡ p.second.up = sym (ap (λ (s : Shape). s.down) p.first_has.is) ∙ p.fit.same_side in
      let down_is : p.second.down ≡ shape.down = sym (ap (λ (s : Shape). s.down) p.is) in
      let free : p.first.needs_ready ≡ false = ap (λ (s : Shape). s.needs_ready) p.first_has.is
      ∙ either_free _ _ (turn_free format.first.first.stage turn p.first_has.first_has) (clear_free format.first.second.stage clearing p.first_has.second_has) in
      let legal_first : IsLegalSource p.first.up (view_of run from up) count = subst (λ (s : Side). IsLegalSource s (view_of run from up) count) (ap (λ (s : Shape). s.up) p.is) legal in
      let legal_middle = legal_behind p.first _ _ (front_keeps p.first from middle front b.middle up netlist p.first_has f.first b.first run endless) free count legal_first in
      let legal_resize : IsLegalSource p.second.up (view_of run middle b.middle) count = subst (λ (s : Side). IsLegalSource s (view_of run middle b.middle) count) p.fit.same_side legal_middle in
      let legal_end = legal_behind p.second _ _ (resize_keeps p.second middle to back ready b.middle netlist p.second_has f.second b.second run endless) (resize_free format.second p.second p.second_has) count legal_resize in
      let shows_middle : (1 < shape.down.symbols → Shows netlist run endless count clearing.down middle) = (λ several.
      clear_shows netlist run endless count clears format.first.second.stage clearing f.first.middle middle front.1 p.first_has.second_has f.first.second
      (λ none. subst (λ (s : Side). Shows netlist run endless count s f.first.middle) p.first_has.fit.same_side
      (turn_shows netlist run endless count turned format.first.first.stage turn from f.first.middle front.0 p.first_has.first_has f.first.first (subst (λ (s : Side). Shows netlist run endless count s from) up_is (clear none several))))) in
      elim (cases_lt 1 shape.down.symbols) [
        | inl several ↦ subst (λ (s : Side). Shows netlist run endless count s to) down_is
            (resize_shows netlist run endless count cuts joins slides format.second p.second middle to back ready b.middle p.second_has f.second b.second legal_resize
            (subst (λ (s : Side). Shows netlist run endless count s middle) cleared_is (shows_middle several)))
        | inr single ↦ full shape.down (view_of run to ready) count (λ packets. single) (subst (λ (s : Side). IsLegalSource s (view_of run to ready) count) down_is legal_end)
      ]
