-- Each run and each valuation of a module that was made anew is one of the whole module, with zeros in the gaps.
use Rattle.std.proofs.Common.{◌≡◌, ℕ, zero, suc, ◌+◌, ◌^◌, ◌<◌, ◌≤◌, inl, inr, Bool, true, false, List, length, slice_get, get_or, Option, Some, None, refl, sym, ap, subst, ◌∙◌, arith}
use Rattle.std.specs.Prelude.{◌==◌, ◌&&◌, IfSome, IsSome, slice_index_or, option_map, unwrap_or, if◌then◌else◌}
use Rattle.std.proofs.Math.Path.{fun_ext}
use Rattle.std.proofs.lemmas.Bool.{cases_lt}
use Rattle.av_base.specs.declared.value.Val.{Val}
use Rattle.std.proofs.lemmas.Option.{get_or_from_slice_get, same_Some, slice_get_within}
use Rattle.netlist.specs.declared.line.Line.{Line}
use Rattle.netlist.specs.declared.line.PortLine.{PortLine}
use Rattle.netlist.specs.declared.line.Memory.{Memory}
use Rattle.netlist.specs.declared.line.MemWrite.{MemWrite}
use Rattle.netlist.specs.declared.line.Equation.{Equation}
use Rattle.netlist.specs.declared.line.Equation.TheVariants.{Input, Reg}
use Rattle.netlist.specs.Nets.{NetValue, net_of}
use Rattle.netlist.specs.Netlists.{Netlist, IsModule, IsInputPort, IsWriteOf, HasWidth, width_at, driver_of, input_net, is_register, next_in, next_of, line_of}
use Rattle.netlist.specs.Runs.{Cycle, Run, cycle_of, IsRun, IsValuation, NetHolds, WordsFit, SameState, reset_of, word_after}
use Rattle.netlist.specs.Signals.{port_net, port_value, port_named, signal}
use Rattle.pruned_netlists.specs.Pruned.{over_and_over}
use Rattle.narrowed_netlists.specs.declared.gaps.Gap.{Gap}
use Rattle.narrowed_netlists.specs.Gaps.{narrowed, widened, IsOpen, FitsIn}
use Rattle.narrowed_netlists.specs.Masks.{AreIn, KeepsTo, Allows, HasMemoryGap, AreMasks}
use Rattle.narrowed_netlists.specs.Copies.{Shows, number_at, IsCoreOf, IsMadeAnew}
use Rattle.narrowed_netlists.specs.Narrowed.{AreFixed, IsNarrowed}
use Rattle.narrowed_netlists.proofs.BitLemmas.{in_trans, open_in}
use Rattle.narrowed_netlists.proofs.GapLemmas.{widened_open, widened_narrowed, widened_fits}
use Rattle.narrowed_netlists.proofs.Lists.{slice_get-some, width_at-line, width_at-is, input_lines-at, named_port}

pub record IsNarrowCopy (whole netlist : Netlist) (masks : List ℕ) (registers memories : List Gap) (nets cores : List NetValue) : Type 0 where
  pub is_module : IsModule whole
  pub masks_are : AreMasks whole masks registers memories
  pub made : IsMadeAnew whole netlist registers memories nets cores

-- ---- what is seen

abbrev gap_or : List Gap → ℕ → Gap
gap_or gaps m = slice_index_or gaps m (record { low = 0; zeros = 0 })

abbrev seen_cell : List Gap → (ℕ → ℕ → ℕ) → ℕ → ℕ → ℕ
seen_cell gaps cell m address = widened (gap_or gaps m) (cell m address)

abbrev seen : List Gap → List NetValue → Cycle → Cycle
seen gaps nets cycle = record { input = cycle.input; net = λ n. cycle.net (number_at nets n); cell = seen_cell gaps cycle.cell }

abbrev seen_run : List Gap → List NetValue → Run → Run
seen_run gaps nets run = record { input = run.input; net = λ c n. run.net c (number_at nets n); cell = λ c. seen_cell gaps (run.cell c) }

pub number_is : (nets : List NetValue) (n : ℕ) (net : NetValue) → slice_get nets n ≡ Some net → number_at nets n ≡ net.number
number_is nets n net at = ap (λ (x : NetValue). x.number) (get_or_from_slice_get nets n net (net_of 0 0) at)

gap_is : (gaps : List Gap) (m : ℕ) (gap : Gap) → slice_get gaps m ≡ Some gap → gap_or gaps m ≡ gap
gap_is gaps m gap at = get_or_from_slice_get gaps m gap (record { low = 0; zeros = 0 }) at

shown : (gaps : List Gap) (nets : List NetValue) (cycle : Cycle) → Shows nets gaps cycle (seen gaps nets cycle)
shown gaps nets cycle = record {
  input = λ port. refl;
  net = λ n net at. ap cycle.net (number_is nets n net at);
  cell = λ m gap at address. ap (λ (g : Gap). widened g (cycle.cell m address)) (gap_is gaps m gap at);
}

-- ---- valuations

words_fit : (whole netlist : Netlist) (masks : List ℕ) (registers memories : List Gap) (nets cores : List NetValue) (cell : ℕ → ℕ → ℕ) → IsNarrowCopy whole netlist masks registers memories nets cores → WordsFit netlist.memories cell
    → WordsFit whole.memories (seen_cell memories cell)
words_fit whole netlist masks registers memories nets cores cell h fit m memory at address lt =
    let within = slice_get_within whole.memories m memory at in
    let has = h.made.narrow m memory within at in
    let gap = h.masks_are.memories_fit m memory within at in
    let same : gap.gap ≡ has.gap = same_Some _ _ (sym gap.is ∙ has.gap_at) in
    let fits = fit m has.is.memory has.is.is address (subst (λ t. address < 2 ^ t) (sym has.is.address_bits) lt) in
    subst (λ (g : Gap). widened g (cell m address) < 2 ^ memory.width) (sym (gap_is memories m has.gap has.gap_at))
    (widened_fits has.gap (cell m address) memory.width (subst (λ (g : Gap). FitsIn g memory.width) same gap.fits) (subst (λ t. cell m address < 2 ^ t) has.is.width fits))

net_holds : (whole netlist : Netlist) (masks : List ℕ) (registers memories : List Gap) (nets cores : List NetValue) (cycle : Cycle) (n : ℕ) (line : Line) → IsNarrowCopy whole netlist masks registers memories nets cores
    → IsValuation netlist cycle → slice_get whole.lines n ≡ Some line → NetHolds whole.lines (seen memories nets cycle) n line
net_holds whole netlist masks registers memories nets cores cycle n line h v at =
    (h.made.copies n line (slice_get_within whole.lines n line at) at).copy.holds cycle v (seen memories nets cycle) (shown memories nets cycle)

valuation : (whole netlist : Netlist) (masks : List ℕ) (registers memories : List Gap) (nets cores : List NetValue) (cycle : Cycle) → IsNarrowCopy whole netlist masks registers memories nets cores → IsValuation netlist cycle
    → IsValuation whole (seen memories nets cycle)
valuation whole netlist masks registers memories nets cores cycle h v = record {
  nets = λ n line at. net_holds whole netlist masks registers memories nets cores cycle n line h v at;
  words = words_fit whole netlist masks registers memories nets cores cycle.cell h v.words;
}

-- ---- registers

-- a register of the whole module and what it keeps in the other
record IsKeptRegister (whole netlist : Netlist) (masks : List ℕ) (registers : List Gap) (nets cores : List NetValue) (n : ℕ) (line : Line) : Type 0 where
  pub gap : Gap
  pub gap_at : slice_get registers n ≡ Some gap
  pub fits : FitsIn gap line.width
  pub clear : IsOpen gap (get_or masks n 0)
  pub net : NetValue
  pub number : number_at nets n ≡ net.number
  pub core : NetValue
  pub core_at : slice_get cores n ≡ Some core
  pub kept : IsCoreOf netlist gap line.width line.equation net core

kept_register : (whole netlist : Netlist) (masks : List ℕ) (registers memories : List Gap) (nets cores : List NetValue) (n : ℕ) (line : Line) → IsNarrowCopy whole netlist masks registers memories nets cores
    → slice_get whole.lines n ≡ Some line → is_register line.equation ≡ true → IsKeptRegister whole netlist masks registers nets cores n line
kept_register whole netlist masks registers memories nets cores n line h at register =
    let within = slice_get_within whole.lines n line at in
    let gap = h.masks_are.registers_fit n line within at in
    let has = h.made.copies n line within at in
    record {
      gap = gap.gap;
      gap_at = gap.is;
      fits = gap.fits;
      clear = gap.clear;
      net = has.net;
      number = number_is nets n has.net has.net_at;
      core = has.core;
      core_at = has.core_at;
      kept = has.copy.register gap.gap gap.is register;
    }

-- what a register shows, by its core
shown_register : (whole netlist : Netlist) (masks : List ℕ) (registers : List Gap) (nets cores : List NetValue) (n : ℕ) (line : Line) (cycle : Cycle) → (k : IsKeptRegister whole netlist masks registers nets cores n line) → IsValuation netlist cycle
    → cycle.net (number_at nets n) ≡ widened k.gap (cycle.net k.core.number)
shown_register whole netlist masks registers nets cores n line cycle k v = ap cycle.net k.number ∙ k.kept.wide cycle v

-- a word without a bit in the gap comes back
back : (gap : Gap) (core value w mask : ℕ) → FitsIn gap w → IsOpen gap mask → AreIn w value mask → core ≡ narrowed gap value → widened gap core ≡ value
back gap core value w mask fits clear inside is = ap (widened gap) is ∙ widened_narrowed gap value (open_in w value mask gap.low gap.zeros fits.inside inside clear)

starts_at : (whole netlist : Netlist) (masks : List ℕ) (registers memories : List Gap) (nets cores : List NetValue) (run : Run) (cycles n : ℕ) (line : Line) → IsNarrowCopy whole netlist masks registers memories nets cores
    → IsRun netlist run cycles → 0 < cycles → slice_get whole.lines n ≡ Some line → IfSome (reset_of line.equation) (λ x. run.net 0 (number_at nets n) ≡ x)
starts_at whole netlist masks registers memories nets cores run cycles n line h r lt at = by_equation line.equation refl where
  allowed : Allows whole masks memories n line (get_or masks n 0)
  allowed = h.masks_are.allowed n line (slice_get_within whole.lines n line at) at

  by_equation : (e : Equation) → line.equation ≡ e → IfSome (reset_of e) (λ x. run.net 0 (number_at nets n) ≡ x)
  by_equation (Reg reset next) is = (let k = kept_register whole netlist masks registers memories nets cores n line h at (ap is_register is) in
      shown_register whole netlist masks registers nets cores n line (cycle_of run 0) k (r.valuations 0 lt)
      ∙ back k.gap (run.net 0 k.core.number) reset.bits line.width (get_or masks n 0) k.fits k.clear
      (subst (λ (f : Equation). IfSome (reset_of f) (λ x. AreIn line.width x (get_or masks n 0))) is allowed.reset)
      (subst (λ (f : Equation). IfSome (reset_of f) (λ x. (s : Run) (count : ℕ) → IsRun netlist s count → 0 < count → s.net 0 k.core.number ≡ narrowed k.gap x)) is k.kept.starts run cycles r lt))
  by_equation _ is = tt

-- the width of a register's next net
pub next_width : (whole : Netlist) (n : ℕ) (line : Line) (reset : Val) (next : ℕ) → IsModule whole → slice_get whole.lines n ≡ Some line → line.equation ≡ Reg reset next → HasWidth whole next line.width
next_width whole n line reset next m at is = by_wait line.waits refl where
  by_wait : (t : Bool) → line.waits ≡ t → HasWidth whole next line.width
  by_wait true w = absurd (m.clocked n (record { line = line; is = at; waits = w }))
  by_wait false w = (let sound = (m.well_made.lines n line at).next in
      let o : next_of line ≡ Some next = ap (λ t. if t then None else next_in line.equation) w ∙ ap next_in is in
      subst (λ (x : Option ℕ). IfSome x (λ j. width_at whole.lines j ≡ Some line.width)) o sound)

-- the cycle before keeps to the masks: then a register shows what its next net showed
steps_at : (whole netlist : Netlist) (masks : List ℕ) (registers memories : List Gap) (nets cores : List NetValue) (run : Run) (cycles c n : ℕ) (line : Line) (reset : Val) (next : ℕ)
    → IsNarrowCopy whole netlist masks registers memories nets cores → IsRun netlist run cycles → c + 1 < cycles → KeepsTo whole masks memories (length whole.lines) (seen memories nets (cycle_of run c)) → slice_get whole.lines n ≡ Some line
    → line.equation ≡ Reg reset next → run.net (c + 1) (number_at nets n) ≡ run.net c (number_at nets next)
steps_at whole netlist masks registers memories nets cores run cycles c n line reset next h r lt keeps at is =
    let within = slice_get_within whole.lines n line at in
    let k = kept_register whole netlist masks registers memories nets cores n line h at (ap is_register is) in
    let wide = next_width whole n line reset next h.is_module at is in
    let some = width_at-line whole.lines next line.width wide in
    let inside = keeps.nets next line.width (slice_get_within whole.lines next some.0 some.1) wide in
    let allowed = (h.masks_are.allowed n line within at).next in
    let more : AreIn line.width (get_or masks next 0) (get_or masks n 0) = subst (λ (f : Equation). IfSome (next_in f) (λ m. AreIn line.width (get_or masks m 0) (get_or masks n 0))) is allowed in
    let step = subst (λ (f : Equation). IfSome (next_in f) (λ m. (s : Run) (count : ℕ) → IsRun netlist s count → (d : ℕ) → d + 1 < count → s.net (d + 1) k.core.number ≡ narrowed k.gap (s.net d (number_at nets m)))) is
    (h.made.next n line k.core k.gap within at k.core_at k.gap_at) run cycles r c lt in
    shown_register whole netlist masks registers nets cores n line (cycle_of run (c + 1)) k (r.valuations (c + 1) lt)
    ∙ back k.gap (run.net (c + 1) k.core.number) (run.net c (number_at nets next)) line.width (get_or masks n 0) k.fits k.clear
    (in_trans line.width (run.net c (number_at nets next)) (get_or masks next 0) (get_or masks n 0) inside more) step

-- ---- masks

-- one net more keeps to its mask
more_kept : (whole : Netlist) (masks : List ℕ) (memories : List Gap) (n : ℕ) (line : Line) (cycle : Cycle) → slice_get whole.lines n ≡ Some line → KeepsTo whole masks memories n cycle → cycle.net n < 2 ^ line.width
    → AreIn line.width (cycle.net n) (get_or masks n 0) → KeepsTo whole masks memories (suc n) cycle
more_kept whole masks memories n line cycle at k fits inside = record { fits = one_fits; nets = one_in; words = k.words } where
  same_width : (a w : ℕ) → a ≡ n → HasWidth whole a w → line.width ≡ w
  same_width a w e wide = same_Some _ _ (sym (width_at-is whole.lines n line at) ∙ subst (λ t. HasWidth whole t w) e wide)

  one_fits : (a w : ℕ) → a < suc n → HasWidth whole a w → cycle.net a < 2 ^ w
  one_fits a w lt wide = elim (cases_lt a n) [
    | inl less ↦ k.fits a w less wide
    | inr from ↦ (let e : a ≡ n = omega (arith, lt, from) in
        subst (λ t. cycle.net t < 2 ^ w) (sym e) (subst (λ t. cycle.net n < 2 ^ t) (same_width a w e wide) fits))
  ]

  one_in : (a w : ℕ) → a < suc n → HasWidth whole a w → AreIn w (cycle.net a) (get_or masks a 0)
  one_in a w lt wide = elim (cases_lt a n) [
    | inl less ↦ k.nets a w less wide
    | inr from ↦ (let e : a ≡ n = omega (arith, lt, from) in
        subst (λ t. AreIn w (cycle.net t) (get_or masks t 0)) (sym e) (subst (λ t. AreIn t (cycle.net n) (get_or masks n 0)) (same_width a w e wide) inside))
  ]

-- what registers show in a cycle is in their masks
abbrev RegistersKeep : Netlist → List ℕ → Cycle → Type 0
RegistersKeep whole masks cycle = (n : ℕ) (line : Line) → slice_get whole.lines n ≡ Some line → is_register line.equation ≡ true → AreIn line.width (cycle.net n) (get_or masks n 0)

all_kept : (whole : Netlist) (masks : List ℕ) (registers memories : List Gap) (cycle : Cycle) (count : ℕ) → AreMasks whole masks registers memories → RegistersKeep whole masks cycle
    → ((n : ℕ) (line : Line) → slice_get whole.lines n ≡ Some line → NetHolds whole.lines cycle n line) → ((m : ℕ) (gap : Gap) → slice_get memories m ≡ Some gap → (address : ℕ) → IsOpen gap (cycle.cell m address)) → count ≤ length whole.lines
    → KeepsTo whole masks memories count cycle
all_kept whole masks registers memories cycle zero m r h words few = record { fits = λ a w lt wide. absurd (omega (arith, lt)); nets = λ a w lt wide. absurd (omega (arith, lt)); words = words }
all_kept whole masks registers memories cycle (suc n) m r h words few =
    let some = slice_get-some whole.lines n (omega (arith, few)) in
    let before = all_kept whole masks registers memories cycle n m r h words (omega (arith, few)) in
    let holds = h n some.0 some.1 in
    more_kept whole masks memories n some.0 cycle some.1 before holds.fits (by_kind (is_register some.0.equation) some.0 refl some.1 before holds)
  where
    by_kind : (t : Bool) (line : Line) → is_register line.equation ≡ t → slice_get whole.lines n ≡ Some line → KeepsTo whole masks memories n cycle → NetHolds whole.lines cycle n line → AreIn line.width (cycle.net n) (get_or masks n 0)
    by_kind true line e at k g = r n line at e
    by_kind false line e at k g = (m.allowed n line (slice_get_within whole.lines n line at) at).value cycle k g e

open_words : (gaps : List Gap) (cell : ℕ → ℕ → ℕ) (m : ℕ) (gap : Gap) → slice_get gaps m ≡ Some gap → (address : ℕ) → IsOpen gap (seen_cell gaps cell m address)
open_words gaps cell m gap at address = subst (λ (g : Gap). IsOpen gap (widened g (cell m address))) (sym (gap_is gaps m gap at)) (widened_open gap (cell m address))

keeps_in : (whole netlist : Netlist) (masks : List ℕ) (registers memories : List Gap) (nets cores : List NetValue) (run : Run) (cycles c : ℕ) → IsNarrowCopy whole netlist masks registers memories nets cores → IsRun netlist run cycles → c < cycles
    → RegistersKeep whole masks (seen memories nets (cycle_of run c)) → KeepsTo whole masks memories (length whole.lines) (seen memories nets (cycle_of run c))
keeps_in whole netlist masks registers memories nets cores run cycles c h r lt keep =
    all_kept whole masks registers memories (seen memories nets (cycle_of run c)) (length whole.lines) h.masks_are keep
    (λ n line at. net_holds whole netlist masks registers memories nets cores (cycle_of run c) n line h (r.valuations c lt) at) (open_words memories (run.cell c)) (omega arith)

record IsReg (e : Equation) : Type 0 where
  pub reset : Val
  pub next : ℕ
  pub is : e ≡ Reg reset next

is_reg : (e : Equation) → is_register e ≡ true → IsReg e
is_reg (Reg reset next) h = record { reset = reset; next = next; is = refl }
is_reg _ h = cc

registers_keep : (whole netlist : Netlist) (masks : List ℕ) (registers memories : List Gap) (nets cores : List NetValue) (run : Run) (cycles c : ℕ) → IsNarrowCopy whole netlist masks registers memories nets cores → IsRun netlist run cycles
    → c < cycles → RegistersKeep whole masks (seen memories nets (cycle_of run c))
registers_keep whole netlist masks registers memories nets cores run cycles zero h r lt n line at register =
    let reg = is_reg line.equation register in
    let starts = subst (λ (f : Equation). IfSome (reset_of f) (λ x. run.net 0 (number_at nets n) ≡ x)) reg.is (starts_at whole netlist masks registers memories nets cores run cycles n line h r lt at) in
    let allowed = (h.masks_are.allowed n line (slice_get_within whole.lines n line at) at).reset in
    subst (λ x. AreIn line.width x (get_or masks n 0)) (sym starts) (subst (λ (f : Equation). IfSome (reset_of f) (λ x. AreIn line.width x (get_or masks n 0))) reg.is allowed)
registers_keep whole netlist masks registers memories nets cores run cycles (suc c) h r lt n line at register =
    let reg = is_reg line.equation register in
    let before : c < cycles = omega (arith, lt) in
    let keeps = keeps_in whole netlist masks registers memories nets cores run cycles c h r before (registers_keep whole netlist masks registers memories nets cores run cycles c h r before) in
    let next : c + 1 ≡ suc c = omega arith in
    let step = steps_at whole netlist masks registers memories nets cores run cycles c n line reg.reset reg.next h r (omega (arith, lt)) keeps at reg.is in
    let wide = next_width whole n line reg.reset reg.next h.is_module at reg.is in
    let some = width_at-line whole.lines reg.next line.width wide in
    let inside = keeps.nets reg.next line.width (slice_get_within whole.lines reg.next some.0 some.1) wide in
    let allowed = (h.masks_are.allowed n line (slice_get_within whole.lines n line at) at).next in
    let more : AreIn line.width (get_or masks reg.next 0) (get_or masks n 0) = subst (λ (f : Equation). IfSome (next_in f) (λ m. AreIn line.width (get_or masks m 0) (get_or masks n 0))) reg.is allowed in
    subst (λ t. AreIn line.width (run.net t (number_at nets n)) (get_or masks n 0)) next
    (subst (λ x. AreIn line.width x (get_or masks n 0)) (sym step) (in_trans line.width (run.net c (number_at nets reg.next)) (get_or masks reg.next 0) (get_or masks n 0) inside more))

keeps_at : (whole netlist : Netlist) (masks : List ℕ) (registers memories : List Gap) (nets cores : List NetValue) (run : Run) (cycles c : ℕ) → IsNarrowCopy whole netlist masks registers memories nets cores → IsRun netlist run cycles → c < cycles
    → KeepsTo whole masks memories (length whole.lines) (seen memories nets (cycle_of run c))
keeps_at whole netlist masks registers memories nets cores run cycles c h r lt =
    keeps_in whole netlist masks registers memories nets cores run cycles c h r lt (registers_keep whole netlist masks registers memories nets cores run cycles c h r lt)

-- ---- runs

next_step : (whole netlist : Netlist) (masks : List ℕ) (registers memories : List Gap) (nets cores : List NetValue) (run : Run) (cycles c n : ℕ) (line : Line) → IsNarrowCopy whole netlist masks registers memories nets cores → IsRun netlist run cycles
    → c + 1 < cycles → slice_get whole.lines n ≡ Some line → IfSome (next_of line) (λ m. run.net (c + 1) (number_at nets n) ≡ run.net c (number_at nets m))
next_step whole netlist masks registers memories nets cores run cycles c n line h r lt at = by_wait line.waits line.equation refl where
  keeps : KeepsTo whole masks memories (length whole.lines) (seen memories nets (cycle_of run c))
  keeps = keeps_at whole netlist masks registers memories nets cores run cycles c h r (omega (arith, lt))

  by_wait : (t : Bool) (e : Equation) → line.equation ≡ e → IfSome (if t then None else next_in e) (λ m. run.net (c + 1) (number_at nets n) ≡ run.net c (number_at nets m))
  by_wait true e is = tt
  by_wait false (Reg reset next) is = steps_at whole netlist masks registers memories nets cores run cycles c n line reset next h r lt keeps at is
  by_wait false _ is = tt

-- what a memory has after the edge, with zeros in its gap
word_back : (one other : Bool) (gap : Gap) (word before after : ℕ) → IsOpen gap word → after ≡ (if one && other then narrowed gap word else before) → widened gap after ≡ (if one && other then word else widened gap before)
word_back true true gap word before after open_is e = ap (widened gap) e ∙ widened_narrowed gap word open_is
word_back true false gap word before after open_is e = ap (widened gap) e
word_back false other gap word before after open_is e = ap (widened gap) e

write_step : (whole netlist : Netlist) (masks : List ℕ) (registers memories : List Gap) (nets cores : List NetValue) (run : Run) (cycles c m : ℕ) (memory : Memory) → IsNarrowCopy whole netlist masks registers memories nets cores
    → IsRun netlist run cycles → c + 1 < cycles → slice_get whole.memories m ≡ Some memory → (address : ℕ) → address < 2 ^ memory.address_bits
    → IfSome memory.write (λ write. seen_cell memories (run.cell (c + 1)) m address ≡ word_after (seen memories nets (cycle_of run c)) write m address)
write_step whole netlist masks registers memories nets cores run cycles c m memory h r lt at address below = by_write memory.write refl where
  within : m < length whole.memories
  within = slice_get_within whole.memories m memory at

  keeps : KeepsTo whole masks memories (length whole.lines) (seen memories nets (cycle_of run c))
  keeps = keeps_at whole netlist masks registers memories nets cores run cycles c h r (omega (arith, lt))

  has : HasMemoryGap memories m memory
  has = h.masks_are.memories_fit m memory within at

  by_write : (o : Option MemWrite) → memory.write ≡ o → IfSome o (λ write. seen_cell memories (run.cell (c + 1)) m address ≡ word_after (seen memories nets (cycle_of run c)) write m address)
  by_write None is = tt
  by_write (Some write) is =
      (let sound = subst (λ (o : Option MemWrite). IfSome o (λ w. IsWriteOf whole.lines memory w)) is (h.is_module.well_made.memories m memory at).write in
      let some = width_at-line whole.lines write.word memory.width sound.word in
      let inside = keeps.nets write.word memory.width (slice_get_within whole.lines write.word some.0 some.1) sound.word in
      let clear = subst (λ (o : Option MemWrite). IfSome o (λ w. IsOpen has.gap (get_or masks w.word 0))) is (h.masks_are.written m memory has.gap within at has.is) in
      let step = subst
      (λ (o : Option MemWrite). IfSome o (λ w. (s : Run) (count : ℕ) → IsRun netlist s count → (d : ℕ) → d + 1 < count → (a : ℕ) → a < 2 ^ memory.address_bits
      → s.cell (d + 1) m a ≡ (if (s.net d (number_at nets w.enable) == 1) && (s.net d (number_at nets w.address) == a) then narrowed has.gap (s.net d (number_at nets w.word)) else s.cell d m a))) is
      (h.made.writes m memory has.gap within at has.is) run cycles r c lt address below in
      subst (λ (g : Gap). widened g (run.cell (c + 1) m address) ≡ (if (run.net c (number_at nets write.enable) == 1) && (run.net c (number_at nets write.address) == address) then run.net c (number_at nets write.word) else widened g (run.cell c m address)))
      (sym (gap_is memories m has.gap has.is))
      (word_back (run.net c (number_at nets write.enable) == 1) (run.net c (number_at nets write.address) == address) has.gap (run.net c (number_at nets write.word)) (run.cell c m address) (run.cell (c + 1) m address)
      (open_in memory.width (run.net c (number_at nets write.word)) (get_or masks write.word 0) has.gap.low has.gap.zeros has.fits.inside inside clear) step))

run_is : (whole netlist : Netlist) (masks : List ℕ) (registers memories : List Gap) (nets cores : List NetValue) (run : Run) (cycles : ℕ) → IsNarrowCopy whole netlist masks registers memories nets cores → IsRun netlist run cycles
    → IsRun whole (seen_run memories nets run) cycles
run_is whole netlist masks registers memories nets cores run cycles h r = record {
  valuations = λ c lt. valuation whole netlist masks registers memories nets cores (cycle_of run c) h (r.valuations c lt);
  starts = λ lt. record { registers = λ n line at. starts_at whole netlist masks registers memories nets cores run cycles n line h r lt at };
  steps = λ c lt. record {
    registers = λ n line at. next_step whole netlist masks registers memories nets cores run cycles c n line h r lt at;
    words = λ m memory at address below. write_step whole netlist masks registers memories nets cores run cycles c m memory h r lt at address below;
  };
}

-- ---- signals

port_net_is : (whole netlist : Netlist) (masks : List ℕ) (registers memories : List Gap) (nets cores : List NetValue) (k : ℕ) (port : PortLine) → IsNarrowCopy whole netlist masks registers memories nets cores → slice_get whole.ports k ≡ Some port
    → number_at nets (port_net whole k) ≡ port_net netlist k
port_net_is whole netlist masks registers memories nets cores k port h at = by_driver (driver_of whole k) refl where
  driven : driver_of netlist k ≡ option_map (number_at nets) (driver_of whole k)
  driven = h.made.driven k (slice_get_within whole.ports k port at)

  input : IsInputPort whole.ports k port.width → number_at nets (input_net whole.ports k) ≡ input_net whole.ports k
  input i = (let line = line_of port.width (Input (0 + k)) in
      let there = h.is_module.well_made.inputs.first (input_net whole.ports k) line (input_lines-at whole.ports 0 k port.width i) in
      let has = h.made.copies (input_net whole.ports k) line (slice_get_within whole.lines (input_net whole.ports k) line there) there in
      let plain : 0 + k ≡ k = omega arith in
      number_is nets (input_net whole.ports k) has.net has.net_at ∙ has.copy.input (0 + k) refl ∙ ap (input_net whole.ports) plain)

  by_direction : (t : Bool) → port.output ≡ t → driver_of whole k ≡ None → number_at nets (input_net whole.ports k) ≡ input_net whole.ports k
  by_direction true f e = absurd (let some : IsSome (driver_of whole k) = h.is_module.driven k port.width (record { port = port; is = at; output = f; width = refl }) in
      let none : IsSome {T = ℕ} None = subst (λ (o : Option ℕ). IsSome o) e some in cc)
  by_direction false f e = input (record { port = port; is = at; input = f; width = refl })

  by_driver : (o : Option ℕ) → driver_of whole k ≡ o → number_at nets (port_net whole k) ≡ port_net netlist k
  by_driver (Some d) e =
      (let there : driver_of netlist k ≡ Some (number_at nets d) = driven ∙ ap (option_map (number_at nets)) e in
      ap (λ (o : Option ℕ). number_at nets (unwrap_or o (input_net whole.ports k))) e ∙ sym (ap (λ (o : Option ℕ). unwrap_or o (input_net netlist.ports k)) there))
  by_driver None e =
      (let there : driver_of netlist k ≡ None = driven ∙ ap (option_map (number_at nets)) e in
      ap (λ (o : Option ℕ). number_at nets (unwrap_or o (input_net whole.ports k))) e ∙ by_direction port.output refl e
      ∙ ap (λ (ps : List PortLine). input_net ps k) (sym h.made.ports) ∙ sym (ap (λ (o : Option ℕ). unwrap_or o (input_net netlist.ports k)) there))

signals_same : (whole netlist : Netlist) (masks : List ℕ) (registers memories : List Gap) (nets cores : List NetValue) (one other : Run) → IsNarrowCopy whole netlist masks registers memories nets cores
    → ((c n : ℕ) → one.net c n ≡ other.net c (number_at nets n)) → (name : List ℕ) → signal whole one name ≡ signal netlist other name
signals_same whole netlist masks registers memories nets cores one other h same name =
    by_port (port_named whole.ports name) (λ k e. named_port whole.ports name k e)
    ∙ ap (λ (ps : List PortLine). option_map {U = ℕ → ℕ} (λ k. λ c. port_value netlist other c k) (port_named ps name)) (sym h.made.ports)
  where
    by_port : (o : Option ℕ) → ((k : ℕ) → o ≡ Some k → (port : PortLine) × (slice_get whole.ports k ≡ Some port))
        → option_map {U = ℕ → ℕ} (λ k. λ c. port_value whole one c k) o ≡ option_map {U = ℕ → ℕ} (λ k. λ c. port_value netlist other c k) o
    by_port None f = refl
    by_port (Some k) f = (let port = f k refl in
        let its = port_net_is whole netlist masks registers memories nets cores k port.0 h port.1 in
        ap Some (fun_ext (λ c. same c (port_net whole k) ∙ ap (other.net c) its)))

-- ---- states

abbrev state_of : List Gap → List Gap → List NetValue → Cycle → Cycle
state_of registers memories cores state = record {
  input = state.input;
  net = λ n. widened (gap_or registers n) (state.net (number_at cores n));
  cell = seen_cell memories state.cell;
}

same_state : (whole netlist : Netlist) (masks : List ℕ) (registers memories : List Gap) (nets cores : List NetValue) (state cycle : Cycle) → IsNarrowCopy whole netlist masks registers memories nets cores → IsValuation netlist cycle
    → SameState netlist state cycle → SameState whole (state_of registers memories cores state) (seen memories nets cycle)
same_state whole netlist masks registers memories nets cores state cycle h v s = record {
  registers = λ n line at register. (let k = kept_register whole netlist masks registers memories nets cores n line h at register in
      let same = s.registers k.core.number k.kept.register.line k.kept.register.is k.kept.register.register in
      ap (λ (g : Gap). widened g (state.net (number_at cores n))) (gap_is registers n k.gap k.gap_at) ∙ ap (λ t. widened k.gap (state.net t)) (number_is cores n k.core k.core_at) ∙ ap (widened k.gap) same
      ∙ sym (shown_register whole netlist masks registers nets cores n line cycle k v));
  words = λ m memory at address below. (let has = h.made.narrow m memory (slice_get_within whole.memories m memory at) at in
      ap (widened (gap_or memories m)) (s.words m has.is.memory has.is.is address (subst (λ t. address < 2 ^ t) (sym has.is.address_bits) below)));
}

-- ---- the law

driven_fixed : (whole netlist : Netlist) (masks : List ℕ) (registers memories : List Gap) (nets cores : List NetValue) (k n : ℕ) → IsNarrowCopy whole netlist masks registers memories nets cores → driver_of whole k ≡ Some n
    → AreFixed whole (n + 1) → driver_of netlist k ≡ Some n
driven_fixed whole netlist masks registers memories nets cores k n h e fixed =
    let driver = h.is_module.well_made.drivers k n e in
    let line = width_at-line whole.lines n driver.width driver.net in
    let within = slice_get_within whole.lines n line.0 line.1 in
    let has = h.made.copies n line.0 within line.1 in
    let same : number_at nets n ≡ n = number_is nets n has.net has.net_at ∙ h.made.fixed.number n has.net within has.net_at fixed in
    h.made.driven k (slice_get_within whole.ports k driver.port.port driver.port.is) ∙ ap (option_map (number_at nets)) e ∙ ap Some same

pub narrowed_is : (whole netlist : Netlist) (masks : List ℕ) (registers memories : List Gap) (nets cores : List NetValue) → IsNarrowCopy whole netlist masks registers memories nets cores → IsNarrowed whole netlist
narrowed_is whole netlist masks registers memories nets cores h = record {
  name = h.made.name;
  ports = h.made.ports;
  lines = λ n line at fixed. h.made.fixed.line n line (slice_get_within whole.lines n line at) at fixed;
  drivers = λ k n e fixed. driven_fixed whole netlist masks registers memories nets cores k n h e fixed;
  runs = λ run cycles r. record {
    whole_run = seen_run memories nets run;
    is_run = run_is whole netlist masks registers memories nets cores run cycles h r;
    inputs = refl;
    signals = signals_same whole netlist masks registers memories nets cores (seen_run memories nets run) run h (λ c n. refl);
  };
  states = λ state. record {
    whole_state = state_of registers memories cores state;
    each = λ cycle v s. record {
      whole_cycle = seen memories nets cycle;
      valuation = valuation whole netlist masks registers memories nets cores cycle h v;
      same_state = same_state whole netlist masks registers memories nets cores state cycle h v s;
      inputs = refl;
      signals = signals_same whole netlist masks registers memories nets cores (over_and_over (seen memories nets cycle)) (over_and_over cycle) h (λ c n. refl);
    };
  };
}
