-- Bits that equations give by bits of their operands.
use Rattle.std.proofs.Common.{◌≡◌, ℕ, ◌+◌, ◌-◌, ◌*◌, ◌/◌, ◌%◌, ◌^◌, ◌<◌, ◌≤◌, true, false, List, length, get_or, slice_get, Option, Some, None, refl, sym, ap, subst, ◌∙◌, arith, bit_and, bit_or}
use Rattle.std.specs.Prelude.{◌==◌, IfSome}
use Rattle.std.specs.Int.{bit_at}
use Rattle.std.proofs.lemmas.Nat.Bits.{bit_at_ones}
use Rattle.std.proofs.lemmas.Option.{same_Some, slice_get_within, get_or_from_slice_get}
use Rattle.av_base.specs.declared.value.Val.{Val}
use Rattle.netlist.specs.declared.line.Line.{Line}
use Rattle.netlist.specs.declared.line.Equation.{Equation}
use Rattle.netlist.specs.declared.line.Equation.TheVariants.{Input, Constant, And, Or, Xor, Add, Sub, Eq, Less, Concat, Not, Any, Mux, Slice, Reg, Read}
use Rattle.netlist.specs.Netlists.{Netlist, IsModule, IsSound, AreOperands, HasWidth, is_register, next_in, line_of, line_with}
use Rattle.netlist.specs.Runs.{Cycle, value_of, reset_of}
use Rattle.narrowed_netlists.specs.declared.gaps.Gap.{Gap}
use Rattle.narrowed_netlists.specs.Masks.{AreIn, IsFromLowest, KeepsTo, Allows, AreMemoryGaps}
use Rattle.narrowed_netlists.proofs.BitLemmas.{in_or_l, in_or_r, in_and, in_or, in_xor, in_choice, in_same, in_cut, in_ones, in_one, in_slice, in_concat, in_sum, in_outside}
use Rattle.narrowed_netlists.proofs.Lists.{slice_get-some, width_at-line, width_at-is}

-- ---- lines by their equations

line_is : (line : Line) (e : Equation) → line.equation ≡ e → line ≡ line_with line.width e line.waits
line_is line e is = ap (λ x. line_with line.width x line.waits) is

-- what an equation says of its net, where it is no register's
pub record Says (b : Netlist) (masks : List ℕ) (gaps : List Gap) (n w : ℕ) (e : Equation) (bits : ℕ) : Type 0 where
  pub value : (cycle : Cycle) → KeepsTo b masks gaps n cycle → cycle.net n < 2 ^ w → IfSome (value_of b.lines cycle w e) (λ x. cycle.net n ≡ x) → AreIn w (cycle.net n) bits

pub allows : (b : Netlist) (masks : List ℕ) (gaps : List Gap) (n : ℕ) (line : Line) (e : Equation) (bits : ℕ) → line.equation ≡ e → is_register e ≡ false → Says b masks gaps n line.width e bits → Allows b masks gaps n line bits
allows b masks gaps n line e bits is plain s = subst (λ (x : Line). Allows b masks gaps n x bits) (sym (line_is line e is)) (by_equation e plain s) where
  by_equation : (f : Equation) → is_register f ≡ false → Says b masks gaps n line.width f bits → Allows b masks gaps n (line_with line.width f line.waits) bits
  by_equation (Reg reset next) r t = cc
  by_equation (Input port) r t = record { value = λ cycle k h _. t.value cycle k h.fits h.value; reset = tt; next = tt }
  by_equation (Constant value) r t = record { value = λ cycle k h _. t.value cycle k h.fits h.value; reset = tt; next = tt }
  by_equation (And a c) r t = record { value = λ cycle k h _. t.value cycle k h.fits h.value; reset = tt; next = tt }
  by_equation (Or a c) r t = record { value = λ cycle k h _. t.value cycle k h.fits h.value; reset = tt; next = tt }
  by_equation (Xor a c) r t = record { value = λ cycle k h _. t.value cycle k h.fits h.value; reset = tt; next = tt }
  by_equation (Add a c) r t = record { value = λ cycle k h _. t.value cycle k h.fits h.value; reset = tt; next = tt }
  by_equation (Sub a c) r t = record { value = λ cycle k h _. t.value cycle k h.fits h.value; reset = tt; next = tt }
  by_equation (Eq a c) r t = record { value = λ cycle k h _. t.value cycle k h.fits h.value; reset = tt; next = tt }
  by_equation (Less a c) r t = record { value = λ cycle k h _. t.value cycle k h.fits h.value; reset = tt; next = tt }
  by_equation (Concat a c) r t = record { value = λ cycle k h _. t.value cycle k h.fits h.value; reset = tt; next = tt }
  by_equation (Not a) r t = record { value = λ cycle k h _. t.value cycle k h.fits h.value; reset = tt; next = tt }
  by_equation (Any a) r t = record { value = λ cycle k h _. t.value cycle k h.fits h.value; reset = tt; next = tt }
  by_equation (Mux s a c) r t = record { value = λ cycle k h _. t.value cycle k h.fits h.value; reset = tt; next = tt }
  by_equation (Slice a high low) r t = record { value = λ cycle k h _. t.value cycle k h.fits h.value; reset = tt; next = tt }
  by_equation (Read m a) r t = record { value = λ cycle k h _. t.value cycle k h.fits h.value; reset = tt; next = tt }

-- ---- what each equation says

-- each bit
pub says_all : (b : Netlist) (masks : List ℕ) (gaps : List Gap) (n w : ℕ) (e : Equation) → w ≤ 128 → Says b masks gaps n w e 340282366920938463463374607431768211455
says_all b masks gaps n w e small = record { value = λ cycle k fits h. in_ones w (cycle.net n) (2 ^ 128 - 1) (λ i lt. bit_at_ones 128 i (omega (arith, lt, small))) }

-- the lowest bit
pub says_one : (b : Netlist) (masks : List ℕ) (gaps : List Gap) (n w : ℕ) (e : Equation) → w ≡ 1 → Says b masks gaps n w e 1
says_one b masks gaps n w e one = record { value = λ cycle k fits h. in_one w (cycle.net n) (subst (λ t. cycle.net n < 2 ^ t) one fits) }

pub says_constant : (b : Netlist) (masks : List ℕ) (gaps : List Gap) (n w : ℕ) (value : Val) → Says b masks gaps n w (Constant value) value.bits
says_constant b masks gaps n w value = record { value = λ cycle k fits h. (λ i lt. let e = ap (λ x. bit_at x i) h in omega (arith, e)) }

pub says_and : (b : Netlist) (masks : List ℕ) (gaps : List Gap) (n w a c : ℕ) → AreOperands b.lines n a c w → Says b masks gaps n w (And a c) (bit_and (get_or masks a 0) (get_or masks c 0))
says_and b masks gaps n w a c s = record {
  value = λ cycle k fits h. subst (λ x. AreIn w x (bit_and (get_or masks a 0) (get_or masks c 0))) (sym h)
      (in_and w (cycle.net a) (cycle.net c) (get_or masks a 0) (get_or masks c 0) (k.nets a w s.left.below s.left.width) (k.nets c w s.right.below s.right.width));
}

pub says_or : (b : Netlist) (masks : List ℕ) (gaps : List Gap) (n w a c : ℕ) → AreOperands b.lines n a c w → Says b masks gaps n w (Or a c) (bit_or (get_or masks a 0) (get_or masks c 0))
says_or b masks gaps n w a c s = record {
  value = λ cycle k fits h. subst (λ x. AreIn w x (bit_or (get_or masks a 0) (get_or masks c 0))) (sym h)
      (in_or w (cycle.net a) (cycle.net c) (get_or masks a 0) (get_or masks c 0) (k.nets a w s.left.below s.left.width) (k.nets c w s.right.below s.right.width));
}

pub says_xor : (b : Netlist) (masks : List ℕ) (gaps : List Gap) (n w a c : ℕ) → AreOperands b.lines n a c w → Says b masks gaps n w (Xor a c) (bit_or (get_or masks a 0) (get_or masks c 0))
says_xor b masks gaps n w a c s = record {
  value = λ cycle k fits h. subst (λ x. AreIn w x (bit_or (get_or masks a 0) (get_or masks c 0))) (sym h)
      (in_xor w (cycle.net a) (cycle.net c) (get_or masks a 0) (get_or masks c 0) (k.nets a w s.left.below s.left.width) (k.nets c w s.right.below s.right.width));
}

pub says_add : (b : Netlist) (masks : List ℕ) (gaps : List Gap) (n w a c bits : ℕ) → w ≤ 128 → AreOperands b.lines n a c w → IsFromLowest (bit_or (get_or masks a 0) (get_or masks c 0)) bits → Says b masks gaps n w (Add a c) bits
says_add b masks gaps n w a c bits small s f = record {
  value = λ cycle k fits h. subst (λ x. AreIn w x bits) (sym h)
      (in_sum w (cycle.net a) (cycle.net c) (get_or masks a 0) (get_or masks c 0) bits f.lowest (k.nets a w s.left.below s.left.width) (k.nets c w s.right.below s.right.width) f.below
      (λ i from lt. f.above i from (omega (arith, lt, small))));
}

pub says_concat : (b : Netlist) (masks : List ℕ) (gaps : List Gap) (n w a c v : ℕ) → w ≤ 128 → IsSound b.ports b.memories b.lines n w (Concat a c) → HasWidth b c v
    → Says b masks gaps n w (Concat a c) (bit_or (get_or masks a 0 * 2 ^ v % 2 ^ 128) (get_or masks c 0))
says_concat b masks gaps n w a c v small s wide =
    let same : v ≡ s.low_width = same_Some _ _ (sym wide ∙ s.low.width) in
    subst (λ t. Says b masks gaps n w (Concat a c) (bit_or (get_or masks a 0 * 2 ^ t % 2 ^ 128) (get_or masks c 0))) (sym same) (record {
      value = λ cycle k fits h. (let is : cycle.net n ≡ cycle.net a * 2 ^ s.low_width + cycle.net c = rw s.low.width at h in
          subst (λ x. AreIn w x (bit_or (get_or masks a 0 * 2 ^ s.low_width % 2 ^ 128) (get_or masks c 0))) (sym is)
          (in_concat s.high_width w s.low_width (cycle.net a) (cycle.net c) (get_or masks a 0) (get_or masks c 0) small (sym s.sum) (k.fits c s.low_width s.low.below s.low.width)
          (k.nets a s.high_width s.high.below s.high.width) (k.nets c s.low_width s.low.below s.low.width)));
    })

pub says_mux : (b : Netlist) (masks : List ℕ) (gaps : List Gap) (n w t a c : ℕ) → AreOperands b.lines n a c w → Says b masks gaps n w (Mux t a c) (bit_or (get_or masks a 0) (get_or masks c 0))
says_mux b masks gaps n w t a c s = record {
  value = λ cycle k fits h. subst (λ x. AreIn w x (bit_or (get_or masks a 0) (get_or masks c 0))) (sym h)
      (in_choice w (cycle.net a) (cycle.net c) (get_or masks a 0) (get_or masks c 0) (cycle.net t == 0) (k.nets a w s.left.below s.left.width) (k.nets c w s.right.below s.right.width));
}

pub says_slice : (b : Netlist) (masks : List ℕ) (gaps : List Gap) (n w a high low : ℕ) → IsSound b.ports b.memories b.lines n w (Slice a high low) → Says b masks gaps n w (Slice a high low) (get_or masks a 0 / 2 ^ low)
says_slice b masks gaps n w a high low s = record {
  value = λ cycle k fits h. subst (λ x. AreIn w x (get_or masks a 0 / 2 ^ low)) (sym h)
      (in_slice s.width w (cycle.net a) (get_or masks a 0) low (high - low + 1) (k.fits a s.width s.operand.below s.operand.width) (k.nets a s.width s.operand.below s.operand.width));
}

pub says_read : (b : Netlist) (masks : List ℕ) (gaps : List Gap) (n w m a bits : ℕ) (gap : Gap) → w ≤ 128 → slice_get gaps m ≡ Some gap → ((i : ℕ) → i < gap.low → bit_at bits i ≡ 1)
    → ((i : ℕ) → gap.low + gap.zeros ≤ i → i < 128 → bit_at bits i ≡ 1) → Says b masks gaps n w (Read m a) bits
says_read b masks gaps n w m a bits gap small is below above = record {
  value = λ cycle k fits h. subst (λ x. AreIn w x bits) (sym h)
      (in_outside w (cycle.cell m (cycle.net a)) bits gap.low gap.zeros (k.words m gap is (cycle.net a)) below (λ i from lt. above i from (omega (arith, lt, small))));
}

pub allows_register : (b : Netlist) (masks : List ℕ) (gaps : List Gap) (n : ℕ) (line : Line) (reset : Val) (next : ℕ) → line.equation ≡ Reg reset next → Allows b masks gaps n line (bit_or reset.bits (get_or masks next 0))
allows_register b masks gaps n line reset next is = subst (λ (x : Line). Allows b masks gaps n x (bit_or reset.bits (get_or masks next 0))) (sym (line_is line (Reg reset next) is)) (record {
  value = λ cycle k h r. absurd (is_none r);
  reset = in_or_l line.width reset.bits reset.bits (get_or masks next 0) (λ i lt. omega arith);
  next = in_or_r line.width (get_or masks next 0) reset.bits (get_or masks next 0) (λ i lt. omega arith);
}) where
  is_none : true ≡ false → ⊥
  is_none e = cc

-- ---- masks that have the bits already

some_in : (w : ℕ) (o : Option ℕ) (f : ℕ → ℕ) (x y : ℕ) → ((n : ℕ) → AreIn w n x → AreIn w n y) → IfSome o (λ v. AreIn w (f v) x) → IfSome o (λ v. AreIn w (f v) y)
some_in w None f x y h k = tt
some_in w (Some v) f x y h k = h (f v) k

pub allows_held : (b : Netlist) (masks : List ℕ) (gaps : List Gap) (n w : ℕ) (line : Line) (given mask : ℕ) → line.width ≡ w → Allows b masks gaps n line given → bit_or mask (given % 2 ^ w) ≡ mask → Allows b masks gaps n line mask
allows_held b masks gaps n w line given mask wide h held = record {
  value = λ cycle k holds plain. more (cycle.net n) (h.value cycle k holds plain);
  reset = some_in line.width (reset_of line.equation) (λ x. x) given mask more h.reset;
  next = some_in line.width (next_in line.equation) (λ m. get_or masks m 0) given mask more h.next;
} where
  more : (x : ℕ) → AreIn line.width x given → AreIn line.width x mask
  more x i = in_same line.width x mask (given % 2 ^ w) held (subst (λ t. AreIn line.width x (given % 2 ^ t)) wide (in_cut line.width x given i))

-- ---- lines of a module

pub sound_as : (b : Netlist) (n : ℕ) (line : Line) (e : Equation) → IsModule b → slice_get b.lines n ≡ Some line → line.equation ≡ e → IsSound b.ports b.memories b.lines n line.width e
sound_as b n line e m at is = subst (IsSound b.ports b.memories b.lines n line.width) is (m.well_made.lines n line at).equation

pub small_line : (b : Netlist) (n : ℕ) (line : Line) → IsModule b → slice_get b.lines n ≡ Some line → line.width ≤ 128
small_line b n line m at = (m.well_made.lines n line at).small

-- what is said of the net's equation
abbrev pub IsOf : Netlist → ℕ → Equation → Type 0
IsOf b n e = (line : Line) → slice_get b.lines n ≡ Some line → line.equation ≡ e

pub is_of : (b : Netlist) (n : ℕ) (e f : Equation) → IsOf b n e → e ≡ f → IsOf b n f
is_of b n e f h is line at = h line at ∙ is

pub allow_all : (b : Netlist) (masks : List ℕ) (gaps : List Gap) (n : ℕ) (e : Equation) → IsModule b → IsOf b n e → is_register e ≡ false → (line : Line) → slice_get b.lines n ≡ Some line
    → Allows b masks gaps n line 340282366920938463463374607431768211455
allow_all b masks gaps n e m h plain line at = allows b masks gaps n line e _ (h line at) plain (says_all b masks gaps n line.width e (small_line b n line m at))

pub allow_constant : (b : Netlist) (masks : List ℕ) (gaps : List Gap) (n : ℕ) (value : Val) → IsModule b → IsOf b n (Constant value) → (line : Line) → slice_get b.lines n ≡ Some line → Allows b masks gaps n line value.bits
allow_constant b masks gaps n value m h line at = allows b masks gaps n line (Constant value) _ (h line at) refl (says_constant b masks gaps n line.width value)

pub allow_and : (b : Netlist) (masks : List ℕ) (gaps : List Gap) (n a c : ℕ) → IsModule b → IsOf b n (And a c) → (line : Line) → slice_get b.lines n ≡ Some line → Allows b masks gaps n line (bit_and (get_or masks a 0) (get_or masks c 0))
allow_and b masks gaps n a c m h line at = allows b masks gaps n line (And a c) _ (h line at) refl (says_and b masks gaps n line.width a c (sound_as b n line (And a c) m at (h line at)))

pub allow_or : (b : Netlist) (masks : List ℕ) (gaps : List Gap) (n a c : ℕ) → IsModule b → IsOf b n (Or a c) → (line : Line) → slice_get b.lines n ≡ Some line → Allows b masks gaps n line (bit_or (get_or masks a 0) (get_or masks c 0))
allow_or b masks gaps n a c m h line at = allows b masks gaps n line (Or a c) _ (h line at) refl (says_or b masks gaps n line.width a c (sound_as b n line (Or a c) m at (h line at)))

pub allow_xor : (b : Netlist) (masks : List ℕ) (gaps : List Gap) (n a c : ℕ) → IsModule b → IsOf b n (Xor a c) → (line : Line) → slice_get b.lines n ≡ Some line → Allows b masks gaps n line (bit_or (get_or masks a 0) (get_or masks c 0))
allow_xor b masks gaps n a c m h line at = allows b masks gaps n line (Xor a c) _ (h line at) refl (says_xor b masks gaps n line.width a c (sound_as b n line (Xor a c) m at (h line at)))

pub allow_add : (b : Netlist) (masks : List ℕ) (gaps : List Gap) (n a c bits : ℕ) → IsModule b → IsOf b n (Add a c) → IsFromLowest (bit_or (get_or masks a 0) (get_or masks c 0)) bits → (line : Line) → slice_get b.lines n ≡ Some line
    → Allows b masks gaps n line bits
allow_add b masks gaps n a c bits m h f line at = allows b masks gaps n line (Add a c) _ (h line at) refl (says_add b masks gaps n line.width a c bits (small_line b n line m at) (sound_as b n line (Add a c) m at (h line at)) f)

pub allow_eq : (b : Netlist) (masks : List ℕ) (gaps : List Gap) (n a c : ℕ) → IsModule b → IsOf b n (Eq a c) → (line : Line) → slice_get b.lines n ≡ Some line → Allows b masks gaps n line 1
allow_eq b masks gaps n a c m h line at = allows b masks gaps n line (Eq a c) _ (h line at) refl (says_one b masks gaps n line.width (Eq a c) (sound_as b n line (Eq a c) m at (h line at)).one_bit)

pub allow_less : (b : Netlist) (masks : List ℕ) (gaps : List Gap) (n a c : ℕ) → IsModule b → IsOf b n (Less a c) → (line : Line) → slice_get b.lines n ≡ Some line → Allows b masks gaps n line 1
allow_less b masks gaps n a c m h line at = allows b masks gaps n line (Less a c) _ (h line at) refl (says_one b masks gaps n line.width (Less a c) (sound_as b n line (Less a c) m at (h line at)).one_bit)

pub allow_any : (b : Netlist) (masks : List ℕ) (gaps : List Gap) (n a : ℕ) → IsModule b → IsOf b n (Any a) → (line : Line) → slice_get b.lines n ≡ Some line → Allows b masks gaps n line 1
allow_any b masks gaps n a m h line at = allows b masks gaps n line (Any a) _ (h line at) refl (says_one b masks gaps n line.width (Any a) (sound_as b n line (Any a) m at (h line at)).one_bit)

pub allow_concat : (b : Netlist) (masks : List ℕ) (gaps : List Gap) (n a c v : ℕ) → IsModule b → IsOf b n (Concat a c) → HasWidth b c v → (line : Line) → slice_get b.lines n ≡ Some line
    → Allows b masks gaps n line (bit_or (get_or masks a 0 * 2 ^ v % 2 ^ 128) (get_or masks c 0))
allow_concat b masks gaps n a c v m h wide line at =
    allows b masks gaps n line (Concat a c) _ (h line at) refl (says_concat b masks gaps n line.width a c v (small_line b n line m at) (sound_as b n line (Concat a c) m at (h line at)) wide)

pub allow_mux : (b : Netlist) (masks : List ℕ) (gaps : List Gap) (n t a c : ℕ) → IsModule b → IsOf b n (Mux t a c) → (line : Line) → slice_get b.lines n ≡ Some line
    → Allows b masks gaps n line (bit_or (get_or masks a 0) (get_or masks c 0))
allow_mux b masks gaps n t a c m h line at = allows b masks gaps n line (Mux t a c) _ (h line at) refl (says_mux b masks gaps n line.width t a c (sound_as b n line (Mux t a c) m at (h line at)).branches)

pub allow_slice : (b : Netlist) (masks : List ℕ) (gaps : List Gap) (n a high low : ℕ) → IsModule b → IsOf b n (Slice a high low) → (line : Line) → slice_get b.lines n ≡ Some line → Allows b masks gaps n line (get_or masks a 0 / 2 ^ low)
allow_slice b masks gaps n a high low m h line at =
    allows b masks gaps n line (Slice a high low) _ (h line at) refl (says_slice b masks gaps n line.width a high low (sound_as b n line (Slice a high low) m at (h line at)))

pub allow_read : (b : Netlist) (masks : List ℕ) (gaps : List Gap) (n j a bits : ℕ) (gap : Gap) → IsModule b → IsOf b n (Read j a) → slice_get gaps j ≡ Some gap → ((i : ℕ) → i < gap.low → bit_at bits i ≡ 1)
    → ((i : ℕ) → gap.low + gap.zeros ≤ i → i < 128 → bit_at bits i ≡ 1) → (line : Line) → slice_get b.lines n ≡ Some line → Allows b masks gaps n line bits
allow_read b masks gaps n j a bits gap m h is below above line at =
    allows b masks gaps n line (Read j a) _ (h line at) refl (says_read b masks gaps n line.width j a bits gap (small_line b n line m at) is below above)

pub allow_register : (b : Netlist) (masks : List ℕ) (gaps : List Gap) (n : ℕ) (reset : Val) (next : ℕ) → IsOf b n (Reg reset next) → (line : Line) → slice_get b.lines n ≡ Some line
    → Allows b masks gaps n line (bit_or reset.bits (get_or masks next 0))
allow_register b masks gaps n reset next h line at = allows_register b masks gaps n line reset next (h line at)

-- ---- within the module

pub concat_within : (b : Netlist) (n a c : ℕ) → IsModule b → n < length b.lines → IsOf b n (Concat a c) → c < length b.lines
concat_within b n a c m lt h =
    let some = slice_get-some b.lines n lt in
    let sound = sound_as b n some.0 (Concat a c) m some.1 (h some.0 some.1) in
    let low = width_at-line b.lines c sound.low_width sound.low.width in
    slice_get_within b.lines c low.0 low.1

-- the lower part of a word is shorter than the longest word
pub concat_short : (b : Netlist) (n a c v : ℕ) → IsModule b → n < length b.lines → IsOf b n (Concat a c) → HasWidth b c v → v < 128
concat_short b n a c v m lt h wide =
    let some = slice_get-some b.lines n lt in
    let sound = sound_as b n some.0 (Concat a c) m some.1 (h some.0 some.1) in
    let high = width_at-line b.lines a sound.high_width sound.high.width in
    let some_bit = (m.well_made.lines a high.0 high.1).some_bit in
    let high_is = high.2 in
    let sum = sound.sum in
    let small = small_line b n some.0 m some.1 in
    let same : v ≡ sound.low_width = same_Some _ _ (sym wide ∙ sound.low.width) in
    omega (arith, some_bit, high_is, sum, small, same)

pub slice_short : (b : Netlist) (n a high low : ℕ) → IsModule b → n < length b.lines → IsOf b n (Slice a high low) → low < 128
slice_short b n a high low m lt h =
    let some = slice_get-some b.lines n lt in
    let sound = sound_as b n some.0 (Slice a high low) m some.1 (h some.0 some.1) in
    let line = width_at-line b.lines a sound.width sound.operand.width in
    let small = small_line b a line.0 m line.1 in
    let wide = line.2 in
    let order = sound.order in
    let inside = sound.inside in
    omega (arith, small, wide, order, inside)

pub read_within : (b : Netlist) (n j a : ℕ) → IsModule b → n < length b.lines → IsOf b n (Read j a) → j < length b.memories
read_within b n j a m lt h =
    let some = slice_get-some b.lines n lt in
    let sound = sound_as b n some.0 (Read j a) m some.1 (h some.0 some.1) in
    slice_get_within b.memories j sound.memory sound.is

-- the gap of a memory is inside the longest word
pub gap_small : (b : Netlist) (gaps : List Gap) (j : ℕ) (d : Gap) → IsModule b → AreMemoryGaps b gaps (length b.memories) → j < length b.memories → (get_or gaps j d).low + (get_or gaps j d).zeros ≤ 128
gap_small b gaps j d m h lt =
    let some = slice_get-some b.memories j lt in
    let has = h j some.0 lt some.1 in
    let small = (m.well_made.memories j some.0 some.1).small in
    let inside = has.fits.inside in
    subst (λ (g : Gap). g.low + g.zeros ≤ 128) (sym (get_or_from_slice_get gaps j has.gap d has.is)) (omega (arith, small, inside))

-- what is read from a module is what stands there
pub told : (b : Netlist) (n : ℕ) (e : Equation) (line : Line) → ((w : ℕ) → HasWidth b n w → slice_get b.lines n ≡ Some (line_of w e)) → slice_get b.lines n ≡ Some line → line.equation ≡ e
told b n e line f at = ap (λ (l : Line). l.equation) (same_Some _ _ (sym at ∙ f line.width (width_at-is b.lines n line at)))
