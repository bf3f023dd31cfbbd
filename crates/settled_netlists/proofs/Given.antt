-- What equations give by values that are known: values of their nets' widths, more by more values, and what they give in each cycle with these values.
use Rattle.std.proofs.Common.{◌≡◌, ℕ, ◌+◌, ◌*◌, ◌<◌, ◌≤◌, ◌^◌, Bool, true, false, List, length, slice_get, Option, Some, None, refl, sym, ap, subst, ◌∙◌, arith}
use Rattle.std.specs.Prelude.{◌==◌, IfSome, option_map, if◌then◌else◌, bit_and}
use Rattle.std.specs.Int.Bits.{and_zero_l, and_zero_r}
use Rattle.std.proofs.lemmas.Option.{same_Some}
use Rattle.std.proofs.lemmas.Bool.{eqb-true}
use Rattle.av_base.specs.Word.{Word, word, and_of, or_of, xor_of, add_of, sub_of, eq_of, less_of, concat_of, not_of, any_of, slice_of}
use Rattle.netlist.specs.declared.line.Line.{Line}
use Rattle.netlist.specs.declared.line.Equation.{Equation}
use Rattle.netlist.specs.declared.line.Equation.TheVariants.{Input, Constant, And, Or, Xor, Add, Sub, Eq, Less, Concat, Not, Any, Mux, Slice, Reg, Read}
use Rattle.netlist.specs.Netlists.{Netlist, IsModule, IsSound, IsOperand, AreOperands, HasWidth, is_register, line_of}
use Rattle.netlist.specs.Runs.{Cycle, value_of}
use Rattle.settled_netlists.specs.Values.{value_at, both, and_known, mux_known, reg_known, given_by, HaveWidths}
use Rattle.settled_netlists.specs.Lines.{MayGive}
use Rattle.settled_netlists.proofs.Lists.{slice_get-some, width_at-is}

-- ---- operands

-- this holds of each net that the equation goes by
abbrev pub Reads : (ℕ → Type 0) → Equation → Type 0
Reads P (Input port) = Unit {0}
Reads P (Constant value) = Unit {0}
Reads P (And a b) = P a × P b
Reads P (Or a b) = P a × P b
Reads P (Xor a b) = P a × P b
Reads P (Add a b) = P a × P b
Reads P (Sub a b) = P a × P b
Reads P (Eq a b) = P a × P b
Reads P (Less a b) = P a × P b
Reads P (Concat a b) = P a × P b
Reads P (Not a) = P a
Reads P (Any a) = P a
Reads P (Mux s a b) = P s × (P a × P b)
Reads P (Slice a high low) = P a
Reads P (Reg reset next) = P next
Reads P (Read m a) = Unit {0}

pub all_read : (P : ℕ → Type 0) → ((a : ℕ) → P a) → (e : Equation) → Reads P e
all_read P h (Input port) = tt
all_read P h (Constant value) = tt
all_read P h (And a b) = (h a, h b)
all_read P h (Or a b) = (h a, h b)
all_read P h (Xor a b) = (h a, h b)
all_read P h (Add a b) = (h a, h b)
all_read P h (Sub a b) = (h a, h b)
all_read P h (Eq a b) = (h a, h b)
all_read P h (Less a b) = (h a, h b)
all_read P h (Concat a b) = (h a, h b)
all_read P h (Not a) = h a
all_read P h (Any a) = h a
all_read P h (Mux s a b) = (h s, (h a, h b))
all_read P h (Slice a high low) = h a
all_read P h (Reg reset next) = h next
all_read P h (Read m a) = tt

-- operands stand below their net
pub below_read : (P : ℕ → Type 0) (b : Netlist) (n w : ℕ) (e : Equation) → IsSound b.ports b.memories b.lines n w e → is_register e ≡ false → ((a : ℕ) → a < n → P a) → Reads P e
below_read P b n w (Input port) s r h = tt
below_read P b n w (Constant value) s r h = tt
below_read P b n w (And a c) s r h = (h a s.left.below, h c s.right.below)
below_read P b n w (Or a c) s r h = (h a s.left.below, h c s.right.below)
below_read P b n w (Xor a c) s r h = (h a s.left.below, h c s.right.below)
below_read P b n w (Add a c) s r h = (h a s.left.below, h c s.right.below)
below_read P b n w (Sub a c) s r h = (h a s.left.below, h c s.right.below)
below_read P b n w (Eq a c) s r h = (h a s.operands.left.below, h c s.operands.right.below)
below_read P b n w (Less a c) s r h = (h a s.operands.left.below, h c s.operands.right.below)
below_read P b n w (Concat a c) s r h = (h a s.high.below, h c s.low.below)
below_read P b n w (Not a) s r h = h a s.below
below_read P b n w (Any a) s r h = h a s.operand.below
below_read P b n w (Mux t a c) s r h = (h t s.test.below, (h a s.branches.left.below, h c s.branches.right.below))
below_read P b n w (Slice a high low) s r h = h a s.operand.below
below_read P b n w (Reg reset next) s r h = cc
below_read P b n w (Read m a) s r h = tt

-- ---- widths

pub operand_width : (b : Netlist) (values : List (Option Word)) (n a w : ℕ) (x : Word) → HaveWidths b values → IsOperand b.lines n a w → value_at values a ≡ Some x → x.width ≡ w
operand_width b values n a w x h o e = same_Some _ _ (sym (h a x e) ∙ o.width)

pub operands_alike : (b : Netlist) (values : List (Option Word)) (n a c w : ℕ) → HaveWidths b values → AreOperands b.lines n a c w → (x y : Word) → value_at values a ≡ Some x → value_at values c ≡ Some y → x.width ≡ y.width
operands_alike b values n a c w h o x y ex ey = operand_width b values n a w x h o.left ex ∙ sym (operand_width b values n c w y h o.right ey)

-- the operands of a line of a module are such as its equation asks for
pub may_give : (b : Netlist) (values : List (Option Word)) (n w : ℕ) (e : Equation) → w ≤ 128 → IsSound b.ports b.memories b.lines n w e → HaveWidths b values → MayGive values e
may_give b values n w (Input port) small s h = tt
may_give b values n w (Constant value) small s h = tt
may_give b values n w (And a c) small s h = operands_alike b values n a c w h s
may_give b values n w (Or a c) small s h = operands_alike b values n a c w h s
may_give b values n w (Xor a c) small s h = operands_alike b values n a c w h s
may_give b values n w (Add a c) small s h = operands_alike b values n a c w h s
may_give b values n w (Sub a c) small s h = operands_alike b values n a c w h s
may_give b values n w (Eq a c) small s h = operands_alike b values n a c s.width h s.operands
may_give b values n w (Less a c) small s h = operands_alike b values n a c s.width h s.operands
may_give b values n w (Concat a c) small s h = λ x y ix iy. (let one = operand_width b values n a s.high_width x h s.high ix in
    let other = operand_width b values n c s.low_width y h s.low iy in let sum = s.sum in omega (arith, one, other, sum, small))
may_give b values n w (Not a) small s h = tt
may_give b values n w (Any a) small s h = tt
may_give b values n w (Mux t a c) small s h = tt
may_give b values n w (Slice a high low) small s h = record {
  order = s.order;
  inside = λ x is. (let wide = operand_width b values n a s.width x h s.operand is in let inside = s.inside in omega (arith, wide, inside));
}
may_give b values n w (Reg reset next) small s h = tt
may_give b values n w (Read m a) small s h = tt

-- what is read from a module is what stands there
pub told : (b : Netlist) (n : ℕ) (e : Equation) (line : Line) → ((w : ℕ) → HasWidth b n w → slice_get b.lines n ≡ Some (line_of w e)) → slice_get b.lines n ≡ Some line → line.equation ≡ e
told b n e line f at = ap (λ (l : Line). l.equation) (same_Some _ _ (sym at ∙ f line.width (width_at-is b.lines n line at)))

pub told_may_give : (b : Netlist) (values : List (Option Word)) (n : ℕ) (e : Equation) → IsModule b → n < length b.lines → HaveWidths b values → ((w : ℕ) → HasWidth b n w → slice_get b.lines n ≡ Some (line_of w e)) → MayGive values e
told_may_give b values n e m lt h f =
    let some = slice_get-some b.lines n lt in
    let sound = m.well_made.lines n some.0 some.1 in
    subst (MayGive values) (told b n e some.0 f some.1) (may_give b values n some.0.width some.0.equation sound.small sound.equation h)

-- ---- more values tell more

abbrev pub Tells : Option Word → Option Word → Type 0
Tells x y = (v : Word) → x ≡ Some v → y ≡ Some v

both_grows : (f : Word → Word → Word) (x y p q : Option Word) (v : Word) → Tells x p → Tells y q → both f x y ≡ Some v → both f p q ≡ Some v
both_grows f (Some a) (Some b) p q v hp hq e = rw (hp a refl, hq b refl) e
both_grows f (Some a) None p q v hp hq e = cc
both_grows f None y p q v hp hq e = cc

one_grows : (f : Word → Word) (x p : Option Word) (v : Word) → Tells x p → option_map f x ≡ Some v → option_map f p ≡ Some v
one_grows f (Some a) p v hp e = rw (hp a refl) e
one_grows f None p v hp e = cc

zero_left : (a b : Word) → a.bits ≡ 0 → and_of a b ≡ a
zero_left a b z = ap (λ n. word a.width (bit_and n b.bits)) z ∙ ap (word a.width) (and_zero_l b.bits) ∙ ap (word a.width) (sym z)

zero_right : (a b : Word) → b.bits ≡ 0 → a.width ≡ b.width → and_of a b ≡ b
zero_right a b z w = ap (λ n. word a.width (bit_and a.bits n)) z ∙ ap (word a.width) (and_zero_r a.bits) ∙ ap (word a.width) (sym z) ∙ ap (λ n. word n b.bits) w

and_left : (a : Word) (q : Option Word) (v : Word) (t : Bool) → (a.bits == 0) ≡ t → (if t then Some a else None) ≡ Some v → and_known (Some a) q ≡ Some v
and_left a None v t e h = rw e h
and_left a (Some b) v true e h = ap Some (zero_left a b (eqb-true a.bits 0 e)) ∙ h
and_left a (Some b) v false e h = cc

and_right : (b : Word) (p : Option Word) (v : Word) (t : Bool) → ((x : Word) → p ≡ Some x → x.width ≡ b.width) → (b.bits == 0) ≡ t → (if t then Some b else None) ≡ Some v → and_known p (Some b) ≡ Some v
and_right b None v t w e h = rw e h
and_right b (Some a) v true w e h = ap Some (zero_right a b (eqb-true b.bits 0 e) (w a refl)) ∙ h
and_right b (Some a) v false w e h = cc

and_grows : (x y p q : Option Word) (v : Word) → ((c d : Word) → p ≡ Some c → q ≡ Some d → c.width ≡ d.width) → Tells x p → Tells y q → and_known x y ≡ Some v → and_known p q ≡ Some v
and_grows (Some a) (Some b) p q v alike hp hq e = rw (hp a refl, hq b refl) e
and_grows (Some a) None p q v alike hp hq e = rw (hp a refl) (and_left a q v (a.bits == 0) refl e)
and_grows None (Some b) p q v alike hp hq e = rw (hq b refl) (and_right b p v (b.bits == 0) (λ x is. alike x b is (hq b refl)) refl e)
and_grows None None p q v alike hp hq e = cc

choice_grows : (t : Bool) (x y p q : Option Word) (v : Word) → Tells x p → Tells y q → (if t then y else x) ≡ Some v → (if t then q else p) ≡ Some v
choice_grows true x y p q v hp hq e = hq v e
choice_grows false x y p q v hp hq e = hp v e

same_choice : (t : Bool) (a b v : Word) → a ≡ b → Some a ≡ Some v → (if t then Some b else Some a) ≡ Some v
same_choice true a b v is e = ap Some (sym is) ∙ e
same_choice false a b v is e = e

equal_choice : (p : Option Word) (a b v : Word) (t : Bool) → a.width ≡ b.width → (a.bits == b.bits) ≡ t → (if t then Some a else None) ≡ Some v → mux_known p (Some a) (Some b) ≡ Some v
equal_choice None a b v t w e h = rw e h
equal_choice (Some s) a b v true w e h = same_choice (s.bits == 0) a b v (ap (λ n. word n a.bits) w ∙ ap (word b.width) (eqb-true a.bits b.bits e)) h
equal_choice (Some s) a b v false w e h = cc

mux_grows : (s x y p q r : Option Word) (v : Word) → ((c d : Word) → q ≡ Some c → r ≡ Some d → c.width ≡ d.width) → Tells s p → Tells x q → Tells y r → mux_known s x y ≡ Some v → mux_known p q r ≡ Some v
mux_grows (Some s) x y p q r v alike hp hq hr e = rw (hp s refl) (choice_grows (s.bits == 0) x y q r v hq hr e)
mux_grows None (Some a) (Some b) p q r v alike hp hq hr e = rw (hq a refl, hr b refl) (equal_choice p a b v (a.bits == b.bits) (alike a b (hq a refl) (hr b refl)) refl e)
mux_grows None (Some a) None p q r v alike hp hq hr e = cc
mux_grows None None y p q r v alike hp hq hr e = cc

reg_grows : (reset : Word) (x p : Option Word) (v : Word) → Tells x p → reg_known reset x ≡ Some v → reg_known reset p ≡ Some v
reg_grows reset (Some a) p v hp e = rw (hp a refl) e
reg_grows reset None p v hp e = cc

pub given_grows : (b : Netlist) (small big : List (Option Word)) (n w : ℕ) (e : Equation) (v : Word) → IsSound b.ports b.memories b.lines n w e → HaveWidths b big → Reads (λ a. Tells (value_at small a) (value_at big a)) e
    → given_by small e ≡ Some v → given_by big e ≡ Some v
given_grows b small big n w (Input port) v s h r e = e
given_grows b small big n w (Constant value) v s h r e = e
given_grows b small big n w (And a c) v s h r e = and_grows (value_at small a) (value_at small c) (value_at big a) (value_at big c) v (operands_alike b big n a c w h s) r.0 r.1 e
given_grows b small big n w (Or a c) v s h r e = both_grows or_of (value_at small a) (value_at small c) (value_at big a) (value_at big c) v r.0 r.1 e
given_grows b small big n w (Xor a c) v s h r e = both_grows xor_of (value_at small a) (value_at small c) (value_at big a) (value_at big c) v r.0 r.1 e
given_grows b small big n w (Add a c) v s h r e = both_grows add_of (value_at small a) (value_at small c) (value_at big a) (value_at big c) v r.0 r.1 e
given_grows b small big n w (Sub a c) v s h r e = both_grows sub_of (value_at small a) (value_at small c) (value_at big a) (value_at big c) v r.0 r.1 e
given_grows b small big n w (Eq a c) v s h r e = both_grows eq_of (value_at small a) (value_at small c) (value_at big a) (value_at big c) v r.0 r.1 e
given_grows b small big n w (Less a c) v s h r e = both_grows less_of (value_at small a) (value_at small c) (value_at big a) (value_at big c) v r.0 r.1 e
given_grows b small big n w (Concat a c) v s h r e = both_grows concat_of (value_at small a) (value_at small c) (value_at big a) (value_at big c) v r.0 r.1 e
given_grows b small big n w (Not a) v s h r e = one_grows not_of (value_at small a) (value_at big a) v r e
given_grows b small big n w (Any a) v s h r e = one_grows any_of (value_at small a) (value_at big a) v r e
given_grows b small big n w (Mux t a c) v s h r e =
    mux_grows (value_at small t) (value_at small a) (value_at small c) (value_at big t) (value_at big a) (value_at big c) v (operands_alike b big n a c w h s.branches) r.0 r.1.0 r.1.1 e
given_grows b small big n w (Slice a high low) v s h r e = one_grows (λ (x : Word). slice_of x high low) (value_at small a) (value_at big a) v r e
given_grows b small big n w (Reg reset next) v s h r e = reg_grows reset (value_at small next) (value_at big next) v r e
given_grows b small big n w (Read m a) v s h r e = e

-- ---- what is given has its net's width

both_wide : (f : Word → Word → Word) (x y : Option Word) (v : Word) (w : ℕ) → ((a c : Word) → x ≡ Some a → y ≡ Some c → (f a c).width ≡ w) → both f x y ≡ Some v → v.width ≡ w
both_wide f (Some a) (Some c) v w h e = subst (λ (u : Word). u.width ≡ w) (same_Some _ _ e) (h a c refl refl)
both_wide f (Some a) None v w h e = cc
both_wide f None y v w h e = cc

one_wide : (f : Word → Word) (x : Option Word) (v : Word) (w : ℕ) → ((a : Word) → x ≡ Some a → (f a).width ≡ w) → option_map f x ≡ Some v → v.width ≡ w
one_wide f (Some a) v w h e = subst (λ (u : Word). u.width ≡ w) (same_Some _ _ e) (h a refl)
one_wide f None v w h e = cc

some_if : (t : Bool) (a v : Word) → (if t then Some a else None) ≡ Some v → a ≡ v
some_if true a v e = same_Some _ _ e
some_if false a v e = cc

and_wide : (x y : Option Word) (v : Word) (w : ℕ) → ((a : Word) → x ≡ Some a → a.width ≡ w) → ((a : Word) → y ≡ Some a → a.width ≡ w) → and_known x y ≡ Some v → v.width ≡ w
and_wide (Some a) (Some c) v w h k e = subst (λ (u : Word). u.width ≡ w) (same_Some _ _ e) (h a refl)
and_wide (Some a) None v w h k e = subst (λ (u : Word). u.width ≡ w) (some_if (a.bits == 0) a v e) (h a refl)
and_wide None (Some c) v w h k e = subst (λ (u : Word). u.width ≡ w) (some_if (c.bits == 0) c v e) (k c refl)
and_wide None None v w h k e = cc

choice_wide : (t : Bool) (x y : Option Word) (v : Word) (w : ℕ) → ((a : Word) → x ≡ Some a → a.width ≡ w) → ((a : Word) → y ≡ Some a → a.width ≡ w) → (if t then y else x) ≡ Some v → v.width ≡ w
choice_wide true x y v w h k e = k v e
choice_wide false x y v w h k e = h v e

mux_wide : (s x y : Option Word) (v : Word) (w : ℕ) → ((a : Word) → x ≡ Some a → a.width ≡ w) → ((a : Word) → y ≡ Some a → a.width ≡ w) → mux_known s x y ≡ Some v → v.width ≡ w
mux_wide (Some s) x y v w h k e = choice_wide (s.bits == 0) x y v w h k e
mux_wide None (Some a) (Some c) v w h k e = subst (λ (u : Word). u.width ≡ w) (some_if (a.bits == c.bits) a v e) (h a refl)
mux_wide None (Some a) None v w h k e = cc
mux_wide None None y v w h k e = cc

pub reset_given : (reset : Word) (x : Option Word) (v : Word) → reg_known reset x ≡ Some v → reset ≡ v
reset_given reset (Some a) v e = some_if (a.bits == reset.bits) reset v e
reset_given reset None v e = cc

pub given_wide : (b : Netlist) (values : List (Option Word)) (n w : ℕ) (e : Equation) (v : Word) → IsSound b.ports b.memories b.lines n w e → HaveWidths b values → given_by values e ≡ Some v → v.width ≡ w
given_wide b values n w (Input port) v s h e = cc
given_wide b values n w (Constant value) v s h e = subst (λ (u : Word). u.width ≡ w) (same_Some _ _ e) s.width
given_wide b values n w (And a c) v s h e =
    and_wide (value_at values a) (value_at values c) v w (λ x is. operand_width b values n a w x h s.left is) (λ x is. operand_width b values n c w x h s.right is) e
given_wide b values n w (Or a c) v s h e = both_wide or_of (value_at values a) (value_at values c) v w (λ x y is _. operand_width b values n a w x h s.left is) e
given_wide b values n w (Xor a c) v s h e = both_wide xor_of (value_at values a) (value_at values c) v w (λ x y is _. operand_width b values n a w x h s.left is) e
given_wide b values n w (Add a c) v s h e = both_wide add_of (value_at values a) (value_at values c) v w (λ x y is _. operand_width b values n a w x h s.left is) e
given_wide b values n w (Sub a c) v s h e = both_wide sub_of (value_at values a) (value_at values c) v w (λ x y is _. operand_width b values n a w x h s.left is) e
given_wide b values n w (Eq a c) v s h e = both_wide eq_of (value_at values a) (value_at values c) v w (λ x y _ _. sym s.one_bit) e
given_wide b values n w (Less a c) v s h e = both_wide less_of (value_at values a) (value_at values c) v w (λ x y _ _. sym s.one_bit) e
given_wide b values n w (Concat a c) v s h e = both_wide concat_of (value_at values a) (value_at values c) v w (λ x y ix iy. (let one = operand_width b values n a s.high_width x h s.high ix in
    let other = operand_width b values n c s.low_width y h s.low iy in let sum = s.sum in omega (arith, one, other, sum))) e
given_wide b values n w (Not a) v s h e = one_wide not_of (value_at values a) v w (λ x is. operand_width b values n a w x h s is) e
given_wide b values n w (Any a) v s h e = one_wide any_of (value_at values a) v w (λ x is. sym s.one_bit) e
given_wide b values n w (Mux t a c) v s h e =
    mux_wide (value_at values t) (value_at values a) (value_at values c) v w (λ x is. operand_width b values n a w x h s.branches.left is) (λ x is. operand_width b values n c w x h s.branches.right is) e
given_wide b values n w (Slice a high low) v s h e = one_wide (λ (x : Word). slice_of x high low) (value_at values a) v w (λ x is. sym s.bits) e
given_wide b values n w (Reg reset next) v s h e = subst (λ (u : Word). u.width ≡ w) (reset_given reset (value_at values next) v e) s.width
given_wide b values n w (Read m a) v s h e = cc

-- ---- what is given is what the equation gives in each cycle

-- the nets show these values
abbrev pub Show : List (Option Word) → Cycle → Type 0
Show values cycle = (n : ℕ) (v : Word) → value_at values n ≡ Some v → cycle.net n ≡ v.bits

both_shown : (f : Word → Word → Word) (x y : Option Word) (v : Word) (is : ℕ) → ((a c : Word) → x ≡ Some a → y ≡ Some c → (f a c).bits ≡ is) → both f x y ≡ Some v → v.bits ≡ is
both_shown f (Some a) (Some c) v is h e = subst (λ (u : Word). u.bits ≡ is) (same_Some _ _ e) (h a c refl refl)
both_shown f (Some a) None v is h e = cc
both_shown f None y v is h e = cc

one_shown : (f : Word → Word) (x : Option Word) (v : Word) (is : ℕ) → ((a : Word) → x ≡ Some a → (f a).bits ≡ is) → option_map f x ≡ Some v → v.bits ≡ is
one_shown f (Some a) v is h e = subst (λ (u : Word). u.bits ≡ is) (same_Some _ _ e) (h a refl)
one_shown f None v is h e = cc

-- operators of two operands of one width
two_same : (f : Word → Word → Word) (b : Netlist) (values : List (Option Word)) (cycle : Cycle) (n i j w : ℕ) (a c : Word) → HaveWidths b values → Show values cycle → AreOperands b.lines n i j w
    → value_at values i ≡ Some a → value_at values j ≡ Some c → (f a c).bits ≡ (f (word w (cycle.net i)) (word w (cycle.net j))).bits
two_same f b values cycle n i j w a c h k o ea ec =
    ap (λ t. (f (word t a.bits) c).bits) (operand_width b values n i w a h o.left ea) ∙ ap (λ t. (f (word w a.bits) (word t c.bits)).bits) (operand_width b values n j w c h o.right ec)
    ∙ ap (λ t. (f (word w t) (word w c.bits)).bits) (sym (k i a ea)) ∙ ap (λ t. (f (word w (cycle.net i)) (word w t)).bits) (sym (k j c ec))

zero_shown : (t : Bool) (a v : Word) (x is : ℕ) → x ≡ a.bits → (a.bits == 0) ≡ t → (x ≡ 0 → is ≡ 0) → (if t then Some a else None) ≡ Some v → v.bits ≡ is
zero_shown true a v x is ex e h f =
    let z : a.bits ≡ 0 = eqb-true a.bits 0 e in
    ap (λ (u : Word). u.bits) (sym (same_Some _ _ f)) ∙ z ∙ sym (h (ex ∙ z))
zero_shown false a v x is ex e h f = cc

and_shown : (x y : Option Word) (v : Word) (i j : ℕ) → ((a : Word) → x ≡ Some a → i ≡ a.bits) → ((a : Word) → y ≡ Some a → j ≡ a.bits) → and_known x y ≡ Some v → v.bits ≡ bit_and i j
and_shown (Some a) (Some c) v i j h k e = ap (λ (u : Word). u.bits) (sym (same_Some _ _ e)) ∙ ap (λ t. bit_and t c.bits) (sym (h a refl)) ∙ ap (bit_and i) (sym (k c refl))
and_shown (Some a) None v i j h k e = zero_shown (a.bits == 0) a v i (bit_and i j) (h a refl) refl (λ z. ap (λ t. bit_and t j) z ∙ and_zero_l j) e
and_shown None (Some c) v i j h k e = zero_shown (c.bits == 0) c v j (bit_and i j) (k c refl) refl (λ z. ap (bit_and i) z ∙ and_zero_r i) e
and_shown None None v i j h k e = cc

choice_shown : (t : Bool) (x y : Option Word) (v : Word) (i j : ℕ) → ((a : Word) → x ≡ Some a → i ≡ a.bits) → ((a : Word) → y ≡ Some a → j ≡ a.bits) → (if t then y else x) ≡ Some v → v.bits ≡ (if t then j else i)
choice_shown true x y v i j h k e = sym (k v e)
choice_shown false x y v i j h k e = sym (h v e)

same_shown : (t s : Bool) (a c v : Word) (i j : ℕ) → i ≡ a.bits → j ≡ c.bits → (a.bits == c.bits) ≡ s → (if s then Some a else None) ≡ Some v → v.bits ≡ (if t then j else i)
same_shown t false a c v i j ei ej e f = cc
same_shown true true a c v i j ei ej e f = ap (λ (u : Word). u.bits) (sym (same_Some _ _ f)) ∙ eqb-true a.bits c.bits e ∙ sym ej
same_shown false true a c v i j ei ej e f = ap (λ (u : Word). u.bits) (sym (same_Some _ _ f)) ∙ sym ei

mux_shown : (s x y : Option Word) (v : Word) (t i j : ℕ) → ((a : Word) → s ≡ Some a → t ≡ a.bits) → ((a : Word) → x ≡ Some a → i ≡ a.bits) → ((a : Word) → y ≡ Some a → j ≡ a.bits) → mux_known s x y ≡ Some v
    → v.bits ≡ (if t == 0 then j else i)
mux_shown (Some s) x y v t i j hs h k e = rw (hs s refl) (choice_shown (s.bits == 0) x y v i j h k e)
mux_shown None (Some a) (Some c) v t i j hs h k e = same_shown (t == 0) (a.bits == c.bits) a c v i j (h a refl) (k c refl) refl e
mux_shown None (Some a) None v t i j hs h k e = cc
mux_shown None None y v t i j hs h k e = cc

pub given_shown : (b : Netlist) (values : List (Option Word)) (cycle : Cycle) (n w : ℕ) (e : Equation) (v : Word) → IsSound b.ports b.memories b.lines n w e → HaveWidths b values → Show values cycle → given_by values e ≡ Some v
    → IfSome (value_of b.lines cycle w e) (λ x. v.bits ≡ x)
given_shown b values cycle n w (Input port) v s h k e = cc
given_shown b values cycle n w (Constant value) v s h k e = ap (λ (u : Word). u.bits) (sym (same_Some _ _ e))
given_shown b values cycle n w (And a c) v s h k e = and_shown (value_at values a) (value_at values c) v (cycle.net a) (cycle.net c) (k a) (k c) e
given_shown b values cycle n w (Or a c) v s h k e = both_shown or_of (value_at values a) (value_at values c) v _ (λ x y ix iy. two_same or_of b values cycle n a c w x y h k s ix iy) e
given_shown b values cycle n w (Xor a c) v s h k e = both_shown xor_of (value_at values a) (value_at values c) v _ (λ x y ix iy. two_same xor_of b values cycle n a c w x y h k s ix iy) e
given_shown b values cycle n w (Add a c) v s h k e = both_shown add_of (value_at values a) (value_at values c) v _ (λ x y ix iy. two_same add_of b values cycle n a c w x y h k s ix iy) e
given_shown b values cycle n w (Sub a c) v s h k e = both_shown sub_of (value_at values a) (value_at values c) v _ (λ x y ix iy. two_same sub_of b values cycle n a c w x y h k s ix iy) e
given_shown b values cycle n w (Eq a c) v s h k e = both_shown eq_of (value_at values a) (value_at values c) v _ (λ x y ix iy. two_same eq_of b values cycle n a c s.width x y h k s.operands ix iy) e
given_shown b values cycle n w (Less a c) v s h k e = both_shown less_of (value_at values a) (value_at values c) v _ (λ x y ix iy. two_same less_of b values cycle n a c s.width x y h k s.operands ix iy) e
given_shown b values cycle n w (Concat a c) v s h k e =
    rw s.low.width (both_shown concat_of (value_at values a) (value_at values c) v _ (λ x y ix iy. (let low = operand_width b values n c s.low_width y h s.low iy in
    ap (λ t. x.bits * 2 ^ t + y.bits) low ∙ ap (λ t. t * 2 ^ s.low_width + y.bits) (sym (k a x ix)) ∙ ap (λ t. cycle.net a * 2 ^ s.low_width + t) (sym (k c y iy)))) e)
given_shown b values cycle n w (Not a) v s h k e = one_shown not_of (value_at values a) v _ (λ x is. ap (λ t. (not_of (word t x.bits)).bits) (operand_width b values n a w x h s is) ∙ ap (λ t. (not_of (word w t)).bits) (sym (k a x is))) e
given_shown b values cycle n w (Any a) v s h k e = one_shown any_of (value_at values a) v _ (λ x is. ap (λ t. (any_of (word w t)).bits) (sym (k a x is))) e
given_shown b values cycle n w (Mux t a c) v s h k e = mux_shown (value_at values t) (value_at values a) (value_at values c) v (cycle.net t) (cycle.net a) (cycle.net c) (k t) (k a) (k c) e
given_shown b values cycle n w (Slice a high low) v s h k e =
    one_shown (λ (x : Word). slice_of x high low) (value_at values a) v _ (λ x is. ap (λ t. (slice_of (word w t) high low).bits) (sym (k a x is))) e
given_shown b values cycle n w (Reg reset next) v s h k e = tt
given_shown b values cycle n w (Read m a) v s h k e = cc
