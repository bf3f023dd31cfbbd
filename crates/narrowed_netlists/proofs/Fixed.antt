-- Inputs and constants that stand where they stood.
use Rattle.std.proofs.Common.{◌≡◌, ℕ, zero, suc, ◌+◌, ◌<◌, ◌≤◌, inl, inr, Bool, true, false, not, cond, List, [], ◌∷◌, ◌++◌, length, take, slice_get, Some, refl, sym, ap, subst, ◌∙◌, arith}
use Rattle.std.specs.Prelude.{if◌then◌else◌}
use Rattle.std.proofs.lemmas.Bool.{cases_lt}
use Rattle.std.proofs.lemmas.Option.{same_Some, slice_get_within}
use Rattle.av_base.specs.declared.value.Val.{Val}
use Rattle.netlist.specs.declared.line.Line.{Line}
use Rattle.netlist.specs.declared.line.PortLine.{PortLine}
use Rattle.netlist.specs.declared.line.Equation.{Equation}
use Rattle.netlist.specs.declared.line.Equation.TheVariants.{Input, Constant, And, Or, Xor, Add, Sub, Eq, Less, Concat, Not, Any, Mux, Slice, Reg, Read}
use Rattle.netlist.specs.Nets.{NetValue}
use Rattle.netlist.specs.Netlists.{Netlist, IsModule, input_count, input_lines, input_net, is_input, line_of, line_with}
use Rattle.netlist.specs.Longer.{Extends, IsKept}
use Rattle.narrowed_netlists.specs.declared.gaps.Gap.{Gap}
use Rattle.narrowed_netlists.specs.Narrowed.{AreFixed, is_fixed}
use Rattle.narrowed_netlists.specs.Copies.{IsOperatorCopy, KeepsFixed, AddsFixed}
use Rattle.narrowed_netlists.proofs.Copying.{split_last}
use Rattle.narrowed_netlists.proofs.Lists.{input_count-cons, length-push, slice_get-last, slice_get-some}

-- ---- inputs

-- the port of the input line at a place
record IsPlaceOf (ports : List PortLine) (j port n : ℕ) : Type 0 where
  pub after : ℕ
  pub is : port ≡ j + after
  pub net : input_net ports after ≡ n

input_number : (j port : ℕ) → Input j ≡ Input port → j ≡ port
input_number j port e = cc

place_counted : (p : PortLine) (ports : List PortLine) (k n : ℕ) (t : Bool) → p.output ≡ t → cond (not t) 1 0 + input_net ports k ≡ n → input_net (p ∷ ports) (suc k) ≡ n
place_counted p ports k n t o h = input_count-cons p (take k ports) ∙ ap (λ (b : Bool). cond (not b) 1 0 + input_count (take k ports)) o ∙ h

place_more : (p : PortLine) (ports : List PortLine) (j port n m : ℕ) (t : Bool) → p.output ≡ t → cond (not t) 1 0 + m ≡ n → IsPlaceOf ports (j + 1) port m → IsPlaceOf (p ∷ ports) j port n
place_more p ports j port n m t o more rest =
    let its = rest.is in
    record { after = suc rest.after; is = omega (arith, its); net = place_counted p ports rest.after n t o (ap (λ k. cond (not t) 1 0 + k) rest.net ∙ more) }

place_here : (p : PortLine) (ports : List PortLine) (j port n : ℕ) (line : Line) (t : Bool) → p.output ≡ t → line.equation ≡ Input port
    → slice_get (if t then input_lines (j + 1) ports else line_of p.width (Input j) ∷ input_lines (j + 1) ports) n ≡ Some line
    → ((m : ℕ) → slice_get (input_lines (j + 1) ports) m ≡ Some line → IsPlaceOf ports (j + 1) port m) → IsPlaceOf (p ∷ ports) j port n
place_here p ports j port n line true o is at rest = place_more p ports j port n n true o (omega arith) (rest n at)
place_here p ports j port zero line false o is at rest =
    let same : line_of p.width (Input j) ≡ line = same_Some _ _ at in
    let k : j ≡ port = input_number j port (ap (λ (l : Line). l.equation) same ∙ is) in
    record { after = 0; is = omega (arith, k); net = refl }
place_here p ports j port (suc m) line false o is at rest = place_more p ports j port (suc m) m false o (omega arith) (rest m at)

place_of : (ports : List PortLine) (j port n : ℕ) (line : Line) → slice_get (input_lines j ports) n ≡ Some line → line.equation ≡ Input port → IsPlaceOf ports j port n
place_of [] j port n line e is = cc
place_of (p ∷ ports) j port n line e is = place_here p ports j port n line p.output refl is e (λ m at. place_of ports (j + 1) port m line at is)

inputs_net : (ports : List PortLine) (port n : ℕ) (line : Line) → slice_get (input_lines 0 ports) n ≡ Some line → line.equation ≡ Input port → input_net ports port ≡ n
inputs_net ports port n line at is =
    let place = place_of ports 0 port n line at is in
    let its = place.is in
    let same : port ≡ place.after = omega (arith, its) in
    ap (input_net ports) same ∙ place.net

-- no net behind the inputs is one
before_first : (whole : Netlist) (n port : ℕ) (line : Line) → IsModule whole → slice_get whole.lines n ≡ Some line → line.equation ≡ Input port → slice_get (input_lines 0 whole.ports) n ≡ Some line
before_first whole n port line m at is = m.well_made.inputs.no_others n line at (ap is_input is)

input_here : (p : PortLine) (ports : List PortLine) (j n : ℕ) (line : Line) (t : Bool) → slice_get (if t then input_lines (j + 1) ports else line_of p.width (Input j) ∷ input_lines (j + 1) ports) n ≡ Some line
    → ((m : ℕ) → slice_get (input_lines (j + 1) ports) m ≡ Some line → is_input line.equation ≡ true) → is_input line.equation ≡ true
input_here p ports j n line true at rest = rest n at
input_here p ports j zero line false at rest = ap (λ (l : Line). is_input l.equation) (sym (same_Some _ _ at))
input_here p ports j (suc m) line false at rest = rest m at

inputs_only : (ports : List PortLine) (j n : ℕ) (line : Line) → slice_get (input_lines j ports) n ≡ Some line → is_input line.equation ≡ true
inputs_only [] j n line e = cc
inputs_only (p ∷ ports) j n line e = input_here p ports j n line p.output e (λ m at. inputs_only ports (j + 1) m line at)

both : (t : Bool) → t ≡ true → t ≡ false → ⊥
both t p q = let e : true ≡ false = sym p ∙ q in cc

behind_inputs : (whole : Netlist) (n : ℕ) (line : Line) → IsModule whole → slice_get whole.lines n ≡ Some line → is_input line.equation ≡ false → length (input_lines 0 whole.ports) ≤ n
behind_inputs whole n line m at other = elim (cases_lt n (length (input_lines 0 whole.ports))) [
  | inr from ↦ from
  | inl less ↦
      absurd (let some = slice_get-some (input_lines 0 whole.ports) n less in
      let same : some.0 ≡ line = same_Some _ _ (sym (m.well_made.inputs.first n some.0 some.1) ∙ at) in
      let input : is_input some.0.equation ≡ true = inputs_only whole.ports 0 n some.0 some.1 in
      both (is_input line.equation) (subst (λ (l : Line). is_input l.equation ≡ true) same input) other)
]

-- ---- lines that last

-- no line of a module waits
waits_not : (whole : Netlist) (n : ℕ) (line : Line) → IsModule whole → slice_get whole.lines n ≡ Some line → line.waits ≡ false
waits_not whole n line m at = by_wait line.waits refl where
  by_wait : (t : Bool) → line.waits ≡ t → line.waits ≡ false
  by_wait true w = absurd (m.clocked n (record { line = line; is = at; waits = w }))
  by_wait false w = w

line_lasts : (a b : Netlist) (n : ℕ) (line : Line) → Extends a b → line.waits ≡ false → slice_get a.lines n ≡ Some line → slice_get b.lines n ≡ Some line
line_lasts a b n line e w at = (let kept = e.keeps.lines n line at in kept.is ∙ ap Some (same kept.later kept.kept)) where
  same : (later : Line) → IsKept line later → later ≡ line
  same later (inl e) = e
  same later (inr s) = absurd (both line.waits s.waits w)

pub fixed_lasts : (whole a b : Netlist) (nets : List NetValue) (count : ℕ) → IsModule whole → Extends a b → KeepsFixed whole a nets count → KeepsFixed whole b nets count
fixed_lasts whole a b nets count m e h = record {
  number = h.number;
  line = λ n line lt at fixed. line_lasts a b n line e (waits_not whole n line m at) (h.line n line lt at fixed);
}

-- ---- one net more

fixed_fewer : (whole : Netlist) (count : ℕ) → AreFixed whole (count + 1) → AreFixed whole count
fixed_fewer whole count h n line lt at = h n line (omega (arith, lt)) at

pub fixed_none : (whole netlist : Netlist) → KeepsFixed whole netlist [] 0
fixed_none whole netlist = record { number = λ n net lt at fixed. absurd (omega (arith, lt)); line = λ n line lt at fixed. absurd (omega (arith, lt)) }

pub adds_none : (whole netlist : Netlist) → netlist.lines ≡ input_lines 0 whole.ports → AddsFixed whole netlist 0
adds_none whole netlist e = (let many : length netlist.lines ≡ length (input_lines 0 whole.ports) = ap length e in
    record { among = λ fixed few. many; behind = λ fixed few. omega (arith, many, few) })

-- a net that is neither input nor constant
other_push : (whole old new : Netlist) (nets : List NetValue) (net : NetValue) (count : ℕ) (line : Line) → IsModule whole → length nets ≡ count → slice_get whole.lines count ≡ Some line → is_fixed line.equation ≡ false → Extends old new
    → KeepsFixed whole old nets count → KeepsFixed whole new (nets ++ net ∷ []) (count + 1) × AddsFixed whole new (count + 1)
other_push whole old new nets net count line m many at plain e before = (
  record { number = number; line = stands },
  record {
    among = λ fixed few. absurd (no_more fixed);
    behind = λ fixed few. absurd (no_more fixed);
  },
) where
  no_more : AreFixed whole (count + 1) → ⊥
  no_more fixed = both (is_fixed line.equation) (fixed count line (omega arith) at) plain

  here : (n : ℕ) → n ≡ count → AreFixed whole (n + 1) → ⊥
  here n same fixed = no_more (subst (λ k. AreFixed whole (k + 1)) same fixed)

  number : (n : ℕ) (x : NetValue) → n < count + 1 → slice_get (nets ++ net ∷ []) n ≡ Some x → AreFixed whole (n + 1) → x.number ≡ n
  number n x lt there fixed = elim (split_last nets net x n there) [
    | inl its ↦ (let less = slice_get_within nets n x its in before.number n x (omega (arith, less, many)) its fixed)
    | inr last ↦ absurd (let k = last.0 in here n (omega (arith, k, many)) fixed)
  ]

  stands : (n : ℕ) (l : Line) → n < count + 1 → slice_get whole.lines n ≡ Some l → AreFixed whole (n + 1) → slice_get new.lines n ≡ Some l
  stands n l lt there fixed = elim (cases_lt n count) [
    | inl less ↦ line_lasts old new n l e (waits_not whole n l m there) (before.line n l less there fixed)
    | inr from ↦ absurd (here n (omega (arith, lt, from)) fixed)
  ]

-- a net that stands where it stood
same_push : (whole old new : Netlist) (nets : List NetValue) (net : NetValue) (count : ℕ) (line : Line) → IsModule whole → length nets ≡ count → slice_get whole.lines count ≡ Some line → Extends old new
    → (AreFixed whole (count + 1) → (net.number ≡ count) × (slice_get new.lines count ≡ Some line)) → KeepsFixed whole old nets count → KeepsFixed whole new (nets ++ net ∷ []) (count + 1)
same_push whole old new nets net count line m many at e its before = record { number = number; line = stands } where
  number : (n : ℕ) (x : NetValue) → n < count + 1 → slice_get (nets ++ net ∷ []) n ≡ Some x → AreFixed whole (n + 1) → x.number ≡ n
  number n x lt there fixed = elim (split_last nets net x n there) [
    | inl in_front ↦ (let less = slice_get_within nets n x in_front in before.number n x (omega (arith, less, many)) in_front fixed)
    | inr last ↦ (let k = last.0 in
        let same : n ≡ count = omega (arith, k, many) in
        subst (λ (y : NetValue). y.number ≡ n) last.1 ((its (subst (λ j. AreFixed whole (j + 1)) same fixed)).0 ∙ sym same))
  ]

  stands : (n : ℕ) (l : Line) → n < count + 1 → slice_get whole.lines n ≡ Some l → AreFixed whole (n + 1) → slice_get new.lines n ≡ Some l
  stands n l lt there fixed = elim (cases_lt n count) [
    | inl less ↦ line_lasts old new n l e (waits_not whole n l m there) (before.line n l less there fixed)
    | inr from ↦ (let same : n ≡ count = omega (arith, lt, from) in
        let same_line : line ≡ l = same_Some _ _ (sym at ∙ subst (λ k. slice_get whole.lines k ≡ Some l) same there) in
        subst (λ k. slice_get new.lines k ≡ Some l) (sym same) (subst (λ (x : Line). slice_get new.lines count ≡ Some x) same_line (its (subst (λ j. AreFixed whole (j + 1)) same fixed)).1))
  ]

-- the kinds of equations
data Kind (e : Equation) : Type 0 where
  input : (port : ℕ) → e ≡ Input port → Kind e
  constant : (value : Val) → e ≡ Constant value → Kind e
  other : is_fixed e ≡ false → Kind e

kind_of : (e : Equation) → Kind e
kind_of (Input port) = Kind.input port refl
kind_of (Constant value) = Kind.constant value refl
kind_of (And a b) = Kind.other refl
kind_of (Or a b) = Kind.other refl
kind_of (Xor a b) = Kind.other refl
kind_of (Add a b) = Kind.other refl
kind_of (Sub a b) = Kind.other refl
kind_of (Eq a b) = Kind.other refl
kind_of (Less a b) = Kind.other refl
kind_of (Concat a b) = Kind.other refl
kind_of (Not a) = Kind.other refl
kind_of (Any a) = Kind.other refl
kind_of (Mux s a b) = Kind.other refl
kind_of (Slice a high low) = Kind.other refl
kind_of (Reg reset next) = Kind.other refl
kind_of (Read m a) = Kind.other refl

-- the line of an input or a constant is told by its width and its equation
line_told : (whole : Netlist) (n : ℕ) (line : Line) (e : Equation) → IsModule whole → slice_get whole.lines n ≡ Some line → line.equation ≡ e → line_of line.width e ≡ line
line_told whole n line e m at is = let waits = waits_not whole n line m at in told line e is waits where
  told : (l : Line) (f : Equation) → l.equation ≡ f → l.waits ≡ false → line_of l.width f ≡ l
  told l f p q = ap (λ (x : Equation). line_with l.width x false) (sym p) ∙ ap (λ (t : Bool). line_with l.width l.equation t) (sym q)

-- the net of an operator is pushed
pub fixed_push : (whole start old new : Netlist) (gaps : List Gap) (nets : List NetValue) (net : NetValue) (count : ℕ) (line : Line) → IsModule whole → start.lines ≡ input_lines 0 whole.ports → Extends start old → length nets ≡ count
    → slice_get whole.lines count ≡ Some line → IsOperatorCopy whole old new gaps nets count line net → KeepsFixed whole old nets count × AddsFixed whole old count
    → KeepsFixed whole new (nets ++ net ∷ []) (count + 1) × AddsFixed whole new (count + 1)
fixed_push whole start old new gaps nets net count line m begins extends many at o before = by_kind (kind_of line.equation) where
  by_kind : Kind line.equation → KeepsFixed whole new (nets ++ net ∷ []) (count + 1) × AddsFixed whole new (count + 1)
  by_kind (Kind.input port is) =
      (let first = before_first whole count port line m at is in
      let inside = slice_get_within (input_lines 0 whole.ports) count line first in
      let same = o.same port is in
      let there : slice_get old.lines count ≡ Some line =
      line_lasts start old count line extends (waits_not whole count line m at) (subst (λ (ls : List Line). slice_get ls count ≡ Some line) (sym begins) first) in (
        same_push whole old new nets net count line m many at o.grows.extends
            (λ fixed. (o.input port is ∙ inputs_net whole.ports port count line first is, subst (λ (b : Netlist). slice_get b.lines count ≡ Some line) (sym same) there)) before.0,
        record {
          among = λ fixed few. ap (λ (b : Netlist). length b.lines) same ∙ before.1.among (fixed_fewer whole count fixed) (omega (arith, few));
          behind = λ fixed few. (let lines = before.1.among (fixed_fewer whole count fixed) (omega (arith, inside)) in
              let as_many : length new.lines ≡ length old.lines = ap (λ (b : Netlist). length b.lines) same in omega (arith, lines, as_many, few, inside));
        },
      ))
  by_kind (Kind.constant value is) =
      (let from = behind_inputs whole count line m at (ap is_input is) in
      let made = o.constant value is in
      let told = line_told whole count line (Constant value) m at is in
      let grown : new.lines ≡ old.lines ++ line_of line.width (Constant value) ∷ [] = ap (λ (b : Netlist). b.lines) made.appended in (
        same_push whole old new nets net count line m many at o.grows.extends
            (λ fixed. (let lines = before.1.behind (fixed_fewer whole count fixed) from in (
              made.number ∙ lines,
              subst (λ (ls : List Line). slice_get ls count ≡ Some line) (sym grown)
                  (subst (λ k. slice_get (old.lines ++ line_of line.width (Constant value) ∷ []) k ≡ Some line) lines (slice_get-last old.lines (line_of line.width (Constant value)) ∙ ap Some told)),
            ))) before.0,
        record {
          among = λ fixed few. absurd (omega (arith, few, from));
          behind = λ fixed few. (let lines = before.1.behind (fixed_fewer whole count fixed) from in
              let more = length-push old.lines (line_of line.width (Constant value)) in
              let as_many : length new.lines ≡ length (old.lines ++ line_of line.width (Constant value) ∷ []) = ap length grown in omega (arith, lines, more, as_many));
        },
      ))
  by_kind (Kind.other plain) = other_push whole old new nets net count line m many at plain o.grows.extends before.0

-- the net of a register is pushed
pub fixed_register : (whole old new : Netlist) (nets : List NetValue) (net : NetValue) (count : ℕ) (line : Line) (reset : Val) (next : ℕ) → IsModule whole → length nets ≡ count → slice_get whole.lines count ≡ Some line
    → line.equation ≡ Reg reset next → Extends old new → KeepsFixed whole old nets count → KeepsFixed whole new (nets ++ net ∷ []) (count + 1) × AddsFixed whole new (count + 1)
fixed_register whole old new nets net count line reset next m many at is e before = other_push whole old new nets net count line m many at (ap is_fixed is) e before
