-- Each net's value from those before it, in one pass: the valuation that there is.
use Rattle.std.proofs.Common.{◌≡◌, ℕ, zero, suc, ◌+◌, ◌-◌, ◌*◌, ◌/◌, ◌%◌, ◌^◌, ◌<◌, ◌≤◌, Bool, true, false, List, length, slice_get, Option, Some, None, refl, sym, subst, ap, ◌∙◌, arith, bit_and, bit_or, eq-eqb, cond, eqb}
use Rattle.std.specs.Prelude.{◌==◌, nat_lt, bit_xor, IfSome, unwrap_or, option_map, if◌then◌else◌}
use Rattle.std.specs.Int.Bits.{and_lt}
use Rattle.std.proofs.lemmas.Bool.{ne_eqb}
use Rattle.std.proofs.lemmas.Nat.{or_lt, xor_lt, pow_pos, pow-add, mul-add-lt}
use Rattle.av_base.specs.Word.{word, concat_of}
use Rattle.netlist.specs.declared.line.Line.{Line}
use Rattle.netlist.specs.declared.line.PortLine.{PortLine}
use Rattle.netlist.specs.declared.line.Memory.{Memory}
use Rattle.netlist.specs.declared.line.Equation.{Equation}
use Rattle.netlist.specs.declared.line.Equation.TheVariants.{Input, Constant, And, Or, Xor, Add, Sub, Eq, Less, Concat, Not, Any, Mux, Slice, Reg, Read}
use Rattle.netlist.specs.Netlists.{Netlist, IsInputPort, IsReadOf, IsSound, IsWellMade, HasWidth, width_at, is_register, next_in, next_of}
use Rattle.netlist.specs.Runs.{Cycle, value_of, WordsFit, IsValuation, reset_of, InputsFit, StateFits, SameInputs, SameState, SameNets, HasValuation}
use Rattle.netlist.proofs.Lists.{slice_get-some, slice_get-within, width_at-line, width_at-is}

-- the cycle with these values of the nets
abbrev pub with_nets : Cycle → (ℕ → ℕ) → Cycle
with_nets cycle net = record cycle { net = net }

-- what a line gives its net: its value, or what the state has there
abbrev pub given_at : List Line → Cycle → ℕ → Option Line → ℕ
given_at lines cycle n None = cycle.net n
given_at lines cycle n (Some line) = unwrap_or (value_of lines cycle line.width line.equation) (cycle.net n)

-- the values of the nets after k of them were given
pub nets_after : List Line → Cycle → ℕ → ℕ → ℕ
nets_after lines given zero n = given.net n
nets_after lines given (suc k) n = cond (eqb n k) (given_at lines (with_nets given (nets_after lines given k)) k (slice_get lines k)) (nets_after lines given k n)

abbrev pub completed : List Line → Cycle → Cycle
completed lines given = with_nets given (nets_after lines given (length lines))

skipped : (lines : List Line) (given : Cycle) (k n : ℕ) → (n ≡ k → ⊥) → nets_after lines given (suc k) n ≡ nets_after lines given k n
unfolding nets_after
skipped lines given k n ne = rw (ne_eqb n k ne) refl

given_here : (lines : List Line) (given : Cycle) (k : ℕ) → nets_after lines given (suc k) k ≡ given_at lines (with_nets given (nets_after lines given k)) k (slice_get lines k)
unfolding nets_after
given_here lines given k = rw (eq-eqb k k refl) refl

-- a net that isn't given yet has the state's value
early : (lines : List Line) (given : Cycle) (k n : ℕ) → k ≤ n → nets_after lines given k n ≡ given.net n
unfolding nets_after
early lines given zero n h = refl
early lines given (suc k) n h = skipped lines given k n (λ e. omega arith) ∙ early lines given k n (omega arith)

-- a net keeps the value that it was given
late : (lines : List Line) (given : Cycle) (k d n : ℕ) → n < k → nets_after lines given (k + d) n ≡ nets_after lines given k n
late lines given k zero n h = let z : k + 0 ≡ k = omega arith in rw z refl
late lines given k (suc d) n h =
    let z : k + suc d ≡ suc (k + d) = omega arith in
    rw z (skipped lines given (k + d) n (λ e. omega arith) ∙ late lines given k d n h)

settled : (lines : List Line) (given : Cycle) (k n : ℕ) → n < k → nets_after lines given k n ≡ nets_after lines given (suc n) n
settled lines given k n h =
    let z : suc n + (k - suc n) ≡ k = omega arith in
    subst (λ m. nets_after lines given m n ≡ nets_after lines given (suc n) n) z (late lines given (suc n) (k - suc n) n (omega arith))

completed_at : (lines : List Line) (given : Cycle) (n : ℕ) (line : Line) → slice_get lines n ≡ Some line →
    (completed lines given).net n ≡ unwrap_or (value_of lines (with_nets given (nets_after lines given n)) line.width line.equation) (given.net n)
completed_at lines given n line at =
    let lt = slice_get-within lines n line at in
    let here : nets_after lines given (suc n) n ≡ given_at lines (with_nets given (nets_after lines given n)) n (Some line) = given_here lines given n ∙ ap (given_at lines (with_nets given (nets_after lines given n)) n) at in
    settled lines given (length lines) n lt ∙ here
    ∙ ap (unwrap_or (value_of lines (with_nets given (nets_after lines given n)) line.width line.equation)) (early lines given n n (omega arith))

-- the value of an equation hangs on its operands alone, which stand below it
value_same : (b : Netlist) (x y : Cycle) (n w : ℕ) (e : Equation) → IsSound b.ports b.memories b.lines n w e → ((k v : ℕ) → IsInputPort b.ports k v → x.input k ≡ y.input k) →
    ((m a : ℕ) → IsReadOf b.memories b.lines n w m a → x.cell m (x.net a) ≡ y.cell m (x.net a)) → ((m : ℕ) → m < n → x.net m ≡ y.net m) → value_of b.lines x w e ≡ value_of b.lines y w e
value_same b x y n w (Input port) s inputs cells nets = ap Some (inputs port w s)
value_same b x y n w (Constant value) s inputs cells nets = refl
value_same b x y n w (And a c) s inputs cells nets = rw (nets a s.left.below, nets c s.right.below) refl
value_same b x y n w (Or a c) s inputs cells nets = rw (nets a s.left.below, nets c s.right.below) refl
value_same b x y n w (Xor a c) s inputs cells nets = rw (nets a s.left.below, nets c s.right.below) refl
value_same b x y n w (Add a c) s inputs cells nets = rw (nets a s.left.below, nets c s.right.below) refl
value_same b x y n w (Sub a c) s inputs cells nets = rw (nets a s.left.below, nets c s.right.below) refl
value_same b x y n w (Eq a c) s inputs cells nets = rw (nets a s.operands.left.below, nets c s.operands.right.below) refl
value_same b x y n w (Less a c) s inputs cells nets = rw (nets a s.operands.left.below, nets c s.operands.right.below) refl
value_same b x y n w (Concat a c) s inputs cells nets = rw (nets a s.high.below, nets c s.low.below) refl
value_same b x y n w (Not a) s inputs cells nets = rw (nets a s.below) refl
value_same b x y n w (Any a) s inputs cells nets = rw (nets a s.operand.below) refl
value_same b x y n w (Mux t a c) s inputs cells nets = rw (nets t s.test.below, nets a s.branches.left.below, nets c s.branches.right.below) refl
value_same b x y n w (Slice a high low) s inputs cells nets = rw (nets a s.operand.below) refl
value_same b x y n w (Reg reset next) s inputs cells nets = refl
value_same b x y n w (Read m a) s inputs cells nets = ap Some (cells m a s ∙ ap (y.cell m) (nets a s.address.below))

-- a register gives no value; the others give one
no_value : (lines : List Line) (cycle : Cycle) (w : ℕ) (e : Equation) → is_register e ≡ true → value_of lines cycle w e ≡ None
no_value lines cycle w (Reg reset next) h = refl
no_value lines cycle w (Input port) h = cc
no_value lines cycle w (Constant value) h = cc
no_value lines cycle w (And a b) h = cc
no_value lines cycle w (Or a b) h = cc
no_value lines cycle w (Xor a b) h = cc
no_value lines cycle w (Add a b) h = cc
no_value lines cycle w (Sub a b) h = cc
no_value lines cycle w (Eq a b) h = cc
no_value lines cycle w (Less a b) h = cc
no_value lines cycle w (Concat a b) h = cc
no_value lines cycle w (Not a) h = cc
no_value lines cycle w (Any a) h = cc
no_value lines cycle w (Mux s a b) h = cc
no_value lines cycle w (Slice a high low) h = cc
no_value lines cycle w (Read m a) h = cc

some_value : (b : Netlist) (cycle : Cycle) (n w : ℕ) (e : Equation) → IsSound b.ports b.memories b.lines n w e → is_register e ≡ false → (x : ℕ) × (value_of b.lines cycle w e ≡ Some x)
some_value b cycle n w (Reg reset next) s h = cc
some_value b cycle n w (Concat a c) s h = (_, ap (option_map (λ k. (concat_of (word (w - k) (cycle.net a)) (word k (cycle.net c))).bits)) s.low.width)
some_value b cycle n w _ s h = (_, refl)

pub no_reset : (e : Equation) → is_register e ≡ false → reset_of e ≡ None
no_reset (Reg reset next) h = cc
no_reset _ h = refl

no_next_in : (e : Equation) → is_register e ≡ false → next_in e ≡ None
no_next_in (Reg reset next) h = cc
no_next_in _ h = refl

pub no_next : (line : Line) → is_register line.equation ≡ false → next_of line ≡ None
no_next line h = by_waits line.waits where
  by_waits : (b : Bool) → (if b then None else next_in line.equation) ≡ None
  by_waits true = refl
  by_waits false = no_next_in line.equation h

-- operands within their widths give a value within its width
bit_fits : (t : Bool) (x y w v : ℕ) → w ≡ 1 → x ≤ 1 → y ≤ 1 → (if t then x else y) ≡ v → v < 2 ^ w
bit_fits true x y w v e h k is = let small : v < 2 ^ 1 = omega arith in rw e small
bit_fits false x y w v e h k is = let small : v < 2 ^ 1 = omega arith in rw e small

mod_fits : (x w v : ℕ) → x % 2 ^ w ≡ v → v < 2 ^ w
mod_fits x w v is = let p : 0 < 2 ^ w = pow_pos w in omega arith

pub choice_fits : (t : Bool) (x y w v : ℕ) → x < 2 ^ w → y < 2 ^ w → (if t then x else y) ≡ v → v < 2 ^ w
choice_fits true x y w v h k is = subst (λ u. u < 2 ^ w) is h
choice_fits false x y w v h k is = subst (λ u. u < 2 ^ w) is k

joined_lt : (w v a b : ℕ) → a < 2 ^ w → b < 2 ^ v → a * 2 ^ v + b < 2 ^ (w + v)
joined_lt w v a b p q =
    let e : 2 ^ v * 2 ^ w ≡ 2 ^ (w + v) = grind (arith, pow-add) in
    rw (← e) (mul-add-lt a (2 ^ v) b (2 ^ w) p q)

value_fits : (b : Netlist) (cycle : Cycle) (n w : ℕ) (e : Equation) → IsSound b.ports b.memories b.lines n w e → InputsFit b.ports cycle.input → WordsFit b.memories cycle.cell →
    ((m v : ℕ) → m < n → HasWidth b m v → cycle.net m < 2 ^ v) → (x : ℕ) → value_of b.lines cycle w e ≡ Some x → x < 2 ^ w
value_fits b cycle n w (Input port) s inputs words nets x e =
    let is : cycle.input port ≡ x = cc in
    subst (λ v. v < 2 ^ w) is (inputs port w s)
value_fits b cycle n w (Constant value) s inputs words nets x e =
    let is : value.bits ≡ x = cc in
    subst (λ v. v < 2 ^ w) is (subst (λ v. value.bits < 2 ^ v) s.width s.word.fits)
value_fits b cycle n w (And a c) s inputs words nets x e =
    let is : bit_and (cycle.net a) (cycle.net c) ≡ x = cc in
    subst (λ v. v < 2 ^ w) is (and_lt w (cycle.net a) (cycle.net c) (nets a w s.left.below s.left.width) (nets c w s.right.below s.right.width))
value_fits b cycle n w (Or a c) s inputs words nets x e =
    let is : bit_or (cycle.net a) (cycle.net c) ≡ x = cc in
    subst (λ v. v < 2 ^ w) is (or_lt w (cycle.net a) (cycle.net c) (nets a w s.left.below s.left.width) (nets c w s.right.below s.right.width))
value_fits b cycle n w (Xor a c) s inputs words nets x e =
    let is : bit_xor (cycle.net a) (cycle.net c) ≡ x = cc in
    subst (λ v. v < 2 ^ w) is (xor_lt w (cycle.net a) (cycle.net c) (nets a w s.left.below s.left.width) (nets c w s.right.below s.right.width))
value_fits b cycle n w (Add a c) s inputs words nets x e =
    let is : (cycle.net a + cycle.net c) % 2 ^ w ≡ x = cc in mod_fits (cycle.net a + cycle.net c) w x is
value_fits b cycle n w (Sub a c) s inputs words nets x e =
    let is : (cycle.net a + (2 ^ w - cycle.net c)) % 2 ^ w ≡ x = cc in mod_fits (cycle.net a + (2 ^ w - cycle.net c)) w x is
value_fits b cycle n w (Eq a c) s inputs words nets x e =
    let is : (if cycle.net a == cycle.net c then 1 else 0) ≡ x = cc in bit_fits (cycle.net a == cycle.net c) 1 0 w x s.one_bit (omega arith) (omega arith) is
value_fits b cycle n w (Less a c) s inputs words nets x e =
    let is : (if nat_lt (cycle.net a) (cycle.net c) then 1 else 0) ≡ x = cc in bit_fits (nat_lt (cycle.net a) (cycle.net c)) 1 0 w x s.one_bit (omega arith) (omega arith) is
value_fits b cycle n w (Concat a c) s inputs words nets x e =
    let known : option_map (λ k. cycle.net a * 2 ^ k + cycle.net c) (width_at b.lines c) ≡ Some (cycle.net a * 2 ^ s.low_width + cycle.net c) = ap (option_map (λ k. cycle.net a * 2 ^ k + cycle.net c)) s.low.width in
    let is : cycle.net a * 2 ^ s.low_width + cycle.net c ≡ x = cc in
    subst (λ v. v < 2 ^ w) is (rw s.sum (joined_lt s.high_width s.low_width (cycle.net a) (cycle.net c) (nets a s.high_width s.high.below s.high.width) (nets c s.low_width s.low.below s.low.width)))
value_fits b cycle n w (Not a) s inputs words nets x e =
    let is : 2 ^ w - 1 - cycle.net a ≡ x = cc in
    let p : 0 < 2 ^ w = pow_pos w in omega arith
value_fits b cycle n w (Any a) s inputs words nets x e =
    let is : (if cycle.net a == 0 then 0 else 1) ≡ x = cc in bit_fits (cycle.net a == 0) 0 1 w x s.one_bit (omega arith) (omega arith) is
value_fits b cycle n w (Mux t a c) s inputs words nets x e =
    let is : (if cycle.net t == 0 then cycle.net c else cycle.net a) ≡ x = cc in
    choice_fits (cycle.net t == 0) (cycle.net c) (cycle.net a) w x (nets c w s.branches.right.below s.branches.right.width) (nets a w s.branches.left.below s.branches.left.width) is
value_fits b cycle n w (Slice a high low) s inputs words nets x e =
    let is : cycle.net a / 2 ^ low % 2 ^ (high - low + 1) ≡ x = cc in
    rw s.bits (mod_fits (cycle.net a / 2 ^ low) (high - low + 1) x is)
value_fits b cycle n w (Reg reset next) s inputs words nets x e = cc
value_fits b cycle n w (Read m a) s inputs words nets x e =
    let is : cycle.cell m (cycle.net a) ≡ x = cc in
    let inside = nets a s.memory.address_bits s.address.below s.address.width in
    subst (λ v. v < 2 ^ w) is (subst (λ v. cycle.cell m (cycle.net a) < 2 ^ v) s.width (words m s.memory s.is (cycle.net a) inside))

pub reset_fits : (ports : List PortLine) (memories : List Memory) (lines : List Line) (n w : ℕ) (e : Equation) → IsSound ports memories lines n w e → is_register e ≡ true → unwrap_or (reset_of e) 0 < 2 ^ w
reset_fits ports memories lines n w (Reg reset next) s h = subst (λ v. reset.bits < 2 ^ v) s.width s.word.fits
reset_fits ports memories lines n w (Input port) sound h = cc
reset_fits ports memories lines n w (Constant value) sound h = cc
reset_fits ports memories lines n w (And a b) sound h = cc
reset_fits ports memories lines n w (Or a b) sound h = cc
reset_fits ports memories lines n w (Xor a b) sound h = cc
reset_fits ports memories lines n w (Add a b) sound h = cc
reset_fits ports memories lines n w (Sub a b) sound h = cc
reset_fits ports memories lines n w (Eq a b) sound h = cc
reset_fits ports memories lines n w (Less a b) sound h = cc
reset_fits ports memories lines n w (Concat a b) sound h = cc
reset_fits ports memories lines n w (Not a) sound h = cc
reset_fits ports memories lines n w (Any a) sound h = cc
reset_fits ports memories lines n w (Mux s a b) sound h = cc
reset_fits ports memories lines n w (Slice a high low) sound h = cc
reset_fits ports memories lines n w (Read m a) sound h = cc

pub next_fits : (net : ℕ → ℕ) (w : ℕ) (o : Option ℕ) → IfSome o (λ m. net m < 2 ^ w) → unwrap_or (option_map net o) 0 < 2 ^ w
next_fits net w None h = pow_pos w
next_fits net w (Some m) h = h

-- from here on nothing goes by the kinds of equations

pub given_value : (o : Option ℕ) (d v : ℕ) → v ≡ unwrap_or o d → IfSome o (λ x. v ≡ x)
given_value None d v e = tt
given_value (Some x) d v e = e

pub stepped_value : {X : Type 0} (o : Option X) (net : X → ℕ) (v : ℕ) → v ≡ unwrap_or (option_map net o) 0 → IfSome o (λ m. v ≡ net m)
stepped_value None net v e = tt
stepped_value (Some m) net v e = e

-- a net below n has the same value in the pass and at its end
below_same : (lines : List Line) (given : Cycle) (n m : ℕ) → n ≤ length lines → m < n → nets_after lines given n m ≡ (completed lines given).net m
below_same lines given n m h lt = settled lines given n m lt ∙ sym (settled lines given (length lines) m (omega arith))

completed_value : (b : Netlist) (given : Cycle) (n : ℕ) (line : Line) → IsWellMade b → slice_get b.lines n ≡ Some line →
    (completed b.lines given).net n ≡ unwrap_or (value_of b.lines (completed b.lines given) line.width line.equation) (given.net n)
completed_value b given n line h at =
    let lt = slice_get-within b.lines n line at in
    completed_at b.lines given n line at
    ∙ ap (λ o. unwrap_or o (given.net n)) (value_same b (with_nets given (nets_after b.lines given n)) (completed b.lines given) n line.width line.equation (h.lines n line at).equation
    (λ k v i. refl) (λ m a r. refl) (λ m k. below_same b.lines given n m (omega arith) k))

pub completed_state : (b : Netlist) (given : Cycle) (n : ℕ) (line : Line) → IsWellMade b → slice_get b.lines n ≡ Some line → is_register line.equation ≡ true →
    (completed b.lines given).net n ≡ given.net n
completed_state b given n line h at state =
    completed_value b given n line h at ∙ ap (λ o. unwrap_or o (given.net n)) (no_value b.lines (completed b.lines given) line.width line.equation state)

-- a net's value fits, where those of its operands do
fits_one : (b : Netlist) (given : Cycle) (n : ℕ) (line : Line) → IsWellMade b → InputsFit b.ports given.input → StateFits b given → slice_get b.lines n ≡ Some line →
    ((m v : ℕ) → m < n → HasWidth b m v → (completed b.lines given).net m < 2 ^ v) → (s : Bool) → is_register line.equation ≡ s → (completed b.lines given).net n < 2 ^ line.width
fits_one b given n line h inputs state at below true e =
    subst (λ v. v < 2 ^ line.width) (sym (completed_state b given n line h at e)) (state.registers n line at e)
fits_one b given n line h inputs state at below false e =
    let sound = (h.lines n line at).equation in
    let some = some_value b (completed b.lines given) n line.width line.equation sound e in
    let is : (completed b.lines given).net n ≡ some.0 = completed_value b given n line h at ∙ ap (λ o. unwrap_or o (given.net n)) some.1 in
    subst (λ v. v < 2 ^ line.width) (sym is) (value_fits b (completed b.lines given) n line.width line.equation sound inputs state.words below some.0 some.1)

fits_below : (b : Netlist) (given : Cycle) → IsWellMade b → InputsFit b.ports given.input → StateFits b given →
    (k n v : ℕ) → n < k → HasWidth b n v → (completed b.lines given).net n < 2 ^ v
fits_below b given h inputs state zero n v lt has = absurd (omega arith)
fits_below b given h inputs state (suc k) n v lt has =
    let at = width_at-line b.lines n v has in
    subst (λ w. (completed b.lines given).net n < 2 ^ w) at.2
    (fits_one b given n at.0 h inputs state at.1 (λ m w below has'. fits_below b given h inputs state k m w (omega arith) has') (is_register at.0.equation) refl)

pub completed_fits : (b : Netlist) (given : Cycle) → IsWellMade b → InputsFit b.ports given.input → StateFits b given → (n v : ℕ) → HasWidth b n v → (completed b.lines given).net n < 2 ^ v
completed_fits b given h inputs state n v has = fits_below b given h inputs state (suc n) n v (omega arith) has

pub completed_valuation : (b : Netlist) (given : Cycle) → IsWellMade b → InputsFit b.ports given.input → StateFits b given → IsValuation b (completed b.lines given)
completed_valuation b given h inputs state = record {
  nets = λ n line at. record {
    fits = completed_fits b given h inputs state n line.width (width_at-is b.lines n line at);
    value = given_value (value_of b.lines (completed b.lines given) line.width line.equation) (given.net n) _ (completed_value b given n line h at);
  };
  words = state.words;
}

-- any inputs and state have a valuation
pub has_valuation_law : (b : Netlist) → IsWellMade b → (given : Cycle) → InputsFit b.ports given.input → StateFits b given → HasValuation b given
has_valuation_law b h given inputs state = record {
  cycle = completed b.lines given;
  valuation = completed_valuation b given h inputs state;
  inputs = refl;
  state = record { registers = λ n line at e. sym (completed_state b given n line h at e); words = λ m memory at a lt. refl };
}

-- a net's value in a valuation fits
pub valued_fits : (b : Netlist) (cycle : Cycle) → IsValuation b cycle → (m v : ℕ) → HasWidth b m v → cycle.net m < 2 ^ v
valued_fits b cycle valuation m v has =
    let at = width_at-line b.lines m v has in
    subst (λ w. cycle.net m < 2 ^ w) at.2 ((valuation.nets m at.0 at.1).fits)

-- and no second one
same_one : (b : Netlist) (x y : Cycle) (n : ℕ) (line : Line) → IsWellMade b → IsValuation b x → IsValuation b y → SameInputs b x y → SameState b x y → slice_get b.lines n ≡ Some line →
    ((m : ℕ) → m < n → x.net m ≡ y.net m) → (s : Bool) → is_register line.equation ≡ s → x.net n ≡ y.net n
same_one b x y n line h vx vy inputs state at below true e = state.registers n line at e
same_one b x y n line h vx vy inputs state at below false e =
    let sound = (h.lines n line at).equation in
    let some = some_value b x n line.width line.equation sound e in
    let other : value_of b.lines y line.width line.equation ≡ Some some.0 = sym (value_same b x y n line.width line.equation sound inputs
    (λ m a r. state.words m r.memory r.is (x.net a) (valued_fits b x vx a r.memory.address_bits r.address.width)) below) ∙ some.1 in
    let left : x.net n ≡ some.0 = subst (λ o. IfSome o (λ v. x.net n ≡ v)) some.1 ((vx.nets n line at).value) in
    let right : y.net n ≡ some.0 = subst (λ o. IfSome o (λ v. y.net n ≡ v)) other ((vy.nets n line at).value) in
    left ∙ sym right

same_below : (b : Netlist) (x y : Cycle) → IsWellMade b → IsValuation b x → IsValuation b y → SameInputs b x y → SameState b x y → (k n : ℕ) → n < k → n < length b.lines → x.net n ≡ y.net n
same_below b x y h vx vy inputs state zero n lt within = absurd (omega arith)
same_below b x y h vx vy inputs state (suc k) n lt within =
    let some = slice_get-some b.lines n within in
    same_one b x y n some.0 h vx vy inputs state some.1 (λ m below. same_below b x y h vx vy inputs state k m (omega arith) (omega arith)) (is_register some.0.equation) refl

pub agree_law : (b : Netlist) → IsWellMade b → (x y : Cycle) → IsValuation b x → IsValuation b y → SameInputs b x y → SameState b x y → SameNets b x y
agree_law b h x y vx vy inputs state n within = same_below b x y h vx vy inputs state (suc n) n (omega arith) within
