-- The line of a net.
use Rattle.std.proofs.Common.{◌≡◌, ℕ, ◌<◌, ◌≤◌, Bool, true, false, List, length, slice_get, Option, Some, ◌⊎◌, inl, inr, refl, sym, subst, ap, ◌∙◌, arith}
use Rattle.std.specs.Prelude.{option_map}
use Rattle.std.proofs.lemmas.Option.{same_Some}
use Rattle.netlist.specs.declared.line.Line.{Line}
use Rattle.netlist.specs.declared.line.Equation.{Equation}
use Rattle.netlist.specs.declared.line.Equation.TheVariants.{Input, Constant, And, Or, Xor, Add, Sub, Eq, Less, Concat, Not, Any, Mux, Slice, Reg, Read}
use Rattle.netlist.specs.Netlists.{Netlist, IsModule, IsSound, HasWidth, line_of}
use Rattle.cycle_sim.specs.Readers.{Reads}
use Rattle.cycle_sim.proofs.reading.Values.{slice_get-some}

-- the line of net n, which has this equation
pub record Here (b : Netlist) (n : ℕ) (e : Equation) : Type 0 where
  pub width : ℕ
  pub at : slice_get b.lines n ≡ Some (line_of width e)
  pub sound : IsSound b.ports b.memories b.lines n width e
  pub some_bit : 1 ≤ width
  pub small : width ≤ 128

pub here : (b : Netlist) (n : ℕ) (e : Equation) → IsModule b → n < length b.lines → ((w : ℕ) → HasWidth b n w → slice_get b.lines n ≡ Some (line_of w e)) → Here b n e
here b n e h lt is =
    let some = slice_get-some b.lines n lt in
    let has : HasWidth b n some.0.width = ap (option_map (λ (line : Line). line.width)) some.1 in
    let at = is some.0.width has in
    let sound = h.well_made.lines n (line_of some.0.width e) at in
    record { width = some.0.width; at = at; sound = sound.equation; some_bit = sound.some_bit; small = sound.small }

one_of_three : (n a c d m : ℕ) → a < n → c < n → d < n → (m ≡ a) ⊎ (m ≡ c) ⊎ (m ≡ d) → m < n
one_of_three n a c d m below_a below_c below_d r = elim r [ inl e ↦ omega arith | inr r2 ↦ elim r2 [ inl e ↦ omega arith | inr e ↦ omega arith ] ]

one_of_two : (n a c m : ℕ) → a < n → c < n → (m ≡ a) ⊎ (m ≡ c) ⊎ (m ≡ c) → m < n
one_of_two n a c m below_a below_c r = one_of_three n a c c m below_a below_c below_c r

-- the nets that a net's equation reads stand below it
pub reads_below : (b : Netlist) (n w : ℕ) (e : Equation) → IsSound b.ports b.memories b.lines n w e → (m : ℕ) → Reads e m → m < n
reads_below b n w (Input port) s m r = absurd r
reads_below b n w (Constant value) s m r = absurd r
reads_below b n w (And a c) s m r = one_of_two n a c m s.left.below s.right.below r
reads_below b n w (Or a c) s m r = one_of_two n a c m s.left.below s.right.below r
reads_below b n w (Xor a c) s m r = one_of_two n a c m s.left.below s.right.below r
reads_below b n w (Add a c) s m r = one_of_two n a c m s.left.below s.right.below r
reads_below b n w (Sub a c) s m r = one_of_two n a c m s.left.below s.right.below r
reads_below b n w (Eq a c) s m r = one_of_two n a c m s.operands.left.below s.operands.right.below r
reads_below b n w (Less a c) s m r = one_of_two n a c m s.operands.left.below s.operands.right.below r
reads_below b n w (Concat a c) s m r = one_of_two n a c m s.high.below s.low.below r
reads_below b n w (Not a) s m r = one_of_two n a a m s.below s.below r
reads_below b n w (Any a) s m r = one_of_two n a a m s.operand.below s.operand.below r
reads_below b n w (Mux t a c) s m r = one_of_three n t a c m s.test.below s.branches.left.below s.branches.right.below r
reads_below b n w (Slice a high low) s m r = one_of_two n a a m s.operand.below s.operand.below r
reads_below b n w (Reg reset next) s m r = absurd r
reads_below b n w (Read j a) s m r = one_of_two n a a m s.address.below s.address.below r

-- the equation of net n is the one that was read there
pub equation_is : (b : Netlist) (n : ℕ) (e : Equation) → IsModule b → n < length b.lines → ((w : ℕ) → HasWidth b n w → slice_get b.lines n ≡ Some (line_of w e)) → (line : Line) → slice_get b.lines n ≡ Some line → line.equation ≡ e
equation_is b n e h lt is line at = ap (λ (l : Line). l.equation) (same_Some _ _ (sym at ∙ (here b n e h lt is).at))
