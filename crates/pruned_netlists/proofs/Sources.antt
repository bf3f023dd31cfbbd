-- The nets that an equation goes by are nets.
use Rattle.std.proofs.Common.{◌≡◌, ℕ, ◌<◌, inl, inr, Bool, true, false, List, [], ◌∷◌, length, slice_get, Option, Some, None, refl, sym, subst}
use Rattle.std.specs.Prelude.{IfSome}
use Rattle.std.proofs.lemmas.Option.{slice_get_within}
use Rattle.netlist.specs.declared.line.Line.{Line}
use Rattle.netlist.specs.declared.line.Memory.{Memory}
use Rattle.netlist.specs.declared.line.MemWrite.{MemWrite}
use Rattle.netlist.specs.declared.line.Equation.{Equation}
use Rattle.netlist.specs.declared.line.Equation.TheVariants.{Input, Constant, And, Or, Xor, Add, Sub, Eq, Less, Concat, Not, Any, Mux, Slice, Reg, Read}
use Rattle.netlist.specs.Netlists.{Netlist, IsModule, IsWellMade, IsWriteOf, IsSoundMemory, IsOperand, AreOperands, IsSound, width_at, next_in, next_of}
use Rattle.pruned_netlists.specs.Needed.{IsOneOf, write_nets, memory_nets, sources, IsNeeded}
use Rattle.pruned_netlists.proofs.Lines.{width_at-line}

pub width_within : (lines : List Line) (n w : ℕ) → width_at lines n ≡ Some w → n < length lines
width_within lines n w e = let at = width_at-line lines n w e in slice_get_within lines n at.0 at.1

-- one of two
pair_within : (lines : List Line) (n a b w x : ℕ) → AreOperands lines n a b w → IsOneOf x (a ∷ b ∷ []) → x < length lines
pair_within lines n a b w x h (inl e) = subst (λ y. y < length lines) (sym e) (width_within lines a w h.left.width)
pair_within lines n a b w x h (inr (inl e)) = subst (λ y. y < length lines) (sym e) (width_within lines b w h.right.width)
pair_within lines n a b w x h (inr (inr e)) = absurd e

one_within : (lines : List Line) (n a w x : ℕ) → IsOperand lines n a w → IsOneOf x (a ∷ []) → x < length lines
one_within lines n a w x h (inl e) = subst (λ y. y < length lines) (sym e) (width_within lines a w h.width)
one_within lines n a w x h (inr e) = absurd e

write_within : (lines : List Line) (memory : Memory) (o : Option MemWrite) (x : ℕ) → IfSome o (λ write. IsWriteOf lines memory write) → IsOneOf x (write_nets o) → x < length lines
write_within lines memory None x h k = absurd k
write_within lines memory (Some write) x h (inl e) = subst (λ y. y < length lines) (sym e) (width_within lines write.enable 1 h.enable)
write_within lines memory (Some write) x h (inr (inl e)) = subst (λ y. y < length lines) (sym e) (width_within lines write.address memory.address_bits h.address)
write_within lines memory (Some write) x h (inr (inr (inl e))) = subst (λ y. y < length lines) (sym e) (width_within lines write.word memory.width h.word)
write_within lines memory (Some write) x h (inr (inr (inr e))) = absurd e

memory_within : (b : Netlist) (o : Option Memory) (x : ℕ) → IfSome o (λ memory. IsSoundMemory b.lines memory) → IsOneOf x (memory_nets o) → x < length b.lines
memory_within b None x h k = absurd k
memory_within b (Some memory) x h k = write_within b.lines memory memory.write x h.write k

if_at : (b : Netlist) (m : ℕ) → IsWellMade b → (o : Option Memory) → slice_get b.memories m ≡ o → IfSome o (λ memory. IsSoundMemory b.lines memory)
if_at b m h None e = tt
if_at b m h (Some memory) e = h.memories m memory e

equation_within : (b : Netlist) (n w x : ℕ) (e : Equation) → IsWellMade b → IsSound b.ports b.memories b.lines n w e → IfSome (next_in e) (λ m. width_at b.lines m ≡ Some w) → IsOneOf x (sources b.memories e) → x < length b.lines
equation_within b n w x (Input port) h s next k = absurd k
equation_within b n w x (Constant value) h s next k = absurd k
equation_within b n w x (And a c) h s next k = pair_within b.lines n a c w x s k
equation_within b n w x (Or a c) h s next k = pair_within b.lines n a c w x s k
equation_within b n w x (Xor a c) h s next k = pair_within b.lines n a c w x s k
equation_within b n w x (Add a c) h s next k = pair_within b.lines n a c w x s k
equation_within b n w x (Sub a c) h s next k = pair_within b.lines n a c w x s k
equation_within b n w x (Eq a c) h s next k = pair_within b.lines n a c s.width x s.operands k
equation_within b n w x (Less a c) h s next k = pair_within b.lines n a c s.width x s.operands k
equation_within b n w x (Concat a c) h s next (inl e) = one_within b.lines n a s.high_width x s.high (inl e)
equation_within b n w x (Concat a c) h s next (inr k) = one_within b.lines n c s.low_width x s.low k
equation_within b n w x (Not a) h s next k = one_within b.lines n a w x s k
equation_within b n w x (Any a) h s next k = one_within b.lines n a s.width x s.operand k
equation_within b n w x (Mux t a c) h s next (inl e) = one_within b.lines n t 1 x s.test (inl e)
equation_within b n w x (Mux t a c) h s next (inr k) = pair_within b.lines n a c w x s.branches k
equation_within b n w x (Slice a high low) h s next k = one_within b.lines n a s.width x s.operand k
equation_within b n w x (Reg reset m) h s next (inl e) = subst (λ y. y < length b.lines) (sym e) (width_within b.lines m w next)
equation_within b n w x (Reg reset m) h s next (inr k) = absurd k
equation_within b n w x (Read m a) h s next (inl e) = one_within b.lines n a s.memory.address_bits x s.address (inl e)
equation_within b n w x (Read m a) h s next (inr k) = memory_within b (slice_get b.memories m) x (if_at b m h (slice_get b.memories m) refl) k

-- no line of a module waits
pub not_waiting : (b : Netlist) (n : ℕ) (line : Line) → IsModule b → slice_get b.lines n ≡ Some line → line.waits ≡ false
not_waiting b n line h at = one line.waits refl where
  one : (t : Bool) → line.waits ≡ t → t ≡ false
  one true e = absurd (h.clocked n (record { line = line; is = at; waits = e }))
  one false e = refl

pub next_is : (line : Line) → line.waits ≡ false → next_of line ≡ next_in line.equation
next_is line e = rw e refl

pub source_within : (b : Netlist) (n x : ℕ) (line : Line) → IsModule b → slice_get b.lines n ≡ Some line → IsOneOf x (sources b.memories line.equation) → x < length b.lines
source_within b n x line h at k =
    let sound = h.well_made.lines n line at in
    equation_within b n line.width x line.equation h.well_made sound.equation
    (subst (λ o. IfSome o (λ m. width_at b.lines m ≡ Some line.width)) (next_is line (not_waiting b n line h at)) sound.next) k

pub needed_within : (b : Netlist) (n : ℕ) → IsModule b → IsNeeded b n → n < length b.lines
needed_within b n h (IsNeeded.input _ line at e) = slice_get_within b.lines n line at
needed_within b n h (IsNeeded.drives k _ e) = let d = h.well_made.drivers k n e in width_within b.lines n d.width d.net
needed_within b n h (IsNeeded.source m _ line at k needed) = source_within b m n line h at k
