-- The registers of a list of lines, one after another.
use Rattle.std.proofs.Common.{◌≡◌, ℕ, ◌+◌, ◌<◌, true, false, List, [], ◌∷◌, ◌++◌, length, slice_get, Some, inl, inr, refl, sym, subst, ◌∙◌, arith}
use Rattle.std.proofs.lemmas.Bool.{false≢true}
use Rattle.std.proofs.lemmas.Option.{slice_get_within}
use Rattle.av_base.specs.Word.{Word}
use Rattle.netlist.specs.declared.line.Line.{Line}
use Rattle.netlist.specs.declared.line.Equation.{Equation}
use Rattle.netlist.specs.declared.line.Equation.TheVariants.{Reg}
use Rattle.netlist.specs.Netlists.{is_register}
use Rattle.cycle_sim.specs.declared.reading.registers.Register.{Register}
use Rattle.cycle_sim.specs.Registers.{IsRegisterOf, HasRegister, AreRegisters}
use Rattle.cycle_sim.proofs.reading.Values.{split_more, slice_get-push, slice_get-front, slice_get-last}

pub no_register : (e : Equation) → ((x : Word) (m : ℕ) → e ≡ Reg x m → ⊥) → is_register e ≡ false
no_register (Reg reset next) h = absurd (h reset next refl)
no_register _ h = refl

-- the registers below k
pub record AreRegistersTo (lines : List Line) (registers : List Register) (k : ℕ) : Type 0 where
  pub each : (j : ℕ) (register : Register) → slice_get registers j ≡ Some register → IsRegisterOf lines register
  pub all : (n : ℕ) (line : Line) → n < k → slice_get lines n ≡ Some line → is_register line.equation ≡ true → HasRegister registers n

pub registers_none : (lines : List Line) → AreRegistersTo lines [] 0
registers_none lines = record { each = λ j register at. cc; all = λ n line lt at r. absurd (omega arith) }

pub registers_more : (lines : List Line) (registers : List Register) (k : ℕ) (register : Register) → AreRegistersTo lines registers k → register.net ≡ k → IsRegisterOf lines register → AreRegistersTo lines (registers ++ register ∷ []) (k + 1)
registers_more lines registers k register h net its = record {
  each = λ j other at. elim (slice_get-push registers register other j at) [ inl o ↦ h.each j other o | inr o ↦ subst (IsRegisterOf lines) o.1 its ];
  all = λ n line lt at r. elim (split_more n k lt) [
    | inl below ↦ (let has = h.all n line below at r in
        record { place = has.place; register = has.register; is = slice_get-front registers (register ∷ []) has.place has.register has.is; net = has.net })
    | inr same ↦ record { place = length registers; register = register; is = slice_get-last registers register; net = net ∙ sym same }
  ];
}

pub registers_kept : (lines : List Line) (registers : List Register) (k : ℕ) → AreRegistersTo lines registers k → ((line : Line) → slice_get lines k ≡ Some line → is_register line.equation ≡ false) → AreRegistersTo lines registers (k + 1)
registers_kept lines registers k h none = record {
  each = h.each;
  all = λ n line lt at r. elim (split_more n k lt) [
    | inl below ↦ h.all n line below at r
    | inr same ↦ absurd (false≢true (sym (none line (subst (λ m. slice_get lines m ≡ Some line) same at)) ∙ r))
  ];
}

pub registers_all : (lines : List Line) (registers : List Register) → AreRegistersTo lines registers (length lines) → AreRegisters lines registers
registers_all lines registers h = record { each = h.each; all = λ n line at r. h.all n line (slice_get_within lines n line at) at r }
