use Rattle.std.proofs.Common.{◌≡◌, ℕ, zero, suc, slice_get, Some, refl, ap, subst}
use Rattle.std.proofs.lemmas.Option.{none-some, same_Some}
use Rattle.av_base.specs.Word.{Word}
use Rattle.netlist.specs.declared.line.Line.{Line}
use Rattle.netlist.specs.declared.line.Equation.TheVariants.{Input, Reg}
use Rattle.netlist.specs.Netlists.{HasWidth, line_of}
use Rattle.settled_netlists.specs.Values.{value_at, given_by}
use Rattle.settled_netlists.specs.Rows.{low, high, small, stays_low}
use Rattle.settled_netlists.proofs.rows.rows_are_judged.Goals as goal

wide : (n : ℕ) (value : Word) → value_at stays_low n ≡ Some value → HasWidth small n value.width
wide zero value is = cc
wide (suc zero) value is = ap (λ (v : Word). Some v.width) (same_Some _ _ is)
wide (suc (suc zero)) value is = ap (λ (v : Word). Some v.width) (same_Some _ _ is)
wide (suc (suc (suc n))) value is = cc

given : (n : ℕ) (line : Line) (value : Word) → slice_get small.lines n ≡ Some line → value_at stays_low n ≡ Some value → given_by stays_low line.equation ≡ Some value
given zero line value at is = cc
given (suc zero) line value at is = subst (λ (l : Line). given_by stays_low l.equation ≡ Some value) (same_Some _ _ at) is
given (suc (suc zero)) line value at is = subst (λ (l : Line). given_by stays_low l.equation ≡ Some value) (same_Some _ _ at) is
given (suc (suc (suc n))) line value at is = cc

pub returns-clause-right : goal.returns-clause-right
returns-clause-right c = record { widths = wide; each = given }

pub returns-clause-without_next : goal.returns-clause-without_next
returns-clause-without_next c s = none-some low (s.each 1 (line_of 1 (Reg low 2)) low refl refl)

pub returns-clause-stays_high : goal.returns-clause-stays_high
returns-clause-stays_high c s = none-some high (s.each 1 (line_of 1 (Reg low 2)) high refl refl)

pub returns-clause-turns : goal.returns-clause-turns
returns-clause-turns c s = none-some low (s.each 3 (line_of 1 (Reg low 4)) low refl refl)

pub returns-clause-input_known : goal.returns-clause-input_known
returns-clause-input_known c s = none-some low (s.each 0 (line_of 1 (Input 0)) low refl refl)
