use Rattle.std.proofs.Common.{◌≡◌, ℕ, zero, suc, ◌<◌, true, false, slice_get, Some, refl, sym, ap, arith}
use Rattle.std.proofs.lemmas.Option.{same_Some}
use Rattle.av_base.specs.Word.{word}
use Rattle.netlist.specs.declared.line.Line.{Line}
use Rattle.netlist.specs.declared.line.Equation.TheVariants.{Reg}
use Rattle.netlist.specs.Netlists.{line_of}
use Rattle.narrowed_netlists.specs.Narrowed.{is_fixed}
use Rattle.narrowed_netlists.specs.Rows.{held}
use Rattle.narrowed_netlists.proofs.rows.rows_are_judged.Goals as goal

fixed_below : (n : ℕ) (line : Line) → n < 2 → slice_get held.lines n ≡ Some line → is_fixed line.equation ≡ true
fixed_below zero line lt at = ap (λ (l : Line). is_fixed l.equation) (sym (same_Some _ _ at))
fixed_below (suc zero) line lt at = ap (λ (l : Line). is_fixed l.equation) (sym (same_Some _ _ at))
fixed_below (suc (suc n)) line lt at = absurd (omega (arith, lt))

pub returns-clause-fixed : goal.returns-clause-fixed
returns-clause-fixed c = fixed_below

pub returns-clause-register : goal.returns-clause-register
returns-clause-register c fixed = let same : false ≡ true = fixed 2 (line_of 1 (Reg (word 1 0) 0)) (omega arith) refl in cc

pub returns-clause-whole_word : goal.returns-clause-whole_word
returns-clause-whole_word c fits = let some_bit = fits.some_bit in omega (arith, some_bit)

pub returns-clause-outside : goal.returns-clause-outside
returns-clause-outside c fits = let inside = fits.inside in omega (arith, inside)
