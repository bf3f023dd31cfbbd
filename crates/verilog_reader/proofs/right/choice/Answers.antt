use Rattle.std.proofs.Common.{◌≡◌, ℕ, ◌==◌, true, false, length, sym, ap, ◌∙◌}
use Rattle.std.proofs.lemmas.Bool.{eq-eqb, ne_eqb}
use Rattle.netlist.specs.declared.line.Equation.TheVariants.{Input}
use Rattle.verilog_forms.specs.declared.rule.Rule.TheVariants.{Width}
use Rattle.verilog_forms.specs.Forms.{Form}
use Rattle.verilog_forms.specs.RightSides.{width_of, choice_form}
use Rattle.verilog_reader.proofs.RightSteps.{guarded_refused, choice_found}
use Rattle.verilog_reader.proofs.right.choice.Goals as goal

pub returns-then-width_of-ne1-clause-read : goal.returns-then-width_of-ne1-clause-read
returns-then-width_of-ne1-clause-read c =
    let lines = c.args.lines.now in
    let wide : (width_of lines c.args.s == 1) ≡ false = ap (λ (v : ℕ). v == 1) (sym c.width_of.ensures) ∙ ne_eqb c.width_of.result 1 c.if-width_of-ne1.true in
    guarded_refused (width_of lines c.args.s == 1) Width (choice_form lines (length lines) c.args.width c.args.s) (Form.whole (Input 0)) c.args.bytes.now c.args.spot c.refuse.result wide c.refuse.ensures

pub returns-clause-read : goal.returns-clause-read
returns-clause-read c =
    let lines = c.args.lines.now in
    let bit : (width_of lines c.args.s == 1) ≡ true = ap (λ (v : ℕ). v == 1) (sym c.width_of.ensures) ∙ eq-eqb c.width_of.result 1 c.if-width_of-ne1.false in
    choice_found lines c.args.width c.args.s c.args.bytes.now c.args.spot c.fixed-asked.result c.operand-a.result.0 c.operand-a.result.1 c.fixed-colon.result c.operand-b.result.0 c.operand-b.result.1 bit
    c.fixed-asked.ensures.fixed c.operand-a.ensures.read c.fixed-colon.ensures.fixed c.operand-b.ensures.read
