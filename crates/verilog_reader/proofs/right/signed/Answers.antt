use Rattle.std.proofs.Common.{length, None, refl, sym, ap, ◌∙◌}
use Rattle.netlist.specs.declared.line.Equation.{Equation}
use Rattle.netlist.specs.declared.line.Equation.TheVariants.{Input}
use Rattle.verilog_forms.specs.declared.rule.Rule.TheVariants.{OtherByte}
use Rattle.verilog_forms.specs.Forms.{Form}
use Rattle.verilog_forms.specs.RightSides.{sign_form}
use Rattle.verilog_reader.specs.declared.operators.Infix.TheVariants as op
use Rattle.verilog_reader.specs.Spots.{found}
use Rattle.verilog_reader.specs.Operators.{first_byte}
use Rattle.verilog_reader.proofs.Steps.{turn_found, refuse_found}
use Rattle.verilog_reader.proofs.RightSteps.{turn_at, sign_is, other_sign}
use Rattle.verilog_reader.proofs.right.signed.Goals as goal

pub returns-in_default-clause-read : goal.returns-in_default-clause-read
returns-in_default-clause-read c =
    let lines = c.args.lines.now in
    turn_found (sign_form lines (length lines) c.args.width c.args.a) c.args.bytes.now c.args.spot None (sym c.in_default.is ∙ c.next_byte.ensures)
    ∙ refuse_found OtherByte (Form.whole (Input 0)) c.args.bytes.now c.args.spot c.refuse.result c.refuse.ensures

pub returns-in-Some-of-clause-read : goal.returns-in-Some-of-clause-read
returns-in-Some-of-clause-read c =
    let lines = c.args.lines.now in
    let n = length lines in
    let operator = c.in-Some-of.operator in
    turn_at (sign_form lines n c.args.width c.args.a) c.args.bytes.now c.args.spot c.in-Some.sign (first_byte operator) c.in-Some-of.ensures.found (sym c.in-Some.is ∙ c.next_byte.ensures)
    ∙ ap (λ (f : Form Equation). found f c.args.bytes.now c.args.spot) (sign_is lines n c.args.width c.args.a operator) ∙ c.operation.ensures.read

pub returns-in-None-clause-read : goal.returns-in-None-clause-read
returns-in-None-clause-read c =
    let lines = c.args.lines.now in
    turn_at (sign_form lines (length lines) c.args.width c.args.a) c.args.bytes.now c.args.spot c.in-Some.sign 63 c.if-sign-eq63.true (sym c.in-Some.is ∙ c.next_byte.ensures) ∙ c.choice.ensures.read

pub returns-in-None-2-clause-read : goal.returns-in-None-2-clause-read
returns-in-None-2-clause-read c =
    let lines = c.args.lines.now in
    let none = c.in-None.ensures.none refl in
    turn_at (sign_form lines (length lines) c.args.width c.args.a) c.args.bytes.now c.args.spot c.in-Some.sign c.in-Some.sign refl (sym c.in-Some.is ∙ c.next_byte.ensures)
    ∙ ap (λ (f : Form Equation). found f c.args.bytes.now c.args.spot)
    (other_sign lines (length lines) c.args.width c.args.a c.in-Some.sign (none op.And) (none op.Or) (none op.Xor) (none op.Add) (none op.Sub) (none op.Eq) (none op.Less) c.if-sign-eq63.false)
    ∙ refuse_found OtherByte (Form.whole (Input 0)) c.args.bytes.now c.args.spot c.refuse-in-None-2.result c.refuse-in-None-2.ensures
