use Rattle.std.proofs.Common.{length, codes, Some, None, sym, ap, ◌∙◌, arith}
use Rattle.netlist.specs.declared.line.Equation.{Equation}
use Rattle.netlist.specs.declared.line.Equation.TheVariants.{Input}
use Rattle.verilog_forms.specs.declared.rule.Rule.TheVariants.{OtherByte}
use Rattle.verilog_forms.specs.Forms.{Form}
use Rattle.verilog_reader.specs.Spots.{found}
use Rattle.verilog_forms.specs.RightSides.{sign_form, behind_form}
use Rattle.verilog_reader.proofs.Steps.{turn_found, refuse_found, fixed_found}
use Rattle.verilog_reader.proofs.RightSteps.{turn_at, other_behind}
use Rattle.verilog_reader.proofs.right.behind_net.Goals as goal

pub returns-in-None-clause-read : goal.returns-in-None-clause-read
returns-in-None-clause-read c =
    let lines = c.args.lines.now in
    turn_found (behind_form lines (length lines) c.args.width c.args.a) c.args.bytes.now c.args.spot None (sym c.in-None.is ∙ c.next_byte.ensures) ∙ refuse_found OtherByte (Form.whole (Input 0)) c.args.bytes.now c.args.spot c.refuse.result c.refuse.ensures

pub returns-in-Some-eq91-clause-read : goal.returns-in-Some-eq91-clause-read
returns-in-Some-eq91-clause-read c =
    let lines = c.args.lines.now in
    turn_at (behind_form lines (length lines) c.args.width c.args.a) c.args.bytes.now c.args.spot c.in-Some-eq91.field-0 91 (omega arith) (sym c.in-Some-eq91.is ∙ c.next_byte.ensures) ∙ c.slice.ensures.read

pub returns-in-Some-clause-read : goal.returns-in-Some-clause-read
returns-in-Some-clause-read c =
    let lines = c.args.lines.now in
    let b = c.in-Some.field-0 in
    let n = length lines in
    turn_found (behind_form lines n c.args.width c.args.a) c.args.bytes.now c.args.spot (Some b) (sym c.in-Some.is ∙ c.next_byte.ensures)
    ∙ ap (λ (f : Form Equation). found f c.args.bytes.now c.args.spot) (other_behind lines n c.args.width c.args.a b (λ e. omega arith))
    ∙ fixed_found (codes " ") (Form.turn (sign_form lines n c.args.width c.args.a)) c.args.bytes.now c.args.spot c.fixed-blank.result c.fixed-blank.ensures.fixed ∙ c.signed.ensures.read
