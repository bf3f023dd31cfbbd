use Rattle.std.proofs.Common.{Bool, sym, ap, ◌∙◌}
use Rattle.std.specs.Prelude.{if◌then◌else◌}
use Rattle.netlist.specs.declared.line.Equation.{Equation}
use Rattle.netlist.specs.declared.line.Equation.TheVariants.{Input}
use Rattle.verilog_forms.specs.declared.rule.Rule.TheVariants.{OtherByte}
use Rattle.verilog_forms.specs.Forms.{Form}
use Rattle.verilog_reader.specs.Spots.{found}
use Rattle.verilog_forms.specs.RightSides.{constant_form}
use Rattle.verilog_reader.proofs.Steps.{refuse_found}
use Rattle.verilog_reader.proofs.right.constant_side.Goals as goal

pub returns-then-is_digit-clause-read : goal.returns-then-is_digit-clause-read
returns-then-is_digit-clause-read c =
    let refused : Form Equation = Form.refuse OtherByte in
    ap (λ (t : Bool). found (if t then constant_form c.args.width else refused) c.args.bytes.now c.args.spot) (sym c.is_digit.ensures ∙ c.if-is_digit.true) ∙ c.constant-value.ensures.read

pub returns-else-is_digit-clause-read : goal.returns-else-is_digit-clause-read
returns-else-is_digit-clause-read c =
    let refused : Form Equation = Form.refuse OtherByte in
    ap (λ (t : Bool). found (if t then constant_form c.args.width else refused) c.args.bytes.now c.args.spot) (sym c.is_digit.ensures ∙ c.if-is_digit.false)
    ∙ refuse_found OtherByte (Form.whole (Input 0)) c.args.bytes.now c.args.spot c.refuse.result c.refuse.ensures
