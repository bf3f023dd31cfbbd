use Rattle.std.proofs.Common.{length, Some, None, sym, ap, ◌∙◌, arith}
use Rattle.netlist.specs.declared.line.Equation.{Equation}
use Rattle.netlist.specs.declared.line.Equation.TheVariants.{Input, Not, Any as AnyBit}
use Rattle.verilog_forms.specs.declared.rule.Rule.TheVariants.{OtherByte}
use Rattle.verilog_forms.specs.Forms.{Form}
use Rattle.verilog_reader.specs.Spots.{found}
use Rattle.verilog_forms.specs.RightSides.{begun_form}
use Rattle.verilog_reader.proofs.Steps.{turn_found, refuse_found}
use Rattle.verilog_reader.proofs.RightSteps.{turn_at, other_begun}
use Rattle.verilog_reader.proofs.right.right_side.Goals as goal

pub returns-in-Some-eq126-clause-read : goal.returns-in-Some-eq126-clause-read
returns-in-Some-eq126-clause-read c =
    let lines = c.args.lines.now in
    turn_at (begun_form c.args.memories.now lines (length lines) c.args.width) c.args.bytes.now c.args.spot c.in-Some-eq126.field-0 126 (omega arith) (sym c.in-Some-eq126.is ∙ c.next_byte.ensures) ∙ c.second-a.ensures.read Not

pub returns-in-Some-eq124-clause-read : goal.returns-in-Some-eq124-clause-read
returns-in-Some-eq124-clause-read c =
    let lines = c.args.lines.now in
    turn_at (begun_form c.args.memories.now lines (length lines) c.args.width) c.args.bytes.now c.args.spot c.in-Some-eq124.field-0 124 (omega arith) (sym c.in-Some-eq124.is ∙ c.next_byte.ensures) ∙ c.guarded_second-a.ensures.read AnyBit

pub returns-in-Some-eq123-clause-read : goal.returns-in-Some-eq123-clause-read
returns-in-Some-eq123-clause-read c =
    let lines = c.args.lines.now in
    turn_at (begun_form c.args.memories.now lines (length lines) c.args.width) c.args.bytes.now c.args.spot c.in-Some-eq123.field-0 123 (omega arith) (sym c.in-Some-eq123.is ∙ c.next_byte.ensures) ∙ c.concatenation.ensures.read

pub returns-in-Some-eq110-clause-read : goal.returns-in-Some-eq110-clause-read
returns-in-Some-eq110-clause-read c =
    let lines = c.args.lines.now in
    turn_at (begun_form c.args.memories.now lines (length lines) c.args.width) c.args.bytes.now c.args.spot c.in-Some-eq110.field-0 110 (omega arith) (sym c.in-Some-eq110.is ∙ c.next_byte.ensures) ∙ c.net_first.ensures.read

pub returns-in-Some-eq109-clause-read : goal.returns-in-Some-eq109-clause-read
returns-in-Some-eq109-clause-read c =
    let lines = c.args.lines.now in
    turn_at (begun_form c.args.memories.now lines (length lines) c.args.width) c.args.bytes.now c.args.spot c.in-Some-eq109.field-0 109 (omega arith) (sym c.in-Some-eq109.is ∙ c.next_byte.ensures) ∙ c.word.ensures.read

pub returns-in-Some-clause-read : goal.returns-in-Some-clause-read
returns-in-Some-clause-read c =
    let lines = c.args.lines.now in
    let n = length lines in
    let b = c.in-Some.byte in
    turn_found (begun_form c.args.memories.now lines n c.args.width) c.args.bytes.now c.args.spot (Some b) (sym c.in-Some.is ∙ c.next_byte.ensures)
    ∙ ap (λ (f : Form Equation). found f c.args.bytes.now c.args.spot) (other_begun c.args.memories.now lines n c.args.width b (λ e. omega arith) (λ e. omega arith) (λ e. omega arith) (λ e. omega arith) (λ e. omega arith))
    ∙ c.constant_side.ensures.read

pub returns-in-None-clause-read : goal.returns-in-None-clause-read
returns-in-None-clause-read c =
    let lines = c.args.lines.now in
    turn_found (begun_form c.args.memories.now lines (length lines) c.args.width) c.args.bytes.now c.args.spot None (sym c.in-None.is ∙ c.next_byte.ensures)
    ∙ refuse_found OtherByte (Form.whole (Input 0)) c.args.bytes.now c.args.spot c.refuse.result c.refuse.ensures
