use Rattle.std.proofs.Common.{ℕ, length, ◌∙◌}
use Rattle.verilog_reader.specs.declared.holes.Wanted.TheVariants.{Any}
use Rattle.verilog_forms.specs.Forms.{Form}
use Rattle.verilog_forms.specs.RightSides.{behind_form}
use Rattle.verilog_reader.proofs.RightSteps.{operand_found}
use Rattle.verilog_reader.proofs.right.net_first.Goals as goal

pub returns-clause-read : goal.returns-clause-read
returns-clause-read c =
    let lines = c.args.lines.now in
    operand_found lines Any (λ (a : ℕ). Form.turn (behind_form lines (length lines) c.args.width a)) c.args.bytes.now c.args.spot c.operand-a.result.0 c.operand-a.result.1 c.operand-a.ensures.read ∙ c.behind_net.ensures.read
