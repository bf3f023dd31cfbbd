use Rattle.std.proofs.Common.{Bool, cond, sym, ap, ◌∙◌}
use Rattle.verilog_forms.specs.Forms.{Form}
use Rattle.verilog_reader.specs.Spots.{found}
use Rattle.verilog_forms.specs.ClockedLines.{clock_form}
use Rattle.verilog_reader.proofs.behind_nets.clocked_net.Goals as goal

pub returns-then-is_register-clause-read : goal.returns-then-is_register-clause-read
returns-then-is_register-clause-read c = λ old all same count.
    ap (λ (t : Bool). found (cond t (clock_form all old c.args.net c.args.line.width) (Form.whole c.args.line)) c.args.bytes.now c.args.spot) (sym c.is_register.ensures ∙ c.if-is_register.true) ∙ c.clock_line.ensures.read old all same count
