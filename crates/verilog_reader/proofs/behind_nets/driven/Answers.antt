use Rattle.std.proofs.Common.{ℕ, Bool, cond, Option, None, ap, ◌∙◌}
use Rattle.verilog_forms.specs.Forms.{Form}
use Rattle.verilog_forms.specs.ClockedLines.{assign_form}
use Rattle.verilog_forms.specs.WholeTexts.{told, driven}
use Rattle.verilog_reader.specs.Spots.{found}
use Rattle.verilog_reader.proofs.BehindSteps.{told_found}
use Rattle.verilog_reader.proofs.behind_nets.driven.Goals as goal

pub returns-then-port-clause-read : goal.returns-then-port-clause-read
returns-then-port-clause-read c = λ old all same many.
    let port = c.args.port.now in
    let line = assign_form all old c.args.assigned port in
    let none : Form (Option ℕ) = Form.whole None in
    ap (λ (t : Bool). found (cond t (told line driven) none) c.args.bytes.now c.args.spot) c.if-port.true
    ∙ told_found line driven c.args.bytes.now c.args.spot c.assign_line-net.result.0 c.assign_line-net.result.1 c.requires.within c.assign_line-net.ensures.within (c.assign_line-net.ensures.read old all same many)
