use Rattle.std.proofs.Common.{length, ◌∙◌}
use Rattle.verilog_forms.specs.declared.rule.Rule.TheVariants.{Width}
use Rattle.verilog_forms.specs.Forms.{Form}
use Rattle.verilog_forms.specs.RightSides.{second}
use Rattle.verilog_reader.specs.Holes.{fits}
use Rattle.verilog_reader.proofs.RightSteps.{guarded_found, guarded_refused}
use Rattle.verilog_reader.proofs.right.guarded_second.Goals as goal

pub returns-else-good-clause-read : goal.returns-else-good-clause-read
returns-else-good-clause-read c make =
    let lines = c.args.lines.now in
    guarded_refused c.args.good Width (second lines (length lines) c.args.sign.now (fits c.args.wanted) make) (Form.whole (make 0)) c.args.bytes.now c.args.spot c.refuse.result c.if-good.false c.refuse.ensures

pub returns-then-good-clause-read : goal.returns-then-good-clause-read
returns-then-good-clause-read c make =
    let lines = c.args.lines.now in
    guarded_found c.args.good Width (second lines (length lines) c.args.sign.now (fits c.args.wanted) make) c.args.bytes.now c.args.spot c.if-good.true ∙ c.second.ensures.read make
