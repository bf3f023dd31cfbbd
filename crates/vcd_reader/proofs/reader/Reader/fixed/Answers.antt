use Rattle.std.proofs.Common.{◌∙◌, arith}
use Rattle.vcd_reader.proofs.Steps.{fixed_tells, fixed_breaks, tail_is}
use Rattle.vcd_reader.proofs.reader.Reader.fixed.Goals as goal

pub returns-then-same-part : goal.returns-then-same-part
returns-then-same-part c =
    fixed_breaks c.args.part.now c.args.self.now c.rest-text.result.now c.go_on.new.self c.same_len-same.result c.rest-text.ensures c.same_len-same.ensures.length (c.go_on.ensures ∙ tail_is c.rest-text.result.now c.same_len-same.result) (omega arith)

pub returns : goal.returns
returns c =
    fixed_tells c.args.part.now c.args.self.now c.rest-text.result.now c.go_on.new.self c.same_len-same.result c.rest-text.ensures c.same_len-same.ensures.length (c.go_on.ensures ∙ tail_is c.rest-text.result.now c.same_len-same.result) (omega arith)
