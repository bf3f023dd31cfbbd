use Rattle.std.proofs.Common.{sym, ◌∙◌}
use Rattle.vcd_reader.specs.declared.rule.Rule.TheVariants.{Code}
use Rattle.vcd_reader.specs.Spellings.{is_of_code, port_in}
use Rattle.vcd_reader.proofs.Steps.{hole_tells, hole_breaks}
use Rattle.vcd_reader.proofs.reader.Reader.code.Goals as goal

pub returns-in-Some-clause-read : goal.returns-in-Some-clause-read
returns-in-Some-clause-read c = λ lets_in only.
    hole_tells is_of_code Code (port_in lets_in) c.args.self.now c.run-run.result.now c.run-run.new.self c.in-Some.port c.run-run.ensures.run c.run-run.ensures.rest (sym (c.in-Some.ensures.read lets_in only))

pub returns-in-None-clause-read : goal.returns-in-None-clause-read
returns-in-None-clause-read c = λ lets_in only.
    hole_breaks is_of_code Code (port_in lets_in) c.args.self.now c.run-run.result.now c.go_on.new.self c.run-run.ensures.run (c.go_on.ensures ∙ c.rest-text.ensures) (sym (c.in-None.ensures.read lets_in only))
