use Rattle.std.proofs.Common.{Bool, Some, None, ap, ◌∙◌}
use Rattle.std.specs.Prelude.{if◌then◌else◌}
use Rattle.vcd_reader.specs.declared.rule.Rule.TheVariants.{Name}
use Rattle.vcd_reader.specs.Spellings.{is_of_name, port_name_in}
use Rattle.vcd_reader.proofs.Steps.{hole_tells_run, hole_breaks}
use Rattle.vcd_reader.proofs.reader.Reader.port_name.Goals as goal

pub returns-then-is_port_name : goal.returns-then-is_port_name
returns-then-is_port_name c = λ ports are.
    (let run = c.run-run.result.now in
    hole_tells_run is_of_name Name (port_name_in ports) c.args.self.now run c.run-run.new.self c.text_of.result.now c.run-run.ensures.run c.run-run.ensures.rest
    (c.is_port_name.ensures ports are ∙ ap (λ (t : Bool). if t then Some run else None) c.if-is_port_name.true) c.text_of.ensures)

pub returns : goal.returns
returns c = λ ports are.
    (let run = c.run-run.result.now in
    hole_breaks is_of_name Name (port_name_in ports) c.args.self.now run c.go_on.new.self c.run-run.ensures.run (c.go_on.ensures ∙ c.rest-text.ensures)
    (c.is_port_name.ensures ports are ∙ ap (λ (t : Bool). if t then Some run else None) c.if-is_port_name.false))
