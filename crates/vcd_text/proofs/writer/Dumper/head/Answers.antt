use Rattle.std.proofs.Common.{◌≡◌, List, ℕ, ap, ◌∙◌}
use Rattle.vcd_text.specs.declared.port.DumpPort.{DumpPort}
use Rattle.vcd_text.specs.Sinks.{written_by}
use Rattle.vcd_text.specs.Text.{head_text}
use Rattle.vcd_text.proofs.Puts.{puts_as}
use Rattle.vcd_text.proofs.writer.Dumper.head.Goals as goal

pub returns-clause-puts : goal.returns-clause-puts
returns-clause-puts g c =
    let named : c.self.inside.name ≡ c.args.self.now.name = cc in
    let listed : c.as_slice.result.now ≡ c.args.self.now.ports = cc in
    puts_as (head_text c.self.inside.name c.as_slice.result.now) (head_text c.args.self.now.name c.args.self.now.ports)
    (written_by g.K.Sink.held g.K.Sink.faults c.args.sink.now c.put_head.new.sink) c.put_head.result
    (ap (λ (name : List ℕ). head_text name c.as_slice.result.now) named ∙ ap (λ (ports : List DumpPort). head_text c.args.self.now.name ports) listed) c.put_head.ensures.puts
