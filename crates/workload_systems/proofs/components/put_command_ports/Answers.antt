use Rattle.std.proofs.Common.{◌++◌, ◌∙◌, ap, List, ℕ}
use Rattle.std.specs.Prelude.{codes}
use Rattle.workload_systems.specs.Texts.{line_text}
use Rattle.workload_systems.specs.Components.{port, command_ports}
use Rattle.workload_systems.proofs.Writing.{line_then}
use Rattle.workload_systems.proofs.components.put_command_ports.Goals as goal

pub returns : goal.returns
unfolding command_ports
returns c =
    let P : List ℕ → List ℕ = λ width. c.put_port-3.new.text ++ line_text (port c.args.interface.now (codes "writedata") c.args.direction.now width) in
    line_then _ _ _ _ _ c.in_ok-put_port.ensures
    (line_then _ _ _ _ _ c.in_ok-put_port-2.ensures (line_then _ _ _ _ _ c.in_ok-put_port-3.ensures (line_then _ _ _ _ _ (c.in_ok-put_port-4.ensures ∙ ap P c.bits.ensures) c.in_ok-put_enables.ensures)))
