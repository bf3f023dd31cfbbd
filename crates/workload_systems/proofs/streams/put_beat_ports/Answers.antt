use Rattle.std.proofs.Common.{◌++◌, ◌∙◌, ap, List, ℕ}
use Rattle.std.specs.Prelude.{codes}
use Rattle.workload_systems.specs.Texts.{line_text}
use Rattle.workload_systems.specs.Components.{port, beat_ports}
use Rattle.workload_systems.proofs.Writing.{line_then}
use Rattle.workload_systems.proofs.streams.put_beat_ports.Goals as goal

pub returns : goal.returns
unfolding beat_ports
returns c =
    let P : List ℕ → List ℕ = λ width. c.put_port.new.text ++ line_text (port c.args.interface.now (codes "data") c.args.direction.now width) in
    line_then _ _ _ _ _ c.in_ok-put_port.ensures
    (line_then _ _ _ _ _ (c.in_ok-put_port-2.ensures ∙ ap P c.beat_bits.ensures) (line_then _ _ _ _ _ c.in_ok-put_port-3.ensures (line_then _ _ _ _ _ c.in_ok-put_port-4.ensures c.in_ok-put_empties.ensures)))
