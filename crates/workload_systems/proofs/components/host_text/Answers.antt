use Rattle.std.proofs.Common.{◌++◌, ◌∙◌, ap, List, ℕ}
use Rattle.workload_systems.specs.Texts.{line_text}
use Rattle.workload_systems.specs.Components.{type_name, host_lines}
use Rattle.workload_systems.proofs.Writing.{line_then, lines_then, from_empty}
use Rattle.workload_systems.proofs.components.host_text.Goals as goal

pub returns : goal.returns
unfolding host_lines
returns c =
    let P : List ℕ → List ℕ = λ name. c.new-text.result ++ line_text (type_name name) in
    from_empty _ _ _ c.new-text.ensures (line_then _ _ _ _ _ (c.in_ok-put_type.ensures ∙ ap P c.host_name.ensures) (line_then _ _ _ _ _ c.in_ok-put_interface.ensures (lines_then _ _ _ _ _ c.in_ok-put_command_ports.ensures c.in_ok-put_answer_ports.ensures)))
