use Rattle.std.proofs.Common.{◌+◌}
use Rattle.memory_awake.specs.LinkSystem.{linked_registers, linked_run, linked_ports, linked_states}
use Rattle.memory_awake.proofs.rows.linked_systems_are_awake.Goals as goal

pub returns-clause-safe : goal.returns-clause-safe
returns-clause-safe c = λ responses plan outside end is_plan suits fit legal.
    let registers = linked_registers responses plan outside in
    let all = c.linked_systems_run.ensures responses plan outside end is_plan suits fit in
    c.machines_with_links_are_awake.ensures.safe responses plan.system (linked_run responses plan outside registers) (linked_ports responses plan outside registers) (linked_states responses plan outside registers) end all.0 all.1 all.2 legal

pub returns-clause-awake : goal.returns-clause-awake
returns-clause-awake c = λ responses plan outside end is_plan suits fit legal.
    let registers = linked_registers responses plan outside in
    let all = c.linked_systems_run.ensures responses plan outside (end + 2) is_plan suits fit in
    c.machines_with_links_are_awake.ensures.awake responses plan.system (linked_run responses plan outside registers) (linked_ports responses plan outside registers) (linked_states responses plan outside registers) end all.0 all.1 all.2 legal
