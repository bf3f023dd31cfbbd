use Rattle.memory_machines.specs.Lines.{target_of}
use Rattle.memory_awake.specs.LinkSystem.{row_of, to_row, linked_registers, linked_run, linked_ports, linked_states}
use Rattle.memory_awake.proofs.LinkRuns.{undropped, links_at_joined}
use Rattle.memory_awake.proofs.rows.linked_systems_are_fair.Goals as goal

pub returns : goal.returns
returns c = λ responses plan outside end is_plan suits fit legal apart stay.
    let registers = linked_registers responses plan outside in
    let all = c.linked_systems_run.ensures responses plan outside end is_plan suits fit in
    c.machines_with_links_are_fair.ensures responses plan.system (linked_run responses plan outside registers) (linked_ports responses plan outside registers) (linked_states responses plan outside registers) end all.0 all.1 all.2 legal apart
    (λ a h there joined none bursts.
    undropped (plan.drops h a) (row_of plan h a) (to_row responses plan outside registers h a) (λ c. (registers c).row h a) (target_of plan.system a) (stay h a there joined none bursts)
    (suits.rows h a (is_plan.joined a h joined) there (links_at_joined suits h a (is_plan.joined a h joined) there joined)).dropper)
