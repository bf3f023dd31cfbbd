use Rattle.memory_parts.specs.SystemRun.{plain_system, registers_of}
use Rattle.memory_awake.specs.PlainSystem.{wired_ports, wired_states}
use Rattle.memory_awake.specs.RowSystem.{boundaries_of}
use Rattle.memory_awake.proofs.PlainRows.{plain_machines, plain_rows}
use Rattle.memory_awake.proofs.rows.plain_systems_have_rows.Goals as goal

pub returns : goal.returns
returns c = λ responses plan outside end is_plan shape views quiet legal.
    let registers = registers_of responses plan outside in
    let found = c.plain_systems_are_built.ensures responses plan outside end is_plan shape views quiet legal in
    let built = found.1 in (
      found.0,
      c.memory_plans_are_planned.ensures (plain_system plan) (boundaries_of (wired_ports responses plan outside registers)) (wired_states responses plan outside registers found.0) is_plan (λ h low. (built.machines.host h low).words) built.plan.rooms,
      plain_machines responses plan outside end found.0 built.plan built.machines,
      plain_rows responses plan outside end found.0 built.plan built.machines views shape,
    )
