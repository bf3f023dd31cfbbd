use Rattle.std.proofs.Common.{◌+◌}
use Rattle.memory_parts.specs.SystemRun.{plain_system, registers_of, ports_run, before_arbiter}
use Rattle.memory_awake.specs.PlainSystem.{wire_ranks, wired_inside, wired_states}
use Rattle.memory_waits.proofs.Wire.{wire_self}
use Rattle.memory_waits.proofs.no_host_of_a_plain_system_hangs.Goals as goal

pub returns : goal.returns
returns c = λ responses plan outside end is shape views quiet legal.
    let registers = registers_of responses plan outside in
    let run = ports_run responses plan outside registers in
    let built = c.plain_systems_are_built.ensures responses plan outside (end + 2) is shape views quiet legal in
    record {
      moves = λ agent host there low joined.
          c.wired_hosts_move.ensures.wired responses (plain_system plan) run (wired_inside responses plan outside registers) (wired_states responses plan outside registers built.0) wire_ranks end agent host built.1 legal there
          (λ other joined. wire_self (before_arbiter responses plan outside registers other agent)) joined low;
    }
