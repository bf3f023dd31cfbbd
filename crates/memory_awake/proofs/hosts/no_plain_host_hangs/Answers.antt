use Rattle.std.proofs.Common.{refl, ◌+◌}
use Rattle.memory_parts.specs.SystemRun.{plain_system, registers_of, ports_run, before_arbiter}
use Rattle.memory_awake.specs.PlainSystem.{wire_ranks, wired_inside, wired_states}
use Rattle.memory_awake.proofs.Widened.{wire_self}
use Rattle.memory_awake.proofs.hosts.no_plain_host_hangs.Goals as goal

pub returns-clause-moves : goal.returns-clause-moves
returns-clause-moves c = λ responses plan outside end is shape views quiet legal has.
    let registers = registers_of responses plan outside in
    let run = ports_run responses plan outside registers in
    let built = c.plain_systems_are_built.ensures responses plan outside (end + 2) is shape views quiet legal in
    record {
      moves = λ agent host there low joined.
          let sends = c.words_go_up.ensures responses (plain_system plan) run (wired_inside responses plan outside registers) (wired_states responses plan outside registers built.0) wire_ranks (end + 2) agent built.1 legal there has in
          c.wired_hosts_move_on.ensures.moves responses (plain_system plan) run (wired_inside responses plan outside registers) (wired_states responses plan outside registers built.0) wire_ranks end agent host built.1 legal there refl
          (λ other joined. wire_self (before_arbiter responses plan outside registers other agent)) sends joined low;
    }

pub returns-clause-standing : goal.returns-clause-standing
returns-clause-standing c = λ responses plan outside end agent host is shape views quiet legal there low joined.
    let registers = registers_of responses plan outside in
    let run = ports_run responses plan outside registers in
    let built = c.plain_systems_are_built.ensures responses plan outside (end + 2) is shape views quiet legal in
    c.wired_hosts_move_on.ensures.standing responses (plain_system plan) run (wired_inside responses plan outside registers) (wired_states responses plan outside registers built.0) wire_ranks end agent host built.1 legal there
    (λ other joined. wire_self (before_arbiter responses plan outside registers other agent)) joined low

pub returns-clause-prompt : goal.returns-clause-prompt
returns-clause-prompt c = λ responses plan outside end agent host from size number late is shape views quiet legal there low joined some prompt fits standing.
    let registers = registers_of responses plan outside in
    let run = ports_run responses plan outside registers in
    let built = c.plain_systems_are_built.ensures responses plan outside (end + 2) is shape views quiet legal in
    c.wired_hosts_move_on.ensures.prompt responses (plain_system plan) run (wired_inside responses plan outside registers) (wired_states responses plan outside registers built.0) wire_ranks end agent host from size number late built.1 legal there
    (λ other joined. wire_self (before_arbiter responses plan outside registers other agent)) joined low some prompt fits standing

pub returns-clause-accepts : goal.returns-clause-accepts
returns-clause-accepts c = λ responses plan outside end agent host late is shape views quiet legal there low joined some prompt.
    let registers = registers_of responses plan outside in
    let run = ports_run responses plan outside registers in
    let built = c.plain_systems_are_built.ensures responses plan outside (end + 2) is shape views quiet legal in
    c.wired_hosts_move_on.ensures.accepts responses (plain_system plan) run (wired_inside responses plan outside registers) (wired_states responses plan outside registers built.0) wire_ranks end agent host late built.1 legal there
    (λ other joined. wire_self (before_arbiter responses plan outside registers other agent)) joined low some prompt
