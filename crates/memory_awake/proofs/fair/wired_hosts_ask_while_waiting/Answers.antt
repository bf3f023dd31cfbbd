use Rattle.std.proofs.Common.{arith}
use Rattle.memory_machines.specs.Lines.{target_of}
use Rattle.memory_awake.proofs.FairWired.{asks_there, for_joined}
use Rattle.memory_awake.proofs.Widened.{shown_behind_wire, waits_above_wire}
use Rattle.memory_awake.proofs.fair.wired_hosts_ask_while_waiting.Goals as goal

pub returns-clause-wired : goal.returns-clause-wired
returns-clause-wired c = λ responses system run inside states ranks end agent built legal there wired host number from here fit waits.
    let parts = c.machines_keep_their_records.ensures.parts responses system run inside states ranks end built legal in
    let now = waits from (omega arith) (omega arith) in
    let its = wired host (for_joined system run host agent number from (λ kind address place. (built.plan.places host here).joined kind address agent place) now.presented) in (
      from,
      omega arith,
      omega arith,
      shown_behind_wire (inside.upper host agent (inside.links host agent)) (inside.upper host agent 0) its (target_of system agent) from
          (asks_there system run host agent (inside.after_host host) (λ a. inside.upper host a (inside.links host a)) end there (parts.host host here) (parts.route host here) from (omega (arith, fit))
          (λ alone quiet. c.waiting_hosts_ask.ensures.asks responses system run inside states ranks end agent host from built legal there here (omega (arith, fit)) alone quiet)
          number (waits_above_wire (inside.upper host agent (inside.links host agent)) (inside.upper host agent 0) its system run agent host number from now)),
    )

pub returns-clause-later : goal.returns-clause-later
returns-clause-later c = λ late more system run up agent end less asks host number from here fit waits.
    let found = asks host number from here (omega (arith, fit, less)) (λ k low high. waits k low (omega (arith, high, less))) in
    (found.0, found.1, (let high = found.2 in omega (arith, high, less)), found.3)
