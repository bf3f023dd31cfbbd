use Rattle.std.proofs.Common.{refl, true, false}
use Rattle.memory_runs.specs.Views.Responses.{AreCodes}
use Rattle.memory_parts.specs.HostRun.{host_registers, host_state}
use Rattle.memory_waits.specs.Examples.{agent_of, at_host, below_host, host_run, host_with, pair_of, write_ahead, write_behind}
use Rattle.memory_waits.proofs.straight.SmallRuns.{ahead_legal, ahead_owed, behind_legal, behind_owed, reads_words}
use Rattle.memory_waits.proofs.straight.examples.straight_hosts.Goals as goal

pub returns-clause-ahead : goal.returns-clause-ahead
returns-clause-ahead c =
    c.host_goes_straight.ensures AreCodes (pair_of (host_with true 4) (agent_of 4)) (host_run (at_host (host_with true 4) write_ahead)) 0 (below_host (host_with true 4) write_ahead) (host_state (host_registers AreCodes (host_with true 4) write_ahead)) 3
    (reads_words (host_with true 4) (at_host (host_with true 4) write_ahead) 3 (λ c. refl)) ahead_legal ahead_owed (c.host_machine_runs.ensures AreCodes (host_with true 4) write_ahead 3)

pub returns-clause-prompt : goal.returns-clause-prompt
returns-clause-prompt c =
    c.host_is_prompt.ensures AreCodes (pair_of (host_with true 4) (agent_of 4)) (host_run (at_host (host_with true 4) write_ahead)) 0 (below_host (host_with true 4) write_ahead) (host_state (host_registers AreCodes (host_with true 4) write_ahead)) 3
    (reads_words (host_with true 4) (at_host (host_with true 4) write_ahead) 3 (λ c. refl)) ahead_legal ahead_owed (c.host_machine_runs.ensures AreCodes (host_with true 4) write_ahead 3)

pub returns-clause-asked : goal.returns-clause-asked
returns-clause-asked c = refl

pub returns-clause-behind : goal.returns-clause-behind
returns-clause-behind c =
    c.host_goes_straight.ensures AreCodes (pair_of (host_with false 4) (agent_of 4)) (host_run (at_host (host_with false 4) write_behind)) 0 (below_host (host_with false 4) write_behind) (host_state (host_registers AreCodes (host_with false 4) write_behind)) 4
    (reads_words (host_with false 4) (at_host (host_with false 4) write_behind) 4 (λ c. refl)) behind_legal behind_owed (c.host_machine_runs.ensures AreCodes (host_with false 4) write_behind 4)

pub returns-clause-prompt_behind : goal.returns-clause-prompt_behind
returns-clause-prompt_behind c =
    c.host_is_prompt.ensures AreCodes (pair_of (host_with false 4) (agent_of 4)) (host_run (at_host (host_with false 4) write_behind)) 0 (below_host (host_with false 4) write_behind) (host_state (host_registers AreCodes (host_with false 4) write_behind)) 4
    (reads_words (host_with false 4) (at_host (host_with false 4) write_behind) 4 (λ c. refl)) behind_legal behind_owed (c.host_machine_runs.ensures AreCodes (host_with false 4) write_behind 4)

pub returns-clause-asked_behind : goal.returns-clause-asked_behind
returns-clause-asked_behind c = refl
