use Rattle.std.proofs.Common.{refl}
use Rattle.runs_tests.proofs.memory.HostRuns.{turns_move, one_is_too_few, turns_prompt, turns_accept, one_accepts_too_few}
use Rattle.runs_tests.proofs.memory.hosts.hosts_in_turn.Goals as goal

pub returns-clause-right : goal.returns-clause-right
returns-clause-right c = turns_move

pub returns-clause-few : goal.returns-clause-few
returns-clause-few c = one_is_too_few

pub returns-clause-prompt : goal.returns-clause-prompt
returns-clause-prompt c = (turns_prompt, refl)

pub returns-clause-accepted : goal.returns-clause-accepted
returns-clause-accepted c = turns_accept

pub returns-clause-unaccepted : goal.returns-clause-unaccepted
returns-clause-unaccepted c = one_accepts_too_few
