use Rattle.runs_tests.proofs.memory.SmallKept.{keeps_whole, is_awake}
use Rattle.runs_tests.proofs.memory.awake.small_system_keeps_all.Goals as goal

pub returns-clause-agents : goal.returns-clause-agents
returns-clause-agents c = keeps_whole (record { front = c.host_and_route_are_a_front.ensures; wire = λ top port end. c.links_pass_while_still.ensures.any (record { hold = 0; kept = 0 }) top port port end (c.stages_pass_on.ensures.wire port end) })

pub returns-clause-awake : goal.returns-clause-awake
returns-clause-awake c = is_awake (record { front = c.host_and_route_are_a_front.ensures; wire = λ top port end. c.links_pass_while_still.ensures.any (record { hold = 0; kept = 0 }) top port port end (c.stages_pass_on.ensures.wire port end) })
