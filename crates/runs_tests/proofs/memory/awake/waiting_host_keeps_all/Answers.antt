use Rattle.runs_tests.proofs.memory.WaitingKept.{keeps_whole, is_awake}
use Rattle.runs_tests.proofs.memory.awake.waiting_host_keeps_all.Goals as goal

pub returns-clause-agents : goal.returns-clause-agents
returns-clause-agents c = keeps_whole (record { front = c.host_and_route_are_a_front.ensures; gives = c.words_reach_the_host.ensures; default = c.host_and_route_serve_default.ensures; going = c.wires_keep_going.ensures; pass = λ top port end. c.links_pass_while_still.ensures.any (record { hold = 0; kept = 0 }) top port port end (c.stages_pass_on.ensures.wire port end) })

pub returns-clause-awake : goal.returns-clause-awake
returns-clause-awake c = is_awake (record { front = c.host_and_route_are_a_front.ensures; gives = c.words_reach_the_host.ensures; default = c.host_and_route_serve_default.ensures; going = c.wires_keep_going.ensures; pass = λ top port end. c.links_pass_while_still.ensures.any (record { hold = 0; kept = 0 }) top port port end (c.stages_pass_on.ensures.wire port end) })
