use Rattle.runs_tests.proofs.memory.AheadKept.{leads_ahead}
use Rattle.runs_tests.proofs.memory.awake.waiting_host_leads_ahead.Goals as goal

pub returns : goal.returns
returns c = leads_ahead (record { back = c.host_and_route_keep_nothing_back.ensures.back; closed = c.host_and_route_keep_nothing_back.ensures.left_open })
