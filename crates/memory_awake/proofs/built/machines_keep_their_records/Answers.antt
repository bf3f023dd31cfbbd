use Rattle.memory_awake.proofs.Building.{Laws, are_parts, is_awake, leads_ahead}
use Rattle.memory_awake.proofs.built.machines_keep_their_records.Goals.{After-host_and_route_serve_default}
use Rattle.memory_awake.proofs.built.machines_keep_their_records.Goals as goal

laws : After-host_and_route_serve_default → Laws
laws c = record {
  host = c.host_machine_is_a_part.ensures;
  route = c.route_machine_is_a_part.ensures;
  arbiter = c.arbiter_machine_is_a_part.ensures;
  agent = c.agent_machine_is_a_part.ensures.part;
  tags = c.agent_machine_is_a_part.ensures.tags;
  stages = record { link = c.stage_is_a_link.ensures; later = c.stage_is_later.ensures };
  going = c.stage_keeps_going.ensures;
  pass = c.stages_pass_on.ensures.stage;
  front = c.host_and_route_are_a_front.ensures;
  gives = c.words_reach_the_host.ensures;
  default = c.host_and_route_serve_default.ensures;
}

pub returns-clause-parts : goal.returns-clause-parts
returns-clause-parts c = λ responses system run inside states ranks end built legal.
    are_parts (laws (goal.at.returns-clause-parts c).After-host_and_route_serve_default) responses system run inside states ranks end built legal (c.machines_settle.ensures responses system run inside states end built.plan built.rows built.machines legal)

pub returns-clause-awake : goal.returns-clause-awake
returns-clause-awake c = λ responses system run inside states ranks end built legal.
    is_awake (laws (goal.at.returns-clause-awake c).After-host_and_route_serve_default) responses system run inside states ranks end built legal (c.machines_settle.ensures responses system run inside states end built.plan built.rows built.machines legal)

pub returns-clause-ahead : goal.returns-clause-ahead
returns-clause-ahead c = λ responses system run inside states ranks end built legal.
    leads_ahead (laws (goal.at.returns-clause-ahead c).After-host_and_route_serve_default) responses system run inside states ranks end built legal (c.machines_settle.ensures responses system run inside states end built.plan built.rows built.machines legal) (record {
      agent = c.agent_machine_accepts_ahead.ensures;
      stage = c.stage_shows_soon.ensures;
      back = c.host_and_route_keep_nothing_back.ensures.back;
      closed = c.host_and_route_keep_nothing_back.ensures.left_open;
      joined = c.host_and_route_keep_nothing_back.ensures.joined;
    })
