use Rattle.std.proofs.Common.{ℕ, ◌<◌}
use Rattle.memory_parts.specs.Host.{ReadsWords}
use Rattle.memory_awake.specs.RowFront.{with_agents}
use Rattle.memory_awake.specs.RowSystem.{boundaries_of}
use Rattle.memory_awake.proofs.RowFits.{Laws, agent_states, all_machines, front_rows}
use Rattle.memory_awake.proofs.rows.what_rows_carry_fits.Goals as goal

pub returns : goal.returns
returns c = λ responses system run ports states end plan views front serve legal.
    let planned = c.memory_plans_are_planned.ensures system (boundaries_of ports) states plan (λ h low. (front.host h low).words) front.room in
    let one_word : (h : ℕ) → h < system.hosts → ReadsWords (system.host h) (run.at_host h) end = λ h low. c.plans_suit_machines.ensures.hosts system run h end views low in
    let agent = agent_states laws responses system run ports states end planned one_word views front serve legal in (
      agent,
      c.memory_plans_are_planned.ensures system (boundaries_of ports) (with_agents states agent) plan (λ h low. (front.host h low).words) front.room,
      all_machines laws responses system run ports states end planned one_word views front serve legal,
      front_rows front views,
    )
  where
    laws : Laws
    laws = record {
      host = c.host_machine_keeps_its_line.ensures;
      route = c.route_machine_keeps_its_line.ensures;
      arbiter = c.arbiter_machine_keeps_its_line.ensures;
      agent = c.agent_machine_keeps_its_line.ensures;
      settle = record {
        settle = c.lines_settle.ensures;
        route = c.route_machine_is_a_part.ensures;
        row = c.rows_keep_their_lines.ensures.row;
        lanes = c.rows_keep_their_lines.ensures.lanes;
        alike = c.joins_are_alike.ensures.single;
        pipes = record { one = c.stage_keeps_its_line.ensures; none = c.registers_are_a_pipe.ensures.none; two = c.registers_are_a_pipe.ensures.two };
      };
    }
