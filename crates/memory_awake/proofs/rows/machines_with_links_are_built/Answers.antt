use Rattle.memory_awake.proofs.RowBuilt.{Laws, rows_built, legal_top, owed_down, alike, enables_top}
use Rattle.memory_awake.proofs.rows.machines_with_links_are_built.Goals.{After-stage_keeps_its_line}
use Rattle.memory_awake.proofs.rows.machines_with_links_are_built.Goals as goal

laws : After-stage_keeps_its_line → Laws
laws c = record {
  settle = record {
    settle = c.lines_settle.ensures;
    route = c.route_machine_is_a_part.ensures;
    row = c.rows_keep_their_lines.ensures.row;
    lanes = c.rows_keep_their_lines.ensures.lanes;
    alike = c.joins_are_alike.ensures.single;
    pipes = record { one = c.stage_keeps_its_line.ensures; none = c.registers_are_a_pipe.ensures.none; two = c.registers_are_a_pipe.ensures.two };
  };
  lines = c.machines_keep_their_lines.ensures;
  tags = c.agent_machine_is_a_part.ensures.tags;
  stages = record { link = c.stage_is_a_link.ensures; later = c.stage_is_later.ensures };
  modest = c.rows_are_modest.ensures.rows;
  fit = c.rows_are_modest.ensures.fit;
  owed_tags = c.tags_in_order.ensures;
}

pub returns-clause-built : goal.returns-clause-built
returns-clause-built c = rows_built (laws (goal.at.returns-clause-built c).After-stage_keeps_its_line)

pub returns-clause-settled : goal.returns-clause-settled
returns-clause-settled c = λ responses system run ports states end plan machines rows legal h a low there.
    let row = laws (goal.at.returns-clause-settled c).After-stage_keeps_its_line in (
      legal_top row responses system run ports states end plan machines rows legal h a low there,
      owed_down row responses system run ports states end plan machines rows legal h a low there,
      alike row responses system run ports states end plan machines rows legal h a low there,
      enables_top row responses system run ports states end plan machines rows legal h a low there,
    )
