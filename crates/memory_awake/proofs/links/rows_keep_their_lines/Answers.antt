use Rattle.memory_awake.proofs.RowLine.{RowLaws, row_kept, row_brings_lanes}
use Rattle.memory_awake.proofs.links.rows_keep_their_lines.Goals.{After-drop_is_a_link}
use Rattle.memory_awake.proofs.links.rows_keep_their_lines.Goals as goal

laws : After-drop_is_a_link → RowLaws
laws c = record {
  links = record {
    wire = c.pass_is_a_link.ensures.link;
    cut = c.cut_is_a_link.ensures;
    select = c.select_is_a_link.ensures;
    gather = c.gather_is_a_link.ensures;
    lie = c.touches_lie_in_words.ensures.lie;
    split = c.split_is_a_link.ensures;
    drop = c.drop_is_a_link.ensures;
  };
  chain = c.chain_is_a_link.ensures;
  wider = c.rows_compose.ensures.wider;
}

pub returns-clause-row : goal.returns-clause-row
returns-clause-row c = row_kept (laws (goal.at.returns-clause-row c).After-drop_is_a_link)

pub returns-clause-lanes : goal.returns-clause-lanes
returns-clause-lanes c = row_brings_lanes (laws (goal.at.returns-clause-lanes c).After-drop_is_a_link)
