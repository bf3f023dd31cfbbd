use Rattle.memory_awake.proofs.ModestRow.{row_is_modest}
use Rattle.memory_awake.proofs.links.rows_are_modest.Goals as goal

pub returns-clause-rows : goal.returns-clause-rows
returns-clause-rows c = row_is_modest (record {
  links = record {
    wire = c.pass_is_a_link.ensures.link;
    cut = c.cut_is_a_link.ensures;
    select = c.select_is_a_link.ensures;
    gather = c.gather_is_a_link.ensures;
    lie = c.touches_lie_in_words.ensures.lie;
    split = c.split_is_a_link.ensures;
    drop = c.drop_is_a_link.ensures;
  };
  wire_goes = c.wires_keep_going.ensures;
  cut_goes = c.links_keep_going.ensures.cut;
  cut_stirs = c.what_is_swallowed_stirs.ensures.cut;
  cut_passes = c.links_pass_while_still.ensures.cut;
  select_goes = c.links_keep_going.ensures.select;
  select_stirs = c.what_is_swallowed_stirs.ensures.select;
  select_passes = c.links_pass_while_still.ensures.select;
  gather_goes = c.links_keep_going.ensures.gather;
  gather_spent = c.what_is_swallowed_stirs.ensures.gather;
  gather_passes = c.links_pass_while_still.ensures.gather;
  split_goes = c.links_keep_going.ensures.split;
  split_spent = c.what_is_swallowed_stirs.ensures.split;
  split_passes = c.links_pass_while_still.ensures.split;
  drop_goes = c.links_keep_going.ensures.drop;
  drop_passes = c.links_pass_while_still.ensures.drop;
  above = c.what_is_swallowed_stirs.ensures.above;
  further = c.what_is_swallowed_stirs.ensures.further;
})

pub returns-clause-fit : goal.returns-clause-fit
returns-clause-fit c = λ system ways standings slacks target h end row. c.modest_links_fit.ensures system ways standings slacks h (record { few = row.few; first = row.first; second = row.second; third = row.third })
