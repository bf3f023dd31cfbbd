use Rattle.std.proofs.Common.{false}
use Rattle.memory_awake.proofs.RowLeads.{LeadLaws, row_is_straight, row_is_in_step, row_is_prompt, single_is_prompt}
use Rattle.memory_awake.proofs.links.rows_are_straight.Goals.{After-cutters_begin_over_links}
use Rattle.memory_awake.proofs.links.rows_are_straight.Goals as goal

laws : After-cutters_begin_over_links → LeadLaws
laws c = record {
  rows = record {
    links = record {
      wire = c.pass_is_a_link.ensures.link;
      cut = c.cut_is_a_link.ensures;
      select = c.select_is_a_link.ensures;
      gather = c.gather_is_a_link.ensures;
      lie = c.touches_lie_in_words.ensures.lie;
      split = c.split_is_a_link.ensures;
      drop = c.drop_is_a_link.ensures;
    };
    chain = c.chain_is_a_link.ensures;
    wider = c.rows_compose.ensures.wider;
  };
  wire = c.pass_is_a_link.ensures.straight 0 false false;
  wire_steps = c.pass_goes_in_step.ensures;
  cut = c.cut_is_straight.ensures;
  cut_steps = c.cut_goes_in_step.ensures;
  drop = c.drop_is_straight.ensures.straight;
  drop_steps = c.drop_is_straight.ensures.step;
  split = c.split_is_straight.ensures.straight;
  split_steps = c.split_is_straight.ensures.step;
  acts = c.plain_commands_act.ensures;
  chain = c.chain_is_straight.ensures.straight;
  chain_steps = c.chain_is_straight.ensures.step;
  prompt = c.what_begins_is_prompt.ensures;
  singles = c.single_writes_begin.ensures.begins;
  pass_begins = c.links_begin_below.ensures.pass;
  select_begins = c.links_begin_below.ensures.select;
  gather_begins = c.packed_reads_begin.ensures.gather;
  split_begins = c.links_begin_below.ensures.split;
  drop_begins = c.links_begin_below.ensures.drop;
  split_over_drop = c.split_begins_over_drop.ensures;
  cut_over = c.cutters_begin_over_links.ensures;
}

pub returns-clause-straight : goal.returns-clause-straight
returns-clause-straight c = λ target top middle low down end cuts fits drops gathers enables legal owed alike.
    row_is_straight (laws (goal.at.returns-clause-straight c).After-cutters_begin_over_links) target end top middle low down cuts fits drops gathers enables legal owed alike

pub returns-clause-step : goal.returns-clause-step
returns-clause-step c = λ target top middle low down end cuts fits drops gathers enables legal owed alike same.
    row_is_in_step (laws (goal.at.returns-clause-step c).After-cutters_begin_over_links) target end top middle low down cuts fits drops gathers enables legal owed alike same

pub returns-clause-prompt : goal.returns-clause-prompt
returns-clause-prompt c = λ few may_burst target top middle low down end later cuts fits drops gathers enables single legal owed alike.
    row_is_prompt (laws (goal.at.returns-clause-prompt c).After-cutters_begin_over_links) target end top middle low down cuts fits drops gathers enables legal owed alike few may_burst later single

pub returns-clause-single : goal.returns-clause-single
returns-clause-single c = λ few may_burst target top middle low down end later cuts fits drops gathers enables single legal owed alike.
    single_is_prompt (laws (goal.at.returns-clause-single c).After-cutters_begin_over_links) target end top middle low down cuts fits drops gathers enables legal owed alike few may_burst later single
