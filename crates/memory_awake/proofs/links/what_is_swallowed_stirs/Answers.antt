use Rattle.memory_awake.proofs.Pieces.{split_spent}
use Rattle.std.proofs.Common.{ap}
use Rattle.histories.specs.History.{is_raised}
use Rattle.memory_runs.specs.Views.{Levels}
use Rattle.memory_awake.proofs.Stirred.{select_stirs, cut_stirs, gather_spent, spent_above, spent_further}
use Rattle.memory_awake.proofs.links.what_is_swallowed_stirs.Goals as goal

pub returns-clause-select : goal.returns-clause-select
returns-clause-select c = select_stirs

pub returns-clause-cut : goal.returns-clause-cut
returns-clause-cut c = cut_stirs

pub returns-clause-gather : goal.returns-clause-gather
returns-clause-gather c = λ target up down many room state plan run end.
    gather_spent up down (c.gather_passes_at_once.ensures.takes target up down many room state plan run) (c.gather_passes_at_once.ensures.gives room up down state run) (λ k. ap (λ (l : Levels). is_raised l.write) (run.levels k)) end

pub returns-clause-split : goal.returns-clause-split
returns-clause-split c = split_spent

pub returns-clause-above : goal.returns-clause-above
returns-clause-above c = spent_above

pub returns-clause-further : goal.returns-clause-further
returns-clause-further c = spent_further
