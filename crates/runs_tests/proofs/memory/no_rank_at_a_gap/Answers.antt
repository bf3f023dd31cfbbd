use Rattle.runs_tests.proofs.memory.Ranks.{no_rank}
use Rattle.runs_tests.proofs.memory.no_rank_at_a_gap.Goals as goal

pub returns : goal.returns
returns c = no_rank
