use Rattle.stream_machines.proofs.stages.rank_keeps_awake.Goals as goal
use Rattle.stream_machines.proofs.AwakeLaw

pub returns-clause-delivers : goal.returns-clause-delivers
returns-clause-delivers c = AwakeLaw.stage_delivers

pub returns-clause-accepts : goal.returns-clause-accepts
returns-clause-accepts c = AwakeLaw.stage_accepts

pub returns-clause-shows : goal.returns-clause-shows
returns-clause-shows c = AwakeLaw.stage_shows

pub returns-clause-frees : goal.returns-clause-frees
returns-clause-frees c = AwakeLaw.stage_frees
