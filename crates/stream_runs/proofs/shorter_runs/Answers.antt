use Rattle.stream_runs.proofs.shorter_runs.Goals as goal
use Rattle.stream_runs.specs.Laws
use Rattle.stream_runs.proofs.Beginnings

pub returns-clause-delivers : goal.returns-clause-delivers
returns-clause-delivers c = Laws.shorter_delivery

pub returns-clause-served : goal.returns-clause-served
returns-clause-served c = Beginnings.shorter_served

pub returns-clause-awake : goal.returns-clause-awake
returns-clause-awake c = Beginnings.shorter_awake

pub returns-clause-accepted : goal.returns-clause-accepted
returns-clause-accepted c = Laws.symbols_grow

pub returns-clause-kept : goal.returns-clause-kept
returns-clause-kept c = Laws.kept_grow
