use Rattle.stream_runs.proofs.rows.beats_after_ready.Goals as goal
use Rattle.std.proofs.Common.{refl}
use Rattle.stream_runs.proofs.Computed.{is_served_true}

pub returns-clause-served : goal.returns-clause-served
returns-clause-served c = is_served_true _ _ 10 refl
