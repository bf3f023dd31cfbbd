use Rattle.stream_runs.proofs.waiting_sinks_are_served.Goals as goal
use Rattle.stream_runs.proofs.WaitingSinks

pub returns : goal.returns
returns c = WaitingSinks.waiting_sink_served
