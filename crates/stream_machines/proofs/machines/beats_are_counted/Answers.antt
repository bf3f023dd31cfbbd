use Rattle.stream_machines.proofs.machines.beats_are_counted.Goals as goal
use Rattle.stream_machines.proofs.BeatCounts

pub returns : goal.returns
returns c = BeatCounts.beats_begun-beat
