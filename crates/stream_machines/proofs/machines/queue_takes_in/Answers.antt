use Rattle.stream_machines.proofs.machines.queue_takes_in.Goals as goal
use Rattle.stream_machines.proofs.QueueTakesIn

pub returns : goal.returns
returns c = QueueTakesIn.queue_takes_in
