use Rattle.memory_machines.proofs.Gathered.{matched}
use Rattle.memory_machines.proofs.settled.agents_take_by_turns.Goals as goal

pub returns : goal.returns
returns c = λ responses system run inside holds end agent wired legal there. matched responses system run inside holds end wired legal agent there
