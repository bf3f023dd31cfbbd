use Rattle.memory_machines.proofs.Split.{split_carries}
use Rattle.memory_machines.proofs.machines.split_carries.Goals as goal

pub returns : goal.returns
returns c = λ target wide narrow count may sides.
    split_carries target wide narrow may.bytes may.some may.same count may.one may.whole may.one_beat
    sides.commands_above sides.commands_below sides.answers_above sides.answers_below
