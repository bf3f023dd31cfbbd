use Rattle.memory_machines.proofs.OnePipe.{one_pipe}
use Rattle.memory_machines.proofs.PipeRow.{no_pipe, two_pipes}
use Rattle.memory_machines.proofs.lines.registers_are_a_pipe.Goals as goal

pub returns-clause-one : goal.returns-clause-one
returns-clause-one c = one_pipe

pub returns-clause-two : goal.returns-clause-two
returns-clause-two c = λ system agent first second. two_pipes system agent first.hold second.hold first.stages second.stages

pub returns-clause-none : goal.returns-clause-none
returns-clause-none c = no_pipe
