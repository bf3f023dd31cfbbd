use Rattle.stream_machines.proofs.machines.window_is_a_stage.Goals as goal
use Rattle.stream_machines.proofs.WindowLaw

pub returns-clause-keeps : goal.returns-clause-keeps
returns-clause-keeps c = WindowLaw.window_keeps
