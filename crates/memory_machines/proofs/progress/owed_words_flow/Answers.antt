use Rattle.memory_machines.proofs.Flow.{answers_flow}
use Rattle.memory_machines.proofs.progress.owed_words_flow.Goals as goal

pub returns : goal.returns
returns c = answers_flow
