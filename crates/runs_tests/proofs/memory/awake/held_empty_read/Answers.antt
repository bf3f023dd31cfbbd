use Rattle.runs_tests.proofs.memory.EmptyRead.{not_prompt, given}
use Rattle.runs_tests.proofs.memory.awake.held_empty_read.Goals as goal

pub returns-clause-prompt : goal.returns-clause-prompt
returns-clause-prompt c = not_prompt

pub returns-clause-given : goal.returns-clause-given
returns-clause-given c = given
