use Rattle.memory_parts.proofs.ArbiterRule.{takes_turns}
use Rattle.memory_parts.proofs.lines.arbiter_machine_takes_turns.Goals as goal

pub returns : goal.returns
returns c = takes_turns
