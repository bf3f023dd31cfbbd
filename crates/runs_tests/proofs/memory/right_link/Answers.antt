use Rattle.runs_tests.proofs.memory.LinkTrace.{pieces_carry}
use Rattle.runs_tests.proofs.memory.right_link.Goals as goal

pub returns : goal.returns
returns c = pieces_carry
