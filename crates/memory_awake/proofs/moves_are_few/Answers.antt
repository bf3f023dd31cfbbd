use Rattle.memory_awake.proofs.Few.{few_moves}
use Rattle.memory_awake.proofs.moves_are_few.Goals as goal

pub returns : goal.returns
returns c = λ system run agent ways standings slacks from size most end fits keeps pass cheap none. few_moves system run agent ways standings slacks from size end fits keeps pass none most cheap
