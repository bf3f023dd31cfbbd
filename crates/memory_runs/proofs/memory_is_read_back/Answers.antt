use Rattle.memory_runs.proofs.ReadBack.{read_back}
use Rattle.memory_runs.proofs.memory_is_read_back.Goals as goal

pub returns : goal.returns
returns c = λ system run agent contents end host acts. read_back system run agent contents end acts host
