use Rattle.stream_machines.proofs.machines.parts_of_words.Goals as goal
use Rattle.stream_machines.proofs.Pieces

pub returns : goal.returns
returns c = Pieces.symbol_of_part
