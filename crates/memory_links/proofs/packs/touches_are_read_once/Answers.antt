use Rattle.memory_links.proofs.TouchCounts.{touches_are_packed}
use Rattle.memory_links.proofs.packs.touches_are_read_once.Goals as goal

pub returns : goal.returns
returns c = λ system run host agent end takes_them. touches_are_packed system host agent run end takes_them
