use Rattle.memory_links.proofs.Handing.{drop_passes}
use Rattle.memory_links.proofs.passes.drop_passes_others.Goals as goal

pub returns : goal.returns
returns c = drop_passes
