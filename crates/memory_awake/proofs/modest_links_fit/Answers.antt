use Rattle.memory_awake.proofs.Fits.{links_fit}
use Rattle.memory_awake.proofs.modest_links_fit.Goals as goal

pub returns : goal.returns
returns c = links_fit
