use Rattle.memory_awake.proofs.Fits.{fits}
use Rattle.memory_awake.proofs.modest_parts_fit.Goals as goal

pub returns : goal.returns
returns c = fits
