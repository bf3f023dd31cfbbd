use Rattle.stand_ins.proofs.streams.StepLemmas.{gaps_last}
use Rattle.stand_ins.proofs.streams.sources.SourceStandIn.new.Goals as goal

pub new-requires : goal.new-requires
new-requires c = gaps_last _ _ c.args.script.now c.requires.fits.follow
