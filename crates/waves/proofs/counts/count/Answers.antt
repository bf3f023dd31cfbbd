use Rattle.waves.proofs.CountLemmas.{too_large}
use Rattle.waves.proofs.counts.count.Goals as goal

pub returns-then-text-gt5 : goal.returns-then-text-gt5
returns-then-text-gt5 c = too_large c.args.text.now c.args.greatest c.if-text-gt5.true c.requires.spelled c.requires.small
