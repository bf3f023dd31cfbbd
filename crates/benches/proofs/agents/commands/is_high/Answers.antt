use Rattle.std.proofs.Common.{◌∙◌, lit<}
use Rattle.benches.proofs.agents.Reading.{one_bit}
use Rattle.benches.proofs.agents.commands.is_high.Goals as goal

pub returns : goal.returns
returns c = one_bit c.level_at.result (c.level_at.ensures.fits 1 c.requires.there (lit< tt)) ∙ c.level_at.ensures.value
