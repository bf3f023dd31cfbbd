use Rattle.net_parts.specs.Laws.{bit_fits}
use Rattle.net_parts.specs.Levels.{level_is}
use Rattle.net_terms.proofs.makers.flag_of.Goals as goal

pub returns-clause-value : goal.returns-clause-value
returns-clause-value c cycle v = level_is _ (bit_fits _ _ c.requires.bit cycle v)
