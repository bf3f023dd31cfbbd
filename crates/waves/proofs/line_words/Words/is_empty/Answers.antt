use Rattle.std.proofs.Common.{ap, ◌∙◌}
use Rattle.waves.specs.Words.{is_none_left}
use Rattle.waves.proofs.WordLemmas.{none_left}
use Rattle.waves.proofs.line_words.Words.is_empty.Goals as goal

pub returns : goal.returns
returns c = none_left c.self.inside.line.now c.self.inside.at ∙ ap is_none_left c.self.view_is
