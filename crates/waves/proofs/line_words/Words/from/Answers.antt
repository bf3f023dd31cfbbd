use Rattle.std.proofs.Common.{drop, ap, ◌∙◌}
use Rattle.std.proofs.lemmas.List.{drop-drop}
use Rattle.waves.proofs.line_words.Words.from.Goals as goal

pub skipped-preserved : goal.skipped-preserved
skipped-preserved c = c.rest-words.ensures ∙ ap (drop 1) c.skipped.invariant ∙ drop-drop 1 c.skipped.counter c.args.self.now
