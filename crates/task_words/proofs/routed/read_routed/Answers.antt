use Rattle.task_words.proofs.routed.WordsLemmas.{none_asked}
use Rattle.task_words.proofs.routed.read_routed.Goals as goal

pub returns-in_default-read_gatherer : goal.returns-in_default-read_gatherer
returns-in_default-read_gatherer c = none_asked _ c.in_default.ensures c.in_default-read_gatherer.ensures
