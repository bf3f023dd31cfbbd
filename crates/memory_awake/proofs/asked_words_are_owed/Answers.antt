use Rattle.memory_awake.proofs.AheadOwed.{owed_alone}
use Rattle.memory_awake.proofs.asked_words_are_owed.Goals as goal

pub returns : goal.returns
returns c = owed_alone
