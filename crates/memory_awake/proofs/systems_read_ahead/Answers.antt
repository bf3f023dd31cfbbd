use Rattle.memory_awake.proofs.AheadWhole.{reads_ahead}
use Rattle.memory_awake.proofs.systems_read_ahead.Goals as goal

pub returns : goal.returns
returns c = reads_ahead (record { owed = c.asked_words_are_owed.ensures; accepts = c.asked_agent_accepts.ensures })
