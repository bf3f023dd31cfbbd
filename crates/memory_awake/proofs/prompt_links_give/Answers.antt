use Rattle.memory_awake.proofs.Prompt.{prompt_gives}
use Rattle.memory_awake.proofs.prompt_links_give.Goals as goal

pub returns : goal.returns
returns c = prompt_gives (record { flow = c.owed_words_flow.ensures })
