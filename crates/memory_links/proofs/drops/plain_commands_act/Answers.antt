use Rattle.memory_links.proofs.DropPrompt.{plain_acts}
use Rattle.memory_links.proofs.drops.plain_commands_act.Goals as goal

pub returns : goal.returns
returns c = plain_acts
