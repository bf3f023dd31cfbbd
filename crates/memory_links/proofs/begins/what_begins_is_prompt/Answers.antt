use Rattle.memory_links.proofs.Beginning.{begun_is_shown}
use Rattle.memory_links.proofs.begins.what_begins_is_prompt.Goals as goal

pub returns : goal.returns
returns c = begun_is_shown
