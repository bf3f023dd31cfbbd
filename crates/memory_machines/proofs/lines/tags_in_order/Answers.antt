use Rattle.memory_machines.proofs.TagOrder.{owed_by_tag}
use Rattle.memory_machines.proofs.lines.tags_in_order.Goals as goal

pub returns : goal.returns
returns c = owed_by_tag
