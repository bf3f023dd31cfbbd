use Rattle.memory_parts.proofs.WholeSystem.{holds_of, wired_by_machines}
use Rattle.memory_parts.proofs.system.machines_are_safe.Goals as goal

pub returns : goal.returns
returns c = λ responses system run inside states held end machines legal. c.the_lines_give_the_headline.ensures responses system run inside (holds_of held) end
    (wired_by_machines c.tags_in_order.ensures c.base_is_free.ensures responses system run inside states held end machines) legal
