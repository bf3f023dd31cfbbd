use Rattle.memory_links.proofs.DropWhole.{drop_is_link}
use Rattle.memory_links.proofs.drops.drop_is_a_link.Goals as goal

pub returns : goal.returns
returns c = λ target room up down state end plan some run alike. drop_is_link c.wire_is_a_row.ensures.row target room up down state end plan some run alike
