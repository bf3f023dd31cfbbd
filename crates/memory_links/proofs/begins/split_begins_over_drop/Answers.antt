use Rattle.memory_machines.specs.Machines.{parts_sent}
use Rattle.memory_links.specs.Splits.{split_rest}
use Rattle.memory_links.proofs.Splitting.{splits as splits_run}
use Rattle.memory_links.proofs.SplitDrop.{split_begins_over_drop}
use Rattle.memory_links.proofs.begins.split_begins_over_drop.Goals as goal

pub returns : goal.returns
returns c = λ target deep room count up middle down splits drops end may some_deep split plan some_room drop alike legal owed.
    split_begins_over_drop c.beat_is_pieces.ensures
    (λ target up down room count state end may run legal. c.split_carries.ensures target up.shape down.shape count may (record { commands_above = up.commands; answers_above = up.answers; commands_below = down.commands; answers_below = down.answers })
    (parts_sent up down) (split_rest up down state) end (splits_run room up down state run end legal) legal)
    target count deep room up middle down splits drops may some_deep split plan some_room drop end legal alike owed
