use Rattle.memory_machines.specs.Machines.{parts_sent}
use Rattle.memory_links.specs.Splits.{split_rest}
use Rattle.memory_links.proofs.Splitting.{splits}
use Rattle.memory_links.proofs.SplitLink.{split_is_link}
use Rattle.memory_links.proofs.widths.split_is_a_link.Goals as goal

pub returns : goal.returns
returns c = λ target room count up down state end may some run.
    split_is_link c.beat_is_pieces.ensures
    (λ target up down room count state end may run legal. c.split_carries.ensures target up.shape down.shape count may (record { commands_above = up.commands; answers_above = up.answers; commands_below = down.commands; answers_below = down.answers })
    (parts_sent up down) (split_rest up down state) end (splits room up down state run end legal) legal)
    target count room up down state may some run end
