use Rattle.memory_machines.specs.Machines.{parts_sent}
use Rattle.memory_links.specs.Splits.{split_rest}
use Rattle.memory_links.proofs.Splitting.{splits}
use Rattle.memory_links.proofs.SplitTags.{holds_nothing_back, split_hands_on}
use Rattle.memory_links.proofs.widths.split_carries_commands.Goals as goal

pub returns-clause-pieces : goal.returns-clause-pieces
returns-clause-pieces c = λ room up down state end run legal. splits room up down state run end legal

pub returns-clause-commands : goal.returns-clause-commands
returns-clause-commands c = λ target room count up down state end may run legal.
    c.split_carries.ensures target up.shape down.shape count may (record { commands_above = up.commands; answers_above = up.answers; commands_below = down.commands; answers_below = down.answers })
    (parts_sent up down) (split_rest up down state) end (splits room up down state run end legal) legal

pub returns-clause-back : goal.returns-clause-back
returns-clause-back c = λ target room count up down state end may run legal.
    holds_nothing_back target up down end
    (c.split_carries.ensures target up.shape down.shape count may (record { commands_above = up.commands; answers_above = up.answers; commands_below = down.commands; answers_below = down.answers })
    (parts_sent up down) (split_rest up down state) end (splits room up down state run end legal) legal).held

pub returns-clause-tags : goal.returns-clause-tags
returns-clause-tags c = λ room up down state end run legal. split_hands_on room up down state run end legal
