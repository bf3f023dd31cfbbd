use Rattle.memory_machines.specs.Machines.{parts_sent}
use Rattle.memory_links.specs.Splits.{split_rest}
use Rattle.memory_links.proofs.Beginning.{pass_begins}
use Rattle.memory_links.proofs.DropPrompt.{drop_begins}
use Rattle.memory_links.proofs.Selecting.{select_begins}
use Rattle.memory_links.proofs.Splitting.{splits}
use Rattle.memory_links.proofs.SplitPrompt.{split_begins}
use Rattle.memory_links.proofs.begins.links_begin_below.Goals as goal

pub returns-clause-pass : goal.returns-clause-pass
returns-clause-pass c = pass_begins

pub returns-clause-select : goal.returns-clause-select
returns-clause-select c = λ target up down many room offsets end plan deep run fit.
    select_begins (λ narrow wide target span may beat lies. c.beat_is_selected.ensures narrow wide target span may beat lies) c.wire_is_a_link.ensures c.link_is_a_row.ensures target up down many room offsets end plan deep run fit

pub returns-clause-split : goal.returns-clause-split
returns-clause-split c = λ target room count up down state end may some run legal owed.
    split_begins c.beat_is_pieces.ensures
    (λ target up down room count state end may run legal. c.split_carries.ensures target up.shape down.shape count may (record { commands_above = up.commands; answers_above = up.answers; commands_below = down.commands; answers_below = down.answers })
    (parts_sent up down) (split_rest up down state) end (splits room up down state run end legal) legal)
    target count room up down state may some run end legal owed

pub returns-clause-drop : goal.returns-clause-drop
returns-clause-drop c = λ target room up down state end plan some run alike legal owed. drop_begins target room up down state end plan run legal alike owed some
