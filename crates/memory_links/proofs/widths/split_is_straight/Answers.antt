use Rattle.std.proofs.Common.{refl}
use Rattle.memory_machines.specs.Machines.{parts_sent}
use Rattle.memory_links.specs.Splits.{split_rest}
use Rattle.memory_links.proofs.Splitting.{splits}
use Rattle.memory_links.proofs.SplitSame.{same_straight, same_in_step}
use Rattle.memory_links.proofs.widths.split_is_straight.Goals as goal

pub returns-clause-straight : goal.returns-clause-straight
returns-clause-straight c = λ target room up down state end may some run legal owed.
    same_straight c.beat_is_pieces.ensures
    (λ target up down room count state end may run legal. c.split_carries.ensures target up.shape down.shape count may (record { commands_above = up.commands; answers_above = up.answers; commands_below = down.commands; answers_below = down.answers })
    (parts_sent up down) (split_rest up down state) end (splits room up down state run end legal) legal)
    target 1 room up down state may some run end legal owed refl

pub returns-clause-step : goal.returns-clause-step
returns-clause-step c = λ target room up down state end may some run legal owed.
    same_in_step c.beat_is_pieces.ensures
    (λ target up down room count state end may run legal. c.split_carries.ensures target up.shape down.shape count may (record { commands_above = up.commands; answers_above = up.answers; commands_below = down.commands; answers_below = down.answers })
    (parts_sent up down) (split_rest up down state) end (splits room up down state run end legal) legal)
    target 1 room up down state may some run end legal owed refl
