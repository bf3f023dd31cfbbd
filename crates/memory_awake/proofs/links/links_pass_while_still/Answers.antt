use Rattle.memory_awake.proofs.LinksPass.{at_once_passes, on_while_still, gather_while_still}
use Rattle.memory_awake.proofs.Swallowed.{split_while_still, drop_while_still}
use Rattle.memory_awake.proofs.links.links_pass_while_still.Goals as goal

pub returns-clause-any : goal.returns-clause-any
returns-clause-any c = λ slack top up down end passes. on_while_still top passes

pub returns-clause-select : goal.returns-clause-select
returns-clause-select c = λ target top up down many room offsets plan deep run end. on_while_still top (at_once_passes up down end (c.links_pass_at_once.ensures.select target up down many room offsets plan deep run end))

pub returns-clause-cut : goal.returns-clause-cut
returns-clause-cut c = λ reach longest top up down state run end. on_while_still top (at_once_passes up down end (c.links_pass_at_once.ensures.cut reach longest up down state run end))

pub returns-clause-gather : goal.returns-clause-gather
returns-clause-gather c = λ target top up down many room state plan run end above. gather_while_still top up down (c.gather_passes_at_once.ensures.takes target up down many room state plan run) end above

pub returns-clause-split : goal.returns-clause-split
returns-clause-split c = split_while_still

pub returns-clause-drop : goal.returns-clause-drop
returns-clause-drop c = λ room top up down state run end spent. drop_while_still room top up down state run end spent
