use Rattle.memory_awake.proofs.LinksPass.{going_alone}
use Rattle.memory_awake.proofs.links.links_keep_going.Goals as goal

pub returns-clause-select : goal.returns-clause-select
returns-clause-select c = λ target up down many room offsets end plan deep run fit legal owed alike.
    going_alone ((c.select_is_a_link.ensures target up down many room offsets end plan deep run fit).goes_on legal owed alike)

pub returns-clause-gather : goal.returns-clause-gather
returns-clause-gather c = λ target up down many room state end plan deep run lie legal owed alike.
    going_alone ((c.gather_is_a_link.ensures target up down many room state end plan deep run lie).goes_on legal owed alike)

pub returns-clause-cut : goal.returns-clause-cut
returns-clause-cut c = λ target reach longest up down state end plan run legal owed alike. going_alone ((c.cut_is_a_link.ensures target reach longest up down state end plan run).goes_on legal owed alike)

pub returns-clause-split : goal.returns-clause-split
returns-clause-split c = λ target room count up down state end may some run legal owed alike. going_alone ((c.split_is_a_link.ensures target room count up down state end may some run).goes_on legal owed alike)

pub returns-clause-drop : goal.returns-clause-drop
returns-clause-drop c = λ target room up down state end plan some run legal owed alike. going_alone ((c.drop_is_a_link.ensures target room up down state end plan some run alike).goes_on legal owed alike)
