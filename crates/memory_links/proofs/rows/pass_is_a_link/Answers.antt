use Rattle.memory_links.proofs.Pass.{pass_is_link, pass_is_straight}
use Rattle.memory_links.proofs.rows.pass_is_a_link.Goals as goal

pub returns-clause-link : goal.returns-clause-link
returns-clause-link c = pass_is_link c.wire_is_a_row.ensures.row c.wire_keeps_moving.ensures

pub returns-clause-straight : goal.returns-clause-straight
returns-clause-straight c = pass_is_straight c.wire_is_straight.ensures.straight c.wire_is_straight.ensures.prompt
