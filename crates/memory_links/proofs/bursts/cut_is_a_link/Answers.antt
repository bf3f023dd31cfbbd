use Rattle.std.proofs.Common.{◌<◌, subst, sym}
use Rattle.memory_links.proofs.CutLink.{cut_is_link}
use Rattle.memory_links.proofs.CutParts.{cutting}
use Rattle.memory_links.proofs.bursts.cut_is_a_link.Goals as goal

pub returns : goal.returns
returns c = λ target reach longest up down state end plan run.
    cut_is_link c.wire_is_a_row.ensures.row target up down end (subst (λ n. 0 < n) (sym plan.same) plan.some) (λ k h legal. cutting target reach longest up down state plan run k legal)
