use Rattle.memory_links.proofs.CutRuns.{legal_fits}
use Rattle.memory_links.proofs.CutShown.{cut_legal, cut_hands_on}
use Rattle.memory_links.proofs.bursts.cut_brings_bursts.Goals as goal

pub returns-clause-legal : goal.returns-clause-legal
returns-clause-legal c = λ reach longest up down state end plan run legal. cut_legal reach longest up down state plan run end (legal_fits up end legal) legal

pub returns-clause-tags : goal.returns-clause-tags
returns-clause-tags c = λ reach longest up down state end plan run legal. cut_hands_on reach longest up down state plan run end (legal_fits up end legal)
