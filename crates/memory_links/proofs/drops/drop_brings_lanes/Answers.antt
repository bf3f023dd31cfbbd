use Rattle.memory_links.proofs.DropShown.{drop_legal, drop_lanes, drop_hands_on}
use Rattle.memory_links.proofs.drops.drop_brings_lanes.Goals as goal

pub returns-clause-legal : goal.returns-clause-legal
returns-clause-legal c = λ target room up down state end plan run legal. drop_legal target room up down state end plan run legal

pub returns-clause-lanes : goal.returns-clause-lanes
returns-clause-lanes c = λ target room up down state end plan run legal. drop_lanes target room up down state end plan run legal

pub returns-clause-tags : goal.returns-clause-tags
returns-clause-tags c = λ target room up down state end plan run legal. drop_hands_on target room up down state end plan run legal
