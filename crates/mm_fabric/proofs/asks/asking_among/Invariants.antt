use Rattle.std.proofs.Common.{◌≡◌, take}
use Rattle.mm_fabric.specs.Asks.{asking_among}
use Rattle.mm_fabric.proofs.asks.asking_among.Given as goal

abbrev pub invariant-loop-link : goal.invariant-loop-link
invariant-loop-link l = l.askers.items ≡ asking_among l.agent (take l.link-index l.links)
