use Rattle.std.proofs.Common.{◌≡◌, drop}
use Rattle.mm_fabric.specs.Bounds.{first_link}
use Rattle.mm_fabric.proofs.bounds.first_link.Given as goal

abbrev pub invariant-loop-link : goal.invariant-loop-link
invariant-loop-link l = first_link l.host l.links ≡ first_link l.host (drop l.link-index l.links)
