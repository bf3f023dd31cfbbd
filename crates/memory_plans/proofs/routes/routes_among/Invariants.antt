use Rattle.std.proofs.Common.{◌≡◌, take}
use Rattle.memory_plans.specs.Routes.{routes_among}
use Rattle.memory_plans.proofs.routes.routes_among.Given as goal

abbrev pub invariant-loop-link : goal.invariant-loop-link
invariant-loop-link l = l.routes ≡ routes_among l.host (take l.link-index l.links)
