use Rattle.std.proofs.Common.{take}
use Rattle.std.specs.List.{AllZip}
use Rattle.mm_fabric.specs.Tells.{IsBackFor}
use Rattle.mm_fabric.proofs.tells.backs_for.Given as goal

abbrev pub invariant-loop-route : goal.invariant-loop-route
invariant-loop-route l = AllZip (IsBackFor l.host l.parts) (take l.route-index l.routes) l.backs.items
