use Rattle.std.proofs.Common.{take}
use Rattle.std.specs.List.{AllZip}
use Rattle.mm_fabric.specs.Asks.{AsksAs}
use Rattle.mm_fabric.proofs.asks.commands_for.Given as goal

abbrev pub invariant-loop-asker : goal.invariant-loop-asker
invariant-loop-asker l = AllZip (AsksAs l.agent l.begun) (take l.asker-index l.askers) l.asking.items
