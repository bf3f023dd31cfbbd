use Rattle.std.proofs.Common.{◌≡◌, ◌++◌, take}
use Rattle.std.specs.List.{flat_map}
use Rattle.port_tables.specs.PortMaps.{end_entries}
use Rattle.port_tables.proofs.header.push_ends.Given as goal

abbrev pub invariant-loop-end : goal.invariant-loop-end
invariant-loop-end l = l.entries ≡ l.fn.entries ++ flat_map (end_entries l.plan.system) (take l.end-index l.ends)
