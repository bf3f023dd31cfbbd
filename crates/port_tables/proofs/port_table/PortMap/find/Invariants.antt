use Rattle.std.proofs.Common.{ℕ, ◌<◌}
use Rattle.port_tables.specs.PortMaps.{IsEntryAt}
use Rattle.port_tables.proofs.port_table.PortMap.find.Given as goal

-- no port before this one is of the end and the role
abbrev pub invariant-loop-place : goal.invariant-loop-place
invariant-loop-place l = (k : ℕ) → k < l.place → ¬ IsEntryAt l.self.entries k l.end l.role
