use Rattle.std.proofs.Common.{◌≡◌, [], replicate}
use Rattle.scenario_tables.proofs.scripts.Scripts.blank.Given as goal

abbrev pub invariant-interfaces : goal.invariant-interfaces
invariant-interfaces g l = l.scripts.items ≡ replicate l.counter []
