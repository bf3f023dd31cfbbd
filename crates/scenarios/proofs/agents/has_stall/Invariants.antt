use Rattle.std.proofs.Common.{◌≡◌, drop}
use Rattle.scenario_tables.specs.Statements.{stalls_of}
use Rattle.scenarios.proofs.agents.has_stall.Given as goal

abbrev pub invariant-statements : goal.invariant-statements
invariant-statements l = stalls_of l.script ≡ stalls_of (drop l.statement-index l.script)
