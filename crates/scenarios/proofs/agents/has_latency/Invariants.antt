use Rattle.std.proofs.Common.{◌≡◌, drop}
use Rattle.scenario_tables.specs.Statements.{latencies_of}
use Rattle.scenarios.proofs.agents.has_latency.Given as goal

abbrev pub invariant-statements : goal.invariant-statements
invariant-statements l = latencies_of l.script ≡ latencies_of (drop l.statement-index l.script)
