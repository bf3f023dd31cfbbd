use Rattle.std.proofs.Common.{◌≡◌, drop}
use Rattle.stand_ins.specs.Answers.{latency_of}
use Rattle.stand_ins.proofs.script.latency.Given as goal

abbrev pub invariant-statements : goal.invariant-statements
invariant-statements l = latency_of (drop l.statement-index l.script) ≡ latency_of l.script
