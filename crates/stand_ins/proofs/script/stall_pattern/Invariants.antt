use Rattle.std.proofs.Common.{◌≡◌, drop}
use Rattle.stand_ins.specs.StandIns.{stall_pattern}
use Rattle.stand_ins.proofs.script.stall_pattern.Given as goal

abbrev pub invariant-statements : goal.invariant-statements
invariant-statements l = stall_pattern (drop l.statement-index l.script) ≡ stall_pattern l.script
