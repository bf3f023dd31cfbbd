use Rattle.std.proofs.Common.{◌≡◌, drop}
use Rattle.memory_runs.specs.Views.{AgentSide}
use Rattle.stand_ins.specs.Codes.{code_at}
use Rattle.stand_ins.proofs.codes.coded.Given as goal

abbrev pub invariant-statements : goal.invariant-statements
invariant-statements l = (side : AgentSide) → code_at side (drop l.k l.script) ≡ code_at side l.script
