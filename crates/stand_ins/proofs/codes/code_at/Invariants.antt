use Rattle.std.proofs.Common.{◌≡◌, drop}
use Rattle.memory_runs.specs.Sides.{agent_side}
use Rattle.stand_ins.specs.Codes.{codes_stated, last_or, code_at}
use Rattle.stand_ins.proofs.codes.code_at.Given as goal

abbrev pub invariant-statements : goal.invariant-statements
invariant-statements l = last_or l.last (codes_stated (agent_side l.port) (drop l.statement-index l.script) l.address) ≡ code_at (agent_side l.port) l.script l.address
