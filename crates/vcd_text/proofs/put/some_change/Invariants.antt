use Rattle.std.proofs.Common.{◌≡◌, drop}
use Rattle.vcd_text.specs.Text.{some_change}
use Rattle.vcd_text.proofs.put.some_change.Given as goal

abbrev pub invariant-ports : goal.invariant-ports
invariant-ports l = some_change l.before l.now ≡ some_change (drop l.port l.before) (drop l.port l.now)
