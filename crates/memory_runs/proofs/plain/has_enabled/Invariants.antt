use Rattle.std.proofs.Common.{◌≡◌, ◌+◌, ◌-◌}
use Rattle.std.specs.List.{list_any}
use Rattle.histories.specs.History.{numbers}
use Rattle.memory_runs.specs.Operations.{is_enabled}
use Rattle.memory_runs.proofs.plain.has_enabled.Given as goal

-- what is left to be tried decides
abbrev pub invariant-loop-lane : goal.invariant-loop-lane
invariant-loop-lane l = list_any (is_enabled l.enables) (numbers l.lane ((l.first + l.count) - l.lane)) ≡ list_any (is_enabled l.enables) (numbers l.first l.count)
