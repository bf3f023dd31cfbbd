use Rattle.std.proofs.Common.{◌≡◌, ◌≤◌, length, take, None}
use Rattle.scenarios.specs.Streams.{opened_by}
use Rattle.scenarios.proofs.sources.opened.Given as goal

abbrev pub invariant-statements : goal.invariant-statements
invariant-statements l = (l.count ≤ length l.script) × (opened_by None l.script ≡ opened_by None (take l.count l.script))

abbrev pub decreases-statements : goal.decreases-statements
decreases-statements l = l.count
