-- Few nets fit a net to another width.
use Rattle.std.proofs.Common.{ℕ, ◌≤◌, ◌==◌, Bool, true, false, if◌then◌else◌, arith}
use Rattle.net_parts.specs.Growth.{fit_nets}

by_same : (t : Bool) → (if t then 0 else 2) ≤ 2
by_same true = omega arith
by_same false = omega arith

pub few_fitted : (bits wanted : ℕ) → fit_nets bits wanted ≤ 2
few_fitted bits wanted = by_same (bits == wanted)
