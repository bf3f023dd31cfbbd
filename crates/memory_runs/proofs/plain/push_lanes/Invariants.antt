use Rattle.std.proofs.Common.{ℕ, ◌≡◌, ◌<◌, ◌+◌, ◌-◌, ◌++◌, List, All}
use Rattle.histories.specs.History.{numbers}
use Rattle.memory_runs.specs.Values.{lanes_of}
use Rattle.memory_runs.proofs.plain.push_lanes.Given as goal

-- what is added and what is still to be added
pub record Adds (items rest whole old : List ℕ) : Type 0 where
  pub joins : items ++ rest ≡ whole
  pub small : All (λ lane. lane < 16) old → All (λ lane. lane < 16) items

abbrev pub invariant-loop-lane : goal.invariant-loop-lane
invariant-loop-lane l =
    Adds l.lanes.items (lanes_of l.all l.enables (numbers l.lane ((l.first + l.count) - l.lane)))
    (l.fn.lanes.items ++ lanes_of l.all l.enables (numbers l.first l.count)) l.fn.lanes.items
