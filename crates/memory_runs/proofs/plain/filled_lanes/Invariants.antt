use Rattle.std.proofs.Common.{ℕ, ◌≡◌, ◌<◌, ◌-◌, ◌++◌, min, List, flat_map, All}
use Rattle.histories.specs.History.{numbers}
use Rattle.memory_runs.specs.Operations.{filled_of_piece, filled_lanes}
use Rattle.memory_runs.specs.Values.{shape_of_end}
use Rattle.memory_runs.proofs.plain.filled_lanes.Given as goal

-- what is added and what is still to be added
pub record Adds (size lower upper : ℕ) (items rest whole : List ℕ) : Type 0 where
  pub size_is : size ≡ min lower upper
  pub joins : items ++ rest ≡ whole
  pub small : All (λ lane. lane < 16) items

abbrev pub invariant-loop-piece : goal.invariant-loop-piece
invariant-loop-piece l =
    Adds l.size l.fn.from.word_bytes l.fn.to.word_bytes l.lanes.items
    (flat_map (filled_of_piece (shape_of_end l.fn.from) (shape_of_end l.fn.to) l.enables) (numbers l.piece (l.piece-end - l.piece)))
    (filled_lanes (shape_of_end l.fn.from) (shape_of_end l.fn.to) l.enables)
