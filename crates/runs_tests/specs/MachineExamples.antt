-- A run of a splitter.
use Rattle.std.specs.Prelude.{ℕ, zero, suc, List, [], ◌∷◌}
use Rattle.memory_machines.specs.Machines.{Raw, raw_at}
use Rattle.runs_tests.specs.MoreExamples.{byte_side}

-- behind the first piece there is the second
abbrev pub second_piece : ℕ → List Raw
second_piece zero = raw_at byte_side 1 ∷ []
second_piece (suc c) = []
