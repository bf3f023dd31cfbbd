-- A sink in memory.
use Rattle.std.specs.Prelude.{ℕ, List}

-- what was written to it, and how many writes found no memory
pub record GatheredValue : Type 0 where
  pub bytes : List ℕ
  pub faults : ℕ
