-- A number of 64 bits in each of eight lanes.
use Rattle.std.specs.Prelude.{◌≡◌, ℕ, ◌^◌, ◌<◌, List, length, slice_index_or}

-- the number in a lane
abbrev pub lane : List ℕ → ℕ → ℕ
lane numbers j = slice_index_or numbers j 0

-- eight numbers, each of so many bits
pub record AreLanes (bits : ℕ) (numbers : List ℕ) : Type 0 where
  pub count : length numbers ≡ 8
  pub fit : (j : ℕ) → j < 8 → lane numbers j < 2 ^ bits
