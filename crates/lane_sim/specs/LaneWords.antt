-- A value in each of eight lanes, all of one width.
use Rattle.std.specs.Prelude.{◌≡◌, ℕ, ◌+◌, ◌*◌, ◌^◌, ◌<◌, ◌≤◌, List, slice_index_or}
use Rattle.av_base.specs.Word.{Word, word}
use Rattle.lane_sim.specs.Planes.{AreLanes, lane}

-- the width, and for each lane the low 64 bits and those above them
pub record LaneWord : Type 0 where
  pub width : ℕ
  pub low : List ℕ
  pub high : List ℕ

-- the value in a lane
abbrev pub value_at : LaneWord → ℕ → Word
value_at x j = word x.width (lane x.high j * 2 ^ 64 + lane x.low j)

pub record IsLaneWord (x : LaneWord) : Type 0 where
  pub some_bit : 1 ≤ x.width
  pub small : x.width ≤ 128
  pub low : AreLanes 64 x.low
  pub high : AreLanes 64 x.high
  pub fits : (j : ℕ) → j < 8 → (value_at x j).bits < 2 ^ x.width

-- each lane has what f gives for it
abbrev pub InEach : LaneWord → (ℕ → Word) → Type 0
InEach x f = (j : ℕ) → j < 8 → value_at x j ≡ f j

-- a value of a list of them, one for each lane
abbrev pub word_in : List Word → ℕ → Word
word_in values j = slice_index_or values j (word 0 0)
