-- Pieces of a word, and the pieces that a mask tells.
use Rattle.std.specs.Prelude.{◌≡◌, ℕ, zero, suc, ◌+◌, ◌*◌, ◌/◌, ◌%◌, ◌^◌, Bool, not, ◌&&◌, if◌then◌else◌, nat_eq, ◌==◌, List, [], ◌++◌}
use Rattle.histories.specs.History.{is_raised, one_if, only_if}

-- the piece of a word with this number, of so many bits
abbrev pub lane : ℕ → ℕ → ℕ → ℕ
lane bits word number = word / 2 ^ (number * bits) % 2 ^ bits

-- the piece with this number is in the mask
abbrev pub is_marked : ℕ → ℕ → Bool
is_marked mask number = is_raised (lane 1 mask number)

-- a lane of the piece with this number is enabled
abbrev pub has_lane : ℕ → ℕ → ℕ → Bool
has_lane bytes enables number = not (nat_eq (lane bytes enables number) 0)

-- the mask of these of the first pieces
abbrev pub mask_of : (ℕ → Bool) → ℕ → ℕ
mask_of test zero = 0
mask_of test (suc k) = one_if (test k) * 2 ^ k + mask_of test k

-- how many of the first pieces are meant
abbrev pub count_of : (ℕ → Bool) → ℕ → ℕ
count_of test zero = 0
count_of test (suc k) = count_of test k + one_if (test k)

-- the piece is meant, and so many of those below it are
abbrev pub stands_at : (ℕ → Bool) → ℕ → ℕ → Bool
stands_at test place number = test number && nat_eq (count_of test number) place

-- the last of the first pieces that is meant; the first one where none is
abbrev pub pick : (ℕ → Bool) → ℕ → ℕ
pick test zero = 0
pick test (suc k) = if test k then k else pick test k

-- a mask with the first piece where it has none
abbrev pub or_first_mask : ℕ → ℕ
or_first_mask mask = if mask == 0 then 1 else mask

-- the first pieces of a word, of which those that are meant are this one
abbrev pub fill : (ℕ → Bool) → ℕ → ℕ → ℕ → ℕ → ℕ
fill test bits word piece zero = 0
fill test bits word piece (suc k) =
    (if test k then piece else lane bits word k) * 2 ^ (k * bits) + fill test bits word piece k

-- what a search in a mask finds among the first pieces
pub record AreFound (mask place count here found : ℕ) : Type 0 where
  pub here_is : here ≡ mask_of (stands_at (is_marked mask) place) count
  pub count_is : found ≡ count_of (is_marked mask) count

-- ---- lists of pieces. No contract reads these; the law of the splitter speaks of them

-- those of the first pieces that are meant, in order
abbrev pub those : (ℕ → Bool) → ℕ → List ℕ
those test zero = []
those test (suc k) = those test k ++ only_if (test k) k
