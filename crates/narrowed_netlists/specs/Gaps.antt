-- Words with bits left out.
use Rattle.std.specs.Prelude.{◌≡◌, ℕ, ◌+◌, ◌*◌, ◌/◌, ◌%◌, ◌^◌, ◌<◌, ◌≤◌}
use Rattle.narrowed_netlists.specs.declared.gaps.Gap.{Gap}

-- the word without the bits in the gap
abbrev pub narrowed : Gap → ℕ → ℕ
narrowed gap n = n / 2 ^ (gap.low + gap.zeros) * 2 ^ gap.low + n % 2 ^ gap.low

-- the word with zeros in the gap
abbrev pub widened : Gap → ℕ → ℕ
widened gap n = n / 2 ^ gap.low * 2 ^ (gap.low + gap.zeros) + n % 2 ^ gap.low

-- the word has no bit in the gap
abbrev pub IsOpen : Gap → ℕ → Type 0
IsOpen gap n = n / 2 ^ gap.low % 2 ^ gap.zeros ≡ 0

-- the gap is inside a word of this width, and a bit is left beside it
pub record FitsIn (gap : Gap) (width : ℕ) : Type 0 where
  pub some_bit : gap.zeros < width
  pub inside : gap.low + gap.zeros ≤ width
