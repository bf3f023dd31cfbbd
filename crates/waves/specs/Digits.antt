-- Values as waves files write them.
use Rattle.std.specs.Prelude.{ℕ, ◌+◌, ◌-◌, ◌*◌, ◌/◌, ◌^◌, Bool, ◌&&◌, ◌||◌, ◌==◌, nat_lt, List, [], ◌∷◌, length, Option, Some, None, if◌then◌else◌}
use Rattle.std.specs.List.{list_all}
use Rattle.av_base.specs.Word.{Word, word}

-- `0` to `9`
abbrev pub is_decimal : ℕ → Bool
is_decimal byte = nat_lt 47 byte && nat_lt byte 58

-- `0` to `9` and `a` to `f`
abbrev pub is_digit : ℕ → Bool
is_digit byte = is_decimal byte || (nat_lt 96 byte && nat_lt byte 103)

abbrev pub digit_value : ℕ → ℕ
digit_value byte = if nat_lt byte 58 then byte - 48 else byte - 87

-- the number that digits of a radix write, the highest first, behind a number that stands before them
abbrev pub number_behind : ℕ → ℕ → List ℕ → ℕ
number_behind radix before [] = before
number_behind radix before (digit ∷ rest) = number_behind radix (before * radix + digit_value digit) rest

-- a quarter of the width, rounded up
abbrev pub digits_for : ℕ → ℕ
digits_for width = (width + 3) / 4

-- as many digits as the width needs, of a number that fits it
abbrev pub is_spelled : ℕ → List ℕ → Bool
is_spelled width text =
    length text == digits_for width && (list_all is_digit text && nat_lt (number_behind 16 0 text) (2 ^ width))

-- the value of a width that a text writes
abbrev pub value_in : ℕ → List ℕ → Option Word
value_in width text = if is_spelled width text then Some (word width (number_behind 16 0 text)) else None
