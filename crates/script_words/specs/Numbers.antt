-- Numbers as scripts write them.
use Rattle.std.specs.Prelude.{ℕ, Bool, ◌&&◌, not, nat_eq, nat_lt, ◌^◌, List, drop, Option, Some, None, codes, if◌then◌else◌}
use Rattle.std.specs.List.{list_all, starts_with}
use Rattle.std.specs.Char.{is_digit}
use Rattle.std.specs.Str.Parse.{digits_value}
use Rattle.script_words.specs.Names.{is_empty}

-- one digit or more of the radix, and nothing else
abbrev pub is_numeral : ℕ → List ℕ → Bool
is_numeral radix text = not (is_empty text) && list_all (λ byte. is_digit byte radix) text

-- the number that the digits write, below 2^32
unfoldable pub number_in : ℕ → List ℕ → Option ℕ
number_in radix text =
    if is_numeral radix text && nat_lt (digits_value radix text) (2 ^ 32) then Some (digits_value radix text) else None

-- the number that a word writes: hexadecimal behind `0x`, else decimal
unfoldable pub number_of : List ℕ → Option ℕ
number_of text = if starts_with nat_eq text (codes "0x") then number_in 16 (drop 2 text) else number_in 10 text
