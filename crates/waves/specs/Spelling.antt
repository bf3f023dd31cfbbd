-- How numbers, flags and patterns are spelled.
use Rattle.std.specs.Prelude.{ℕ, ◌+◌, ◌*◌, ◌%◌, Bool, true, false, ◌&&◌, ◌||◌, ◌==◌, not, nat_lt, nat_le, List, length, slice_index, [], ◌∷◌, map, Option, Some, None, codes, if◌then◌else◌}
use Rattle.std.specs.List.{list_all}
use Rattle.std.specs.Str.{bytes_eq}
use Rattle.waves.specs.Digits.{is_decimal, is_digit, digit_value, number_behind}
use Rattle.waves.specs.declared.marks.Flags.{Flags}

-- 1 to 32 digits, in lower case
unfoldable pub is_hexadecimal : List ℕ → Bool
is_hexadecimal text = nat_lt 0 (length text) && (nat_le (length text) 32 && list_all is_digit text)

-- the number that hexadecimal digits write
unfoldable pub hexadecimal_in : List ℕ → ℕ
hexadecimal_in text = number_behind 16 0 text

-- digits, the first of which is no zero where more follow
unfoldable pub is_count : List ℕ → Bool
is_count text = nat_lt 0 (length text) && (list_all is_decimal text && (length text == 1 || not (slice_index text 0 == 48)))

-- the number that decimal digits write
unfoldable pub count_in : List ℕ → ℕ
count_in text = number_behind 10 0 text

-- 1 to 64 characters `0` and `1`
abbrev pub is_bit : ℕ → Bool
is_bit byte = byte == 48 || byte == 49

unfoldable pub is_pattern : List ℕ → Bool
is_pattern text = nat_lt 0 (length text) && (nat_le (length text) 64 && list_all is_bit text)

-- where a pattern has `1`
unfoldable pub pattern_in : List ℕ → List Bool
pattern_in text = map (λ byte. byte == 49) text

-- an even number of digits, 2 to 64 of them
unfoldable pub are_bytes : List ℕ → Bool
are_bytes text = nat_lt 0 (length text) && (nat_le (length text) 64 && (length text % 2 == 0 && list_all is_digit text))

-- the marks of a beat: `s` that it begins a packet, `e` that it ends one
unfoldable pub flags_in : List ℕ → Option Flags
flags_in text =
    if bytes_eq text (codes "-") then Some (record { first = false; last = false })
    else (if bytes_eq text (codes "s") then Some (record { first = true; last = false })
    else (if bytes_eq text (codes "e") then Some (record { first = false; last = true })
    else (if bytes_eq text (codes "se") then Some (record { first = true; last = true }) else None)))

-- the bytes that pairs of digits write
abbrev pub bytes_in : List ℕ → List ℕ
bytes_in [] = []
bytes_in (high ∷ []) = []
bytes_in (high ∷ low ∷ rest) = (digit_value high * 16 + digit_value low) ∷ bytes_in rest
