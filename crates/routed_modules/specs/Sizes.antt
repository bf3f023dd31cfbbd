-- How wide the ports are that number things.
use Rattle.std.specs.Prelude.{ℕ, nat_le, nat_lt, if◌then◌else◌, Option, Some, None}

-- the least number of bits, one at least, that tell so many things apart, up to 16
abbrev pub bits_for : ℕ → ℕ
bits_for count = if nat_le count 2 then 1 else if nat_le count 4 then 2 else if nat_le count 8 then 3 else 4

-- the bits of `empty` beside a word of so many symbols; one of a single symbol has none
abbrev pub empty_bits : ℕ → Option ℕ
empty_bits symbols = if nat_lt 1 symbols then Some (bits_for symbols) else None
