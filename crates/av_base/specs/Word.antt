-- A value of some bits, and the operators on such values in plain arithmetic.
use Rattle.std.specs.Prelude.{ℕ, ◌+◌, ◌-◌, ◌*◌, ◌/◌, ◌%◌, ◌^◌, ◌<◌, ◌≤◌, ◌==◌, nat_lt, bit_and, bit_or, bit_xor, if◌then◌else◌}

-- a value: how many bits it has, and the number that they spell
pub record Word : Type 0 where
  pub width : ℕ
  pub bits : ℕ

pub record IsWord (width bits : ℕ) : Type 0 where
  pub some_bit : 1 ≤ width
  pub small : width ≤ 128
  pub fits : bits < 2 ^ width

abbrev pub word : ℕ → ℕ → Word
word w n = record { width = w; bits = n }

abbrev pub and_of : Word → Word → Word
and_of a b = word a.width (bit_and a.bits b.bits)

abbrev pub or_of : Word → Word → Word
or_of a b = word a.width (bit_or a.bits b.bits)

abbrev pub xor_of : Word → Word → Word
xor_of a b = word a.width (bit_xor a.bits b.bits)

abbrev pub add_of : Word → Word → Word
add_of a b = word a.width ((a.bits + b.bits) % 2 ^ a.width)

abbrev pub sub_of : Word → Word → Word
sub_of a b = word a.width ((a.bits + (2 ^ a.width - b.bits)) % 2 ^ a.width)

abbrev pub eq_of : Word → Word → Word
eq_of a b = word 1 (if a.bits == b.bits then 1 else 0)

abbrev pub less_of : Word → Word → Word
less_of a b = word 1 (if nat_lt a.bits b.bits then 1 else 0)

abbrev pub not_of : Word → Word
not_of a = word a.width (2 ^ a.width - 1 - a.bits)

abbrev pub any_of : Word → Word
any_of a = word 1 (if a.bits == 0 then 0 else 1)

abbrev pub slice_of : Word → ℕ → ℕ → Word
slice_of a high low = word (high - low + 1) (a.bits / 2 ^ low % 2 ^ (high - low + 1))

abbrev pub concat_of : Word → Word → Word
concat_of a low = word (a.width + low.width) (a.bits * 2 ^ low.width + low.bits)

abbrev pub mux_of : Word → Word → Word → Word
mux_of s a b = if s.bits == 0 then b else a
