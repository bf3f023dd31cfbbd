-- A net and a memory as contracts see them.
use Rattle.std.specs.Prelude.{ℕ}

-- the net's place in the list of lines, and its width in bits
pub record NetValue : Type 0 where
  pub number : ℕ
  pub width : ℕ

abbrev pub net_of : ℕ → ℕ → NetValue
net_of n w = record { number = n; width = w }

-- the memory's place in the list of memories, the width of its words in bits, and the bits of an address
pub record MemValue : Type 0 where
  pub number : ℕ
  pub width : ℕ
  pub address_bits : ℕ

abbrev pub mem_of : ℕ → ℕ → ℕ → MemValue
mem_of m w bits = record { number = m; width = w; address_bits = bits }
