-- The numbers of a splitter.
use Rattle.std.specs.Prelude.{◌≡◌, ◌*◌, ◌^◌, ◌<◌, ◌≤◌}
use Rattle.iface_roles.specs.Proper.{IsWordSize}
use Rattle.mm_split.specs.declared.split.Split.{Split}
use Rattle.mm_split.specs.declared.sizes.Sizes.{Sizes}

-- both words have sizes of words, the one below is smaller, and some reads may be under way
pub record AreSplitSizes (split : Split) : Type 0 where
  pub wide : IsWordSize split.wide_bytes
  pub narrow : IsWordSize split.narrow_bytes
  pub smaller : split.narrow_bytes < split.wide_bytes
  pub some : 1 ≤ split.reads
  pub few : split.reads ≤ 16

-- so many narrow words make a wide one of 16 bytes at most
pub record AreSizes (sizes : Sizes) : Type 0 where
  pub pieces : sizes.pieces ≡ 2 ^ sizes.place_bits
  pub some_bits : 1 ≤ sizes.place_bits
  pub few_bits : sizes.place_bits ≤ 4
  pub some_bytes : 1 ≤ sizes.narrow_bytes
  pub whole : sizes.pieces * sizes.narrow_bytes ≡ 2 ^ sizes.wide_bits
  pub few_bytes : 2 ^ sizes.wide_bits ≤ 16
  pub wide_some : 1 ≤ sizes.wide_bits
  pub wide_few : sizes.wide_bits ≤ 4
  pub many : 2 ≤ sizes.pieces
  pub few : sizes.pieces ≤ 16
  pub some : 1 ≤ sizes.room
  pub room : sizes.room ≤ 16
  pub some_room : 1 ≤ sizes.room_bits
  pub few_room : sizes.room_bits ≤ 5
  pub room_fits : sizes.room < 2 ^ sizes.room_bits
