-- What a splitter's nets tell of the beat above, and the beat that they show below.
use Rattle.std.specs.Prelude.{◌≡◌, ℕ, suc, ◌+◌, ◌-◌, ◌*◌, ◌/◌, ◌^◌, Bool, not, ◌&&◌, ◌||◌, if◌then◌else◌, nat_eq, nat_lt, ◌==◌}
use Rattle.histories.specs.History.{is_raised, one_if}
use Rattle.memory_machines.specs.Machines.{Raw}
use Rattle.command_nets.specs.Groups.{is_shown}
use Rattle.mm_split.specs.Pieces.{lane, is_marked, has_lane, mask_of, count_of, stands_at, pick, or_first_mask}
use Rattle.mm_split.specs.declared.sizes.Sizes.{Sizes}

-- a write goes on, and a read where there is room and it has begun or may begin
abbrev pub may_go : ℕ → ℕ → ℕ → ℕ → ℕ → ℕ → Bool
may_go room write place reads set asked =
    is_raised write || (nat_lt reads room && (nat_lt 0 place || (nat_eq reads 0 || nat_eq set asked)))

-- how many parts a beat has with so many touched pieces
abbrev pub part_count : Raw → ℕ → ℕ
part_count raw touched = if touched == 0 then one_if (not (is_raised raw.more && is_raised raw.levels.write)) else touched

-- a part is shown
abbrev pub shows_part : Raw → Bool → ℕ → ℕ → Bool
shows_part raw opens place parts = (is_shown raw && opens) && nat_lt place parts

-- the pieces that a beat touches, as a mask
abbrev pub touched_of : Sizes → Raw → ℕ
touched_of sizes raw = mask_of (has_lane sizes.narrow_bytes raw.levels.enables) sizes.pieces

-- the one at a place among those of a mask, as a mask
abbrev pub here_of : Sizes → ℕ → ℕ → ℕ
here_of sizes mask place = mask_of (stands_at (is_marked mask) place) sizes.pieces

-- its number
abbrev pub number_of : Sizes → ℕ → ℕ
number_of sizes here = pick (is_marked here) sizes.pieces

-- the last piece of a word that all pieces make comes last
abbrev pub stands_whole : Sizes → ℕ → Bool
stands_whole sizes set = sizes.all_lanes && is_marked set (sizes.pieces - 1)

abbrev pub count_in : Sizes → Raw → ℕ
count_in sizes raw = part_count raw (count_of (is_marked (touched_of sizes raw)) sizes.pieces)

-- what is told of the beat above, at a place among its parts
pub record IsAbove (sizes : Sizes) (raw : Raw) (place reads set : ℕ) (asked opens shows last none : ℕ) : Type 0 where
  pub asked_is : asked ≡ or_first_mask (touched_of sizes raw)
  pub opens_is : is_raised opens ≡ may_go sizes.room raw.levels.write place reads set asked
  pub shows_is : is_raised shows ≡ shows_part raw (is_raised opens) place (count_in sizes raw)
  pub last_is : is_raised last ≡ nat_eq (suc place) (count_in sizes raw)
  pub none_is : is_raised none ≡ nat_eq (count_in sizes raw) 0

-- the beat of the piece with this number: a command of one beat, joined to the next part where one follows
pub record IsBeatBelow (sizes : Sizes) (raw : Raw) (number shows last : ℕ) (below : Raw) : Type 0 where
  pub read : below.levels.read ≡ one_if (is_raised shows && not (is_raised raw.levels.write))
  pub write : below.levels.write ≡ one_if (is_raised shows && is_raised raw.levels.write)
  pub address : below.levels.address
      ≡ raw.levels.address / 2 ^ sizes.wide_bits * 2 ^ sizes.wide_bits + number * sizes.narrow_bytes
  pub word : below.levels.word ≡ (if is_raised raw.levels.write then lane (sizes.narrow_bytes * 8) raw.levels.word number else 0)
  pub enables : below.levels.enables ≡ lane sizes.narrow_bytes raw.levels.enables number
  pub count : below.levels.count ≡ 1
  pub more : below.more ≡ (if is_raised last then raw.more else 1)
  pub tag : below.tag ≡ raw.tag
