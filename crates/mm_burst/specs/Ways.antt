-- How a cutter cuts reads.
use Rattle.std.specs.Prelude.{◌≡◌, ℕ, ◌+◌, ◌^◌, ◌≤◌, nat_eq, if◌then◌else◌, IsFalse}
use Rattle.mm_burst.specs.Pieces.{Piece, reach_by}
use Rattle.mm_burst.specs.declared.pieces.Way.{Way}

-- an address of so many bits reaches all places, and a count of so many bits tells all words
pub record IsWay (way : Way) (address count : ℕ) : Type 0 where
  pub some : 1 ≤ way.below_bits
  pub fewer : way.below_bits ≤ count
  pub within : way.lanes + way.place_bits ≤ address
  pub places : IsFalse (nat_eq way.place_bits 0) → way.below_bits ≡ way.place_bits + 1

-- what stands in nets where reads are cut at the ends of wide words, and else doesn't
abbrev pub more_nets : ℕ → ℕ
more_nets places = if nat_eq places 0 then 0 else 1

-- a piece may have so many beats: one of a write, and those of a read that its address lets it
abbrev pub HasStep : Way → Piece → Type 0
HasStep way piece =
    piece.step ≡ (if piece.writes then 1 else reach_by way.place_bits (2 ^ way.lanes) way.below_bits piece.address)
