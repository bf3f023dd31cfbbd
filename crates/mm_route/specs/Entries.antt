-- The entries of the map of one host: which addresses each agent holds.
use Rattle.std.specs.Prelude.{◌≡◌, ℕ, ◌+◌, ◌*◌, ◌^◌, ◌<◌, Bool, true, false, ◌&&◌, if◌then◌else◌, nat_le, nat_lt, List, [], ◌∷◌, length, Option}
use Rattle.std.proofs.Common.{refl}
use Rattle.histories.specs.History.{is_raised, one_if}
use Rattle.memory_runs.specs.Views.{Kind}
use Rattle.memory_runs.specs.Views.Kind.{Reads, Writes}
use Rattle.memory_runs.specs.Order.{is_agent}
use Rattle.memory_runs.specs.declared.sides.route.Route.{Route}

-- the footprint begins at a multiple of its size, within the range of an address of so many bits
pub record IsEntry (width : ℕ) (entry : Route) : Type 0 where
  pub footprints : ℕ
  pub base : entry.base ≡ footprints * 2 ^ entry.bits
  pub within : entry.base < 2 ^ width

abbrev pub AreEntries : ℕ → List Route → Type 0
AreEntries width [] = Unit {0}
AreEntries width (entry ∷ later) = IsEntry width entry × AreEntries width later

abbrev pub kind_of : ℕ → Kind
kind_of write = if is_raised write then Writes else Reads

abbrev pub serves : Route → Kind → Bool
serves entry Reads = entry.reads
serves entry Writes = entry.writes

abbrev pub is_inside : Route → ℕ → Bool
is_inside entry address = nat_le entry.base address && nat_lt address (entry.base + 2 ^ entry.bits)

-- the agent has this kind of transfer, and its footprint holds the address
abbrev pub holds : Route → Kind → ℕ → Bool
holds entry kind address = serves entry kind && is_inside entry address

-- a bit for each entry, the first one lowest: whether it holds the address
abbrev pub hits : List Route → Kind → ℕ → ℕ
hits [] kind address = 0
hits (entry ∷ later) kind address = one_if (holds entry kind address) + 2 * hits later kind address

-- a place as a bit for each entry: none is high for the default agent
abbrev pub place_bits : List Route → Option ℕ → ℕ
place_bits [] place = 0
place_bits (entry ∷ later) place = one_if (is_agent entry.agent place) + 2 * place_bits later place

-- one agent alone, that reads and writes, holds each address of so many bits: its base is 0 then
abbrev pub is_lone : List Route → ℕ → Bool
is_lone [] width = false
is_lone (entry ∷ []) width = entry.reads && entry.writes && nat_le width entry.bits
is_lone (entry ∷ other ∷ later) width = false

-- ---- laws. No contract reads a proof of these

pub one_entry : (entries : List Route) (width : ℕ) → is_lone entries width ≡ true → length entries ≡ 1
one_entry [] width lone = cc
one_entry (entry ∷ []) width lone = refl
one_entry (entry ∷ other ∷ later) width lone = cc
