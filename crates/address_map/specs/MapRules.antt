-- The rules on footprints, each a test that is true where the rule fails.
use Rattle.std.specs.Prelude.{◌≡◌, ◌+◌, ◌%◌, ◌<◌, ℕ, zero, suc, Bool, false, ◌&&◌, ◌==◌, not, nat_lt, List, [], ◌∷◌, Option, Some, None, take, position, slice_index_or, IsTrue, if◌then◌else◌}
use Rattle.std.specs.List.{list_any}
use Rattle.address_map.specs.declared.faults.MapFault.{MapFault}
use Rattle.address_map.specs.declared.faults.MapFault.TheVariants.{Refused, NoMemory}
use Rattle.address_map.specs.Ends.{is_same_end}
use Rattle.address_map.specs.Footprints.{Footprint}

-- A1: a base that isn't a multiple of the footprint
abbrev pub is_misplaced : Footprint → Bool
is_misplaced f = not (f.base % f.bytes == 0)

-- the two stand in the map of one host and have a byte in common
abbrev pub overlaps : Footprint → Footprint → Bool
overlaps f g = is_same_end g.host f.host && nat_lt f.base (g.base + g.bytes) && nat_lt g.base (f.base + f.bytes)

abbrev pub overlaps_at : Footprint → Option Footprint → Bool
overlaps_at f None = false
overlaps_at f (Some g) = overlaps f g

-- A2: a footprint that overlaps that of an earlier connection of the same host
abbrev pub overlaps_earlier : List (Option Footprint) → Footprint → Bool
overlaps_earlier earlier f = list_any (overlaps_at f) earlier

-- A3: a footprint that ends past the host's range
abbrev pub ends_past_range : Footprint → Bool
ends_past_range f = nat_lt f.range (f.base + f.bytes)

-- the tests by their numbers, from A1, of a connection after these
abbrev pub tests : List (Option Footprint) → Option Footprint → List Bool
tests earlier None = []
tests earlier (Some f) = is_misplaced f ∷ overlaps_earlier earlier f ∷ ends_past_range f ∷ []

-- a connection after these breaks the rule of this number
abbrev pub breaks_after : List (Option Footprint) → Option Footprint → ℕ → Bool
breaks_after earlier f zero = false
breaks_after earlier f (suc k) = slice_index_or (tests earlier f) k false

-- the connection of this number breaks the rule of this number
abbrev pub breaks : List (Option Footprint) → ℕ → ℕ → Bool
breaks footprints connection = breaks_after (take connection footprints) (slice_index_or footprints connection None)

-- the connection breaks no rule
abbrev pub KeepsMapRules : List (Option Footprint) → ℕ → Type 0
KeepsMapRules footprints connection = (rule : ℕ) → breaks footprints connection rule ≡ false

-- the earlier connection that is named with a refusal by A2: the least that the footprint overlaps
abbrev pub first_overlapped : List (Option Footprint) → Option Footprint → Option ℕ
first_overlapped earlier None = None
first_overlapped earlier (Some f) = position (overlaps_at f) earlier

abbrev pub other_of : List (Option Footprint) → ℕ → ℕ → Option ℕ
other_of footprints connection rule =
    if rule == 2 then first_overlapped (take connection footprints) (slice_index_or footprints connection None) else None

-- this is the least rule that the connection breaks
pub record IsRefused (footprints : List (Option Footprint)) (connection rule : ℕ) (other : Option ℕ) : Type 0 where
  pub broken : IsTrue (breaks footprints connection rule)
  pub least : (k : ℕ) → k < rule → breaks footprints connection k ≡ false
  pub named : other ≡ other_of footprints connection rule

-- this is the least connection that breaks a rule, with the least rule that it breaks
pub record IsFirstRefused (footprints : List (Option Footprint)) (connection rule : ℕ) (other : Option ℕ) : Type 0 where
  pub refused : IsRefused footprints connection rule other
  pub first : (k : ℕ) → k < connection → KeepsMapRules footprints k

-- why the maps are refused; want of memory says nothing of them
abbrev pub IsCause : List (Option Footprint) → MapFault → Type 0
IsCause footprints (Refused connection rule other) = IsFirstRefused footprints connection rule other
IsCause footprints NoMemory = Unit {0}

-- the same, of one connection by itself
pub record IsRefusedAt (footprints : List (Option Footprint)) (number connection rule : ℕ) (other : Option ℕ) : Type 0 where
  pub same : connection ≡ number
  pub refused : IsRefused footprints number rule other

abbrev pub IsCauseAt : List (Option Footprint) → ℕ → MapFault → Type 0
IsCauseAt footprints number (Refused connection rule other) = IsRefusedAt footprints number connection rule other
IsCauseAt footprints number NoMemory = Unit {0}

-- the number of the first of the tests that is true
abbrev pub first_true : Bool → Bool → Bool → Option ℕ
first_true a b c = if a then Some 1 else (if b then Some 2 else (if c then Some 3 else None))
