-- Items in places that shift: a group of registers for each place, the newest item first.
use Rattle.std.specs.Prelude.{◌≡◌, ℕ, zero, suc, ◌+◌, ◌==◌, ◌⊎◌, if◌then◌else◌, List, [], ◌∷◌, length, map, get_or}
use Rattle.netlist.specs.Nets.{NetValue}
use Rattle.netlist.specs.Netlists.{Netlist}
use Rattle.netlist.specs.Runs.{Cycle, cycle_of}
use Rattle.netlist.specs.Longer.{Extends}
use Rattle.net_parts.specs.Groups.{AreNets, group_widths, values_of, AreNumberedFrom, InGroup, nets_last}
use Rattle.item_queues.specs.Steps.{EachStep}

-- the nets of a place: as wide as those of an item like this one, and with numbers in a row from this one on
pub record IsPlaceFrom (netlist : Netlist) (like : List NetValue) (from : ℕ) (place : List NetValue) : Type 0 where
  pub nets : AreNets netlist place
  pub widths : group_widths place ≡ group_widths like
  pub numbers : AreNumberedFrom from place

-- those of a row of places, whose numbers go on from place to place
abbrev pub ArePlacesFrom : Netlist → List NetValue → ℕ → List (List NetValue) → Type 0
ArePlacesFrom netlist like from [] = Unit {0}
ArePlacesFrom netlist like from (place ∷ row) =
    IsPlaceFrom netlist like from place × ArePlacesFrom netlist like (from + length place) row

-- from some number on
pub record ArePlaces (netlist : Netlist) (like : List NetValue) (row : List (List NetValue)) : Type 0 where
  pub start : ℕ
  pub from_start : ArePlacesFrom netlist like start row

-- the number is that of a net of one of the places
abbrev pub InPlaces : List (List NetValue) → ℕ → Type 0
InPlaces [] n = ⊥
InPlaces (place ∷ row) n = InGroup place n ⊎ InPlaces row n

-- the items in the places
abbrev pub values_in : Cycle → List (List NetValue) → List (List ℕ)
values_in cycle row = map (values_of cycle) row

-- a new item comes into the first place, and each place takes the item before it
abbrev pub shifted : List ℕ → List (List ℕ) → List (List ℕ)
shifted coming [] = []
shifted coming (item ∷ items) = coming ∷ shifted item items

-- in each run the places shift where the bit is high, and else keep their items
abbrev pub ShiftsOn : Netlist → NetValue → List NetValue → List (List NetValue) → Type 0
ShiftsOn netlist comes below row =
    EachStep netlist (λ run c. values_in (cycle_of run (c + 1)) row
    ≡ (if run.net c comes.number == 1 then shifted (values_of (cycle_of run c) below) (values_in (cycle_of run c) row)
    else values_in (cycle_of run c) row))

-- the item in a place, counted from the first one on; behind the last place it is the first one's
abbrev pub item_in : List (List ℕ) → ℕ → List ℕ
item_in [] k = []
item_in (item ∷ items) k = get_or (item ∷ items) k item

-- the items in so many of the first places, the oldest first
abbrev pub newest_last : (ℕ → List ℕ) → ℕ → List (List ℕ)
newest_last item zero = []
newest_last item (suc count) = item count ∷ newest_last item count

-- ---- what stands lasts. No contract reads a proof of these

pub places_last : (old new : Netlist) (like : List NetValue) (from : ℕ) (row : List (List NetValue))
    → ArePlacesFrom old like from row → Extends old new → ArePlacesFrom new like from row
places_last old new like from [] h e = tt
places_last old new like from (place ∷ row) h e = (
  record { nets = nets_last old new place e h.0.nets; widths = h.0.widths; numbers = h.0.numbers },
  places_last old new like
      (from + length place) row h.1 e,
)

pub row_lasts : (old new : Netlist) (like : List NetValue) (row : List (List NetValue)) → ArePlaces old like row → Extends old new
    → ArePlaces new like row
row_lasts old new like row h e = record { start = h.start; from_start = places_last old new like h.start row h.from_start e }
