-- A row of places as nets: registers that hold items, each a group of nets, the oldest first.
use Rattle.std.specs.Prelude.{◌≡◌, ℕ, ◌+◌, ◌<◌, Bool, false, ◌&&◌, ◌||◌, ◌==◌, if◌then◌else◌, List, [], ◌∷◌, length, ◌⊎◌}
use Rattle.std.proofs.Common.{inl, inr}
use Rattle.netlist.specs.Nets.{NetValue}
use Rattle.netlist.specs.Longer.{Extends}
use Rattle.net_parts.specs.Laws.{net_lasts}
use Rattle.netlist.specs.Netlists.{Netlist, IsWaiting}
use Rattle.netlist.specs.Runs.{Cycle, Run, cycle_of, IsRun}
use Rattle.net_parts.specs.declared.places.PlaceNets.{PlaceNets}
use Rattle.net_parts.specs.Nets.{IsBit}
use Rattle.net_parts.specs.Groups.{AreNets, group_widths, values_of, AreNumberedFrom, InGroup, nets_last}
use Rattle.net_parts.specs.Places.{Place, fill_row, shift_row, no_place, loaded_place, AllEmpty, PlacesMove}

-- the nets of a place as a group
abbrev pub nets_of : {N : ℕ} → PlaceNets N → List NetValue
nets_of place = place.full ∷ place.item

-- they are nets of this netlist, and the first has one bit
pub record ArePlaceNets {N : ℕ} (netlist : Netlist) (place : PlaceNets N) : Type 0 where
  pub full : IsBit netlist place.full
  pub item : AreNets netlist place.item

-- the nets of two places have the same widths
abbrev pub HaveSameWidths : {N : ℕ} → PlaceNets N → PlaceNets N → Type 0
HaveSameWidths one other = group_widths (nets_of one) ≡ group_widths (nets_of other)

-- the place with these values of its nets
abbrev pub place_of : List ℕ → Place (List ℕ)
place_of [] = record { full = false; item = [] }
place_of (full ∷ item) = record { full = full == 1; item = item }

-- the place on these nets in a cycle
abbrev pub place_in : {N : ℕ} → Cycle → PlaceNets N → Place (List ℕ)
place_in cycle place = record { full = cycle.net place.full.number == 1; item = values_of cycle place.item }

abbrev pub row_in : {N : ℕ} → Cycle → List (PlaceNets N) → List (Place (List ℕ))
row_in cycle [] = []
row_in cycle (place ∷ row) = place_in cycle place ∷ row_in cycle row

-- each net of the place waits for its next net
abbrev pub WaitsForNext : {N : ℕ} → Netlist → PlaceNets N → Type 0
WaitsForNext netlist place = (n : ℕ) → InGroup (nets_of place) n → IsWaiting netlist n

-- the registers of a place have numbers in a row from this one on, wait, and are as wide as the place `like`
pub record IsPlace {N : ℕ} (netlist : Netlist) (like place : PlaceNets N) (from : ℕ) : Type 0 where
  pub nets_are : ArePlaceNets netlist place
  pub widths : HaveSameWidths place like
  pub numbers : AreNumberedFrom from (nets_of place)
  pub wait : WaitsForNext netlist place

-- those of a row go on from place to place
abbrev pub IsRow : {N : ℕ} → Netlist → PlaceNets N → ℕ → List (PlaceNets N) → Type 0
IsRow netlist like from [] = Unit {0}
IsRow netlist like from (place ∷ row) = IsPlace netlist like place from × IsRow netlist like (from + length (nets_of place)) row

-- the number behind those of the row
abbrev pub row_end : {N : ℕ} → ℕ → List (PlaceNets N) → ℕ
row_end from [] = from
row_end from (place ∷ row) = row_end (from + length (nets_of place)) row

-- the places are a row, from some number on
pub record AreInRow {N : ℕ} (netlist : Netlist) (like : PlaceNets N) (row : List (PlaceNets N)) : Type 0 where
  pub start : ℕ
  pub is_row : IsRow netlist like start row

-- the number is that of a register of the row
abbrev pub InRow : {N : ℕ} → List (PlaceNets N) → ℕ → Type 0
InRow [] n = ⊥
InRow (place ∷ row) n = InGroup (nets_of place) n ⊎ InRow row n

-- in each run each place begins empty
abbrev pub StartsAllEmpty : {N : ℕ} → Netlist → List (PlaceNets N) → Type 0
StartsAllEmpty netlist row =
    (run : Run) (cycles : ℕ) → IsRun netlist run cycles → 0 < cycles → AllEmpty (row_in (cycle_of run 0) row)

-- in each run a place loads as these bits say, or keeps its item
abbrev pub PlaceMoves : {N : ℕ} → Netlist → PlaceNets N → List (PlaceNets N) → NetValue → NetValue → NetValue → PlaceNets N
    → Type 0
PlaceMoves netlist place rest here behind shift from =
    (run : Run) (cycles : ℕ) → IsRun netlist run cycles → (c : ℕ) → c + 1 < cycles
    → place_in (cycle_of run (c + 1)) place
    ≡ loaded_place (run.net c shift.number == 1) (run.net c here.number == 1) (run.net c behind.number == 1)
    (values_of (cycle_of run c) from.item) (place_in (cycle_of run c) place) (row_in (cycle_of run c) rest)

-- in each run a row of places is filled and shifts as these bits say
abbrev pub RowMoves : {N : ℕ} → Netlist → List (PlaceNets N) → NetValue → NetValue → NetValue → PlaceNets N → Type 0
RowMoves netlist row here comes shift from =
    (run : Run) (cycles : ℕ) → IsRun netlist run cycles → (c : ℕ) → c + 1 < cycles
    → row_in (cycle_of run (c + 1)) row
    ≡ shift_row (run.net c shift.number == 1) (no_place (values_of (cycle_of run c) from.item))
    (fill_row (run.net c here.number == 1) (run.net c comes.number == 1) (values_of (cycle_of run c) from.item)
    (row_in (cycle_of run c) row))

-- the first place is full
abbrev pub is_first_full : {N : ℕ} → Cycle → List (PlaceNets N) → Bool
is_first_full cycle [] = false
is_first_full cycle (place ∷ row) = cycle.net place.full.number == 1

-- an item goes: one is held or shown, and ready is high
abbrev pub gives_item : {N : ℕ} → Cycle → List (PlaceNets N) → PlaceNets N → NetValue → Bool
gives_item cycle row from ready = (is_first_full cycle row || (cycle.net from.full.number == 1)) && (cycle.net ready.number == 1)

-- from a cycle to the next, the item that comes, if one does, takes the first empty place, and the row shifts where an item goes
abbrev pub RowSteps : {N : ℕ} → Cycle → Cycle → List (PlaceNets N) → PlaceNets N → Bool → NetValue → Type 0
RowSteps before after row from comes ready =
    PlacesMove (row_in before row) (row_in after row) (gives_item before row from ready) comes (values_of before from.item)

-- in each run the row steps from cycle to cycle
abbrev pub StepsRow : {N : ℕ} → Netlist → List (PlaceNets N) → PlaceNets N → NetValue → NetValue → Type 0
StepsRow netlist row from comes ready =
    (run : Run) (cycles : ℕ) → IsRun netlist run cycles → (c : ℕ) → c + 1 < cycles
    → RowSteps (cycle_of run c) (cycle_of run (c + 1)) row from (run.net c comes.number == 1) ready

-- the values of the first place where it is full, and else those of the place that comes
abbrev pub shown_first : {N : ℕ} → Cycle → List (PlaceNets N) → PlaceNets N → List ℕ
shown_first cycle [] coming = values_of cycle (nets_of coming)
shown_first cycle (place ∷ row) coming =
    if cycle.net place.full.number == 1 then values_of cycle (nets_of place) else values_of cycle (nets_of coming)

-- the bit that the last place is full
abbrev pub last_full : {N : ℕ} → PlaceNets N → List (PlaceNets N) → NetValue
last_full place [] = place.full
last_full place (next ∷ row) = last_full next row

-- a row lasts while its registers wait. No contract reads the proof; the laws of rows cite it
pub row_lasts : {N : ℕ} (old new : Netlist) (like : PlaceNets N) (from : ℕ) (row : List (PlaceNets N)) → Extends old new
    → ((n : ℕ) → InRow row n → IsWaiting old n → IsWaiting new n) → IsRow old like from row → IsRow new like from row
row_lasts old new like from [] e wait h = tt
row_lasts old new like from (place ∷ row) e wait h = (
  record {
    nets_are =
        record
        { full = net_lasts old new place.full 1 e h.0.nets_are.full; item = nets_last old new place.item e h.0.nets_are.item };
    widths =
        h.0.widths;
    numbers = h.0.numbers;
    wait = λ n o. wait n (inl o) (h.0.wait n o);
  },
  row_lasts old new like (from + length (nets_of place)) row e (λ n o. wait n (inr o)) h.1,
)
