-- A row of places that hold items, the oldest first: a list in a row of registers.
use Rattle.std.specs.Prelude.{◌≡◌, Bool, false, not, ◌&&◌, ◌||◌, if◌then◌else◌, List, [], ◌∷◌, ◌++◌, drop}

-- a place: whether it holds an item, and the item
pub record Place (X : Type 0) : Type 0 where
  pub full : Bool
  pub item : X

-- the first of the row, or this place where there is none
abbrev pub first_or : {X : Type 0} → List (Place X) → Place X → Place X
first_or [] place = place
first_or (first ∷ row) place = first

-- the items up to the first empty place
abbrev pub held_of : {X : Type 0} → List (Place X) → List X
held_of [] = []
held_of (place ∷ row) = if place.full then place.item ∷ held_of row else []

-- an item comes into the first empty place: `here` says whether it comes into the first of these, if that is empty, and
-- `comes` whether it comes at all
abbrev pub filled : {X : Type 0} → Bool → X → Place X → Place X
filled here item place = if place.full then place else record { full = here; item = item }

abbrev pub fill_row : {X : Type 0} → Bool → Bool → X → List (Place X) → List (Place X)
fill_row here comes item [] = []
fill_row here comes item (place ∷ row) = filled here item place ∷ fill_row (comes && place.full) comes item row

-- an empty place, with this on its nets
abbrev pub no_place : {X : Type 0} → X → Place X
no_place item = record { full = false; item = item }

-- on a shift each place takes what stands behind it, and the last one what ends the row
abbrev pub shift_row : {X : Type 0} → Bool → Place X → List (Place X) → List (Place X)
shift_row shift end [] = []
shift_row shift end (place ∷ row) = (if shift then first_or row end else place) ∷ shift_row shift end row

-- an item comes into the first of these places, where this says so; without places into none
abbrev pub comes_into : {X : Type 0} → List (Place X) → Bool → Bool
comes_into [] here = false
comes_into (place ∷ row) here = here

-- what a place takes: on a shift the item behind it, where one is there, and else the one that comes, if it comes here
abbrev pub taken_place : {X : Type 0} → Bool → Bool → X → List (Place X) → Place X
taken_place shift here item [] = record { full = here; item = item }
taken_place shift here item (behind ∷ row) = if shift && behind.full then behind else record { full = here; item = item }

-- a place in the next cycle: it loads where it is empty or the row shifts. `here` says whether an item comes into it, and
-- `behind` whether one comes into the next place
abbrev pub loaded_place : {X : Type 0} → Bool → Bool → Bool → X → Place X → List (Place X) → Place X
loaded_place shift here behind item place row =
    if not place.full || shift then taken_place shift (if shift then behind else here) item row else place

-- each place is empty
abbrev pub AllEmpty : {X : Type 0} → List (Place X) → Type 0
AllEmpty [] = Unit {0}
AllEmpty (place ∷ row) = (place.full ≡ false) × AllEmpty row

-- behind an empty place each place is empty
abbrev pub IsPacked : {X : Type 0} → List (Place X) → Type 0
IsPacked [] = Unit {0}
IsPacked (place ∷ row) = (place.full ≡ false → AllEmpty row) × IsPacked row

-- some place is empty
abbrev pub has_room : {X : Type 0} → List (Place X) → Bool
has_room [] = false
has_room (place ∷ row) = not place.full || has_room row

-- the last place is full
abbrev pub last_full : {X : Type 0} → Place X → List (Place X) → Bool
last_full place [] = place.full
last_full place (next ∷ row) = last_full next row

-- the item that comes, if one does
abbrev pub coming : {X : Type 0} → Bool → X → List X
coming t item = if t then item ∷ [] else []

-- what is held, with the item that comes, but for the one that goes
abbrev pub held_then : {X : Type 0} → Bool → List X → List X → List X
held_then gives held more = if gives then drop 1 (held ++ more) else held ++ more

-- the place, and the row, with each item read as another
abbrev pub place_as : {X Y : Type 0} → (X → Y) → Place X → Place Y
place_as read place = record { full = place.full; item = read place.item }

abbrev pub row_as : {X Y : Type 0} → (X → Y) → List (Place X) → List (Place Y)
row_as read [] = []
row_as read (place ∷ row) = place_as read place ∷ row_as read row

-- from a cycle to the next, the item that comes, if one does, takes the first empty place, and the row shifts where an item goes
pub record PlacesMove {X : Type 0} (before after : List (Place X)) (gives comes : Bool) (item : X) : Type 0 where
  pub end : Place X
  pub empty : end.full ≡ false
  pub is : after ≡ shift_row gives end (fill_row comes comes item before)

-- the bits of a queue: there is room where the last place is empty, and an item comes where one is shown and there is room
pub record AreQueueBits (last shown room comes : Bool) : Type 0 where
  pub room_is : room ≡ not last
  pub comes_is : comes ≡ (shown && room)
