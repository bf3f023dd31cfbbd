-- What a row of places does in a cycle: it is a list, to whose end an item comes and whose oldest goes. No contract reads a proof
-- of these.
use Rattle.std.proofs.Common.{◌≡◌, ℕ, zero, suc, ◌+◌, ◌≤◌, Bool, true, false, not, ◌&&◌, ◌||◌, nat_lt, if◌then◌else◌, List, [], ◌∷◌, ◌++◌, length, drop, append-nil, length-append, length-drop, refl, sym, ap, ◌∙◌, subst, arith}
use Rattle.std.proofs.lemmas.Bool.{lt-ltb, le-ltb, ltb-true, ltb-false}
use Rattle.net_parts.specs.Places.{Place, first_or, held_of, filled, fill_row, no_place, shift_row, comes_into, loaded_place, place_as, row_as, AllEmpty, IsPacked, has_room, last_full, coming, held_then, PlacesMove}

pub held_empty : {X : Type 0} → (row : List (Place X)) → AllEmpty row → held_of row ≡ []
held_empty [] h = refl
held_empty (place ∷ row) h = rw h.0 refl

-- ---- an item comes

pub fill_none : {X : Type 0} → (item : X) (row : List (Place X)) → held_of (fill_row false false item row) ≡ held_of row
fill_none item [] = refl
fill_none item (place ∷ row) = by_full (fill_none item row) place.full refl
  where
    by_full : held_of (fill_row false false item row) ≡ held_of row → (t : Bool) → place.full ≡ t
        → held_of (filled false item place ∷ fill_row false false item row) ≡ held_of (place ∷ row)
    by_full rest true e = rw (e, rest) refl
    by_full rest false e = rw e refl

empty_filled : {X : Type 0} → (comes : Bool) (item : X) (row : List (Place X)) → AllEmpty row
    → AllEmpty (fill_row false comes item row)
empty_filled comes item [] h = tt
empty_filled true item (place ∷ row) h = (rw h.0 refl, rw h.0 (empty_filled true item row h.1))
empty_filled false item (place ∷ row) h = (rw h.0 refl, empty_filled false item row h.1)

pub fill_packed : {X : Type 0} → (here comes : Bool) (item : X) (row : List (Place X)) → IsPacked row
    → IsPacked (fill_row here comes item row)
fill_packed here comes item [] h = tt
fill_packed here comes item (place ∷ row) h = (by_full place.full refl, fill_packed (comes && place.full) comes item row h.1)
  where
    no_more : (c : Bool) → (c && false) ≡ false
    no_more true = refl
    no_more false = refl

    full_stays : {A : Type 0} (t : Bool) → t ≡ true → t ≡ false → A
    full_stays t e f = absurd (cc)

    by_full : (t : Bool) → place.full ≡ t → (filled here item place).full ≡ false
        → AllEmpty (fill_row (comes && place.full) comes item row)
    by_full true e f = full_stays (filled here item place).full (rw e refl) f
    by_full false e f =
        subst (λ k. AllEmpty (fill_row k comes item row)) (sym (ap (λ t. comes && t) e ∙ no_more comes))
        (empty_filled comes item row (h.0 e))

-- the item that comes stands behind those that are held
pub held_filled : {X : Type 0} → (item : X) (row : List (Place X)) → IsPacked row
    → held_of (fill_row true true item row) ≡ held_of row ++ (if has_room row then item ∷ [] else [])
held_filled item [] h = refl
held_filled item (place ∷ row) h = by_full (held_filled item row h.1) place.full refl
  where
    by_full : held_of (fill_row true true item row) ≡ held_of row ++ (if has_room row then item ∷ [] else []) → (t : Bool)
        → place.full ≡ t
        → held_of (filled true item place ∷ fill_row place.full true item row)
        ≡ held_of (place ∷ row) ++ (if has_room (place ∷ row) then item ∷ [] else [])
    by_full rest true e = rw (e, rest) refl
    by_full rest false e = rw e (ap (λ xs. item ∷ xs) (held_empty _ (empty_filled true item row (h.0 e))))

-- ---- an item goes

pub not_shifted : {X : Type 0} → (end : Place X) (row : List (Place X)) → shift_row false end row ≡ row
not_shifted end [] = refl
not_shifted end (place ∷ row) = ap (λ xs. place ∷ xs) (not_shifted end row)

shift_empty : {X : Type 0} → (end : Place X) (row : List (Place X)) → end.full ≡ false → AllEmpty row
    → AllEmpty (first_or row end ∷ shift_row true end row)
shift_empty end [] e h = (e, tt)
shift_empty end (place ∷ row) e h = (h.0, shift_empty end row e h.1)

-- the places behind the first, and the end
tail_held : {X : Type 0} → (end : Place X) (row : List (Place X)) → end.full ≡ false → IsPacked row
    → held_of (first_or row end ∷ shift_row true end row) ≡ held_of row
tail_held end [] e h = rw e refl
tail_held end (place ∷ row) e h = ap (λ (xs : List _). if place.full then place.item ∷ xs else []) (tail_held end row e h.1)

tail_packed : {X : Type 0} → (end : Place X) (row : List (Place X)) → end.full ≡ false → IsPacked row
    → IsPacked (first_or row end ∷ shift_row true end row)
tail_packed end [] e h = ((λ f. tt), tt)
tail_packed end (place ∷ row) e h = ((λ f. shift_empty end row e (h.0 f)), tail_packed end row e h.1)

pub held_shifted : {X : Type 0} → (end : Place X) (row : List (Place X)) → end.full ≡ false → IsPacked row
    → held_of (shift_row true end row) ≡ drop 1 (held_of row)
held_shifted end [] e h = refl
held_shifted end (place ∷ row) e h = tail_held end row e h.1 ∙ by_full place.full refl
  where
    by_full : (t : Bool) → place.full ≡ t → held_of row ≡ drop 1 (if place.full then place.item ∷ held_of row else [])
    by_full true f = rw f refl
    by_full false f = rw f (held_empty row (h.0 f))

pub shift_packed : {X : Type 0} → (shift : Bool) (end : Place X) (row : List (Place X)) → end.full ≡ false → IsPacked row
    → IsPacked (shift_row shift end row)
shift_packed true end [] e h = tt
shift_packed true end (place ∷ row) e h = tail_packed end row e h.1
shift_packed false end row e h = subst IsPacked (sym (not_shifted end row)) h

-- ---- a place that loads

-- what a place loads is what a row that is filled and shifts brings there
pub loads_place : {X : Type 0} (shift here comes : Bool) (item : X) (place : Place X) (row : List (Place X)) →
    loaded_place shift here (comes_into row (comes && place.full)) item place row
    ≡ (if shift then first_or (fill_row (comes && place.full) comes item row) (no_place item) else filled here item place)
loads_place shift here comes item place [] = by_bits shift place.full refl
  where
    by_bits : (s t : Bool) → place.full ≡ t
        → loaded_place s here false item place [] ≡ (if s then no_place item else filled here item place)
    by_bits true true e = rw e refl
    by_bits true false e = rw e refl
    by_bits false true e = rw e refl
    by_bits false false e = rw e refl
loads_place shift here comes item place (behind ∷ row) = by_bits shift place.full behind.full refl refl
  where
    by_bits : (s t b : Bool) → place.full ≡ t → behind.full ≡ b
        → loaded_place s here (comes && place.full) item place (behind ∷ row)
        ≡ (if s then filled (comes && place.full) item behind else filled here item place)
    by_bits true true true e f = rw (e, f) refl
    by_bits true true false e f = rw (e, f) refl
    by_bits true false true e f = rw (e, f) refl
    by_bits true false false e f = rw (e, f) refl
    by_bits false true b e f = rw e refl
    by_bits false false b e f = rw e refl

pub fills_into : {X : Type 0} (here comes : Bool) (item : X) (row : List (Place X))
    → fill_row (comes_into row here) comes item row ≡ fill_row here comes item row
fills_into here comes item [] = refl
fills_into here comes item (place ∷ row) = refl

-- ---- room

empty_room : {X : Type 0} → (place : Place X) (row : List (Place X)) → AllEmpty (place ∷ row) → last_full place row ≡ false
empty_room place [] h = h.0
empty_room place (next ∷ row) h = empty_room next row h.1

-- a packed row has room where its last place is empty
pub room_last : {X : Type 0} → (place : Place X) (row : List (Place X)) → IsPacked (place ∷ row)
    → has_room (place ∷ row) ≡ not (last_full place row)
room_last place [] h = or_none (not place.full)
  where
    or_none : (t : Bool) → (t || false) ≡ t
    or_none true = refl
    or_none false = refl
room_last place (next ∷ row) h = by_full (room_last next row h.1) place.full refl
  where
    by_full : has_room (next ∷ row) ≡ not (last_full next row) → (t : Bool) → place.full ≡ t
        → has_room (place ∷ next ∷ row) ≡ not (last_full next row)
    by_full rest true e = rw e rest
    by_full rest false e = rw e (sym (ap not (empty_room next row (h.0 e))))

less_more : (m n : ℕ) → nat_lt m n ≡ nat_lt (suc m) (suc n)
less_more m n = by_test (nat_lt m n) refl
  where
    by_test : (t : Bool) → nat_lt m n ≡ t → t ≡ nat_lt (suc m) (suc n)
    by_test true e = sym (lt-ltb (suc m) (suc n) (let lt = ltb-true m n e in omega arith))
    by_test false e = sym (le-ltb (suc m) (suc n) (let le = ltb-false m n e in omega arith))

some_more : (n : ℕ) → nat_lt 0 (suc n) ≡ true
some_more n = lt-ltb 0 (suc n) (omega arith)

-- and where it holds fewer items than it has places
pub room_count : {X : Type 0} → (row : List (Place X)) → IsPacked row → has_room row ≡ nat_lt (length (held_of row)) (length row)
room_count [] h = refl
room_count (place ∷ row) h = by_full (room_count row h.1) place.full refl
  where
    by_full : has_room row ≡ nat_lt (length (held_of row)) (length row) → (t : Bool) → place.full ≡ t
        → has_room (place ∷ row) ≡ nat_lt (length (held_of (place ∷ row))) (suc (length row))
    by_full rest true e = rw e (rest ∙ less_more (length (held_of row)) (length row))
    by_full rest false e = rw e (sym (some_more (length row)))

-- ---- the row as a list

pub empty_packed : {X : Type 0} → (row : List (Place X)) → AllEmpty row → IsPacked row
empty_packed [] h = tt
empty_packed (place ∷ row) h = ((λ e. h.1), empty_packed row h.1)

pub held_step : {X : Type 0} → (gives comes : Bool) (end : Place X) (item : X) (row : List (Place X)) → end.full ≡ false
    → IsPacked row →
    held_of (shift_row gives end (fill_row comes comes item row))
    ≡ held_then gives (held_of row) (coming (comes && has_room row) item)
held_step true true end item row e h =
    held_shifted end (fill_row true true item row) e (fill_packed true true item row h) ∙ ap (drop 1) (held_filled item row h)
held_step true false end item row e h =
    held_shifted end (fill_row false false item row) e (fill_packed false false item row h)
    ∙ ap (drop 1) (fill_none item row ∙ sym (append-nil (held_of row)))
held_step false true end item row e h = ap held_of (not_shifted end (fill_row true true item row)) ∙ held_filled item row h
held_step false false end item row e h =
    ap held_of (not_shifted end (fill_row false false item row)) ∙ fill_none item row ∙ sym (append-nil (held_of row))

pub few_more : {X : Type 0} → (gives comes room : Bool) (held : List X) (item : X)
    → length (held_then gives held (coming (comes && room) item)) ≤ length held + (if comes then 1 else 0)
few_more gives comes room held item = by_given gives
  where
    by_comes : (t r : Bool) → length (coming (t && r) item) ≤ (if t then 1 else 0)
    by_comes true true = omega arith
    by_comes true false = omega arith
    by_comes false r = omega arith

    by_given : (g : Bool) → length (held_then g held (coming (comes && room) item)) ≤ length held + (if comes then 1 else 0)
    by_given true =
        omega (
          arith,
          length-drop 1 (held ++ coming (comes && room) item),
          length-append held
              (coming (comes && room) item),
          by_comes comes room,
        )
    by_given false = omega (arith, length-append held (coming (comes && room) item), by_comes comes room)

-- a row that begins empty and moves from cycle to cycle is a list, oldest first: an item that comes while there is room stands at
-- its end, and where one goes, the oldest goes
module _ {X : Type 0} (places : ℕ → List (Place X)) (gives comes : ℕ → Bool) (item : ℕ → X) (starts : AllEmpty (places 0))
    (moves : (c : ℕ) → PlacesMove (places c) (places (c + 1)) (gives c) (comes c) (item c)) where
  next : (c : ℕ) → c + 1 ≡ suc c
  next c = omega arith

  pub places_packed : (c : ℕ) → IsPacked (places c)
  places_packed zero = empty_packed (places 0) starts
  places_packed (suc c) =
      let step = moves c in
      subst (λ k. IsPacked (places k)) (next c)
      (subst IsPacked (sym step.is)
      (shift_packed (gives c) step.end (fill_row (comes c) (comes c) (item c) (places c)) step.empty
      (fill_packed (comes c) (comes c) (item c) (places c) (places_packed c))))

  pub held_next : (c : ℕ)
      → held_of (places (suc c)) ≡ held_then (gives c) (held_of (places c)) (coming (comes c && has_room (places c)) (item c))
  held_next c =
      let step = moves c in
      sym (ap (λ k. held_of (places k)) (next c)) ∙ ap held_of step.is
      ∙ held_step (gives c) (comes c) step.end (item c) (places c) step.empty (places_packed c)

  -- one more at most, if an item comes
  pub held_grows : (c : ℕ) → length (held_of (places (suc c))) ≤ length (held_of (places c)) + (if comes c then 1 else 0)
  held_grows c =
      omega (arith, ap length (held_next c), few_more (gives c) (comes c) (has_room (places c)) (held_of (places c)) (item c))

-- ---- items read as others

filled_as : {X Y : Type 0} (read : X → Y) (here : Bool) (item : X) (place : Place X)
    → place_as read (filled here item place) ≡ filled here (read item) (place_as read place)
filled_as read here item place = by_full place.full refl
  where
    by_full : (t : Bool) → place.full ≡ t → place_as read (filled here item place) ≡ filled here (read item) (place_as read place)
    by_full true e = rw e refl
    by_full false e = rw e refl

fill_row_as : {X Y : Type 0} (read : X → Y) (here comes : Bool) (item : X) (row : List (Place X))
    → row_as read (fill_row here comes item row) ≡ fill_row here comes (read item) (row_as read row)
fill_row_as read here comes item [] = refl
fill_row_as read here comes item (place ∷ row) =
    ap (λ (p : Place _). p ∷ row_as read (fill_row (comes && place.full) comes item row)) (filled_as read here item place)
    ∙ ap (λ (xs : List (Place _)). filled here (read item) (place_as read place) ∷ xs)
    (fill_row_as read (comes && place.full) comes item row)

first_or_as : {X Y : Type 0} (read : X → Y) (row : List (Place X)) (end : Place X)
    → place_as read (first_or row end) ≡ first_or (row_as read row) (place_as read end)
first_or_as read [] end = refl
first_or_as read (place ∷ row) end = refl

shift_row_as : {X Y : Type 0} (read : X → Y) (shift : Bool) (end : Place X) (row : List (Place X))
    → row_as read (shift_row shift end row) ≡ shift_row shift (place_as read end) (row_as read row)
shift_row_as read shift end [] = refl
shift_row_as read true end (place ∷ row) =
    ap (λ (p : Place _). p ∷ row_as read (shift_row true end row)) (first_or_as read row end)
    ∙ ap (λ (xs : List (Place _)). first_or (row_as read row) (place_as read end) ∷ xs) (shift_row_as read true end row)
shift_row_as read false end (place ∷ row) =
    ap (λ (xs : List (Place _)). place_as read place ∷ xs) (shift_row_as read false end row)

pub empty_as : {X Y : Type 0} (read : X → Y) (row : List (Place X)) → AllEmpty row → AllEmpty (row_as read row)
empty_as read [] h = tt
empty_as read (place ∷ row) h = (h.0, empty_as read row h.1)

-- a row moves the same whatever its items are read as
pub moves_as : {X Y : Type 0} (read : X → Y) (before after : List (Place X)) (gives comes : Bool) (item : X)
    → PlacesMove before after gives comes item → PlacesMove (row_as read before) (row_as read after) gives comes (read item)
moves_as read before after gives comes item h = record {
  end = place_as read h.end;
  empty = h.empty;
  is =
      ap (row_as read) h.is ∙ shift_row_as read gives h.end (fill_row comes comes item before)
      ∙ ap (shift_row gives (place_as read h.end)) (fill_row_as read comes comes item before);
}
