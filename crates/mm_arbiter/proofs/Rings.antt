-- The ring of seats with the holder last, and the seats in their order: who begins.
use Rattle.std.proofs.Common.{◌≡◌, ℕ, suc, ◌+◌, ◌-◌, Bool, true, false, ◌&&◌, ◌⊎◌, List, [], ◌∷◌, ◌++◌, length, map, get_or, nat_lt, if◌then◌else◌, Option, Some, None, append-nil, append_assoc, length-append, inl, inr, refl, sym, ap, ◌∙◌, arith}
use Rattle.histories.specs.Turns.{Seat, Round, Turn, next_asking, turn_of, last_host}
use Rattle.histories.specs.Turns.Turn.{Nobody, Begins}
use Rattle.memory_machines.specs.Turns.{choice_of, choice_by}
use Rattle.mm_arbiter.specs.Asks.{one_more, first_high, past, or_else, first_after, stays_on, chosen_seat, holder_after, begun_left, left_after}

abbrev pub asked : (ℕ → Bool) → List Seat → List Bool
asked asks seats = map (λ (seat : Seat). asks seat.host) seats

-- nobody among these seats asks
record NobodyAsks (asks : ℕ → Bool) (seats : List Seat) : Type 0 where
  pub none : first_high (asked asks seats) ≡ None
  pub scanned : (skipped later : List Seat) → next_asking asks skipped (seats ++ later) ≡ next_asking asks (skipped ++ seats) later

-- the first that asks, between those before it and those behind it
record Asks (asks : ℕ → Bool) (seats : List Seat) : Type 0 where
  pub front : List Seat
  pub seat : Seat
  pub back : List Seat
  pub is : front ++ seat ∷ back ≡ seats
  pub first : first_high (asked asks seats) ≡ Some (length front)
  pub high : asks seat.host ≡ true
  pub scanned : (skipped later : List Seat) → next_asking asks skipped (seats ++ later) ≡ Begins seat.host (record { left = seat.shares - 1; ring = ((back ++ later) ++ (skipped ++ front)) ++ seat ∷ [] })

abbrev scans : Bool → (ℕ → Bool) → Seat → List Seat → List Seat → Turn
scans t asks seat skipped later = if t then Begins seat.host (record { left = seat.shares - 1; ring = (later ++ skipped) ++ seat ∷ [] }) else next_asking asks (skipped ++ seat ∷ []) later

found : (asks : ℕ → Bool) (seats : List Seat) → NobodyAsks asks seats ⊎ Asks asks seats
found asks [] = inl (record { none = refl; scanned = λ skipped later. ap (λ (xs : List Seat). next_asking asks xs later) (sym (append-nil skipped)) })
found asks (seat ∷ seats) = by_ask (asks seat.host) refl (found asks seats)
  where
    by_ask : (t : Bool) → asks seat.host ≡ t → NobodyAsks asks seats ⊎ Asks asks seats → NobodyAsks asks (seat ∷ seats) ⊎ Asks asks (seat ∷ seats)
    by_ask true e rest = inr (record {
      front = [];
      seat = seat;
      back = seats;
      is = refl;
      first = ap (λ (t : Bool). if t then Some 0 else one_more (first_high (asked asks seats))) e;
      high = e;
      scanned = λ skipped later.
          ap (λ (t : Bool). scans t asks seat skipped (seats ++ later)) e
          ∙ ap (λ (xs : List Seat). Begins seat.host (record { left = seat.shares - 1; ring = ((seats ++ later) ++ xs) ++ seat ∷ [] })) (sym (append-nil skipped));
    })
    by_ask false e (inl none) = inl (record {
      none = ap (λ (t : Bool). if t then Some 0 else one_more (first_high (asked asks seats))) e ∙ ap one_more none.none;
      scanned = λ skipped later.
          ap (λ (t : Bool). scans t asks seat skipped (seats ++ later)) e
          ∙ none.scanned (skipped ++ seat ∷ []) later ∙ ap (λ (xs : List Seat). next_asking asks xs later) (append_assoc skipped (seat ∷ []) seats);
    })
    by_ask false e (inr some) = inr (record {
      front = seat ∷ some.front;
      seat = some.seat;
      back = some.back;
      is = ap (λ (xs : List Seat). seat ∷ xs) some.is;
      first = ap (λ (t : Bool). if t then Some 0 else one_more (first_high (asked asks seats))) e ∙ ap one_more some.first;
      high = some.high;
      scanned = λ skipped later.
          ap (λ (t : Bool). scans t asks seat skipped (seats ++ later)) e
          ∙ some.scanned (skipped ++ seat ∷ []) later
          ∙ ap (λ (xs : List Seat). Begins some.seat.host (record { left = some.seat.shares - 1; ring = ((some.back ++ later) ++ xs) ++ some.seat ∷ [] })) (append_assoc skipped (seat ∷ []) some.front);
    })

-- ---- the bits of the seats in their order

-- so many places on
abbrev further : ℕ → Option ℕ → Option ℕ
further n None = None
further n (Some k) = Some (n + k)

further_none : (o : Option ℕ) → further 0 o ≡ o
further_none None = refl
further_none (Some k) = ap Some (omega arith)

further_more : (n : ℕ) (o : Option ℕ) → one_more (further n o) ≡ further (suc n) o
further_more n None = refl
further_more n (Some k) = ap Some (omega arith)

past_held : (asks : ℕ → Bool) (front : List Seat) (seat : Seat) (back : List Seat) → first_high (past (suc (length front)) (asked asks (front ++ seat ∷ back))) ≡ further (suc (length front)) (first_high (asked asks back))
past_held asks [] seat back = ap one_more (sym (further_none (first_high (asked asks back)))) ∙ further_more 0 (first_high (asked asks back))
past_held asks (one ∷ front) seat back = ap one_more (past_held asks front seat back) ∙ further_more (suc (length front)) (first_high (asked asks back))

first_step : (bits more : List Bool) (k : ℕ) (o : Option ℕ) → first_high bits ≡ o → ((j : ℕ) → first_high bits ≡ Some j → first_high (bits ++ more) ≡ Some j) → one_more (first_high bits) ≡ Some k → one_more (first_high (bits ++ more)) ≡ Some k
first_step bits more k None f rest g = (let h = ap one_more f in cc)
first_step bits more k (Some j) f rest g = ap one_more (rest j f) ∙ sym (ap one_more f) ∙ g

first_of_front : (bits more : List Bool) (k : ℕ) → first_high bits ≡ Some k → first_high (bits ++ more) ≡ Some k
first_of_front [] more k e = cc
first_of_front (true ∷ bits) more k e = e
first_of_front (false ∷ bits) more k e = first_step bits more k (first_high bits) refl (λ j. first_of_front bits more j) e

none_more : (o : Option ℕ) → one_more o ≡ None → o ≡ None
none_more None e = refl
none_more (Some k) e = absurd (cc)

first_of_neither : (bits more : List Bool) → first_high bits ≡ None → first_high more ≡ None → first_high (bits ++ more) ≡ None
first_of_neither [] more e f = f
first_of_neither (true ∷ bits) more e f = absurd (cc)
first_of_neither (false ∷ bits) more e f = ap one_more (first_of_neither bits more (none_more (first_high bits) e) f)

pub asked_append : (asks : ℕ → Bool) (xs ys : List Seat) → asked asks (xs ++ ys) ≡ asked asks xs ++ asked asks ys
asked_append asks [] ys = refl
asked_append asks (seat ∷ xs) ys = ap (λ (bits : List Bool). asks seat.host ∷ bits) (asked_append asks xs ys)

pub middle_asks : (asks : ℕ → Bool) (front : List Seat) (seat : Seat) (back : List Seat) → get_or (asked asks (front ++ seat ∷ back)) (length front) false ≡ asks seat.host
middle_asks asks [] seat back = refl
middle_asks asks (first ∷ front) seat back = middle_asks asks front seat back

pub last_is : (xs : List Seat) (seat : Seat) → last_host (xs ++ seat ∷ []) ≡ seat.host
last_is [] seat = refl
last_is (one ∷ []) seat = refl
last_is (one ∷ two ∷ xs) seat = last_is (two ∷ xs) seat

-- ---- the turn

-- the holder between the seats before it and those behind it. The ring has it last
pub record Held : Type 0 where
  pub front : List Seat
  pub seat : Seat
  pub back : List Seat

abbrev pub seats_in : Held → List Seat
seats_in held = held.front ++ held.seat ∷ held.back

abbrev pub ring_of : Held → List Seat
ring_of held = (held.back ++ held.front) ++ held.seat ∷ []

abbrev pub place_of : Held → ℕ
place_of held = length held.front

abbrev first_of : (ℕ → Bool) → Held → Option ℕ
first_of asks held = first_after (place_of held) (asked asks (seats_in held))

-- nobody asks, and the holder stays
record Idles (asks : ℕ → Bool) (held : Held) : Type 0 where
  pub none : first_of asks held ≡ None
  pub turn : next_asking asks [] (ring_of held) ≡ Nobody (record { left = 0; ring = ring_of held })

-- the first that asks after the holder becomes the holder
record Moves (asks : ℕ → Bool) (held : Held) : Type 0 where
  pub next : Held
  pub seats : seats_in next ≡ seats_in held
  pub first : first_of asks held ≡ Some (place_of next)
  pub turn : next_asking asks [] (ring_of held) ≡ Begins next.seat.host (record { left = next.seat.shares - 1; ring = ring_of next })
  pub high : asks next.seat.host ≡ true

module _ (asks : ℕ → Bool) (front : List Seat) (seat : Seat) (back : List Seat) where
  abbrev held : Held
  held = record { front = front; seat = seat; back = back }

  abbrev upto : List Seat
  upto = front ++ seat ∷ []

  whole : upto ++ back ≡ seats_in held
  whole = append_assoc front (seat ∷ []) back

  from_ring : next_asking asks [] (ring_of held) ≡ next_asking asks [] (back ++ upto)
  from_ring = ap (next_asking asks []) (append_assoc back front (seat ∷ []))

  begun : Seat → List Seat → Turn
  begun one ring = Begins one.host (record { left = one.shares - 1; ring = ring ++ one ∷ [] })

  behind : Asks asks back → Moves asks held
  unfolding begun
  behind some = record {
    next = record { front = front ++ seat ∷ some.front; seat = some.seat; back = some.back };
    seats = append_assoc front (seat ∷ some.front) (some.seat ∷ some.back) ∙ ap (λ (xs : List Seat). front ++ seat ∷ xs) some.is;
    first =
        (let e : suc (length front) + length some.front ≡ length (front ++ seat ∷ some.front) = (let l = length-append front (seat ∷ some.front) in omega (arith, l)) in
        ap (λ (o : Option ℕ). or_else o (first_high (asked asks (seats_in held)))) (past_held asks front seat back ∙ ap (further (suc (length front))) some.first) ∙ ap Some e);
    turn = from_ring ∙ some.scanned [] upto
        ∙ ap (begun some.seat) (append_assoc some.back upto some.front ∙ ap (λ (xs : List Seat). some.back ++ xs) (append_assoc front (seat ∷ []) some.front));
    high = some.high;
  }

  first_before : NobodyAsks asks back → first_of asks held ≡ first_high (asked asks upto ++ asked asks back)
  first_before none =
      ap (λ (o : Option ℕ). or_else o (first_high (asked asks (seats_in held)))) (past_held asks front seat back ∙ ap (further (suc (length front))) none.none)
      ∙ ap (λ (xs : List Seat). first_high (asked asks xs)) (sym whole) ∙ ap first_high (asked_append asks upto back)

  from_upto : NobodyAsks asks back → next_asking asks [] (ring_of held) ≡ next_asking asks back (upto ++ [])
  from_upto none = from_ring ∙ none.scanned [] upto ∙ ap (next_asking asks back) (sym (append-nil upto))

  before : NobodyAsks asks back → Asks asks upto → Moves asks held
  unfolding begun
  before none some = record {
    next = record { front = some.front; seat = some.seat; back = some.back ++ back };
    seats = sym (append_assoc some.front (some.seat ∷ some.back) back) ∙ ap (λ (xs : List Seat). xs ++ back) some.is ∙ whole;
    first = first_before none ∙ first_of_front (asked asks upto) (asked asks back) (length some.front) some.first;
    turn = from_upto none ∙ some.scanned back []
        ∙ ap (begun some.seat) (ap (λ (xs : List Seat). xs ++ (back ++ some.front)) (append-nil some.back) ∙ sym (append_assoc some.back back some.front));
    high = some.high;
  }

  idle : NobodyAsks asks back → NobodyAsks asks upto → Idles asks held
  idle none no_more = record {
    none = first_before none ∙ first_of_neither (asked asks upto) (asked asks back) no_more.none none.none;
    turn = from_upto none ∙ no_more.scanned back [] ∙ ap (λ (xs : List Seat). Nobody (record { left = 0; ring = xs })) (sym (append_assoc back front (seat ∷ [])));
  }

  next_of : Idles asks held ⊎ Moves asks held
  next_of = by_back (found asks back) (found asks upto)
    where
      by_back : NobodyAsks asks back ⊎ Asks asks back → NobodyAsks asks upto ⊎ Asks asks upto → Idles asks held ⊎ Moves asks held
      by_back (inr some) rest = inr (behind some)
      by_back (inl none) (inr some) = inr (before none some)
      by_back (inl none) (inl no_more) = inl (idle none no_more)

-- ---- what is chosen, and the round after it

abbrev pub spares_of : List Seat → List ℕ
spares_of seats = map (λ (seat : Seat). seat.shares - 1) seats

middle_spares : (front : List Seat) (seat : Seat) (back : List Seat) → get_or (spares_of (front ++ seat ∷ back)) (length front) 0 ≡ seat.shares - 1
middle_spares [] seat back = refl
middle_spares (one ∷ front) seat back = middle_spares front seat back

abbrev pub seat_of : Bool → (ℕ → Bool) → ℕ → Held → Option ℕ
seat_of inside asks left held = chosen_seat inside (place_of held) left (asked asks (seats_in held))

abbrev pub left_of : Bool → (ℕ → Bool) → ℕ → Held → ℕ
left_of inside asks left held = left_after inside (place_of held) left (asked asks (seats_in held)) (spares_of (seats_in held))

abbrev pub open_host : Bool → Held → Option ℕ
open_host inside held = if inside then Some held.seat.host else None

-- the holder after a cycle, its place, and the round
pub record Chooses (inside : Bool) (asks : ℕ → Bool) (left : ℕ) (held : Held) : Type 0 where
  pub next : Held
  pub seats : seats_in next ≡ seats_in held
  pub place : holder_after (place_of held) (seat_of inside asks left held) ≡ place_of next
  pub some : Bool
  pub seat : seat_of inside asks left held ≡ (if some then Some (place_of next) else None)
  pub choice : choice_of (open_host inside held) asks (record { left = left; ring = ring_of held }) ≡ record { host = if some then Some next.seat.host else None; round = record { left = left_of inside asks left held; ring = ring_of next } }
  pub high : some ≡ true → asks next.seat.host ≡ true
  pub stays : inside ≡ true → next.seat.host ≡ held.seat.host

module _ (asks : ℕ → Bool) (left : ℕ) (held : Held) where
  abbrev bits : List Bool
  bits = asked asks (seats_in held)

  abbrev own : Bool
  own = get_or bits (place_of held) false

  own_is : own ≡ asks held.seat.host
  own_is = middle_asks asks held.front held.seat held.back

  abbrev round : Round
  round = record { left = left; ring = ring_of held }

  abbrev by_host : ℕ → Bool → Turn
  by_host host stays = if stays then Begins host (record { left = left - 1; ring = ring_of held }) else next_asking asks [] (ring_of held)

  turn_is : turn_of asks round ≡ by_host held.seat.host (asks held.seat.host && nat_lt 0 left)
  turn_is = ap (λ (host : ℕ). by_host host (asks host && nat_lt 0 left)) (last_is (held.back ++ held.front) held.seat)

  abbrev open_seat : Bool → Option ℕ
  open_seat asking = if asking then Some (place_of held) else None

  inside_chooses : (t : Bool) → asks held.seat.host ≡ t → Chooses true asks left held
  inside_chooses true e = record {
    next = held;
    seats = refl;
    place = ap (λ (t : Bool). holder_after (place_of held) (open_seat t)) (own_is ∙ e);
    some = true;
    seat = ap open_seat (own_is ∙ e);
    choice = ap (λ (t : Bool). record { host = if t then Some held.seat.host else None; round = round }) e;
    high = λ some. e;
    stays = λ inside. refl;
  }
  inside_chooses false e = record {
    next = held;
    seats = refl;
    place = ap (λ (t : Bool). holder_after (place_of held) (open_seat t)) (own_is ∙ e);
    some = false;
    seat = ap open_seat (own_is ∙ e);
    choice = ap (λ (t : Bool). record { host = if t then Some held.seat.host else None; round = round }) e;
    high = λ some. absurd (cc);
    stays = λ inside. refl;
  }

  abbrev free_seat : Bool → Option ℕ → Option ℕ
  free_seat stays first = if stays then Some (place_of held) else first

  abbrev free_left : Bool → Option ℕ → ℕ
  free_left stays first = if stays then left - 1 else begun_left (spares_of (seats_in held)) first

  stays_is : (t : Bool) → (asks held.seat.host && nat_lt 0 left) ≡ t → stays_on (place_of held) left bits ≡ t
  stays_is t e = ap (λ (s : Bool). s && nat_lt 0 left) own_is ∙ e

  both_first : (s t : Bool) → (s && t) ≡ true → s ≡ true
  both_first true t e = refl
  both_first false t e = e

  stays_chooses : (asks held.seat.host && nat_lt 0 left) ≡ true → Chooses false asks left held
  stays_chooses e = record {
    next = held;
    seats = refl;
    place = ap (λ (t : Bool). holder_after (place_of held) (free_seat t (first_of asks held))) (stays_is true e);
    some = true;
    seat = ap (λ (t : Bool). free_seat t (first_of asks held)) (stays_is true e);
    choice = ap choice_by (turn_is ∙ ap (by_host held.seat.host) e)
        ∙ ap (λ (n : ℕ). record { host = Some held.seat.host; round = record { left = n; ring = ring_of held } }) (sym (ap (λ (t : Bool). free_left t (first_of asks held)) (stays_is true e)));
    high = λ some. both_first (asks held.seat.host) (nat_lt 0 left) e;
    stays = λ inside. absurd (cc);
  }

  free_chooses : (asks held.seat.host && nat_lt 0 left) ≡ false → Idles asks held ⊎ Moves asks held → Chooses false asks left held
  free_chooses e (inl idles) =
      let seat : seat_of false asks left held ≡ None = ap (λ (t : Bool). free_seat t (first_of asks held)) (stays_is false e) ∙ idles.none in
      let shares : left_of false asks left held ≡ 0 = ap (λ (t : Bool). free_left t (first_of asks held)) (stays_is false e) ∙ ap (begun_left (spares_of (seats_in held))) idles.none in
      record {
        next = held;
        seats = refl;
        place = ap (holder_after (place_of held)) seat;
        some = false;
        seat = seat;
        choice = ap choice_by (turn_is ∙ ap (by_host held.seat.host) e ∙ idles.turn)
            ∙ ap (λ (n : ℕ). record { host = None; round = record { left = n; ring = ring_of held } }) (sym shares);
        high = λ some. absurd (cc);
        stays = λ inside. absurd (cc);
      }
  free_chooses e (inr moves) =
      let next = moves.next in
      let seat : seat_of false asks left held ≡ Some (place_of next) = ap (λ (t : Bool). free_seat t (first_of asks held)) (stays_is false e) ∙ moves.first in
      let shares : left_of false asks left held ≡ next.seat.shares - 1 =
      ap (λ (t : Bool). free_left t (first_of asks held)) (stays_is false e) ∙ ap (begun_left (spares_of (seats_in held))) moves.first
      ∙ ap (λ (seats : List Seat). get_or (spares_of seats) (place_of next) 0) (sym moves.seats) ∙ middle_spares next.front next.seat next.back in
      record {
        next = next;
        seats = moves.seats;
        place = ap (holder_after (place_of held)) seat;
        some = true;
        seat = seat;
        choice = ap choice_by (turn_is ∙ ap (by_host held.seat.host) e ∙ moves.turn)
            ∙ ap (λ (n : ℕ). record { host = Some next.seat.host; round = record { left = n; ring = ring_of next } }) (sym shares);
        high = λ some. moves.high;
        stays = λ inside. absurd (cc);
      }

  by_stays : (t : Bool) → (asks held.seat.host && nat_lt 0 left) ≡ t → Chooses false asks left held
  by_stays true e = stays_chooses e
  by_stays false e = free_chooses e (next_of asks held.front held.seat held.back)

  pub chooses : (inside : Bool) → Chooses inside asks left held
  chooses true = inside_chooses (asks held.seat.host) refl
  chooses false = by_stays (asks held.seat.host && nat_lt 0 left) refl
