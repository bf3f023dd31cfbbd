-- A turn keeps the seats and their shares.
use Rattle.std.proofs.Common.{◌≡◌, ℕ, ◌+◌, ◌-◌, Bool, true, false, ◌&&◌, ◌||◌, List, [], ◌∷◌, ◌++◌, nat_eq, nat_lt, if◌then◌else◌, arith, refl, sym, ap, ◌∙◌, subst, append_assoc, append-nil, IsTrue}
use Rattle.std.proofs.lemmas.Bool.{and_parts}
use Rattle.histories.specs.Turns.{Seat, Round, next_asking, last_host, last_shares, turn_of, is_seated, AllShare, shares_of_others, HasSeats, IsRoundOf, IsOfAsker, round_after}
use Rattle.histories.specs.Turns.Turn.{Begins}

last_is : (xs : List Seat) (seat : Seat) → last_shares (xs ++ seat ∷ []) ≡ seat.shares
last_is [] seat = refl
last_is (x ∷ []) seat = refl
last_is (x ∷ y ∷ xs) seat = last_is (y ∷ xs) seat

or_again : (a b c : Bool) → (a || (b || c)) ≡ ((a || b) || c)
or_again true b c = refl
or_again false b c = refl

seated_append : (host : ℕ) (xs ys : List Seat) → is_seated host (xs ++ ys) ≡ (is_seated host xs || is_seated host ys)
seated_append host [] ys = refl
seated_append host (x ∷ xs) ys = ap (λ b. nat_eq x.host host || b) (seated_append host xs ys) ∙ or_again (nat_eq x.host host) (is_seated host xs) (is_seated host ys)

others_append : (host : ℕ) (xs ys : List Seat) → shares_of_others host (xs ++ ys) ≡ shares_of_others host xs + shares_of_others host ys
others_append host [] ys = omega arith
others_append host (x ∷ xs) ys = let rest = others_append host xs ys in omega (arith, rest)

share_append : (xs ys : List Seat) → AllShare xs → AllShare ys → AllShare (xs ++ ys)
share_append [] ys a b = b
share_append (x ∷ xs) ys a b = (a.0, share_append xs ys a.1 b)

share_front : (xs ys : List Seat) → AllShare (xs ++ ys) → AllShare xs
share_front [] ys a = tt
share_front (x ∷ xs) ys a = (a.0, share_front xs ys a.1)

share_back : (xs ys : List Seat) → AllShare (xs ++ ys) → AllShare ys
share_back [] ys a = a
share_back (x ∷ xs) ys a = share_back xs ys a.1

turned : (a s c : Bool) → IsTrue (a || (s || c)) → IsTrue ((c || a) || (s || false))
turned true s true h = refl
turned true s false h = refl
turned false s true h = refl
turned false true false h = refl
turned false false false h = cc

-- the holder goes to the end, behind those that were skipped
rotate : (seats skipped later : List Seat) (seat : Seat) → HasSeats seats (skipped ++ seat ∷ later) → HasSeats seats ((later ++ skipped) ++ seat ∷ [])
rotate seats skipped later seat has = record {
  seated = λ host h.
      let was = subst IsTrue (seated_append host skipped (seat ∷ later)) (has.seated host h) in
      subst IsTrue (sym (seated_append host (later ++ skipped) (seat ∷ []) ∙ ap (λ b. b || (nat_eq seat.host host || false)) (seated_append host later skipped)))
      (turned (is_seated host skipped) (nat_eq seat.host host) (is_seated host later) was);
  others = λ host.
      let a = others_append host skipped (seat ∷ later) in
      let b = others_append host (later ++ skipped) (seat ∷ []) in
      let c = others_append host later skipped in
      let d = has.others host in
      omega (arith, a, b, c, d);
  share = let mine = share_back skipped (seat ∷ later) has.share in share_append (later ++ skipped) (seat ∷ []) (share_append later skipped mine.1 (share_front skipped (seat ∷ later) has.share)) (mine.0, tt);
}

next_keeps : (seats : List Seat) (asks : ℕ → Bool) (skipped later : List Seat) → HasSeats seats (skipped ++ later) → IsRoundOf seats (round_after (next_asking asks skipped later))
next_keeps seats asks skipped [] has = record { ring = subst (HasSeats seats) (append-nil skipped) has; left = omega arith }
next_keeps seats asks skipped (seat ∷ later) has =
    by_asked (asks seat.host) (next_keeps seats asks (skipped ++ seat ∷ []) later (subst (HasSeats seats) (sym (append_assoc skipped (seat ∷ []) later)) has))
  where
    by_asked : (asked : Bool) → IsRoundOf seats (round_after (next_asking asks (skipped ++ seat ∷ []) later)) →
        IsRoundOf seats (round_after (if asked then Begins seat.host (record { left = seat.shares - 1; ring = later ++ skipped ++ seat ∷ [] }) else next_asking asks (skipped ++ seat ∷ []) later))
    by_asked true more = record { ring = rotate seats skipped later seat has; left = let last = last_is (later ++ skipped) seat in omega (arith, last) }
    by_asked false more = more

pub turn_keeps : (seats : List Seat) (round : Round) (asks : ℕ → Bool) → IsRoundOf seats round → IsRoundOf seats (round_after (turn_of asks round))
turn_keeps seats round asks is = by_holder (asks (last_host round.ring) && nat_lt 0 round.left)
  where
    by_holder : (test : Bool) → IsRoundOf seats (round_after (if test then Begins (last_host round.ring) (record { left = round.left - 1; ring = round.ring }) else next_asking asks [] round.ring))
    by_holder true = record { ring = is.ring; left = let few = is.left in omega (arith, few) }
    by_holder false = next_keeps seats asks [] round.ring is.ring

next_asks : (asks : ℕ → Bool) (skipped later : List Seat) → IsOfAsker asks (next_asking asks skipped later)
next_asks asks skipped [] = tt
next_asks asks skipped (seat ∷ later) = by_asked (asks seat.host) refl (next_asks asks (skipped ++ seat ∷ []) later)
  where
    by_asked : (asked : Bool) → asks seat.host ≡ asked → IsOfAsker asks (next_asking asks (skipped ++ seat ∷ []) later) →
        IsOfAsker asks (if asked then Begins seat.host (record { left = seat.shares - 1; ring = later ++ skipped ++ seat ∷ [] }) else next_asking asks (skipped ++ seat ∷ []) later)
    by_asked true e more = e
    by_asked false e more = more

pub turn_asks : (round : Round) (asks : ℕ → Bool) → IsOfAsker asks (turn_of asks round)
turn_asks round asks = by_holder (asks (last_host round.ring) && nat_lt 0 round.left) refl
  where
    by_holder : (test : Bool) → (asks (last_host round.ring) && nat_lt 0 round.left) ≡ test →
        IsOfAsker asks (if test then Begins (last_host round.ring) (record { left = round.left - 1; ring = round.ring }) else next_asking asks [] round.ring)
    by_holder true e = (and_parts (asks (last_host round.ring)) (nat_lt 0 round.left) e).0
    by_holder false e = next_asks asks [] round.ring
