-- A turn lowers how many beats of others may be taken before one of a host that asks.
use Rattle.std.proofs.Common.{◌≡◌, ℕ, zero, suc, ◌+◌, ◌-◌, ◌*◌, ◌<◌, ◌≤◌, Bool, true, false, ◌&&◌, ◌||◌, List, [], ◌∷◌, ◌++◌, nat_eq, nat_lt, if◌then◌else◌, arith, refl, sym, ap, ◌∙◌, append_assoc, append-nil, IsTrue, inl, inr, ◌⊎◌, tests}
use Rattle.std.proofs.lemmas.Bool.{and_parts}
use Rattle.histories.specs.Turns.{Seat, Round, Turn, next_asking, last_host, last_shares, turn_of, is_seated, AllShare, round_after}
use Rattle.histories.specs.Turns.Turn.{Nobody, Begins}
use Rattle.memory_awake.proofs.FairRing.{last_of}
use Rattle.memory_awake.specs.Steps.{beats_ahead, beats_of_others, round_allows}

shares_is : (xs : List Seat) (seat : Seat) → last_shares (xs ++ seat ∷ []) ≡ seat.shares
shares_is [] seat = refl
shares_is (x ∷ []) seat = refl
shares_is (x ∷ y ∷ xs) seat = shares_is (y ∷ xs) seat

seated_left : (host : ℕ) (xs ys : List Seat) → IsTrue (is_seated host xs) → IsTrue (is_seated host (xs ++ ys))
seated_left host [] ys h = absurd cc
seated_left host (x ∷ xs) ys h = by_same (nat_eq x.host host) h (seated_left host xs ys)
  where
    by_same : (b : Bool) → IsTrue (b || is_seated host xs) → (IsTrue (is_seated host xs) → IsTrue (is_seated host (xs ++ ys))) → IsTrue (b || is_seated host (xs ++ ys))
    by_same true h more = refl
    by_same false h more = more h

-- one command less
pub one_off : (n few : ℕ) → 0 < n → (n - 1) * few + few ≡ n * few
one_off zero few h = absurd (omega (arith, h))
one_off (suc n) few h = let less : suc n - 1 ≡ n = omega arith in rw less (omega arith)

pub more_of : (n m few : ℕ) → n ≤ m → n * few ≤ m * few
more_of zero m few h = omega arith
more_of (suc n) zero few h = absurd (omega (arith, h))
more_of (suc n) (suc m) few h = let rest = more_of n m few (omega (arith, h)) in omega (arith, rest)

share_append : (xs ys : List Seat) → AllShare xs → AllShare ys → AllShare (xs ++ ys)
share_append [] ys a b = b
share_append (x ∷ xs) ys a b = (a.0, share_append xs ys a.1 b)

module _ (longest : ℕ → ℕ) (host : ℕ) where
  abbrev ahead : List Seat → ℕ
  ahead seats = beats_ahead longest host seats

  abbrev others : List Seat → ℕ
  others seats = beats_of_others longest host seats

  abbrev allows : Round → ℕ
  allows round = round_allows longest host round

  ahead_append : (xs ys : List Seat) → IsTrue (is_seated host xs) → ahead (xs ++ ys) ≡ ahead xs
  ahead_append [] ys h = absurd cc
  ahead_append (x ∷ xs) ys h = by_same (nat_eq x.host host) h (ahead_append xs ys)
    where
      by_same : (b : Bool) → IsTrue (b || is_seated host xs) → (IsTrue (is_seated host xs) → ahead (xs ++ ys) ≡ ahead xs) →
          (if b then 0 else x.shares * longest x.host + ahead (xs ++ ys)) ≡ (if b then 0 else x.shares * longest x.host + ahead xs)
      by_same true h more = refl
      by_same false h more = rw (more h) refl

  -- what a turn leaves a host that asks: it begins itself, or one command less may
  abbrev pub Lowers : ℕ → Turn → Type 0
  Lowers most (Nobody round) = ⊥
  Lowers most (Begins other round) = (IsTrue (nat_eq other host)) ⊎ (allows round + longest other ≤ most)

  lowers_more : (few most : ℕ) (turn : Turn) → few ≤ most → Lowers few turn → Lowers most turn
  lowers_more few most (Nobody round) h l = l
  lowers_more few most (Begins other round) h (inl same) = inl same
  lowers_more few most (Begins other round) h (inr less) = inr (omega (arith, h, less))

  -- the first host that asks, where those skipped are not this host
  next_lowers : (asks : ℕ → Bool) (skipped later : List Seat) → IsTrue (asks host) → IsTrue (is_seated host later) → AllShare later → Lowers (ahead later) (next_asking asks skipped later)
  next_lowers asks skipped [] asking seated b = absurd cc
  next_lowers asks skipped (seat ∷ later) asking seated b =
      by_same (nat_eq seat.host host) refl seated (asks seat.host) refl (next_lowers asks (skipped ++ seat ∷ []) later asking)
    where
      by_same : (same : Bool) → nat_eq seat.host host ≡ same → IsTrue (same || is_seated host later) → (asked : Bool) → asks seat.host ≡ asked →
          (IsTrue (is_seated host later) → AllShare later → Lowers (ahead later) (next_asking asks (skipped ++ seat ∷ []) later)) →
          Lowers (if same then 0 else seat.shares * longest seat.host + ahead later)
          (if asked then Begins seat.host (record { left = seat.shares - 1; ring = later ++ skipped ++ seat ∷ [] }) else next_asking asks (skipped ++ seat ∷ []) later)
      by_same true e h true ea more = inl e
      by_same true e h false ea more = let same : seat.host ≡ host = grind (arith, tests, e) in let bad : asks host ≡ false = rw same at ea in absurd cc
      by_same false e h true ea more =
          let here : IsTrue (is_seated host (later ++ skipped)) = seated_left host later skipped h in
          let order = ahead_append (later ++ skipped) (seat ∷ []) here in
          let order' = ahead_append later skipped h in
          let last = last_of (later ++ skipped) seat in
          let off = one_off seat.shares (longest seat.host) b.0 in
          inr (rw (order, order', last, e) (omega (arith, off)))
      by_same false e h false ea more = lowers_more (ahead later) (seat.shares * longest seat.host + ahead later) _ (omega arith) (more h b.1)

  -- a turn lowers what may be taken before a host that asks
  pub turn_lowers : (asks : ℕ → Bool) (round : Round) → IsTrue (asks host) → IsTrue (is_seated host round.ring) → AllShare round.ring → Lowers (allows round) (turn_of asks round)
  turn_lowers asks round asking seated share = by_holder (asks (last_host round.ring) && nat_lt 0 round.left) refl
    where
      by_last : (same : Bool) → nat_eq (last_host round.ring) host ≡ same → 0 < round.left → Lowers (allows round) (Begins (last_host round.ring) (record { left = round.left - 1; ring = round.ring }))
      by_last true e some = inl e
      by_last false e some = inr (let off = one_off round.left (longest (last_host round.ring)) some in rw e (omega (arith, off)))

      by_holder : (test : Bool) → (asks (last_host round.ring) && nat_lt 0 round.left) ≡ test →
          Lowers (allows round) (if test then Begins (last_host round.ring) (record { left = round.left - 1; ring = round.ring }) else next_asking asks [] round.ring)
      by_holder true e = by_last (nat_eq (last_host round.ring) host) refl (grind (arith, tests, (and_parts (asks (last_host round.ring)) (nat_lt 0 round.left) e).1))
      by_holder false e = lowers_more (ahead round.ring) (allows round) _ (omega arith) (next_lowers asks [] round.ring asking seated share)

  -- ---- all that may be taken in a round

  others_append : (xs ys : List Seat) → others (xs ++ ys) ≡ others xs + others ys
  others_append [] ys = omega arith
  others_append (x ∷ xs) ys = let rest = others_append xs ys in omega (arith, rest)

  last_in : (xs : List Seat) → (if nat_eq (last_host xs) host then 0 else last_shares xs * longest (last_host xs)) ≤ others xs
  last_in [] = by_test (nat_eq 0 host)
    where
      by_test : (b : Bool) → (if b then 0 else 0 * longest 0) ≤ 0
      by_test true = omega arith
      by_test false = omega arith
  last_in (x ∷ []) = omega arith
  last_in (x ∷ y ∷ xs) = let rest = last_in (y ∷ xs) in omega (arith, rest)

  ahead_and_last : (xs : List Seat) → IsTrue (is_seated host xs) → ahead xs + (if nat_eq (last_host xs) host then 0 else last_shares xs * longest (last_host xs)) ≤ others xs
  ahead_and_last [] seated = absurd cc
  ahead_and_last (x ∷ []) seated = by_same (nat_eq x.host host) refl seated
    where
      by_same : (b : Bool) → nat_eq x.host host ≡ b → IsTrue (b || false) → (if b then 0 else x.shares * longest x.host + 0) + (if b then 0 else x.shares * longest x.host) ≤ (if b then 0 else x.shares * longest x.host) + 0
      by_same true e h = omega arith
      by_same false e h = absurd cc
  ahead_and_last (x ∷ y ∷ xs) seated = by_same (nat_eq x.host host) seated (ahead_and_last (y ∷ xs)) (last_in (y ∷ xs))
    where
      by_same : (b : Bool) → IsTrue (b || is_seated host (y ∷ xs)) →
          (IsTrue (is_seated host (y ∷ xs)) → ahead (y ∷ xs) + (if nat_eq (last_host (y ∷ xs)) host then 0 else last_shares (y ∷ xs) * longest (last_host (y ∷ xs))) ≤ others (y ∷ xs)) →
          (if nat_eq (last_host (y ∷ xs)) host then 0 else last_shares (y ∷ xs) * longest (last_host (y ∷ xs))) ≤ others (y ∷ xs) →
          (if b then 0 else x.shares * longest x.host + ahead (y ∷ xs)) + (if nat_eq (last_host (y ∷ xs)) host then 0 else last_shares (y ∷ xs) * longest (last_host (y ∷ xs))) ≤ (if b then 0 else x.shares * longest x.host) + others (y ∷ xs)
      by_same true h more last = omega (arith, last)
      by_same false h more last = let rest = more h in omega (arith, rest)

  rotate : (skipped later : List Seat) (seat : Seat) → others ((later ++ skipped) ++ seat ∷ []) ≡ others (skipped ++ seat ∷ later)
  rotate skipped later seat =
      let a = others_append skipped (seat ∷ later) in
      let b = others_append (later ++ skipped) (seat ∷ []) in
      let c = others_append later skipped in
      omega (arith, a, b, c)

  next_same : (asks : ℕ → Bool) (skipped later : List Seat) → others (round_after (next_asking asks skipped later)).ring ≡ others (skipped ++ later)
  next_same asks skipped [] = ap others (sym (append-nil skipped))
  next_same asks skipped (seat ∷ later) = by_asked (asks seat.host) (next_same asks (skipped ++ seat ∷ []) later ∙ ap others (append_assoc skipped (seat ∷ []) later))
    where
      by_asked : (asked : Bool) → others (round_after (next_asking asks (skipped ++ seat ∷ []) later)).ring ≡ others (skipped ++ seat ∷ later) →
          others (round_after (if asked then Begins seat.host (record { left = seat.shares - 1; ring = later ++ skipped ++ seat ∷ [] }) else next_asking asks (skipped ++ seat ∷ []) later)).ring ≡ others (skipped ++ seat ∷ later)
      by_asked true more = rotate skipped later seat
      by_asked false more = more

  -- a turn keeps the beats of the others
  pub turn_same : (asks : ℕ → Bool) (round : Round) → others (round_after (turn_of asks round)).ring ≡ others round.ring
  turn_same asks round = by_holder (asks (last_host round.ring) && nat_lt 0 round.left)
    where
      by_holder : (test : Bool) → others (round_after (if test then Begins (last_host round.ring) (record { left = round.left - 1; ring = round.ring }) else next_asking asks [] round.ring)).ring ≡ others round.ring
      by_holder true = refl
      by_holder false = next_same asks [] round.ring

  -- no more may be taken than all of the others' beats
  pub allows_few : (round : Round) → IsTrue (is_seated host round.ring) → round.left ≤ last_shares round.ring → allows round ≤ others round.ring
  allows_few round seated few =
      let all = ahead_and_last round.ring seated in
      let left = more_of round.left (last_shares round.ring) (longest (last_host round.ring)) few in
      by_last (nat_eq (last_host round.ring) host) all left
    where
      by_last : (b : Bool) → ahead round.ring + (if b then 0 else last_shares round.ring * longest (last_host round.ring)) ≤ others round.ring → round.left * longest (last_host round.ring) ≤ last_shares round.ring * longest (last_host round.ring) →
          ahead round.ring + (if b then 0 else round.left * longest (last_host round.ring)) ≤ others round.ring
      by_last true all left = omega (arith, all)
      by_last false all left = omega (arith, all, left)

-- ---- whose command begins holds the turn

abbrev pub Holds : Turn → Type 0
Holds (Nobody round) = Unit {0}
Holds (Begins host round) = (last_host round.ring ≡ host) × (round.left < last_shares round.ring)

next_holds : (asks : ℕ → Bool) (skipped later : List Seat) → AllShare later → Holds (next_asking asks skipped later)
next_holds asks skipped [] share = tt
next_holds asks skipped (seat ∷ later) share = by_asked (asks seat.host) (next_holds asks (skipped ++ seat ∷ []) later share.1)
  where
    by_asked : (asked : Bool) → Holds (next_asking asks (skipped ++ seat ∷ []) later) →
        Holds (if asked then Begins seat.host (record { left = seat.shares - 1; ring = later ++ skipped ++ seat ∷ [] }) else next_asking asks (skipped ++ seat ∷ []) later)
    by_asked true more = (last_of (later ++ skipped) seat, (let last = shares_is (later ++ skipped) seat in let some = share.0 in omega (arith, last, some)))
    by_asked false more = more

pub turn_holds : (asks : ℕ → Bool) (round : Round) → AllShare round.ring → round.left ≤ last_shares round.ring → Holds (turn_of asks round)
turn_holds asks round share few = by_holder (asks (last_host round.ring) && nat_lt 0 round.left) refl
  where
    by_holder : (test : Bool) → (asks (last_host round.ring) && nat_lt 0 round.left) ≡ test →
        Holds (if test then Begins (last_host round.ring) (record { left = round.left - 1; ring = round.ring }) else next_asking asks [] round.ring)
    by_holder true e = (refl, (let some : 0 < round.left = grind (arith, tests, (and_parts (asks (last_host round.ring)) (nat_lt 0 round.left) e).1) in omega (arith, some, few)))
    by_holder false e = next_holds asks [] round.ring share
