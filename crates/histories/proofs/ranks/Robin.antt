-- In a round robin with shares a host that asks is passed by at most the shares of those before it.
use Rattle.std.proofs.Common.{◌≡◌, ℕ, ◌+◌, ◌-◌, ◌<◌, ◌≤◌, Bool, true, false, ◌&&◌, ◌||◌, List, [], ◌∷◌, ◌++◌, nat_eq, nat_lt, if◌then◌else◌, arith, refl, IsTrue, inl, inr, ◌⊎◌, tests}
use Rattle.histories.specs.Turns.{Seat, Round, Turn, next_asking, last_host, turn_of, ahead, may_pass, is_seated, AllShare, passed_by, passes, AllAsk}
use Rattle.histories.specs.Turns.Turn.{Nobody, Begins}
use Rattle.std.proofs.lemmas.Bool.{and_parts}

last_is : (xs : List Seat) (seat : Seat) → last_host (xs ++ seat ∷ []) ≡ seat.host
last_is [] seat = refl
last_is (x ∷ []) seat = refl
last_is (x ∷ y ∷ xs) seat = last_is (y ∷ xs) seat

ahead_append : (host : ℕ) (xs ys : List Seat) → IsTrue (is_seated host xs) → ahead host (xs ++ ys) ≡ ahead host xs
ahead_append host [] ys h = absurd cc
ahead_append host (x ∷ xs) ys h = by_same (nat_eq x.host host) h (ahead_append host xs ys)
  where
    by_same : (b : Bool) → IsTrue (b || is_seated host xs) → (IsTrue (is_seated host xs) → ahead host (xs ++ ys) ≡ ahead host xs) →
        (if b then 0 else x.shares + ahead host (xs ++ ys)) ≡ (if b then 0 else x.shares + ahead host xs)
    by_same true h more = refl
    by_same false h more = rw (more h) refl

seated_append_left : (host : ℕ) (xs ys : List Seat) → IsTrue (is_seated host xs) → IsTrue (is_seated host (xs ++ ys))
seated_append_left host [] ys h = absurd cc
seated_append_left host (x ∷ xs) ys h = by_same (nat_eq x.host host) h (seated_append_left host xs ys)
  where
    by_same : (b : Bool) → IsTrue (b || is_seated host xs) → (IsTrue (is_seated host xs) → IsTrue (is_seated host (xs ++ ys))) → IsTrue (b || is_seated host (xs ++ ys))
    by_same true h more = refl
    by_same false h more = more h

share_append : (xs ys : List Seat) → AllShare xs → AllShare ys → AllShare (xs ++ ys)
share_append [] ys a b = b
share_append (x ∷ xs) ys a b = (a.0, share_append xs ys a.1 b)

-- what a turn gives a host that waits: either it begins, or less may pass it
abbrev Lowers : ℕ → ℕ → Turn → Type 0
Lowers host most (Nobody round) = ⊥
Lowers host most (Begins other round) = (IsTrue (nat_eq other host)) ⊎ ((1 + may_pass host round ≤ most) × IsTrue (is_seated host round.ring) × AllShare round.ring)

lowers_more : (host few most : ℕ) (turn : Turn) → few ≤ most → Lowers host few turn → Lowers host most turn
lowers_more host few most (Nobody round) h l = l
lowers_more host few most (Begins other round) h (inl same) = inl same
lowers_more host few most (Begins other round) h (inr facts) = let less = facts.0 in inr (omega (arith, h, less), facts.1, facts.2)

one_less : (shares n : ℕ) → 0 < shares → 1 + (n + (shares - 1)) ≤ shares + n
one_less shares n h = omega (arith, h)

holder_less : (n left : ℕ) → 0 < left → 1 + (n + (left - 1)) ≤ n + left
holder_less n left h = omega (arith, h)

-- the first host that asks, where those skipped are not this host
next_lowers : (host : ℕ) (asks : ℕ → Bool) (skipped later : List Seat) → IsTrue (asks host) → IsTrue (is_seated host later) → AllShare skipped → AllShare later →
    Lowers host (ahead host later) (next_asking asks skipped later)
next_lowers host asks skipped [] asking seated a b = absurd cc
next_lowers host asks skipped (seat ∷ later) asking seated a b =
    by_same (nat_eq seat.host host) refl seated (asks seat.host) refl (next_lowers host asks (skipped ++ seat ∷ []) later asking)
  where
    by_same : (same : Bool) → nat_eq seat.host host ≡ same → IsTrue (same || is_seated host later) → (asked : Bool) → asks seat.host ≡ asked →
        (IsTrue (is_seated host later) → AllShare (skipped ++ seat ∷ []) → AllShare later → Lowers host (ahead host later) (next_asking asks (skipped ++ seat ∷ []) later)) →
        Lowers host (if same then 0 else seat.shares + ahead host later)
        (if asked then Begins seat.host (record { left = seat.shares - 1; ring = later ++ skipped ++ seat ∷ [] }) else next_asking asks (skipped ++ seat ∷ []) later)
    by_same true e h true ea more = inl e
    by_same true e h false ea more = let same : seat.host ≡ host = grind (arith, tests, e) in let bad : asks host ≡ false = rw same at ea in absurd cc
    by_same false e h true ea more =
        let here : IsTrue (is_seated host (later ++ skipped)) = seated_append_left host later skipped h in
        let order = ahead_append host (later ++ skipped) (seat ∷ []) here in
        let order' = ahead_append host later skipped h in
        let last = last_is (later ++ skipped) seat in
        inr (
          rw (order, order', last, e) (one_less seat.shares (ahead host later) b.0),
          seated_append_left host (later ++ skipped) (seat ∷ []) here,
          share_append (later ++ skipped) (seat ∷ []) (share_append later skipped b.1 a) (b.0, tt),
        )
    by_same false e h false ea more = lowers_more host (ahead host later) (seat.shares + ahead host later) _ (omega arith) (more h (share_append skipped (seat ∷ []) a (b.0, tt)) b.1)

-- a turn lowers what may pass a host that asks
turn_lowers : (host : ℕ) (asks : ℕ → Bool) (round : Round) → IsTrue (asks host) → IsTrue (is_seated host round.ring) → AllShare round.ring → Lowers host (may_pass host round) (turn_of asks round)
turn_lowers host asks round asking seated share = by_holder (asks (last_host round.ring) && nat_lt 0 round.left) refl
  where
    by_last : (same : Bool) → nat_eq (last_host round.ring) host ≡ same → 0 < round.left → Lowers host (may_pass host round) (Begins (last_host round.ring) (record { left = round.left - 1; ring = round.ring }))
    by_last true e some = inl e
    by_last false e some = inr (rw e (holder_less (ahead host round.ring) round.left some), seated, share)

    by_holder : (test : Bool) → (asks (last_host round.ring) && nat_lt 0 round.left) ≡ test →
        Lowers host (may_pass host round) (if test then Begins (last_host round.ring) (record { left = round.left - 1; ring = round.ring }) else next_asking asks [] round.ring)
    by_holder true e = by_last (nat_eq (last_host round.ring) host) refl (grind (arith, tests, (and_parts (asks (last_host round.ring)) (nat_lt 0 round.left) e).1))
    by_holder false e = lowers_more host (ahead host round.ring) (may_pass host round) _ (omega arith) (next_lowers host asks [] round.ring asking seated tt share)

pub asking_is_passed_by_few : (host : ℕ) (round : Round) (cycles : List (ℕ → Bool)) → IsTrue (is_seated host round.ring) → AllShare round.ring → AllAsk host cycles → passes host round cycles ≤ may_pass host round
asking_is_passed_by_few host round [] seated share asking = omega arith
asking_is_passed_by_few host round (asks ∷ later) seated share asking =
    by_turn (turn_of asks round) (turn_lowers host asks round asking.0 seated share) (λ after here its. asking_is_passed_by_few host after later here its asking.1)
  where
    by_turn : (turn : Turn) → Lowers host (may_pass host round) turn →
        ((after : Round) → IsTrue (is_seated host after.ring) → AllShare after.ring → passes host after later ≤ may_pass host after) →
        passed_by host turn (λ after. passes host after later) ≤ may_pass host round
    by_turn (Nobody after) l more = absurd l
    by_turn (Begins other after) l more = by_same (nat_eq other host) refl l
      where
        by_same : (same : Bool) → nat_eq other host ≡ same → Lowers host (may_pass host round) (Begins other after) → (if same then 0 else 1 + passes host after later) ≤ may_pass host round
        by_same true e l = omega arith
        by_same false e (inl same) = let bad : IsTrue (nat_eq other host) = same in absurd cc
        by_same false e (inr facts) = let rest = more after facts.1 facts.2 in let less = facts.0 in omega (arith, rest, less)
