-- The ring of a turn rule stands in the order of the connections, whoever holds the turn.
use Rattle.std.proofs.Common.{◌≡◌, ℕ, ◌-◌, ◌<◌, Bool, true, false, not, ◌&&◌, ◌||◌, List, [], ◌∷◌, ◌++◌, length, map, nat_eq, nat_lt, if◌then◌else◌, arith, refl, sym, ap, ◌∙◌, subst, IsTrue, IsFalse, tests, append_assoc, append-nil, length-append}
use Rattle.std.specs.Prelude.{⊤}
use Rattle.std.proofs.lemmas.Bool.{and_parts, or_right}
use Rattle.std.specs.List.{list_any}
use Rattle.histories.specs.Turns.{Seat, Round, Turn, turn_of, next_asking, last_host, round_after, AllShare}
use Rattle.histories.specs.Turns.Turn.{Nobody, Begins}
use Rattle.memory_runs.specs.Awake.{next_from, next_host}
use Rattle.memory_awake.specs.Fair.{are_apart}

-- ---- orders

any_end : (h x : ℕ) (xs : List ℕ) → list_any (nat_eq h) (xs ++ x ∷ []) ≡ list_any (nat_eq h) (x ∷ xs)
any_end h x [] = refl
any_end h x (y ∷ xs) = ap (λ b. nat_eq h y || b) (any_end h x xs) ∙ turned (nat_eq h y) (nat_eq h x) (list_any (nat_eq h) xs)
  where
    turned : (a b c : Bool) → (a || (b || c)) ≡ (b || (a || c))
    turned true true c = refl
    turned true false c = refl
    turned false true c = refl
    turned false false c = refl

apart_end : (x : ℕ) (xs : List ℕ) → IsTrue (are_apart (x ∷ xs)) → IsTrue (are_apart (xs ++ x ∷ []))
apart_end x [] apart = refl
apart_end x (y ∷ xs) apart = by_parts (nat_eq x y) (list_any (nat_eq x) xs) (list_any (nat_eq y) xs) (are_apart xs) refl apart (apart_end x xs) refl
  where
    by_parts : (a b c d : Bool) → nat_eq x y ≡ a → IsTrue (not (a || b) && (not c && d)) → (IsTrue (not b && d) → IsTrue (are_apart (xs ++ x ∷ []))) →
        list_any (nat_eq y) xs ≡ c → IsTrue (not (list_any (nat_eq y) (xs ++ x ∷ [])) && are_apart (xs ++ x ∷ []))
    by_parts true b c d e h more none = absurd cc
    by_parts false true c d e h more none = absurd cc
    by_parts false false true d e h more none = absurd cc
    by_parts false false false d e h more none =
        let other : nat_eq y x ≡ false = grind (arith, tests, e) in
        rw (any_end y x xs, other, none) (more h)

last_next : (f h : ℕ) (m : List ℕ) → IsFalse (list_any (nat_eq h) m) → next_from f h (m ++ h ∷ []) ≡ f
last_next f h [] none = refl
last_next f h (z ∷ []) none = let other : nat_eq z h ≡ false = grind (arith, tests, none) in rw other refl
last_next f h (z ∷ w ∷ m) none = by_two (nat_eq h z) (list_any (nat_eq h) (w ∷ m)) refl none (last_next f h (w ∷ m))
  where
    by_two : (a b : Bool) → nat_eq h z ≡ a → IsFalse (a || b) → (IsFalse b → next_from f h ((w ∷ m) ++ h ∷ []) ≡ f) → next_from f h ((z ∷ w ∷ m) ++ h ∷ []) ≡ f
    by_two true b e none more = absurd cc
    by_two false b e none more = let other : nat_eq z h ≡ false = grind (arith, tests, e) in rw other (more none)

inner_next : (f x h : ℕ) (m : List ℕ) → IsTrue (list_any (nat_eq h) m) → next_from f h (m ++ x ∷ []) ≡ next_from x h m
inner_next f x h [] any = absurd cc
inner_next f x h (z ∷ []) any = let same : nat_eq z h ≡ true = grind (arith, tests, any) in rw same refl
inner_next f x h (z ∷ w ∷ m) any = by_same (nat_eq z h) refl (inner_next f x h (w ∷ m))
  where
    by_same : (a : Bool) → nat_eq z h ≡ a → (IsTrue (list_any (nat_eq h) (w ∷ m)) → next_from f h ((w ∷ m) ++ x ∷ []) ≡ next_from x h (w ∷ m)) →
        (if a then w else next_from f h ((w ∷ m) ++ x ∷ [])) ≡ (if a then w else next_from x h (w ∷ m))
    by_same true e more = refl
    by_same false e more = let other : nat_eq h z ≡ false = grind (arith, tests, e) in more (rw other at any)

next_end : (x h : ℕ) (m : List ℕ) → IsTrue (are_apart (x ∷ m)) → IsTrue (list_any (nat_eq h) (x ∷ m)) → next_host (m ++ x ∷ []) h ≡ next_host (x ∷ m) h
next_end x h [] apart any = refl
next_end x h (y ∷ m) apart any = by_same (nat_eq x h) refl
  where
    by_same : (a : Bool) → nat_eq x h ≡ a → next_from y h ((y ∷ m) ++ x ∷ []) ≡ (if a then y else next_from x h (y ∷ m))
    by_same true e =
        let same : x ≡ h = grind (arith, tests, e) in
        subst (λ k. next_from y h ((y ∷ m) ++ k ∷ []) ≡ y) (sym same)
        (last_next y h (y ∷ m) (subst (λ k. IsFalse (list_any (nat_eq k) (y ∷ m))) same (not_one (and_parts _ _ apart).0)))
      where
        not_one : {b : Bool} → IsTrue (not b) → IsFalse b
        not_one {b = true} t = absurd cc
        not_one {b = false} t = refl
    by_same false e = let other : nat_eq h x ≡ false = grind (arith, tests, e) in inner_next y x h (y ∷ m) (rw other at any)

-- ---- seats

abbrev pub hosts : List Seat → List ℕ
hosts ring = map (λ s. s.host) ring

abbrev AreShares : (ℕ → ℕ) → List Seat → Type 0
AreShares shares [] = ⊤
AreShares shares (s ∷ later) = ((s.shares ≡ shares s.host) × (0 < s.shares)) × AreShares shares later

hosts_append : (xs ys : List Seat) → hosts (xs ++ ys) ≡ hosts xs ++ hosts ys
hosts_append [] ys = refl
hosts_append (x ∷ xs) ys = ap (λ l. x.host ∷ l) (hosts_append xs ys)

shares_append : (shares : ℕ → ℕ) (xs ys : List Seat) → AreShares shares xs → AreShares shares ys → AreShares shares (xs ++ ys)
shares_append shares [] ys a b = b
shares_append shares (x ∷ xs) ys a b = (a.0, shares_append shares xs ys a.1 b)

pub last_of : (xs : List Seat) (seat : Seat) → last_host (xs ++ seat ∷ []) ≡ seat.host
last_of [] seat = refl
last_of (x ∷ []) seat = refl
last_of (x ∷ y ∷ xs) seat = last_of (y ∷ xs) seat

last_in : (s : Seat) (l : List Seat) → IsTrue (list_any (nat_eq (last_host (s ∷ l))) (hosts (s ∷ l)))
last_in s [] = let same : nat_eq s.host s.host ≡ true = grind (arith, tests) in rw same refl
last_in s (t ∷ l) = or_right (nat_eq (last_host (t ∷ l)) s.host) _ (last_in t l)

-- after the last one the first comes again
first_next : (f : ℕ) (s : Seat) (l : List Seat) → IsTrue (are_apart (hosts (s ∷ l))) → next_from f (last_host (s ∷ l)) (hosts (s ∷ l)) ≡ f
first_next f s [] apart = refl
first_next f s (t ∷ l) apart = by_same (nat_eq s.host (last_host (t ∷ l))) refl (first_next f t l parts.1)
  where
    parts : IsTrue (not (list_any (nat_eq s.host) (hosts (t ∷ l)))) × IsTrue (are_apart (hosts (t ∷ l)))
    parts = and_parts _ _ apart

    not_both : (b : Bool) → IsTrue b → IsTrue (not b) → ⊥
    not_both true a n = cc
    not_both false a n = cc

    by_same : (b : Bool) → nat_eq s.host (last_host (t ∷ l)) ≡ b → next_from f (last_host (t ∷ l)) (hosts (t ∷ l)) ≡ f → (if b then t.host else next_from f (last_host (t ∷ l)) (hosts (t ∷ l))) ≡ f
    by_same true e more = let same : s.host ≡ last_host (t ∷ l) = grind (arith, tests, e) in
        absurd (not_both _ (last_in t l) (subst (λ h. IsTrue (not (list_any (nat_eq h) (hosts (t ∷ l))))) same parts.0))
    by_same false e more = more

module _ (order : List ℕ) (shares : ℕ → ℕ) where
  -- the hosts of the order, one after the other in a circle, each with its shares
  pub record IsRing (ring : List Seat) : Type 0 where
    pub apart : IsTrue (are_apart (hosts ring))
    pub next : (h : ℕ) → IsTrue (list_any (nat_eq h) (hosts ring)) → next_host (hosts ring) h ≡ next_host order h
    pub within : (h : ℕ) → IsTrue (list_any (nat_eq h) (hosts ring)) → IsTrue (list_any (nat_eq h) order)
    pub shares_are : AreShares shares ring
    pub some : 0 < length ring

  turn_one : (s : Seat) (l : List Seat) → IsRing (s ∷ l) → IsRing (l ++ s ∷ [])
  turn_one s l is = record {
    apart = subst (λ hs. IsTrue (are_apart hs)) (sym split) (apart_end s.host (hosts l) is.apart);
    next = λ h any. let here = in_front h any in
        ap (λ hs. next_host hs h) split ∙ next_end s.host h (hosts l) is.apart here ∙ is.next h here;
    within = λ h any. is.within h (in_front h any);
    shares_are = shares_append shares l (s ∷ []) is.shares_are.1 (is.shares_are.0, tt);
    some = simp length-append (omega arith);
  }
    where
      split : hosts (l ++ s ∷ []) ≡ hosts l ++ s.host ∷ []
      split = hosts_append l (s ∷ [])

      in_front : (h : ℕ) → IsTrue (list_any (nat_eq h) (hosts (l ++ s ∷ []))) → IsTrue (list_any (nat_eq h) (hosts (s ∷ l)))
      in_front h any = subst IsTrue (ap (list_any (nat_eq h)) split ∙ any_end h s.host (hosts l)) any

  turned : (a b : List Seat) → IsRing (a ++ b) → IsRing (b ++ a)
  turned [] b is = subst IsRing (sym (append-nil b)) is
  turned (s ∷ a) b is =
      let more = turned a (b ++ s ∷ []) (subst IsRing (append_assoc a b (s ∷ [])) (turn_one s (a ++ b) is)) in
      subst IsRing (append_assoc b (s ∷ []) a) more

  -- whoever begins stands last
  abbrev pub HoldsLast : Turn → Type 0
  HoldsLast (Nobody round) = ⊤
  HoldsLast (Begins host round) = last_host round.ring ≡ host

  pub record KeepsRing (turn : Turn) : Type 0 where
    pub ring : IsRing (round_after turn).ring
    pub last : HoldsLast turn

  in_row : (asks : ℕ → Bool) (skipped later : List Seat) → IsRing (skipped ++ later) → KeepsRing (next_asking asks skipped later)
  in_row asks skipped [] is = record { ring = subst IsRing (append-nil skipped) is; last = tt }
  in_row asks skipped (seat ∷ later) is = by_test (asks seat.host) (in_row asks (skipped ++ seat ∷ []) later moved)
    where
      moved : IsRing ((skipped ++ seat ∷ []) ++ later)
      moved = subst IsRing (sym (append_assoc skipped (seat ∷ []) later)) is

      by_test : (b : Bool) → KeepsRing (next_asking asks (skipped ++ seat ∷ []) later) →
          KeepsRing (if b then Begins seat.host (record { left = seat.shares - 1; ring = later ++ skipped ++ seat ∷ [] }) else next_asking asks (skipped ++ seat ∷ []) later)
      by_test true more = record { ring = subst IsRing (sym (append_assoc later skipped (seat ∷ []))) (turned (skipped ++ seat ∷ []) later moved); last = last_of (later ++ skipped) seat }
      by_test false more = more

  pub turn_keeps : (asks : ℕ → Bool) (round : Round) → IsRing round.ring → KeepsRing (turn_of asks round)
  turn_keeps asks round is = by_test (asks (last_host round.ring) && nat_lt 0 round.left)
    where
      by_test : (b : Bool) → KeepsRing (if b then Begins (last_host round.ring) (record { left = round.left - 1; ring = round.ring }) else next_asking asks [] round.ring)
      by_test true = record { ring = is; last = refl }
      by_test false = in_row asks [] round.ring is

  -- the holder is in the order, and the host in front follows it
  pub holder_within : (ring : List Seat) → IsRing ring → IsTrue (list_any (nat_eq (last_host ring)) order)
  holder_within [] is = let some = is.some in absurd (omega (arith, some))
  holder_within (s ∷ l) is = is.within (last_host (s ∷ l)) (last_in s l)

  pub front_follows : (s : Seat) (l : List Seat) → IsRing (s ∷ l) → s.host ≡ next_host order (last_host (s ∷ l))
  front_follows s l is = sym (first_next s.host s l is.apart) ∙ is.next (last_host (s ∷ l)) (last_in s l)

-- ---- at first

seats_in_order : (shares : ℕ → ℕ) (order : List ℕ) → hosts (map (λ host. record { host = host; shares = shares host }) order) ≡ order
seats_in_order shares [] = refl
seats_in_order shares (x ∷ order) = ap (λ l. x ∷ l) (seats_in_order shares order)

seats_share : (shares : ℕ → ℕ) (order : List ℕ) → AllShare (map (λ host. record { host = host; shares = shares host }) order) → AreShares shares (map (λ host. record { host = host; shares = shares host }) order)
seats_share shares [] all = tt
seats_share shares (x ∷ order) all = ((refl, all.0), seats_share shares order all.1)

pub seats_are_ring : (shares : ℕ → ℕ) (x : ℕ) (order : List ℕ) → IsTrue (are_apart (x ∷ order)) → AllShare (map (λ host. record { host = host; shares = shares host }) (x ∷ order)) →
    IsRing (x ∷ order) shares (map (λ host. record { host = host; shares = shares host }) (x ∷ order))
seats_are_ring shares x order apart all = record {
  apart = subst (λ hs. IsTrue (are_apart hs)) (sym same) apart;
  next = λ h any. ap (λ hs. next_host hs h) same;
  within = λ h any. subst (λ hs. IsTrue (list_any (nat_eq h) hs)) same any;
  shares_are = seats_share shares (x ∷ order) all;
  some = omega arith;
}
  where
    same : hosts (map (λ host. record { host = host; shares = shares host }) (x ∷ order)) ≡ x ∷ order
    same = seats_in_order shares (x ∷ order)
