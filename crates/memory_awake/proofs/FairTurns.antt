-- Hosts that follow one another by their shares stand in full turns.
use Rattle.std.proofs.Common.{◌≡◌, ℕ, zero, suc, ◌+◌, ◌-◌, ◌<◌, ◌≤◌, Bool, true, false, not, ◌||◌, List, [], ◌∷◌, length, map, take, drop, nat_eq, if◌then◌else◌, arith, refl, sym, ap, ◌∙◌, subst, IsTrue, tests}
use Rattle.std.specs.Prelude.{⊤, slice_index}
use Rattle.std.proofs.lemmas.Bool.{and_parts}
use Rattle.std.specs.List.{list_any}
use Rattle.memory_runs.specs.Order.{Owner}
use Rattle.memory_runs.specs.Awake.{Turn, joined_turn, turns_of, next_from, next_host}
use Rattle.memory_awake.specs.Fair.{are_apart}

-- ---- the next host in the order is another one

next_apart : (first h : ℕ) (xs : List ℕ) → (first ≡ h → ⊥) → IsTrue (are_apart xs) → next_from first h xs ≡ h → ⊥
next_apart first h [] other apart e = other e
next_apart first h (x ∷ []) other apart e = other e
next_apart first h (x ∷ y ∷ xs) other apart e = by_same (nat_eq x h) refl e (next_apart first h (y ∷ xs) other parts.1)
  where
    parts : IsTrue (not (nat_eq x y || list_any (nat_eq x) xs)) × IsTrue (are_apart (y ∷ xs))
    parts = and_parts _ _ apart

    by_same : (b : Bool) → nat_eq x h ≡ b → (if b then y else next_from first h (y ∷ xs)) ≡ h → (next_from first h (y ∷ xs) ≡ h → ⊥) → ⊥
    by_same true f e more = let once = parts.0 in let same : x ≡ y = grind (arith, tests, f, e) in grind (arith, tests, once, same)
    by_same false f e more = more e

pub other_next : (a b : ℕ) (xs : List ℕ) → IsTrue (are_apart (a ∷ b ∷ xs)) → (h : ℕ) → next_host (a ∷ b ∷ xs) h ≡ h → ⊥
other_next a b xs apart h e = by_same (nat_eq a h) refl e
  where
    parts : IsTrue (not (nat_eq a b || list_any (nat_eq a) xs)) × IsTrue (are_apart (b ∷ xs))
    parts = and_parts _ _ apart

    by_same : (t : Bool) → nat_eq a h ≡ t → (if t then b else next_from a h (b ∷ xs)) ≡ h → ⊥
    by_same true f e = let other = parts.0 in let same : a ≡ b = grind (arith, tests, f, e) in grind (arith, tests, other, same)
    by_same false f e = next_apart a h (b ∷ xs) (λ (same : a ≡ h). grind (arith, tests, f, same)) parts.1 e

module _ (order : List ℕ) (shares : ℕ → ℕ) where
  -- the holder has so many commands left, and then the next host in the order has its shares
  abbrev pub Follows : ℕ → ℕ → List ℕ → Type 0
  Follows holder left [] = ⊤
  Follows holder zero (x ∷ later) = (x ≡ next_host order holder) × (0 < shares x) × Follows x (shares x - 1) later
  Follows holder (suc left) (x ∷ later) = (x ≡ holder) × Follows x left later

  pub record Follow (xs : List ℕ) : Type 0 where
    pub holder : ℕ
    pub left : ℕ
    pub is : Follows holder left xs

  pub dropped : (n holder left : ℕ) (xs : List ℕ) → Follows holder left xs → Follow (drop n xs)
  dropped zero holder left xs f = record { holder = holder; left = left; is = f }
  dropped (suc n) holder left [] f = record { holder = holder; left = left; is = tt }
  dropped (suc n) holder zero (x ∷ xs) f = dropped n x (shares x - 1) xs f.2
  dropped (suc n) holder (suc left) (x ∷ xs) f = dropped n x left xs f.1

  pub taken_of : (n holder left : ℕ) (xs : List ℕ) → Follows holder left xs → Follows holder left (take n xs)
  taken_of zero holder left xs f = tt
  taken_of (suc n) holder left [] f = tt
  taken_of (suc n) holder zero (x ∷ xs) f = (f.0, f.1, taken_of n x (shares x - 1) xs f.2)
  taken_of (suc n) holder (suc left) (x ∷ xs) f = (f.0, taken_of n x left xs f.1)

  -- each turn is of so many commands, the first of `count`, and the next host follows. Of the last one nothing is said
  abbrev Full : ℕ → List Turn → Type 0
  Full count [] = ⊤
  Full count (t ∷ []) = ⊤
  Full count (t ∷ u ∷ later) = (t.commands ≡ count) × (u.host ≡ next_host order t.host) × Full (shares u.host) (u ∷ later)

  abbrev Heads : ℕ → List Turn → Type 0
  Heads host [] = ⊤
  Heads host (t ∷ later) = t.host ≡ host

  abbrev Starts : ℕ → ℕ → List Turn → Type 0
  Starts holder zero turns = Heads (next_host order holder) turns × Full (shares (next_host order holder)) turns
  Starts holder (suc left) turns = Heads holder turns × Full (suc left) turns

  one_more : (count x : ℕ) (t : Turn) (later : List Turn) → t.host ≡ x → Full count (t ∷ later) → Full (suc count) (record { host = x; commands = t.commands + 1 } ∷ later)
  one_more count x t [] is f = tt
  one_more count x t (u ∷ later) is f = let same = f.0 in (omega (arith, same), f.1 ∙ ap (next_host order) is, f.2)

  joins : (x left : ℕ) (turns : List Turn) → (next_host order x ≡ x → ⊥) → Starts x left turns → Heads x (joined_turn x turns) × Full (suc left) (joined_turn x turns)
  joins x zero [] apart starts = (refl, tt)
  joins x (suc left) [] apart starts = (refl, tt)
  joins x zero (t ∷ later) apart starts = by_same (nat_eq t.host x) refl
    where
      by_same : (b : Bool) → nat_eq t.host x ≡ b → let turns : List Turn = if b then record { host = x; commands = t.commands + 1 } ∷ later else record { host = x; commands = 1 } ∷ t ∷ later in Heads x turns × Full 1 turns
      by_same true e = let same : t.host ≡ x = grind (arith, tests, e) in absurd (apart (sym starts.0 ∙ same))
      by_same false e = (refl, (refl, starts.0, subst (λ n. Full n (t ∷ later)) (ap shares (sym starts.0)) starts.1))
  joins x (suc left) (t ∷ later) apart starts = by_same (nat_eq t.host x) refl
    where
      by_same : (b : Bool) → nat_eq t.host x ≡ b → let turns : List Turn = if b then record { host = x; commands = t.commands + 1 } ∷ later else record { host = x; commands = 1 } ∷ t ∷ later in Heads x turns × Full (suc (suc left)) turns
      by_same true e = (refl, one_more (suc left) x t later starts.0 starts.1)
      by_same false e = let same = starts.0 in absurd (grind (arith, tests, e, same))

  starts_of : (owners : List Owner) (holder left : ℕ) → ((h : ℕ) → next_host order h ≡ h → ⊥) → Follows holder left (map (λ o. o.tag) owners) → Starts holder left (turns_of owners)
  starts_of [] holder zero apart f = (tt, tt)
  starts_of [] holder (suc left) apart f = (tt, tt)
  starts_of (o ∷ later) holder zero apart f =
      let both = joins o.tag (shares o.tag - 1) (turns_of later) (apart o.tag) (starts_of later o.tag (shares o.tag - 1) apart f.2) in
      let some = f.1 in
      let all : suc (shares o.tag - 1) ≡ shares o.tag = omega (arith, some) in
      (subst (λ h. Heads h (turns_of (o ∷ later))) f.0 both.0, subst (λ n. Full n (turns_of (o ∷ later))) (all ∙ ap shares f.0) both.1)
  starts_of (o ∷ later) holder (suc left) apart f =
      let both = joins o.tag left (turns_of later) (apart o.tag) (starts_of later o.tag left apart f.1) in
      (subst (λ h. Heads h (turns_of (o ∷ later))) f.0 both.0, both.1)

  abbrev IsFullAt : List Turn → ℕ → Type 0
  IsFullAt turns i =
      (slice_index (map (λ t. t.commands) turns) i ≡ shares (slice_index (map (λ t. t.host) turns) i))
      × (slice_index (map (λ t. t.host) turns) (suc i) ≡ next_host order (slice_index (map (λ t. t.host) turns) i))

  full_at : (t : Turn) (later : List Turn) (i : ℕ) → Full (shares t.host) (t ∷ later) → suc i < length (t ∷ later) → IsFullAt (t ∷ later) i
  full_at t [] i f low = absurd (omega (arith, low))
  full_at t (u ∷ later) zero f low = (f.0, f.1)
  full_at t (u ∷ later) (suc i) f low = full_at u later i f.2 (omega (arith, low))

  full_behind : (count : ℕ) (turns : List Turn) (i : ℕ) → Full count turns → 0 < i → suc i < length turns → IsFullAt turns i
  full_behind count [] i f some low = absurd (omega (arith, low))
  full_behind count (t ∷ []) i f some low = absurd (omega (arith, low))
  full_behind count (t ∷ u ∷ later) zero f some low = absurd (omega (arith, some))
  full_behind count (t ∷ u ∷ later) (suc i) f some low = full_at u later i f.2 (omega (arith, low))

  pub full_turns : (owners : List Owner) (holder left : ℕ) → ((h : ℕ) → next_host order h ≡ h → ⊥) → Follows holder left (map (λ o. o.tag) owners) →
      (i : ℕ) → 0 < i → suc i < length (turns_of owners) → IsFullAt (turns_of owners) i
  full_turns owners holder zero apart f i some low = full_behind (shares (next_host order holder)) (turns_of owners) i (starts_of owners holder zero apart f).1 some low
  full_turns owners holder (suc left) apart f i some low = full_behind (suc left) (turns_of owners) i (starts_of owners holder (suc left) apart f).1 some low

-- ---- one host alone has one turn

abbrev pub AllAre : ℕ → List ℕ → Type 0
AllAre x [] = ⊤
AllAre x (y ∷ ys) = (y ≡ x) × AllAre x ys

pub all_dropped : (x n : ℕ) (xs : List ℕ) → AllAre x xs → AllAre x (drop n xs)
all_dropped x zero xs all = all
all_dropped x (suc n) [] all = tt
all_dropped x (suc n) (y ∷ ys) all = all_dropped x n ys all.1

pub all_taken : (x n : ℕ) (xs : List ℕ) → AllAre x xs → AllAre x (take n xs)
all_taken x zero xs all = tt
all_taken x (suc n) [] all = tt
all_taken x (suc n) (y ∷ ys) all = (all.0, all_taken x n ys all.1)

pub alone : (x : ℕ) (shares : ℕ → ℕ) (holder left : ℕ) (xs : List ℕ) → holder ≡ x → Follows (x ∷ []) shares holder left xs → AllAre x xs
alone x shares holder left [] is f = tt
alone x shares holder zero (y ∷ ys) is f = (f.0, alone x shares y (shares y - 1) ys f.0 f.2)
alone x shares holder (suc left) (y ∷ ys) is f = (f.0 ∙ is, alone x shares y left ys (f.0 ∙ is) f.1)

abbrev IsOneTurn : ℕ → List Turn → Type 0
IsOneTurn x [] = ⊤
IsOneTurn x (t ∷ []) = t.host ≡ x
IsOneTurn x (t ∷ u ∷ later) = ⊥

joins_one : (x y : ℕ) (turns : List Turn) → y ≡ x → IsOneTurn x turns → IsOneTurn x (joined_turn y turns)
joins_one x y [] is one = is
joins_one x y (t ∷ u ∷ later) is one = absurd one
joins_one x y (t ∷ []) is one = let same : nat_eq t.host y ≡ true = grind (arith, tests, is, one) in rw same is

one_turn : (x : ℕ) (owners : List Owner) → AllAre x (map (λ o. o.tag) owners) → IsOneTurn x (turns_of owners)
one_turn x [] all = tt
one_turn x (o ∷ owners) all = joins_one x o.tag (turns_of owners) all.0 (one_turn x owners all.1)

one_is_short : (x : ℕ) (turns : List Turn) → IsOneTurn x turns → length turns ≤ 1
one_is_short x [] one = omega arith
one_is_short x (t ∷ []) one = omega arith
one_is_short x (t ∷ u ∷ later) one = absurd one

pub few_turns : (x : ℕ) (owners : List Owner) → AllAre x (map (λ o. o.tag) owners) → length (turns_of owners) ≤ 1
few_turns x owners all = one_is_short x (turns_of owners) (one_turn x owners all)
