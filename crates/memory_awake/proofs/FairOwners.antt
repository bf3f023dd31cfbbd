-- First owners of what stands behind an arbiter: one for each command that has an operation.
use Rattle.std.proofs.Common.{ℕ, zero, suc, ◌<◌, ◌≤◌, ◌≡◌, ◌+◌, Bool, true, false, not, ◌&&◌, ◌||◌, List, [], ◌∷◌, ◌++◌, length, map, replicate, nat_eq, if◌then◌else◌, arith, refl, sym, ap, ap₂, subst, ◌∙◌, append_assoc, length-append, tests}
use Rattle.std.specs.List.{list_any}
use Rattle.std.proofs.lemmas.Bool.{and_parts, both_ways}
use Rattle.histories.specs.History.{one_if}
use Rattle.memory_runs.specs.Operations.{Operation}
use Rattle.memory_runs.specs.Order.{Owner, is_same_owner}
use Rattle.memory_runs.specs.Awake.{first_owners}
use Rattle.memory_machines.specs.Link.{is_nonempty}
use Rattle.memory_machines.specs.Lines.{Group}
use Rattle.memory_machines.specs.Begun.{is_ended, turn_after, acts_after, owners_of_groups, groups_whole, by_turn}

-- ---- lists

abbrev pub Every : {A : Type 0} → (A → Type 0) → List A → Type 0
Every {A} P [] = Unit {0}
Every {A} P (x ∷ xs) = P x × Every P xs

-- whom `first_owners` has seen at the end of a list
abbrev pub seen_after : List Owner → List Owner → List Owner
seen_after seen [] = seen
seen_after seen (o ∷ later) = if list_any (is_same_owner o) seen then seen_after seen later else seen_after (o ∷ seen) later

pub first_append : (seen xs ys : List Owner) → first_owners seen (xs ++ ys) ≡ first_owners seen xs ++ first_owners (seen_after seen xs) ys
first_append seen [] ys = refl
first_append seen (o ∷ xs) ys = by_seen (list_any (is_same_owner o) seen) (first_append seen xs ys) (first_append (o ∷ seen) xs ys)
  where
    by_seen : (b : Bool) → first_owners seen (xs ++ ys) ≡ first_owners seen xs ++ first_owners (seen_after seen xs) ys →
        first_owners (o ∷ seen) (xs ++ ys) ≡ first_owners (o ∷ seen) xs ++ first_owners (seen_after (o ∷ seen) xs) ys →
        (if b then first_owners seen (xs ++ ys) else o ∷ first_owners (o ∷ seen) (xs ++ ys))
        ≡ (if b then first_owners seen xs else o ∷ first_owners (o ∷ seen) xs) ++ first_owners (if b then seen_after seen xs else seen_after (o ∷ seen) xs) ys
    by_seen true old fresh = old
    by_seen false old fresh = ap (λ l. o ∷ l) fresh

pub seen_append : (seen xs ys : List Owner) → seen_after seen (xs ++ ys) ≡ seen_after (seen_after seen xs) ys
seen_append seen [] ys = refl
seen_append seen (o ∷ xs) ys = by_seen (list_any (is_same_owner o) seen) (seen_append seen xs ys) (seen_append (o ∷ seen) xs ys)
  where
    by_seen : (b : Bool) → seen_after seen (xs ++ ys) ≡ seen_after (seen_after seen xs) ys → seen_after (o ∷ seen) (xs ++ ys) ≡ seen_after (seen_after (o ∷ seen) xs) ys →
        (if b then seen_after seen (xs ++ ys) else seen_after (o ∷ seen) (xs ++ ys)) ≡ seen_after (if b then seen_after seen xs else seen_after (o ∷ seen) xs) ys
    by_seen true old fresh = old
    by_seen false old fresh = fresh

-- ---- by other numbers of the commands

module _ (f : ℕ → ℕ → ℕ) (P : Owner → Type 0) (tells : (o p : Owner) → P o → P p → is_same_owner (by_turn f o) (by_turn f p) ≡ is_same_owner o p) where
  any_same : (o : Owner) (seen : List Owner) → P o → Every P seen → list_any (is_same_owner (by_turn f o)) (map (by_turn f) seen) ≡ list_any (is_same_owner o) seen
  any_same o [] own all = refl
  any_same o (s ∷ seen) own all = ap₂ (λ a b. a || b) (tells o s own all.0) (any_same o seen own all.1)

  pub same_firsts : (seen xs : List Owner) → Every P seen → Every P xs → map (by_turn f) (first_owners seen xs) ≡ first_owners (map (by_turn f) seen) (map (by_turn f) xs)
  same_firsts seen [] known all = refl
  same_firsts seen (o ∷ xs) known all =
      by_seen (list_any (is_same_owner o) seen) (list_any (is_same_owner (by_turn f o)) (map (by_turn f) seen)) (sym (any_same o seen all.0 known)) (same_firsts seen xs known all.1) (same_firsts (o ∷ seen) xs (all.0, known) all.1)
    where
      by_seen : (a b : Bool) → a ≡ b → map (by_turn f) (first_owners seen xs) ≡ first_owners (map (by_turn f) seen) (map (by_turn f) xs) →
          map (by_turn f) (first_owners (o ∷ seen) xs) ≡ first_owners (by_turn f o ∷ map (by_turn f) seen) (map (by_turn f) xs) →
          map (by_turn f) (if a then first_owners seen xs else o ∷ first_owners (o ∷ seen) xs)
          ≡ (if b then first_owners (map (by_turn f) seen) (map (by_turn f) xs) else by_turn f o ∷ first_owners (by_turn f o ∷ map (by_turn f) seen) (map (by_turn f) xs))
      by_seen true true e old fresh = old
      by_seen true false e old fresh = absurd cc
      by_seen false true e old fresh = absurd cc
      by_seen false false e old fresh = ap (λ l. by_turn f o ∷ l) fresh

-- ---- groups

abbrev pub turns_after : (ℕ → ℕ) → (ℕ → Bool) → List Group → ℕ → ℕ
turns_after turn acted [] = turn
turns_after turn acted (g ∷ later) = turns_after (turn_after turn acted g) (acts_after acted g) later

abbrev pub acted_after : (ℕ → Bool) → List Group → ℕ → Bool
acted_after acted [] = acted
acted_after acted (g ∷ later) = acted_after (acts_after acted g) later

pub owners_append : (turn : ℕ → ℕ) (acted : ℕ → Bool) (xs ys : List Group) →
    owners_of_groups turn acted (xs ++ ys) ≡ owners_of_groups turn acted xs ++ owners_of_groups (turns_after turn acted xs) (acted_after acted xs) ys
owners_append turn acted [] ys = refl
owners_append turn acted (g ∷ xs) ys =
    let mine = replicate (length g.operations) (owner g.tag (turn g.tag)) in
    ap (λ l. mine ++ l) (owners_append (turn_after turn acted g) (acts_after acted g) xs ys)
    ∙ sym (append_assoc mine (owners_of_groups (turn_after turn acted g) (acts_after acted g) xs) (owners_of_groups (turns_after turn acted (g ∷ xs)) (acted_after acted (g ∷ xs)) ys))
  where
    owner : ℕ → ℕ → Owner
    owner tag command = record { tag = tag; command = command }

pub self_same : (o : Owner) → is_same_owner o o ≡ true
self_same o = grind (arith, tests)

-- one command's operations, whose owner was seen before, or wasn't
pub seen_copies : (seen : List Owner) (n : ℕ) (o : Owner) (rest : List Owner) → list_any (is_same_owner o) seen ≡ true →
    (first_owners seen (replicate n o ++ rest) ≡ first_owners seen rest) × (seen_after seen (replicate n o) ≡ seen)
seen_copies seen zero o rest e = (refl, refl)
seen_copies seen (suc n) o rest e = let more = seen_copies seen n o rest e in (rw e more.0, rw e more.1)

pub new_copies : (seen : List Owner) (n : ℕ) (o : Owner) (rest : List Owner) → list_any (is_same_owner o) seen ≡ false →
    (first_owners seen (replicate (suc n) o ++ rest) ≡ o ∷ first_owners (o ∷ seen) rest) × (seen_after seen (replicate (suc n) o) ≡ o ∷ seen)
new_copies seen n o rest e =
    let more = seen_copies (o ∷ seen) n o rest (let same = self_same o in rw same refl) in
    (rw e (ap (λ l. o ∷ l) more.0), rw e more.1)

-- no more first owners than groups
pub few_firsts : (seen : List Owner) (turn : ℕ → ℕ) (acted : ℕ → Bool) (groups : List Group) → length (first_owners seen (owners_of_groups turn acted groups)) ≤ length groups
few_firsts seen turn acted [] = omega arith
few_firsts seen turn acted (g ∷ later) = by_size (λ s. few_firsts s (turn_after turn acted g) (acts_after acted g) later) (length g.operations) (list_any (is_same_owner o) seen) refl
  where
    o : Owner
    o = record { tag = g.tag; command = turn g.tag }

    rest : List Owner
    rest = owners_of_groups (turn_after turn acted g) (acts_after acted g) later

    by_size : ((s : List Owner) → length (first_owners s rest) ≤ length later) → (n : ℕ) (b : Bool) → list_any (is_same_owner o) seen ≡ b → length (first_owners seen (replicate n o ++ rest)) ≤ suc (length later)
    by_size few zero b e = let more = few seen in omega (arith, more)
    by_size few (suc n) true e =
        let more = few seen in
        let same = ap length (seen_copies seen (suc n) o rest e).0 in omega (arith, more, same)
    by_size few (suc n) false e =
        let more = few (o ∷ seen) in
        let same = ap length (new_copies seen n o rest e).0 in omega (arith, more, same)

-- a command that was seen is over, or is the one under way of its tag
abbrev pub IsPast : (ℕ → ℕ) → (ℕ → Bool) → Owner → Type 0
IsPast turn acted o = o.command < turn o.tag + one_if (acted o.tag)

past_on : (turn : ℕ → ℕ) (acted : ℕ → Bool) (g : Group) (o : Owner) → IsPast turn acted o → IsPast (turn_after turn acted g) (acts_after acted g) o
past_on turn acted g o past = by_tag (nat_eq o.tag g.tag) refl
  where
    by_close : (c a : Bool) (n : Bool) → o.command < turn o.tag + one_if a → o.command < (if c && (a || n) then suc (turn o.tag) else turn o.tag) + one_if (not c && (a || n))
    by_close true true n past = omega (arith, past)
    by_close true false true past = omega (arith, past)
    by_close true false false past = omega (arith, past)
    by_close false true n past = omega (arith, past)
    by_close false false true past = omega (arith, past)
    by_close false false false past = omega (arith, past)

    by_tag : (b : Bool) → nat_eq o.tag g.tag ≡ b →
        o.command < (if b && is_ended acted g then suc (turn o.tag) else turn o.tag) + one_if (if b then not g.closes && (acted o.tag || is_nonempty g.operations) else acted o.tag)
    by_tag false e = past
    by_tag true e =
        let same : g.tag ≡ o.tag = grind (arith, tests, e) in
        subst (λ h. o.command < (if g.closes && (acted h || is_nonempty g.operations) then suc (turn o.tag) else turn o.tag) + one_if (not g.closes && (acted o.tag || is_nonempty g.operations))) (sym same)
        (by_close g.closes (acted o.tag) (is_nonempty g.operations) past)

all_past_on : (turn : ℕ → ℕ) (acted : ℕ → Bool) (g : Group) (seen : List Owner) → Every (IsPast turn acted) seen → Every (IsPast (turn_after turn acted g) (acts_after acted g)) seen
all_past_on turn acted g [] all = tt
all_past_on turn acted g (o ∷ seen) all = (past_on turn acted g o all.0, all_past_on turn acted g seen all.1)

some_there : {A : Type 0} (n : ℕ) (xs : List A) → suc n ≡ length xs → is_nonempty xs ≡ true
some_there {A} n [] e = absurd (omega (arith, e))
some_there {A} n (x ∷ xs) e = refl

-- whom a group adds is past after it
own_past : (turn : ℕ → ℕ) (acted : ℕ → Bool) (g : Group) (n : ℕ) → suc n ≡ length g.operations → IsPast (turn_after turn acted g) (acts_after acted g) (record { tag = g.tag; command = turn g.tag })
own_past turn acted g n e =
    let same : nat_eq g.tag g.tag ≡ true = grind (arith, tests) in
    let acts = some_there n g.operations e in
    rw (same, acts) (by_close g.closes (acted g.tag))
  where
    by_close : (c a : Bool) → turn g.tag < (if c && (a || true) then suc (turn g.tag) else turn g.tag) + one_if (not c && (a || true))
    by_close true true = omega arith
    by_close true false = omega arith
    by_close false true = omega arith
    by_close false false = omega arith

pub all_past : (turn : ℕ → ℕ) (acted : ℕ → Bool) (groups : List Group) (seen : List Owner) → Every (IsPast turn acted) seen →
    Every (IsPast (turns_after turn acted groups) (acted_after acted groups)) (seen_after seen (owners_of_groups turn acted groups))
all_past turn acted [] seen all = all
all_past turn acted (g ∷ later) seen all =
    subst (Every (IsPast (turns_after turn acted (g ∷ later)) (acted_after acted (g ∷ later)))) (sym (seen_append seen (replicate (length g.operations) o) rest))
    (all_past (turn_after turn acted g) (acts_after acted g) later (seen_after seen (replicate (length g.operations) o)) (by_size (length g.operations) refl (list_any (is_same_owner o) seen) refl))
  where
    o : Owner
    o = record { tag = g.tag; command = turn g.tag }

    rest : List Owner
    rest = owners_of_groups (turn_after turn acted g) (acts_after acted g) later

    before : Every (IsPast (turn_after turn acted g) (acts_after acted g)) seen
    before = all_past_on turn acted g seen all

    by_size : (n : ℕ) → n ≡ length g.operations → (b : Bool) → list_any (is_same_owner o) seen ≡ b → Every (IsPast (turn_after turn acted g) (acts_after acted g)) (seen_after seen (replicate n o))
    by_size zero e b s = before
    by_size (suc n) e true s = subst (Every (IsPast (turn_after turn acted g) (acts_after acted g))) (sym (seen_copies seen (suc n) o [] s).1) before
    by_size (suc n) e false s = subst (Every (IsPast (turn_after turn acted g) (acts_after acted g))) (sym (new_copies seen n o [] s).1) (own_past turn acted g n e, before)

-- ---- after a group that closes no command is under way

abbrev begins_with : ℕ → List Group → Bool
begins_with h [] = false
begins_with h (g ∷ later) = nat_eq h g.tag

pub none_under_way : (acted : ℕ → Bool) (groups : List Group) (g : Group) → g.closes ≡ true → groups_whole (groups ++ g ∷ []) ≡ true →
    ((h : ℕ) → acted h ≡ true → begins_with h (groups ++ g ∷ []) ≡ true) → (h : ℕ) → acted_after acted (groups ++ g ∷ []) h ≡ false
none_under_way acted [] g closes whole only h = by_tag (nat_eq h g.tag) refl (acted h) refl
  where
    by_tag : (b : Bool) → nat_eq h g.tag ≡ b → (a : Bool) → acted h ≡ a → (if b then not g.closes && (a || is_nonempty g.operations) else a) ≡ false
    by_tag true e a f = rw closes refl
    by_tag false e true f = absurd (both_ways (nat_eq h g.tag) e (only h f))
    by_tag false e false f = refl
none_under_way acted (x ∷ groups) g closes whole only h =
    none_under_way (acts_after acted x) groups g closes (tail_whole (groups ++ g ∷ []) whole) (λ k now. goes_on k (nat_eq k x.tag) refl x.closes refl (groups ++ g ∷ []) some whole now) h
  where
    tail_whole : (l : List Group) → groups_whole (x ∷ l) ≡ true → groups_whole l ≡ true
    tail_whole [] w = refl
    tail_whole (y ∷ l) w = (and_parts (x.closes || nat_eq x.tag y.tag) (groups_whole (y ∷ l)) w).1

    some : 0 < length (groups ++ g ∷ [])
    some = let long = length-append groups (g ∷ []) in omega (arith, long)

    goes_on : (k : ℕ) (b : Bool) → nat_eq k x.tag ≡ b → (c : Bool) → x.closes ≡ c → (l : List Group) → 0 < length l → groups_whole (x ∷ l) ≡ true →
        (if nat_eq k x.tag then not x.closes && (acted k || is_nonempty x.operations) else acted k) ≡ true → begins_with k l ≡ true
    goes_on k false e c f l some w now = absurd (both_ways (nat_eq k x.tag) e (only k (subst (λ b. (if b then not x.closes && (acted k || is_nonempty x.operations) else acted k) ≡ true) e now)))
    goes_on k true e true f l some w now =
        let bad : (if true then not true && (acted k || is_nonempty x.operations) else acted k) ≡ true = subst (λ c. (if true then not c && (acted k || is_nonempty x.operations) else acted k) ≡ true) f (subst (λ b. (if b then not x.closes && (acted k || is_nonempty x.operations) else acted k) ≡ true) e now) in
        absurd cc
    goes_on k true e false f [] some w now = absurd (omega (arith, some))
    goes_on k true e false f (y ∷ l) some w now =
        let next = (and_parts (x.closes || nat_eq x.tag y.tag) (groups_whole (y ∷ l)) w).0 in
        let same : nat_eq x.tag y.tag ≡ true = subst (λ c. (c || nat_eq x.tag y.tag) ≡ true) f next in
        grind (arith, tests, e, same)

-- ---- commands of one group each

-- a group with an operation that ends its command
pub record IsWholeCommand (g : Group) : Type 0 where
  pub closes : g.closes ≡ true
  pub acts : is_nonempty g.operations ≡ true

not_seen : (turn : ℕ → ℕ) (tag : ℕ) (seen : List Owner) → Every (λ o. o.command < turn o.tag) seen → list_any (is_same_owner (record { tag = tag; command = turn tag })) seen ≡ false
not_seen turn tag [] all = refl
not_seen turn tag (o ∷ seen) all = by_same (nat_eq tag o.tag) refl all.0 (not_seen turn tag seen all.1)
  where
    by_same : (b : Bool) → nat_eq tag o.tag ≡ b → o.command < turn o.tag → list_any (is_same_owner (record { tag = tag; command = turn tag })) seen ≡ false →
        ((b && nat_eq (turn tag) o.command) || list_any (is_same_owner (record { tag = tag; command = turn tag })) seen) ≡ false
    by_same false e less more = more
    by_same true e less more =
        let same : tag ≡ o.tag = grind (arith, tests, e) in
        let other : nat_eq (turn tag) o.command ≡ false = let low : o.command < turn tag = subst (λ h. o.command < turn h) (sym same) less in grind (arith, tests, low) in
        rw other more

grown : (turn : ℕ → ℕ) (acted : ℕ → Bool) (g : Group) (h : ℕ) → turn h ≤ turn_after turn acted g h
grown turn acted g h = by_test (nat_eq h g.tag && is_ended acted g)
  where
    by_test : (b : Bool) → turn h ≤ (if b then suc (turn h) else turn h)
    by_test true = omega arith
    by_test false = omega arith

all_grown : (turn : ℕ → ℕ) (acted : ℕ → Bool) (g : Group) (seen : List Owner) → Every (λ o. o.command < turn o.tag) seen → Every (λ o. o.command < turn_after turn acted g o.tag) seen
all_grown turn acted g [] all = tt
all_grown turn acted g (o ∷ seen) all = ((let more = grown turn acted g o.tag in let less = all.0 in omega (arith, more, less)), all_grown turn acted g seen all.1)

pub each_first : (turn : ℕ → ℕ) (acted : ℕ → Bool) (groups : List Group) (seen : List Owner) → Every (λ o. o.command < turn o.tag) seen → Every IsWholeCommand groups →
    map (λ (o : Owner). o.tag) (first_owners seen (owners_of_groups turn acted groups)) ≡ map (λ (g : Group). g.tag) groups
each_first turn acted [] seen past all = refl
each_first turn acted (g ∷ later) seen past all = by_operations (each_first (turn_after turn acted g) (acts_after acted g) later (o ∷ seen) (now, all_grown turn acted g seen past) all.1) g.operations all.0.acts
  where
    o : Owner
    o = record { tag = g.tag; command = turn g.tag }

    rest : List Owner
    rest = owners_of_groups (turn_after turn acted g) (acts_after acted g) later

    or_true : (b : Bool) → (b || true) ≡ true
    or_true true = refl
    or_true false = refl

    now : o.command < turn_after turn acted g o.tag
    now =
        let same : nat_eq g.tag g.tag ≡ true = grind (arith, tests) in
        let closes = all.0.closes in
        let acts = all.0.acts in
        rw (same, closes, acts, or_true (acted g.tag)) (omega arith)

    by_operations : map (λ (o : Owner). o.tag) (first_owners (o ∷ seen) rest) ≡ map (λ (g : Group). g.tag) later → (operations : List Operation) → is_nonempty operations ≡ true → map (λ (o : Owner). o.tag) (first_owners seen (replicate (length operations) o ++ rest)) ≡ g.tag ∷ map (λ (g : Group). g.tag) later
    by_operations more [] none = absurd cc
    by_operations more (x ∷ operations) some =
        ap (map (λ (o : Owner). o.tag)) (new_copies seen (length operations) o rest (not_seen turn g.tag seen past)).0
        ∙ ap (λ l. g.tag ∷ l) more
