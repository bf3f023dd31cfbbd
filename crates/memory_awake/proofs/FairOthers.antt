-- No more commands of other hosts begin at an agent than end behind its arbiter, and one.
use Rattle.std.proofs.Common.{ℕ, zero, suc, ◌≤◌, ◌≡◌, ◌+◌, Bool, true, false, not, ◌&&◌, ◌||◌, List, [], ◌∷◌, ◌++◌, length, map, replicate, nat_eq, if◌then◌else◌, arith, refl, sym, ap, ap₂, subst, ◌∙◌, tests}
use Rattle.std.specs.Prelude.{filter}
use Rattle.std.specs.List.{list_any}
use Rattle.std.proofs.lemmas.Bool.{and_parts}
use Rattle.histories.specs.History.{one_if}
use Rattle.memory_runs.specs.Order.{Owner, is_same_owner}
use Rattle.memory_runs.specs.Awake.{first_owners}
use Rattle.memory_machines.specs.Lines.{Group}
use Rattle.memory_machines.specs.Begun.{turn_after, acts_after, owners_of_groups, groups_whole}
use Rattle.memory_awake.proofs.FairOwners.{seen_copies, new_copies, self_same, seen_after, turns_after, acted_after}
use Rattle.memory_awake.proofs.FairSkips.{firsts, firsts_split}

-- how many of these are of other hosts
abbrev pub others : ℕ → List Owner → ℕ
others host owners = length (filter (λ (o : Owner). not (nat_eq o.tag host)) owners)

abbrev pub others_among : ℕ → List ℕ → ℕ
others_among host tags = length (filter (λ tag. not (nat_eq tag host)) tags)

pub others_by_tags : (host : ℕ) (owners : List Owner) → others host owners ≡ others_among host (map (λ (o : Owner). o.tag) owners)
others_by_tags host [] = refl
others_by_tags host (o ∷ owners) = by_other (not (nat_eq o.tag host)) (others_by_tags host owners)
  where
    by_other : (b : Bool) → others host owners ≡ others_among host (map (λ (o : Owner). o.tag) owners) →
        length (if b then o ∷ filter (λ (o : Owner). not (nat_eq o.tag host)) owners else filter (λ (o : Owner). not (nat_eq o.tag host)) owners)
        ≡ length (if b then o.tag ∷ filter (λ tag. not (nat_eq tag host)) (map (λ (o : Owner). o.tag) owners) else filter (λ tag. not (nat_eq tag host)) (map (λ (o : Owner). o.tag) owners))
    by_other true more = ap suc more
    by_other false more = more

pub others_append : (host : ℕ) (xs ys : List Owner) → others host (xs ++ ys) ≡ others host xs + others host ys
others_append host [] ys = omega arith
others_append host (o ∷ xs) ys = by_other (not (nat_eq o.tag host)) (others_append host xs ys)
  where
    by_other : (b : Bool) → others host (xs ++ ys) ≡ others host xs + others host ys →
        length (if b then o ∷ filter (λ (o : Owner). not (nat_eq o.tag host)) (xs ++ ys) else filter (λ (o : Owner). not (nat_eq o.tag host)) (xs ++ ys))
        ≡ length (if b then o ∷ filter (λ (o : Owner). not (nat_eq o.tag host)) xs else filter (λ (o : Owner). not (nat_eq o.tag host)) xs) + others host ys
    by_other true more = omega (arith, more)
    by_other false more = more

one_other : (host : ℕ) (o : Owner) (owners : List Owner) → others host (o ∷ owners) ≡ one_if (not (nat_eq o.tag host)) + others host owners
one_other host o owners = by_other (not (nat_eq o.tag host))
  where
    by_other : (b : Bool) → length (if b then o ∷ filter (λ (o : Owner). not (nat_eq o.tag host)) owners else filter (λ (o : Owner). not (nat_eq o.tag host)) owners) ≡ one_if b + others host owners
    by_other true = omega arith
    by_other false = omega arith

-- how many groups of others end their command
abbrev pub endings : ℕ → List Group → ℕ
endings host [] = 0
endings host (g ∷ later) = one_if (g.closes && not (nat_eq g.tag host)) + endings host later

pub endings_append : (host : ℕ) (xs ys : List Group) → endings host (xs ++ ys) ≡ endings host xs + endings host ys
endings_append host [] ys = omega arith
endings_append host (g ∷ xs) ys = let more = endings_append host xs ys in omega (arith, more)

pub few_endings : (host : ℕ) (groups : List Group) → endings host groups ≤ length groups
few_endings host [] = omega arith
few_endings host (g ∷ later) = let more = few_endings host later in let one = by_end (g.closes && not (nat_eq g.tag host)) in omega (arith, more, one)
  where
    by_end : (b : Bool) → one_if b ≤ 1
    by_end true = omega arith
    by_end false = omega arith

-- the owner of the next operation of a list's first group
abbrev next_owner : (ℕ → ℕ) → Group → Owner
next_owner turn g = record { tag = g.tag; command = turn g.tag }

abbrev IsOpenOther : ℕ → (ℕ → ℕ) → List Owner → List Group → Type 0
IsOpenOther host turn seen [] = Unit {0}
IsOpenOther host turn seen (g ∷ later) = (nat_eq g.tag host ≡ false) × (list_any (is_same_owner (next_owner turn g)) seen ≡ true)

-- so many at most, and one fewer where the first of them was seen before
record FewAs (count ends : ℕ) (Known : Type 0) : Type 0 where
  all : count ≤ suc ends
  open_one : Known → count ≤ ends

abbrev FewOthers : ℕ → (ℕ → ℕ) → (ℕ → Bool) → List Owner → List Group → Type 0
FewOthers host turn acted seen groups = FewAs (others host (first_owners seen (owners_of_groups turn acted groups))) (endings host groups) (IsOpenOther host turn seen groups)

few_others : (host : ℕ) (groups : List Group) (turn : ℕ → ℕ) (acted : ℕ → Bool) (seen : List Owner) → groups_whole groups ≡ true → FewOthers host turn acted seen groups
few_others host [] turn acted seen whole = record { all = omega arith; open_one = λ _. omega arith }
few_others host (g ∷ later) turn acted seen whole =
    by_size (λ s. few_others host later (turn_after turn acted g) (acts_after acted g) s (tail_whole later whole)) (length g.operations) (list_any (is_same_owner o) seen) refl
  where
    o : Owner
    o = next_owner turn g

    rest : List Owner
    rest = owners_of_groups (turn_after turn acted g) (acts_after acted g) later

    tail_whole : (l : List Group) → groups_whole (g ∷ l) ≡ true → groups_whole l ≡ true
    tail_whole [] w = refl
    tail_whole (y ∷ l) w = (and_parts (g.closes || nat_eq g.tag y.tag) (groups_whole (y ∷ l)) w).1

    -- a command that goes on goes on in the next group
    goes_on : g.closes ≡ false → nat_eq g.tag host ≡ false → (l : List Group) → groups_whole (g ∷ l) ≡ true → (s : List Owner) → list_any (is_same_owner o) s ≡ true → IsOpenOther host (turn_after turn acted g) s l
    goes_on closes other [] w s seen = tt
    goes_on closes other (y ∷ l) w s seen =
        let next = (and_parts (g.closes || nat_eq g.tag y.tag) (groups_whole (y ∷ l)) w).0 in
        let tag : nat_eq g.tag y.tag ≡ true = subst (λ c. (c || nat_eq g.tag y.tag) ≡ true) closes next in
        let same : g.tag ≡ y.tag = grind (arith, tests, tag) in
        let turns : turn_after turn acted g g.tag ≡ turn g.tag = let it : nat_eq g.tag g.tag ≡ true = grind (arith, tests) in rw (it, closes) refl in
        let owner : o ≡ next_owner (turn_after turn acted g) y = ap₂ (λ (a b : ℕ). record { tag = a; command = b }) same (sym turns ∙ ap (turn_after turn acted g) same) in
        (subst (λ t. nat_eq t host ≡ false) same other, subst (λ x. list_any (is_same_owner x) s ≡ true) owner seen)

    more : List Owner → ℕ
    more s = others host (first_owners s rest)

    known : (c h : Bool) → g.closes ≡ c → nat_eq g.tag host ≡ h → (s : List Owner) → list_any (is_same_owner o) s ≡ true → FewOthers host (turn_after turn acted g) (acts_after acted g) s later →
        h ≡ false → more s ≤ one_if (c && not h) + endings host later
    known true true ec eh s is go e = absurd cc
    known false true ec eh s is go e = absurd cc
    known true false ec eh s is go e = let few = go.all in omega (arith, few)
    known false false ec eh s is go e = let few = go.open_one (goes_on ec eh later whole s is) in omega (arith, few)

    new_one : (c h : Bool) → g.closes ≡ c → nat_eq g.tag host ≡ h → FewOthers host (turn_after turn acted g) (acts_after acted g) (o ∷ seen) later →
        one_if (not h) + more (o ∷ seen) ≤ suc (one_if (c && not h) + endings host later)
    new_one c true ec eh go = let few = go.all in let low = none_added c in omega (arith, few, low)
      where
        none_added : (c : Bool) → endings host later ≤ one_if (c && false) + endings host later
        none_added true = omega arith
        none_added false = omega arith
    new_one c false ec eh go = let few = known c false ec eh (o ∷ seen) (let same = self_same o in rw same refl) go refl in omega (arith, few)

    by_size : ((s : List Owner) → FewOthers host (turn_after turn acted g) (acts_after acted g) s later) → (n : ℕ) (b : Bool) → list_any (is_same_owner o) seen ≡ b →
        FewAs (others host (first_owners seen (replicate n o ++ rest))) (one_if (g.closes && not (nat_eq g.tag host)) + endings host later) ((nat_eq g.tag host ≡ false) × (list_any (is_same_owner o) seen ≡ true))
    by_size go zero b e = record {
      all = let few = (go seen).all in omega (arith, few);
      open_one = λ x. known g.closes (nat_eq g.tag host) refl refl seen x.1 (go seen) x.0;
    }
    by_size go (suc n) true e = record {
      all = let few = (go seen).all in let same = ap (others host) (seen_copies seen (suc n) o rest e).0 in omega (arith, few, same);
      open_one = λ x. let few = known g.closes (nat_eq g.tag host) refl refl seen x.1 (go seen) x.0 in let same = ap (others host) (seen_copies seen (suc n) o rest e).0 in omega (arith, few, same);
    }
    by_size go (suc n) false e = record {
      all =
          let few = new_one g.closes (nat_eq g.tag host) refl refl (go (o ∷ seen)) in
          let same = ap (others host) (new_copies seen n o rest e).0 ∙ one_other host o (first_owners (o ∷ seen) rest) in
          omega (arith, few, same);
      open_one = λ x. let bad : true ≡ false = sym x.1 ∙ e in absurd cc;
    }

-- after a front, more groups begin few commands of other hosts
pub few_more : (host : ℕ) (front more : List Group) → groups_whole (front ++ more) ≡ true → others host (firsts (front ++ more)) ≤ others host (firsts front) + suc (endings host more)
few_more host front more whole =
    let few = (few_others host more (turns_after (λ _. 0) (λ _. false) front) (acted_after (λ _. false) front) (seen_after [] (owners_of_groups (λ _. 0) (λ _. false) front)) (rest_whole front more whole)).all in
    let split = ap (others host) (firsts_split front more) ∙ others_append host (firsts front) _ in
    omega (arith, few, split)
  where
    rest_whole : (xs ys : List Group) → groups_whole (xs ++ ys) ≡ true → groups_whole ys ≡ true
    rest_whole [] ys w = w
    rest_whole (x ∷ []) [] w = refl
    rest_whole (x ∷ []) (y ∷ ys) w = (and_parts (x.closes || nat_eq x.tag y.tag) (groups_whole (y ∷ ys)) w).1
    rest_whole (x ∷ z ∷ xs) ys w = rest_whole (z ∷ xs) ys (and_parts (x.closes || nat_eq x.tag z.tag) (groups_whole (z ∷ xs ++ ys)) w).1
