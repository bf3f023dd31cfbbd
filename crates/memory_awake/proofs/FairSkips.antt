-- Past the first few commands that begin at an agent, each is one of those whose beats were taken behind its arbiter in the window.
use Rattle.std.proofs.Common.{ℕ, zero, suc, ◌<◌, ◌≤◌, ◌≡◌, ◌+◌, ◌-◌, Bool, true, false, List, [], ◌∷◌, ◌++◌, length, map, take, drop, if◌then◌else◌, arith, refl, sym, ap, subst, ◌∙◌, append_assoc, length-append, length-drop}
use Rattle.std.proofs.lemmas.List.{map-append, drop-map, take-map, drop_all, take-append-drop, take-append-le, length-map}
use Rattle.std.proofs.Math.Seq.{take-length}
use Rattle.memory_runs.specs.Order.{Owner}
use Rattle.memory_runs.specs.Awake.{first_owners}
use Rattle.memory_machines.specs.Lines.{Group}
use Rattle.memory_machines.specs.Begun.{owners_of_groups, groups_whole}
use Rattle.memory_awake.proofs.Beats.{drop_past}
use Rattle.memory_awake.proofs.FairAgent.{front_whole}
use Rattle.memory_awake.proofs.FairOwners.{Every, IsPast, IsWholeCommand, seen_after, turns_after, acted_after, first_append, owners_append, few_firsts, all_past, none_under_way, each_first}

-- the first owners of groups
abbrev pub firsts : List Group → List Owner
firsts groups = first_owners [] (owners_of_groups (λ _. 0) (λ _. false) groups)

-- and those of more groups after them
abbrev more_firsts : List Group → List Group → List Owner
more_firsts front groups =
    first_owners (seen_after [] (owners_of_groups (λ _. 0) (λ _. false) front)) (owners_of_groups (turns_after (λ _. 0) (λ _. false) front) (acted_after (λ _. false) front) groups)

pub firsts_split : (xs ys : List Group) → firsts (xs ++ ys) ≡ firsts xs ++ more_firsts xs ys
firsts_split xs ys = ap (first_owners []) (owners_append (λ _. 0) (λ _. false) xs ys) ∙ first_append [] (owners_of_groups (λ _. 0) (λ _. false) xs) (owners_of_groups (turns_after (λ _. 0) (λ _. false) xs) (acted_after (λ _. false) xs) ys)

abbrev tags_of : List Owner → List ℕ
tags_of owners = map (λ (o : Owner). o.tag) owners

abbrev tags_in : List Group → List ℕ
tags_in groups = map (λ (g : Group). g.tag) groups

all_below : (turn : ℕ → ℕ) (acted : ℕ → Bool) (seen : List Owner) → ((h : ℕ) → acted h ≡ false) → Every (IsPast turn acted) seen → Every (λ o. o.command < turn o.tag) seen
all_below turn acted [] none all = tt
all_below turn acted (o ∷ seen) none all = ((let past = subst (λ b. o.command < turn o.tag + (if b then 1 else 0)) (none o.tag) all.0 in omega (arith, past)), all_below turn acted seen none all.1)

-- where a front ends with a group that closes, each whole command after it is one more
after_close : (front : List Group) (g : Group) (later : List Group) → groups_whole (front ++ g ∷ []) ≡ true → g.closes ≡ true → Every IsWholeCommand later →
    tags_of (more_firsts (front ++ g ∷ []) later) ≡ tags_in later
after_close front g later whole closes all =
    let none = none_under_way (λ _. false) front g closes whole (λ h e. absurd cc) in
    each_first (turns_after (λ _. 0) (λ _. false) (front ++ g ∷ [])) (acted_after (λ _. false) (front ++ g ∷ [])) later (seen_after [] (owners_of_groups (λ _. 0) (λ _. false) (front ++ g ∷ [])))
    (all_below (turns_after (λ _. 0) (λ _. false) (front ++ g ∷ [])) (acted_after (λ _. false) (front ++ g ∷ [])) (seen_after [] (owners_of_groups (λ _. 0) (λ _. false) (front ++ g ∷ []))) none
    (all_past (λ _. 0) (λ _. false) (front ++ g ∷ []) [] tt)) all

drop_more : {A : Type 0} (n k : ℕ) (xs : List A) → drop (n + k) xs ≡ drop k (drop n xs)
drop_more {A} zero k xs = let same : zero + k ≡ k = omega arith in ap (λ m. drop m xs) same
drop_more {A} (suc n) k [] = let none : List A = [] in drop_all (suc n + k) none (omega arith) ∙ sym (drop_all k none (omega arith))
drop_more {A} (suc n) k (x ∷ xs) = let same : suc n + k ≡ suc (n + k) = omega arith in ap (λ m. drop m (x ∷ xs)) same ∙ drop_more n k xs

take_few : {A : Type 0} (n : ℕ) (xs : List A) → length (take n xs) ≤ n
take_few {A} zero xs = omega arith
take_few {A} (suc n) [] = omega arith
take_few {A} (suc n) (x ∷ xs) = let more = take_few n xs in omega (arith, more)

-- a front without its first few is the front of the rest
cut : {A : Type 0} (n : ℕ) (xs ys : List A) → drop n xs ≡ take (length xs - n) (drop n (xs ++ ys))
cut {A} zero xs ys = let same : length xs - zero ≡ length xs = omega arith in sym (ap (λ m. take m (xs ++ ys)) same ∙ take-append-le (length xs) xs ys (omega arith) ∙ take-length xs)
cut {A} (suc n) [] ys = let none : zero ≡ zero - suc n = omega arith in ap (λ m. take m (drop (suc n) ys)) none
cut {A} (suc n) (x ∷ xs) ys = let same : length xs - n ≡ suc (length xs) - suc n = omega arith in cut n xs ys ∙ ap (λ m. take m (drop n (xs ++ ys))) same

each_in_front : (xs ys : List Group) → Every IsWholeCommand (xs ++ ys) → Every IsWholeCommand xs
each_in_front [] ys all = tt
each_in_front (x ∷ xs) ys all = (all.0, each_in_front xs ys all.1)

each_after_some : (n : ℕ) (xs : List Group) → Every IsWholeCommand xs → Every IsWholeCommand (drop n xs)
each_after_some zero xs all = all
each_after_some (suc n) [] all = tt
each_after_some (suc n) (x ∷ xs) all = each_after_some n xs all.1

each_dropped : (n : ℕ) (xs rest earlier window : List Group) → xs ++ rest ≡ earlier ++ window → length earlier ≤ n → Every IsWholeCommand window → Every IsWholeCommand (drop n xs)
each_dropped n xs rest [] window joins short all = each_after_some n xs (each_in_front xs rest (subst (Every IsWholeCommand) (sym joins) all))
each_dropped zero xs rest (e ∷ earlier) window joins short all = absurd (omega (arith, short))
each_dropped (suc n) [] rest (e ∷ earlier) window joins short all = tt
each_dropped (suc n) (x ∷ xs) rest (e ∷ earlier) window joins short all = let tail : xs ++ rest ≡ earlier ++ window = cc in each_dropped n xs rest earlier window tail (omega (arith, short)) all

-- past the commands of a front, and 8 and a few more, the hosts of the others are those of the groups past so many
pub record Skips (front more : List Group) (few : ℕ) : Type 0 where
  pub past : ℕ
  pub enough : few ≤ past
  pub same : drop (length (firsts front) + (8 + few)) (tags_of (firsts (front ++ more))) ≡ tags_in (drop past more)

module _ (front more : List Group) (few : ℕ) (whole : groups_whole (front ++ more) ≡ true) (all : Every IsWholeCommand (drop few more)) where
  abbrev skipped : ℕ
  skipped = length (firsts front) + (8 + few)

  none_left : drop few more ≡ [] → Skips front more few
  none_left none = record {
    past = few;
    enough = omega arith;
    same =
        let long = ap length (firsts_split front more) ∙ length-append (firsts front) (more_firsts front more) in
        let added = few_firsts (seen_after [] (owners_of_groups (λ _. 0) (λ _. false) front)) (turns_after (λ _. 0) (λ _. false) front) (acted_after (λ _. false) front) more in
        let short = sym (length-drop few more) ∙ ap length none in
        let size = length-map (firsts (front ++ more)) (λ (o : Owner). o.tag) in
        drop_all skipped (tags_of (firsts (front ++ more))) (omega (arith, long, added, short, size)) ∙ ap tags_in (sym none);
  }

  some_left : (g : Group) (later : List Group) → drop few more ≡ g ∷ later → Skips front more few
  some_left g later some = record {
    past = few + suc left;
    enough = omega arith;
    same =
        ap (drop skipped) split ∙ drop_past skipped (tags_of (firsts begun)) (tags_in later) (omega (arith, size, added))
        ∙ ap (λ n. drop n (tags_in later)) (omega (arith, size)) ∙ drop-map (λ (g : Group). g.tag) left later ∙ ap tags_in (sym (drop_more few (suc left) more ∙ ap (drop (suc left)) some));
  }
    where
      begun : List Group
      begun = (front ++ take few more) ++ g ∷ []

      left : ℕ
      left = skipped - length (firsts begun)

      joins : front ++ more ≡ begun ++ later
      joins = ap (λ l. front ++ l) (sym (take-append-drop few more) ∙ ap (λ l. take few more ++ l) some) ∙ sym (append_assoc front (take few more) (g ∷ later)) ∙ sym (append_assoc (front ++ take few more) (g ∷ []) later)

      its : Every IsWholeCommand (g ∷ later)
      its = subst (Every IsWholeCommand) some all

      split : tags_of (firsts (front ++ more)) ≡ tags_of (firsts begun) ++ tags_in later
      split =
          ap (λ l. tags_of (firsts l)) joins ∙ ap tags_of (firsts_split begun later) ∙ map-append (λ (o : Owner). o.tag) (firsts begun) (more_firsts begun later)
          ∙ ap (λ l. tags_of (firsts begun) ++ l) (after_close (front ++ take few more) g later (front_whole begun later (subst (λ l. groups_whole l ≡ true) joins whole)) its.0.closes its.1)

      size : length (tags_of (firsts begun)) ≡ length (firsts begun)
      size = length-map (firsts begun) (λ (o : Owner). o.tag)

      added : length (firsts begun) ≤ length (firsts front) + suc few
      added =
          let parts = ap (λ l. length (firsts l)) (append_assoc front (take few more) (g ∷ [])) ∙ ap length (firsts_split front (take few more ++ g ∷ [])) ∙ length-append (firsts front) (more_firsts front (take few more ++ g ∷ [])) in
          let most = few_firsts (seen_after [] (owners_of_groups (λ _. 0) (λ _. false) front)) (turns_after (λ _. 0) (λ _. false) front) (acted_after (λ _. false) front) (take few more ++ g ∷ []) in
          let one = length-append (take few more) (g ∷ []) in
          let cut = take_few few more in
          omega (arith, parts, most, one, cut)

  pub skips : Skips front more few
  skips = by_rest (drop few more) refl
    where
      by_rest : (l : List Group) → drop few more ≡ l → Skips front more few
      by_rest [] e = none_left e
      by_rest (g ∷ later) e = some_left g later e

-- ---- where what comes through is the front of a window

pub each_after : (front more rest earlier window : List Group) (few : ℕ) → (front ++ more) ++ rest ≡ earlier ++ window → length earlier ≤ length front + few → Every IsWholeCommand window → Every IsWholeCommand (drop few more)
each_after front more rest earlier window few joins short all =
    subst (Every IsWholeCommand) (drop_past (length front + few) front more (omega arith) ∙ ap (λ n. drop n more) (omega arith))
    (each_dropped (length front + few) (front ++ more) rest earlier window joins short all)

pub same_window : (front more rest earlier window : List Group) (past : ℕ) → (front ++ more) ++ rest ≡ earlier ++ window → length earlier ≤ length front + past →
    tags_in (drop past more) ≡ take (length more - past) (drop ((length front + past) - length earlier) (tags_in window))
same_window front more rest earlier window past joins short =
    let right : drop (length front + past) (earlier ++ window) ≡ drop ((length front + past) - length earlier) window = drop_past (length front + past) earlier window short in
    let left : drop (length front + past) ((front ++ more) ++ rest) ≡ drop past (more ++ rest) =
    ap (drop (length front + past)) (append_assoc front more rest) ∙ drop_past (length front + past) front (more ++ rest) (omega arith) ∙ ap (λ n. drop n (more ++ rest)) (omega arith) in
    ap tags_in (cut past more rest ∙ ap (take (length more - past)) (sym left ∙ ap (drop (length front + past)) joins ∙ right))
    ∙ sym (take-map (λ (g : Group). g.tag) (length more - past) (drop ((length front + past) - length earlier) window))
    ∙ ap (take (length more - past)) (sym (drop-map (λ (g : Group). g.tag) ((length front + past) - length earlier) window))
