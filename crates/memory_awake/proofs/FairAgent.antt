-- The hosts of the commands that have begun at an agent are those of the first owners of what is taken before it.
use Rattle.std.proofs.Common.{ℕ, zero, suc, ◌<◌, ◌≤◌, ◌≡◌, ◌-◌, Bool, true, false, ◌&&◌, ◌||◌, List, [], ◌∷◌, ◌++◌, length, map, replicate, nat_eq, nat_lt, arith, refl, sym, ap, ap₂, subst, ◌∙◌, append_assoc, length-append, tests, IsTrue, None}
use Rattle.std.specs.Prelude.{slice_index}
use Rattle.std.proofs.lemmas.List.{length-replicate, length-map}
use Rattle.std.proofs.lemmas.Bool.{and_parts}
use Rattle.histories.specs.Laws.{prefix_trans, prefix_map, prefix_length, before_prefix}
use Rattle.memory_runs.specs.Views.{System, Run, Shape}
use Rattle.memory_runs.specs.Operations.{Operation}
use Rattle.memory_runs.specs.Legal.{IsLegalHost}
use Rattle.memory_runs.specs.Laws.{issued_prefix}
use Rattle.memory_runs.specs.Order.{Owner, Tagged, owners, owners_from, owners_taken, of_host, taken, is_joined, is_same_owner, host_transfers, ServesInGrantedOrder}
use Rattle.memory_runs.specs.Awake.{begun, first_owners}
use Rattle.memory_machines.specs.Link.{AreLegalAt, taken_at}
use Rattle.memory_machines.specs.Lines.{Group, BearsTags, TaggedPort, Inside, groups_of, group_of, tagged_operations, target_of}
use Rattle.memory_machines.specs.SideLaws.{taken_is_shown}
use Rattle.memory_machines.specs.Begun.{owners_of_groups, turn_after, acts_after, groups_whole, by_turn, turn_at, IsMatched}
use Rattle.memory_awake.specs.Fair.{BeginsByTurns}
use Rattle.memory_awake.proofs.Bits.{takes_shows}
use Rattle.memory_awake.proofs.FairBegun.{one_for_each, own_here, none_taken}
use Rattle.memory_awake.proofs.FairNumbers.{is_among, later_turn, presented_steady}
use Rattle.memory_awake.proofs.FairOwners.{Every, same_firsts, owners_append, turns_after, acted_after}

-- ---- each owner is among those that its host has issued

at_index : (xs : List ℕ) (k : ℕ) → k < length xs → IsTrue (is_among (slice_index xs k) xs)
at_index [] k low = absurd (omega (arith, low))
at_index (x ∷ xs) zero low = let same : nat_eq x x ≡ true = grind (arith, tests) in rw same refl
at_index (x ∷ xs) (suc k) low = or_right (nat_eq (slice_index xs k) x) (at_index xs k (omega (arith, low)))
  where
    or_right : (a : Bool) {b : Bool} → IsTrue b → IsTrue (a || b)
    or_right true b = refl
    or_right false b = b

abbrev IsOwn : (ℕ → List ℕ) → (ℕ → Type 0) → Owner → Type 0
IsOwn issuers Fits o = Fits o.tag × IsTrue (is_among o.command (issuers o.tag))

all_own : (issuers : ℕ → List ℕ) (Fits : ℕ → Type 0) (earlier xs : List Tagged) → ((h : ℕ) → length (of_host h (earlier ++ xs)) ≤ length (issuers h)) →
    ((h : ℕ) → 0 < length (of_host h (earlier ++ xs)) → Fits h) → Every (IsOwn issuers Fits) (owners_from issuers earlier xs)
all_own issuers Fits earlier [] few fits = tt
all_own issuers Fits earlier (t ∷ later) few fits =
    let here = own_here t earlier later in
    let all = few t.tag in (
      (fits t.tag (omega (arith, here)), at_index (issuers t.tag) (length (of_host t.tag earlier)) (omega (arith, here, all))),
      all_own issuers Fits (earlier ++ t ∷ []) later (λ h. subst (λ l. length (of_host h l) ≤ length (issuers h)) (sym (append_assoc earlier (t ∷ []) later)) (few h))
          (λ h some. fits h (subst (λ l. 0 < length (of_host h l)) (append_assoc earlier (t ∷ []) later) some)),
    )

-- ---- their turns tell them apart

tells : (f : ℕ → ℕ → ℕ) (issuers : ℕ → List ℕ) (Fits : ℕ → Type 0) →
    ((h i j : ℕ) → Fits h → i < j → IsTrue (is_among i (issuers h)) → IsTrue (is_among j (issuers h)) → f h i < f h j) →
    (o p : Owner) → IsOwn issuers Fits o → IsOwn issuers Fits p → is_same_owner (by_turn f o) (by_turn f p) ≡ is_same_owner o p
tells f issuers Fits later o p one other = by_tag (nat_eq o.tag p.tag) refl
  where
    by_order : (a b : ℕ) → IsTrue (is_among a (issuers o.tag)) → IsTrue (is_among b (issuers o.tag)) → (less more : Bool) → nat_lt a b ≡ less → nat_lt b a ≡ more → nat_eq (f o.tag a) (f o.tag b) ≡ nat_eq a b
    by_order a b x y true more e g =
        let low : a < b = grind (arith, tests, e) in
        let turn = later o.tag a b one.0 low x y in
        let left : nat_eq (f o.tag a) (f o.tag b) ≡ false = grind (arith, tests, turn) in
        let right : nat_eq a b ≡ false = grind (arith, tests, low) in
        left ∙ sym right
    by_order a b x y false true e g =
        let low : b < a = grind (arith, tests, g) in
        let turn = later o.tag b a one.0 low y x in
        let left : nat_eq (f o.tag a) (f o.tag b) ≡ false = grind (arith, tests, turn) in
        let right : nat_eq a b ≡ false = grind (arith, tests, low) in
        left ∙ sym right
    by_order a b x y false false e g =
        let same : a ≡ b = grind (arith, tests, e, g) in
        let turn = ap (f o.tag) same in
        let left : nat_eq (f o.tag a) (f o.tag b) ≡ true = grind (arith, tests, turn) in
        let right : nat_eq a b ≡ true = grind (arith, tests, same) in
        left ∙ sym right

    by_tag : (b : Bool) → nat_eq o.tag p.tag ≡ b → (b && nat_eq (f o.tag o.command) (f p.tag p.command)) ≡ (b && nat_eq o.command p.command)
    by_tag false e = refl
    by_tag true e =
        let same : p.tag ≡ o.tag = grind (arith, tests, e) in
        subst (λ h. nat_eq (f o.tag o.command) (f h p.command) ≡ nat_eq o.command p.command) (sym same)
        (by_order o.command p.command one.1 (subst (λ h. IsTrue (is_among p.command (issuers h))) same other.1) (nat_lt o.command p.command) (nat_lt p.command o.command) refl refl)

-- ---- lengths and fronts

owners_length : (issuers : ℕ → List ℕ) (earlier xs : List Tagged) → length (owners_from issuers earlier xs) ≡ length xs
owners_length issuers earlier [] = refl
owners_length issuers earlier (t ∷ xs) = let more = owners_length issuers (earlier ++ t ∷ []) xs in omega (arith, more)

groups_length : (turn : ℕ → ℕ) (acted : ℕ → Bool) (groups : List Group) → length (owners_of_groups turn acted groups) ≡ length (tagged_operations groups)
groups_length turn acted [] = refl
groups_length turn acted (g ∷ groups) =
    let more = groups_length (turn_after turn acted g) (acts_after acted g) groups in
    let one = length-append (replicate (length g.operations) (owner g.tag (turn g.tag))) (owners_of_groups (turn_after turn acted g) (acts_after acted g) groups) in
    let copies = length-replicate (length g.operations) (owner g.tag (turn g.tag)) in
    let two = length-append (map (tagged g.tag) g.operations) (tagged_operations groups) in
    let all = length-map g.operations (tagged g.tag) in
    omega (arith, more, one, copies, two, all)
  where
    owner : ℕ → ℕ → Owner
    owner tag command = record { tag = tag; command = command }

    tagged : ℕ → Operation → Tagged
    tagged tag operation = record { tag = tag; operation = operation }

pub same_front : {A : Type 0} (xs ys us vs : List A) → xs ++ us ≡ ys ++ vs → length xs ≡ length ys → xs ≡ ys
same_front {A} [] [] us vs e n = refl
same_front {A} [] (y ∷ ys) us vs e n = absurd (omega (arith, n))
same_front {A} (x ∷ xs) [] us vs e n = absurd (omega (arith, n))
same_front {A} (x ∷ xs) (y ∷ ys) us vs e n =
    let head : x ≡ y = cc in
    let tail : xs ++ us ≡ ys ++ vs = cc in
    ap₂ (λ a l. a ∷ l) head (same_front xs ys us vs tail (omega (arith, n)))

same_tags : (f : ℕ → ℕ → ℕ) (xs : List Owner) → map (λ (o : Owner). o.tag) xs ≡ map (λ (o : Owner). o.tag) (map (by_turn f) xs)
same_tags f [] = refl
same_tags f (o ∷ xs) = ap (λ l. o.tag ∷ l) (same_tags f xs)

pub front_whole : (xs ys : List Group) → groups_whole (xs ++ ys) ≡ true → groups_whole xs ≡ true
front_whole [] ys whole = refl
front_whole (x ∷ []) ys whole = refl
front_whole (x ∷ y ∷ xs) ys whole =
    let both = and_parts (x.closes || nat_eq x.tag y.tag) (groups_whole (y ∷ xs ++ ys)) whole in
    rw (both.0, front_whole (y ∷ xs) ys both.1) refl

-- ---- at an agent

module _ (system : System) (run : Run) (inside : Inside) (agent end : ℕ) (matched : IsMatched system run inside agent end) (same : (inside.after_arbiter agent).shape ≡ (inside.before_agent agent).shape)
    (operations : (c : ℕ) → c ≤ end → taken system run agent c ≡ tagged_operations (groups_of (target_of system agent) (inside.before_agent agent).shape (taken_at (inside.before_agent agent).port c)))
    (legal : AreLegalAt (inside.after_arbiter agent).port end) (hosts : (h : ℕ) → h < system.hosts → IsLegalHost (system.host h) (run.at_host h) end) (serves : ServesInGrantedOrder system run agent end)
    (joined : (h : ℕ) → IsTrue (is_joined system agent h) → h < system.hosts)
    (tags : BearsTags (is_joined system agent) (inside.after_arbiter agent).port end) where
  abbrev far : TaggedPort
  far = inside.after_arbiter agent

  abbrev near : TaggedPort
  near = inside.before_agent agent

  abbrev groups : ℕ → List Group
  groups c = groups_of (target_of system agent) far.shape (taken_at near.port c)

  few_issued : (h c : ℕ) → c ≤ end → length (of_host h (taken system run agent c)) ≤ length (owners system run h agent c)
  few_issued h c low = by_joined (is_joined system agent h) refl
    where
      by_joined : (b : Bool) → is_joined system agent h ≡ b → length (of_host h (taken system run agent c)) ≤ length (owners system run h agent c)
      by_joined false e = let none = none_taken system run agent end serves h c low e in omega (arith, none)
      by_joined true e =
          let few = prefix_length (serves.in_order c h low (joined h e)) in
          let grown = prefix_length (issued_prefix system run h agent (c - system.stages) c (omega arith)) in
          let each = one_for_each system h agent 1 (host_transfers system run h c) in
          omega (arith, few, grown, each)

  fits : (h c : ℕ) → c ≤ end → 0 < length (of_host h (taken system run agent c)) → h < system.hosts
  fits h c low some = by_joined (is_joined system agent h) refl
    where
      by_joined : (b : Bool) → is_joined system agent h ≡ b → h < system.hosts
      by_joined false e = let none = none_taken system run agent end serves h c low e in absurd (omega (arith, none, some))
      by_joined true e = joined h e

  turns_are : (c : ℕ) → c ≤ end → map (by_turn (turn_at system run agent c)) (owners_taken system run agent c) ≡ owners_of_groups (λ _. 0) (λ _. false) (groups c)
  turns_are c low =
      let d = c - system.stages in
      let target = target_of system agent in
      let front = matched.owners c low in
      let shown = prefix_map (group_of target far.shape) (prefix_trans (matched.taken c low) (taken_is_shown far.port end d legal (omega (arith, low)))) in
      let split = owners_append (λ _. 0) (λ _. false) (groups c) shown.rest in
      let whole = ap (owners_of_groups (λ _. 0) (λ _. false)) shown.joins in
      let mine : length (map (by_turn (turn_at system run agent c)) (owners_taken system run agent c)) ≡ length (owners_of_groups (λ _. 0) (λ _. false) (groups c)) =
      length-map (owners_taken system run agent c) (by_turn (turn_at system run agent c)) ∙ owners_length (λ h. owners system run h agent c) [] (taken system run agent c)
      ∙ ap length (operations c low) ∙ ap (λ (s : Shape). length (tagged_operations (groups_of target s (taken_at near.port c)))) (sym same) ∙ sym (groups_length (λ _. 0) (λ _. false) (groups c)) in
      same_front (map (by_turn (turn_at system run agent c)) (owners_taken system run agent c)) (owners_of_groups (λ _. 0) (λ _. false) (groups c)) front.rest
      (owners_of_groups (turns_after (λ _. 0) (λ _. false) (groups c)) (acted_after (λ _. false) (groups c)) shown.rest)
      (front.joins ∙ sym whole ∙ split) mine

  begun_tags : (c : ℕ) → c ≤ end → map (λ (o : Owner). o.tag) (begun system run agent c) ≡ map (λ (o : Owner). o.tag) (first_owners [] (owners_of_groups (λ _. 0) (λ _. false) (groups c)))
  begun_tags c low =
      let f = turn_at system run agent c in
      let issuers : ℕ → List ℕ = λ h. owners system run h agent c in
      let Fits : ℕ → Type 0 = λ h. h < system.hosts in
      same_tags f (begun system run agent c)
      ∙ ap (map (λ (o : Owner). o.tag)) (same_firsts f (IsOwn issuers Fits)
      (tells f issuers Fits (λ h i j is less one other. later_turn system h agent None 1 0 false (host_transfers system run h c) i j (presented_steady system run h end (hosts h is) c low) less one other))
      [] (owners_taken system run agent c) tt (all_own issuers Fits [] (taken system run agent c) (λ h. few_issued h c low) (λ h some. fits h c low some))
      ∙ ap (first_owners []) (turns_are c low))

  pub begins : BeginsByTurns system run agent (inside.before_agent agent) (inside.after_arbiter agent) end
  begins = record {
    begun = λ c low. begun_tags c low;
    operations = λ c low. operations c low ∙ ap (λ (s : Shape). tagged_operations (groups_of (target_of system agent) s (taken_at near.port c))) (sym same);
    pipe = λ c low. prefix_trans (matched.taken c low) (before_prefix _ (c - system.stages) c (omega arith));
    whole = λ c low.
        let front = prefix_map (group_of (target_of system agent) far.shape) (taken_is_shown far.port end c legal low) in
        front_whole (groups_of (target_of system agent) far.shape (taken_at far.port c)) front.rest (ap groups_whole front.joins ∙ matched.whole c low);
    tags = λ c low taken. tags c low (takes_shows far.port c taken);
  }
