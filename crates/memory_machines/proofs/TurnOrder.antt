-- The turns of operations by the ends of joined commands, and by the commands of their host.
use Rattle.std.proofs.Common.{ℕ, zero, suc, ◌≤◌, ◌≡◌, ◌+◌, [], ◌∷◌, ◌++◌, List, Bool, true, false, not, ◌&&◌, ◌||◌, if◌then◌else◌, arith, refl, sym, ap, ap₂, ◌∙◌, subst, length, map, filter, flat_map, replicate, nat_eq, nat_le, tests, length-append, append_assoc, zip, eqb-true, Some, slice_get, slice_index}
use Rattle.std.specs.List.{list_all}
use Rattle.std.proofs.lemmas.List.{map-append}
use Rattle.std.proofs.lemmas.List.Elements.{filter-append}
use Rattle.std.proofs.lemmas.Bool.{and_parts}
use Rattle.std.proofs.lemmas.List.Folds.{list_all-append}
use Rattle.memory_machines.specs.Begun.{owners_of_groups, turn_after, acts_after, turn_of, by_turn}
use Rattle.histories.specs.History.{IsPrefix, only_if}
use Rattle.memory_runs.specs.Views.{System}
use Rattle.memory_runs.specs.Operations.{Operation}
use Rattle.memory_runs.specs.Commands.{Transfer}
use Rattle.memory_runs.specs.Order.{Owner, is_same_owner, stays_together, are_together, Tagged, of_host, has_tag, owners_from, owner_of, numbers_by_ends, transfer_operations, place_of, is_agent}
use Rattle.memory_machines.specs.Link.{Item, is_nonempty}
use Rattle.memory_machines.specs.Link.Item.{Acts, Ends}
use Rattle.memory_machines.specs.Lines.{Group, Sent, items_among, placed, placed_group, sent_by}
use Rattle.memory_machines.specs.SideLaws.{prefix_get}

-- for each operation, how many joined commands have ended before it
abbrev pub turns : ℕ → List Item → List ℕ
turns n [] = []
turns n (Acts tag operation ∷ later) = n ∷ turns n later
turns n (Ends tag ∷ later) = turns (suc n) later

abbrev ended : ℕ → List Item → ℕ
ended n [] = n
ended n (Acts tag operation ∷ later) = ended n later
ended n (Ends tag ∷ later) = ended (suc n) later

turns_append : (n : ℕ) (xs ys : List Item) → turns n (xs ++ ys) ≡ turns n xs ++ turns (ended n xs) ys
turns_append n [] ys = refl
turns_append n (Acts tag operation ∷ xs) ys = ap (λ l. n ∷ l) (turns_append n xs ys)
turns_append n (Ends tag ∷ xs) ys = turns_append (suc n) xs ys

pub prefix_turns : (n : ℕ) {xs ys : List Item} → IsPrefix xs ys → IsPrefix (turns n xs) (turns n ys)
prefix_turns n {xs} p = record { rest = turns (ended n xs) p.rest; joins = sym (turns_append n xs p.rest) ∙ ap (turns n) p.joins }

-- one group's items
group_turns : (n tag : ℕ) (operations : List Operation) (b : Bool) (rest : List Item) →
    turns n ((map (Acts tag) operations ++ only_if b (Ends tag)) ++ rest) ≡ replicate (length operations) n ++ turns (if b then suc n else n) rest
group_turns n tag [] true rest = refl
group_turns n tag [] false rest = refl
group_turns n tag (o ∷ os) b rest = ap (λ l. n ∷ l) (group_turns n tag os b rest)

abbrev pub commands_with : ℕ → List Owner → List ℕ
commands_with h owners = map (λ o. o.command) (filter (λ o. nat_eq o.tag h) owners)

commands_append : (h : ℕ) (xs ys : List Owner) → commands_with h (xs ++ ys) ≡ commands_with h xs ++ commands_with h ys
commands_append h xs ys = ap (map (λ (o : Owner). o.command)) (filter-append (λ (o : Owner). nat_eq o.tag h) xs ys) ∙ map-append (λ (o : Owner). o.command) (filter (λ (o : Owner). nat_eq o.tag h) xs) (filter (λ (o : Owner). nat_eq o.tag h) ys)

own_copies : (h n : ℕ) (o : Owner) → nat_eq o.tag h ≡ true → commands_with h (replicate n o) ≡ replicate n o.command
own_copies h zero o e = refl
own_copies h (suc n) o e = rw e (ap (λ l. o.command ∷ l) (own_copies h n o e))

other_copies : (h n : ℕ) (o : Owner) → nat_eq o.tag h ≡ false → commands_with h (replicate n o) ≡ []
other_copies h zero o e = refl
other_copies h (suc n) o e = rw e (other_copies h n o e)

swap : (a b : ℕ) (r : Bool) → nat_eq a b ≡ r → nat_eq b a ≡ r
swap a b true e = grind (arith, tests, e)
swap a b false e = grind (arith, tests, e)

-- the turns of one tag's groups
pub turns_of_groups : (h : ℕ) (turn : ℕ → ℕ) (acted : ℕ → Bool) (groups : List Group) →
    commands_with h (owners_of_groups turn acted groups) ≡ turns (turn h) (items_among (acted h) (filter (λ (g : Group). nat_eq g.tag h) groups))
turns_of_groups h turn acted [] = refl
turns_of_groups h turn acted (g ∷ later) =
    commands_append h (replicate (length g.operations) (record { tag = g.tag; command = turn g.tag })) (owners_of_groups (turn_after turn acted g) (acts_after acted g) later)
    ∙ by_tag (nat_eq g.tag h) refl (turns_of_groups h (turn_after turn acted g) (acts_after acted g) later)
  where
    by_tag : (b : Bool) → nat_eq g.tag h ≡ b →
        commands_with h (owners_of_groups (turn_after turn acted g) (acts_after acted g) later) ≡ turns (turn_after turn acted g h) (items_among (acts_after acted g h) (filter (λ (g : Group). nat_eq g.tag h) later)) →
        commands_with h (replicate (length g.operations) (record { tag = g.tag; command = turn g.tag })) ++ commands_with h (owners_of_groups (turn_after turn acted g) (acts_after acted g) later)
        ≡ turns (turn h) (items_among (acted h) (if nat_eq g.tag h then g ∷ filter (λ (g : Group). nat_eq g.tag h) later else filter (λ (g : Group). nat_eq g.tag h) later))
    by_tag true e rest =
        let same : g.tag ≡ h = eqb-true g.tag h e in
        let back : nat_eq h g.tag ≡ true = swap g.tag h true e in
        let opened : acted g.tag ≡ acted h = ap acted same in
        let now : turn_after turn acted g h ≡ (if g.closes && (acted h || is_nonempty g.operations) then suc (turn h) else turn h) = rw (back, opened) refl in
        let still : acts_after acted g h ≡ (not g.closes && (acted h || is_nonempty g.operations)) = rw back refl in
        let copies : commands_with h (replicate (length g.operations) (record { tag = g.tag; command = turn g.tag })) ≡ replicate (length g.operations) (turn h) =
        own_copies h (length g.operations) (record { tag = g.tag; command = turn g.tag }) e ∙ ap (λ x. replicate (length g.operations) (turn x)) same in
        let others = filter (λ (g : Group). nat_eq g.tag h) later in
        ap₂ (λ a b. a ++ b) copies (rest ∙ ap₂ (λ n b. turns n (items_among b others)) now still)
        ∙ sym (group_turns (turn h) g.tag g.operations (g.closes && (acted h || is_nonempty g.operations)) (items_among (not g.closes && (acted h || is_nonempty g.operations)) others))
        ∙ ap (λ b. turns (turn h) (items_among (acted h) (if b then g ∷ others else others))) (sym e)
    by_tag false e rest =
        let back : nat_eq h g.tag ≡ false = swap g.tag h false e in
        let now : turn_after turn acted g h ≡ turn h = rw back refl in
        let still : acts_after acted g h ≡ acted h = rw back refl in
        let others = filter (λ (g : Group). nat_eq g.tag h) later in
        ap (λ l. l ++ commands_with h (owners_of_groups (turn_after turn acted g) (acts_after acted g) later)) (other_copies h (length g.operations) (record { tag = g.tag; command = turn g.tag }) e)
        ∙ rest ∙ ap₂ (λ n b. turns n (items_among b others)) now still
        ∙ ap (λ b. turns (turn h) (items_among (acted h) (if b then g ∷ others else others))) (sym e)

-- ---- the commands of a host

abbrev pub owners_among : System → ℕ → ℕ → ℕ → List Transfer → List ℕ
owners_among system host agent number ts =
    flat_map (λ (p : ℕ × Transfer). if is_agent agent (place_of system host p.1) then replicate (length (transfer_operations system host agent p.1)) p.0 else [])
    (zip (numbers_by_ends number ts) ts)

module _ (system : System) (host agent : ℕ) where
  first_turn : (number n : ℕ) (acted : Bool) (ts : List Transfer) → turn_of system host agent number n acted ts number ≡ n
  first_turn number n acted [] = refl
  first_turn number n acted (t ∷ ts) = let least : nat_le number number ≡ true = grind (arith, tests) in rw least refl

  map_copies : (f : ℕ → ℕ) (k x : ℕ) → map f (replicate k x) ≡ replicate k (f x)
  map_copies f zero x = refl
  map_copies f (suc k) x = ap (λ l. f x ∷ l) (map_copies f k x)

  -- later commands have greater numbers
  map_from : (number : ℕ) (ts : List Transfer) (f g : ℕ → ℕ) → ((d : ℕ) → number ≤ d → f d ≡ g d) → map f (owners_among system host agent number ts) ≡ map g (owners_among system host agent number ts)
  map_from number [] f g same = refl
  map_from number (t ∷ ts) f g same =
      map-append f (mine (is_agent agent (place_of system host t))) (owners_among system host agent (next t.ends) ts)
      ∙ ap₂ (λ a b. a ++ b) (of_mine (is_agent agent (place_of system host t))) (map_from (next t.ends) ts f g (λ d low. same d (above t.ends d low)))
      ∙ sym (map-append g (mine (is_agent agent (place_of system host t))) (owners_among system host agent (next t.ends) ts))
    where
      mine : Bool → List ℕ
      mine b = if b then replicate (length (transfer_operations system host agent t)) number else []

      next : Bool → ℕ
      next b = if b then number + 1 else number

      above : (b : Bool) (d : ℕ) → next b ≤ d → number ≤ d
      above true d low = omega (arith, low)
      above false d low = low

      of_mine : (b : Bool) → map f (mine b) ≡ map g (mine b)
      of_mine true = map_copies f (length (transfer_operations system host agent t)) number ∙ ap (replicate (length (transfer_operations system host agent t))) (same number (omega arith)) ∙ sym (map_copies g (length (transfer_operations system host agent t)) number)
      of_mine false = refl

  -- the turn of an operation is that of its command
  pub host_turns : (number n : ℕ) (acted : Bool) (ts : List Transfer) →
      turns n (items_among acted (placed system host agent (sent_by ts))) ≡ map (turn_of system host agent number n acted ts) (owners_among system host agent number ts)
  host_turns number n acted [] = refl
  host_turns number n acted (t ∷ ts) =
      left here ∙ ap₂ (λ a b. a ++ b) (sym (mine_turns here)) (host_turns number_after (n_after here) (acted_after_it here) ts ∙ sym (map_from number_after ts (turn_of system host agent number n acted (t ∷ ts)) later_turn same))
      ∙ sym (map-append (turn_of system host agent number n acted (t ∷ ts)) (mine here) (owners_among system host agent number_after ts))
    where
      here : Bool
      here = is_agent agent (place_of system host t)

      operations : List Operation
      operations = transfer_operations system host agent t

      number_after : ℕ
      number_after = if t.ends then number + 1 else number

      n_after : Bool → ℕ
      n_after p = if p && (t.ends && (acted || is_nonempty operations)) then suc n else n

      acted_after_it : Bool → Bool
      acted_after_it p = if p then not t.ends && (acted || is_nonempty operations) else acted

      later_turn : ℕ → ℕ
      later_turn d = turn_of system host agent number_after (n_after here) (acted_after_it here) ts d

      mine : Bool → List ℕ
      mine p = if p then replicate (length operations) number else []

      rest : List Sent
      rest = filter (λ (s : Sent). is_agent agent (place_of system host s.transfer)) (sent_by ts)

      left : (p : Bool) → turns n (items_among acted (map (placed_group system host agent) (if p then record { transfer = t; closes = t.ends } ∷ rest else rest)))
          ≡ (if p then replicate (length operations) n else []) ++ turns (n_after p) (items_among (acted_after_it p) (map (placed_group system host agent) rest))
      left true = group_turns n host operations (t.ends && (acted || is_nonempty operations)) (items_among (not t.ends && (acted || is_nonempty operations)) (map (placed_group system host agent) rest))
      left false = refl

      mine_turns : (p : Bool) → map (turn_of system host agent number n acted (t ∷ ts)) (mine p) ≡ (if p then replicate (length operations) n else [])
      mine_turns true = map_copies (turn_of system host agent number n acted (t ∷ ts)) (length operations) number ∙ ap (replicate (length operations)) (first_turn number n acted (t ∷ ts))
      mine_turns false = refl

      no_end : (p : Bool) → t.ends ≡ false → n_after p ≡ n
      no_end true e = rw e refl
      no_end false e = refl

      by_end : (d : ℕ) (e : Bool) → t.ends ≡ e → (if e then number + 1 else number) ≤ d → d ≤ number → n ≡ later_turn d
      by_end d true e low high = absurd (omega arith)
      by_end d false e low high =
          let after : number_after ≡ number = rw e refl in
          let it : d ≡ number_after = omega (arith, after) in
          sym (ap later_turn it ∙ first_turn number_after (n_after here) (acted_after_it here) ts ∙ no_end here e)

      by_le : (d : ℕ) (b : Bool) → nat_le d number ≡ b → number_after ≤ d → (if b then n else later_turn d) ≡ later_turn d
      by_le d true e low = by_end d t.ends refl low (grind (arith, tests, e))
      by_le d false e low = refl

      same : (d : ℕ) → number_after ≤ d → turn_of system host agent number n acted (t ∷ ts) d ≡ later_turn d
      same d low = by_le d (nat_le d number) refl low

-- ---- from groups to what was taken

at_index : (f : ℕ → ℕ) (xs : List ℕ) (r y : ℕ) → slice_get (map f xs) r ≡ Some y → f (slice_index xs r) ≡ y
at_index f [] r y e = let bad : ⊥ = cc in absurd bad
at_index f (x ∷ xs) zero y e = cc
at_index f (x ∷ xs) (suc r) y e = at_index f xs r y e

get_middle : (xs ys : List ℕ) (y : ℕ) → slice_get (xs ++ y ∷ ys) (length xs) ≡ Some y
get_middle [] ys y = refl
get_middle (x ∷ xs) ys y = get_middle xs ys y

one_more : (h : ℕ) (earlier : List Tagged) (t : Tagged) → length (of_host h (earlier ++ t ∷ [])) ≡ length (of_host h earlier) + (if nat_eq t.tag h then 1 else 0)
one_more h earlier t =
    ap (λ l. length (map (λ (t : Tagged). t.operation) l)) (filter-append (has_tag h) earlier (t ∷ []))
    ∙ ap length (map-append (λ (t : Tagged). t.operation) (filter (has_tag h) earlier) (filter (has_tag h) (t ∷ [])))
    ∙ length-append (of_host h earlier) (of_host h (t ∷ []))
    ∙ ap (λ n. length (of_host h earlier) + n) (last (nat_eq t.tag h))
  where
    last : (b : Bool) → length (map (λ (t : Tagged). t.operation) (if b then t ∷ [] else [])) ≡ (if b then 1 else 0)
    last true = refl
    last false = refl

one_more_owner : (h : ℕ) (earlier : List Owner) (o : Owner) → length (commands_with h (earlier ++ o ∷ [])) ≡ length (commands_with h earlier) + (if nat_eq o.tag h then 1 else 0)
one_more_owner h earlier o =
    ap length (commands_append h earlier (o ∷ [])) ∙ length-append (commands_with h earlier) (commands_with h (o ∷ [])) ∙ ap (λ n. length (commands_with h earlier) + n) (last (nat_eq o.tag h))
  where
    last : (b : Bool) → length (map (λ (o : Owner). o.command) (if b then o ∷ [] else [])) ≡ (if b then 1 else 0)
    last true = refl
    last false = refl

pub by_turns : (f : ℕ → ℕ → ℕ) (issuers : ℕ → List ℕ) (is_host : ℕ → Bool) (earlier taken : List Tagged) (before after : List Owner) →
    ((h : ℕ) → length (of_host h earlier) ≡ length (commands_with h before)) →
    IsPrefix (map (λ (t : Tagged). t.tag) taken) (map (λ (o : Owner). o.tag) after) →
    list_all (λ (o : Owner). is_host o.tag) after ≡ true →
    ((h : ℕ) → is_host h ≡ true → IsPrefix (commands_with h (before ++ after)) (map (f h) (issuers h))) →
    IsPrefix (map (by_turn f) (owners_from issuers earlier taken)) after
by_turns f issuers is_host earlier [] before after counts tags hosts turns = record { rest = after; joins = refl }
by_turns f issuers is_host earlier (t ∷ taken) before [] counts tags hosts turns = let bad : ⊥ = cc in absurd bad
by_turns f issuers is_host earlier (t ∷ taken) before (w ∷ after) counts tags hosts turns =
    let same_tag : t.tag ≡ w.tag = cc in
    let tail_tags : map (λ (t : Tagged). t.tag) taken ++ tags.rest ≡ map (λ (o : Owner). o.tag) after = cc in
    let is = and_parts (is_host w.tag) (list_all (λ (o : Owner). is_host o.tag) after) hosts in
    let number : nat_eq w.tag w.tag ≡ true = grind (arith, tests) in
    let split : commands_with w.tag (before ++ w ∷ after) ≡ commands_with w.tag before ++ w.command ∷ commands_with w.tag after =
    commands_append w.tag before (w ∷ after) ∙ ap (λ b. commands_with w.tag before ++ map (λ (o : Owner). o.command) (if b then w ∷ filter (λ (o : Owner). nat_eq o.tag w.tag) after else filter (λ (o : Owner). nat_eq o.tag w.tag) after)) number in
    let r = length (commands_with w.tag before) in
    let got : slice_get (commands_with w.tag (before ++ w ∷ after)) r ≡ Some w.command = ap (λ l. slice_get l r) split ∙ get_middle (commands_with w.tag before) (commands_with w.tag after) w.command in
    let own : f w.tag (slice_index (issuers w.tag) r) ≡ w.command = at_index (f w.tag) (issuers w.tag) r w.command (prefix_get (turns w.tag is.0) r w.command got) in
    let command : f t.tag (slice_index (issuers t.tag) (length (of_host t.tag earlier))) ≡ w.command =
    ap (λ x. f x (slice_index (issuers x) (length (of_host x earlier)))) same_tag ∙ ap (λ r. f w.tag (slice_index (issuers w.tag) r)) (counts w.tag) ∙ own in
    let head : by_turn f (owner_of issuers earlier t) ≡ w = ap₂ (λ a b. record { tag = a; command = b }) same_tag command in
    let rest = by_turns f issuers is_host (earlier ++ t ∷ []) taken (before ++ w ∷ []) after
    (λ h. one_more h earlier t ∙ ap₂ (λ a x. a + (if nat_eq x h then 1 else 0)) (counts h) same_tag ∙ sym (one_more_owner h before w))
    (record { rest = tags.rest; joins = tail_tags }) is.1
    (λ h there. subst (λ l. IsPrefix (commands_with h l) (map (f h) (issuers h))) (sym (append_assoc before (w ∷ []) after)) (turns h there)) in
    record { rest = rest.rest; joins = ap₂ (λ a l. a ∷ l) head rest.joins }

-- ---- together by turns is together by commands

stays_front : (owner : Owner) (xs ys : List Owner) → stays_together owner (xs ++ ys) ≡ true → stays_together owner xs ≡ true
stays_front owner [] ys stays = refl
stays_front owner (x ∷ xs) ys stays = by_tag (nat_eq x.tag owner.tag) (stays_front owner xs ys) stays
  where
    by_tag : (b : Bool) → (stays_together owner (xs ++ ys) ≡ true → stays_together owner xs ≡ true) →
        (if b then stays_together owner (xs ++ ys) else list_all (λ o. not (is_same_owner owner o)) (xs ++ ys)) ≡ true → (if b then stays_together owner xs else list_all (λ o. not (is_same_owner owner o)) xs) ≡ true
    by_tag true go stays = go stays
    by_tag false go stays = (and_parts (list_all (λ o. not (is_same_owner owner o)) xs) (list_all (λ o. not (is_same_owner owner o)) ys) (sym (list_all-append (λ o. not (is_same_owner owner o)) xs ys) ∙ stays)).0

pub together_front : (xs ys : List Owner) → are_together (xs ++ ys) ≡ true → are_together xs ≡ true
together_front [] ys together = refl
together_front (x ∷ xs) ys together =
    let both = and_parts (stays_together x (xs ++ ys)) (are_together (xs ++ ys)) together in
    rw (stays_front x xs ys both.0, together_front xs ys both.1) refl

none_back : (f : ℕ → ℕ → ℕ) (owner : Owner) (xs : List Owner) → list_all (λ o. not (is_same_owner (by_turn f owner) o)) (map (by_turn f) xs) ≡ true → list_all (λ o. not (is_same_owner owner o)) xs ≡ true
none_back f owner [] all = refl
none_back f owner (x ∷ xs) all =
    let both = and_parts (not (is_same_owner (by_turn f owner) (by_turn f x))) (list_all (λ o. not (is_same_owner (by_turn f owner) o)) (map (by_turn f) xs)) all in
    rw (by_test (is_same_owner owner x) refl both.0, none_back f owner xs both.1) refl
  where
    by_test : (b : Bool) → is_same_owner owner x ≡ b → not (is_same_owner (by_turn f owner) (by_turn f x)) ≡ true → not b ≡ true
    by_test false e other = refl
    by_test true e other =
        let both = and_parts (nat_eq owner.tag x.tag) (nat_eq owner.command x.command) e in
        let tag : owner.tag ≡ x.tag = eqb-true owner.tag x.tag both.0 in
        let command : owner.command ≡ x.command = eqb-true owner.command x.command both.1 in
        let turn : f owner.tag owner.command ≡ f x.tag x.command = ap₂ f tag command in
        let one : nat_eq (f owner.tag owner.command) (f x.tag x.command) ≡ true = grind (arith, tests, turn) in
        let same : is_same_owner (by_turn f owner) (by_turn f x) ≡ true = rw (both.0, one) refl in
        sym (ap not same) ∙ other

stays_back : (f : ℕ → ℕ → ℕ) (owner : Owner) (xs : List Owner) → stays_together (by_turn f owner) (map (by_turn f) xs) ≡ true → stays_together owner xs ≡ true
stays_back f owner [] stays = refl
stays_back f owner (x ∷ xs) stays = by_tag (nat_eq x.tag owner.tag) (stays_back f owner xs) stays
  where
    by_tag : (b : Bool) → (stays_together (by_turn f owner) (map (by_turn f) xs) ≡ true → stays_together owner xs ≡ true) →
        (if b then stays_together (by_turn f owner) (map (by_turn f) xs) else list_all (λ o. not (is_same_owner (by_turn f owner) o)) (map (by_turn f) xs)) ≡ true →
        (if b then stays_together owner xs else list_all (λ o. not (is_same_owner owner o)) xs) ≡ true
    by_tag true go stays = go stays
    by_tag false go stays = none_back f owner xs stays

pub together_back : (f : ℕ → ℕ → ℕ) (xs : List Owner) → are_together (map (by_turn f) xs) ≡ true → are_together xs ≡ true
together_back f [] together = refl
together_back f (x ∷ xs) together =
    let both = and_parts (stays_together (by_turn f x) (map (by_turn f) xs)) (are_together (map (by_turn f) xs)) together in
    rw (stays_back f x xs both.0, together_back f xs both.1) refl
