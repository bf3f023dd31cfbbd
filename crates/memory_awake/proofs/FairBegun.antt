-- What has begun at an agent stays begun, in its order.
use Rattle.std.proofs.Common.{ℕ, zero, suc, ◌<◌, ◌≤◌, ◌≡◌, ◌+◌, ◌-◌, Bool, true, false, List, [], ◌∷◌, ◌++◌, length, map, replicate, nat_eq, if◌then◌else◌, arith, refl, sym, ap, ap₂, subst, ◌∙◌, append_assoc, length-append, IsTrue, IsFalse, tests}
use Rattle.std.specs.Prelude.{flat_map, zip, slice_index}
use Rattle.std.specs.List.{list_any}
use Rattle.std.proofs.lemmas.List.{length-replicate}
use Rattle.std.proofs.lemmas.Grind.{flat_map-append}
use Rattle.std.proofs.lemmas.Bool.{both_ways}
use Rattle.histories.specs.History.{IsPrefix, only_if}
use Rattle.histories.specs.Laws.{before_prefix, prefix_length}
use Rattle.memory_runs.specs.Views.{System, Run}
use Rattle.memory_runs.specs.Operations.{Operation, Beat, own_operations}
use Rattle.memory_runs.specs.Commands.{Transfer, agent_accepts, transfer_at}
use Rattle.memory_runs.specs.Order.{Owner, Tagged, owners, owners_from, owners_taken, owner_of, of_host, taken, issued, is_joined, is_agent, place_of, host_transfers, for_agent, transfer_operations, numbers_by_ends, operations_at, beats_taken, beats_taken_in, is_same_owner, ServesInGrantedOrder}
use Rattle.memory_runs.specs.Awake.{begun, first_owners}
use Rattle.memory_awake.proofs.Wanted.{of_host_append, host_ops}

-- ---- whom the operations that a host issues belong to

abbrev pub owners_among : System → ℕ → ℕ → ℕ → List Transfer → List ℕ
owners_among system host agent number ts =
    flat_map (λ p. if is_agent agent (place_of system host p.1) then replicate (length (transfer_operations system host agent p.1)) p.0 else []) (zip (numbers_by_ends number ts) ts)

owners_grow : (system : System) (host agent number : ℕ) (xs ys : List Transfer) → IsPrefix (owners_among system host agent number xs) (owners_among system host agent number (xs ++ ys))
owners_grow system host agent number [] ys = record { rest = owners_among system host agent number ys; joins = refl }
owners_grow system host agent number (t ∷ xs) ys =
    let more = owners_grow system host agent (if t.ends then number + 1 else number) xs ys in
    let mine : List ℕ = if is_agent agent (place_of system host t) then replicate (length (transfer_operations system host agent t)) number else [] in
    record { rest = more.rest; joins = append_assoc mine (owners_among system host agent (if t.ends then number + 1 else number) xs) more.rest ∙ ap (λ l. mine ++ l) more.joins }

pub one_for_each : (system : System) (host agent number : ℕ) (xs : List Transfer) →
    length (owners_among system host agent number xs) ≡ length (flat_map (transfer_operations system host agent) (for_agent system host agent xs))
one_for_each system host agent number [] = refl
one_for_each system host agent number (t ∷ xs) = by_place (is_agent agent (place_of system host t)) (one_for_each system host agent (if t.ends then number + 1 else number) xs)
  where
    operations : List Operation
    operations = transfer_operations system host agent t

    rest : List ℕ
    rest = owners_among system host agent (if t.ends then number + 1 else number) xs

    by_place : (b : Bool) → length rest ≡ length (flat_map (transfer_operations system host agent) (for_agent system host agent xs)) →
        length ((if b then replicate (length operations) number else []) ++ rest)
        ≡ length (flat_map (transfer_operations system host agent) (if b then t ∷ for_agent system host agent xs else for_agent system host agent xs))
    by_place false more = more
    by_place true more =
        let one = length-append (replicate (length operations) number) rest in
        let two = length-append operations (flat_map (transfer_operations system host agent) (for_agent system host agent xs)) in
        let same = length-replicate (length operations) number in
        omega (arith, more, one, two, same)

in_front : (i : ℕ) (xs ys : List ℕ) → i < length xs → slice_index xs i ≡ slice_index (xs ++ ys) i
in_front i [] ys low = absurd (omega (arith, low))
in_front zero (x ∷ xs) ys low = refl
in_front (suc i) (x ∷ xs) ys low = in_front i xs ys (omega (arith, low))

in_prefix : (i : ℕ) (xs zs : List ℕ) → IsPrefix xs zs → i < length xs → slice_index xs i ≡ slice_index zs i
in_prefix i xs zs front low = in_front i xs front.rest low ∙ ap (λ l. slice_index l i) front.joins

-- ---- owners of what is taken

own_length : (t : Tagged) (later : List Tagged) → 0 < length (of_host t.tag (t ∷ later))
own_length t later = let same : nat_eq t.tag t.tag ≡ true = grind (arith, tests) in rw same (omega arith)

-- an operation's number with its tag is below how many there are
pub own_here : (t : Tagged) (earlier later : List Tagged) → length (of_host t.tag earlier) < length (of_host t.tag (earlier ++ t ∷ later))
own_here t earlier later =
    let own = own_length t later in
    let split = of_host_append t.tag earlier (t ∷ later) in
    omega (arith, own, split)

same_from : (one two : ℕ → List ℕ) (earlier xs : List Tagged) → ((h n : ℕ) → n < length (of_host h (earlier ++ xs)) → slice_index (one h) n ≡ slice_index (two h) n) →
    owners_from one earlier xs ≡ owners_from two earlier xs
same_from one two earlier [] same = refl
same_from one two earlier (t ∷ later) same =
    let here = own_here t earlier later in
    ap₂ (λ (n : ℕ) (l : List Owner). record { tag = t.tag; command = n } ∷ l) (same t.tag (length (of_host t.tag earlier)) here)
    (same_from one two (earlier ++ t ∷ []) later (λ h n low. same h n (subst (λ l. n < length (of_host h l)) (append_assoc earlier (t ∷ []) later) low)))

more_owners : (issuers : ℕ → List ℕ) (earlier xs ys : List Tagged) → IsPrefix (owners_from issuers earlier xs) (owners_from issuers earlier (xs ++ ys))
more_owners issuers earlier [] ys = record { rest = owners_from issuers earlier ys; joins = refl }
more_owners issuers earlier (t ∷ xs) ys =
    let more = more_owners issuers (earlier ++ t ∷ []) xs ys in
    record { rest = more.rest; joins = ap (λ l. owner_of issuers earlier t ∷ l) more.joins }

more_first : (seen xs ys : List Owner) → IsPrefix (first_owners seen xs) (first_owners seen (xs ++ ys))
more_first seen [] ys = record { rest = first_owners seen ys; joins = refl }
more_first seen (o ∷ xs) ys = by_seen (list_any (is_same_owner o) seen) (more_first seen xs ys) (more_first (o ∷ seen) xs ys)
  where
    by_seen : (b : Bool) → IsPrefix (first_owners seen xs) (first_owners seen (xs ++ ys)) → IsPrefix (first_owners (o ∷ seen) xs) (first_owners (o ∷ seen) (xs ++ ys)) →
        IsPrefix (if b then first_owners seen xs else o ∷ first_owners (o ∷ seen) xs) (if b then first_owners seen (xs ++ ys) else o ∷ first_owners (o ∷ seen) (xs ++ ys))
    by_seen true old fresh = old
    by_seen false old fresh = record { rest = fresh.rest; joins = ap (λ l. o ∷ l) fresh.joins }

-- ---- only joined hosts have operations taken

module _ (system : System) (run : Run) (agent end : ℕ) (serves : ServesInGrantedOrder system run agent end) where
  not_mine : (h grant : ℕ) (beats : List Beat) → nat_eq grant h ≡ false →
      length (of_host h (flat_map (operations_at system agent) (map (λ b. record { tag = grant; beat = b }) beats))) ≡ 0
  not_mine h grant [] other = refl
  not_mine h grant (b ∷ beats) other =
      let rest = not_mine h grant beats other in
      let operations : List Operation = own_operations (system.agent agent).shape (system.agent agent).span b in
      let split = of_host_append h (map (λ o. record { tag = grant; operation = o }) operations) (flat_map (operations_at system agent) (map (λ b. record { tag = grant; beat = b }) beats)) in
      let own : length (of_host h (map (λ o. record { tag = grant; operation = o }) operations)) ≡ 0 = host_ops grant operations h ∙ ap (λ t. if t then length operations else 0) other in
      omega (arith, rest, split, own)

  none_now : (h c : ℕ) → c < end → IsFalse (is_joined system agent h) → length (of_host h (flat_map (operations_at system agent) (beats_taken_in system run agent c))) ≡ 0
  none_now h c fit apart = by_accept (agent_accepts (system.agent agent) (run.at_agent agent) c) refl
    where
      grant : ℕ
      grant = (run.at_agent agent).grant c

      other : IsTrue (is_joined system agent grant) → (b : Bool) → nat_eq grant h ≡ b → b ≡ false
      other joined false e = refl
      other joined true e = let same : grant ≡ h = grind (arith, tests, e) in absurd (both_ways (is_joined system agent h) apart (subst (λ g. IsTrue (is_joined system agent g)) same joined))

      by_accept : (b : Bool) → agent_accepts (system.agent agent) (run.at_agent agent) c ≡ b →
          length (of_host h (flat_map (operations_at system agent) (map (λ b. record { tag = grant; beat = b })
          (flat_map (λ (t : Transfer). t.beats) (only_if b (transfer_at (system.agent agent).shape (run.at_agent agent).signals (agent_accepts (system.agent agent) (run.at_agent agent)) c)))))) ≡ 0
      by_accept false e = refl
      by_accept true e = not_mine h grant _ (other (serves.tags c fit e) (nat_eq grant h) refl)

  pub none_taken : (h c : ℕ) → c ≤ end → IsFalse (is_joined system agent h) → length (of_host h (taken system run agent c)) ≡ 0
  none_taken h zero fit apart = refl
  none_taken h (suc c) fit apart =
      let old = none_taken h c (omega (arith, fit)) apart in
      let now = none_now h c (omega (arith, fit)) apart in
      let parts = of_host_append h (taken system run agent c) (flat_map (operations_at system agent) (beats_taken_in system run agent c)) in
      let split = ap (λ l. length (of_host h l)) (flat_map-append (operations_at system agent) (beats_taken system run agent c) (beats_taken_in system run agent c)) in
      omega (arith, old, now, parts, split)

  module _ (joined : (h : ℕ) → IsTrue (is_joined system agent h) → h < system.hosts)
      (issued_grows : (h c d : ℕ) → c ≤ d → IsPrefix (issued system run h agent c) (issued system run h agent d))
      (taken_grows : (c d : ℕ) → c ≤ d → IsPrefix (taken system run agent c) (taken system run agent d)) (c d : ℕ) (low : c ≤ d) (fit : d ≤ end) where
    owned_alike : (h n : ℕ) → n < length (of_host h (taken system run agent c)) → slice_index (owners system run h agent c) n ≡ slice_index (owners system run h agent d) n
    owned_alike h n less = by_joined (is_joined system agent h) refl
      where
        front : IsPrefix (owners system run h agent c) (owners system run h agent d)
        front =
            let grown = before_prefix _ c d low in
            let more = owners_grow system h agent 1 (host_transfers system run h c) grown.rest in
            subst (λ l. IsPrefix (owners system run h agent c) (owners_among system h agent 1 l)) grown.joins more

        by_joined : (b : Bool) → is_joined system agent h ≡ b → slice_index (owners system run h agent c) n ≡ slice_index (owners system run h agent d) n
        by_joined false e = let none = none_taken h c (omega (arith, low, fit)) e in absurd (omega (arith, none, less))
        by_joined true e =
            let few = prefix_length (serves.in_order c h (omega (arith, low, fit)) (joined h e)) in
            let grown = prefix_length (issued_grows h (c - system.stages) c (omega arith)) in
            let same = one_for_each system h agent 1 (host_transfers system run h c) in
            in_prefix n (owners system run h agent c) (owners system run h agent d) front (omega (arith, few, grown, same, less))

    owners_extend : IsPrefix (owners_taken system run agent c) (owners_taken system run agent d)
    owners_extend =
        let grown = taken_grows c d low in
        let more = more_owners (λ h. owners system run h agent d) [] (taken system run agent c) grown.rest in
        let all = subst (λ l. IsPrefix (owners_from (λ h. owners system run h agent d) [] (taken system run agent c)) (owners_from (λ h. owners system run h agent d) [] l)) grown.joins more in
        subst (λ l. IsPrefix l (owners_taken system run agent d)) (sym (same_from (λ h. owners system run h agent c) (λ h. owners system run h agent d) [] (taken system run agent c) owned_alike)) all

    pub begun_extends : IsPrefix (begun system run agent c) (begun system run agent d)
    begun_extends =
        let more = more_first [] (owners_taken system run agent c) owners_extend.rest in
        subst (λ l. IsPrefix (begun system run agent c) (first_owners [] l)) owners_extend.joins more
