-- While a command hasn't begun, the operations of its host that are taken are those of the commands before it.
use Rattle.std.proofs.Common.{ℕ, zero, suc, ◌<◌, ◌≤◌, ◌≡◌, ◌-◌, Bool, true, false, ◌&&◌, ◌||◌, List, [], ◌∷◌, ◌++◌, length, nat_eq, nat_le, nat_lt, arith, refl, sym, ap, subst, ◌∙◌, tests, IsTrue, IsFalse, Some, None}
use Rattle.std.specs.Prelude.{slice_index}
use Rattle.std.specs.List.{list_any, list_all}
use Rattle.std.proofs.lemmas.Bool.{and_parts, both_ways}
use Rattle.histories.specs.History.{IsPrefix, numbers}
use Rattle.histories.specs.Laws.{before_prefix}
use Rattle.memory_runs.specs.Views.{System, Run}
use Rattle.memory_runs.specs.Commands.{Transfer}
use Rattle.memory_runs.specs.Legal.{IsLegalHost}
use Rattle.memory_runs.specs.Order.{owners, owners_taken, of_host, taken, place_of, host_transfers}
use Rattle.memory_runs.specs.Awake.{is_place, is_for, has_begun, may_be_counted, of_command, up_to, count_for, is_finished, are_taken, are_given, are_finished_before}
use Rattle.memory_awake.proofs.Bits.{no_true}
use Rattle.memory_awake.proofs.Numbers.{chosen, none_above, chosen_append, ops_for, ops_count, up_is, of_is, one_place, any_of_all, presented_is, whole, whole_steady, each_holds, all_at}
use Rattle.memory_awake.proofs.FairBegun.{owners_among}
use Rattle.memory_awake.proofs.FairCounts.{ops_step, first_of}
use Rattle.memory_awake.proofs.FairWaiting.{some_counted, first_found, owner_found, same_up, all_ended}

any_front : {A : Type 0} (test : A → Bool) (xs ys : List A) → IsTrue (list_any test xs) → IsTrue (list_any test (xs ++ ys))
any_front {A} test [] ys any = absurd (no_true any)
any_front {A} test (x ∷ xs) ys any = by_first (test x) any (any_front test xs ys)
  where
    by_first : (b : Bool) → IsTrue (b || list_any test xs) → (IsTrue (list_any test xs) → IsTrue (list_any test (xs ++ ys))) → IsTrue (b || list_any test (xs ++ ys))
    by_first true any more = refl
    by_first false any more = more any

module _ (system : System) (run : Run) (host end : ℕ) (legal : IsLegalHost (system.host host) (run.at_host host) end) where
  abbrev shown_to : ℕ → List Transfer
  shown_to c = whole system run host end legal c

  -- what is presented stays so
  pub still_any : (test : Transfer → Bool) (j from c : ℕ) → from ≤ c → c < end → IsTrue (list_any test (of_command j (host_transfers system run host (suc from)))) → IsTrue (list_any test (of_command j (host_transfers system run host (suc c))))
  still_any test j from c low fit any =
      let grown : IsPrefix (host_transfers system run host (suc from)) (host_transfers system run host (suc c)) = before_prefix _ (suc from) (suc c) (omega (arith, low)) in
      let split = chosen_append system host (λ i. nat_eq i j) 1 (shown_to from) grown.rest in
      let joins : shown_to from ++ grown.rest ≡ shown_to c = ap (λ l. l ++ grown.rest) (sym (presented_is system run host end legal from (omega (arith, low, fit)))) ∙ grown.joins ∙ presented_is system run host end legal c fit in
      subst (λ l. IsTrue (list_any test l)) (sym split ∙ ap (chosen (λ i. nat_eq i j) 1) joins ∙ sym (of_is system run host end legal c j fit))
      (any_front test (chosen (λ i. nat_eq i j) 1 (shown_to from)) _ (subst (λ l. IsTrue (list_any test l)) (of_is system run host end legal from j (omega (arith, low, fit))) any))

  module _ (agent : ℕ) (there : agent < system.agents) where
    abbrev pub before_it : ℕ → ℕ → ℕ
    before_it k c = ops_for system host agent (chosen (λ i. nat_le i k) 1 (shown_to c))

    abbrev pub own : ℕ → ℕ → ℕ
    own k c = ops_for system host agent (chosen (λ i. nat_eq i (suc k)) 1 (shown_to c))

    pub count_up : (k c : ℕ) → c < end → count_for system host agent (up_to k (host_transfers system run host (suc c))) ≡ before_it k c
    count_up k c fit = ops_count system host agent (up_to k (host_transfers system run host (suc c))) ∙ ap (ops_for system host agent) (up_is system run host end legal c k fit)

    pub count_own : (k c : ℕ) → c < end → count_for system host agent (of_command (suc k) (host_transfers system run host (suc c))) ≡ own k c
    count_own k c fit = ops_count system host agent (of_command (suc k) (host_transfers system run host (suc c))) ∙ ap (ops_for system host agent) (of_is system run host end legal c (suc k) fit)

    -- a presented command that may be counted has operations
    pub some_own : (k c : ℕ) → c < end → IsTrue (is_for system run host (Some agent) (suc k) (suc c)) → IsTrue (list_any (may_be_counted system host agent) (of_command (suc k) (host_transfers system run host (suc c)))) → 0 < own k c
    some_own k c fit for_it counted =
        let one = one_place system host None (suc k) 1 (shown_to c) (whole_steady system run host end legal c fit) in
        let any = subst (λ l. IsTrue (list_any (λ (t : Transfer). is_place (Some agent) (place_of system host t)) l)) (of_is system run host end legal c (suc k) fit) for_it in
        let place = any_of_all system host one.0 (Some agent) (chosen (λ i. nat_eq i (suc k)) 1 (shown_to c)) one.1 any in
        some_counted system host agent (chosen (λ i. nat_eq i (suc k)) 1 (shown_to c)) (subst (λ p. IsTrue (all_at system host p (chosen (λ i. nat_eq i (suc k)) 1 (shown_to c)))) place one.1)
        (subst (λ l. IsTrue (list_any (may_be_counted system host agent) l)) (of_is system run host end legal c (suc k) fit) counted)

    -- the operations of finished commands are taken
    pub earlier_taken : (c k : ℕ) → c < end → ((j : ℕ) → 1 ≤ j → j ≤ k → IsTrue (is_finished system run host j c)) → before_it k c ≤ length (of_host host (taken system run agent c))
    unfolding ops_for
    earlier_taken c zero fit all = let none = ap (ops_for system host agent) (none_above system host (λ i. nat_le i 0) 1 (shown_to c) (λ i low. grind (arith, tests, low))) in omega (arith, none)
    earlier_taken c (suc k) fit all =
        by_own (earlier_taken c k fit (λ j low high. all j low (omega (arith, high)))) (nat_eq (count_for system host agent (of_command (suc k) (host_transfers system run host (suc c)))) 0) refl
        (each_holds (are_taken system run host (suc k) c) 0 system.agents agent (and_parts (nat_le (suc k) _) (list_all (are_taken system run host (suc k) c) (numbers 0 system.agents)) (and_parts _ (are_given system run host (suc k) c) (all (suc k) (omega arith) (omega arith))).0).1 (omega arith) (omega (arith, there)))
      where
        by_own : before_it k c ≤ length (of_host host (taken system run agent c)) → (b : Bool) → nat_eq (count_for system host agent (of_command (suc k) (host_transfers system run host (suc c)))) 0 ≡ b →
            IsTrue (b || nat_le (count_for system host agent (up_to (suc k) (host_transfers system run host (suc c)))) (length (of_host host (taken system run agent c)))) → before_it (suc k) c ≤ length (of_host host (taken system run agent c))
        by_own more true e is =
            let none : count_for system host agent (of_command (suc k) (host_transfers system run host (suc c))) ≡ 0 = grind (arith, tests, e) in
            let step = ops_step system host agent k 1 (shown_to c) in
            let count = count_own k c fit in
            omega (arith, more, none, step, count)
        by_own more false e is =
            let all : count_for system host agent (up_to (suc k) (host_transfers system run host (suc c))) ≤ length (of_host host (taken system run agent c)) = grind (arith, tests, is) in
            let count = count_up (suc k) c fit in
            omega (arith, all, count)

    -- a command whose first operation is taken has begun
    pub quiet : (k c : ℕ) → c < end → 0 < own k c → IsFalse (has_begun system run agent host (suc k) (suc c)) → length (of_host host (taken system run agent (suc c))) ≤ before_it k c
    quiet k c fit some unbegun = by_less (nat_lt (before_it k c) (length (of_host host (taken system run agent (suc c))))) refl
      where
        by_less : (b : Bool) → nat_lt (before_it k c) (length (of_host host (taken system run agent (suc c)))) ≡ b → length (of_host host (taken system run agent (suc c))) ≤ before_it k c
        by_less false e = grind (arith, tests, e)
        by_less true e =
            let less : before_it k c < length (of_host host (taken system run agent (suc c))) = grind (arith, tests, e) in
            let at = first_of system host agent k 1 (shown_to c) (omega arith) some in
            let found = owner_found (λ h. owners system run h agent (suc c)) host (suc k) (before_it k c) [] (taken system run agent (suc c))
            (ap (λ l. slice_index (owners_among system host agent 1 l) (before_it k c)) (presented_is system run host end legal c fit) ∙ at) (omega arith) less in
            absurd (both_ways (has_begun system run agent host (suc k) (suc c)) unbegun (first_found (record { tag = host; command = suc k }) [] (owners_taken system run agent (suc c)) found refl))

    -- from a cycle on in which the earlier commands are finished
    module _ (k from : ℕ) (low : from < end) (done : IsTrue (are_finished_before system run host (suc k) from)) where
      each_done : (j : ℕ) → 1 ≤ j → j ≤ k → IsTrue (is_finished system run host j from)
      each_done j least most = each_holds (λ earlier. is_finished system run host earlier from) 1 (suc k - 1) j done least (omega (arith, most))

      ended : k ≤ all_ended system run host end legal from
      ended = by_number k refl
        where
          by_number : (n : ℕ) → n ≡ k → n ≤ all_ended system run host end legal from
          by_number zero e = omega arith
          by_number (suc n) e =
              let parts = and_parts (nat_le (suc n) (all_ended system run host end legal from) && list_all (are_taken system run host (suc n) from) (numbers 0 system.agents)) (are_given system run host (suc n) from) (each_done (suc n) (omega arith) (omega (arith, e))) in
              let t = (and_parts (nat_le (suc n) (all_ended system run host end legal from)) (list_all (are_taken system run host (suc n) from) (numbers 0 system.agents)) parts.0).0 in
              grind (arith, tests, t)

      pub same_before : (c : ℕ) → from ≤ c → c < end → count_for system host agent (up_to (suc k - 1) (host_transfers system run host (suc c))) ≡ before_it k from
      same_before c least fit =
          let one : suc k - 1 ≡ k = omega arith in
          ap (λ n. count_for system host agent (up_to n (host_transfers system run host (suc c)))) one ∙ ap (count_for system host agent) (same_up system run host end legal from c least fit k ended) ∙ count_up k from low

      pub same_before_it : (c : ℕ) → from ≤ c → c < end → before_it k c ≡ before_it k from
      same_before_it c least fit = sym (count_up k c fit) ∙ ap (count_for system host agent) (same_up system run host end legal from c least fit k ended) ∙ count_up k from low

      pub enough_taken : before_it k from ≤ length (of_host host (taken system run agent from))
      enough_taken = earlier_taken from k low each_done
