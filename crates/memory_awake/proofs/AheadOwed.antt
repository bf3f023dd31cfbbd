-- The words that a host is owed are those of its unfinished commands: where all of these are for one agent, it alone owes words.
use Rattle.std.proofs.Common.{ℕ, zero, suc, ◌<◌, ◌≤◌, ◌≡◌, ◌+◌, ◌-◌, Bool, true, false, not, ◌||◌, ◌&&◌, List, [], ◌∷◌, ◌++◌, arith, refl, sym, ap, subst, ◌∙◌, nat_lt, nat_le, nat_eq, length, drop, IsTrue, IsFalse, tests, inl, inr, if◌then◌else◌, le-leb, ltb-true, ltb-false, Option, Some, None}
use Rattle.std.proofs.lemmas.Bool.{and_parts}
use Rattle.std.specs.List.{list_any, list_all}
use Rattle.histories.specs.History.{only_if}
use Rattle.memory_runs.specs.Views.{System, Run}
use Rattle.memory_runs.specs.Commands.{Transfer, is_of_reads, shows, transfer_at}
use Rattle.memory_runs.specs.Legal.{IsLegalHost, host_accepts}
use Rattle.memory_runs.specs.Order.{Asked, place_of, host_transfers}
use Rattle.memory_runs.specs.Awake.{is_place, is_for, is_finished, is_unfinished, has_no_operation, asks_only, commands_begun}
use Rattle.memory_machines.specs.Lines.{asked_among, host_accepted}
use Rattle.memory_parts.specs.Steps.{given_before}
use Rattle.memory_awake.specs.Front.{owes_alone}
use Rattle.memory_awake.proofs.Bits.{no_true, not_by}
use Rattle.memory_awake.proofs.Beats.{both, same_place, drop_past, asked_length, all_of_transfer}
use Rattle.memory_awake.proofs.Places.{drop_front, all_append}
use Rattle.memory_awake.proofs.Numbers.{chosen, ends_in, begins_in, reads_in, Steady, after_one, all_at, is_some, some_after_one, next_number, next_least, chosen_append, none_above, reads_append, reads_one, reads_length, one_place, asked_one_by_one, any_of_all, stands, whole, whole_steady, of_is, finished_given, begins_length, presented_is, each_holds}

all_drop : (place : Option ℕ) (n : ℕ) (xs : List Asked) → IsTrue (list_all (λ (q : Asked). is_place place q.place) xs) → IsTrue (list_all (λ (q : Asked). is_place place q.place) (drop n xs))
all_drop place zero xs all = all
all_drop place (suc n) [] all = refl
all_drop place (suc n) (x ∷ xs) all = all_drop place n xs (and_parts (is_place place x.place) _ all).1

all_front : (system : System) (host : ℕ) (place : Option ℕ) (xs ys : List Transfer) → IsTrue (all_at system host place (xs ++ ys)) → IsTrue (all_at system host place xs)
all_front system host place [] ys all = refl
all_front system host place (x ∷ xs) ys all = let p = and_parts (is_place place (place_of system host x)) _ all in both _ _ p.0 (all_front system host place xs ys p.1)

all_rest : (system : System) (host : ℕ) (place : Option ℕ) (b : Bool) (x : Transfer) (ys : List Transfer) → IsTrue (all_at system host place ((if b then x ∷ [] else []) ++ ys)) → IsTrue (all_at system host place ys)
all_rest system host place true x ys all = (and_parts (is_place place (place_of system host x)) _ all).1
all_rest system host place false x ys all = all

abbrev reads_now : Transfer → ℕ
reads_now x = if is_of_reads x.kind then length x.beats else 0

abbrev number_past : ℕ → Transfer → ℕ
number_past n x = if x.ends then n + 1 else n

module _ (system : System) (host : ℕ) where
  later_of : (o : Option (Option ℕ)) (x : Transfer) (xs : List Transfer) → Steady system host o (x ∷ xs) → Steady system host (after_one system host o x) xs
  unfolding Steady
  later_of None x xs s = s.2
  later_of (Some p) x xs s = s.3

  -- past the last command that has begun there is none
  none_past : (opened : Option (Option ℕ)) (n begun j : ℕ) (xs : List Transfer) → Steady system host opened xs → n + is_some system host opened ≡ begun + 1 → begun + begins_in xs < j → chosen (λ i. nat_eq i j) n xs ≡ []
  unfolding Steady chosen begins_in is_some
  none_past opened n begun j [] s e less = refl
  none_past None n begun j (x ∷ xs) s e less =
      let b : (if x.begins then 1 else 0) ≡ suc zero = rw s.0 refl in
      let other : nat_eq n j ≡ false = other_number n j (omega (arith, e, less, b)) in
      let last = next_number system host n x.ends (is_some system host (after_one system host None x)) in
      let one = some_after_one system host None x in
      ap (λ t. (if t then x ∷ [] else []) ++ chosen (λ i. nat_eq i j) (number_past n x) xs) other
      ∙ none_past (after_one system host None x) (number_past n x) (begun + 1) j xs s.2 (omega (arith, last, one, e)) (omega (arith, less, b))
    where
      other_number : (n j : ℕ) → n < j → nat_eq n j ≡ false
      other_number n j l = grind (arith, tests, l)
  none_past (Some p) n begun j (x ∷ xs) s e less =
      let b : (if x.begins then 1 else 0) ≡ zero = rw s.0 refl in
      let other : nat_eq n j ≡ false = other_number n j (omega (arith, e, less, b)) in
      let last = next_number system host n x.ends (is_some system host (after_one system host (Some p) x)) in
      let one = some_after_one system host (Some p) x in
      ap (λ t. (if t then x ∷ [] else []) ++ chosen (λ i. nat_eq i j) (number_past n x) xs) other
      ∙ none_past (after_one system host (Some p) x) (number_past n x) begun j xs s.3 (omega (arith, last, one, e)) (omega (arith, less, b))
    where
      other_number : (n j : ℕ) → n < j → nat_eq n j ≡ false
      other_number n j l = grind (arith, tests, l)

  -- the words past the first `g` are for a place, where each command is that has one of them
  all_owed : (opened : Option (Option ℕ)) (place : Option ℕ) (n g : ℕ) (xs : List Transfer) → Steady system host opened xs →
      ((j : ℕ) → 0 < reads_in (chosen (λ i. nat_eq i j) n xs) → g < reads_in (chosen (λ i. nat_le i j) n xs) → IsTrue (all_at system host place (chosen (λ i. nat_eq i j) n xs))) →
      IsTrue (list_all (λ (q : Asked). is_place place q.place) (drop g (asked_among system host xs)))
  unfolding chosen reads_in
  all_owed opened place n g [] s each = all_drop place g [] refl
  all_owed opened place n g (x ∷ xs) s each =
      subst (λ l. IsTrue (list_all (λ (q : Asked). is_place place q.place) (drop g l))) (sym (asked_one_by_one system host x xs))
      (by_reach (nat_lt g (reads_now x)) refl (all_owed (after_one system host opened x) place (number_past n x) (g - reads_now x) xs (later_of opened x xs s) more))
    where
      own_length : length (asked_among system host (x ∷ [])) ≡ reads_now x
      own_length = let a = asked_length system host (x ∷ []) in let b = reads_length system host (x ∷ []) in omega (arith, a, b)

      split : (test : ℕ → Bool) → reads_in (chosen test n (x ∷ xs)) ≡ (if test n then reads_now x else 0) + reads_in (chosen test (number_past n x) xs)
      split test =
          let a = reads_append system host (if test n then x ∷ [] else []) (chosen test (number_past n x) xs) in
          let b = reads_one system host (test n) x in
          omega (arith, a, b)

      -- a command with reads past this transfer has a number from the next one on
      from_next : (j : ℕ) → 0 < reads_in (chosen (λ i. nat_eq i j) (number_past n x) xs) → number_past n x ≤ j
      from_next j some = by_test (nat_le (number_past n x) j) refl
        where
          unlike : (k m j : ℕ) → m ≤ k → IsFalse (nat_le m j) → IsFalse (nat_eq k j)
          unlike k m j l f = grind (arith, tests, l, f)

          by_test : (b : Bool) → nat_le (number_past n x) j ≡ b → number_past n x ≤ j
          by_test true e = grind (arith, tests, e)
          by_test false e = let none = ap reads_in (none_above system host (λ i. nat_eq i j) (number_past n x) xs (λ k l. unlike k (number_past n x) j l e)) in absurd (omega (arith, none, some))

      more : (j : ℕ) → 0 < reads_in (chosen (λ i. nat_eq i j) (number_past n x) xs) → g - reads_now x < reads_in (chosen (λ i. nat_le i j) (number_past n x) xs) → IsTrue (all_at system host place (chosen (λ i. nat_eq i j) (number_past n x) xs))
      more j some beyond =
          let low = from_next j some in
          let least = next_least system host n x.ends in
          let reached : nat_le n j ≡ true = le-leb n j (omega (arith, low, least)) in
          let own = split (λ i. nat_eq i j) in
          let all = split (λ i. nat_le i j) in
          let here : (if nat_le n j then reads_now x else 0) ≡ reads_now x = rw reached refl in
          all_rest system host place (nat_eq n j) x _ (each j (omega (arith, some, own)) (omega (arith, beyond, all, here)))

      by_reach : (b : Bool) → nat_lt g (reads_now x) ≡ b → IsTrue (list_all (λ (q : Asked). is_place place q.place) (drop (g - reads_now x) (asked_among system host xs))) →
          IsTrue (list_all (λ (q : Asked). is_place place q.place) (drop g (asked_among system host (x ∷ []) ++ asked_among system host xs)))
      by_reach false e rest =
          let past = ltb-false g (reads_now x) e in
          let l = own_length in
          subst (λ l. IsTrue (list_all (λ (q : Asked). is_place place q.place) l)) (sym (drop_past g (asked_among system host (x ∷ [])) (asked_among system host xs) (omega (arith, past, l))))
          (subst (λ k. IsTrue (list_all (λ (q : Asked). is_place place q.place) (drop (g - k) (asked_among system host xs)))) (sym l) rest)
      by_reach true e rest =
          let less = ltb-true g (reads_now x) e in
          let l = own_length in
          let own = split (λ i. nat_eq i n) in
          let all = split (λ i. nat_le i n) in
          let same : nat_eq n n ≡ true = grind (arith, tests) in
          let upto : nat_le n n ≡ true = grind (arith, tests) in
          let one : (if nat_eq n n then reads_now x else 0) ≡ reads_now x = rw same refl in
          let two : (if nat_le n n then reads_now x else 0) ≡ reads_now x = rw upto refl in
          let here = each n (omega (arith, less, own, one)) (omega (arith, less, all, two)) in
          let head = (and_parts (is_place place (place_of system host x)) _ (subst (λ b. IsTrue (all_at system host place ((if b then x ∷ [] else []) ++ chosen (λ i. nat_eq i n) (number_past n x) xs))) same here)).0 in
          let its = subst (λ p. IsTrue (list_all (λ (q : Asked). is_place p q.place) (asked_among system host (x ∷ [])))) (same_place place (place_of system host x) head) (all_of_transfer system host x) in
          let none : g - reads_now x ≡ 0 = omega (arith, less) in
          subst (λ l. IsTrue (list_all (λ (q : Asked). is_place place q.place) l)) (sym (drop_front g (asked_among system host (x ∷ [])) (asked_among system host xs) (omega (arith, less, l))).0)
          (all_append place _ _ (all_drop place g (asked_among system host (x ∷ [])) its) (subst (λ k. IsTrue (list_all (λ (q : Asked). is_place place q.place) (drop k (asked_among system host xs)))) none rest))

module _ (system : System) (run : Run) (host end : ℕ) (legal : IsLegalHost (system.host host) (run.at_host host) end) (agent c : ℕ) (h : c < end) (only : IsTrue (asks_only system run host agent c)) where
  abbrev all : List Transfer
  all = whole system run host end legal c

  abbrev given : ℕ
  given = given_before system run host c

  abbrev last : List Transfer
  last = only_if (shows (run.at_host host).signals c) (transfer_at (system.host host).shape (run.at_host host).signals (host_accepts (run.at_host host)) c)

  grows : (test : ℕ → Bool) → reads_in (chosen test 1 (host_accepted system run host c)) ≤ reads_in (chosen test 1 all)
  grows test =
      let a = ap reads_in (chosen_append system host test 1 (host_accepted system run host c) last) in
      let b = reads_append system host (chosen test 1 (host_accepted system run host c)) (chosen test (1 + ends_in (host_accepted system run host c)) last) in
      omega (arith, a, b)

  -- a command with a word that isn't given is unfinished
  unfinished : (j : ℕ) → 0 < reads_in (chosen (λ i. nat_eq i j) 1 all) → given < reads_in (chosen (λ i. nat_le i j) 1 all) → IsTrue (is_unfinished system run host j c) × (1 ≤ j) × (j ≤ commands_begun system run host (suc c))
  unfolding reads_in is_some
  unfinished j some more = by_tests (nat_le 1 j) refl (nat_le j (commands_begun system run host (suc c))) refl (is_finished system run host j c) refl
    where
      count : commands_begun system run host (suc c) ≡ begins_in all
      count = begins_length (host_transfers system run host (suc c)) ∙ ap begins_in (presented_is system run host end legal c h)

      first : (k : ℕ) → 1 ≤ k → IsFalse (nat_le 1 j) → IsFalse (nat_eq k j)
      first k l f = grind (arith, tests, l, f)

      past : (b j : ℕ) → IsFalse (nat_le j b) → b < j
      past b j f = grind (arith, tests, f)

      at_least : (i j : ℕ) → IsTrue (nat_le i j) → i ≤ j
      at_least i j t = grind (arith, tests, t)

      by_tests : (a : Bool) → nat_le 1 j ≡ a → (b : Bool) → nat_le j (commands_begun system run host (suc c)) ≡ b → (f : Bool) → is_finished system run host j c ≡ f → IsTrue (is_unfinished system run host j c) × (1 ≤ j) × (j ≤ commands_begun system run host (suc c))
      by_tests false ea b eb f ef = let none = ap reads_in (none_above system host (λ i. nat_eq i j) 1 all (λ k l. first k l ea)) in absurd (omega (arith, none, some))
      by_tests true ea false eb f ef =
          let less = past (commands_begun system run host (suc c)) j eb in
          let n = count in
          let none = ap reads_in (none_past system host None 1 0 j all (whole_steady system run host end legal c h) (omega arith) (omega (arith, less, n))) in
          absurd (omega (arith, none, some))
      by_tests true ea true eb true ef = elim (finished_given system run host end legal c j h ef) [
        | inl none ↦ absurd (omega (arith, none, some))
        | inr few ↦ absurd (omega (arith, few, more))
      ]
      by_tests true ea true eb false ef = (both _ _ (both _ _ ea eb) (not_by (is_finished system run host j c) ef), at_least 1 j ea, at_least j (commands_begun system run host (suc c)) eb)

  for_agent : (j : ℕ) → IsTrue (is_unfinished system run host j c) → 1 ≤ j → j ≤ commands_begun system run host (suc c) → IsTrue (is_for system run host (Some agent) j (suc c))
  for_agent j open_still low high =
      let t = each_holds (λ number. not (is_unfinished system run host number c) || (is_for system run host (Some agent) number (suc c) && not (has_no_operation system run host number (suc c)))) 1 (commands_begun system run host (suc c)) j only low (omega (arith, high)) in
      (and_parts (is_for system run host (Some agent) j (suc c)) _ (second (is_unfinished system run host j c) _ open_still t)).0
    where
      second : (u r : Bool) → IsTrue u → IsTrue (not u || r) → IsTrue r
      second true r u t = t
      second false r u t = absurd (no_true u)

  all_for : (j : ℕ) → IsTrue (is_for system run host (Some agent) j (suc c)) → IsTrue (all_at system host (Some agent) (chosen (λ i. nat_eq i j) 1 all))
  all_for j is =
      let any = subst (λ l. IsTrue (list_any (λ (t : Transfer). is_place (Some agent) (place_of system host t)) l)) (of_is system run host end legal c j h) is in
      let one = one_place system host None j 1 all (whole_steady system run host end legal c h) in
      subst (λ p. IsTrue (list_all (λ (t : Transfer). is_place p (place_of system host t)) (chosen (λ i. nat_eq i j) 1 all))) (any_of_all system host one.0 (Some agent) (chosen (λ i. nat_eq i j) 1 all) one.1 any) one.1

  pub owed_alone : IsTrue (owes_alone system run host agent c)
  owed_alone = all_owed system host None (Some agent) 1 given (host_accepted system run host c) (stands system run host end legal c (omega (arith, h))).steady each
    where
      each : (j : ℕ) → 0 < reads_in (chosen (λ i. nat_eq i j) 1 (host_accepted system run host c)) → given < reads_in (chosen (λ i. nat_le i j) 1 (host_accepted system run host c)) → IsTrue (all_at system host (Some agent) (chosen (λ i. nat_eq i j) 1 (host_accepted system run host c)))
      each j some more =
          let a = grows (λ i. nat_eq i j) in
          let b = grows (λ i. nat_le i j) in
          let u = unfinished j (omega (arith, some, a)) (omega (arith, more, b)) in
          all_front system host (Some agent) _ _ (subst (λ l. IsTrue (all_at system host (Some agent) l)) (chosen_append system host (λ i. nat_eq i j) 1 (host_accepted system run host c) last) (all_for j (for_agent j u.0 u.1 u.2)))
