-- Where all commands of a host before its last one are finished, no more than one read is under way.
use Rattle.std.proofs.Common.{ℕ, suc, ◌<◌, ◌≤◌, ◌≡◌, ◌+◌, ◌-◌, Bool, true, false, List, [], ◌∷◌, ◌++◌, length, map, arith, refl, ap, subst, ◌∙◌, nat_le, nat_lt, if◌then◌else◌, IsTrue, IsFalse, Option, Some, None, tests}
use Rattle.histories.specs.History.{unreached, only_if}
use Rattle.memory_runs.specs.Views.{System, Run}
use Rattle.memory_runs.specs.Commands.{Transfer, transfer_at, shows, is_of_reads, reads_among, accepted}
use Rattle.memory_runs.specs.Legal.{IsLegalHost, host_accepts, unanswered}
use Rattle.memory_runs.specs.Order.{host_transfers}
use Rattle.memory_runs.specs.Awake.{commands_begun, is_finished, are_finished_before}
use Rattle.memory_parts.specs.Steps.{given_before, has_room}
use Rattle.memory_awake.proofs.Numbers.{chosen, ends_in, begins_in, reads_in, Steady, after_one, is_some, some_after_one, chosen_append, reads_append, stands, whole, earlier_given, begins_length, presented_is, each_holds}

-- one transfer more, by numbers: `under` is how many of the later reads are under way, by the words that are given
one_more : (k n size begun reads begins opened g : ℕ) (is_read reached : Bool) (under : ℕ → ℕ) → nat_le n k ≡ reached → begins + opened ≡ 1 →
    (if reached then (if is_read then size else 0) else 0) + reads ≤ g → ((g : ℕ) → under g ≤ begun) → ((g : ℕ) → reads ≤ g → under g ≤ (begun + (n + 1)) - (k + 1)) →
    (if is_read then (if nat_lt g size then 1 else 0) + under (g - size) else under g) ≤ ((begins + begun) + (n + opened)) - (k + 1)
one_more k n size begun reads begins opened g false true under e start few all later = let rest = later g (omega (arith, few)) in omega (arith, rest, start)
one_more k n size begun reads begins opened g false false under e start few all later = let rest = later g (omega (arith, few)) in omega (arith, rest, start)
one_more k n size begun reads begins opened g true true under e start few all later =
    let enough : nat_lt g size ≡ false = grind (arith, tests, few) in
    let rest = later (g - size) (omega (arith, few)) in
    rw enough (omega (arith, rest, start))
one_more k n size begun reads begins opened g true false under e start few all later =
    let past : k < n = grind (arith, tests, e) in
    let rest = all (g - size) in
    by_size (nat_lt g size) rest past
  where
    by_size : (s : Bool) → under (g - size) ≤ begun → k < n → (if s then 1 else 0) + under (g - size) ≤ ((begins + begun) + (n + opened)) - (k + 1)
    by_size true rest past = omega (arith, rest, past, start)
    by_size false rest past = omega (arith, rest, past, start)

module _ (system : System) (host : ℕ) where
  -- each read begins a command
  few_reads : (opened : Option (Option ℕ)) (ts : List Transfer) (g : ℕ) → Steady system host opened ts → unreached (map (λ t. length t.beats) (reads_among ts)) g ≤ begins_in ts
  unfolding Steady begins_in
  few_reads opened [] g steady = omega arith
  few_reads None (t ∷ ts) g steady = by_kind (is_of_reads t.kind) (λ g. few_reads (after_one system host None t) ts g steady.2)
    where
      by_kind : (b : Bool) → ((g : ℕ) → unreached (map (λ t. length t.beats) (reads_among ts)) g ≤ begins_in ts) →
          unreached (map (λ t. length t.beats) (if b then t ∷ reads_among ts else reads_among ts)) g ≤ (if t.begins then 1 else 0) + begins_in ts
      by_kind false more = let rest = more g in omega (arith, rest)
      by_kind true more = let rest = more (g - length t.beats) in let start = steady.0 in rw start (by_size (nat_lt g (length t.beats)) rest)
        where
          by_size : (s : Bool) → unreached (map (λ t. length t.beats) (reads_among ts)) (g - length t.beats) ≤ begins_in ts → (if s then 1 else 0) + unreached (map (λ t. length t.beats) (reads_among ts)) (g - length t.beats) ≤ 1 + begins_in ts
          by_size true rest = omega (arith, rest)
          by_size false rest = omega (arith, rest)
  few_reads (Some p) (t ∷ ts) g steady = by_kind (is_of_reads t.kind) steady.1 (few_reads (after_one system host (Some p) t) ts g steady.3)
    where
      by_kind : (b : Bool) → IsFalse b → unreached (map (λ t. length t.beats) (reads_among ts)) g ≤ begins_in ts →
          unreached (map (λ t. length t.beats) (if b then t ∷ reads_among ts else reads_among ts)) g ≤ (if t.begins then 1 else 0) + begins_in ts
      by_kind false none more = omega (arith, more)
      by_kind true none more = absurd cc

  by_read : (t : Transfer) (ts : List Transfer) (g most : ℕ) (b : Bool) →
      (if b then (if nat_lt g (length t.beats) then 1 else 0) + unreached (map (λ t. length t.beats) (reads_among ts)) (g - length t.beats) else unreached (map (λ t. length t.beats) (reads_among ts)) g) ≤ most →
      unreached (map (λ t. length t.beats) (if b then t ∷ reads_among ts else reads_among ts)) g ≤ most
  by_read t ts g most true few = few
  by_read t ts g most false few = few

  reads_of : (t : Transfer) (b : Bool) → reads_in (if b then t ∷ [] else []) ≡ (if b then (if is_of_reads t.kind then length t.beats else 0) else 0)
  unfolding reads_in
  reads_of t true = omega arith
  reads_of t false = refl

  starts : (opened : Option (Option ℕ)) (t : Transfer) (ts : List Transfer) → Steady system host opened (t ∷ ts) → (if t.begins then 1 else 0) + is_some system host opened ≡ 1
  unfolding Steady is_some
  starts None t ts steady = let start = steady.0 in rw start refl
  starts (Some p) t ts steady = let start = steady.0 in rw start refl

  pub rest_is : (opened : Option (Option ℕ)) (t : Transfer) (ts : List Transfer) → Steady system host opened (t ∷ ts) → Steady system host (after_one system host opened t) ts
  unfolding Steady
  rest_is None t ts steady = steady.2
  rest_is (Some p) t ts steady = steady.3

  next : (opened : Option (Option ℕ)) (t : Transfer) (n : ℕ) → (if t.ends then n + 1 else n) + is_some system host (after_one system host opened t) ≡ n + 1
  next opened t n = by_end t.ends (some_after_one system host opened t)
    where
      by_end : (e : Bool) → is_some system host (after_one system host opened t) + (if e then 1 else 0) ≡ 1 → (if e then n + 1 else n) + is_some system host (after_one system host opened t) ≡ n + 1
      by_end true one = omega (arith, one)
      by_end false one = omega (arith, one)

  -- where the words of the commands up to a number are given, only later commands have reads under way
  later_reads : (k : ℕ) (opened : Option (Option ℕ)) (n : ℕ) (ts : List Transfer) (g : ℕ) → Steady system host opened ts → reads_in (chosen (λ i. nat_le i k) n ts) ≤ g →
      unreached (map (λ t. length t.beats) (reads_among ts)) g ≤ (begins_in ts + (n + is_some system host opened)) - (k + 1)
  unfolding begins_in chosen
  later_reads k opened n [] g steady few = omega arith
  later_reads k opened n (t ∷ ts) g steady few =
      let after : ℕ = if t.ends then n + 1 else n in
      let rest = rest_is opened t ts steady in
      let moved = next opened t n in
      let split = reads_append system host (if nat_le n k then t ∷ [] else []) (chosen (λ i. nat_le i k) after ts) in
      let own = reads_of t (nat_le n k) in
      by_read t ts g _ (is_of_reads t.kind)
      (one_more k n (length t.beats) (begins_in ts) (reads_in (chosen (λ i. nat_le i k) after ts)) (if t.begins then 1 else 0) (is_some system host opened) g (is_of_reads t.kind) (nat_le n k)
      (λ g. unreached (map (λ t. length t.beats) (reads_among ts)) g) refl (starts opened t ts steady) (subst (λ m. m ≤ g) (split ∙ ap (λ m. m + reads_in (chosen (λ i. nat_le i k) after ts)) own) few)
      (λ g. few_reads (after_one system host opened t) ts g rest)
      (λ g low. subst (λ m. unreached (map (λ t. length t.beats) (reads_among ts)) g ≤ (begins_in ts + m) - (k + 1)) moved (later_reads k (after_one system host opened t) after ts g rest low)))

begins_more : (xs ys : List Transfer) → begins_in xs ≤ begins_in (xs ++ ys)
unfolding begins_in
begins_more [] ys = omega arith
begins_more (x ∷ xs) ys = let more = begins_more xs ys in omega (arith, more)

pub room : (system : System) (run : Run) (host end : ℕ) → IsLegalHost (system.host host) (run.at_host host) end → (c : ℕ) → c < end →
    IsTrue (are_finished_before system run host (commands_begun system run host (suc c)) c) → IsTrue (has_room system run host c)
unfolding is_some
room system run host end legal c fit earlier = few_enough _ few
  where
    last : ℕ
    last = commands_begun system run host (suc c)

    all : List Transfer
    all = accepted (system.host host).shape (run.at_host host).signals (host_accepts (run.at_host host)) c

    beat : List Transfer
    beat = only_if (shows (run.at_host host).signals c) (transfer_at (system.host host).shape (run.at_host host).signals (host_accepts (run.at_host host)) c)

    begun : last ≡ begins_in (whole system run host end legal c)
    begun = begins_length (host_transfers system run host (suc c)) ∙ ap begins_in (presented_is system run host end legal c fit)

    given : reads_in (chosen (λ i. nat_le i (last - 1)) 1 all) ≤ given_before system run host c
    given =
        let more = earlier_given system run host end legal c (last - 1) fit (λ j low high. each_holds (λ k. is_finished system run host k c) 1 (last - 1) j earlier low (omega (arith, high))) in
        let parts = ap reads_in (chosen_append system host (λ i. nat_le i (last - 1)) 1 all beat) ∙ reads_append system host (chosen (λ i. nat_le i (last - 1)) 1 all) (chosen (λ i. nat_le i (last - 1)) (1 + ends_in all) beat) in
        omega (arith, more, parts)

    few : unanswered (system.host host).shape (run.at_host host).signals (host_accepts (run.at_host host)) (given_before system run host c) c ≤ 1
    few =
        let most = later_reads system host (last - 1) None 1 all (given_before system run host c) (stands system run host end legal c (omega (arith, fit))).steady given in
        let grown = begins_more all beat in
        let is = begun in
        omega (arith, most, grown, is)

    few_enough : (n : ℕ) → n ≤ 1 → IsTrue (nat_lt n 16)
    few_enough n low = grind (arith, tests, low)
