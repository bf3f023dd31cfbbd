-- Where the parts hold back few beats and words, they move few times in a window in which nothing is served.
use Rattle.std.proofs.Common.{ℕ, zero, suc, ◌<◌, ◌≤◌, ◌≡◌, ◌+◌, ◌-◌, ◌*◌, inl, inr, nat_le, Bool, true, false, ◌||◌, ◌&&◌, List, [], ◌∷◌, ◌++◌, arith, refl, sym, ap, subst, ◌∙◌, length, filter, map, flat_map, nat_eq, IsTrue, IsFalse, Some, tests, if◌then◌else◌, append-nil, length-append}
use Rattle.std.proofs.lemmas.Bool.{and_parts, both_ways, ltb-false}
use Rattle.std.specs.List.{list_any}
use Rattle.std.proofs.Math.Nat.{mul-le-mul_left, mul-le-mul_right}
use Rattle.histories.specs.History.{is_raised, one_if, only_if, before, numbers}
use Rattle.memory_runs.specs.Views.{System, Run}
use Rattle.memory_runs.specs.Commands.{Transfer, agent_accepts, transfer_at}
use Rattle.memory_runs.specs.Order.{TaggedBeat, beats_taken, beats_taken_in, is_read_beat, words_given_in}
use Rattle.memory_runs.specs.Awake.{owes, serves, is_given_from, is_written_to}
use Rattle.memory_runs.specs.Legal.{Word}
use Rattle.memory_machines.specs.Link.{Port, takes, words_at}
use Rattle.histories.specs.Sizes.{sum_below}
use Rattle.histories.specs.Window.{Budget, allowance, allowances}
use Rattle.histories.specs.Junction.{Junctions, budgets, budgets_of_hosts, upper_budget, lower_budget, arbiter_budget}
use Rattle.memory_parts.specs.Steps.{words_from_agent}
use Rattle.memory_awake.specs.Ways.{Ways, Standings, count_in, longest, window, agent_moves, moves_at}
use Rattle.memory_awake.specs.Front.{KeepsWhole, IsUnserved}
use Rattle.memory_awake.specs.Sizes.{allows}
use Rattle.memory_awake.specs.Slack.{Slacks, AllPassOn, IsStill, stirs, brings_next, lower_beats, lower_words, upper_beats, upper_words, stage_allows, link_allows, host_allows, toll, all_allow}
use Rattle.memory_awake.proofs.Bits.{either_part}
use Rattle.memory_awake.proofs.Wanted.{three_parts, listed}

-- ---- counts

never_in : (test : ℕ → Bool) (from size : ℕ) → ((c : ℕ) → c < size → IsFalse (test (from + c))) → count_in test from size ≡ 0
never_in test from zero none = refl
never_in test from (suc size) none =
    let more = never_in test from size (λ c h. none c (omega (arith, h))) in
    let last : one_if (test (from + size)) ≡ zero = ap one_if (none size (omega arith)) in
    omega (arith, more, last)

either_in : (a b : ℕ → Bool) (from size : ℕ) → count_in (λ c. a c || b c) from size ≤ count_in a from size + count_in b from size
either_in a b from zero = omega arith
either_in a b from (suc size) =
    let more = either_in a b from size in
    let last = one_of (a (from + size)) (b (from + size)) in
    omega (arith, more, last)
  where
    one_of : (a b : Bool) → one_if (a || b) ≤ one_if a + one_if b
    one_of true b = omega arith
    one_of false b = omega arith

-- ---- sums

pub sum_most : (f g : ℕ → ℕ) (n : ℕ) → ((i : ℕ) → i < n → f i ≤ g i) → sum_below f n ≤ sum_below g n
sum_most f g zero most = omega arith
sum_most f g (suc n) most = let more = sum_most f g n (λ i h. most i (omega (arith, h))) in let last = most n (omega arith) in omega (arith, more, last)

sum_both : (f g : ℕ → ℕ) (n : ℕ) → sum_below (λ i. f i + g i) n ≡ sum_below f n + sum_below g n
sum_both f g zero = refl
sum_both f g (suc n) = let more = sum_both f g n in omega (arith, more)

times_sum : (a b k : ℕ) → (a + b) * k ≡ a * k + b * k
times_sum a b k = grind arith

sum_times : (f : ℕ → ℕ) (k n : ℕ) → sum_below (λ i. f i * k) n ≡ sum_below f n * k
sum_times f k zero = omega arith
sum_times f k (suc n) = let more = sum_times f k n in let split = times_sum (sum_below f n) (f n) k in omega (arith, more, split)

times_sums : (k : ℕ) (f : ℕ → ℕ) (n : ℕ) → sum_below (λ i. k * f i) n ≡ k * sum_below f n
times_sums k f zero = omega arith
times_sums k f (suc n) = let more = times_sums k f n in let split = split_sum k (sum_below f n) (f n) in omega (arith, more, split)
  where
    split_sum : (k a b : ℕ) → k * (a + b) ≡ k * a + k * b
    split_sum k a b = grind arith

-- ---- allowances

more_allow : (a b largest : ℕ) → a ≤ b → allows a largest ≤ allows b largest
more_allow a b largest h = let m = mul-le-mul_right (largest + 1) h in omega (arith, m)

allows_both : (a b largest : ℕ) → allows (a + b) largest ≡ a * (largest + 1) + allows b largest
allows_both a b largest = let m = times_sum a b (largest + 1) in omega (arith, m)

joined_allow : (xs ys : List Budget) → allowances (xs ++ ys) ≡ allowances xs + allowances ys
joined_allow [] ys = omega arith
joined_allow (x ∷ xs) ys = let more = joined_allow xs ys in omega (arith, more)

budgets_allow : (budget : ℕ → Budget) (n : ℕ) → allowances (budgets budget n) ≡ sum_below (λ i. allowance (budget i)) n
budgets_allow budget zero = refl
budgets_allow budget (suc n) = let more = budgets_allow budget n in omega (arith, more)

first_of_sum : (f : ℕ → ℕ) (n : ℕ) → sum_below f (suc n) ≡ f 0 + sum_below (λ i. f (suc i)) n
first_of_sum f zero = omega arith
first_of_sum f (suc n) = let more = first_of_sum f n in omega (arith, more)

hosts_allow : (run : Junctions) (first count : ℕ) → allowances (budgets_of_hosts run (numbers first count)) ≡ sum_below (λ h. sum_below (λ i. allowance (upper_budget run (first + h) i)) (run.above (first + h))) count
hosts_allow run first zero = refl
hosts_allow run first (suc count) =
    let f : ℕ → ℕ = λ h. sum_below (λ i. allowance (upper_budget run (first + h) i)) (run.above (first + h)) in
    let g : ℕ → ℕ = λ h. sum_below (λ i. allowance (upper_budget run (suc first + h) i)) (run.above (suc first + h)) in
    let join = joined_allow (budgets (upper_budget run first) (run.above first)) (budgets_of_hosts run (numbers (suc first) count)) in
    let own = budgets_allow (upper_budget run first) (run.above first) in
    let more = hosts_allow run (suc first) count in
    let whole = first_of_sum f count in
    let here : f 0 ≡ sum_below (λ i. allowance (upper_budget run first i)) (run.above first) = ap (λ k. sum_below (λ i. allowance (upper_budget run k i)) (run.above k)) (plus_none first) in
    let there = shifted f g count (λ h. ap (λ k. sum_below (λ i. allowance (upper_budget run k i)) (run.above k)) (plus_next first h)) in
    omega (arith, join, own, more, whole, here, there)
  where
    plus_none : (n : ℕ) → n + 0 ≡ n
    plus_none n = omega arith

    plus_next : (n h : ℕ) → n + suc h ≡ suc n + h
    plus_next n h = omega arith

    shifted : (f g : ℕ → ℕ) (n : ℕ) → ((h : ℕ) → f (suc h) ≡ g h) → sum_below (λ i. f (suc i)) n ≡ sum_below g n
    shifted f g zero same = refl
    shifted f g (suc n) same = let more = shifted f g n same in let last = same n in omega (arith, more, last)

-- ---- of several hosts, one alone is served in a cycle

one_alone : (f : ℕ → Bool) (b : Bool) (tag n : ℕ) → ((h : ℕ) → h < n → IsTrue (f h) → IsTrue b × (tag ≡ h)) → sum_below (λ h. one_if (f h)) n ≤ one_if b
one_alone f b tag zero only = omega arith
one_alone f b tag (suc n) only = by_last (f n) refl (one_alone f b tag n (λ h low. only h (omega (arith, low))))
  where
    not_other : (h : ℕ) → h < n → IsTrue (f n) → IsFalse (f h)
    not_other h low last = by_test (f h) refl
      where
        by_test : (t : Bool) → f h ≡ t → IsFalse t
        by_test true e = let a = (only h (omega (arith, low)) e).1 in let b = (only n (omega arith) last).1 in absurd (omega (arith, a, b, low))
        by_test false e = refl

    none_else : (k : ℕ) → k ≤ n → IsTrue (f n) → sum_below (λ h. one_if (f h)) k ≡ 0
    none_else zero low last = refl
    none_else (suc k) low last = let more = none_else k (omega (arith, low)) last in let here : one_if (f k) ≡ zero = ap one_if (not_other k low last) in omega (arith, more, here)

    by_last : (t : Bool) → f n ≡ t → sum_below (λ h. one_if (f h)) n ≤ one_if b → sum_below (λ h. one_if (f h)) n + one_if (f n) ≤ one_if b
    by_last true e more = let none = none_else n (omega arith) e in let here : one_if (f n) ≡ suc zero = ap one_if e in let below : one_if b ≡ suc zero = ap one_if (only n (omega arith) e).0 in omega (arith, none, here, below)
    by_last false e more = let here : one_if (f n) ≡ zero = ap one_if e in omega (arith, more, here)

hosts_count : (f : ℕ → ℕ → Bool) (g : ℕ → Bool) (hosts from size : ℕ) → ((c : ℕ) → c < size → sum_below (λ h. one_if (f h (from + c))) hosts ≤ one_if (g (from + c))) → sum_below (λ h. count_in (f h) from size) hosts ≤ count_in g from size
hosts_count f g hosts from zero each = let none = sum_none hosts in omega (arith, none)
  where
    sum_none : (n : ℕ) → sum_below (λ h. 0) n ≡ 0
    sum_none zero = refl
    sum_none (suc n) = let more = sum_none n in omega (arith, more)
hosts_count f g hosts from (suc size) each =
    let more = hosts_count f g hosts from size (λ c h. each c (omega (arith, h))) in
    let last = each size (omega arith) in
    let split = sum_both (λ h. count_in (f h) from size) (λ h. one_if (f h (from + size))) hosts in
    omega (arith, more, last, split)

-- ---- words

words_grow : (port : Port) (from size : ℕ) → length (words_at port (suc (from + size))) ≡ length (words_at port (suc from)) + count_in (brings_next port) from size
words_grow port from zero = let same : from + 0 ≡ from = omega arith in ap (λ k. length (words_at port (suc k))) same ∙ plus_none (length (words_at port (suc from)))
  where
    plus_none : (n : ℕ) → n ≡ n + 0
    plus_none n = omega arith
words_grow port from (suc size) =
    let same : from + suc size ≡ suc (from + size) = omega arith in
    let more = words_grow port from size in
    let last = one_more (record { word = port.answers.word (suc (from + size)); code = port.answers.code (suc (from + size)) }) (is_raised (port.answers.valid (suc (from + size)))) (words_at port (suc (from + size))) in
    let moved = ap (λ k. length (words_at port (suc k))) same in
    omega (arith, more, last, moved)
  where
    one_more : {A : Type 0} (x : A) (b : Bool) (xs : List A) → length (xs ++ only_if b x) ≡ length xs + one_if b
    one_more {A} x true xs = length-append xs (x ∷ [])
    one_more {A} x false xs = let none = ap length (append-nil xs) in omega (arith, none)

module _ (system : System) (run : Run) (agent : ℕ) (ways : Ways) (standings : Standings) (slacks : Slacks) (from size end : ℕ) (fits : from + size + 2 ≤ end) (keeps : KeepsWhole system run agent ways standings end)
    (pass : AllPassOn system ways slacks end) (none : IsUnserved system run agent from (suc size)) where
  no_accept : (c : ℕ) → c < size → IsFalse (agent_accepts (system.agent agent) (run.at_agent agent) (from + c))
  no_accept c h = (three_parts (agent_accepts (system.agent agent) (run.at_agent agent) (from + c)) _ _ (none.none c (omega (arith, h)))).0

  no_take : (c : ℕ) → c < size → IsFalse (takes (ways.lower 0) (from + c))
  no_take c h = keeps.awake.agent_part.accepted (from + c) (omega (arith, h, fits)) ∙ no_accept c h

  lower_taken : (i : ℕ) → i ≤ ways.stages → count_in (takes (ways.lower i)) from size ≤ lower_beats slacks i
  lower_taken zero h = let never = never_in (takes (ways.lower 0)) from size no_take in omega (arith, never)
  lower_taken (suc i) h = let more = lower_taken i (omega (arith, h)) in let law = (pass.lower i h).beats from size (omega (arith, fits)) in omega (arith, more, law)

  abbrev asked : ℕ → ℕ
  asked c = length (filter is_read_beat (beats_taken system run agent c))

  asked_still : (n : ℕ) → n ≤ size → asked (from + n) ≡ asked from
  asked_still zero h = let same : from + 0 ≡ from = omega arith in ap asked same
  asked_still (suc n) h =
      let same : from + suc n ≡ suc (from + n) = omega arith in
      ap asked same ∙ still ∙ asked_still n (omega (arith, h))
    where
      nothing : beats_taken_in system run agent (from + n) ≡ []
      nothing = ap in_cycle (no_accept n h)
        where
          in_cycle : Bool → List TaggedBeat
          in_cycle b = map (λ x. record { tag = (run.at_agent agent).grant (from + n); beat = x }) (flat_map (λ (t : Transfer). t.beats) (only_if b (transfer_at (system.agent agent).shape (run.at_agent agent).signals (agent_accepts (system.agent agent) (run.at_agent agent)) (from + n))))

      still : asked (suc (from + n)) ≡ asked (from + n)
      still = ap (λ l. length (filter is_read_beat (beats_taken system run agent (from + n) ++ l))) nothing ∙ ap (λ l. length (filter is_read_beat l)) (append-nil (beats_taken system run agent (from + n)))

  abbrev given : ℕ → ℕ
  given c = words_from_agent system run agent c

  one_given : (c : ℕ) → given (suc c) ≤ given c + 1
  one_given c =
      let long = length-append (before (words_given_in system run agent) c) (words_given_in system run agent c) in
      let one = at_most (if (system.agent agent).has_readdatavalid then is_raised ((run.at_agent agent).readdatavalid c) else nat_le (system.agent agent).read_latency c && is_raised ((run.at_agent agent).read (c - (system.agent agent).read_latency)) && agent_accepts (system.agent agent) (run.at_agent agent) (c - (system.agent agent).read_latency))
      (record { word = (run.at_agent agent).readdata c; code = (run.at_agent agent).response c }) in
      omega (arith, long, one)
    where
      at_most : (b : Bool) (x : Word) → length (only_if b x) ≤ 1
      at_most true x = omega arith
      at_most false x = omega arith

  first_words : (n : ℕ) → n ≡ size → count_in (brings_next (ways.lower 0)) from n ≤ 1
  first_words zero same = omega arith
  first_words (suc k) same =
      let grow = words_grow (ways.lower 0) from (suc k) in
      let most = keeps.awake.agent_part.given (suc (from + suc k)) (omega (arith, fits, same)) in
      let one = one_given (from + suc k) in
      let law = keeps.awake.agent_part.asked (from + suc k) (omega (arith, fits, same)) in
      let still = asked_still (suc k) (omega (arith, same)) in
      let begin : from + 0 ≡ from = omega arith in
      let next : from + 1 ≡ suc from = omega arith in
      let first = sym (ap asked next) ∙ asked_still 1 (omega (arith, same)) in
      let all = ltb-false (given (suc from)) (asked (suc from)) (subst (λ x. IsFalse (owes system run agent x)) begin (none.answered 0 (omega (arith, same)))) in
      let come = keeps.awake.agent_part.come from (omega (arith, fits, same)) (subst (λ x. IsFalse (agent_accepts (system.agent agent) (run.at_agent agent) x)) begin (no_accept 0 (omega (arith, same)))) in
      omega (arith, grow, most, one, law, still, first, all, come)

  lower_given : (i : ℕ) → i ≤ ways.stages → count_in (brings_next (ways.lower i)) from size ≤ lower_words slacks i
  lower_given zero h = let first = first_words size refl in omega (arith, first)
  lower_given (suc i) h = let more = lower_given i (omega (arith, h)) in let law = (pass.lower i h).words from size (omega (arith, fits)) in omega (arith, more, law)

  abbrev j : Junctions
  j = window system run agent ways standings from size

  three_in : (up down : Port) → count_in (moves_at up down) from size ≤ count_in (takes down) from size + count_in (takes up) from size + count_in (brings_next up) from size
  three_in up down =
      let two = either_in (λ c. takes down c || takes up c) (brings_next up) from size in
      let one = either_in (takes down) (takes up) from size in
      omega (arith, two, one)

  stage_most : (i : ℕ) → i < ways.stages → allowance (lower_budget j (suc i)) ≤ stage_allows standings slacks i
  stage_most i h =
      let moves = three_in (ways.lower (suc i)) (ways.lower i) in
      let below = lower_taken i (omega (arith, h)) in
      let above = lower_taken (suc i) h in
      let words = lower_given (suc i) h in
      more_allow _ _ (standings.lower i).largest (omega (arith, moves, below, above, words))

  agent_most : allowance (lower_budget j 0) ≤ standings.agent.largest
  agent_most =
      let never = never_in (agent_moves system run agent ways) from size (λ c h. neither _ _ (no_accept c h) (no_take c h)) in
      subst (λ n. n * (standings.agent.largest + 1) + standings.agent.largest ≤ standings.agent.largest) (sym never) (omega arith)
    where
      neither : (a b : Bool) → IsFalse a → IsFalse b → IsFalse (a || b)
      neither a b x y = grind (arith, tests)

  lower_most : allowances (budgets (lower_budget j) (suc ways.stages)) ≤ standings.agent.largest + sum_below (stage_allows standings slacks) ways.stages
  lower_most =
      let whole = budgets_allow (lower_budget j) (suc ways.stages) ∙ first_of_sum (λ i. allowance (lower_budget j i)) ways.stages in
      let most = sum_most (λ i. allowance (lower_budget j (suc i))) (stage_allows standings slacks) ways.stages stage_most in
      let first = agent_most in
      omega (arith, whole, most, first)

  arbiter_most : allowance (arbiter_budget j) ≤ lower_beats slacks ways.stages
  arbiter_most = let few = lower_taken ways.stages (omega arith) in omega (arith, few)

  abbrev beats_of : ℕ → ℕ
  beats_of h = count_in (takes (ways.upper h 0)) from size

  abbrev words_of : ℕ → ℕ
  words_of h = count_in (brings_next (ways.upper h 0)) from size

  all_beats : sum_below beats_of system.hosts ≤ count_in (takes (ways.lower ways.stages)) from size
  all_beats = hosts_count (λ h. takes (ways.upper h 0)) (takes (ways.lower ways.stages)) system.hosts from size
      (λ c h. one_alone (λ k. takes (ways.upper k 0) (from + c)) (takes (ways.lower ways.stages) (from + c)) ((ways.lower ways.stages).commands.tag (from + c)) system.hosts
      (λ k low taken.
      let tag = keeps.awake.arbiter.tagged k (from + c) low (omega (arith, h, fits)) taken in
      (sym (keeps.awake.arbiter.taken k (from + c) low (omega (arith, h, fits)) tag) ∙ taken, tag)))

  all_words : sum_below words_of system.hosts ≤ count_in (brings_next (ways.lower ways.stages)) from size
  all_words = hosts_count (λ h. brings_next (ways.upper h 0)) (brings_next (ways.lower ways.stages)) system.hosts from size
      (λ c h. one_alone (λ k. brings_next (ways.upper k 0) (from + c)) (brings_next (ways.lower ways.stages) (from + c)) (ways.answer_tag ways.stages (suc (from + c))) system.hosts
      (λ k low comes.
      let both = and_parts (is_raised ((ways.lower ways.stages).answers.valid (suc (from + c)))) (nat_eq (ways.answer_tag ways.stages (suc (from + c))) k) (sym (keeps.awake.arbiter.words k (suc (from + c)) low (omega (arith, h, fits))) ∙ comes) in
      (both.0, same_number (ways.answer_tag ways.stages (suc (from + c))) k both.1)))
    where
      same_number : (n m : ℕ) → IsTrue (nat_eq n m) → n ≡ m
      same_number n m e = grind (arith, tests, e)

  abbrev behind : ℕ → Port
  behind h = ways.upper h (ways.above h)

  -- what stirs the port behind a route serves its host
  still : (h : ℕ) → h < system.hosts → IsStill (ways.upper h (ways.above h)) from size
  still h low c begins ends = by_stir (stirs (behind h) c) refl
    where
      serves_none : (k : ℕ) → from ≤ k → k < from + suc size → IsFalse (agent_accepts (system.agent agent) (run.at_agent agent) k) × IsFalse (list_any (is_given_from system run (Some agent) k) (numbers 0 system.hosts)) × IsFalse (list_any (is_written_to system run (Some agent) k) (numbers 0 system.hosts))
      serves_none k low' high = three_parts (agent_accepts (system.agent agent) (run.at_agent agent) k) _ _ (subst (λ x. IsFalse (serves system run agent x)) same (none.none (k - from) (omega (arith, low', high))))
        where
          same : from + (k - from) ≡ k
          same = omega (arith, low')

      by_stir : (b : Bool) → stirs (behind h) c ≡ b → IsFalse b
      by_stir false e = refl
      by_stir true e = elim (either_part (takes (behind h) c && is_raised ((behind h).commands.write c)) (brings_next (behind h) c) e) [
        | inl writes ↦
            let both = and_parts (takes (behind h) c) (is_raised ((behind h).commands.write c)) writes in
            absurd (both_ways _ (serves_none c begins (omega (arith, ends))).2 (listed (is_written_to system run (Some agent) c) 0 system.hosts h (omega arith) (omega (arith, low)) ((keeps.front h low).writes c (omega (arith, ends, fits)) both.0 both.1)))
        | inr comes ↦
            absurd (both_ways _ (serves_none (suc c) (omega (arith, begins)) (omega (arith, ends))).1 (listed (is_given_from system run (Some agent) (suc c)) 0 system.hosts h (omega arith) (omega (arith, low)) (keeps.gives h low (suc c) (omega (arith, ends, fits)) comes)))
      ]

  upper_taken : (h i : ℕ) → h < system.hosts → i ≤ ways.above h → count_in (takes (ways.upper h i)) from size ≤ beats_of h + upper_beats slacks h i
  upper_taken h zero low fit = omega arith
  upper_taken h (suc i) low fit = let more = upper_taken h i low (omega (arith, fit)) in let law = (pass.upper h i low fit).beats from size (omega (arith, fits)) (still h low) in omega (arith, more, law)

  upper_given : (h i : ℕ) → h < system.hosts → i ≤ ways.above h → count_in (brings_next (ways.upper h i)) from size ≤ words_of h + upper_words slacks h i
  upper_given h zero low fit = omega arith
  upper_given h (suc i) low fit = let more = upper_given h i low (omega (arith, fit)) in let law = (pass.upper h i low fit).words from size (omega (arith, fits)) (still h low) in omega (arith, more, law)

  abbrev burden : ℕ → ℕ
  burden h = 2 * beats_of h + words_of h

  link_most : (h i : ℕ) → h < system.hosts → i < ways.above h → allowance (upper_budget j h i) ≤ burden h * ((standings.upper h i).largest + 1) + link_allows standings slacks h i
  link_most h i low fit =
      let moves = three_in (ways.upper h (suc i)) (ways.upper h i) in
      let below = upper_taken h i low (omega (arith, fit)) in
      let above = upper_taken h (suc i) low fit in
      let words = upper_given h (suc i) low fit in
      let own = (upper_beats slacks h i + upper_beats slacks h (suc i)) + upper_words slacks h (suc i) in
      let most = more_allow (count_in (moves_at (ways.upper h (suc i)) (ways.upper h i)) from size) (burden h + own) (standings.upper h i).largest (omega (arith, moves, below, above, words)) in
      let split = allows_both (burden h) own (standings.upper h i).largest in
      omega (arith, most, split)

  host_most : (most h : ℕ) → toll ways standings h ≤ most → h < system.hosts → sum_below (λ i. allowance (upper_budget j h i)) (ways.above h) ≤ burden h * most + host_allows system ways standings slacks h
  host_most most h cheap low =
      let each = sum_most (λ i. allowance (upper_budget j h i)) (λ i. burden h * ((standings.upper h i).largest + 1) + link_allows standings slacks h i) (ways.above h) (λ i fit. link_most h i low fit) in
      let split = sum_both (λ i. burden h * ((standings.upper h i).largest + 1)) (link_allows standings slacks h) (ways.above h) in
      let whole = times_sums (burden h) (λ i. (standings.upper h i).largest + 1) (ways.above h) in
      let less = mul-le-mul_left (burden h) cheap in
      omega (arith, each, split, whole, less)

  hosts_most : (most : ℕ) → ((h : ℕ) → h < system.hosts → toll ways standings h ≤ most) → allowances (budgets_of_hosts j (numbers 0 system.hosts)) ≤ (2 * lower_beats slacks ways.stages + lower_words slacks ways.stages) * most + sum_below (host_allows system ways standings slacks) system.hosts
  hosts_most most cheap =
      let whole = hosts_allow j 0 system.hosts ∙ from_none (λ h. sum_below (λ i. allowance (upper_budget j h i)) (ways.above h)) system.hosts in
      let each = sum_most (λ h. sum_below (λ i. allowance (upper_budget j h i)) (ways.above h)) (λ h. burden h * most + host_allows system ways standings slacks h) system.hosts (λ h low. host_most most h (cheap h low) low) in
      let split = sum_both (λ h. burden h * most) (host_allows system ways standings slacks) system.hosts in
      let times = sum_times burden most system.hosts in
      let parts = sum_both (λ h. 2 * beats_of h) words_of system.hosts in
      let twice = times_sums 2 beats_of system.hosts in
      let beats = all_beats in
      let words = all_words in
      let taken = lower_taken ways.stages (omega arith) in
      let given = lower_given ways.stages (omega arith) in
      let few : sum_below burden system.hosts ≤ 2 * lower_beats slacks ways.stages + lower_words slacks ways.stages = omega (arith, parts, twice, beats, words, taken, given) in
      let less = mul-le-mul_right most few in
      omega (arith, whole, each, split, times, less)
    where
      from_none : (f : ℕ → ℕ) (n : ℕ) → sum_below (λ h. f (0 + h)) n ≡ sum_below f n
      from_none f zero = refl
      from_none f (suc n) = let more = from_none f n in let same : 0 + n ≡ n = omega arith in let last = ap f same in omega (arith, more, last)

  pub few_moves : (most : ℕ) → ((h : ℕ) → h < system.hosts → toll ways standings h ≤ most) → longest system run agent ways standings from size ≤ all_allow system ways standings slacks most
  few_moves most cheap =
      let joined = joined_allow (budgets (lower_budget j) (suc ways.stages)) (budgets_of_hosts j (numbers 0 system.hosts)) in
      let first = arbiter_most in
      let second = lower_most in
      let third = hosts_most most cheap in
      omega (arith, joined, first, second, third)
