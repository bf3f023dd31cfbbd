-- A wanted agent is served: what a host wants is work of some part on its way.
use Rattle.std.proofs.Common.{ℕ, zero, suc, ◌<◌, ◌≤◌, ◌≡◌, ◌+◌, Bool, true, false, not, ◌||◌, ◌&&◌, List, [], ◌∷◌, ◌++◌, arith, refl, sym, ap, subst, ◌∙◌, nat_lt, nat_eq, length, map, filter, IsTrue, IsFalse, tests, inl, inr, ◌⊎◌, if◌then◌else◌, Some, append-nil, length-append, ltb-false}
use Rattle.std.proofs.lemmas.Bool.{or_left, or_right, or_parts, both_ways}
use Rattle.std.proofs.lemmas.List.{length-map}
use Rattle.std.specs.List.{list_any}
use Rattle.histories.specs.History.{numbers, is_raised, IsPrefix}
use Rattle.histories.specs.Laws.{prefix_flat_map, prefix_filter, prefix_length, before_extends}
use Rattle.memory_runs.specs.Views.{System, Run, Shape}
use Rattle.memory_runs.specs.Commands.{shows, is_held, agent_accepts}
use Rattle.memory_runs.specs.Operations.{Operation}
use Rattle.memory_runs.specs.Order.{taken, of_host, Tagged, has_tag}
use Rattle.memory_runs.specs.Awake.{owes, serves, is_given_from, is_written_to, Throughout, Sometime}
use Rattle.memory_machines.specs.Lines.{target_of, tagged_operations, groups_of, with_tag, TaggedPort}
use Rattle.memory_machines.specs.Link.{Target, Port, Marked, takes, taken_at, shown_at, marked_at, operations_among, operations_in, AreLegalAt}
use Rattle.memory_machines.specs.Rank.{is_unclosed, is_owed}
use Rattle.memory_machines.specs.Turns.{seats_of}
use Rattle.histories.specs.Turns.{AllShare}
use Rattle.histories.specs.Path.{works, stands}
use Rattle.histories.specs.Junction.{Junctions, any_below, has_work, moment, arbiter_works}
use Rattle.memory_parts.specs.Steps.{IsArbiterPart}
use Rattle.memory_links.specs.Going.{is_untaken, is_behind}
use Rattle.memory_machines.specs.SideLaws.{taken_is_shown}
use Rattle.memory_awake.specs.Ways.{Ways, Standings, KeepsAwake, IsAtWork, longest, window, links_at, lower_at, tagged, moves_at}
use Rattle.memory_awake.specs.Front.{KeepsWhole, Wants, Wants.a_beat, Wants.an_operation, Wants.a_word, IsWantedAt, is_bursting}
use Rattle.memory_awake.proofs.Owed.{owed_below}
use Rattle.memory_awake.proofs.Bits.{none_taken, one_taken, taken_still, holds, no_true}

any_of : (test : ℕ → Bool) (n k : ℕ) → k < n → IsTrue (test k) → IsTrue (any_below test n)
any_of test zero k h holds = absurd (omega (arith, h))
any_of test (suc n) k h holds = by_place (nat_eq k n) refl (any_of test n k)
  where
    by_place : (b : Bool) → nat_eq k n ≡ b → (k < n → IsTrue (test k) → IsTrue (any_below test n)) → IsTrue (test n || any_below test n)
    by_place false e more = or_right (test n) (any_below test n) (more (grind (arith, tests, e, h)) holds)
    by_place true e more = let same : k ≡ n = grind (arith, tests, e) in or_left (test n) _ (rw same at holds)

none_of : (test : ℕ → Bool) (n k : ℕ) → IsFalse (any_below test n) → k < n → IsFalse (test k)
none_of test n k none h = by_test (test k) refl
  where
    by_test : (b : Bool) → test k ≡ b → IsFalse b
    by_test true e = absurd (both_ways (any_below test n) none (any_of test n k h e))
    by_test false e = refl

pub listed : (test : ℕ → Bool) (first count h : ℕ) → first ≤ h → h < first + count → IsTrue (test h) → IsTrue (list_any test (numbers first count))
listed test first zero h low high t = absurd (omega (arith, low, high))
listed test first (suc count) h low high t = by_same (nat_eq first h) refl (listed test (suc first) count h)
  where
    by_same : (b : Bool) → nat_eq first h ≡ b → (suc first ≤ h → h < suc first + count → IsTrue (test h) → IsTrue (list_any test (numbers (suc first) count))) → IsTrue (test first || list_any test (numbers (suc first) count))
    by_same true e more = let same : first ≡ h = grind (arith, tests, e) in or_left (test first) _ (subst (λ x. IsTrue (test x)) (sym same) t)
    by_same false e more = or_right (test first) _ (more (grind (arith, tests, e, low)) (omega (arith, high)) t)

pub some_or_none : (test : ℕ → Bool) (n : ℕ) → ((c : ℕ) × (c < n) × IsTrue (test c)) ⊎ ((c : ℕ) → c < n → IsFalse (test c))
some_or_none test n = by_any (any_below test n) refl
  where
    some_below : (n : ℕ) → IsTrue (any_below test n) → (k : ℕ) × (k < n) × IsTrue (test k)
    some_below zero h = absurd (no_true h)
    some_below (suc n) h = by_test (test n) refl h (some_below n)
      where
        by_test : (b : Bool) → test n ≡ b → IsTrue (b || any_below test n) → (IsTrue (any_below test n) → (k : ℕ) × (k < n) × IsTrue (test k)) → (k : ℕ) × (k < suc n) × IsTrue (test k)
        by_test true e h more = (n, omega arith, e)
        by_test false e h more = let found = more h in (found.0, omega (arith, found.1), found.2)

    by_any : (b : Bool) → any_below test n ≡ b → ((c : ℕ) × (c < n) × IsTrue (test c)) ⊎ ((c : ℕ) → c < n → IsFalse (test c))
    by_any true e = inl (some_below n e)
    by_any false e = inr (λ c h. none_of test n c e h)

taken_extends : (port : Port) (c : ℕ) → IsPrefix (taken_at port c) (taken_at port (suc c))
taken_extends port c = before_extends _ c

pub two_of : (a b : Bool) {R : Type 0} → IsTrue (a || b) → (IsTrue a → R) → (IsTrue b → R) → R
two_of true b h fa fb = fa refl
two_of false b h fa fb = fb h

pub three_of : (a b c : Bool) {R : Type 0} → IsTrue (a || b || c) → (IsTrue a → R) → (IsTrue b → R) → (IsTrue c → R) → R
three_of true b c h fa fb fc = fa refl
three_of false true c h fa fb fc = fb refl
three_of false false true h fa fb fc = fc refl
three_of false false false h fa fb fc = absurd (no_true h)

four_work : (s u o r : Bool) → IsTrue (s || u || o || r) → IsTrue (s || u || o || r)
four_work s u o r h = h

stands_works : (s u o r : Bool) → IsTrue s → IsTrue (s || u || o || r)
stands_works s u o r h = or_left ((s || u) || o) r (or_left (s || u) o (or_left s u h))

untaken_works : (s u o r : Bool) → IsTrue u → IsTrue (s || u || o || r)
untaken_works s u o r h = or_left ((s || u) || o) r (or_left (s || u) o (or_right s u h))

ready_works : (s u o r : Bool) → IsTrue r → IsTrue (s || u || o || r)
ready_works s u o r h = or_right ((s || u) || o) r h

idle_untaken : (s u o r : Bool) → IsFalse (s || u || o || r) → IsFalse u
idle_untaken s u o r h = (or_parts s u (or_parts (s || u) o (or_parts ((s || u) || o) r h).0).0).1

idle_behind : (s u d o r : Bool) → IsFalse (s || (u || d) || o || r) → IsFalse u
idle_behind s u d o r h = (or_parts u d (idle_untaken s (u || d) o r h)).0

not_waiting : (hw s w other : Bool) → IsFalse w → IsFalse (hw && s && not (if hw then s && not w else other))
not_waiting true true w other f = rw f refl
not_waiting true false w other f = refl
not_waiting false s w other f = refl

pub three_parts : (a b c : Bool) → IsFalse (a || b || c) → IsFalse a × IsFalse b × IsFalse c
three_parts a b c f = let p = or_parts (a || b) c f in let q = or_parts a b p.0 in (q.0, q.1, p.1)

-- ---- operations with one tag

pub host_ops : (tag : ℕ) (ops : List Operation) (h : ℕ) → length (of_host h (map (λ o. record { tag = tag; operation = o }) ops)) ≡ (if nat_eq tag h then length ops else 0)
host_ops tag [] h = by_same (nat_eq tag h)
  where
    by_same : (b : Bool) → zero ≡ (if b then zero else zero)
    by_same true = refl
    by_same false = refl
host_ops tag (o ∷ ops) h = by_same (nat_eq tag h) (host_ops tag ops h)
  where
    by_same : (b : Bool) → length (of_host h (map (λ o. record { tag = tag; operation = o }) ops)) ≡ (if b then length ops else 0) →
        length (map (λ (t : Tagged). t.operation) (if b then record { tag = tag; operation = o } ∷ filter (has_tag h) (map (λ o. record { tag = tag; operation = o }) ops) else filter (has_tag h) (map (λ o. record { tag = tag; operation = o }) ops)))
        ≡ (if b then suc (length ops) else 0)
    by_same true more = ap suc more
    by_same false more = more

pub of_host_append : (h : ℕ) (xs ys : List Tagged) → length (of_host h (xs ++ ys)) ≡ length (of_host h xs) + length (of_host h ys)
of_host_append h [] ys = omega arith
of_host_append h (x ∷ xs) ys = by_same (has_tag h x) (of_host_append h xs ys)
  where
    by_same : (b : Bool) → length (of_host h (xs ++ ys)) ≡ length (of_host h xs) + length (of_host h ys) →
        length (map (λ (t : Tagged). t.operation) (if b then x ∷ filter (has_tag h) (xs ++ ys) else filter (has_tag h) (xs ++ ys)))
        ≡ length (map (λ (t : Tagged). t.operation) (if b then x ∷ filter (has_tag h) xs else filter (has_tag h) xs)) + length (of_host h ys)
    by_same true more = omega (arith, more)
    by_same false more = more

of_host_most : (h : ℕ) (xs : List Tagged) → length (of_host h xs) ≤ length xs
of_host_most h [] = omega arith
of_host_most h (x ∷ xs) = by_same (has_tag h x) (of_host_most h xs)
  where
    by_same : (b : Bool) → length (of_host h xs) ≤ length xs → length (map (λ (t : Tagged). t.operation) (if b then x ∷ filter (has_tag h) xs else filter (has_tag h) xs)) ≤ suc (length xs)
    by_same true more = omega (arith, more)
    by_same false more = omega (arith, more)

pub tagged_of_host : (target : Target) (shape : Shape) (ms : List Marked) (h : ℕ) → length (of_host h (tagged_operations (groups_of target shape ms))) ≡ length (operations_among target shape (with_tag h ms))
tagged_of_host target shape [] h = refl
tagged_of_host target shape (m ∷ ms) h = by_same (nat_eq m.tag h) refl (tagged_of_host target shape ms h)
  where
    by_same : (b : Bool) → nat_eq m.tag h ≡ b → length (of_host h (tagged_operations (groups_of target shape ms))) ≡ length (operations_among target shape (with_tag h ms)) →
        length (of_host h (map (λ o. record { tag = m.tag; operation = o }) (operations_in target shape m) ++ tagged_operations (groups_of target shape ms)))
        ≡ length (operations_among target shape (if b then m ∷ with_tag h ms else with_tag h ms))
    by_same true e more =
        let split = of_host_append h (map (λ o. record { tag = m.tag; operation = o }) (operations_in target shape m)) (tagged_operations (groups_of target shape ms)) in
        let one : length (of_host h (map (λ o. record { tag = m.tag; operation = o }) (operations_in target shape m))) ≡ length (operations_in target shape m) = host_ops m.tag (operations_in target shape m) h ∙ ap (λ b. if b then length (operations_in target shape m) else 0) e in
        let long = length-append (operations_in target shape m) (operations_among target shape (with_tag h ms)) in
        omega (arith, split, one, long, more)
    by_same false e more =
        let split = of_host_append h (map (λ o. record { tag = m.tag; operation = o }) (operations_in target shape m)) (tagged_operations (groups_of target shape ms)) in
        let one : length (of_host h (map (λ o. record { tag = m.tag; operation = o }) (operations_in target shape m))) ≡ 0 = host_ops m.tag (operations_in target shape m) h ∙ ap (λ b. if b then length (operations_in target shape m) else 0) e in
        omega (arith, split, one, more)

abbrev tagged_one : ℕ → Operation → Tagged
tagged_one tag o = record { tag = tag; operation = o }

tagged_length : (target : Target) (shape : Shape) (ms : List Marked) → length (tagged_operations (groups_of target shape ms)) ≡ length (operations_among target shape ms)
tagged_length target shape [] = refl
tagged_length target shape (m ∷ ms) =
    let more = tagged_length target shape ms in
    let one = length-append (map (λ o. record { tag = m.tag; operation = o }) (operations_in target shape m)) (tagged_operations (groups_of target shape ms)) in
    let two = length-append (operations_in target shape m) (operations_among target shape ms) in
    let size : length (map (λ (o : Operation). tagged_one m.tag o) (operations_in target shape m)) ≡ length (operations_in target shape m) = length-map (operations_in target shape m) (tagged_one m.tag) in
    omega (arith, more, one, two, size)

-- operations are told by the bytes of a word alone
pub same_operations : (target : Target) (one other : Shape) (m : Marked) → one.word_bytes ≡ other.word_bytes → operations_in target one m ≡ operations_in target other m
same_operations target one other m e = ap (λ w. operations_in target (record one { word_bytes = w }) m) e

-- what an arbiter takes of an asker is what it takes below with that tag
pub own_taken : (system : System) (agent : ℕ) (up : ℕ → Port) (down : TaggedPort) (end : ℕ) → IsArbiterPart system agent up down end → (target : Target) (h : ℕ) → h < system.hosts → (up h).shape.word_bytes ≡ down.shape.word_bytes →
    (c : ℕ) → c ≤ end → length (operations_among target (up h).shape (taken_at (up h) c)) ≡ length (operations_among target down.shape (with_tag h (taken_at down.port c)))
own_taken system agent up down end part target h low word zero fit = refl
own_taken system agent up down end part target h low word (suc c) fit = by_take (takes down.port c) refl (nat_eq (down.commands.tag c) h) refl (own_taken system agent up down end part target h low word c (omega (arith, fit)))
  where
    ops_append : (shape : Shape) (xs : List Marked) (m : Marked) → length (operations_among target shape (xs ++ m ∷ [])) ≡ length (operations_among target shape xs) + length (operations_in target shape m)
    ops_append shape [] m = let same = ap length (append-nil (operations_in target shape m)) in omega (arith, same)
    ops_append shape (x ∷ xs) m =
        let more = ops_append shape xs m in
        let one = length-append (operations_in target shape x) (operations_among target shape (xs ++ m ∷ [])) in
        let two = length-append (operations_in target shape x) (operations_among target shape xs) in
        omega (arith, more, one, two)

    tag_append : (xs : List Marked) (m : Marked) → with_tag h (xs ++ m ∷ []) ≡ with_tag h xs ++ (if nat_eq m.tag h then m ∷ [] else [])
    tag_append [] m = refl
    tag_append (x ∷ xs) m = by_tag (nat_eq x.tag h) (tag_append xs m)
      where
        by_tag : (b : Bool) → with_tag h (xs ++ m ∷ []) ≡ with_tag h xs ++ (if nat_eq m.tag h then m ∷ [] else []) →
            (if b then x ∷ with_tag h (xs ++ m ∷ []) else with_tag h (xs ++ m ∷ [])) ≡ (if b then x ∷ with_tag h xs else with_tag h xs) ++ (if nat_eq m.tag h then m ∷ [] else [])
        by_tag true e = ap (λ l. x ∷ l) e
        by_tag false e = e

    not_own : nat_eq (down.commands.tag c) h ≡ false → (b : Bool) → takes (up h) c ≡ b → IsFalse b
    not_own e true eb = let tag = part.tagged h c low (omega (arith, fit)) eb in absurd (grind (arith, tests, e, tag))
    not_own e false eb = refl

    by_take : (t : Bool) → takes down.port c ≡ t → (s : Bool) → nat_eq (down.commands.tag c) h ≡ s →
        length (operations_among target (up h).shape (taken_at (up h) c)) ≡ length (operations_among target down.shape (with_tag h (taken_at down.port c))) →
        length (operations_among target (up h).shape (taken_at (up h) (suc c))) ≡ length (operations_among target down.shape (with_tag h (taken_at down.port (suc c))))
    by_take true et true es more =
        let tag : down.commands.tag c ≡ h = grind (arith, tests, es) in
        let above = part.taken h c low (omega (arith, fit)) tag ∙ et in
        let same = part.same h c low (omega (arith, fit)) tag et in
        let left = ap (λ l. length (operations_among target (up h).shape l)) (one_taken (up h) c above) ∙ ops_append (up h).shape (taken_at (up h) c) (marked_at (up h) c) in
        let right = ap (λ l. length (operations_among target down.shape (with_tag h l))) (one_taken down.port c et)
        ∙ ap (λ l. length (operations_among target down.shape l)) (tag_append (taken_at down.port c) (marked_at down.port c) ∙ ap (λ b. with_tag h (taken_at down.port c) ++ (if b then marked_at down.port c ∷ [] else [])) es)
        ∙ ops_append down.shape (with_tag h (taken_at down.port c)) (marked_at down.port c) in
        let one = ap length (same_operations target (up h).shape down.shape (marked_at (up h) c) word ∙ ap (operations_in target down.shape) same) in
        omega (arith, left, right, one, more)
    by_take true et false es more =
        let left = ap (λ l. length (operations_among target (up h).shape l)) (none_taken (up h) c (not_own es (takes (up h) c) refl)) in
        let right = ap (λ l. length (operations_among target down.shape (with_tag h l))) (one_taken down.port c et)
        ∙ ap (λ l. length (operations_among target down.shape l)) (tag_append (taken_at down.port c) (marked_at down.port c) ∙ ap (λ b. with_tag h (taken_at down.port c) ++ (if b then marked_at down.port c ∷ [] else [])) es ∙ append-nil (with_tag h (taken_at down.port c))) in
        left ∙ more ∙ sym right
    by_take false et true es more =
        let tag : down.commands.tag c ≡ h = grind (arith, tests, es) in
        let above = part.taken h c low (omega (arith, fit)) tag ∙ et in
        ap (λ l. length (operations_among target (up h).shape l)) (none_taken (up h) c above) ∙ more ∙ sym (ap (λ l. length (operations_among target down.shape (with_tag h l))) (none_taken down.port c et))
    by_take false et false es more =
        ap (λ l. length (operations_among target (up h).shape l)) (none_taken (up h) c (not_own es (takes (up h) c) refl)) ∙ more ∙ sym (ap (λ l. length (operations_among target down.shape (with_tag h l))) (none_taken down.port c et))

module _ (system : System) (run : Run) (agent : ℕ) (ways : Ways) (standings : Standings) (host from size end : ℕ) (fits : from + size + 2 ≤ end) (host_is : host < system.hosts)
    (keeps : KeepsWhole system run agent ways standings end) (wanted : Throughout from size (IsWantedAt system run agent host))
    (none : (c : ℕ) → c < size → IsFalse (serves system run agent (from + c))) where
  abbrev j : Junctions
  j = window system run agent ways standings from size

  abbrev target : Target
  target = target_of system agent

  in_upper : (c i : ℕ) → i < ways.above host → IsTrue (works (links_at target (ways.upper host) (from + c)) i) → IsTrue (has_work j host c)
  in_upper c i h w = or_left (any_below (works (j.upper host c)) (j.above host) || arbiter_works (moment j c)) _ (or_left (any_below (works (j.upper host c)) (j.above host)) _ (any_of (works (j.upper host c)) (j.above host) i h w))

  in_lower : (c i : ℕ) → i < suc ways.stages → IsTrue (works (lower_at system run agent ways (from + c)) i) → IsTrue (has_work j host c)
  in_lower c i h w = or_right (any_below (works (j.upper host c)) (j.above host) || arbiter_works (moment j c)) _ (any_of (works (j.lower c)) (suc j.below) i h w)

  wanted_in : (c : ℕ) → c < size → IsWantedAt system run agent host (from + c)
  wanted_in c h = wanted (from + c) (omega arith) (omega (arith, h))

  lower_owed : (c : ℕ) → c < size → (i : ℕ) → i ≤ ways.stages → IsTrue (is_owed (ways.lower i) (from + c)) → IsTrue (has_work j host c)
  lower_owed c h zero low owed =
      three_of _ (agent_accepts (system.agent agent) (run.at_agent agent) (from + c)) (owes system run agent (from + c)) (keeps.awake.agent_part.words (from + c) (omega (arith, fits, h)) owed)
      (λ untaken. in_lower c 0 (omega arith) (untaken_works (stands (lower_at system run agent ways (from + c)) 1) _ false (agent_accepts (system.agent agent) (run.at_agent agent) (from + c)) untaken))
      (λ ready. in_lower c 0 (omega arith) (ready_works (stands (lower_at system run agent ways (from + c)) 1) _ false (agent_accepts (system.agent agent) (run.at_agent agent) (from + c)) ready))
      (λ owing. absurd (both_ways (owes system run agent (from + c)) (wanted_in c h).answered owing))
  lower_owed c h (suc i) low owed =
      three_of (is_behind target (ways.lower (suc i)) (ways.lower i) (from + c)) (moves_at (ways.lower (suc i)) (ways.lower i) (from + c)) (is_owed (ways.lower i) (from + c)) ((keeps.awake.lower i low).words (from + c) (omega (arith, fits, h)) owed)
      (λ untaken. in_lower c (suc i) (omega (arith, low)) (untaken_works (stands (lower_at system run agent ways (from + c)) (suc (suc i))) _ (is_unclosed (ways.lower i) (from + c)) (moves_at (ways.lower (suc i)) (ways.lower i) (from + c)) untaken))
      (λ ready. in_lower c (suc i) (omega (arith, low)) (ready_works (stands (lower_at system run agent ways (from + c)) (suc (suc i))) _ (is_unclosed (ways.lower i) (from + c)) (moves_at (ways.lower (suc i)) (ways.lower i) (from + c)) ready))
      (λ below. lower_owed c h i (omega (arith, low)) below)

  upper_owed : (c : ℕ) → c < size → (i : ℕ) → i ≤ ways.above host → IsTrue (is_owed (ways.upper host i) (from + c)) → IsTrue (has_work j host c)
  upper_owed c h zero low owed =
      lower_owed c h ways.stages (omega arith) (owed_below system agent (λ h. ways.upper h 0) (tagged ways ways.stages) end keeps.awake.arbiter host (from + c) host_is (omega (arith, fits, h)) owed)
  upper_owed c h (suc i) low owed =
      three_of (is_behind target (ways.upper host (suc i)) (ways.upper host i) (from + c)) (moves_at (ways.upper host (suc i)) (ways.upper host i) (from + c)) (is_owed (ways.upper host i) (from + c)) ((keeps.awake.upper host i host_is low).words (from + c) (omega (arith, fits, h)) owed)
      (λ untaken. in_upper c i low (untaken_works (stands (links_at target (ways.upper host) (from + c)) (suc i)) _ (is_unclosed (ways.upper host i) (from + c)) (moves_at (ways.upper host (suc i)) (ways.upper host i) (from + c)) untaken))
      (λ ready. in_upper c i low (ready_works (stands (links_at target (ways.upper host) (from + c)) (suc i)) _ (is_unclosed (ways.upper host i) (from + c)) (moves_at (ways.upper host (suc i)) (ways.upper host i) (from + c)) ready))
      (λ below. upper_owed c h i (omega (arith, low)) below)

  abbrev upper_taken : ℕ → ℕ → ℕ
  upper_taken c i = length (operations_among target (ways.upper host i).shape (taken_at (ways.upper host i) (suc (from + c))))

  abbrev lower_shown : ℕ → ℕ → ℕ
  lower_shown c i = length (operations_among target (ways.lower i).shape (shown_at (ways.lower i) (suc (from + c))))

  taken_most : (port : Port) (c : ℕ) → c < size → AreLegalAt port end → length (operations_among target port.shape (taken_at port (suc (from + c)))) ≤ length (operations_among target port.shape (shown_at port (suc (from + c))))
  taken_most port c h legal = prefix_length (prefix_flat_map (operations_in target port.shape) (taken_is_shown port end (suc (from + c)) legal (omega (arith, fits, h))))

  idle_upper : (c : ℕ) → c < size → IsFalse (any_below (works (j.upper host c)) (j.above host)) → (i : ℕ) → i ≤ ways.above host → upper_taken c i ≤ upper_taken c 0
  idle_upper c h idle zero low = omega arith
  idle_upper c h idle (suc i) low =
      let most = taken_most (ways.upper host (suc i)) c h (keeps.awake.upper host i host_is low).legal in
      let quiet = none_of (works (j.upper host c)) (j.above host) i idle low in
      let all = ltb-false _ _ (idle_behind (stands (links_at target (ways.upper host) (from + c)) (suc i)) (is_untaken target (ways.upper host (suc i)) (ways.upper host i) (from + c)) (is_held (ways.upper host i).commands.signals (takes (ways.upper host i)) (from + c)) (is_unclosed (ways.upper host i) (from + c)) (moves_at (ways.upper host (suc i)) (ways.upper host i) (from + c)) quiet) in
      let more = idle_upper c h idle i (omega (arith, low)) in
      omega (arith, most, all, more)

  lower_legal : (i : ℕ) → i ≤ ways.stages → AreLegalAt (ways.lower i) end
  lower_legal zero low = keeps.awake.agent_part.legal
  lower_legal (suc i) low = (keeps.awake.lower i low).legal

  idle_lower : (c : ℕ) → c < size → IsFalse (any_below (works (j.lower c)) (suc j.below)) → (i : ℕ) → i ≤ ways.stages → lower_shown c i ≤ length (taken system run agent (suc (from + c)))
  idle_lower c h idle zero low =
      ltb-false _ _ (idle_untaken (stands (lower_at system run agent ways (from + c)) 1) (nat_lt (length (taken system run agent (suc (from + c)))) (lower_shown c 0)) false (agent_accepts (system.agent agent) (run.at_agent agent) (from + c)) (none_of (works (j.lower c)) (suc j.below) 0 idle (omega arith)))
  idle_lower c h idle (suc i) low =
      let quiet = none_of (works (j.lower c)) (suc j.below) (suc i) idle (omega (arith, low)) in
      let all = ltb-false _ _ (idle_behind (stands (lower_at system run agent ways (from + c)) (suc (suc i))) (is_untaken target (ways.lower (suc i)) (ways.lower i) (from + c)) (is_held (ways.lower i).commands.signals (takes (ways.lower i)) (from + c)) (is_unclosed (ways.lower i) (from + c)) (moves_at (ways.lower (suc i)) (ways.lower i) (from + c)) quiet) in
      let most = taken_most (ways.lower i) c h (lower_legal i (omega (arith, low))) in
      let more = idle_lower c h idle i (omega (arith, low)) in
      omega (arith, all, most, more)

  abbrev low_top : Port
  low_top = ways.lower ways.stages

  untaken_work : (c : ℕ) → c < size → length (of_host host (taken system run agent (suc (from + c)))) < upper_taken c (ways.above host) → IsTrue (has_work j host c)
  untaken_work c h less = by_upper (any_below (works (j.upper host c)) (j.above host)) refl
    where
      stuck : IsFalse (any_below (works (j.upper host c)) (j.above host)) → IsFalse (any_below (works (j.lower c)) (suc j.below)) → ⊥
      stuck up_idle low_idle =
          let p = keeps.in_order (suc (from + c)) (omega (arith, fits, h)) in
          let shown = shown_at low_top (suc (from + c)) in
          let long = ap length (sym p.joins) ∙ length-append (taken system run agent (suc (from + c))) p.rest in
          let whole = tagged_length target low_top.shape shown in
          let all = idle_lower c h low_idle ways.stages (omega arith) in
          let own = ap (λ l. length (of_host host l)) (sym p.joins) ∙ of_host_append host (taken system run agent (suc (from + c))) p.rest in
          let few = of_host_most host p.rest in
          let tags = tagged_of_host target low_top.shape shown host in
          let front = prefix_length (prefix_flat_map (operations_in target low_top.shape) (prefix_filter (λ (m : Marked). nat_eq m.tag host) (taken_is_shown low_top end (suc (from + c)) (lower_legal ways.stages (omega arith)) (omega (arith, fits, h))))) in
          let same = own_taken system agent (λ h. ways.upper h 0) (tagged ways ways.stages) end keeps.awake.arbiter target host host_is (keeps.words host host_is) (suc (from + c)) (omega (arith, fits, h)) in
          let top = idle_upper c h up_idle (ways.above host) (omega arith) in
          omega (arith, less, long, whole, all, own, few, tags, front, same, top)

      by_lower : IsFalse (any_below (works (j.upper host c)) (j.above host)) → (b : Bool) → any_below (works (j.lower c)) (suc j.below) ≡ b → IsTrue (has_work j host c)
      by_lower up_idle true e = or_right (any_below (works (j.upper host c)) (j.above host) || arbiter_works (moment j c)) _ e
      by_lower up_idle false e = absurd (stuck up_idle e)

      by_upper : (b : Bool) → any_below (works (j.upper host c)) (j.above host) ≡ b → IsTrue (has_work j host c)
      by_upper true e = or_left (any_below (works (j.upper host c)) (j.above host) || arbiter_works (moment j c)) _ (or_left (any_below (works (j.upper host c)) (j.above host)) _ e)
      by_upper false e = by_lower e (any_below (works (j.lower c)) (suc j.below)) refl

  unserved : (c : ℕ) → c < size → IsFalse (agent_accepts (system.agent agent) (run.at_agent agent) (from + c))
      × IsFalse (list_any (is_given_from system run (Some agent) (from + c)) (numbers 0 system.hosts)) × IsFalse (list_any (is_written_to system run (Some agent) (from + c)) (numbers 0 system.hosts))
  unserved c h = three_parts (agent_accepts (system.agent agent) (run.at_agent agent) (from + c)) _ _ (none c h)

  not_given : (h c : ℕ) → h < system.hosts → c < size → IsTrue (is_given_from system run (Some agent) (from + c) h) → ⊥
  not_given h c low fit given = both_ways _ (unserved c fit).1 (listed (is_given_from system run (Some agent) (from + c)) 0 system.hosts h (omega arith) (omega (arith, low)) given)

  not_written : (h c : ℕ) → h < system.hosts → c < size → IsTrue (is_written_to system run (Some agent) (from + c) h) → ⊥
  not_written h c low fit written = both_ways _ (unserved c fit).2 (listed (is_written_to system run (Some agent) (from + c)) 0 system.hosts h (omega arith) (omega (arith, low)) written)

  abbrev top : Port
  top = ways.upper host (ways.above host)

  top_stands : (c : ℕ) → (n : ℕ) → ways.above host ≡ suc n → IsTrue (shows top.commands.signals (from + c)) → IsFalse (takes top (from + c)) → IsTrue (has_work j host c)
  top_stands c n e shown still =
      in_upper c n (omega (arith, e)) (stands_works (stands (links_at target (ways.upper host) (from + c)) (suc n)) _ (is_unclosed (ways.upper host n) (from + c)) _
      (subst (λ k. IsTrue (stands (links_at target (ways.upper host) (from + c)) k)) e (holds (shows top.commands.signals (from + c)) (takes top (from + c)) shown still)))

  has_pred : (n : ℕ) → 0 < n → (k : ℕ) × (n ≡ suc k)
  has_pred zero h = absurd (omega (arith, h))
  has_pred (suc n) h = (n, refl)

  work_of : (c : ℕ) → c < size → Wants system run agent host (from + c) → IsTrue (has_work j host c)
  work_of c h (a_beat shown given) =
      three_of (shows top.commands.signals (from + c)) (is_owed top (from + c)) (is_given_from system run (Some agent) (from + c) host) ((keeps.front host host_is).shown (from + c) (omega (arith, fits, h)) shown given)
      (λ below. by_take (takes top (from + c)) refl below)
      (λ owed. upper_owed c h (ways.above host) (omega arith) owed)
      (λ word. absurd (not_given host c host_is h word))
    where
      by_kind : (b : Bool) → is_raised (top.commands.write (from + c)) ≡ b → IsTrue (takes top (from + c)) → IsTrue (has_work j host c)
      by_kind true e taken = absurd (not_written host c host_is h ((keeps.front host host_is).writes (from + c) (omega (arith, fits, h)) taken e))
      by_kind false e taken = upper_owed c h (ways.above host) (omega arith) ((keeps.front host host_is).reads (from + c) (omega (arith, fits, h)) taken e)

      by_take : (t : Bool) → takes top (from + c) ≡ t → IsTrue (shows top.commands.signals (from + c)) → IsTrue (has_work j host c)
      by_take true e below = by_kind (is_raised (top.commands.write (from + c))) refl e
      by_take false e below = let pred = has_pred (ways.above host) (keeps.links host host_is) in top_stands c pred.0 pred.1 below e
  work_of c h (an_operation less) =
      let front = (keeps.front host host_is).taken (from + c) (omega (arith, fits, h)) in
      let grows = prefix_length (prefix_flat_map (operations_in target top.shape) (taken_extends top (from + c))) in
      let still = ap (λ l. length (of_host host l)) (taken_still system run agent (from + c) (unserved c h).0) in
      untaken_work c h (omega (arith, less, front, grows, still))
  work_of c h (a_word owes_it) = upper_owed c h (ways.above host) (omega arith) ((keeps.front host host_is).owed (from + c) (omega (arith, fits, h)) owes_it)

  pub at_work : IsAtWork system run agent ways standings host from size
  at_work = record {
    host_is = host_is;
    ready = λ c h. not_waiting (system.agent agent).has_waitrequest (shows (run.at_agent agent).signals (from + c)) (is_raised ((run.at_agent agent).waitrequest (from + c))) _ (wanted_in c h).ready;
    answered = λ c h. (wanted_in c h).answered;
    bursts = λ h c low fit opened. two_of (is_bursting system run h (Some agent) (from + c)) (is_written_to system run (Some agent) (from + c) h) ((keeps.front h low).opened (from + c) (omega (arith, fits, fit)) opened)
        (λ under. (keeps.front h low).bursts (from + c) (omega (arith, fits, fit)) under ((wanted_in c fit).bursts h low under))
        (λ written. absurd (not_written h c low fit written));
    work = λ c h. work_of c h (wanted_in c h).wants;
  }

pub record Laws : Type 0 where
  pub work : (system : System) (run : Run) (agent : ℕ) (ways : Ways) (standings : Standings) (host from size end : ℕ) → from + size + 2 ≤ end → AllShare (seats_of system agent) → KeepsAwake system run agent ways standings end → IsAtWork system run agent ways standings host from size → size ≤ longest system run agent ways standings from size

pub served : Laws → (system : System) (run : Run) (agent : ℕ) (ways : Ways) (standings : Standings) (host from size end : ℕ) → from + size + 2 ≤ end → host < system.hosts → AllShare (seats_of system agent) →
    KeepsWhole system run agent ways standings end → longest system run agent ways standings from size < size →
    Throughout from size (IsWantedAt system run agent host) → Sometime from size (λ c. IsTrue (serves system run agent c))
served laws system run agent ways standings host from size end fits host_is share keeps more wanted = elim (some_or_none (λ c. serves system run agent (from + c)) size) [
  | inl found ↦ (from + found.0, omega arith, omega (arith, found.1), found.2)
  | inr none ↦
      let short = laws.work system run agent ways standings host from size end fits share keeps.awake (at_work system run agent ways standings host from size end fits host_is keeps wanted none) in
      absurd (omega (arith, short, more))
]
