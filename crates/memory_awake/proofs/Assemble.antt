-- The parts that lead to an agent, as the junction of the law of ranks.
use Rattle.std.proofs.Common.{ℕ, zero, suc, ◌<◌, ◌≤◌, ◌≡◌, ◌+◌, Bool, true, false, not, ◌||◌, ◌&&◌, List, [], ◌∷◌, ◌++◌, arith, refl, sym, subst, ◌∙◌, nat_lt, nat_eq, length, IsTrue, IsFalse, tests, ap, if◌then◌else◌}
use Rattle.std.proofs.lemmas.Bool.{or_left, or_right, or_parts, both_ways}
use Rattle.histories.specs.History.{numbers, is_raised}
use Rattle.histories.specs.Laws.{prefix_flat_map, prefix_length}
use Rattle.memory_runs.specs.Views.{System, Run}
use Rattle.memory_runs.specs.Commands.{shows, is_held, agent_accepts}
use Rattle.memory_runs.specs.Legal.{is_under_way}
use Rattle.memory_runs.specs.Order.{taken}
use Rattle.memory_runs.specs.Awake.{owes}
use Rattle.memory_machines.specs.Lines.{target_of}
use Rattle.memory_machines.specs.Link.{Target, Port, takes, taken_at, shown_at, operations_among, operations_in, AreLegalAt, is_last_joined}
use Rattle.memory_machines.specs.Shorter.{legal_at_before}
use Rattle.memory_machines.specs.Rank.{link_part, has_commands, moves_commands, is_unclosed, is_owed, is_last_write, may_rest}
use Rattle.memory_machines.specs.Turns.{seats_of}
use Rattle.histories.specs.Turns.{AllShare}
use Rattle.histories.specs.Path.{works, excused, stands, writing, AnswersFlow}
use Rattle.histories.specs.Window.{Part, moves_before, KeepsRank, Budget, AllKeep, Keeps, allowances}
use Rattle.histories.specs.Junction.{Junctions, IsStuck, IsSoundJunction, all_budgets, budgets, budgets_of_hosts, upper_budget, lower_budget, arbiter_budget, moment, is_among, waits_for, any_below, asks, arbiter_works, arbiter_excused}
use Rattle.memory_links.specs.Going.{KeepsGoing, is_untaken}
use Rattle.memory_awake.specs.Ways.{Ways, Standings, count_in, KeepsAwake, IsAtWork, longest, window, all_hosts, tagged, links_at, lower_at, moves_at, agent_moves}
use Rattle.memory_awake.proofs.Arbiter.{TurnLaws, Idles, idles, Idles.beat_stands, Idles.rests, Idles.nothing}
use Rattle.memory_awake.proofs.Owed.{owed_below as below}
use Rattle.memory_awake.proofs.Bits.{none_taken, shown_again, holds, shown_extends, lt_grows, taken_still, not_by, no_true}

pub record Laws : Type 0 where
  pub stuck : (run : Junctions) (host size : ℕ) (seen : List ℕ) → IsStuck run host size seen → size ≤ allowances (all_budgets run seen)
  pub lasts : (target : Target) (ports : ℕ → Port) (i from size : ℕ) → AreLegalAt (ports (suc i)) (from + size + 1) → (c : ℕ) → c < size → IsTrue ((link_part target ports i (λ c. 0) 0 from).works c) → IsFalse ((link_part target ports i (λ c. 0) 0 from).moves c) →
      IsTrue ((link_part target ports i (λ c. 0) 0 from).works (suc c) || (link_part target ports i (λ c. 0) 0 from).moves (suc c))
  pub turns : TurnLaws

-- a part moves as often as its moves are counted
moves_counted : (part : Part) (moves : ℕ → Bool) (from size : ℕ) → ((c : ℕ) → part.moves c ≡ moves (from + c)) → moves_before part size ≤ count_in moves from size
moves_counted part moves from zero same = omega arith
moves_counted part moves from (suc size) same =
    let more = moves_counted part moves from size same in
    let last : (if part.moves size then 1 else 0) ≡ (if moves (from + size) then suc zero else zero) = ap {B = ℕ} (λ b. if b then 1 else 0) (same size) in
    omega (arith, more, last)

-- wider work and wider moves
pub widen : (part : Part) (works moves : ℕ → Bool) (size : ℕ) → KeepsRank part size →
    ((c : ℕ) → IsTrue (works c) → IsFalse (moves c) → IsTrue (part.works c)) → ((c : ℕ) → IsFalse (moves c) → IsFalse (part.moves c)) →
    ((c : ℕ) → IsTrue (part.works c || part.moves c) → IsTrue (works c || moves c)) → KeepsRank (record part { works = works; moves = moves }) size
widen part works moves size keeps less still more = record {
  bounded = keeps.bounded;
  falls = λ c h w m e. keeps.falls c h (less c w m) (still c m) e;
  stays = λ c h w m. keeps.stays c h (less c w m) (still c m);
  lasts = λ c h w m. more (suc c) (keeps.lasts c h (less c w m) (still c m));
}

all_keep : (budget : ℕ → Budget) (n size : ℕ) → ((i : ℕ) → i < n → Keeps (budget i) size) → AllKeep (budgets budget n) size
all_keep budget zero size each = tt
all_keep budget (suc n) size each = (each n (omega arith), all_keep budget n size (λ i h. each i (omega (arith, h))))

both_keep : (xs ys : List Budget) (size : ℕ) → AllKeep xs size → AllKeep ys size → AllKeep (xs ++ ys) size
both_keep [] ys size a b = b
both_keep (x ∷ xs) ys size a b = (a.0, both_keep xs ys size a.1 b)

hosts_keep : (run : Junctions) (first count size : ℕ) → ((h i : ℕ) → h < first + count → i < run.above h → Keeps (upper_budget run h i) size) → AllKeep (budgets_of_hosts run (numbers first count)) size
hosts_keep run first zero size each = tt
hosts_keep run first (suc count) size each =
    both_keep (budgets (upper_budget run first) (run.above first)) (budgets_of_hosts run (numbers (suc first) count)) size
    (all_keep (upper_budget run first) (run.above first) size (λ i h. each first i (omega arith) h))
    (hosts_keep run (suc first) count size (λ h i low high. each h i (omega (arith, low)) high))

is_among_numbers : (first count h : ℕ) → first ≤ h → h < first + count → IsTrue (is_among (numbers first count) h)
is_among_numbers first zero h low high = absurd (omega (arith, low, high))
is_among_numbers first (suc count) h low high = by_same (nat_eq first h) refl (is_among_numbers (suc first) count h)
  where
    by_same : (b : Bool) → nat_eq first h ≡ b → (suc first ≤ h → h < suc first + count → IsTrue (is_among (numbers (suc first) count) h)) → IsTrue (b || is_among (numbers (suc first) count) h)
    by_same true e more = refl
    by_same false e more = more (grind (arith, tests, e, low)) (omega (arith, high))

some_below : (test : ℕ → Bool) (n : ℕ) → IsTrue (any_below test n) → (k : ℕ) × (k < n) × IsTrue (test k)
some_below test zero h = absurd (no_true h)
some_below test (suc n) h = by_test (test n) refl h (some_below test n)
  where
    by_test : (b : Bool) → test n ≡ b → IsTrue (b || any_below test n) → (IsTrue (any_below test n) → (k : ℕ) × (k < n) × IsTrue (test k)) → (k : ℕ) × (k < suc n) × IsTrue (test k)
    by_test true e h more = (n, omega arith, e)
    by_test false e h more = let found = more h in (found.0, omega (arith, found.1), found.2)

any_of : (test : ℕ → Bool) (n k : ℕ) → k < n → IsTrue (test k) → IsTrue (any_below test n)
any_of test zero k h holds = absurd (omega (arith, h))
any_of test (suc n) k h holds = by_place (nat_eq k n) refl (any_of test n k)
  where
    by_place : (b : Bool) → nat_eq k n ≡ b → (k < n → IsTrue (test k) → IsTrue (any_below test n)) → IsTrue (test n || any_below test n)
    by_place false e more = or_right (test n) (any_below test n) (more (grind (arith, tests, e, h)) holds)
    by_place true e more = let same : k ≡ n = grind (arith, tests, e) in or_left (test n) _ (rw same at holds)

with_false : (a b u r m : Bool) → IsTrue (a || b || u || r) → IsFalse (m || r) → IsTrue (a || b || u || false)
with_false a b u r m w s = grind (arith, tests)

without_moves : (m r : Bool) → IsFalse (m || r) → IsFalse m
without_moves m r s = grind (arith, tests)

with_ready : (a b u r m : Bool) → IsTrue ((a || b || u || false) || m) → IsTrue ((a || b || u || r) || (m || r))
with_ready a b u r m w = grind (arith, tests)

agent_work : (s u a t : Bool) → IsTrue (s || u || false || a) → IsFalse (a || t) → IsTrue (s || u)
agent_work s u true t w m = absurd cc
agent_work true u false t w m = refl
agent_work false true false t w m = refl
agent_work false false false t w m = absurd (no_true w)

agent_still : (a t : Bool) → IsFalse (a || t) → IsTrue (not (a || t))
agent_still a t m = grind (arith, tests)

-- an agent's own excuse is one in the path
agent_excuse : (hw s a o under rest lw : Bool) → IsFalse (((hw && s) && not a) || (o && not (false && lw)) || rest) → IsTrue (not ((hw && (s && not a)) || (o && not under) || rest))
agent_excuse true true true true under rest lw f = absurd cc
agent_excuse true true true false under rest lw f = grind (arith, tests, f)
agent_excuse true true false o under rest lw f = absurd cc
agent_excuse true false a true under rest lw f = absurd cc
agent_excuse true false a false under rest lw f = grind (arith, tests, f)
agent_excuse false s a true under rest lw f = absurd cc
agent_excuse false s a false under rest lw f = grind (arith, tests, f)

agent_idle : (hw s a o : Bool) → IsFalse (hw && s && not a) → IsFalse o → IsFalse (((hw && s) && not a) || o)
agent_idle hw s a o f g = grind (arith, tests)

three_of : (a b c : Bool) {R : Type 0} → IsTrue (a || b || c) → (IsTrue a → R) → (IsTrue b → R) → (IsTrue c → R) → R
three_of true b c h fa fb fc = fa refl
three_of false true c h fa fb fc = fb refl
three_of false false true h fa fb fc = fc refl
three_of false false false h fa fb fc = absurd (no_true h)

module _ (laws : Laws) (system : System) (run : Run) (agent : ℕ) (ways : Ways) (standings : Standings) (host from size end : ℕ) (fits : from + size + 2 ≤ end) (share : AllShare (seats_of system agent))
    (keeps : KeepsAwake system run agent ways standings end) (at_work : IsAtWork system run agent ways standings host from size) where
  abbrev j : Junctions
  j = window system run agent ways standings from size

  next : (c : ℕ) → from + suc c ≡ suc (from + c)
  next c = omega arith

  link_keeps : (target : Target) (ports : ℕ → Port) (i : ℕ) (rank : ℕ → ℕ) (largest : ℕ) → KeepsGoing target (ports (suc i)) (ports i) rank largest end →
      KeepsRank (record {
        works = λ c. works (links_at target ports (from + c)) i;
        moves = λ c. moves_at (ports (suc i)) (ports i) (from + c);
        excused = λ c. excused (links_at target ports (from + c)) i;
        rank = λ c. rank (from + c);
        largest = largest;
      }) size
  link_keeps target ports i rank largest going = record {
    bounded = λ c h. going.falls.bounded (from + c) (omega (arith, fits, h));
    falls = λ c h w m e. rw (next c) (going.falls.falls (from + c) (omega (arith, fits, h)) (link_work (stands (links_at target ports (from + c)) (suc i)) (is_untaken target (ports (suc i)) (ports i) (from + c)) (is_held (ports i).commands.signals (takes (ports i)) (from + c)) (is_unclosed (ports i) (from + c)) (moves_at (ports (suc i)) (ports i) (from + c)) w m) (not_by _ m) (not_by _ e));
    stays = λ c h w m. rw (next c) (going.falls.stays (from + c) (omega (arith, fits, h)) (link_work (stands (links_at target ports (from + c)) (suc i)) (is_untaken target (ports (suc i)) (ports i) (from + c)) (is_held (ports i).commands.signals (takes (ports i)) (from + c)) (is_unclosed (ports i) (from + c)) (moves_at (ports (suc i)) (ports i) (from + c)) w m) (not_by _ m));
    lasts = λ c h w m. two_of (has_commands target (ports (suc i)) (ports i) (from + c)) (is_held (ports i).commands.signals (takes (ports i)) (from + c)) (link_work (stands (links_at target ports (from + c)) (suc i)) (is_untaken target (ports (suc i)) (ports i) (from + c)) (is_held (ports i).commands.signals (takes (ports i)) (from + c)) (is_unclosed (ports i) (from + c)) (moves_at (ports (suc i)) (ports i) (from + c)) w m)
        (λ commands. more_work (stands (links_at target ports (from + suc c)) (suc i)) (is_untaken target (ports (suc i)) (ports i) (from + suc c)) (is_held (ports i).commands.signals (takes (ports i)) (from + suc c)) (is_unclosed (ports i) (from + suc c)) (is_raised ((ports (suc i)).answers.valid (suc (from + suc c)))) (moves_commands (ports (suc i)) (ports i) (from + suc c))
        (laws.lasts target ports i from size (legal_at_before (ports (suc i)) (from + size + 1) end (omega (arith, fits)) going.legal) c h (as_works (stands (links_at target ports (from + c)) (suc i)) (is_untaken target (ports (suc i)) (ports i) (from + c)) (is_unclosed (ports i) (from + c)) commands) (without_moves (moves_commands (ports (suc i)) (ports i) (from + c)) (is_raised ((ports (suc i)).answers.valid (suc (from + c)))) m)))
        (λ held. rw (next c) (held_work (stands (links_at target ports (suc (from + c))) (suc i)) (is_untaken target (ports (suc i)) (ports i) (suc (from + c))) (shows (ports i).commands.signals (suc (from + c))) (takes (ports i) (suc (from + c))) (is_unclosed (ports i) (suc (from + c))) (is_raised ((ports (suc i)).answers.valid (suc (suc (from + c))))) (takes (ports (suc i)) (suc (from + c)))
        (shown_again (ports i) (from + c) end going.legal_down (omega (arith, fits, h)) held)));
  }
    where
      as_works : (s u o : Bool) → IsTrue (s || u || o) → IsTrue (s || u || o || false)
      as_works s u o h = or_left ((s || u) || o) false h

      link_work : (s u d o r : Bool) → IsTrue (s || (u || d) || o || r) → IsFalse r → IsTrue ((s || u || o) || d)
      link_work s u d o true w f = absurd cc
      link_work true u d o false w f = refl
      link_work false true d o false w f = refl
      link_work false false true true false w f = refl
      link_work false false true false false w f = refl
      link_work false false false true false w f = refl
      link_work false false false false false w f = absurd (no_true w)

      more_work : (s u d o v m : Bool) → IsTrue ((s || u || o || false) || m) → IsTrue ((s || (u || d) || o || (m || v)) || (m || v))
      more_work true u d o v m w = refl
      more_work false true d o v m w = refl
      more_work false false true o v m w = refl
      more_work false false false true v m w = refl
      more_work false false false false v true w = refl
      more_work false false false false v false w = absurd (no_true w)

      held_work : (s u sh t o v t' : Bool) → IsTrue sh → IsTrue ((s || (u || (sh && not t)) || o || ((t || t') || v)) || ((t || t') || v))
      held_work true u sh t o v t' h = refl
      held_work false true sh t o v t' h = refl
      held_work false false true false o v t' h = refl
      held_work false false true true true v t' h = refl
      held_work false false true true false v t' h = refl
      held_work false false false t o v t' h = absurd (no_true h)

      two_of : (a b : Bool) {R : Type 0} → IsTrue (a || b) → (IsTrue a → R) → (IsTrue b → R) → R
      two_of true b h fa fb = fa refl
      two_of false b h fa fb = fb h

  abbrev low_port : Port
  low_port = ways.lower 0

  abbrev agent_untaken : ℕ → Bool
  agent_untaken c = nat_lt (length (taken system run agent (suc c))) (length (operations_among (target_of system agent) low_port.shape (shown_at low_port (suc c))))

  agent_untaken_on : (c : ℕ) → IsFalse (agent_accepts (system.agent agent) (run.at_agent agent) (suc c)) → IsTrue (agent_untaken c) → IsTrue (agent_untaken (suc c))
  agent_untaken_on c none h =
      let grow = prefix_length (prefix_flat_map (operations_in (target_of system agent) low_port.shape) (shown_extends low_port (suc c))) in
      subst (λ l. IsTrue (nat_lt (length l) (length (operations_among (target_of system agent) low_port.shape (shown_at low_port (suc (suc c))))))) (sym (taken_still system run agent (suc c) none))
      (lt_grows (length (taken system run agent (suc c))) (length (operations_among (target_of system agent) low_port.shape (shown_at low_port (suc c)))) (length (operations_among (target_of system agent) low_port.shape (shown_at low_port (suc (suc c))))) h grow)

  agent_lasts : (c : ℕ) → suc c < end → IsTrue (works (lower_at system run agent ways c) 0) → IsFalse (agent_moves system run agent ways c) →
      IsTrue (works (lower_at system run agent ways (suc c)) 0 || agent_moves system run agent ways (suc c))
  agent_lasts c h w m = by_moves (agent_moves system run agent ways (suc c)) refl
    where
      work : IsTrue (stands (lower_at system run agent ways c) 1 || agent_untaken c)
      work = agent_work (stands (lower_at system run agent ways c) 1) (agent_untaken c) (agent_accepts (system.agent agent) (run.at_agent agent) c) (takes low_port c) w m

      first_or : (a u r : Bool) → IsTrue a → IsTrue (a || u || false || r)
      first_or a u r h = or_left ((a || u) || false) r (or_left (a || u) false (or_left a u h))

      second_or : (a u r : Bool) → IsTrue u → IsTrue (a || u || false || r)
      second_or a u r h = or_left ((a || u) || false) r (or_left (a || u) false (or_right a u h))

      two : (a b : Bool) {R : Type 0} → IsTrue (a || b) → (IsTrue a → R) → (IsTrue b → R) → R
      two true b h fa fb = fa refl
      two false b h fa fb = fb h

      by_moves : (b : Bool) → agent_moves system run agent ways (suc c) ≡ b → IsTrue (works (lower_at system run agent ways (suc c)) 0 || b)
      by_moves true e = or_right (works (lower_at system run agent ways (suc c)) 0) true refl
      by_moves false e =
          let still = or_parts (agent_accepts (system.agent agent) (run.at_agent agent) (suc c)) (takes low_port (suc c)) e in
          or_left _ false (two (stands (lower_at system run agent ways c) 1) (agent_untaken c) work
          (λ held. first_or (stands (lower_at system run agent ways (suc c)) 1) (agent_untaken (suc c)) (agent_accepts (system.agent agent) (run.at_agent agent) (suc c))
          (holds (shows low_port.commands.signals (suc c)) (takes low_port (suc c)) (shown_again low_port c end keeps.agent_part.legal h held) still.1))
          (λ untaken. second_or (stands (lower_at system run agent ways (suc c)) 1) (agent_untaken (suc c)) (agent_accepts (system.agent agent) (run.at_agent agent) (suc c)) (agent_untaken_on c still.0 untaken)))

  agent_keeps : KeepsRank (lower_budget j 0).part size
  agent_keeps = record {
    bounded = λ c h. keeps.agent_part.falls.bounded (from + c) (omega (arith, fits, h));
    falls = λ c h w m e. rw (next c) (keeps.agent_part.falls.falls (from + c) (omega (arith, fits, h)) (work (from + c) w m) (agent_still (agent_accepts (system.agent agent) (run.at_agent agent) (from + c)) (takes low_port (from + c)) m)
        (agent_excuse (system.agent agent).has_waitrequest (shows (run.at_agent agent).signals (from + c)) (agent_accepts (system.agent agent) (run.at_agent agent) (from + c)) (owes system run agent (from + c))
        (is_under_way (system.agent agent).shape (run.at_agent agent).signals (agent_accepts (system.agent agent) (run.at_agent agent)) (suc (from + c))) (may_rest low_port (from + c)) false e));
    stays = λ c h w m. rw (next c) (keeps.agent_part.falls.stays (from + c) (omega (arith, fits, h)) (work (from + c) w m) (agent_still (agent_accepts (system.agent agent) (run.at_agent agent) (from + c)) (takes low_port (from + c)) m));
    lasts = λ c h w m. rw (next c) (agent_lasts (from + c) (omega (arith, fits, h)) w m);
  }
    where
      work : (c : ℕ) → IsTrue (works (lower_at system run agent ways c) 0) → IsFalse (agent_moves system run agent ways c) → IsTrue (stands (lower_at system run agent ways c) 1 || agent_untaken c)
      work c w m = agent_work (stands (lower_at system run agent ways c) 1) (agent_untaken c) (agent_accepts (system.agent agent) (run.at_agent agent) c) (takes low_port c) w m

  lower_keeps : (i : ℕ) → i < suc ways.stages → Keeps (lower_budget j i) size
  lower_keeps zero h = (agent_keeps, moves_counted (lower_budget j 0).part (agent_moves system run agent ways) from size (λ c. refl))
  lower_keeps (suc i) h = (link_keeps (target_of system agent) ways.lower i (standings.lower i).rank (standings.lower i).largest (keeps.lower i (omega (arith, h))), moves_counted (lower_budget j (suc i)).part (moves_at (ways.lower (suc i)) (ways.lower i)) from size (λ c. refl))

  upper_keeps : (h i : ℕ) → h < system.hosts → i < ways.above h → Keeps (upper_budget j h i) size
  upper_keeps h i low in_path = (link_keeps (target_of system agent) (ways.upper h) i (standings.upper h i).rank (standings.upper h i).largest (keeps.upper h i low in_path), moves_counted (upper_budget j h i).part (moves_at (ways.upper h (suc i)) (ways.upper h i)) from size (λ c. refl))

  owed_below : (h c : ℕ) → h < system.hosts → suc c < end → IsTrue (is_owed (ways.upper h 0) c) → IsTrue (is_owed (ways.lower ways.stages) c)
  owed_below h c low fit owed = below system agent (λ h. ways.upper h 0) (tagged ways ways.stages) end keeps.arbiter h c low fit owed

  abbrev up : ℕ → Port
  up h = ways.upper h 0

  abbrev down : Port
  down = ways.lower ways.stages

  arbiter_acts : (c : ℕ) → c < size → IsTrue (arbiter_works (moment j c)) → IsFalse (takes down (from + c)) → IsTrue (arbiter_excused (moment j c))
  arbiter_acts c h w still = by_idle (idles laws.turns system agent up (tagged ways ways.stages) end keeps.arbiter share (from + c) (omega (arith, fits, h)) still)
    where
      excuse_first : (a b c : Bool) → IsTrue a → IsTrue (a || b || c)
      excuse_first a b c h = or_left (a || b) c (or_left a b h)

      excuse_second : (a b c : Bool) → IsTrue b → IsTrue (a || b || c)
      excuse_second a b c h = or_left (a || b) c (or_right a b h)

      excuse_third : (a b c : Bool) → IsTrue c → IsTrue (a || b || c)
      excuse_third a b c h = or_right (a || b) c h

      to_rest : (k : ℕ) → k < system.hosts → IsTrue (waits_for (moment j c) k) → IsTrue (arbiter_excused (moment j c))
      to_rest k low waits = excuse_third (stands (j.lower c) (suc j.below)) ((j.lower c).owed (suc j.below) && not (writing (j.lower c) (suc j.below))) (any_below (waits_for (moment j c)) system.hosts) (any_of (waits_for (moment j c)) system.hosts k low waits)

      rest_of : (op sh lw ow : Bool) → IsTrue op → IsFalse sh → IsTrue (lw || not ow) → IsTrue (op && not sh && (lw || not ow))
      rest_of true false lw ow a b d = d
      rest_of true true lw ow a b d = absurd cc
      rest_of false sh lw ow a b d = absurd (no_true a)

      by_write : (k : ℕ) → k < system.hosts → IsFalse (shows (up k).commands.signals (from + c)) → IsTrue (is_unclosed (up k) (from + c)) → is_last_write (taken_at (up k) (suc (from + c))) ≡ is_last_write (taken_at down (suc (from + c))) →
          (lw : Bool) → is_last_write (taken_at (up k) (suc (from + c))) ≡ lw → (ow : Bool) → is_owed (up k) (from + c) ≡ ow → IsTrue (arbiter_excused (moment j c))
      by_write k low quiet opened same true elw ow eow = to_rest k low (rest_of _ _ (is_last_write (taken_at (up k) (suc (from + c)))) (is_owed (up k) (from + c)) opened quiet (or_left _ _ elw))
      by_write k low quiet opened same false elw false eow = to_rest k low (rest_of _ _ (is_last_write (taken_at (up k) (suc (from + c)))) (is_owed (up k) (from + c)) opened quiet (or_right (is_last_write (taken_at (up k) (suc (from + c)))) _ (not_by _ eow)))
      by_write k low quiet opened same false elw true eow =
          excuse_second (stands (j.lower c) (suc j.below)) ((j.lower c).owed (suc j.below) && not (writing (j.lower c) (suc j.below))) (any_below (waits_for (moment j c)) system.hosts)
          (owed_not_write (is_owed down (from + c)) (is_unclosed down (from + c)) (is_last_write (taken_at down (suc (from + c)))) (owed_below k (from + c) low (omega (arith, fits, h)) eow) (sym same ∙ elw))
        where
          owed_not_write : (o u lw : Bool) → IsTrue o → IsFalse lw → IsTrue (o && not (u && lw))
          owed_not_write true true true a b = absurd cc
          owed_not_write true true false a b = refl
          owed_not_write true false lw a b = refl
          owed_not_write false u lw a b = absurd (no_true a)

      no_work : ((h' : ℕ) → IsFalse (shows (up h').commands.signals (from + c))) → IsFalse (is_unclosed down (from + c)) → IsTrue (arbiter_works (moment j c)) → ⊥
      no_work quiet closed work = by_some (any_below (asks (moment j c)) system.hosts) refl work
        where
          ask_shows : (s t : Bool) → IsTrue ((s && not t) || false || false) → IsTrue s
          ask_shows true t h = refl
          ask_shows false t h = absurd (no_true h)

          by_some : (b : Bool) → any_below (asks (moment j c)) system.hosts ≡ b → IsTrue (b || is_unclosed down (from + c)) → ⊥
          by_some true e w = let found = some_below (asks (moment j c)) system.hosts e in both_ways (shows (up found.0).commands.signals (from + c)) (quiet found.0) (ask_shows (shows (up found.0).commands.signals (from + c)) (takes (up found.0) (from + c)) found.2)
          by_some false e w = both_ways (is_unclosed down (from + c)) closed w

      by_idle : Idles laws.turns system agent up (tagged ways ways.stages) end keeps.arbiter share (from + c) → IsTrue (arbiter_excused (moment j c))
      by_idle (beat_stands shown) = excuse_first (stands (j.lower c) (suc j.below)) _ _ (holds (shows down.commands.signals (from + c)) (takes down (from + c)) shown still)
      by_idle (rests k low quiet opened same) = by_write k low quiet opened same (is_last_write (taken_at (up k) (suc (from + c)))) refl (is_owed (up k) (from + c)) refl
      by_idle (nothing quiet closed) = absurd (no_work quiet closed w)

  arbiter_lasts : (c : ℕ) → c < size → IsTrue (arbiter_works (moment j c)) → IsFalse (takes down (from + c)) → IsTrue (arbiter_works (moment j (suc c)) || takes down (from + suc c))
  arbiter_lasts c h w still = rw (next c) (by_some (any_below (asks (moment j c)) system.hosts) refl w)
    where
      ask_held : (s t : Bool) → IsTrue ((s && not t) || false || false) → IsTrue (s && not t)
      ask_held true true h = absurd (no_true h)
      ask_held true false h = refl
      ask_held false t h = absurd (no_true h)

      asks_so : (s t : Bool) → IsTrue s → IsFalse t → IsTrue ((s && not t) || false || false)
      asks_so true false a b = refl
      asks_so true true a b = cc
      asks_so false t a b = absurd (no_true a)

      by_take : (h' : ℕ) → h' < system.hosts → IsTrue (shows (up h').commands.signals (suc (from + c))) → (t : Bool) → takes (up h') (suc (from + c)) ≡ t →
          IsTrue (any_below (λ x. (stands (links_at (target_of system agent) (ways.upper x) (suc (from + c))) 0 || false) || false) system.hosts || is_unclosed down (suc (from + c)) || takes down (suc (from + c)))
      by_take h' low shown true e =
          let tag = keeps.arbiter.tagged h' (suc (from + c)) low (omega (arith, fits, h)) e in
          or_right _ (takes down (suc (from + c))) (sym (keeps.arbiter.taken h' (suc (from + c)) low (omega (arith, fits, h)) tag) ∙ e)
      by_take h' low shown false e =
          or_left _ (takes down (suc (from + c))) (or_left _ (is_unclosed down (suc (from + c)))
          (any_of (λ x. (stands (links_at (target_of system agent) (ways.upper x) (suc (from + c))) 0 || false) || false) system.hosts h' low (asks_so (shows (up h').commands.signals (suc (from + c))) (takes (up h') (suc (from + c))) shown e)))

      by_below : (t : Bool) → takes down (suc (from + c)) ≡ t → IsTrue (is_unclosed down (from + c)) →
          IsTrue (any_below (λ x. (stands (links_at (target_of system agent) (ways.upper x) (suc (from + c))) 0 || false) || false) system.hosts || is_unclosed down (suc (from + c)) || t)
      by_below true e opened = or_right _ true refl
      by_below false e opened = or_left _ false (or_right _ (is_unclosed down (suc (from + c))) (subst (λ l. IsTrue (is_last_joined l)) (sym (none_taken down (suc (from + c)) e)) opened))

      by_some : (b : Bool) → any_below (asks (moment j c)) system.hosts ≡ b → IsTrue (b || is_unclosed down (from + c)) →
          IsTrue (any_below (λ x. (stands (links_at (target_of system agent) (ways.upper x) (suc (from + c))) 0 || false) || false) system.hosts || is_unclosed down (suc (from + c)) || takes down (suc (from + c)))
      by_some true e w' =
          let found = some_below (asks (moment j c)) system.hosts e in
          by_take found.0 found.1 (shown_again (up found.0) (from + c) end (keeps.arbiter.legal found.0 found.1) (omega (arith, fits, h)) (ask_held (shows (up found.0).commands.signals (from + c)) (takes (up found.0) (from + c)) found.2)) (takes (up found.0) (suc (from + c))) refl
      by_some false e w' = by_below (takes down (suc (from + c))) refl w'

  arbiter_keeps : Keeps (arbiter_budget j) size
  arbiter_keeps = (
    record {
      bounded = λ c h. omega arith;
      falls = λ c h w m e. absurd (both_ways (arbiter_excused (moment j c)) e (arbiter_acts c h w m));
      stays = λ c h w m. omega arith;
      lasts = λ c h w m. arbiter_lasts c h w m;
    },
    moves_counted (arbiter_budget j).part (takes down) from size (λ c. refl),
  )

  sound : (c : ℕ) → c < size → IsSoundJunction (moment j c)
  sound c h = record {
    lower = lower_flow;
    upper = λ g low. record { answers = λ i in_path owed. (keeps.upper g i low in_path).words (from + c) (omega (arith, fits, h)) owed; top = at_work.bursts g c low h };
    answers = λ g low owed. owed_below g (from + c) low (omega (arith, fits, h)) owed;
    idle = agent_idle (system.agent agent).has_waitrequest (shows (run.at_agent agent).signals (from + c)) (agent_accepts (system.agent agent) (run.at_agent agent) (from + c)) (owes system run agent (from + c)) (at_work.ready c h) (at_work.answered c h);
  }
    where
      lower_flow : AnswersFlow (lower_at system run agent ways (from + c)) (suc ways.stages)
      lower_flow zero low owed = keeps.agent_part.words (from + c) (omega (arith, fits, h)) owed
      lower_flow (suc i) low owed = (keeps.lower i (omega (arith, low))).words (from + c) (omega (arith, fits, h)) owed

  pub work_is_short : size ≤ longest system run agent ways standings from size
  work_is_short = laws.stuck j host size (all_hosts system) (record {
    is_host = at_work.host_is;
    is_seen = is_among_numbers 0 system.hosts host (omega arith) (let is = at_work.host_is in omega (arith, is));
    keep = (arbiter_keeps, both_keep (budgets (lower_budget j) (suc ways.stages)) (budgets_of_hosts j (all_hosts system)) size (all_keep (lower_budget j) (suc ways.stages) size lower_keeps) (hosts_keep j 0 system.hosts size (λ h i low in_path. upper_keeps h i (omega (arith, low)) in_path)));
    sound = sound;
    covers = λ c h low is waits. is_among_numbers 0 system.hosts h (omega arith) (omega (arith, is));
    work = at_work.work;
  })
