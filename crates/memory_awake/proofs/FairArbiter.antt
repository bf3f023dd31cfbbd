-- Where every host joined to an agent asks in each cycle, the arbiter's turns are full.
use Rattle.std.proofs.Common.{◌≡◌, ℕ, zero, suc, ◌+◌, ◌-◌, ◌≤◌, Bool, true, false, ◌&&◌, ◌||◌, List, [], ◌∷◌, ◌++◌, length, map, nat_eq, nat_lt, if◌then◌else◌, arith, refl, sym, ap, ◌∙◌, subst, append-nil, IsTrue, IsFalse, tests, Option, Some, None, MatchOption}
use Rattle.std.specs.List.{list_any}
use Rattle.histories.specs.History.{only_if}
use Rattle.memory_runs.specs.Views.{System}
use Rattle.memory_runs.specs.Commands.{shows}
use Rattle.memory_runs.specs.Order.{Owner}
use Rattle.memory_runs.specs.Awake.{next_host, turns_of, HasFullTurns}
use Rattle.memory_machines.specs.Link.{Port, takes}
use Rattle.memory_machines.specs.Lines.{TaggedPort}
use Rattle.memory_machines.specs.Turns.{Grant, Choice, chosen, choice_by, choice_of, grant_before, grant_after, asks_at, ends_at, seats_of}
use Rattle.histories.specs.Turns.{Seat, Round, Turn, turn_of, next_asking, last_host, AllShare}
use Rattle.histories.specs.Turns.{Nobody, Begins}
use Rattle.memory_parts.specs.Steps.{IsArbiterPart}
use Rattle.memory_awake.specs.Fair.{are_apart, hosts_taken, AllAskPlainly, AreAmong}
use Rattle.memory_awake.proofs.Arbiter.{TurnLaws, chosen_asks}
use Rattle.memory_awake.proofs.Bits.{not_shown, no_true}
use Rattle.memory_awake.proofs.FairTurns.{Follows, dropped, taken_of, full_turns, other_next, AllAre, all_dropped, all_taken, alone, few_turns}
use Rattle.memory_awake.proofs.FairRing.{hosts, seats_are_ring, IsRing, KeepsRing, turn_keeps, holder_within, front_follows, last_of}

-- ---- the turn in a cycle in which every host asks

module _ (order : List ℕ) (shares : ℕ → ℕ) where
  -- a host whose command is open has it left beside the others of its turn
  abbrev left_of : Option ℕ → ℕ → ℕ
  left_of None left = left
  left_of (Some host) left = suc left

  -- who holds the turn, and what is left of it, as a cycle begins
  abbrev FollowsGrant : Grant → List ℕ → Type 0
  FollowsGrant grant xs = Follows order shares (last_host grant.round.ring) (left_of grant.open_host grant.round.left) xs

  -- the next host's turn begins by its first command
  begins_soon : (holder h left : ℕ) (xs : List ℕ) → h ≡ next_host order holder → suc left ≡ shares h → Follows order shares h (suc left) xs → Follows order shares holder zero xs
  begins_soon holder h left [] next all f = tt
  begins_soon holder h left (x ∷ xs) next all f =
      let same : shares h ≡ shares x = ap shares (sym f.0) in
      let fewer : left ≡ shares x - 1 = omega (arith, all, same) in
      (f.0 ∙ next, omega (arith, all, same), subst (λ n. Follows order shares x n xs) fewer f.1)

  -- the taken beat of a chosen host, or its command left open
  record Lets (holder left h after : ℕ) : Type 0 where
    taken_now : (xs : List ℕ) → Follows order shares h after xs → Follows order shares holder left (h ∷ xs)
    left_open : (xs : List ℕ) → Follows order shares h (suc after) xs → Follows order shares holder left xs

  by_taken : (holder left h tag : ℕ) (round : Round) (tk e : Bool) (ends : ℕ → Bool) (xs : List ℕ) → last_host round.ring ≡ h → tag ≡ h → ends h ≡ e → e ≡ tk → Lets holder left h round.left →
      FollowsGrant (record { open_host = if e then None else Some h; round = round }) xs → Follows order shares holder left (only_if tk tag ++ xs)
  by_taken holder left h tag round true true ends xs last is e same lets more =
      subst (λ t. Follows order shares holder left (t ∷ xs)) (sym is) (lets.taken_now xs (subst (λ k. Follows order shares k round.left xs) last more))
  by_taken holder left h tag round false false ends xs last is e same lets more =
      lets.left_open xs (subst (λ k. Follows order shares k (suc round.left) xs) last more)
  by_taken holder left h tag round true false ends xs last is e same lets more = absurd cc
  by_taken holder left h tag round false true ends xs last is e same lets more = absurd cc

  -- what is known of a cycle
  record Cycle (asks ends : ℕ → Bool) (tags : ℕ → ℕ) (tag : ℕ) (tk : Bool) : Type 0 where
    all : (h : ℕ) → IsTrue (list_any (nat_eq h) order) → IsTrue (asks h)
    own : (h : ℕ) → IsTrue (asks h) → tags h ≡ h
    closed : (h : ℕ) → IsTrue (list_any (nat_eq h) order) → ends h ≡ tk

  module _ (asks ends : ℕ → Bool) (tags : ℕ → ℕ) (tag : ℕ) (sh tk : Bool) (cycle : Cycle asks ends tags tag tk) (xs : List ℕ) where
    abbrev Shows : Choice → Type 0
    Shows choice = MatchOption choice.host (IsFalse sh) (λ k. IsTrue sh × (tag ≡ tags k))

    -- where no command is open, a host begins
    begins : (holder left h : ℕ) (round : Round) → IsTrue (list_any (nat_eq h) order) → last_host round.ring ≡ h → Lets holder left h round.left →
        Shows (choice_by (Begins h round)) → FollowsGrant (grant_after (record { open_host = None; round = round }) (choice_by (Begins h round)) ends) xs →
        Follows order shares holder left (only_if tk tag ++ xs)
    begins holder left h round here last lets shown more =
        by_taken holder left h tag round tk (ends h) ends xs last (shown.1 ∙ cycle.own h (cycle.all h here)) refl (cycle.closed h here) lets more

    goes_on : (holder left : ℕ) → Lets holder (suc left) holder left
    goes_on holder left = record { taken_now = λ xs f. (refl, f); left_open = λ xs f. f }

    by_round : (left : ℕ) (ring : List Seat) (before : Round) → IsRing order shares ring →
        Shows (choice_by (turn_of asks (record { left = left; ring = ring }))) →
        FollowsGrant (grant_after (record { open_host = None; round = before }) (choice_by (turn_of asks (record { left = left; ring = ring }))) ends) xs →
        Follows order shares (last_host ring) left (only_if tk tag ++ xs)
    by_round left [] before is shown more = let some = is.some in absurd (omega (arith, some))
    by_round (suc left) (s ∷ l) before is shown more =
        let here = holder_within order shares (s ∷ l) is in
        let asked = cycle.all (last_host (s ∷ l)) here in
        let less : suc left - 1 ≡ left = omega arith in
        let more_left : nat_lt 0 (suc left) ≡ true = grind (arith, tests) in
        let turn : turn_of asks (record { left = suc left; ring = s ∷ l }) ≡ Begins (last_host (s ∷ l)) (record { left = left; ring = s ∷ l }) = rw (asked, more_left) (ap (λ n. Begins (last_host (s ∷ l)) (record { left = n; ring = s ∷ l })) less) in
        begins (last_host (s ∷ l)) (suc left) (last_host (s ∷ l)) (record { left = left; ring = s ∷ l }) here refl (goes_on (last_host (s ∷ l)) left)
        (subst (λ t. Shows (choice_by t)) turn shown) (subst (λ t. FollowsGrant (grant_after (record { open_host = None; round = before }) (choice_by t) ends) xs) turn more)
    by_round zero (s ∷ l) before is shown more =
        let here = is.within s.host first in
        let asked = cycle.all s.host here in
        let some = is.shares_are.0.1 in
        let equal = is.shares_are.0.0 in
        let all : suc (s.shares - 1) ≡ shares s.host = omega (arith, some, equal) in
        let fewer : shares s.host - 1 ≡ s.shares - 1 = omega (arith, some, equal) in
        let next = front_follows order shares s l is in
        let turn : turn_of asks (record { left = 0; ring = s ∷ l }) ≡ Begins s.host (record { left = s.shares - 1; ring = l ++ s ∷ [] }) = by_last (asks (last_host (s ∷ l))) asked in
        begins (last_host (s ∷ l)) zero s.host (record { left = s.shares - 1; ring = l ++ s ∷ [] }) here (last_of l s)
        (record { taken_now = λ ys f. (next, omega (arith, some, equal), subst (λ n. Follows order shares s.host n ys) (sym fewer) f); left_open = λ ys f. begins_soon (last_host (s ∷ l)) s.host (s.shares - 1) ys next all f })
        (subst (λ t. Shows (choice_by t)) turn shown) (subst (λ t. FollowsGrant (grant_after (record { open_host = None; round = before }) (choice_by t) ends) xs) turn more)
      where
        first : IsTrue (list_any (nat_eq s.host) (hosts (s ∷ l)))
        first = let same : nat_eq s.host s.host ≡ true = grind (arith, tests) in rw same refl

        moved : Begins s.host (record { left = s.shares - 1; ring = (l ++ []) ++ s ∷ [] }) ≡ Begins s.host (record { left = s.shares - 1; ring = l ++ s ∷ [] })
        moved = ap (λ k. Begins s.host (record { left = s.shares - 1; ring = k ++ s ∷ [] })) (append-nil l)

        by_last : (b : Bool) → IsTrue (asks s.host) →
            (if b && nat_lt 0 0 then Begins (last_host (s ∷ l)) (record { left = 0 - 1; ring = s ∷ l }) else next_asking asks [] (s ∷ l)) ≡ Begins s.host (record { left = s.shares - 1; ring = l ++ s ∷ [] })
        by_last true asked = rw asked moved
        by_last false asked = rw asked moved

    by_grant : (open_host : Option ℕ) (round : Round) → IsRing order shares round.ring → ((k : ℕ) → open_host ≡ Some k → last_host round.ring ≡ k) →
        Shows (choice_of open_host asks round) → FollowsGrant (grant_after (record { open_host = open_host; round = round }) (choice_of open_host asks round) ends) xs →
        FollowsGrant (record { open_host = open_host; round = round }) (only_if tk tag ++ xs)
    by_grant None round is held shown more = by_round round.left round.ring round is shown more
    by_grant (Some k) round is held shown more = by_ask (asks k) (cycle.all k here) shown more
      where
        last : last_host round.ring ≡ k
        last = held k refl

        here : IsTrue (list_any (nat_eq k) order)
        here = subst (λ h. IsTrue (list_any (nat_eq h) order)) last (holder_within order shares round.ring is)

        by_ask : (b : Bool) → IsTrue b → Shows (record { host = if b then Some k else None; round = round }) →
            FollowsGrant (grant_after (record { open_host = Some k; round = round }) (record { host = if b then Some k else None; round = round }) ends) xs →
            Follows order shares (last_host round.ring) (suc round.left) (only_if tk tag ++ xs)
        by_ask false asked shown more = absurd cc
        by_ask true asked shown more =
            subst (λ h. Follows order shares h (suc round.left) (only_if tk tag ++ xs)) (sym last)
            (by_taken k (suc round.left) k tag round tk (ends k) ends xs last (shown.1 ∙ cycle.own k (cycle.all k here)) refl (cycle.closed k here) (goes_on k round.left) more)

-- ---- before the window

record Stands (order : List ℕ) (shares : ℕ → ℕ) (grant : Grant) : Type 0 where
  ring : IsRing order shares grant.round.ring
  held : (k : ℕ) → grant.open_host ≡ Some k → last_host grant.round.ring ≡ k

module _ (order : List ℕ) (shares : ℕ → ℕ) where
  after_turn : (turn : Turn) (before : Round) (ends : ℕ → Bool) → KeepsRing order shares turn → Stands order shares (grant_after (record { open_host = None; round = before }) (choice_by turn) ends)
  after_turn (Nobody round) before ends keeps = record { ring = keeps.ring; held = λ k e. absurd cc }
  after_turn (Begins host round) before ends keeps = record { ring = keeps.ring; held = by_end (ends host) }
    where
      by_end : (e : Bool) (k : ℕ) → (if e then None else Some host) ≡ Some k → last_host round.ring ≡ k
      by_end true k e = absurd cc
      by_end false k e = let same : host ≡ k = cc in keeps.last ∙ same

  after_open : (h : ℕ) (round : Round) (b : Bool) (ends : ℕ → Bool) → IsRing order shares round.ring → last_host round.ring ≡ h →
      Stands order shares (grant_after (record { open_host = Some h; round = round }) (record { host = if b then Some h else None; round = round }) ends)
  after_open h round false ends ring last = record { ring = ring; held = λ k e. let same : h ≡ k = cc in last ∙ same }
  after_open h round true ends ring last = record { ring = ring; held = by_end (ends h) }
    where
      by_end : (e : Bool) (k : ℕ) → (if e then None else Some h) ≡ Some k → last_host round.ring ≡ k
      by_end true k e = absurd cc
      by_end false k e = let same : h ≡ k = cc in last ∙ same

  stands_on : (open_host : Option ℕ) (round : Round) (asks ends : ℕ → Bool) → Stands order shares (record { open_host = open_host; round = round }) →
      Stands order shares (grant_after (record { open_host = open_host; round = round }) (choice_of open_host asks round) ends)
  stands_on None round asks ends is = after_turn (turn_of asks round) round ends (turn_keeps order shares asks round is.ring)
  stands_on (Some h) round asks ends is = after_open h round (asks h) ends is.ring (is.held h refl)

  stands : (seats : List Seat) (up : ℕ → Port) (down : Port) (c : ℕ) → IsRing order shares seats → Stands order shares (grant_before seats up down c)
  stands seats up down zero ring = record { ring = ring; held = λ k e. absurd cc }
  stands seats up down (suc c) ring =
      let grant = grant_before seats up down c in
      stands_on grant.open_host grant.round (asks_at up c) (ends_at up down c) (stands seats up down c ring)

-- ---- the window

module _ (system : System) (agent : ℕ) (up : ℕ → Port) (down : TaggedPort) (end : ℕ) (arbiter : IsArbiterPart system agent up down end) where
  abbrev shares_at : ℕ → ℕ
  shares_at host = system.shares host agent

  abbrev grant_at : ℕ → Grant
  grant_at c = grant_before (seats_of system agent) up down.port c

  follows : (from size : ℕ) → from + size ≤ end → AllAskPlainly system agent up from size → IsRing (system.joined agent) shares_at (seats_of system agent) →
      FollowsGrant (system.joined agent) shares_at (grant_at from) (hosts_taken down.port from size)
  follows from zero fit ask ring = tt
  follows from (suc size) fit ask ring =
      let grant = grant_at from in
      let is = stands (system.joined agent) shares_at (seats_of system agent) up down.port from ring in
      by_grant (system.joined agent) shares_at (asks_at up from) (ends_at up down.port from) (λ k. (up k).commands.tag from) (down.port.commands.tag from)
      (shows down.port.commands.signals from) (takes down.port from) cycle (hosts_taken down.port (suc from) size) grant.open_host grant.round is.ring is.held
      (arbiter.turns from (omega (arith, fit))) (follows (suc from) size (omega (arith, fit)) (λ h c joined low high. ask h c joined (omega (arith, low)) (omega (arith, high))) ring)
    where
      cycle : Cycle (system.joined agent) shares_at (asks_at up from) (ends_at up down.port from) (λ k. (up k).commands.tag from) (down.port.commands.tag from) (takes down.port from)
      cycle = record {
        all = λ h joined. (ask h from joined (omega arith) (omega arith)).0;
        own = λ h asked. arbiter.own_tag h from (omega (arith, fit)) asked;
        closed = λ h joined. let ends = (ask h from joined (omega arith) (omega arith)).1 in rw ends (by_taken_now (takes down.port from));
      }
        where
          by_taken_now : (t : Bool) → (t && true) ≡ t
          by_taken_now true = refl
          by_taken_now false = refl

  -- where no host is joined, nothing is taken
  none_taken : TurnLaws → system.joined agent ≡ [] → (from size : ℕ) → from + size ≤ end → hosts_taken down.port from size ≡ []
  none_taken laws none from zero fit = refl
  none_taken laws none from (suc size) fit =
      let quiet = by_choice (chosen (grant_at from) (asks_at up from)).host refl (arbiter.turns from (omega (arith, fit))) in
      let nothing = not_shown down.port from quiet in
      rw nothing (none_taken laws none (suc from) size (omega (arith, fit)))
    where
      by_choice : (host : Option ℕ) → (chosen (grant_at from) (asks_at up from)).host ≡ host →
          MatchOption host (IsFalse (shows down.port.commands.signals from)) (λ k. IsTrue (shows down.port.commands.signals from) × (down.port.commands.tag from ≡ (up k).commands.tag from)) →
          IsFalse (shows down.port.commands.signals from)
      by_choice None e shown = shown
      by_choice (Some k) e shown =
          let asked = chosen_asks laws (grant_at from).open_host (asks_at up from) (grant_at from).round k e in
          absurd (no_true (subst (λ o. IsTrue (list_any (nat_eq k) o)) none (arbiter.joined k from (omega (arith, fit)) asked).1))

-- ---- the turns of a row

module _ (laws : TurnLaws) (system : System) (agent : ℕ) (up : ℕ → Port) (down : TaggedPort) (end : ℕ) (share : AllShare (seats_of system agent)) (apart : IsTrue (are_apart (system.joined agent)))
    (arbiter : IsArbiterPart system agent up down end) (from size : ℕ) (fit : from + size ≤ end) (ask : AllAskPlainly system agent up from size) (owners : List Owner) (among : AreAmong owners down.port from size) where
  abbrev shares_of : ℕ → ℕ
  shares_of host = system.shares host agent

  abbrev seats_in : List ℕ → List Seat
  seats_in order = map (λ host. record { host = host; shares = shares_of host }) order

  abbrev grant : Grant
  grant = grant_before (seats_of system agent) up down.port from

  ring_of : (x : ℕ) (order : List ℕ) → system.joined agent ≡ x ∷ order → IsRing (system.joined agent) shares_of (seats_of system agent)
  ring_of x order e =
      subst (λ o. IsRing o shares_of (seats_in o)) (sym e)
      (seats_are_ring shares_of x order (subst (λ o. IsTrue (are_apart o)) e apart) (subst (λ o. AllShare (seats_in o)) e share))

  short_row : length (turns_of owners) ≤ 1 → HasFullTurns system agent (turns_of owners)
  short_row few i some low = absurd (omega (arith, few, some, low))

  by_order : (order : List ℕ) → system.joined agent ≡ order → HasFullTurns system agent (turns_of owners)
  by_order [] e =
      let nothing = none_taken system agent up down end arbiter laws e from size fit in
      short_row (few_turns 0 owners (subst (AllAre 0) (sym among.same) (all_taken 0 among.few _ (all_dropped 0 among.first _ (subst (AllAre 0) (sym nothing) tt)))))
  by_order (x ∷ []) e =
      let ring = ring_of x [] e in
      let is = (stands (system.joined agent) shares_of (seats_of system agent) up down.port from ring).ring in
      let here : IsTrue (list_any (nat_eq (last_host grant.round.ring)) (x ∷ [])) = subst (λ o. IsTrue (list_any (nat_eq (last_host grant.round.ring)) o)) e (holder_within (system.joined agent) shares_of grant.round.ring is) in
      let holder : last_host grant.round.ring ≡ x = one_of (last_host grant.round.ring) here in
      let all = alone x shares_of (last_host grant.round.ring) (left_of (system.joined agent) shares_of grant.open_host grant.round.left) (hosts_taken down.port from size) holder
      (subst (λ o. Follows o shares_of (last_host grant.round.ring) (left_of (system.joined agent) shares_of grant.open_host grant.round.left) (hosts_taken down.port from size)) e (follows system agent up down end arbiter from size fit ask ring)) in
      short_row (few_turns x owners (subst (AllAre x) (sym among.same) (all_taken x among.few _ (all_dropped x among.first _ all))))
    where
      one_of : (h : ℕ) → IsTrue (nat_eq h x || false) → h ≡ x
      one_of h t = grind (arith, tests, t)
  by_order (x ∷ y ∷ order) e =
      let ring = ring_of x (y ∷ order) e in
      let all = dropped (system.joined agent) shares_of among.first _ _ (hosts_taken down.port from size) (follows system agent up down end arbiter from size fit ask ring) in
      let row = taken_of (system.joined agent) shares_of among.few all.holder all.left _ all.is in
      full_turns (system.joined agent) shares_of owners all.holder all.left
      (subst (λ o. (h : ℕ) → next_host o h ≡ h → ⊥) (sym e) (other_next x y order (subst (λ o. IsTrue (are_apart o)) e apart)))
      (subst (Follows (system.joined agent) shares_of all.holder all.left) (sym among.same) row)

  pub turns_are_full : HasFullTurns system agent (turns_of owners)
  turns_are_full = by_order (system.joined agent) refl
