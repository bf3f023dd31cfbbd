-- An agent that is asked while it owes words accepts: what a host presents stands before the arbiter, goes down the pipe, and waits for no more than the agent's wait states.
use Rattle.std.proofs.Common.{ℕ, zero, suc, ◌<◌, ◌≤◌, ◌≡◌, ◌+◌, Bool, true, false, not, ◌||◌, ◌&&◌, List, [], ◌∷◌, arith, refl, sym, ap, subst, ◌∙◌, nat_eq, length, IsTrue, IsFalse, tests, inl, inr}
use Rattle.std.proofs.lemmas.Bool.{and_parts, both_ways}
use Rattle.std.specs.List.{list_any, list_all}
use Rattle.histories.specs.Turns.{AllShare}
use Rattle.memory_runs.specs.Views.{System, Run, Shape}
use Rattle.memory_runs.specs.Commands.{shows, agent_accepts}
use Rattle.memory_runs.specs.Order.{taken, of_host, issued, is_joined}
use Rattle.memory_runs.specs.Awake.{is_alike, longest_wait, Throughout, Sometime}
use Rattle.memory_machines.specs.Link.{Port, takes, taken_at, operations_among, is_last_joined}
use Rattle.memory_machines.specs.Lines.{target_of, with_tag}
use Rattle.memory_machines.specs.Rank.{is_unclosed}
use Rattle.memory_machines.specs.Turns.{seats_of}
use Rattle.memory_parts.specs.Steps.{IsArbiterPart}
use Rattle.memory_parts.specs.Ahead.{waits_left}
use Rattle.memory_awake.specs.Ways.{Ways, Standings, tagged}
use Rattle.memory_awake.specs.Front.{KeepsWhole}
use Rattle.memory_awake.specs.Ahead.{LeadsAhead, CanTakeMore}
use Rattle.memory_awake.specs.Wires.{IsWire}
use Rattle.memory_links.specs.Soon.{ShowsSoon}
use Rattle.memory_awake.proofs.Arbiter.{TurnLaws, Idles, Idles.beat_stands, Idles.rests, Idles.nothing, idles}
use Rattle.memory_awake.proofs.Wanted.{some_or_none, own_taken, tagged_of_host, two_of}
use Rattle.memory_awake.proofs.Bits.{takes_shows, shown_again, holds, no_true}
use Rattle.memory_awake.proofs.SilentRow.{never_taken}
use Rattle.memory_awake.proofs.Widened.{wire_stays, wire_taken, wire_operations}

pub each_of : (test : ℕ → Bool) (xs : List ℕ) (h : ℕ) → IsTrue (list_all test xs) → IsTrue (list_any (nat_eq h) xs) → IsTrue (test h)
each_of test [] h all any = absurd (no_true any)
each_of test (x ∷ xs) h all any = by_same (nat_eq h x) refl any (each_of test xs h parts.1)
  where
    parts : IsTrue (test x) × IsTrue (list_all test xs)
    parts = and_parts (test x) _ all

    by_same : (b : Bool) → nat_eq h x ≡ b → IsTrue (b || list_any (nat_eq h) xs) → (IsTrue (list_any (nat_eq h) xs) → IsTrue (test h)) → IsTrue (test h)
    by_same true e any more = let same : h ≡ x = grind (arith, tests, e) in subst (λ y. IsTrue (test y)) (sym same) parts.0
    by_same false e any more = more any

-- ---- the pipe

module _ (lower : ℕ → Port) (n : ℕ) (soon : (i : ℕ) → i < n → ShowsSoon (lower (suc i)) (lower i)) where
  -- where no boundary shows a beat, nothing is kept
  all_the_same : (c k : ℕ) → k ≤ n → ((i : ℕ) → i < k → IsFalse (shows (lower i).commands.signals c)) → (taken_at (lower k) c ≡ taken_at (lower 0) c) × ((lower k).shape ≡ (lower 0).shape)
  all_the_same c zero fit none = (refl, refl)
  all_the_same c (suc k) fit none =
      let more = all_the_same c k (omega (arith, fit)) (λ i less. none i (omega (arith, less))) in
      ((soon k fit).all c (none k (omega arith)) ∙ more.0, (soon k fit).shape ∙ more.1)

  -- a beat that is shown at a boundary comes to the lowest one
  reaches_bottom : (k c : ℕ) → k ≤ n → IsTrue (shows (lower k).commands.signals c) → (d : ℕ) × (d ≤ k) × IsTrue (shows (lower 0).commands.signals (c + d))
  reaches_bottom zero c fit shown = (0, omega arith, let same : c ≡ c + 0 = omega arith in subst (λ x. IsTrue (shows (lower 0).commands.signals x)) same shown)
  reaches_bottom (suc k) c fit shown =
      two_of (shows (lower k).commands.signals c) (shows (lower k).commands.signals (suc c)) ((soon k fit).next c shown)
      (λ now. let more = reaches_bottom k c (omega (arith, fit)) now in let few = more.1 in (more.0, omega (arith, few), more.2))
      (λ next. let more = reaches_bottom k (suc c) (omega (arith, fit)) next in let few = more.1 in
      let moved : suc c + more.0 ≡ c + suc more.0 = omega arith in
      (suc more.0, omega (arith, few), subst (λ x. IsTrue (shows (lower 0).commands.signals x)) moved more.2))

module _ (turn_laws : TurnLaws) (system : System) (run : Run) (agent : ℕ) (ways : Ways) (standings : Standings) (end : ℕ) (share : AllShare (seats_of system agent)) (keeps : KeepsWhole system run agent ways standings end) (ahead : LeadsAhead system run agent ways end)
    (alike : IsTrue (list_all (λ host. is_alike (system.host host) (system.agent agent)) (system.joined agent))) where
  abbrev arbiter : IsArbiterPart system agent (λ h. ways.upper h 0) (tagged ways ways.stages) end
  arbiter = keeps.awake.arbiter

  abbrev bottom : Port
  bottom = ways.lower ways.stages

  abbrev top : ℕ → Port
  top h = ways.upper h (ways.above h)

  alike_at : (h : ℕ) → IsTrue (is_joined system agent h) → IsTrue (is_alike (system.host h) (system.agent agent))
  alike_at h joined = each_of (λ host. is_alike (system.host host) (system.agent agent)) (system.joined agent) h alike joined

  wire : (h : ℕ) → h < system.hosts → IsTrue (is_joined system agent h) → IsWire (top h) (ways.upper h 0)
  wire h low joined = ahead.wired h low joined (alike_at h joined)

  plain_at : (h : ℕ) → IsTrue (is_joined system agent h) → IsFalse (system.host h).has_burst
  plain_at h joined = plain (nat_eq (system.host h).word_bytes (system.agent agent).word_bytes) (system.host h).has_burst (not (system.host h).has_enables || (system.agent agent).has_enables) (alike_at h joined)
    where
      plain : (w b e : Bool) → IsTrue (w && not b && e) → IsFalse b
      plain w b e t = grind (arith, tests, t)

  by_joined : (h : ℕ) {R : Type 0} → (IsTrue (is_joined system agent h) → R) → (IsFalse (is_joined system agent h) → R) → R
  by_joined h {R} yes' no' = by_test (is_joined system agent h) refl
    where
      by_test : (b : Bool) → is_joined system agent h ≡ b → R
      by_test true e = yes' e
      by_test false e = no' e

  -- a host that isn't joined shows nothing
  silent : (h c : ℕ) → c < end → IsFalse (is_joined system agent h) → IsFalse (shows (ways.upper h 0).commands.signals c)
  silent h c fit apart = by_shown (shows (ways.upper h 0).commands.signals c) refl
    where
      by_shown : (b : Bool) → shows (ways.upper h 0).commands.signals c ≡ b → IsFalse b
      by_shown false e = refl
      by_shown true e = absurd (both_ways (is_joined system agent h) apart (arbiter.joined h c fit e).1)

  silent_top : (h c : ℕ) → h < system.hosts → c < end → IsFalse (is_joined system agent h) → IsFalse (shows (top h).commands.signals c)
  silent_top h c low fit apart = by_shown (shows (top h).commands.signals c) refl
    where
      by_shown : (b : Bool) → shows (top h).commands.signals c ≡ b → IsFalse b
      by_shown false e = refl
      by_shown true e = absurd (both_ways (is_joined system agent h) apart (ahead.joined h c low fit e))

  -- no command is left open above the arbiter
  closed : (h c : ℕ) → h < system.hosts → suc c < end → IsFalse (is_unclosed (ways.upper h 0) c)
  closed h c low fit = by_joined h
      (λ joined. subst (λ l. IsFalse (is_last_joined l)) (sym (wire_taken (top h) (ways.upper h 0) (wire h low joined) (suc c))) (ahead.closed h low (plain_at h joined) c (omega (arith, fit))))
      (λ apart. ap is_last_joined (never_taken (ways.upper h 0) end (λ c fit. silent h c fit apart) (suc c) (omega (arith, fit))))

  -- where a host asks, a beat is shown behind the arbiter
  arbiter_shows : (h c : ℕ) → suc c < end → IsTrue (shows (ways.upper h 0).commands.signals c) → IsTrue (shows bottom.commands.signals c)
  arbiter_shows h c fit shown = by_take (takes bottom c) refl
    where
      by_idle : Idles turn_laws system agent (λ h. ways.upper h 0) (tagged ways ways.stages) end arbiter share c → IsTrue (shows bottom.commands.signals c)
      by_idle (beat_stands stands) = stands
      by_idle (rests k low quiet opened writes) = absurd (both_ways (is_unclosed (ways.upper k 0) c) (closed k c low fit) opened)
      by_idle (nothing none free) = absurd (both_ways (shows (ways.upper h 0).commands.signals c) (none h) shown)

      by_take : (t : Bool) → takes bottom c ≡ t → IsTrue (shows bottom.commands.signals c)
      by_take true e = takes_shows bottom c e
      by_take false e = by_idle (idles turn_laws system agent (λ h. ways.upper h 0) (tagged ways ways.stages) end arbiter share c (omega (arith, fit)) e)

  -- an operation that isn't taken is shown at some boundary below the arbiter
  some_shown : (h c : ℕ) → h < system.hosts → suc c < end → CanTakeMore system run agent h c → (k : ℕ) × (k < suc ways.stages) × IsTrue (shows (ways.lower k).commands.signals c)
  some_shown h c low fit can = elim (some_or_none (λ k. shows (ways.lower k).commands.signals c) (suc ways.stages)) [
    | inl found ↦ found
    | inr none ↦ absurd (nowhere none)
  ]
    where
      nothing_at_top : ((k : ℕ) → k < suc ways.stages → IsFalse (shows (ways.lower k).commands.signals c)) → IsFalse (shows (top h).commands.signals c)
      nothing_at_top none = by_shown (shows (top h).commands.signals c) refl
        where
          by_shown : (b : Bool) → shows (top h).commands.signals c ≡ b → IsFalse b
          by_shown false e = refl
          by_shown true e =
              let at_arbiter = wire_stays (top h) (ways.upper h 0) (wire h low (ahead.joined h c low (omega (arith, fit)) e)) (λ p. IsTrue (shows p.commands.signals c)) e in
              absurd (both_ways (shows bottom.commands.signals c) (none ways.stages (omega arith)) (arbiter_shows h c fit at_arbiter))

      nowhere : ((k : ℕ) → k < suc ways.stages → IsFalse (shows (ways.lower k).commands.signals c)) → ⊥
      nowhere none = by_joined h
          (λ joined.
          let w = wire_operations (top h) (ways.upper h 0) (wire h low joined) (target_of system agent) c in
          let own = own_taken system agent (λ h. ways.upper h 0) (tagged ways ways.stages) end arbiter (target_of system agent) h low (keeps.words h low) c (omega (arith, fit)) in
          let tags = tagged_of_host (target_of system agent) (ways.lower 0).shape (taken_at (ways.lower 0) c) h in
          let same = all_the_same ways.lower ways.stages ahead.pipe c ways.stages (omega arith) (λ i less. none i (omega (arith, less))) in
          let below = ap (λ l. length (operations_among (target_of system agent) (ways.lower 0).shape (with_tag h l))) same.0 in
          let shapes = ap (λ (s : Shape). length (operations_among (target_of system agent) s (with_tag h (taken_at bottom c)))) same.1 in
          let got = ap (λ l. length (of_host h l)) (ahead.accepts.taken c (omega (arith, fit))) in
          omega (arith, most, lacks, w, own, tags, below, shapes, got))
          (λ apart.
          let nothing = ap (λ l. length (operations_among (target_of system agent) (top h).shape l)) (never_taken (top h) end (λ c fit. silent_top h c low fit apart) c (omega (arith, fit))) in
          omega (arith, most, lacks, nothing))
        where
          most : length (issued system run h agent (suc c)) ≤ length (operations_among (target_of system agent) (top h).shape (taken_at (top h) c))
          most = ahead.back h low c (omega (arith, fit)) can.room can.alone (nothing_at_top none)

          lacks : length (of_host h (taken system run agent c)) < length (issued system run h agent (suc c))
          lacks = can.untaken

  module _ (host from size : ℕ) (low : host < system.hosts) (fits : from + size + 2 ≤ end) (large : ways.stages + longest_wait (system.agent agent) + 2 ≤ size) (has : IsTrue (system.agent agent).has_readdatavalid)
      (can : Throughout from size (CanTakeMore system run agent host)) where
    abbrev accepts : ℕ → Bool
    accepts c = agent_accepts (system.agent agent) (run.at_agent agent) c

    -- a beat that the agent doesn't accept stands before its part
    stands_on : ((c : ℕ) → c < size → IsFalse (accepts (from + c))) → (first d : ℕ) → first + d < size → IsTrue (shows (ways.lower 0).commands.signals (from + first)) → IsTrue (shows (ways.lower 0).commands.signals (from + (first + d)))
    stands_on none first zero inside shown = let same : from + first ≡ from + (first + 0) = omega arith in subst (λ x. IsTrue (shows (ways.lower 0).commands.signals x)) same shown
    stands_on none first (suc d) inside shown =
        let before = stands_on none first d (omega (arith, inside)) shown in
        let still = keeps.awake.agent_part.accepted (from + (first + d)) (omega (arith, inside, fits)) ∙ none (first + d) (omega (arith, inside)) in
        let next = shown_again (ways.lower 0) (from + (first + d)) end keeps.awake.agent_part.legal (omega (arith, inside, fits)) (holds (shows (ways.lower 0).commands.signals (from + (first + d))) (takes (ways.lower 0) (from + (first + d))) before still) in
        let moved : suc (from + (first + d)) ≡ from + (first + suc d) = omega arith in
        subst (λ x. IsTrue (shows (ways.lower 0).commands.signals x)) moved next

    -- with each cycle a wait state is over
    waits_fall : ((c : ℕ) → c < size → IsFalse (accepts (from + c))) → (first d : ℕ) → first + d < size → IsTrue (shows (ways.lower 0).commands.signals (from + first)) → waits_left system run agent (from + (first + d)) + d ≤ longest_wait (system.agent agent)
    waits_fall none first zero inside shown = omega arith
    waits_fall none first (suc d) inside shown =
        let before = waits_fall none first d (omega (arith, inside)) shown in
        let is = stands_on none first d (omega (arith, inside)) shown in
        let more = can (from + (first + d)) (omega arith) (omega (arith, inside)) in
        let falls = ahead.accepts.nears (from + (first + d)) (omega (arith, inside, fits)) has is more.ready more.bears (none (first + d) (omega (arith, inside))) in
        let moved : suc (from + (first + d)) ≡ from + (first + suc d) = omega arith in
        let there = ap (waits_left system run agent) moved in
        omega (arith, before, falls, there)

    pub accepted_within : Sometime from size (λ c. IsTrue (accepts c))
    accepted_within = elim (some_or_none (λ c. accepts (from + c)) size) [
      | inl found ↦ (from + found.0, omega arith, omega (arith, found.1), found.2)
      | inr none ↦ absurd (never none)
    ]
      where
        never : ((c : ℕ) → c < size → IsFalse (accepts (from + c))) → ⊥
        never none =
            let some = some_shown host from low (omega (arith, fits, large)) (can from (omega arith) (omega (arith, large))) in
            let k = some.1 in
            let found = reaches_bottom ways.lower ways.stages ahead.pipe some.0 from (omega (arith, k)) some.2 in
            let few = found.1 in
            let over = waits_fall none found.0 (longest_wait (system.agent agent) + 1) (omega (arith, few, k, large)) found.2 in
            omega (arith, over)
