-- The part next to an agent has a rank of at most the longest wait time and 1.
use Rattle.std.proofs.Common.{ℕ, zero, suc, ◌<◌, ◌≤◌, ◌≡◌, ◌+◌, ◌-◌, [], ◌∷◌, ◌++◌, List, Bool, true, false, not, ◌&&◌, ◌||◌, IsTrue, IsFalse, nat_lt, nat_eq, if◌then◌else◌, max, arith, tests, refl, sym, ap, ap₂, ◌∙◌, length, map, filter, flat_map, append-nil, length-append, inl, inr, ◌⊎◌}
use Rattle.std.proofs.lemmas.Bool.{and_parts, or_parts, both_ways, or_left, or_right, ltb-true, ltb-false, lt-ltb, le-ltb}
use Rattle.std.proofs.lemmas.List.{length-map}
use Rattle.histories.specs.History.{before, only_if, one_if, is_raised}
use Rattle.histories.specs.Laws.{prefix_length, before_extends, shown_is_accepted_and_standing}
use Rattle.memory_runs.specs.Views.{Responses, System, Run, AgentSide, AgentView, Levels, Shape}
use Rattle.memory_runs.specs.Commands.{Burst, Transfer, shows, is_held, agent_accepts, stood_before, wait_time, transfer_at, burst_before, words_before}
use Rattle.memory_runs.specs.Legal.{IsLegalAgent, IsProperAtAgent, is_under_way}
use Rattle.memory_runs.specs.Order.{Tagged, TaggedBeat, beats_taken, beats_taken_in, is_read_beat, taken, words_given_in}
use Rattle.memory_runs.specs.Awake.{owes, longest_wait}
use Rattle.memory_machines.specs.Link.{Target, Marked, takes, taken_at, shown_at, marked_at, operations_among, operations_in}
use Rattle.memory_machines.specs.Lines.{TaggedPort, IsFit, target_of, groups_of, tagged_operations}
use Rattle.memory_machines.specs.Rank.{may_rest, is_owed}
use Rattle.memory_machines.specs.PartRanks.{AgentRankFalls, has_agent_work, moves_at_agent, is_agent_excused}
use Rattle.memory_machines.specs.SideLaws.{marked_keeps, all_reached}
use Rattle.memory_parts.specs.Queue.{Entry}
use Rattle.memory_parts.specs.Agent.{AgentState, IsAgentMachine, IsAgentPlan, is_full}
use Rattle.memory_parts.specs.Steps.{IsAgentPart, words_from_agent, agent_rank}
use Rattle.memory_parts.proofs.Queued.{entries, all_ask, unreached_is}
use Rattle.memory_parts.proofs.QueueBound.{owed_is}
use Rattle.memory_parts.proofs.AgentShown.{same_takes, shows_is, same_burst}
use Rattle.memory_parts.proofs.AgentLegal.{queue_holds}
use Rattle.memory_parts.proofs.AgentLine.{taken_is}
use Rattle.memory_parts.proofs.AgentTimes.{timely, reads_are, as_long}

tagged_length : (target : Target) (shape : Shape) (ms : List Marked) → length (tagged_operations (groups_of target shape ms)) ≡ length (operations_among target shape ms)
tagged_length target shape [] = refl
tagged_length target shape (m ∷ ms) =
    let more = tagged_length target shape ms in
    let one = length-append (map (λ o. record { tag = m.tag; operation = o }) (operations_in target shape m)) (tagged_operations (groups_of target shape ms)) in
    let two = length-append (operations_in target shape m) (operations_among target shape ms) in
    let same = length-map {B = Tagged} (operations_in target shape m) (λ o. record { tag = m.tag; operation = o }) in
    omega (arith, more, one, two, same)

not_or : (a b : Bool) → IsTrue (not (a || b)) → IsFalse a × IsFalse b
not_or false false h = (refl, refl)
not_or true b h = (let bad : ⊥ = cc in absurd bad)
not_or false true h = (let bad : ⊥ = cc in absurd bad)

is_false : (b : Bool) → IsTrue (not b) → IsFalse b
is_false false h = refl
is_false true h = (let bad : ⊥ = cc in absurd bad)

module _ (responses : Responses) (system : System) (run : Run) (agent : ℕ) (up : TaggedPort) (state : AgentState) (end : ℕ) (machine : IsAgentMachine responses (system.agent agent) (run.at_agent agent) up state end) (plan : IsAgentPlan (system.agent agent))
    (fit : IsFit system agent up.port end) (proper : IsLegalAgent (system.agent agent) (run.at_agent agent) end) (own : IsProperAtAgent (system.agent agent) (run.at_agent agent) end) where
  abbrev side : AgentSide
  side = system.agent agent

  abbrev view : AgentView
  view = run.at_agent agent

  abbrev accepts : ℕ → Bool
  accepts c = agent_accepts side view c

  abbrev given : ℕ → ℕ
  given c = words_from_agent system run agent c

  abbrev reads : ℕ → ℕ
  reads c = length (filter is_read_beat (beats_taken system run agent c))

  abbrev debt : ℕ → ℕ
  debt c = one_if (nat_lt (given c) (reads c))

  abbrev stood : ℕ → ℕ
  stood c = stood_before side view c

  abbrev longest : ℕ
  longest = longest_wait side

  -- ---- the debt

  reads_still : (c : ℕ) → accepts c ≡ false → reads (suc c) ≡ reads c
  reads_still c none = ap (λ l. length (filter is_read_beat (beats_taken system run agent c ++ l))) nothing ∙ ap (λ l. length (filter is_read_beat l)) (append-nil (beats_taken system run agent c))
    where
      in_cycle : Bool → List TaggedBeat
      in_cycle b = map (λ x. record { tag = view.grant c; beat = x }) (flat_map (λ (t : Transfer). t.beats) (only_if b (transfer_at side.shape view.signals (agent_accepts side view) c)))

      nothing : beats_taken_in system run agent c ≡ []
      nothing = ap in_cycle none

  debt_stays : (c : ℕ) → accepts c ≡ false → debt (suc c) ≤ debt c
  debt_stays c none = by_test (nat_lt (given (suc c)) (reads (suc c))) refl
    where
      by_test : (b : Bool) → nat_lt (given (suc c)) (reads (suc c)) ≡ b → one_if b ≤ debt c
      by_test false e = omega arith
      by_test true e =
          let less = ltb-true (given (suc c)) (reads (suc c)) e in
          let same = reads_still c none in
          let grows = prefix_length (before_extends (words_given_in system run agent) c) in
          let now = ap one_if (lt-ltb (given c) (reads c) (omega (arith, less, same, grows))) in
          omega (arith, now)

  -- ---- how long a beat has stood

  -- a beat that isn't accepted is shown again, unchanged
  stands_on_next : (c : ℕ) → suc c < end → shows view.signals c ≡ true → accepts c ≡ false → (shows view.signals (suc c) ≡ true) × (wait_time side view c ≡ wait_time side view (suc c))
  stands_on_next c low shown none =
      let same = own.legal.held c low (ap₂ (λ s a. s && not a) shown none) in (
        ap (λ (l : Levels). is_raised l.read || is_raised l.write) (sym same) ∙ shown,
        ap (λ (l : Levels). if is_raised l.write then side.write_wait else side.read_wait) same,
      )

  module _ (fixed : side.has_waitrequest ≡ false) where
    accepts_is : (c : ℕ) → accepts c ≡ (shows view.signals c && nat_eq (stood c) (wait_time side view c))
    accepts_is c = rw fixed refl

    -- it has stood for no longer than its wait time, and one that isn't shown hasn't stood
    stood_at : (c : ℕ) → c < end → (stood c ≡ 0) ⊎ ((shows view.signals c ≡ true) × (stood c ≤ wait_time side view c))
    stood_at zero low = inl refl
    stood_at (suc c) low = by_test (shows view.signals c) refl (nat_eq (stood c) (wait_time side view c)) refl (stood_at c (omega (arith, low)))
      where
        at_most : (n s w v : ℕ) → n ≡ s + 1 → s ≤ w → nat_eq s w ≡ false → w ≡ v → n ≤ v
        at_most n s w v long few other same = grind (arith, tests, long, few, other, same)

        small : (shows view.signals c ≡ true) → (stood c ≡ 0) ⊎ ((shows view.signals c ≡ true) × (stood c ≤ wait_time side view c)) → stood c ≤ wait_time side view c
        small is (inl none) = omega (arith, none)
        small is (inr some) = some.1

        by_test : (s : Bool) → shows view.signals c ≡ s → (e : Bool) → nat_eq (stood c) (wait_time side view c) ≡ e → (stood c ≡ 0) ⊎ ((shows view.signals c ≡ true) × (stood c ≤ wait_time side view c)) →
            (stood (suc c) ≡ 0) ⊎ ((shows view.signals (suc c) ≡ true) × (stood (suc c) ≤ wait_time side view (suc c)))
        by_test false is e same before = inl (rw is refl)
        by_test true is true same before = inl (rw (is, same) refl)
        by_test true is false same before =
            let next = stands_on_next c low is (accepts_is c ∙ ap₂ (λ s e. s && e) is same) in
            let long : stood (suc c) ≡ stood c + 1 = rw (is, same) refl in
            let few = small is before in
            inr (next.0, at_most (stood (suc c)) (stood c) (wait_time side view c) (wait_time side view (suc c)) long few same next.1)

    pub left_falls : (c : ℕ) → c < end → shows view.signals c ≡ true → accepts c ≡ false → longest - stood (suc c) < longest - stood c
    left_falls c low shown none =
        let other : nat_eq (stood c) (wait_time side view c) ≡ false = sym (ap (λ s. s && nat_eq (stood c) (wait_time side view c)) shown) ∙ (sym (accepts_is c) ∙ none) in
        let long : stood (suc c) ≡ stood c + 1 = rw (shown, other) refl in
        let few = small (stood_at c low) in
        let most = wait_most c in
        less (stood (suc c)) (stood c) (wait_time side view c) longest long few other most
      where
        small : (stood c ≡ 0) ⊎ ((shows view.signals c ≡ true) × (stood c ≤ wait_time side view c)) → stood c ≤ wait_time side view c
        small (inl zero_stood) = omega (arith, zero_stood)
        small (inr some) = some.1

        less : (n s w l : ℕ) → n ≡ s + 1 → s ≤ w → nat_eq s w ≡ false → w ≤ l → l - n < l - s
        less n s w l long few other most = let below : s < w = grind (arith, tests, few, other) in omega (arith, long, below, most)

        wait_most : (c : ℕ) → wait_time side view c ≤ longest
        wait_most c = let most = by_kind (is_raised (view.write c)) in let same : longest ≡ max side.read_wait side.write_wait = ap (λ h. if h then 0 else max side.read_wait side.write_wait) fixed in omega (arith, most, same)
          where
            by_kind : (b : Bool) → (if b then side.write_wait else side.read_wait) ≤ max side.read_wait side.write_wait
            by_kind true = omega arith
            by_kind false = omega arith

    fixed_stays : (c : ℕ) → c < end → accepts c ≡ false → longest - stood (suc c) ≤ longest - stood c
    fixed_stays c low none = by_shown (shows view.signals c) refl (stood_at c low)
      where
        by_shown : (s : Bool) → shows view.signals c ≡ s → (stood c ≡ 0) ⊎ ((shows view.signals c ≡ true) × (stood c ≤ wait_time side view c)) → longest - stood (suc c) ≤ longest - stood c
        by_shown true is at = let falls = left_falls c low is none in omega (arith, falls)
        by_shown false is (inl zero_stood) = let now : stood (suc c) ≡ 0 = rw is refl in omega (arith, zero_stood, now)
        by_shown false is (inr some) = absurd (both_ways (shows view.signals c) is some.0)

  left_stays : (c : ℕ) → c < end → accepts c ≡ false → longest - stood (suc c) ≤ longest - stood c
  left_stays c low none = by_wait side.has_waitrequest refl
    where
      by_wait : (b : Bool) → side.has_waitrequest ≡ b → longest - stood (suc c) ≤ longest - stood c
      by_wait false fixed = fixed_stays fixed c low none
      by_wait true has = let short : longest ≡ 0 = ap (λ h. if h then 0 else max side.read_wait side.write_wait) has in omega (arith, short)

  -- ---- work

  -- where there is work and nothing moves, a beat is shown above
  shown_above : (c : ℕ) → c < end → IsTrue (has_agent_work system run agent up c) → takes up.port c ≡ false → shows up.commands.signals c ≡ true
  shown_above c low work none = by_shown (shows up.commands.signals c) refl
    where
      target : Target
      target = target_of system agent

      by_shown : (s : Bool) → shows up.commands.signals c ≡ s → shows up.commands.signals c ≡ true
      by_shown true is = is
      by_shown false is =
          let held : is_held up.commands.signals (takes up.port) c ≡ false = ap (λ s. s && not (takes up.port c)) is in
          let all = shown_is_accepted_and_standing (shows up.commands.signals) (takes up.port) (marked_at up.port) end (suc c) (marked_keeps up.port end fit.legal) low in
          let same : shown_at up.port (suc c) ≡ taken_at up.port (suc c) = all ∙ ap (λ b. taken_at up.port (suc c) ++ only_if b (marked_at up.port c)) held ∙ append-nil (taken_at up.port (suc c)) in
          let ops = ap length (taken_is system run agent up state end machine.commands plan fit less (suc c) low) ∙ tagged_length target up.shape (taken_at up.port (suc c)) in
          let most = ap (λ l. length (operations_among target up.shape l)) same in
          let nothing : nat_lt (length (taken system run agent (suc c))) (length (operations_among target up.shape (shown_at up.port (suc c)))) ≡ false = le-ltb _ _ (omega (arith, ops, most)) in
          absurd (both_ways (has_agent_work system run agent up c) (ap₂ (λ a b. a || b) held nothing) work)
        where
          less : IsLegalAgent side view (end - 1)
          less = record { owed = λ has c low. proper.owed has c (omega (arith, low)) }

  -- while the gate on reads is shut, a word is owed as the cycle begins
  shut_owes : (c : ℕ) → c < end → is_full side state c ≡ true → given c < reads c
  shut_owes c low full = by_less (nat_lt (given c) (reads c)) refl
    where
      parts : (side.has_readdatavalid ≡ true) × (not (nat_lt (length (state.queue c)) side.pending) ≡ true)
      parts = and_parts side.has_readdatavalid (not (nat_lt (length (state.queue c)) side.pending)) full

      less : IsLegalAgent side view (end - 1)
      less = record { owed = λ has c low. proper.owed has c (omega (arith, low)) }

      by_less : (b : Bool) → nat_lt (given c) (reads c) ≡ b → given c < reads c
      by_less true e = ltb-true (given c) (reads c) e
      by_less false e =
          let es : List Entry = entries (taken_at up.port c) in
          let w = words_before view.readdatavalid c in
          let all = ltb-false (given c) (reads c) e in
          let count = reads_are responses system run agent up state end machine plan fit proper c (omega (arith, low)) ∙ owed_is (taken_at up.port c) in
          let same = as_long (words_given_in system run agent) (λ c. only_if (is_raised (view.readdatavalid c)) c) end c now (omega (arith, low)) in
          let none = all_reached (map (λ (e : Entry). e.left) es) w (omega (arith, all, count, same)) in
          let holds = ap length (queue_holds side view up state end machine.commands plan fit.legal fit.kinds less parts.0 c low) in
          let queue = unreached_is es w (all_ask up.port end fit.legal c (omega (arith, low))) in
          let pending = plan.pending in
          let free : nat_lt (length (state.queue c)) side.pending ≡ true = lt-ltb _ _ (omega (arith, none, holds, queue, pending)) in
          absurd (both_ways (nat_lt (length (state.queue c)) side.pending) (is_false _ parts.1) free)
        where
          now : (k : ℕ) → k < end → length (words_given_in system run agent k) ≡ length (only_if (is_raised (view.readdatavalid k)) k)
          now k fit = one_in side.has_readdatavalid parts.0
            where
              one : {A B : Type 0} (b : Bool) (x : A) (y : B) → length (only_if b x) ≡ length (only_if b y)
              one true x y = refl
              one false x y = refl

              one_in : (h : Bool) → side.has_readdatavalid ≡ true → length (words_given_in system run agent k) ≡ length (only_if (is_raised (view.readdatavalid k)) k)
              one_in h has = rw has (one (is_raised (view.readdatavalid k)) _ k)

  falls : (c : ℕ) → c < end → IsTrue (has_agent_work system run agent up c) → IsTrue (not (moves_at_agent system run agent up c)) → IsTrue (not (is_agent_excused system run agent up c)) → agent_rank system run agent (suc c) < agent_rank system run agent c
  falls c low work still excused = by_shown (shows view.signals c) refl
    where
      none : IsFalse (accepts c) × IsFalse (takes up.port c)
      none = not_or (accepts c) (takes up.port c) still

      not_excused : IsFalse ((side.has_waitrequest && is_held view.signals (agent_accepts side view) c) || (owes system run agent c && not (is_under_way side.shape view.signals (agent_accepts side view) (suc c)))) × IsFalse (may_rest up.port c)
      not_excused = not_or _ (may_rest up.port c) excused

      two : IsFalse (side.has_waitrequest && is_held view.signals (agent_accepts side view) c) × IsFalse (owes system run agent c && not (is_under_way side.shape view.signals (agent_accepts side view) (suc c)))
      two = or_parts (side.has_waitrequest && is_held view.signals (agent_accepts side view) c) _ not_excused.0

      above : IsTrue (shows up.commands.signals c)
      above = shown_above c low work none.1

      by_shown : (s : Bool) → shows view.signals c ≡ s → agent_rank system run agent (suc c) < agent_rank system run agent c
      by_shown true is = by_wait side.has_waitrequest refl
        where
          by_wait : (b : Bool) → side.has_waitrequest ≡ b → agent_rank system run agent (suc c) < agent_rank system run agent c
          by_wait true has = absurd (both_ways (side.has_waitrequest && is_held view.signals (agent_accepts side view) c) two.0 (ap₂ (λ h b. h && b) has (ap₂ (λ s a. s && not a) is none.0)))
          by_wait false fixed = let first = left_falls fixed c low is none.0 in let second = debt_stays c none.0 in omega (arith, first, second)
      by_shown false is =
          let gates = shows_is side view up state end machine.commands plan fit.legal fit.kinds c low in
          let which = gated (is_full side state c) (is_raised (up.commands.read c)) (is_raised (up.commands.write c)) (sym gates ∙ is) above in
          let owing = ap one_if (lt-ltb (given c) (reads c) (shut_owes c low which.0)) in
          let no_burst = free which.1 in
          let paid : owes system run agent c ≡ false = last (owes system run agent c) (is_under_way side.shape view.signals (agent_accepts side view) (suc c)) two.1 no_burst in
          let now : debt (suc c) ≡ 0 = ap one_if paid in
          let first = left_stays c low none.0 in
          omega (arith, owing, now, first)
        where
          gated : (f r w : Bool) → ((not f && r) || w) ≡ false → IsTrue (r || w) → (f ≡ true) × (r ≡ true)
          gated true true false e h = (refl, refl)
          gated f r true e h = absurd (both_ways ((not f && r) || true) e (or_right (not f && r) true refl))
          gated false true false e h = (let bad : ⊥ = cc in absurd bad)
          gated f false false e h = (let bad : ⊥ = cc in absurd bad)

          last : (o u : Bool) → IsFalse (o && not u) → IsFalse u → o ≡ false
          last false u a b = refl
          last true false a b = (let bad : ⊥ = cc in absurd bad)
          last true true a b = (let bad : ⊥ = cc in absurd bad)

          free : is_raised (up.commands.read c) ≡ true → IsFalse (is_under_way side.shape view.signals (agent_accepts side view) (suc c))
          free read = by_left (nat_lt 0 (burst_before up.shape up.commands.signals (takes up.port) c).left) refl
            where
              same : (burst_before side.shape view.signals (agent_accepts side view) (suc c)).left ≡ (burst_before up.shape up.commands.signals (takes up.port) c).left
              same = ap (λ (b : Burst). b.left) (still_burst ∙ same_burst side view up state end machine.commands plan fit.legal fit.kinds c (omega (arith, low)))
                where
                  still_burst : burst_before side.shape view.signals (agent_accepts side view) (suc c) ≡ burst_before side.shape view.signals (agent_accepts side view) c
                  still_burst = rw (none.0) refl

              by_left : (b : Bool) → nat_lt 0 (burst_before up.shape up.commands.signals (takes up.port) c).left ≡ b → IsFalse (is_under_way side.shape view.signals (agent_accepts side view) (suc c))
              by_left false e = ap (nat_lt 0) same ∙ e
              by_left true e = absurd (both_ways (is_raised (up.commands.read c)) (fit.legal.legal.finished c low e) read)

  pub rank_falls : AgentRankFalls system run agent up (agent_rank system run agent) (longest + 1) end
  rank_falls = record {
    bounded = λ c low. let one = at_most (nat_lt (given c) (reads c)) in omega (arith, one);
    falls = falls;
    stays = λ c low work still.
        let none = not_or (accepts c) (takes up.port c) still in
        let first = left_stays c low none.0 in
        let second = debt_stays c none.0 in
        omega (arith, first, second);
  }
    where
      at_most : (b : Bool) → one_if b ≤ 1
      at_most true = omega arith
      at_most false = omega arith

  pub agent_part : IsAgentPart system run agent up (agent_rank system run agent) (longest + 1) end
  agent_part =
      let times = timely responses system run agent up state end machine plan fit proper in
      record {
        legal = fit.legal;
        falls = rank_falls;
        accepted = λ c low. same_takes side view up state end machine.commands plan fit.legal fit.kinds c low;
        words = words;
        given = times.given;
        come = times.come;
        asked = λ c low. let few = times.asked c low in let same = reads_are responses system run agent up state end machine plan fit proper c (omega (arith, low)) in omega (arith, few, same);
      }
    where
      words : (c : ℕ) → c < end → IsTrue (is_owed up.port c) →
          IsTrue (nat_lt (length (taken system run agent (suc c))) (length (operations_among (target_of system agent) up.shape (shown_at up.port (suc c)))) || accepts c || owes system run agent c)
      words c low owed = by_accept (accepts c) refl
        where
          untaken : Bool
          untaken = nat_lt (length (taken system run agent (suc c))) (length (operations_among (target_of system agent) up.shape (shown_at up.port (suc c))))

          by_accept : (b : Bool) → accepts c ≡ b → IsTrue (untaken || accepts c || owes system run agent c)
          by_accept true e = or_left (untaken || accepts c) (owes system run agent c) (or_right untaken (accepts c) e)
          by_accept false e =
              let times = timely responses system run agent up state end machine plan fit proper in
              let come = times.come c low e in
              let less = ltb-true _ _ owed in
              let same = reads_are responses system run agent up state end machine plan fit proper (suc c) low in
              or_right (untaken || accepts c) (owes system run agent c) (lt-ltb (given (suc c)) (reads (suc c)) (omega (arith, come, less, same)))
