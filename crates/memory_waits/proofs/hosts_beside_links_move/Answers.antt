use Rattle.std.proofs.lemmas.Bool.{or_left, or_right, and_parts}
use Rattle.std.proofs.Common.{append-nil, length, nat_lt, ltb-true, ltb-false, ℕ, zero, suc, ◌≡◌, ◌+◌, ◌*◌, ◌<◌, ◌≤◌, ◌||◌, ◌&&◌, not, ◌⊎◌, inl, inr, refl, sym, ap, ◌∙◌, tests, if◌then◌else◌, true, false, Bool, arith, subst, IsTrue, IsFalse, ◌-◌}
use Rattle.histories.specs.History.{is_raised, IsPrefix, one_if, only_if}
use Rattle.histories.specs.Laws.{prefix_trans, prefix_length, before_prefix, before_extends}
use Rattle.memory_runs.specs.Views.{System, Run, Responses}
use Rattle.memory_runs.specs.Commands.{shows}
use Rattle.memory_runs.specs.Awake.{longest_wait}
use Rattle.memory_runs.specs.Order.{is_joined, taken}
use Rattle.memory_runs.specs.Whole.{IsLegalRun}
use Rattle.memory_machines.specs.Link.{Port, AreLegalAt, takes, taken_at, read_beats, words_at, words_owed}
use Rattle.memory_machines.specs.Lines.{target_of, tagged_operations, groups_of}
use Rattle.memory_machines.specs.Machines.{above, below}
use Rattle.memory_machines.specs.SideLaws.{taken_is_shown}
use Rattle.memory_parts.specs.Steps.{IsAgentPart, agent_rank, is_gone}
use Rattle.memory_awake.specs.Approach.{IsApproach}
use Rattle.memory_runs.specs.Onward.{moves_on}
use Rattle.memory_awake.specs.Onward.{is_good, round_by, standing_by}
use Rattle.memory_awake.specs.Steps.{HasStepsLeft, WaitsItsTurn}
use Rattle.memory_awake.specs.Theorem.{Boundaries, States, LinkRanks, IsBuilt, approach_of}
use Rattle.memory_awake.specs.Ways.{count_in}
use Rattle.memory_waits.specs.Watched.{LeadsBy, may_wait, stands_or_owes, waits_for_words}
use Rattle.memory_waits.specs.Waits.{agent_pipe_time, waits_by, standing_quietly, word_time, is_quiet}
use Rattle.memory_waits.proofs.Bits.{no_both, no_true, none_taken, some_or_none}
use Rattle.memory_waits.proofs.Flush.{pipe_flushes, pipe_words, shorter_front}
use Rattle.memory_waits.proofs.Cuts.{times_more}
use Rattle.memory_waits.proofs.Cycles.{all_cycles}
use Rattle.memory_waits.proofs.Leads.{held_still, leads_at_once, shorter_lead, stands_there}
use Rattle.memory_waits.proofs.Moves.{Between, never_stuck, own_words_come, words_below_come}
use Rattle.memory_waits.proofs.Shorter.{shorter_arbiter}
use Rattle.memory_waits.proofs.Stages.{IsPaced, agent_is_paced, pipe_is_paced}
use Rattle.memory_waits.proofs.hosts_beside_links_move.Goals.{After-agent_machine_is_a_part}
use Rattle.memory_waits.proofs.hosts_beside_links_move.Goals as goal

good_parts : (a b c : Bool) → IsTrue (a && not b && not c) → IsTrue a × IsFalse b × IsFalse c
good_parts true false false h = (refl, refl, refl)
good_parts true true c h = absurd (no_true h)
good_parts true false true h = absurd (no_true h)
good_parts false b c h = absurd (no_true h)

not_true : (b : Bool) → IsTrue (not b) → IsFalse b
not_true true h = absurd (no_true h)
not_true false h = refl

module _ (c : After-agent_machine_is_a_part) (responses : Responses) (system : System) (run : Run) (inside : Boundaries) (states : States) (ranks : LinkRanks) (end agent : ℕ) (built : IsBuilt responses system run inside states ranks end) (legal : IsLegalRun system run end) (there : agent < system.agents) where
  way : IsApproach system run agent (approach_of system run inside states ranks agent) end
  way = (c.machines_keep_their_records.ensures.awake responses system run inside states ranks end built legal).agents agent there

  next_to : IsAgentPart system run agent (inside.lower agent 0) (agent_rank system run agent) (longest_wait (system.agent agent) + 1) end
  next_to = way.parts.awake.agent_part

  operations : (k : ℕ) → k ≤ end → taken system run agent k ≡ tagged_operations (groups_of (target_of system agent) (inside.lower agent 0).shape (taken_at (inside.lower agent 0).port k))
  operations k low =
      let settled = c.machines_settle.ensures responses system run inside states end built.plan built.rows built.machines legal in
      c.agent_machine_is_a_part.ensures.operations responses system run agent (inside.lower agent 0) (states.agent agent) end (built.plan.agents agent there) (settled.before_agent agent there) (legal.agents agent there) (built.machines.agent agent there) k low

  paced_here : IsPaced (inside.lower agent 0).port (is_good system run agent) (agent_rank system run agent) (longest_wait (system.agent agent) + 1) end
  paced_here = agent_is_paced system run agent (inside.lower agent 0) end next_to (λ k fit shown. shows_above k fit shown)
    where
      either : (a b : Bool) → IsTrue (a || b) → IsTrue a ⊎ IsTrue b
      either true b h = inl refl
      either false b h = inr h

      raised : (b : Bool) (n : ℕ) → IsTrue (is_raised (if b then 0 else n)) → IsTrue (is_raised n)
      raised true n h = absurd (grind (arith, tests, h))
      raised false n h = h

      shows_above : (k : ℕ) → k < end → IsTrue (shows (run.at_agent agent).signals k) → IsTrue (shows (inside.lower agent 0).commands.signals k)
      shows_above k fit shown = elim (either (is_raised ((run.at_agent agent).read k)) (is_raised ((run.at_agent agent).write k)) shown) [
        | inl reads ↦ or_left (is_raised ((inside.lower agent 0).commands.read k)) (is_raised ((inside.lower agent 0).commands.write k)) (by_read (system.agent agent).has_read refl reads)
        | inr writes ↦ or_right (is_raised ((inside.lower agent 0).commands.read k)) (is_raised ((inside.lower agent 0).commands.write k)) (by_write (system.agent agent).has_write refl writes)
      ]
        where
          by_read : (b : Bool) → (system.agent agent).has_read ≡ b → IsTrue (is_raised ((run.at_agent agent).read k)) → IsTrue (is_raised ((inside.lower agent 0).commands.read k))
          by_read true has h = raised _ _ (subst (λ n. IsTrue (is_raised n)) ((built.machines.agent agent there).commands.read k fit has) h)
          by_read false has h = absurd (no_true (subst (λ n. IsTrue (is_raised n)) ((built.machines.agent agent there).commands.no_read k fit has) h))

          by_write : (b : Bool) → (system.agent agent).has_write ≡ b → IsTrue (is_raised ((run.at_agent agent).write k)) → IsTrue (is_raised ((inside.lower agent 0).commands.write k))
          by_write true has h = subst (λ n. IsTrue (is_raised n)) ((built.machines.agent agent there).commands.write k fit has) h
          by_write false has h = absurd (no_true (subst (λ n. IsTrue (is_raised n)) ((built.machines.agent agent there).commands.no_write k fit has) h))

  paced : (i : ℕ) → i ≤ system.stages → (r : ℕ → ℕ) × IsPaced (inside.lower agent i).port (is_good system run agent) r ((longest_wait (system.agent agent) + 1) + i) end
  paced i low = pipe_is_paced (inside.lower agent) (states.stage agent) system.stages (λ i low. built.machines.stage agent i there low) (is_good system run agent) (agent_rank system run agent) (longest_wait (system.agent agent) + 1) end paced_here i low

  -- a stage has taken below no other beats than above
  one_front : (i k : ℕ) → i < system.stages → k ≤ end → IsPrefix (taken_at (inside.lower agent i).port k) (taken_at (inside.lower agent (suc i)).port k)
  one_front i zero low fit = record { rest = _; joins = refl }
  one_front i (suc k) low fit =
      let is = built.machines.stage agent i there low in
      let above_legal : AreLegalAt (above (states.stage agent i)) end = subst (λ p. AreLegalAt p end) (sym is.up_is) (way.parts.awake.lower i low).legal in
      let later = c.stage_is_later.ensures (states.stage agent i) is.runs end above_legal k (omega (arith, fit)) in
      let below_legal : AreLegalAt (below (states.stage agent i)) end = subst (λ p. AreLegalAt p end) (sym is.down_is) (way.parts.awake.lower i low).legal_down in
      let front = prefix_trans (prefix_trans (taken_is_shown (below (states.stage agent i)) end (suc k) below_legal fit) later) (before_extends _ k) in
      subst (λ p. IsPrefix (taken_at p (suc k)) (taken_at (inside.lower agent (suc i)).port (suc k))) is.down_is (subst (λ p. IsPrefix (taken_at (below (states.stage agent i)) (suc k)) (taken_at p (suc k))) is.up_is front)

  flushes : (from until : ℕ) → until ≤ end → ((k : ℕ) → from ≤ k → k < until → IsTrue (is_good system run agent k)) → (t : ℕ) → from ≤ t → t + agent_pipe_time system agent ≤ until →
      IsPrefix (taken_at (inside.lower agent system.stages).port t) (taken_at (inside.lower agent 0).port (t + agent_pipe_time system agent))
  flushes from until fits fine t first last =
      let flush : ℕ = agent_pipe_time system agent in
      let beats = pipe_flushes (inside.lower agent) (states.stage agent) system.stages (λ i low. built.machines.stage agent i there low) (is_good system run agent) (longest_wait (system.agent agent)) end paced system.stages t (omega arith) (omega (arith, last, fits))
      (λ k low high. fine k (omega (arith, first, low)) (omega (arith, high, last))) in
      shorter_front (taken_at (inside.lower agent system.stages).port t) (taken_at (inside.lower agent 0).port (t + flush)) (taken_at (inside.lower agent system.stages).port (t + flush))
      (before_prefix _ t (t + flush) (omega arith))
      (fronts system.stages (omega arith)) beats
    where
      fronts : (i : ℕ) → i ≤ system.stages → IsPrefix (taken_at (inside.lower agent 0).port (t + agent_pipe_time system agent)) (taken_at (inside.lower agent i).port (t + agent_pipe_time system agent))
      fronts zero low = record { rest = _; joins = append-nil _ }
      fronts (suc i) low = prefix_trans (fronts i (omega (arith, low))) (one_front i (t + agent_pipe_time system agent) low (omega (arith, last, fits)))

  same_words : (i : ℕ) → i ≤ system.stages → (inside.lower agent i).shape.word_bytes ≡ (inside.lower agent 0).shape.word_bytes
  same_words zero low = refl
  same_words (suc i) low =
      let is = built.machines.stage agent i there low in
      ap (λ (p : Port). p.shape.word_bytes) (sym is.up_is) ∙ ap (λ (p : Port). p.shape.word_bytes) is.down_is ∙ same_words i (omega (arith, low))

  between : (host : ℕ) (waits : ℕ → Bool) (left : ℕ → ℕ) (still : ℕ → ℕ → ℕ) (most : ℕ) → host < system.hosts → LeadsBy (target_of system agent) (inside.upper host agent (inside.links host agent)) (inside.upper host agent 0) waits left still most (end - 1) →
      Between system run agent host end (inside.upper host agent (inside.links host agent)) (λ h. inside.upper h agent 0) (inside.lower agent system.stages) (inside.lower agent 0) waits left still most (agent_pipe_time system agent) system.stages
  between host waits left still most low leads = record {
    is_host = low;
    legal = legal.hosts host low;
    proper = (c.machines_are_awake.ensures.safe responses system run inside states ranks end built legal).at_hosts host low;
    front = way.parts.front host low;
    gives = way.parts.gives host low;
    leads = leads;
    arbiter = way.parts.awake.arbiter;
    words = way.parts.words host low;
    low_words = same_words system.stages (omega arith);
    operations = operations;
    soon = c.words_come_soon.ensures responses system run inside states ranks end agent built legal there;
    later = λ k. pipe_words (inside.lower agent) (states.stage agent) system.stages (λ i low. built.machines.stage agent i there low) system.stages k (omega arith);
  }

  -- where the host waits before the arbiter throughout good cycles, it does so for few of them
  module _ (steps : ℕ → ℕ) (rest : ℕ → ℕ → ℕ) (have : (other : ℕ) → HasStepsLeft (inside.upper other agent 0) (is_good system run agent) (steps other) (rest other) end) (host : ℕ) (joined : IsTrue (is_joined system agent host)) (low : host < system.hosts) where
    few_cycles : (from n : ℕ) → from + n < end → ((k : ℕ) → from ≤ k → k < from + n → IsTrue (is_good system run agent k)) → WaitsItsTurn (λ h. inside.upper h agent 0) host from n → n ≤ standing_by (round_by steps system agent host) system agent
    few_cycles from n fit fine waits =
        let pace = paced system.stages (omega arith) in
        let both = c.waits_are_short.ensures system agent (λ h. inside.upper h agent 0) (inside.lower agent system.stages) end steps rest host from n (is_good system run agent) pace.0 ((longest_wait (system.agent agent) + 1) + system.stages)
        way.parts.awake.arbiter (built.plan.shares agent there) have joined low (omega (arith, fit)) waits (record {
          bounded = λ k first last. pace.1.bounded (suc k) (omega (arith, fit, last));
          falls = λ k first last shown still good. pace.1.falls k (omega (arith, fit, last)) shown still good;
          stays = λ k first last still. pace.1.stays k (omega (arith, fit, last)) still;
        }) in
        let cycles = both.1 in
        let start = pace.1.bounded from (omega (arith, fit)) in
        let all = all_good n (omega arith) in
        omega (arith, cycles, start, all)
      where
        all_good : (m : ℕ) → m ≤ n → count_in (is_good system run agent) from m ≡ m
        all_good zero h = refl
        all_good (suc m) h =
            let more = all_good m (omega (arith, h)) in
            let one : one_if (is_good system run agent (from + m)) ≡ 1 = ap one_if (fine (from + m) (omega arith) (omega (arith, h))) in
            omega (arith, more, one)

  -- and so it is where some of them aren't quiet
  module _ (before : ℕ) (below_end : before < end) (steps : ℕ → ℕ) (rest : ℕ → ℕ → ℕ) (have : (other : ℕ) → HasStepsLeft (inside.upper other agent 0) (is_quiet system run agent (inside.lower agent system.stages).port) (steps other) (rest other) before) (host : ℕ) (joined : IsTrue (is_joined system agent host)) (low : host < system.hosts)
      (blocked : ℕ → Bool) (left : ℕ → ℕ) (still_left : ℕ → ℕ → ℕ) (most : ℕ) (leads : LeadsBy (target_of system agent) (inside.upper host agent (inside.links host agent)) (inside.upper host agent 0) blocked left still_left most (end - 1)) where
    abbrev behind : Port
    behind = (inside.lower agent system.stages).port

    few_quiet_cycles : (from n : ℕ) → from + n ≤ before → ((k : ℕ) → from ≤ k → k < from + n → IsTrue (is_good system run agent k)) → WaitsItsTurn (λ h. inside.upper h agent 0) host from n → n ≤ standing_quietly (round_by steps system agent host) system agent
    few_quiet_cycles from n until fine waits =
        let fit : from + n < end = omega (arith, until, below_end) in
        let pace = paced system.stages (omega arith) in
        let both = c.waits_are_short.ensures system agent (λ h. inside.upper h agent 0) (inside.lower agent system.stages) before steps rest host from n (is_quiet system run agent behind) pace.0 ((longest_wait (system.agent agent) + 1) + system.stages)
        (shorter_arbiter system agent (λ h. inside.upper h agent 0) (inside.lower agent system.stages) end before (omega (arith, below_end)) way.parts.awake.arbiter) (built.plan.shares agent there) have joined low until waits (record {
          bounded = λ k first last. pace.1.bounded (suc k) (omega (arith, fit, last));
          falls = λ k first last shown still quiet. pace.1.falls k (omega (arith, fit, last)) shown still (and_parts (is_good system run agent k) _ quiet).0;
          stays = λ k first last still. pace.1.stays k (omega (arith, fit, last)) still;
        }) in
        let beats = both.0 in
        let cycles = both.1 in
        let start = pace.1.bounded from (omega (arith, fit)) in
        let all = all_cycles (is_quiet system run agent behind) (is_gone behind) (takes behind) (word_time system agent) from n (omega arith) either answers in
        let words = times_more (count_in (takes behind) from n) (round_by steps system agent host) (word_time system agent) beats in
        let turned : word_time system agent * count_in (takes behind) from n ≡ count_in (takes behind) from n * word_time system agent = turn (word_time system agent) (count_in (takes behind) from n) in
        let turned_round : word_time system agent * (round_by steps system agent host + 1) ≡ round_by steps system agent host * word_time system agent + word_time system agent = turn_more (word_time system agent) (round_by steps system agent host) in
        omega (arith, cycles, start, all, words, turned, turned_round)
      where
        turn : (a b : ℕ) → a * b ≡ b * a
        turn a b = omega arith

        turn_more : (a b : ℕ) → a * (b + 1) ≡ b * a + a
        turn_more a b = omega arith

        either : (k : ℕ) → from ≤ k → k < from + n → IsTrue (is_quiet system run agent behind k) ⊎ IsTrue (is_gone behind k)
        either k first last = by_gone (is_gone behind k) (fine k first last)
          where
            by_gone : (b : Bool) → IsTrue (is_good system run agent k) → IsTrue (is_good system run agent k && not b) ⊎ IsTrue b
            by_gone true good = inr refl
            by_gone false good = inl (rw good refl)

        still : (s m : ℕ) → ((k : ℕ) → s ≤ k → k < s + m → IsFalse (takes behind k)) → words_owed behind (s + m) ≡ words_owed behind s
        still s zero none = let same : s + 0 ≡ s = omega arith in ap (λ k. words_owed behind k) same
        still s (suc m) none =
            let more = still s m (λ k first last. none k first (omega (arith, last))) in
            let same : s + suc m ≡ suc (s + m) = omega arith in
            ap (λ k. words_owed behind k) same ∙ ap (λ l. length (read_beats l)) (none_taken behind (s + m) (none (s + m) (omega arith) (omega arith))) ∙ more

        answers : (s : ℕ) → from ≤ s → s + word_time system agent ≤ from + n → ((k : ℕ) → s ≤ k → k < s + word_time system agent → IsFalse (takes behind k)) → IsFalse (is_gone behind (s + word_time system agent - 1))
        answers s first inside_window none =
            let flushed = flushes from (from + n) (omega (arith, until, below_end)) fine s first (omega (arith, inside_window)) in
            let owing = (good_parts _ _ _ (fine (s + agent_pipe_time system agent) (omega (arith, first)) (omega (arith, inside_window)))).2 in
            let come = words_below_come system run agent host end (inside.upper host agent (inside.links host agent)) (λ h. inside.upper h agent 0) (inside.lower agent system.stages) (inside.lower agent 0) blocked left still_left most (agent_pipe_time system agent) system.stages (between host blocked left still_left most low leads)
            s (omega (arith, inside_window, until, below_end)) flushed owing in
            let when : suc (suc (s + agent_pipe_time system agent) + system.stages) ≡ s + word_time system agent - 1 = omega arith in
            let here : words_owed behind s ≤ length (words_at behind (s + word_time system agent - 1)) = subst (λ k. words_owed behind s ≤ length (words_at behind k)) when come in
            let same = still s (agent_pipe_time system agent + system.stages + 2) (λ k low high. none k low (omega (arith, high))) in
            let at : s + (agent_pipe_time system agent + system.stages + 2) ≡ s + word_time system agent - 1 = omega arith in
            let owed : words_owed behind (s + word_time system agent - 1) ≡ words_owed behind s = subst (λ k. words_owed behind k ≡ words_owed behind s) at same in
            not_less (length (words_at behind (s + word_time system agent - 1))) (words_owed behind (s + word_time system agent - 1)) (omega (arith, here, owed))
          where
            not_less : (a b : ℕ) → b ≤ a → nat_lt a b ≡ false
            not_less a b h = grind (arith, tests, h)

    abbrev port : Port
    port = inside.upper host agent 0

    -- where a beat stands there or a word is owed, and none is taken, the words come first
    few_cycles_with_words : (from n : ℕ) → from + n ≤ before → ((k : ℕ) → from ≤ k → k < from + n → IsTrue (is_good system run agent k)) → ((k : ℕ) → from ≤ k → k < from + n → IsTrue (stands_or_owes port k)) →
        n ≤ standing_quietly (round_by steps system agent host) system agent + word_time system agent
    few_cycles_with_words from n until fine waits = by_size (nat_lt n (word_time system agent)) refl
      where
        none_taken_here : (k : ℕ) → from ≤ k → k < from + n → IsFalse (takes port k)
        none_taken_here k first last = not_true _ (and_parts (shows port.commands.signals k || is_gone port k) _ (waits k first last)).1

        still : (m : ℕ) → m ≤ n → words_owed port (from + m) ≡ words_owed port from
        still zero fit = let same : from + 0 ≡ from = omega arith in ap (λ k. words_owed port k) same
        still (suc m) fit =
            let more = still m (omega (arith, fit)) in
            let same : from + suc m ≡ suc (from + m) = omega arith in
            ap (λ k. words_owed port k) same ∙ ap (λ l. length (read_beats l)) (none_taken port (from + m) (none_taken_here (from + m) (omega arith) (omega (arith, fit)))) ∙ more

        by_size : (b : Bool) → nat_lt n (word_time system agent) ≡ b → n ≤ standing_quietly (round_by steps system agent host) system agent + word_time system agent
        by_size true e = let less = ltb-true n (word_time system agent) e in omega (arith, less)
        by_size false e =
            let enough : word_time system agent ≤ n = ltb-false n (word_time system agent) e in
            let when : from + (word_time system agent - 1) ≡ suc (suc (from + agent_pipe_time system agent) + system.stages) = omega arith in
            let late : from + (word_time system agent - 1) + (n - (word_time system agent - 1)) ≡ from + n = omega (arith, enough) in
            let flushed = flushes from (from + n) (omega (arith, until, below_end)) fine from (omega arith) (omega (arith, enough)) in
            let owing = (good_parts _ _ _ (fine (from + agent_pipe_time system agent) (omega arith) (omega (arith, enough)))).2 in
            let come = own_words_come system run agent host end (inside.upper host agent (inside.links host agent)) (λ h. inside.upper h agent 0) (inside.lower agent system.stages) (inside.lower agent 0) blocked left still_left most (agent_pipe_time system agent) system.stages (between host blocked left still_left most low leads)
            from (omega (arith, enough, until, below_end)) flushed owing in
            let few = few_quiet_cycles (from + (word_time system agent - 1)) (n - (word_time system agent - 1)) (omega (arith, late, until)) (λ k first last. fine k (omega (arith, first)) (omega (arith, last, late)))
            (record {
              asks = λ k first last. shown k (omega (arith, first)) (omega (arith, last, late)) (all_come k (subst (λ x. words_owed port from ≤ length (words_at port x)) (sym when) come) first (omega (arith, last, late)));
              none = λ k first last. none_taken_here k (omega (arith, first)) (omega (arith, last, late));
            }) in
            omega (arith, few, enough)
          where
            not_less : (a b : ℕ) → b ≤ a → nat_lt a b ≡ false
            not_less a b h = grind (arith, tests, h)

            all_come : (k : ℕ) → words_owed port from ≤ length (words_at port (from + (word_time system agent - 1))) → from + (word_time system agent - 1) ≤ k → k < from + n → IsFalse (is_gone port k)
            all_come k here first last =
                let grown : length (words_at port (from + (word_time system agent - 1))) ≤ length (words_at port k) = prefix_length (before_prefix (λ j. only_if (is_raised (port.answers.valid j)) (record { word = port.answers.word j; code = port.answers.code j })) (from + (word_time system agent - 1)) k first) in
                let at : from + (k - from) ≡ k = omega (arith, first) in
                let same : words_owed port k ≡ words_owed port from = subst (λ x. words_owed port x ≡ words_owed port from) at (still (k - from) (omega (arith, at, last))) in
                not_less (length (words_at port k)) (words_owed port k) (omega (arith, here, grown, same))

            shown : (k : ℕ) → from ≤ k → k < from + n → IsFalse (is_gone port k) → IsTrue (shows port.commands.signals k)
            shown k first last none = by_gone (shows port.commands.signals k) (is_gone port k) (and_parts (shows port.commands.signals k || is_gone port k) _ (waits k first last)).0 none
              where
                by_gone : (s g : Bool) → IsTrue (s || g) → IsFalse g → IsTrue s
                by_gone true g h f = refl
                by_gone false g h f = absurd (no_both g h f)

all_so : (a b c : Bool) → IsTrue a → IsFalse b → IsFalse c → IsTrue (a && not b && not c)
all_so a b c x y z = grind (arith, tests)

-- in a good cycle
stands_so : (good stands : Bool) → IsTrue (not good || stands) → IsTrue good → IsTrue stands
stands_so true stands h g = h
stands_so false stands h g = absurd (no_true g)

-- a beat that stands there waits its turn
turn_waits : (up : ℕ → Port) (host from n : ℕ) → ((k : ℕ) → from ≤ k → k < from + n → IsTrue (stands_there (up host) k)) → WaitsItsTurn up host from n
turn_waits up host from n all = record {
  asks = λ k first last. (and_parts (shows (up host).commands.signals k) _ (all k first last)).0;
  none = λ k first last. not_true _ (and_parts (shows (up host).commands.signals k) _ (all k first last)).1;
}

pub returns-clause-good : goal.returns-clause-good
returns-clause-good c = λ responses system run inside states ranks end agent host most held steps rest built legal there leads have joined low from number fits wanted.
    let size = waits_by most (round_by steps system agent host) system agent in
    let good : (k : ℕ) → from ≤ k → k < from + size → IsTrue (is_good system run agent k) = λ k first last. all_so _ _ _ (wanted k first last).bursts (wanted k first last).ready (wanted k first last).answered in
    elim (some_or_none (λ j. moves_on system run agent host number (from + j)) size) [
      | inl found ↦ (from + found.0, omega arith, omega (arith, found.1), found.2)
      | inr none ↦
          let d = (goal.at.returns-clause-good c).After-agent_machine_is_a_part in
          absurd (never_stuck system run agent host (end + 2) (inside.upper host agent (inside.links host agent)) (λ h. inside.upper h agent 0) (inside.lower agent system.stages) (inside.lower agent 0) (stands_there (inside.upper host agent 0)) held (held_still (target_of system agent) (inside.upper host agent (inside.links host agent)) (inside.upper host agent 0) held most (end + 2) leads) most (agent_pipe_time system agent) system.stages
          (between d responses system run inside states ranks (end + 2) agent built legal there host (stands_there (inside.upper host agent 0)) held (held_still (target_of system agent) (inside.upper host agent (inside.links host agent)) (inside.upper host agent 0) held most (end + 2) leads) most low (shorter_lead (end + 2) (end + 2 - 1) (omega arith) (leads_at_once (target_of system agent) (inside.upper host agent (inside.links host agent)) (inside.upper host agent 0) held most (end + 2) leads)))
          from size number (omega (arith, fits)) wanted
          (λ k first last. (let same : from + (k - from) ≡ k = omega (arith, first) in subst (λ x. IsFalse (moves_on system run agent host number x)) same (none (k - from) (omega (arith, first, last)))))
          (flushes d responses system run inside states ranks (end + 2) agent built legal there from (from + size) (omega (arith, fits)) good)
          (standing_by (round_by steps system agent host) system agent)
          (λ start n first few waits. few_cycles d responses system run inside states ranks (end + 2) agent built legal there steps rest have host joined low start n (omega (arith, few, fits)) (λ k low high. good k (omega (arith, first, low)) (omega (arith, few, high))) (turn_waits (λ h. inside.upper h agent 0) host start n waits))
          (omega arith))
    ]

pub returns-clause-words : goal.returns-clause-words
returns-clause-words c = λ responses system run inside states ranks end agent host most left still steps rest built legal there leads have joined low from number fits wanted.
    let size = waits_for_words most (round_by steps system agent host) system agent in
    let good : (k : ℕ) → from ≤ k → k < from + size → IsTrue (is_good system run agent k) = λ k first last. all_so _ _ _ (wanted k first last).bursts (wanted k first last).ready (wanted k first last).answered in
    elim (some_or_none (λ j. moves_on system run agent host number (from + j)) size) [
      | inl found ↦ (from + found.0, omega arith, omega (arith, found.1), found.2)
      | inr none ↦
          let d = (goal.at.returns-clause-words c).After-agent_machine_is_a_part in
          absurd (never_stuck system run agent host (end + 2) (inside.upper host agent (inside.links host agent)) (λ h. inside.upper h agent 0) (inside.lower agent system.stages) (inside.lower agent 0) (may_wait system run agent (inside.upper host agent 0)) left still most (agent_pipe_time system agent) system.stages
          (between d responses system run inside states ranks (end + 2) agent built legal there host (may_wait system run agent (inside.upper host agent 0)) left still most low (shorter_lead (end + 1) (end + 2 - 1) (omega arith) leads))
          from size number (omega (arith, fits)) wanted
          (λ k first last. (let same : from + (k - from) ≡ k = omega (arith, first) in subst (λ x. IsFalse (moves_on system run agent host number x)) same (none (k - from) (omega (arith, first, last)))))
          (flushes d responses system run inside states ranks (end + 2) agent built legal there from (from + size) (omega (arith, fits)) good)
          (standing_quietly (round_by steps system agent host) system agent + word_time system agent)
          (λ start n first few waits. few_cycles_with_words d responses system run inside states ranks (end + 2) agent built legal there (end + 1) (omega arith) steps rest have host joined low (may_wait system run agent (inside.upper host agent 0)) left still most (shorter_lead (end + 1) (end + 2 - 1) (omega arith) leads) start n (omega (arith, few, fits)) (λ k low high. good k (omega (arith, first, low)) (omega (arith, few, high)))
          (λ k low high. stands_so (is_good system run agent k) (stands_or_owes (inside.upper host agent 0) k) (waits k low high) (good k (omega (arith, first, low)) (omega (arith, few, high)))))
          (omega arith))
    ]
