-- A pipeline stage takes a beat soon, where what lies below it does.
use Rattle.std.proofs.Common.{◌≡◌, ℕ, zero, suc, ◌+◌, ◌-◌, ◌*◌, ◌<◌, ◌≤◌, Bool, true, false, not, ◌&&◌, ◌||◌, List, [], ◌∷◌, length, drop, filter, nat_eq, nat_lt, if◌then◌else◌, arith, refl, sym, ap, ◌∙◌, subst, IsTrue, IsFalse, tests, length-append, append-nil, ltb-true, ltb-false}
use Rattle.std.proofs.lemmas.Bool.{and_parts, or_left}
use Rattle.histories.specs.History.{is_raised, only_if}
use Rattle.memory_runs.specs.Views.{System, Run}
use Rattle.histories.specs.Laws.{prefix_length, before_extends}
use Rattle.memory_runs.specs.Commands.{shows, is_held, agent_accepts, stood_before, wait_time}
use Rattle.memory_runs.specs.Order.{beats_taken, is_read_beat, words_given_in}
use Rattle.memory_runs.specs.Awake.{owes, longest_wait}
use Rattle.memory_machines.specs.Link.{Port, takes}
use Rattle.memory_machines.specs.Lines.{TaggedPort}
use Rattle.memory_machines.specs.Machines.{Raw, Stage, above, below, RunsAsStage, WaitsOnlyWhenFull, ShowsHead, raw_at}
use Rattle.memory_machines.specs.Rank.{is_unclosed}
use Rattle.memory_machines.specs.PartRanks.{has_agent_work, moves_at_agent, is_agent_excused}
use Rattle.memory_parts.specs.Steps.{IsAgentPart, agent_rank, words_from_agent}
use Rattle.histories.specs.History.{one_if}
use Rattle.memory_awake.specs.Ways.{count_in}
use Rattle.memory_awake.proofs.Bits.{no_true, takes_shows, holds, shown_again}
use Rattle.memory_awake.specs.Theorem.{IsStageBetween}
use Rattle.memory_awake.specs.Onward.{is_good}
use Rattle.memory_awake.proofs.HostGrants.{no_both}

-- a rank of what lies below a port falls in a good cycle in which a beat stands there, and doesn't rise in another in which nothing is taken
pub record IsPaced (port : Port) (good : ℕ → Bool) (rank : ℕ → ℕ) (pace end : ℕ) : Type 0 where
  pub bounded : (c : ℕ) → c ≤ end → rank c ≤ pace
  pub falls : (c : ℕ) → c < end → IsTrue (shows port.commands.signals c) → IsFalse (takes port c) → IsTrue (good c) → rank (suc c) < rank c
  pub stays : (c : ℕ) → c < end → IsFalse (takes port c) → rank (suc c) ≤ rank c

-- ---- next to the agent

module _ (system : System) (run : Run) (agent : ℕ) (up : TaggedPort) (end : ℕ) (part : IsAgentPart system run agent up (agent_rank system run agent) (longest_wait (system.agent agent) + 1) end)
    (hidden : (c : ℕ) → c < end → IsTrue (shows (run.at_agent agent).signals c) → IsTrue (shows up.commands.signals c)) where
  module _ (c : ℕ) (fit : c < end) (shown : IsTrue (shows up.commands.signals c)) (still : IsFalse (takes up.port c)) where
    works : IsTrue (has_agent_work system run agent up c)
    works = or_left (is_held up.commands.signals (takes up.port) c) _ (holds (shows up.commands.signals c) (takes up.port c) shown still)

    idle : IsTrue (not (moves_at_agent system run agent up c))
    idle = by_two (agent_accepts (system.agent agent) (run.at_agent agent) c) (takes up.port c) (sym (part.accepted c fit) ∙ still) still
      where
        by_two : (a b : Bool) → a ≡ false → IsFalse b → IsTrue (not (a || b))
        by_two true b e f = absurd (no_true (sym e))
        by_two false true e f = absurd (no_true (sym f))
        by_two false false e f = refl

    free : IsTrue (is_good system run agent c) → IsTrue (not (is_agent_excused system run agent up c))
    free good = by_three _ _ _ (waits (system.agent agent).has_waitrequest (shows (run.at_agent agent).signals c) (is_raised ((run.at_agent agent).waitrequest c)) _ (its _ _ _ good).0) (owing (owes system run agent c) _ (its _ _ _ good).1) (resting (is_unclosed up.port c) (shows up.commands.signals c) _ shown)
      where
        its : (a b o : Bool) → IsTrue (a && not b && not o) → IsFalse b × IsFalse o
        its true false false h = (refl, refl)
        its true true o h = absurd (no_true h)
        its true false true h = absurd (no_true h)
        its false b o h = absurd (no_true h)

        waits : (hw s w other : Bool) → IsFalse w → IsFalse (hw && (s && not (if hw then s && not w else other)))
        waits true true w other f = rw f refl
        waits true false w other f = refl
        waits false s w other f = refl

        owing : (o b : Bool) → IsFalse o → IsFalse (o && b)
        owing true b f = absurd (no_true (sym f))
        owing false b f = refl

        resting : (u s b : Bool) → IsTrue s → IsFalse (u && not s && b)
        resting true true b h = refl
        resting false s b h = refl
        resting true false b h = absurd (no_true h)

        by_three : (a b c : Bool) → IsFalse a → IsFalse b → IsFalse c → IsTrue (not (a || b || c))
        by_three a b c x y z = grind (arith, tests)

  -- where nothing is shown, no beat has stood
  none_stood : (c : ℕ) → c < end → IsFalse (shows up.commands.signals c) → (b : Bool) → (system.agent agent).has_waitrequest ≡ b → longest_wait (system.agent agent) - stood_before (system.agent agent) (run.at_agent agent) c ≡ longest_wait (system.agent agent)
  none_stood c fit quiet true has = let none : longest_wait (system.agent agent) ≡ 0 = rw has refl in omega (arith, none)
  none_stood zero fit quiet false has = omega arith
  none_stood (suc d) fit quiet false has = by_stands (shows (run.at_agent agent).signals d && not (nat_eq (stood_before (system.agent agent) (run.at_agent agent) d) (wait_time (system.agent agent) (run.at_agent agent) d))) refl
    where
      by_stands : (b : Bool) → (shows (run.at_agent agent).signals d && not (nat_eq (stood_before (system.agent agent) (run.at_agent agent) d) (wait_time (system.agent agent) (run.at_agent agent) d))) ≡ b →
          longest_wait (system.agent agent) - (if b then stood_before (system.agent agent) (run.at_agent agent) d + 1 else 0) ≡ longest_wait (system.agent agent)
      by_stands false e = omega arith
      by_stands true e =
          let two = and_parts (shows (run.at_agent agent).signals d) (not (nat_eq (stood_before (system.agent agent) (run.at_agent agent) d) (wait_time (system.agent agent) (run.at_agent agent) d))) e in
          let shown = hidden d (omega (arith, fit)) two.0 in
          let none : agent_accepts (system.agent agent) (run.at_agent agent) d ≡ false = rw has (refused (shows (run.at_agent agent).signals d) (nat_eq (stood_before (system.agent agent) (run.at_agent agent) d) (wait_time (system.agent agent) (run.at_agent agent) d)) two.1) in
          let still : takes up.port d ≡ false = part.accepted d (omega (arith, fit)) ∙ none in
          absurd (no_both _ (shown_again up.port d end part.legal fit (holds (shows up.commands.signals d) (takes up.port d) shown still)) quiet)
        where
          refused : (s n : Bool) → IsTrue (not n) → (s && n) ≡ false
          refused s true h = absurd (no_true h)
          refused true false h = refl
          refused false false h = refl

  quiet_stays : (c : ℕ) → c < end → IsFalse (takes up.port c) → IsFalse (shows up.commands.signals c) → agent_rank system run agent (suc c) ≤ agent_rank system run agent c
  quiet_stays c fit still quiet =
      let stood = none_stood c fit quiet (system.agent agent).has_waitrequest refl in
      let none : agent_accepts (system.agent agent) (run.at_agent agent) c ≡ false = sym (part.accepted c fit) ∙ still in
      let same : length (filter is_read_beat (beats_taken system run agent (suc c))) ≡ length (filter is_read_beat (beats_taken system run agent c)) = ap (λ l. length (filter is_read_beat l)) unchanged in
      let grows = prefix_length (before_extends (words_given_in system run agent) c) in
      let flag = fewer (words_from_agent system run agent c) (words_from_agent system run agent (suc c)) (length (filter is_read_beat (beats_taken system run agent c))) (length (filter is_read_beat (beats_taken system run agent (suc c)))) grows same in
      omega (arith, stood, flag)
    where
      unchanged : beats_taken system run agent (suc c) ≡ beats_taken system run agent c
      unchanged = let none : agent_accepts (system.agent agent) (run.at_agent agent) c ≡ false = sym (part.accepted c fit) ∙ still in rw none (append-nil (beats_taken system run agent c))

      fewer : (w v r q : ℕ) → w ≤ v → q ≡ r → one_if (nat_lt v q) ≤ one_if (nat_lt w r)
      fewer w v r q less same = by_tests (nat_lt v q) refl (nat_lt w r) refl
        where
          by_tests : (a : Bool) → nat_lt v q ≡ a → (b : Bool) → nat_lt w r ≡ b → one_if a ≤ one_if b
          by_tests true ea false eb = let x = ltb-true v q ea in let y = ltb-false w r eb in absurd (omega (arith, x, y, less, same))
          by_tests true ea true eb = omega arith
          by_tests false ea b eb = omega arith

  pub agent_is_paced : IsPaced up.port (is_good system run agent) (agent_rank system run agent) (longest_wait (system.agent agent) + 1) end
  agent_is_paced = record {
    bounded = part.falls.bounded;
    falls = λ c fit shown still good. part.falls.falls c fit (works c fit shown still) (idle c fit shown still) (free c fit shown still good);
    stays = λ c fit still. by_shown c fit still (shows up.commands.signals c) refl;
  }
    where
      by_shown : (c : ℕ) → c < end → IsFalse (takes up.port c) → (b : Bool) → shows up.commands.signals c ≡ b → agent_rank system run agent (suc c) ≤ agent_rank system run agent c
      by_shown c fit still true e = part.falls.stays c fit (works c fit e still) (idle c fit e still)
      by_shown c fit still false e = quiet_stays c fit still e

-- ---- how many beats a stage holds

one_less : (queue : List Raw) → length (drop 1 queue) ≡ length queue - 1
one_less [] = omega arith
one_less (raw ∷ later) = let same : drop 0 later ≡ later = refl in omega arith

module _ (stage : Stage) (runs : RunsAsStage stage) where
  queued : (c : ℕ) (queue : List Raw) → ShowsHead (below stage) c queue → IsTrue (takes (below stage) c) → 0 < length queue
  queued c [] is took = absurd (no_both _ (takes_shows (below stage) c took) is)
  queued c (raw ∷ later) is took = omega arith

  sized : (c : ℕ) → (d u : Bool) → takes (below stage) c ≡ d → takes (above stage) c ≡ u → length (stage.queue (suc c)) ≡ (length (stage.queue c) - (if d then 1 else 0)) + (if u then 1 else 0)
  sized c d u ed eu =
      let next = ap length (runs.next c) ∙ length-append (drop (if takes (below stage) c then 1 else 0) (stage.queue c)) (only_if (takes (above stage) c) (raw_at (above stage) c)) in
      let left : length (drop (if takes (below stage) c then 1 else 0) (stage.queue c)) ≡ length (drop (if d then 1 else 0) (stage.queue c)) = ap (λ b. length (drop (if b then 1 else 0) (stage.queue c))) ed in
      let right : length (only_if (takes (above stage) c) (raw_at (above stage) c)) ≡ (if u then 1 else 0) = ap (λ b. length (only_if b (raw_at (above stage) c))) eu ∙ one u in
      let gone = fewer d in
      omega (arith, next, left, right, gone)
    where
      one : (b : Bool) → length (only_if b (raw_at (above stage) c)) ≡ (if b then 1 else 0)
      one true = refl
      one false = refl

      fewer : (b : Bool) → length (drop (if b then 1 else 0) (stage.queue c)) ≡ length (stage.queue c) - (if b then 1 else 0)
      fewer true = one_less (stage.queue c)
      fewer false = omega arith

  held_few : (c : ℕ) → length (stage.queue c) ≤ stage.depth
  held_few zero = let none = ap length runs.begins in omega (arith, none)
  held_few (suc c) = by_both (takes (below stage) c) (takes (above stage) c) refl refl (held_few c)
    where
      by_both : (d u : Bool) → takes (below stage) c ≡ d → takes (above stage) c ≡ u → length (stage.queue c) ≤ stage.depth → length (stage.queue (suc c)) ≤ stage.depth
      by_both true true ed eu most = let g = sized c true true ed eu in let room = runs.room c eu in omega (arith, g, room)
      by_both false true ed eu most = let g = sized c false true ed eu in let room = runs.room c eu in omega (arith, g, room)
      by_both true false ed eu most = let g = sized c true false ed eu in omega (arith, g, most)
      by_both false false ed eu most = let g = sized c false false ed eu in omega (arith, g, most)

-- ---- a stage

module _ (stage : Stage) (runs : RunsAsStage stage) (some : 0 < stage.depth) (ready : WaitsOnlyWhenFull stage) (good : ℕ → Bool) (rank : ℕ → ℕ) (pace end : ℕ) (paced : IsPaced (below stage) good rank pace end) where
  abbrev up : Port
  up = above stage

  abbrev down : Port
  down = below stage

  abbrev size : ℕ → ℕ
  size c = length (stage.queue c)

  -- full: a cycle more than below; else a beat is taken at once
  abbrev pub stage_rank : ℕ → ℕ
  stage_rank c = if nat_eq (size c) stage.depth then rank c + 1 else 0

  head_shown : (c : ℕ) (queue : List Raw) → ShowsHead down c queue → 0 < length queue → IsTrue (shows down.commands.signals c)
  head_shown c [] is more = absurd (omega (arith, more))
  head_shown c (raw ∷ later) is more = is.0

  grows : (c : ℕ) → (d u : Bool) → takes down c ≡ d → takes up c ≡ u → size (suc c) ≡ (size c - (if d then 1 else 0)) + (if u then 1 else 0)
  grows c d u ed eu = sized stage runs c d u ed eu

  few : (c : ℕ) → size c ≤ stage.depth
  few c = held_few stage runs c

  -- what stands above stands before a full queue
  is_full : (c : ℕ) → IsTrue (shows up.commands.signals c) → IsFalse (takes up c) → size c ≡ stage.depth
  is_full c shown still = by_room (nat_lt (size c) stage.depth) refl
    where
      by_room : (b : Bool) → nat_lt (size c) stage.depth ≡ b → size c ≡ stage.depth
      by_room false e = let least = ltb-false (size c) stage.depth e in let most = few c in omega (arith, least, most)
      by_room true e = absurd (no_both (takes up c) (took (shows up.commands.signals c) (is_raised (up.commands.waitrequest c)) shown (ready c (ltb-true (size c) stage.depth e))) still)
        where
          took : (s w : Bool) → IsTrue s → w ≡ false → IsTrue (s && not w)
          took true w h f = rw f refl
          took false w h f = absurd (no_true h)

  full_rank : (c : ℕ) → size c ≡ stage.depth → stage_rank c ≡ rank c + 1
  full_rank c e = let t : nat_eq (size c) stage.depth ≡ true = grind (arith, tests, e) in rw t refl

  free_rank : (c : ℕ) → size c < stage.depth → stage_rank c ≡ 0
  free_rank c e = let t : nat_eq (size c) stage.depth ≡ false = grind (arith, tests, e) in rw t refl

  module _ (c : ℕ) (fit : c < end) (still : IsFalse (takes up c)) where
    head : size c ≡ stage.depth → IsTrue (shows down.commands.signals c)
    head full = head_shown c (stage.queue c) (runs.heads c) (omega (arith, full, some))

    full_falls : size c ≡ stage.depth → IsTrue (good c) → stage_rank (suc c) < stage_rank c
    full_falls full fine = by_below (takes down c) refl
      where
        by_below : (b : Bool) → takes down c ≡ b → stage_rank (suc c) < stage_rank c
        by_below true e = let g = grows c true false e still in let now = full_rank c full in let next = free_rank (suc c) (omega (arith, g, full, some)) in omega (arith, now, next)
        by_below false e =
            let g = grows c false false e still in
            let now = full_rank c full in
            let next = full_rank (suc c) (omega (arith, g, full)) in
            let falls = paced.falls c fit (head full) e fine in
            omega (arith, now, next, falls)

    full_stays : size c ≡ stage.depth → stage_rank (suc c) ≤ stage_rank c
    full_stays full = by_below (takes down c) refl
      where
        by_below : (b : Bool) → takes down c ≡ b → stage_rank (suc c) ≤ stage_rank c
        by_below true e = let g = grows c true false e still in let now = full_rank c full in let next = free_rank (suc c) (omega (arith, g, full, some)) in omega (arith, now, next)
        by_below false e =
            let g = grows c false false e still in
            let now = full_rank c full in
            let next = full_rank (suc c) (omega (arith, g, full)) in
            let stays = paced.stays c fit e in
            omega (arith, now, next, stays)

    -- also where nothing is shown above
    pub stays_always : stage_rank (suc c) ≤ stage_rank c
    stays_always = by_room (nat_lt (size c) stage.depth) refl
      where
        by_room : (b : Bool) → nat_lt (size c) stage.depth ≡ b → stage_rank (suc c) ≤ stage_rank c
        by_room false e = full_stays (let least = ltb-false (size c) stage.depth e in let most = few c in omega (arith, least, most))
        by_room true e = by_below (takes down c) refl
          where
            by_below : (b : Bool) → takes down c ≡ b → stage_rank (suc c) ≤ stage_rank c
            by_below true ed = let g = grows c true false ed still in let less = ltb-true (size c) stage.depth e in let next = free_rank (suc c) (omega (arith, g, less)) in omega (arith, next)
            by_below false ed = let g = grows c false false ed still in let less = ltb-true (size c) stage.depth e in let next = free_rank (suc c) (omega (arith, g, less)) in omega (arith, next)

  pub stage_is_paced : IsPaced up good stage_rank (pace + 1) end
  stage_is_paced = record {
    bounded = λ c fit. by_full (nat_eq (size c) stage.depth) (paced.bounded c fit);
    falls = λ c fit shown still fine. full_falls c fit still (is_full c shown still) fine;
    stays = stays_always;
  }
    where
      by_full : {c : ℕ} (b : Bool) → rank c ≤ pace → (if b then rank c + 1 else 0) ≤ pace + 1
      by_full {c} true most = omega (arith, most)
      by_full {c} false most = omega arith

-- a stage hands on no more beats than it takes, and those that it holds
module _ (stage : Stage) (runs : RunsAsStage stage) where
  handed_on : (from n : ℕ) → count_in (takes (below stage)) from n + length (stage.queue (from + n)) ≤ count_in (takes (above stage)) from n + length (stage.queue from)
  handed_on from zero = let same : from + 0 ≡ from = omega arith in rw same (omega arith)
  handed_on from (suc n) =
      let same : from + suc n ≡ suc (from + n) = omega arith in
      subst (λ x. count_in (takes (below stage)) from (suc n) + length (stage.queue x) ≤ count_in (takes (above stage)) from (suc n) + length (stage.queue from)) (sym same) (by_both (takes (below stage) (from + n)) (takes (above stage) (from + n)) refl refl (handed_on from n))
    where
      by_both : (d u : Bool) → takes (below stage) (from + n) ≡ d → takes (above stage) (from + n) ≡ u →
          count_in (takes (below stage)) from n + length (stage.queue (from + n)) ≤ count_in (takes (above stage)) from n + length (stage.queue from) →
          (count_in (takes (below stage)) from n + one_if (takes (below stage) (from + n))) + length (stage.queue (suc (from + n))) ≤ (count_in (takes (above stage)) from n + one_if (takes (above stage) (from + n))) + length (stage.queue from)
      by_both true u ed eu more =
          let g = sized stage runs (from + n) true u ed eu in
          let some = queued stage runs (from + n) (stage.queue (from + n)) (runs.heads (from + n)) ed in
          let d : one_if (takes (below stage) (from + n)) ≡ 1 = ap one_if ed in
          let up_is : one_if (takes (above stage) (from + n)) ≡ (if u then 1 else 0) = ap one_if eu in
          omega (arith, g, some, d, up_is, more)
      by_both false u ed eu more =
          let g = sized stage runs (from + n) false u ed eu in
          let d : one_if (takes (below stage) (from + n)) ≡ 0 = ap one_if ed in
          let up_is : one_if (takes (above stage) (from + n)) ≡ (if u then 1 else 0) = ap one_if eu in
          omega (arith, g, d, up_is, more)

-- ---- a pipe

between_is_paced : (stage : Stage) (up down : TaggedPort) → IsStageBetween stage up down → (good : ℕ → Bool) (rank : ℕ → ℕ) (pace end : ℕ) → IsPaced down.port good rank pace end → (r : ℕ → ℕ) × IsPaced up.port good r (pace + 1) end
between_is_paced stage high low is good rank pace end paced =
    let here = subst (λ p. IsPaced p good rank pace end) (sym is.down_is) paced in
    let found : (r : ℕ → ℕ) × IsPaced (above stage) good r (pace + 1) end = (stage_rank stage is.runs is.some is.ready good rank pace end here, stage_is_paced stage is.runs is.some is.ready good rank pace end here) in
    subst (λ p. (r : ℕ → ℕ) × IsPaced p good r (pace + 1) end) is.up_is found

between_hands_on : (stage : Stage) (up down : TaggedPort) → IsStageBetween stage up down → (from n : ℕ) → count_in (takes down.port) from n ≤ count_in (takes up.port) from n + 2
between_hands_on stage high low is from n =
    let all = handed_on stage is.runs from n in
    let held = held_few stage is.runs from in
    let two = is.few in
    let most : count_in (takes (below stage)) from n ≤ count_in (takes (above stage)) from n + 2 = omega (arith, all, held, two) in
    subst (λ p. count_in (takes p) from n ≤ count_in (takes high.port) from n + 2) is.down_is (subst (λ p. count_in (takes (below stage)) from n ≤ count_in (takes p) from n + 2) is.up_is most)

module _ (lower : ℕ → TaggedPort) (stage : ℕ → Stage) (stages : ℕ) (between : (i : ℕ) → i < stages → IsStageBetween (stage i) (lower (suc i)) (lower i)) where
  pub pipe_is_paced : (good : ℕ → Bool) (rank : ℕ → ℕ) (pace end : ℕ) → IsPaced (lower 0).port good rank pace end → (i : ℕ) → i ≤ stages → (r : ℕ → ℕ) × IsPaced (lower i).port good r (pace + i) end
  pipe_is_paced good rank pace end paced zero low = let same : pace + 0 ≡ pace = omega arith in (rank, subst (λ p. IsPaced (lower 0).port good rank p end) (sym same) paced)
  pipe_is_paced good rank pace end paced (suc i) low =
      let under = pipe_is_paced good rank pace end paced i (omega (arith, low)) in
      let more : pace + i + 1 ≡ pace + suc i = omega arith in
      subst (λ n. (r : ℕ → ℕ) × IsPaced (lower (suc i)).port good r n end) more (between_is_paced (stage i) (lower (suc i)) (lower i) (between i low) good under.0 (pace + i) end under.1)

  -- the lowest port takes few more beats than the highest
  pub pipe_hands_on : (from n i : ℕ) → i ≤ stages → count_in (takes (lower 0).port) from n ≤ count_in (takes (lower i).port) from n + 2 * i
  pipe_hands_on from n zero low = omega arith
  pipe_hands_on from n (suc i) low =
      let under = pipe_hands_on from n i (omega (arith, low)) in
      let here = between_hands_on (stage i) (lower (suc i)) (lower i) (between i low) from n in
      omega (arith, under, here)

-- an agent accepts what is taken above its part
pub accepts_count : (system : System) (run : Run) (agent : ℕ) (up : TaggedPort) (end : ℕ) → IsAgentPart system run agent up (agent_rank system run agent) (longest_wait (system.agent agent) + 1) end →
    (from n : ℕ) → from + n ≤ end → count_in (agent_accepts (system.agent agent) (run.at_agent agent)) from n ≡ count_in (takes up.port) from n
accepts_count system run agent up end part from zero fit = refl
accepts_count system run agent up end part from (suc n) fit =
    let more = accepts_count system run agent up end part from n (omega (arith, fit)) in
    let one = ap one_if (part.accepted (from + n) (omega (arith, fit))) in
    omega (arith, more, one)
