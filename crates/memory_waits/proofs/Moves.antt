-- A host whose beats are shown before its agent's arbiter at once: where it waits there for few cycles, its wanted command moves on.
use Rattle.std.proofs.Common.{◌≡◌, ℕ, zero, suc, ◌+◌, ◌-◌, ◌*◌, ◌<◌, ◌≤◌, Bool, true, false, not, ◌&&◌, ◌||◌, List, length, filter, nat_eq, nat_lt, arith, refl, [], ◌∷◌, ◌++◌, sym, ap, ap₂, ◌∙◌, subst, IsTrue, IsFalse, inl, inr, ◌⊎◌, tests, append-nil, ltb-true, Some}
use Rattle.std.proofs.lemmas.Bool.{and_parts, or_parts}
use Rattle.histories.specs.History.{IsPrefix, is_raised, only_if}
use Rattle.histories.specs.Laws.{prefix_trans, prefix_flat_map, prefix_filter, prefix_length, before_prefix}
use Rattle.memory_runs.specs.Views.{System, Run}
use Rattle.memory_runs.specs.Operations.{Operation}
use Rattle.memory_runs.specs.Commands.{Transfer, is_of_reads, shows}
use Rattle.memory_runs.specs.Legal.{IsLegalHost, IsProperAtHost, host_accepts, gives_word}
use Rattle.memory_runs.specs.Order.{of_host, taken}
use Rattle.memory_runs.specs.Awake.{owes, lacks_beats, is_accepted_now, are_taken, is_given_from, shows_its_burst, IsWanted, Throughout}
use Rattle.memory_machines.specs.Lines.{TaggedPort, target_of, tagged_operations, groups_of, host_accepted, with_tag, word_tags, asked_tags}
use Rattle.memory_machines.specs.Link.{Port, Marked, takes, taken_at, marked_at, read_beats, words_at, words_owed, operations_among, operations_in}
use Rattle.memory_machines.specs.Rank.{is_owed}
use Rattle.memory_parts.specs.Steps.{IsArbiterPart}
use Rattle.memory_awake.specs.Front.{IsFront, GivesAtOnce, is_bursting}
use Rattle.memory_runs.specs.Onward.{is_taken_now, is_given_now, moves_on}
use Rattle.memory_waits.specs.Waits.{WordsComeSoon}
use Rattle.memory_waits.specs.Watched.{LeadsBy}
use Rattle.memory_waits.proofs.Bits.{FirstOrNone, first_or_none, no_true, no_both, not_by, both, some_or_none, three_of}
use Rattle.memory_waits.proofs.Flush.{shorter_front, no_word}
use Rattle.memory_waits.proofs.Numbers.{Outcome, Outcome.a_beat, Outcome.an_operation, Outcome.a_word, Outcome.a_given, ends_in, ends_length, taken_later, each_holds}
use Rattle.memory_waits.proofs.Outcomes.{outcome_of, shown_burst, accepted_with_word}
use Rattle.memory_waits.proofs.Owed.{all_asked, all_words, own_come}
use Rattle.memory_waits.proofs.Taken.{own_taken, same_operations, tagged_of_host}

three_moves : (a b c : Bool) → IsFalse (a || b || c) → IsFalse a × IsFalse b × IsFalse c
three_moves a b c f = let p = or_parts (a || b) c f in let q = or_parts a b p.0 in (q.0, q.1, p.1)

not_true : (b : Bool) → IsTrue (not b) → IsFalse b
not_true true h = absurd (no_true h)
not_true false h = refl

by_not : (b : Bool) → IsFalse (not b) → IsTrue b
by_not true f = refl
by_not false f = absurd (no_true (sym f))

not_lt : (n m : ℕ) → IsFalse (nat_lt n m) → m ≤ n
not_lt n m h = grind (arith, tests, h)

-- operations of beats are told by the bytes of a word
same_among : (system : System) (agent : ℕ) (one two : Port) → one.shape.word_bytes ≡ two.shape.word_bytes → (ms : List Marked) →
    operations_among (target_of system agent) one.shape ms ≡ operations_among (target_of system agent) two.shape ms
same_among system agent one two e ms = same_list ms
  where
    same_list : (ms : List Marked) → operations_among (target_of system agent) one.shape ms ≡ operations_among (target_of system agent) two.shape ms
    same_list [] = refl
    same_list (m ∷ ms) = ap₂ (λ (x y : List Operation). x ++ y) (same_operations (target_of system agent) one.shape two.shape m e) (same_list ms)

-- what stands between a host and an agent, and what is known of its pipe: `flush` cycles empty it, and `stages` cycles bring a word up
pub record Between (system : System) (run : Run) (agent host end : ℕ) (top : Port) (up : ℕ → Port) (down low : TaggedPort) (waits : ℕ → Bool) (left : ℕ → ℕ) (still : ℕ → ℕ → ℕ) (most flush stages : ℕ) : Type 0 where
  pub is_host : host < system.hosts
  pub legal : IsLegalHost (system.host host) (run.at_host host) end
  pub proper : IsProperAtHost (system.host host) (run.at_host host) end
  pub front : IsFront system run host agent top end
  pub gives : GivesAtOnce system run host agent top end
  pub leads : LeadsBy (target_of system agent) top (up host) waits left still most (end - 1)
  pub arbiter : IsArbiterPart system agent up down end
  pub words : (up host).shape.word_bytes ≡ down.shape.word_bytes
  pub low_words : down.shape.word_bytes ≡ low.shape.word_bytes
  pub operations : (c : ℕ) → c ≤ end → taken system run agent c ≡ tagged_operations (groups_of (target_of system agent) low.shape (taken_at low.port c))
  pub soon : WordsComeSoon system run agent low.port end
  pub later : (c : ℕ) → length (words_at down.port (c + stages)) ≡ length (words_at low.port c)

module _ (system : System) (run : Run) (agent host end : ℕ) (top : Port) (up : ℕ → Port) (down low : TaggedPort) (waits : ℕ → Bool) (left : ℕ → ℕ) (still : ℕ → ℕ → ℕ) (most flush stages : ℕ) (between : Between system run agent host end top up down low waits left still most flush stages) where
  abbrev pub Flushes : ℕ → ℕ → Type 0
  Flushes from until = (t : ℕ) → from ≤ t → t + flush ≤ until → IsPrefix (taken_at down.port t) (taken_at low.port (t + flush))

  taken_grows : (port : Port) (c d : ℕ) → c ≤ d → IsPrefix (taken_at port c) (taken_at port d)
  taken_grows port c d h = before_prefix (λ k. only_if (takes port k) (marked_at port k)) c d h

  -- ---- all words that were asked behind the arbiter come there

  reads_front : {xs ys : List Marked} → IsPrefix xs ys → length (read_beats xs) ≤ length (read_beats ys)
  reads_front p = prefix_length (prefix_flat_map (λ (m : Marked). m.transfer.beats) (prefix_filter (λ (m : Marked). is_of_reads m.transfer.kind) p))

  abbrev pub last_of : ℕ → ℕ
  last_of s = suc (s + flush) + stages

  module _ (s : ℕ) (fits : s + flush + stages + 3 ≤ end) (flushed : IsPrefix (taken_at down.port s) (taken_at low.port (s + flush))) (answered : IsFalse (owes system run agent (s + flush))) where
    all_come : IsPrefix (asked_tags (taken_at down.port s)) (word_tags down (suc (last_of s)))
    all_come =
        let grown : IsPrefix (asked_tags (taken_at down.port s)) (asked_tags (taken_at down.port (last_of s))) = prefix_flat_map _ (prefix_filter _ (taken_grows down.port s (last_of s) (omega arith))) in
        let here = between.arbiter.in_order (last_of s) (omega (arith, fits)) in
        let asks = all_asked (taken_at down.port s) in
        let words = all_words down (suc (last_of s)) in
        let more = reads_front flushed in
        let next = reads_front (taken_grows low.port (s + flush) (suc (s + flush)) (omega arith)) in
        let soon = between.soon (s + flush) (omega (arith, fits)) answered in
        let up_there = between.later (suc (suc (s + flush))) in
        let same : suc (suc (s + flush)) + stages ≡ suc (last_of s) = omega arith in
        let come : length (words_at down.port (suc (last_of s))) ≡ length (words_at low.port (suc (suc (s + flush)))) = subst (λ k. length (words_at down.port k) ≡ length (words_at low.port (suc (suc (s + flush))))) same up_there in
        shorter_front _ _ _ grown here (omega (arith, asks, words, more, next, soon, come))

    pub words_below_come : words_owed down.port s ≤ length (words_at down.port (suc (last_of s)))
    words_below_come = let all = prefix_length all_come in let asks = all_asked (taken_at down.port s) in let words = all_words down (suc (last_of s)) in omega (arith, all, asks, words)

    -- and so do the host's own before the arbiter
    pub own_words_come : words_owed (up host) s ≤ length (words_at (up host) (suc (last_of s)))
    own_words_come = own_come system agent up down end between.arbiter host s (suc (last_of s)) between.is_host (omega (arith, fits)) (omega (arith, fits)) all_come

  -- ---- a stretch in which the command is wanted and doesn't move

  module _ (from size number : ℕ) (fits : from + size + 2 ≤ end) (wanted : Throughout from size (IsWanted system run agent host number))
      (idle : (c : ℕ) → from ≤ c → c < from + size → IsFalse (moves_on system run agent host number c)) (flushes : Flushes from (from + size)) where
    outcome_at : (c : ℕ) → from ≤ c → c < from + size → Outcome system run host (Some agent) number c
    outcome_at c first last =
        let w = wanted c first last in
        outcome_of system run host end between.legal c number (Some agent) (omega (arith, last, fits)) w.oldest w.for_agent
        (λ under. shown_burst (is_bursting system run host (Some agent) c) (shows (run.at_host host).signals c) (each_holds (shows_its_burst system run (Some agent) c) 0 system.hosts host w.bursts (omega arith) (let low = between.is_host in omega (arith, low))) under)

    few : (c : ℕ) → from ≤ c → c < from + size → IsFalse (is_accepted_now system run host number c) × IsFalse (is_taken_now system run agent host number c) × IsFalse (is_given_now system run agent host number c)
    few c first last = three_moves _ _ _ (idle c first last)

    -- ---- while beats lack none is accepted

    none_accepted : (c : ℕ) → from ≤ c → c < from + size → IsTrue (lacks_beats system run host number c) → IsFalse (host_accepts (run.at_host host) c)
    none_accepted c first last lacks = by_accept (host_accepts (run.at_host host) c) refl
      where
        by_accept : (b : Bool) → host_accepts (run.at_host host) c ≡ b → IsFalse b
        by_accept false e = refl
        by_accept true e = absurd (no_both _ (both _ _ e lacks) (few c first last).0)

    lacks_on : IsTrue (lacks_beats system run host number from) → (n : ℕ) → n ≤ size → IsTrue (lacks_beats system run host number (from + n))
    lacks_on lacks zero h = let same : from + 0 ≡ from = omega arith in subst (λ k. IsTrue (lacks_beats system run host number k)) (sym same) lacks
    lacks_on lacks (suc n) h =
        let more = lacks_on lacks n (omega (arith, h)) in
        let none = none_accepted (from + n) (omega arith) (omega (arith, h)) more in
        let same : from + suc n ≡ suc (from + n) = omega arith in
        let still : host_accepted system run host (suc (from + n)) ≡ host_accepted system run host (from + n) = rw none (append-nil (host_accepted system run host (from + n))) in
        subst (λ k. IsTrue (lacks_beats system run host number k)) (sym same) (subst (λ (l : List Transfer). IsTrue (nat_lt (length (filter (λ t. t.ends) l)) number)) (sym still) more)

    -- a word that comes for a read that stands at the host is given where the read is accepted
    no_arrival : (c : ℕ) → from ≤ c → c < from + size → IsTrue (lacks_beats system run host number c) → IsTrue (is_given_from system run (Some agent) c host) → ⊥
    no_arrival c first last lacks word = by_outcome (outcome_at c first last)
      where
        by_outcome : Outcome system run host (Some agent) number c → ⊥
        by_outcome (a_beat lacks shown all) = no_both _ (accepted_with_word system run host end between.proper number c (omega (arith, last, fits)) lacks all (and_parts (gives_word (system.host host) (run.at_host host) c) _ word).0) (few c first last).0
        by_outcome (an_operation whole b e not_taken) = no_both _ lacks whole
        by_outcome (a_word whole none owing) = no_both _ lacks whole
        by_outcome (a_given whole given lacking) = no_both _ lacks whole

    leads : LeadsBy (target_of system agent) top (up host) waits left still most (end - 1)
    leads = between.leads

    module _ (short : ℕ) (few_cycles : (start n : ℕ) → from ≤ start → start + n ≤ from + size → ((c : ℕ) → start ≤ c → c < start + n → IsTrue (waits c)) → n ≤ short) where
      -- before long it doesn't wait
      record StopsWaiting (start : ℕ) : Type 0 where
        cycle : ℕ
        since : start ≤ cycle
        until : cycle ≤ start + short
        stops : IsFalse (waits cycle)

      stops_waiting : (start : ℕ) → from ≤ start → start + short + 1 ≤ from + size → StopsWaiting start
      stops_waiting start first room = elim (first_or_none (λ j. not (waits (start + j))) (short + 1)) [
        | inl found ↦
            let less = found.1 in
            record {
              cycle = start + found.0;
              since = omega arith;
              until = omega (arith, less);
              stops = not_true (waits (start + found.0)) found.2;
            }
        | inr all ↦
            let most_cycles = few_cycles start (short + 1) first (omega (arith, room)) (λ c low high. each start (short + 1) all c low high) in
            absurd (omega (arith, most_cycles))
      ]
        where
          each : (start n : ℕ) → ((j : ℕ) → j < n → IsFalse (not (waits (start + j)))) → (c : ℕ) → start ≤ c → c < start + n → IsTrue (waits c)
          each start n all c low high = let same : start + (c - start) ≡ c = omega (arith, low) in subst (λ k. IsTrue (waits k)) same (by_not (waits (start + (c - start))) (all (c - start) (omega (arith, low, high))))

      -- while nothing is taken above no more is left
      no_more : (start n : ℕ) → start + n ≤ end - 1 → ((c : ℕ) → start ≤ c → c < start + n → IsFalse (takes top c)) → left (start + n) ≤ left start
      no_more start zero fit none = let same : start + 0 ≡ start = omega arith in rw same (omega arith)
      no_more start (suc n) fit none =
          let more = no_more start n (omega (arith, fit)) (λ c low high. none c low (omega (arith, high))) in
          let stays = leads.stays (start + n) (omega (arith, fit)) (none (start + n) (omega arith) (omega arith)) in
          let same : start + suc n ≡ suc (start + n) = omega arith in
          rw same (omega (arith, more, stays))

      -- nor where it stops waiting
      left_then : (start : ℕ) → start + short + 1 ≤ from + size → (stop : StopsWaiting start) → ((c : ℕ) → start ≤ c → c < stop.cycle → IsFalse (takes top c)) → left stop.cycle ≤ left start
      left_then start room stop none =
          let low = stop.since in
          let high = stop.until in
          let at : start + (stop.cycle - start) ≡ stop.cycle = omega (arith, low) in
          subst (λ x. left x ≤ left start) at (no_more start (stop.cycle - start) (omega (arith, at, high, room, fits)) (λ c l h. none c l (omega (arith, h, at))))

      -- before long nothing of what was taken above before s is left, or less
      sends_some : (s start : ℕ) → s ≤ start → from ≤ start → start + short + 1 ≤ from + size →
          ((c : ℕ) × (start ≤ c) × (c ≤ start + short) × (still s c ≡ 0)) ⊎ ((c : ℕ) × (start ≤ c) × (c ≤ start + short + 1) × (still s c < still s start))
      sends_some s start near first room = by_none (nat_eq (still s stop.cycle) 0) refl
        where
          stop : StopsWaiting start
          stop = stops_waiting start first room

          by_none : (b : Bool) → nat_eq (still s stop.cycle) 0 ≡ b → ((c : ℕ) × (start ≤ c) × (c ≤ start + short) × (still s c ≡ 0)) ⊎ ((c : ℕ) × (start ≤ c) × (c ≤ start + short + 1) × (still s c < still s start))
          by_none true e = inl (stop.cycle, stop.since, stop.until, grind (arith, tests, e))
          by_none false e =
              let low = stop.since in
              let high = stop.until in
              let at : start + (stop.cycle - start) ≡ stop.cycle = omega (arith, low) in
              let less = subst (λ x. still s x ≤ still s start) at (none_more (stop.cycle - start) (omega (arith, at, high, room, fits))) in
              let fewer = leads.goes_still s stop.cycle (omega (arith, near, low)) (omega (arith, high, room, fits)) (grind (arith, tests, e)) stop.stops in
              inr (suc stop.cycle, omega (arith, low), omega (arith, high), omega (arith, fewer, less))
            where
              none_more : (n : ℕ) → start + n ≤ end - 1 → still s (start + n) ≤ still s start
              none_more zero fit = let same : start + 0 ≡ start = omega arith in rw same (omega arith)
              none_more (suc n) fit =
                  let more = none_more n (omega (arith, fit)) in
                  let stays = leads.stays_still s (start + n) (omega (arith, near)) (omega (arith, fit)) in
                  let same : start + suc n ≡ suc (start + n) = omega arith in
                  rw same (omega (arith, more, stays))

      sends : (k s start : ℕ) → still s start ≤ k → s ≤ start → from ≤ start → start + k * (short + 1) ≤ from + size → (c : ℕ) × (start ≤ c) × (c ≤ start + k * (short + 1)) × (still s c ≡ 0)
      sends zero s start none near first room = (start, omega arith, omega arith, omega (arith, none))
      sends (suc k) s start most_left near first room =
          let step : suc k * (short + 1) ≡ k * (short + 1) + short + 1 = omega arith in
          elim (sends_some s start near first (omega (arith, room, step))) [
            | inl now ↦ (let high = now.2 in (now.0, now.1, omega (arith, high, step), now.3))
            | inr less ↦
                let low = less.1 in
                let high = less.2 in
                let fewer = less.3 in
                let found = sends k s less.0 (omega (arith, fewer, most_left)) (omega (arith, low, near)) (omega (arith, low, first)) (omega (arith, high, room, step)) in
                let since = found.1 in
                let until = found.2 in
                (found.0, omega (arith, since, low), omega (arith, until, high, step), found.3)
          ]

      abbrev reach : ℕ
      reach = most * (short + 1)

      -- a word comes within so many cycles of one in which it is owed behind the route
      word_above : (t : ℕ) → from ≤ t → t + reach + flush + stages + 4 ≤ from + size → IsTrue (is_owed top t) → (c : ℕ) × (suc t ≤ c) × (c < from + size) × IsTrue (is_given_from system run (Some agent) c host)
      word_above t first room owed =
          let found = sends most (suc t) (suc t) (leads.few_still (suc t) (omega (arith, room, fits))) (omega arith) (omega (arith, first)) (omega (arith, room)) in
          by_sent found.0 found.1 found.2 found.3
        where
          unchanged : (n : ℕ) → ((j : ℕ) → j < n → IsFalse (is_raised (top.answers.valid (suc t + j)))) → length (words_at top (suc t + n)) ≡ length (words_at top (suc t))
          unchanged zero none = let same : suc t + 0 ≡ suc t = omega arith in ap (λ k. length (words_at top k)) same
          unchanged (suc n) none =
              let more = unchanged n (λ j h. none j (omega (arith, h))) in
              let same : suc t + suc n ≡ suc (suc t + n) = omega arith in
              ap (λ k. length (words_at top k)) same ∙ no_word top (suc t + n) (none n (omega arith)) ∙ more

          by_sent : (c1 : ℕ) → suc t ≤ c1 → c1 ≤ suc t + reach → still (suc t) c1 ≡ 0 → (c : ℕ) × (suc t ≤ c) × (c < from + size) × IsTrue (is_given_from system run (Some agent) c host)
          by_sent c1 low high none = elim (some_or_none (λ j. is_raised (top.answers.valid (suc t + j))) (suc (last_of c1) - suc t)) [
            | inl found ↦
                let less = found.1 in
                let fit : suc t + found.0 < from + size = omega (arith, less, high, room) in
                (suc t + found.0, omega arith, fit, between.gives (suc t + found.0) (omega (arith, fit, fits)) found.2)
            | inr never ↦
                let below = own_words_come c1 (omega (arith, high, room, fits)) (flushes c1 (omega (arith, low, first)) (omega (arith, high, room))) (wanted (c1 + flush) (omega (arith, low, first)) (omega (arith, high, room))).answered in
                comes_now c1 low high (λ j h. never j h) (leads.come (suc t) c1 (suc (last_of c1)) low (omega arith) (omega (arith, high, room, fits)) none below)
          ]
            where
              comes_now : (c1 : ℕ) → suc t ≤ c1 → c1 ≤ suc t + reach → ((j : ℕ) → j < suc (last_of c1) - suc t → IsFalse (is_raised (top.answers.valid (suc t + j)))) →
                  (words_owed top (suc t) ≤ length (words_at top (suc (last_of c1)))) ⊎ IsTrue (is_raised (top.answers.valid (suc (last_of c1)))) → (c : ℕ) × (suc t ≤ c) × (c < from + size) × IsTrue (is_given_from system run (Some agent) c host)
              comes_now c1 low high never (inr now) =
                  let fit : suc (last_of c1) < from + size = omega (arith, high, room) in
                  (suc (last_of c1), omega (arith, low), fit, between.gives (suc (last_of c1)) (omega (arith, fit, fits)) now)
              comes_now c1 low high never (inl all) =
                  let at : suc t + (suc (last_of c1) - suc t) ≡ suc (last_of c1) = omega (arith, low) in
                  let same : length (words_at top (suc (last_of c1))) ≡ length (words_at top (suc t)) = subst (λ k. length (words_at top k) ≡ length (words_at top (suc t))) at (unchanged (suc (last_of c1) - suc t) never) in
                  let less = ltb-true (length (words_at top (suc t))) (words_owed top (suc t)) owed in
                  absurd (omega (arith, same, all, less))

      -- ---- while beats lack

      -- its beat stands behind the route, or a word is owed there
      stands_or_owed : (c : ℕ) → from ≤ c → c < from + size → IsTrue (lacks_beats system run host number c) → IsTrue (shows top.commands.signals c && not (takes top c)) ⊎ IsTrue (is_owed top c)
      stands_or_owed c first last lacks = by_outcome (outcome_at c first last)
        where
          fit : c < end
          fit = omega (arith, last, fits)

          by_outcome : Outcome system run host (Some agent) number c → IsTrue (shows top.commands.signals c && not (takes top c)) ⊎ IsTrue (is_owed top c)
          by_outcome (an_operation whole b e not_taken) = absurd (no_both _ lacks whole)
          by_outcome (a_word whole none owing) = absurd (no_both _ lacks whole)
          by_outcome (a_given whole given lacking) = absurd (no_both _ lacks whole)
          by_outcome (a_beat lacks shown all) =
              three_of (shows top.commands.signals c) (is_owed top c) (is_given_from system run (Some agent) c host) (between.front.shown c fit shown all)
              (λ stands. by_take (takes top c) refl stands)
              (λ owed. inr owed)
              (λ word. absurd (no_arrival c first last lacks word))
            where
              by_take : (t : Bool) → takes top c ≡ t → IsTrue (shows top.commands.signals c) → IsTrue (shows top.commands.signals c && not t) ⊎ IsTrue (is_owed top c)
              by_take false e stands = inl (both _ _ stands refl)
              by_take true e stands = by_kind (is_raised (top.commands.write c)) refl
                where
                  by_kind : (w : Bool) → is_raised (top.commands.write c) ≡ w → IsTrue (shows top.commands.signals c && not true) ⊎ IsTrue (is_owed top c)
                  by_kind true ew =
                      let written = between.front.writes c fit e ew in
                      let accepts = (and_parts (host_accepts (run.at_host host) c) _ (and_parts (host_accepts (run.at_host host) c && is_raised ((run.at_host host).write c)) _ written).0).0 in
                      absurd (no_both _ accepts (none_accepted c first last lacks))
                  by_kind false ew = inr (between.front.reads c fit e ew)

      abbrev stands_above : ℕ → Bool
      stands_above c = shows top.commands.signals c && not (takes top c)

      -- a beat can't stand there for long
      less_stands : (start until : ℕ) → from ≤ start → until ≤ from + size → start + short + 1 ≤ until → ((c : ℕ) → start ≤ c → c < until → IsTrue (stands_above c)) → (c : ℕ) × (start ≤ c) × (c ≤ start + short + 1) × (left c < left start)
      less_stands start until first low_until room all =
          let stop = stops_waiting start first (omega (arith, room, low_until)) in
          let low = stop.since in
          let high = stop.until in
          let inside : stop.cycle < until = omega (arith, high, room) in
          let fit : stop.cycle < end - 1 = omega (arith, inside, low_until, fits) in
          let less = left_then start (omega (arith, room, low_until)) stop (λ c l h. not_true _ (and_parts (shows top.commands.signals c) (not (takes top c)) (all c l (omega (arith, h, inside)))).1) in
          let here = and_parts (shows top.commands.signals stop.cycle) (not (takes top stop.cycle)) (all stop.cycle low inside) in
          let fewer = leads.goes stop.cycle fit (not_true _ here.1) here.0 stop.stops in
          (suc stop.cycle, omega (arith, low), omega (arith, high), omega (arith, fewer, less))

      not_for_long : (k start until : ℕ) → left start ≤ k → from ≤ start → until ≤ from + size → start + (k + 1) * (short + 1) ≤ until → ((c : ℕ) → start ≤ c → c < until → IsTrue (stands_above c)) → ⊥
      not_for_long zero start until none first low_until room all =
          let step : (0 + 1) * (short + 1) ≡ short + 1 = omega arith in
          let next = less_stands start until first low_until (omega (arith, room, step)) all in
          let fewer = next.3 in
          omega (arith, fewer, none)
      not_for_long (suc k) start until most_left first low_until room all =
          let step : (suc k + 1) * (short + 1) ≡ (k + 1) * (short + 1) + short + 1 = omega arith in
          let next = less_stands start until first low_until (omega (arith, room, step)) all in
          let low = next.1 in
          let high = next.2 in
          let fewer = next.3 in
          not_for_long k next.0 until (omega (arith, fewer, most_left)) (omega (arith, low, first)) low_until (omega (arith, high, room, step)) (λ c l h. all c (omega (arith, l, low)) h)

      lacks_at : IsTrue (lacks_beats system run host number from) → (c : ℕ) → from ≤ c → c ≤ from + size → IsTrue (lacks_beats system run host number c)
      lacks_at lacks c low high = let at : from + (c - from) ≡ c = omega (arith, low) in subst (λ k. IsTrue (lacks_beats system run host number k)) at (lacks_on lacks (c - from) (omega (arith, low, high)))

      never_lacks : 2 * reach + short + flush + stages + 6 ≤ size → IsTrue (lacks_beats system run host number from) → ⊥
      never_lacks room lacks = by_first (first_or_none (λ j. not (stands_above (from + j))) ((most + 1) * (short + 1)))
        where
          step : (most + 1) * (short + 1) ≡ reach + short + 1
          step = omega arith

          by_first : FirstOrNone (λ j. not (stands_above (from + j))) ((most + 1) * (short + 1)) → ⊥
          by_first (inl found) =
              let less = found.1 in
              let size_is = step in
              let owed = owed_then (from + found.0) (omega arith) (omega (arith, less, size_is, room)) (not_true _ found.2) in
              let word = word_above (from + found.0) (omega arith) (omega (arith, less, size_is, room)) owed in
              let low = word.1 in
              let high = word.2 in
              no_arrival word.0 (omega (arith, low)) high (lacks_at lacks word.0 (omega (arith, low)) (omega (arith, high))) word.3
            where
              owed_then : (c : ℕ) → from ≤ c → c < from + size → IsFalse (stands_above c) → IsTrue (is_owed top c)
              owed_then c low high none = elim (stands_or_owed c low high (lacks_at lacks c low (omega (arith, high)))) [
                | inl is ↦ absurd (no_both _ is none)
                | inr owed ↦ owed
              ]
          by_first (inr all) =
              let size_is = step in
              not_for_long most from (from + (most + 1) * (short + 1)) (leads.few from (omega (arith, fits))) (omega arith) (omega (arith, size_is, room)) (omega arith)
              (λ c low high. (let at : from + (c - from) ≡ c = omega (arith, low) in subst (λ k. IsTrue (stands_above k)) at (by_not (stands_above (from + (c - from))) (all (c - from) (omega (arith, low, high))))))

      -- ---- once no beats lack

      module _ (whole : IsFalse (lacks_beats system run host number from)) where
        ended : number ≤ ends_in (host_accepted system run host from)
        ended = let all = not_lt (length (filter (λ (t : Transfer). t.ends) (host_accepted system run host from))) number whole in let same = ends_length (host_accepted system run host from) in omega (arith, all, same)

        all_whole : (c : ℕ) → from ≤ c → IsFalse (lacks_beats system run host number c)
        all_whole c first =
            let grown : IsPrefix (host_accepted system run host from) (host_accepted system run host c) = before_prefix _ from c first in
            let more = prefix_length (prefix_filter (λ (t : Transfer). t.ends) grown) in
            let all = not_lt (length (filter (λ (t : Transfer). t.ends) (host_accepted system run host from))) number whole in
            not_less (length (filter (λ (t : Transfer). t.ends) (host_accepted system run host c))) (omega (arith, more, all))
          where
            not_less : (n : ℕ) → number ≤ n → IsFalse (nat_lt n number)
            not_less n h = grind (arith, tests, h)

        module _ (since : ℕ) (past : from ≤ since) (near : since ≤ from + reach) (none : still from since ≡ 0) where
          -- by then the agent has taken all operations
          all_there : (c : ℕ) → since + flush ≤ c → c < from + size → IsTrue (are_taken system run host number c agent)
          all_there c late last =
              let there = between.front.taken from (omega (arith, fits)) in
              let led = leads.through from since past (omega (arith, late, last, fits)) none in
              let own = own_taken system agent up down end between.arbiter (target_of system agent) host between.is_host between.words since (omega (arith, late, last, fits)) in
              let reached : IsPrefix (taken_at down.port since) (taken_at low.port c) = prefix_trans (flushes since past (omega (arith, late, last))) (taken_grows low.port (since + flush) c late) in
              let tagged : IsPrefix (with_tag host (taken_at down.port since)) (with_tag host (taken_at low.port c)) = prefix_filter (λ (m : Marked). nat_eq m.tag host) reached in
              let less = prefix_length (prefix_flat_map (λ m. operations_in (target_of system agent) low.shape m) tagged) in
              let same = ap (λ (l : List Operation). length l) (same_among system agent down.port low.port between.low_words (with_tag host (taken_at down.port since))) in
              let takes_all = ap (λ l. length (of_host host l)) (between.operations c (omega (arith, last, fits))) ∙ tagged_of_host (target_of system agent) low.shape (taken_at low.port c) host in
              taken_later system run host end between.legal from c number agent (omega (arith, late, past)) (omega (arith, last, fits)) ended (omega (arith, there, led, own, less, same, takes_all))

          -- so a word that comes is one that lacks
          no_word_then : (c : ℕ) → since + flush ≤ c → c < from + size → IsTrue (is_given_from system run (Some agent) c host) → ⊥
          no_word_then c late last word = by_outcome (outcome_at c (omega (arith, late, past)) last)
            where
              by_outcome : Outcome system run host (Some agent) number c → ⊥
              by_outcome (a_beat lacks shown all) = no_both _ lacks (all_whole c (omega (arith, late, past)))
              by_outcome (an_operation is_whole b e not_taken) = let same : b ≡ agent = cc in no_both _ (all_there c late last) (subst (λ x. IsFalse (are_taken system run host number c x)) same not_taken)
              by_outcome (a_word is_whole none owing) = no_both _ (and_parts (gives_word (system.host host) (run.at_host host) c) _ word).0 none
              by_outcome (a_given is_whole given lacking) = no_both _ (both _ _ given (not_by _ lacking)) (few c (omega (arith, late, past)) last).2

          never_then : 2 * reach + 2 * flush + stages + 5 ≤ size → ⊥
          never_then room = by_outcome (outcome_at (since + flush) (omega (arith, past)) (omega (arith, near, room)))
            where
              by_outcome : Outcome system run host (Some agent) number (since + flush) → ⊥
              by_outcome (a_beat lacks shown all) = no_both _ lacks (all_whole (since + flush) (omega (arith, past)))
              by_outcome (an_operation is_whole b e not_taken) = let same : b ≡ agent = cc in no_both _ (all_there (since + flush) (omega arith) (omega (arith, near, room))) (subst (λ x. IsFalse (are_taken system run host number (since + flush) x)) same not_taken)
              by_outcome (a_given is_whole given lacking) = no_word_then (since + flush) (omega arith) (omega (arith, near, room)) given
              by_outcome (a_word is_whole none owing) =
                  let owed = between.front.owed (since + flush) (omega (arith, near, room, fits)) owing in
                  let word = word_above (since + flush) (omega (arith, past)) (omega (arith, near, room)) owed in
                  let low = word.1 in
                  no_word_then word.0 (omega (arith, low)) word.2 word.3

        never_whole : 2 * reach + 2 * flush + stages + 5 ≤ size → ⊥
        never_whole room =
            let found = sends most from from (leads.few_still from (omega (arith, fits))) (omega arith) (omega arith) (omega (arith, room)) in
            never_then found.0 found.1 found.2 found.3 room

      pub never_stuck : 2 * (most * (short + 1)) + short + 2 * flush + stages + 6 ≤ size → ⊥
      never_stuck room = by_lacks (lacks_beats system run host number from) refl
        where
          by_lacks : (b : Bool) → lacks_beats system run host number from ≡ b → ⊥
          by_lacks true e = never_lacks (omega (arith, room)) e
          by_lacks false e = never_whole e (omega (arith, room))
