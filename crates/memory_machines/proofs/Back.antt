-- The lines of the parts give what is promised of the words that hosts are given.
use Rattle.std.proofs.Common.{ℕ, zero, suc, ◌<◌, ◌≤◌, ◌≡◌, ◌+◌, ◌-◌, [], ◌∷◌, ◌++◌, List, Bool, true, false, Option, Some, None, arith, refl, sym, ap, ap₂, ◌∙◌, subst, length, map, flat_map, zip, take, drop, slice_get, MatchOption, length-append, if◌then◌else◌}
use Rattle.std.proofs.lemmas.Option.{slice_get_within}
use Rattle.histories.specs.Laws.{prefix_trans, prefix_map, prefix_filter, prefix_flat_map, before_extends, prefix_length}
use Rattle.memory_machines.proofs.Pipes.{taken_above}
use Rattle.memory_machines.proofs.ChainAnswers.{holds_below}
use Rattle.memory_machines.proofs.Settle.{AllLegal, AllOwed, all_legal, all_owed, owed_before_all}
use Rattle.histories.specs.History.{IsPrefix, only_if, is_raised}
use Rattle.memory_runs.specs.Views.{Responses, System, Run}
use Rattle.memory_runs.specs.Operations.{Beat, byte_at, filled_lanes}
use Rattle.memory_runs.specs.Commands.{Transfer, is_of_reads, reads_among}
use Rattle.memory_runs.specs.Legal.{Word, given, gives_word, IsProperAtHost}
use Rattle.memory_runs.specs.Order.{place_of, Answer, Asked, HoldsAnswers, IsDefaultWord, IsWordOf, ReturnsInCommandOrder, asked, answers, answers_to, reads_for, host_transfers}
use Rattle.memory_machines.specs.Link.{Port, Marked, shown_at, taken_at, read_beats, words_at, answers_at, bytes_in}
use Rattle.memory_machines.specs.Lines.{Inside, Holds, Wired, Sent, TaggedPort, with_tag, words_with, answers_with, bytes_of, asked_at, asked_among, sent_of, sent_by, target_of, IsRouted, PipeCarriesCommands, AreDelayed, AreOwedByTag, HostCarriesCommands, HostCarriesAnswers, RouteCarriesAnswers}
use Rattle.memory_runs.specs.Whole.{IsLegalRun}
use Rattle.memory_machines.specs.SideLaws.{zip_front, prefix_get, prefix_take}

-- the pipe brings back just the answers of each tag
pub pipe_answers : (system : System) (agent hold : ℕ) (up down : TaggedPort) (end h c : ℕ) → h < system.hosts → c ≤ end → up.shape ≡ down.shape →
    PipeCarriesCommands system agent hold system.stages up down end → AreDelayed system system.stages up down end → AreOwedByTag system down end →
    answers_with h (target_of system agent) up c ≡ answers_with h (target_of system agent) down (c - system.stages)
pipe_answers system agent hold up down end h c is low same carries delayed owed =
    let target = target_of system agent in
    let d = c - system.stages in
    let front = taken_above system agent hold system.stages up down end h d c carries (omega arith) (omega arith) in
    let words : words_with h up c ≡ words_with h down d = delayed h c is low in
    ap (λ ws. flat_map (λ (p : Beat × Word). bytes_in target up.shape p.0 p.1) (zip (read_beats (with_tag h (taken_at up.port c))) ws)) words
    ∙ ap (λ bs. flat_map (λ (p : Beat × Word). bytes_in target up.shape p.0 p.1) (zip bs (words_with h down d))) (sym front.joins)
    ∙ ap (λ l. flat_map (λ (p : Beat × Word). bytes_in target up.shape p.0 p.1) l) (zip_front (read_beats (with_tag h (taken_at down.port d))) front.rest (words_with h down d) (enough d (omega arith)))
    ∙ ap (λ shape. flat_map (λ (p : Beat × Word). bytes_in target shape p.0 p.1) (zip (read_beats (with_tag h (taken_at down.port d))) (words_with h down d))) same
  where
    enough : (d : ℕ) → d ≤ end → length (words_with h down d) ≤ length (read_beats (with_tag h (taken_at down.port d)))
    enough zero low = omega arith
    enough (suc d) low =
        let few = owed h d is (omega arith) in
        let front : IsPrefix (read_beats (with_tag h (taken_at down.port d))) (read_beats (with_tag h (taken_at down.port (suc d)))) = prefix_flat_map _ (prefix_filter _ (prefix_filter _ (before_extends _ d))) in
        let grows = prefix_length front in
        omega (arith, few, grows)

flat_of : (ms : List Marked) → map (λ (s : Sent). s.transfer) (sent_of ms) ≡ map (λ (m : Marked). m.transfer) ms
flat_of [] = refl
flat_of (m ∷ ms) = ap (λ l. m.transfer ∷ l) (flat_of ms)

flat_by : (ts : List Transfer) → map (λ (s : Sent). s.transfer) (sent_by ts) ≡ ts
flat_by [] = refl
flat_by (t ∷ ts) = ap (λ l. t ∷ l) (flat_by ts)

-- the part next to the host shows the reads that the host has presented
pub asked_front : (system : System) (run : Run) (host hold : ℕ) (down : Port) (end c : ℕ) → HostCarriesCommands system run host hold down end → c ≤ end →
    IsPrefix (asked_at system host down c) (asked system run host c)
asked_front system run host hold down end c carries low =
    let sent = prefix_map (λ (s : Sent). s.transfer) (carries.in_order c low) in
    let plain : IsPrefix (map (λ (m : Marked). m.transfer) (shown_at down c)) (host_transfers system run host c) =
    subst (λ l. IsPrefix l (host_transfers system run host c)) (flat_of (shown_at down c)) (subst (λ l. IsPrefix (map (λ (s : Sent). s.transfer) (sent_of (shown_at down c))) l) (flat_by (host_transfers system run host c)) sent) in
    prefix_flat_map _ (prefix_filter _ plain)

-- and hands on its words in the same cycles
pub given_count : (responses : Responses) (system : System) (run : Run) (host : ℕ) (down : Port) (end c : ℕ) → HostCarriesAnswers responses system run host down end → c ≤ end →
    length (given (system.host host) (run.at_host host) c) ≡ length (words_at down c)
given_count responses system run host down end zero carries low = refl
given_count responses system run host down end (suc c) carries low =
    length-append (given (system.host host) (run.at_host host) c) _
    ∙ ap₂ (λ a b. a + b) (given_count responses system run host down end c carries (omega arith)) (one (gives_word (system.host host) (run.at_host host) c) (is_raised (down.answers.valid c)) _ _ (carries.gives c (omega arith)))
    ∙ sym (length-append (words_at down c) _)
  where
    one : (a b : Bool) (x y : Word) → a ≡ b → length (only_if a x) ≡ length (only_if b y)
    one true true x y e = refl
    one false false x y e = refl
    one true false x y e = cc
    one false true x y e = cc

same_word : (lanes : List ℕ) (answers : List Answer) (w v : Word) → w.word ≡ v.word → HoldsAnswers lanes answers w → HoldsAnswers lanes answers v
same_word lanes answers w v e holds = record { enough = holds.enough; bytes = ap (λ x. map (byte_at x) lanes) (sym e) ∙ holds.bytes }

-- what holds of each of two lists holds of both together
of_both : {A : Type 0} (P : A → Type 0) (xs ys : List A) → ((j : ℕ) (x : A) → slice_get xs j ≡ Some x → P x) → ((j : ℕ) (x : A) → slice_get ys j ≡ Some x → P x) →
    (j : ℕ) (x : A) → slice_get (xs ++ ys) j ≡ Some x → P x
of_both P [] ys left right j x e = right j x e
of_both P (y ∷ xs) ys left right zero x e = left zero x e
of_both P (y ∷ xs) ys left right (suc j) x e = of_both P xs ys (λ j x e. left (suc j) x e) right j x e

module _ (system : System) (host : ℕ) (agents : (t : Transfer) (a : ℕ) → place_of system host t ≡ Some a → a < system.agents) where
  abbrev IsPlaced : Asked → Type 0
  IsPlaced q = (a : ℕ) → q.place ≡ Some a → a < system.agents

  of_one : (t : Transfer) (bs : List Beat) (j : ℕ) (q : Asked) → slice_get (map (λ b. record { place = place_of system host t; beat = b }) bs) j ≡ Some q → IsPlaced q
  of_one t [] j q e = let bad : ⊥ = cc in absurd bad
  of_one t (b ∷ bs) zero q e = λ a at. let same : place_of system host t ≡ Some a = cc in agents t a same
  of_one t (b ∷ bs) (suc j) q e = of_one t bs j q e

  pub asked_placed : (ts : List Transfer) (j : ℕ) (q : Asked) → slice_get (asked_among system host ts) j ≡ Some q → IsPlaced q
  asked_placed [] j q e = let bad : ⊥ = cc in absurd bad
  asked_placed (t ∷ ts) j q e = by_test (is_of_reads t.kind) (asked_placed ts) e
    where
      by_test : (b : Bool) → ((j : ℕ) (q : Asked) → slice_get (asked_among system host ts) j ≡ Some q → IsPlaced q) →
          slice_get (flat_map (λ (t : Transfer). map (λ (b : Beat). record { place = place_of system host t; beat = b }) t.beats) (if b then t ∷ reads_among ts else reads_among ts)) j ≡ Some q → IsPlaced q
      by_test true rest e = of_both IsPlaced (map (λ (b : Beat). record { place = place_of system host t; beat = b }) t.beats) (asked_among system host ts) (of_one t t.beats) rest j q e
      by_test false rest e = rest j q e

-- a word of the route is the word of the host's own read beat
pub routed_word : (system : System) (run : Run) (host cycle number : ℕ) (up : Port) (down : ℕ → Port) (w v : Word) → w.word ≡ v.word →
    ((t : Transfer) (a : ℕ) → place_of system host t ≡ Some a → a < system.agents) →
    IsPrefix (asked_at system host up (suc cycle)) (asked system run host (suc cycle)) →
    ((a : ℕ) → a < system.agents → IsPrefix (bytes_of (answers_at (target_of system a) (down a) (suc cycle))) (bytes_of (answers_to host (answers system run a (suc cycle - system.stages))))) →
    IsRouted system host up down cycle number w (slice_get (asked_at system host up (suc cycle)) number) →
    IsWordOf system run host cycle number v (slice_get (asked system run host (suc cycle)) number)
routed_word system run host cycle number up down w v same agents front below routed = by_question (slice_get (asked_at system host up (suc cycle)) number) refl routed
  where
    by_question : (o : Option Asked) → slice_get (asked_at system host up (suc cycle)) number ≡ o → IsRouted system host up down cycle number w o →
        IsWordOf system run host cycle number v (slice_get (asked system run host (suc cycle)) number)
    by_question None e routed = absurd routed
    by_question (Some q) e routed =
        let there : slice_get (asked system run host (suc cycle)) number ≡ Some q = prefix_get front number q e in
        let earlier : take number (asked system run host (suc cycle)) ≡ take number (asked_at system host up (suc cycle)) = prefix_take front number (let low = slice_get_within (asked_at system host up (suc cycle)) number q e in omega (arith, low)) in
        let placed : (a : ℕ) → q.place ≡ Some a → a < system.agents = asked_placed system host agents (map (λ (m : Marked). m.transfer) (shown_at up (suc cycle))) number q e in
        subst (λ o. IsWordOf system run host cycle number v o) (sym there) (by_place q.place placed earlier routed)
      where
        by_place : (place : Option ℕ) → ((a : ℕ) → place ≡ Some a → a < system.agents) → take number (asked system run host (suc cycle)) ≡ take number (asked_at system host up (suc cycle)) →
            MatchOption place (IsDefaultWord (system.host host) q.beat w) (λ a.
            HoldsAnswers (filled_lanes (system.host host).shape (system.agent a).shape q.beat.enables)
            (drop (reads_for system host a (take number (asked_at system host up (suc cycle)))) (answers_at (target_of system a) (down a) (suc cycle))) w) →
            MatchOption place (IsDefaultWord (system.host host) q.beat v) (λ a.
            HoldsAnswers (filled_lanes (system.host host).shape (system.agent a).shape q.beat.enables)
            (drop (reads_for system host a (take number (asked system run host (suc cycle)))) (answers_to host (answers system run a (suc cycle - system.stages)))) v)
        by_place None placed earlier routed = subst (λ x. IsDefaultWord (system.host host) q.beat (record { word = x; code = v.code })) same routed
        by_place (Some a) placed earlier routed =
            let lanes = filled_lanes (system.host host).shape (system.agent a).shape q.beat.enables in
            subst (λ l. HoldsAnswers lanes (drop (reads_for system host a l) (answers_to host (answers system run a (suc cycle - system.stages)))) v) (sym earlier)
            (same_word lanes _ w v same
            (holds_below lanes (reads_for system host a (take number (asked_at system host up (suc cycle)))) (answers_at (target_of system a) (down a) (suc cycle)) (answers_to host (answers system run a (suc cycle - system.stages))) w
            (below a (placed a refl)) routed))

module _ (responses : Responses) (system : System) (run : Run) (inside : Inside) (holds : Holds) (end : ℕ) (wired : Wired responses system run inside holds end) (legal : IsLegalRun system run end) where
  pub legal_everywhere : AllLegal system inside wired.room end
  legal_everywhere = all_legal responses system run inside holds end wired end (omega arith) legal

  pub owed_everywhere : AllOwed system inside end
  owed_everywhere = all_owed responses system run inside holds end wired end (omega arith) legal

  pub owed_earlier : AllOwed system inside (end - 1)
  owed_earlier = owed_before_all responses system run inside holds end wired (end - 1) end (omega arith) owed_everywhere

  pub host_answers : (h : ℕ) → h < system.hosts → HostCarriesAnswers responses system run h (inside.after_host h) end
  host_answers h is = (wired.host h is).answers end (omega arith) (legal.hosts h is) (owed_everywhere.after_host h is)

  pub host_commands : (h : ℕ) → h < system.hosts → HostCarriesCommands system run h holds.host (inside.after_host h) end
  host_commands h is = (wired.host h is).commands end (omega arith) (legal.hosts h is) (owed_earlier.after_host h is)

  pub route_answers : (h : ℕ) → h < system.hosts → RouteCarriesAnswers responses system h (inside.after_host h) (inside.after_route h) end
  route_answers h is = (wired.route h is).answers end (omega arith) (legal_everywhere.after_host h is) (legal_everywhere.single h is) (legal_everywhere.debt h is) (λ a there. owed_everywhere.after_route h a is there)

  -- the answers behind the arbiter are those before the agent, `stages` cycles later
  pub piped_answers : (h a c : ℕ) → h < system.hosts → a < system.agents → c ≤ end →
      answers_with h (target_of system a) (inside.after_arbiter a) c ≡ answers_with h (target_of system a) (inside.before_agent a) (c - system.stages)
  piped_answers h a c is there low =
      pipe_answers system a holds.pipe (inside.after_arbiter a) (inside.before_agent a) end h c is low (wired.pipe a there).same
      ((wired.pipe a there).commands end (omega arith) (legal_everywhere.after_arbiter a there).legal (owed_earlier.before_agent a there))
      ((wired.pipe a there).answers end (omega arith) (legal_everywhere.after_arbiter a there).legal (owed_everywhere.before_agent a there)) (owed_everywhere.before_agent a there)

  -- the answers behind the route are those of the agent, `stages` cycles later
  pub answers_back : (h a c : ℕ) → h < system.hosts → a < system.agents → c ≤ end →
      IsPrefix (bytes_of (answers_at (target_of system a) (inside.after_route h a) c)) (bytes_of (answers_to h (answers system run a (c - system.stages))))
  answers_back h a c is there low =
      let target = target_of system a in
      let first = ((wired.links h a is there).carries.answers end (omega arith) (legal_everywhere.after_route h a is there) (owed_everywhere.before_arbiter h a is there)).bytes c low in
      let second = ((wired.arbiter a there).answers end (omega arith) (legal_everywhere.before_arbiter a there) (owed_everywhere.after_arbiter a there)).bytes h c is low in
      let fourth = ((wired.agent a there).answers end (omega arith) (legal_everywhere.before_agent a there) (legal.agents a there)).bytes h (c - system.stages) is (omega arith) in
      prefix_trans first (prefix_trans (subst (λ l. IsPrefix (bytes_of (answers_at target (inside.before_arbiter h a) c)) (bytes_of l)) (piped_answers h a c is there low) second) fourth)

  -- every word that a host is given is the right one
  pub returned : (h : ℕ) → h < system.hosts → ReturnsInCommandOrder system run h end
  returned h is c low gives =
      let valid : is_raised ((inside.after_host h).answers.valid c) ≡ true = sym ((host_answers h is).gives c low) ∙ gives in
      let number = given_count responses system run h (inside.after_host h) end c (host_answers h is) (omega arith) in
      let word = (host_answers h is).word c low valid in
      subst (λ n. IsWordOf system run h c n (record { word = (run.at_host h).readdata c; code = (run.at_host h).response c }) (slice_get (asked system run h (suc c)) n)) (sym number)
      (routed_word system run h c (length (words_at (inside.after_host h) c)) (inside.after_host h) (inside.after_route h)
      (record { word = (inside.after_host h).answers.word c; code = (inside.after_host h).answers.code c }) (record { word = (run.at_host h).readdata c; code = (run.at_host h).response c }) (sym word)
      (λ t a at. wired.placed h t a is at) (asked_front system run h holds.host (inside.after_host h) end (suc c) (host_commands h is) (omega arith))
      (λ a there. answers_back h a (suc c) is there (omega arith))
      ((route_answers h is).answered c low valid))

  -- the rules at hosts' ports
  pub proper_at_host : (h : ℕ) → h < system.hosts → IsProperAtHost (system.host h) (run.at_host h) end
  proper_at_host h is = (host_answers h is).proper
