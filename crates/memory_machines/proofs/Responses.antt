-- The lines of the parts give the codes of the words that hosts are given.
use Rattle.std.proofs.Common.{ℕ, suc, ◌<◌, ◌≤◌, ◌≡◌, ◌+◌, ◌-◌, [], ◌∷◌, ◌++◌, List, Bool, true, false, not, IsTrue, Option, Some, None, if◌then◌else◌, arith, refl, sym, ap, ◌∙◌, subst, length, map, filter, flat_map, zip, take, drop, slice_get, MatchOption, length-append, nat_lt, tests}
use Rattle.std.specs.Prelude.{⊤}
use Rattle.std.proofs.lemmas.Option.{slice_get_within}
use Rattle.std.proofs.lemmas.List.{length-map, drop-drop}
use Rattle.std.proofs.lemmas.List.Elements.{filter-append}
use Rattle.memory_machines.proofs.Laws.{same_number}
use Rattle.memory_machines.specs.Shorter.{legal_at_before}
use Rattle.histories.specs.Laws.{prefix_trans, prefix_map, prefix_length}
use Rattle.memory_machines.proofs.Rows.{worded_total, greatest_before_worded, greatest_behind}
use Rattle.memory_machines.proofs.ChainCodes.{total_blocks, highest_of, codes_within}
use Rattle.memory_machines.proofs.Back.{asked_front, asked_placed, given_count, host_answers, host_commands, route_answers, piped_answers, legal_everywhere, owed_everywhere}
use Rattle.histories.specs.History.{IsPrefix, is_raised, total, only_if}
use Rattle.memory_runs.specs.Views.{Responses, System, Run}
use Rattle.memory_runs.specs.Operations.{filled_lanes}
use Rattle.memory_runs.specs.Legal.{Word}
use Rattle.memory_runs.specs.Order.{Asked, HasCodeOf, RespondsBy, asked, answers, answers_to, reads_for, beat_operations, is_agent, greatest_code}
use Rattle.memory_machines.specs.Link.{Port, Marked, shown_at, words_at, answers_at}
use Rattle.memory_machines.specs.Blocks.{Block, sizes_of, highest, AreGreatest, worded, codes_of, blocks_at}
use Rattle.memory_runs.specs.Legal.{gives_word}
use Rattle.memory_runs.specs.Views.Responses.{AreZero, AreCodes}
use Rattle.memory_machines.specs.Lines.{HostResponds, Inside, Holds, Wired, bytes_of, asked_at, target_of, placed_block, placed_blocks, HasDefaultCode}
use Rattle.memory_runs.specs.Whole.{IsLegalRun}
use Rattle.memory_machines.specs.SideLaws.{total_front, prefix_get, prefix_take, zip_push}

greatest_last : (xs : List Block) (b : Block) (codes : List ℕ) → AreGreatest (xs ++ b ∷ []) codes → 0 < b.size → b.code ≡ highest (take b.size (drop (total (sizes_of xs)) codes))
greatest_last [] b codes g some = g.0 some
greatest_last (x ∷ xs) b codes g some = greatest_last xs b (drop x.size codes) g.1 some ∙ ap (λ l. highest (take b.size l)) (drop-drop (total (sizes_of xs)) x.size codes)

-- the answers of the words for a place are those of the read beats for it
placed_total : (system : System) (host agent : ℕ) (qs : List Asked) (ws : List Word) → length ws ≤ length qs →
    total (sizes_of (flat_map (placed_block system host agent) (zip qs ws))) ≡ reads_for system host agent (take (length ws) qs)
placed_total system host agent [] [] h = refl
placed_total system host agent (q ∷ qs) [] h = refl
placed_total system host agent [] (w ∷ ws) h = absurd (omega arith)
placed_total system host agent (q ∷ qs) (w ∷ ws) h = by_place (is_agent agent q.place) (placed_total system host agent qs ws (omega arith))
  where
    by_place : (t : Bool) → total (sizes_of (flat_map (placed_block system host agent) (zip qs ws))) ≡ reads_for system host agent (take (length ws) qs) →
        total (sizes_of (only_if t (record { size = length (filled_lanes (system.host host).shape (system.agent agent).shape q.beat.enables); code = w.code }) ++ flat_map (placed_block system host agent) (zip qs ws)))
        ≡ length (flat_map (λ (q : Asked). beat_operations system host agent q.beat) (if t then q ∷ filter (λ (q : Asked). is_agent agent q.place) (take (length ws) qs) else filter (λ (q : Asked). is_agent agent q.place) (take (length ws) qs)))
    by_place true rest =
        ap (λ n. length (filled_lanes (system.host host).shape (system.agent agent).shape q.beat.enables) + n) rest
        ∙ ap (λ n. n + reads_for system host agent (take (length ws) qs)) (sym (length-map (filled_lanes (system.host host).shape (system.agent agent).shape q.beat.enables) _))
        ∙ sym (length-append (beat_operations system host agent q.beat) _)
    by_place false rest = rest

module _ (responses : Responses) (system : System) (run : Run) (inside : Inside) (holds : Holds) (end : ℕ) (wired : Wired responses system run inside holds end) (legal : IsLegalRun system run end) where
  codes_back : responses ≡ AreCodes → (h a c : ℕ) → h < system.hosts → a < system.agents → c ≤ end → AreGreatest (worded (placed_blocks system h a (inside.after_host h) c)) (codes_of (answers_to h (answers system run a (c - system.stages))))
  codes_back told h a c is there low =
      let target = target_of system a in
      let up = inside.after_host h in
      let middle = inside.after_route h a in
      let down = inside.before_arbiter h a in
      let front = (route_answers responses system run inside holds end wired legal h is).codes told a c there low in
      let links = (wired.links h a is there).codes c low (legal_at_before middle c end low ((legal_everywhere responses system run inside holds end wired legal).after_route h a is there)) (λ k less. (owed_everywhere responses system run inside holds end wired legal).before_arbiter h a is there k (omega arith)) in
      let first = ((wired.arbiter a there).answers end (omega arith) ((legal_everywhere responses system run inside holds end wired legal).before_arbiter a there) ((owed_everywhere responses system run inside holds end wired legal).after_arbiter a there)).codes told h c is low in
      let second = piped_answers responses system run inside holds end wired legal h a c is there low in
      let third = ((wired.agent a there).answers end (omega arith) ((legal_everywhere responses system run inside holds end wired legal).before_agent a there) (legal.agents a there)).codes told h (c - system.stages) is (omega arith) in
      let back : IsPrefix (codes_of (answers_at target down c)) (codes_of (answers_to h (answers system run a (c - system.stages)))) =
      prefix_trans (subst (λ l. IsPrefix (codes_of (answers_at target down c)) (codes_of l)) second first) third in
      let bytes = prefix_length (((wired.links h a is there).carries.answers end (omega arith) ((legal_everywhere responses system run inside holds end wired legal).after_route h a is there) ((owed_everywhere responses system run inside holds end wired legal).before_arbiter h a is there)).bytes c low) in
      let mine : length (bytes_of (answers_at target middle c)) ≡ length (answers_at target middle c) = length-map (answers_at target middle c) _ in
      let theirs : length (bytes_of (answers_at target down c)) ≡ length (answers_at target down c) = length-map (answers_at target down c) _ in
      let codes : length (codes_of (answers_at target down c)) ≡ length (answers_at target down c) = length-map (answers_at target down c) _ in
      let sizes = total_front (prefix_map (λ (b : Block). b.size) front) in
      let worded_sizes = worded_total (blocks_at target middle c) in
      let blocks = total_blocks target middle c in
      greatest_behind (worded (placed_blocks system h a up c)) (codes_of (answers_at target down c)) (codes_of (answers_to h (answers system run a (c - system.stages)))) back
      (omega (arith, bytes, mine, theirs, codes, sizes, worded_sizes, blocks))
      (greatest_before_worded (placed_blocks system h a up c) (blocks_at target middle c) (codes_of (answers_at target down c)) front links)

  word_code : responses ≡ AreCodes → (h a c : ℕ) (q : Asked) → h < system.hosts → a < system.agents → c < end → IsTrue (is_raised ((inside.after_host h).answers.valid c)) → q.place ≡ Some a →
      slice_get (asked_at system h (inside.after_host h) (suc c)) (length (words_at (inside.after_host h) c)) ≡ Some q →
      0 < length (filled_lanes (system.host h).shape (system.agent a).shape q.beat.enables) →
      (inside.after_host h).answers.code c ≡ greatest_code (take (length (filled_lanes (system.host h).shape (system.agent a).shape q.beat.enables))
      (drop (reads_for system h a (take (length (words_at (inside.after_host h) c)) (asked_at system h (inside.after_host h) (suc c)))) (answers_to h (answers system run a (suc c - system.stages)))))
  word_code told h a c q is there low valid place got some =
      let up = inside.after_host h in
      let asks = asked_at system h up (suc c) in
      let ws = words_at up c in
      let w : Word = record { word = up.answers.word c; code = up.answers.code c } in
      let lanes = filled_lanes (system.host h).shape (system.agent a).shape q.beat.enables in
      let b : Block = record { size = length lanes; code = up.answers.code c } in
      let earlier = flat_map (placed_block system h a) (zip asks ws) in
      let words : words_at up (suc c) ≡ ws ++ w ∷ [] = rw valid refl in
      let mine : is_agent a q.place ≡ true = rw place (same_number a) in
      let own : placed_block system h a (q, w) ≡ b ∷ [] = rw mine refl in
      let blocks : placed_blocks system h a up (suc c) ≡ earlier ++ b ∷ [] =
      ap (λ l. flat_map (placed_block system h a) (zip asks l)) words ∙ zip_push (placed_block system h a) asks ws w q got ∙ ap (λ l. earlier ++ l) own in
      let positive : nat_lt 0 (length lanes) ≡ true = grind (arith, tests, some) in
      let one : worded (b ∷ []) ≡ b ∷ [] = rw positive refl in
      let split : worded (placed_blocks system h a up (suc c)) ≡ worded earlier ++ b ∷ [] =
      ap worded blocks ∙ filter-append (λ (b : Block). nat_lt 0 b.size) earlier (b ∷ []) ∙ ap (λ l. worded earlier ++ l) one in
      let replies = answers_to h (answers system run a (suc c - system.stages)) in
      let last = greatest_last (worded earlier) b (codes_of replies) (subst (λ l. AreGreatest l (codes_of replies)) split (codes_back told h a (suc c) is there (omega arith))) some in
      let inside_front = slice_get_within asks (length ws) q got in
      let place_of_it : total (sizes_of (worded earlier)) ≡ reads_for system h a (take (length ws) asks) = worded_total earlier ∙ placed_total system h a asks ws (omega (arith, inside_front)) in
      last ∙ ap (λ r. highest (take (length lanes) (drop r (codes_of replies)))) place_of_it
      ∙ ap highest (sym (codes_within (length lanes) (reads_for system h a (take (length ws) asks)) replies))
      ∙ sym (highest_of (take (length lanes) (drop (reads_for system h a (take (length ws) asks)) replies)))

  code_of_word : responses ≡ AreCodes → (h c code : ℕ) → h < system.hosts → c < end → IsTrue (is_raised ((inside.after_host h).answers.valid c)) → code ≡ (inside.after_host h).answers.code c →
      HasCodeOf system run h c (length (words_at (inside.after_host h) c)) code (slice_get (asked system run h (suc c)) (length (words_at (inside.after_host h) c)))
  code_of_word told h c code is low valid same = by_question (slice_get (asked_at system h up (suc c)) number) refl ((route_answers responses system run inside holds end wired legal h is).default_code told c low valid)
    where
      up : Port
      up = inside.after_host h

      number : ℕ
      number = length (words_at (inside.after_host h) c)

      front : IsPrefix (asked_at system h (inside.after_host h) (suc c)) (asked system run h (suc c))
      front = asked_front system run h holds.host (inside.after_host h) end (suc c) (host_commands responses system run inside holds end wired legal h is) (omega arith)

      by_question : (o : Option Asked) → slice_get (asked_at system h (inside.after_host h) (suc c)) (length (words_at (inside.after_host h) c)) ≡ o → HasDefaultCode ((inside.after_host h).answers.code c) o →
          HasCodeOf system run h c (length (words_at (inside.after_host h) c)) code (slice_get (asked system run h (suc c)) (length (words_at (inside.after_host h) c)))
      by_question None e default = absurd default
      by_question (Some q) e default =
          let n = length (words_at (inside.after_host h) c) in
          let asks = asked_at system h (inside.after_host h) (suc c) in
          let there : slice_get (asked system run h (suc c)) n ≡ Some q = prefix_get front n q e in
          let earlier : take n (asked system run h (suc c)) ≡ take n asks = prefix_take front n (let low = slice_get_within asks n q e in omega (arith, low)) in
          let placed : (a : ℕ) → q.place ≡ Some a → a < system.agents = asked_placed system h (λ t a at. wired.placed h t a is at) (map (λ (m : Marked). m.transfer) (shown_at (inside.after_host h) (suc c))) n q e in
          subst (λ o. HasCodeOf system run h c n code o) (sym there) (by_place q.place refl default earlier placed)
        where
          by_place : (place : Option ℕ) → q.place ≡ place → MatchOption place ((inside.after_host h).answers.code c ≡ 3) (λ _. ⊤) →
              take (length (words_at (inside.after_host h) c)) (asked system run h (suc c)) ≡ take (length (words_at (inside.after_host h) c)) (asked_at system h (inside.after_host h) (suc c)) →
              ((a : ℕ) → q.place ≡ Some a → a < system.agents) →
              MatchOption place (code ≡ 3) (λ a. 0 < length (filled_lanes (system.host h).shape (system.agent a).shape q.beat.enables) →
              code ≡ greatest_code (take (length (filled_lanes (system.host h).shape (system.agent a).shape q.beat.enables)) (drop (reads_for system h a (take (length (words_at (inside.after_host h) c)) (asked system run h (suc c))))
              (answers_to h (answers system run a (suc c - system.stages))))))
          by_place None at default earlier placed = same ∙ default
          by_place (Some a) at default earlier placed = λ some.
              same ∙ word_code told h a c q is (placed a at) low valid at e some
              ∙ ap (λ l. greatest_code (take (length (filled_lanes (system.host h).shape (system.agent a).shape q.beat.enables)) (drop (reads_for system h a l) (answers_to h (answers system run a (suc c - system.stages)))))) (sym earlier)

  by_rule : (rule : Responses) → responses ≡ rule → (h : ℕ) → h < system.hosts →
      ((c : ℕ) → c < end → gives_word (system.host h) (run.at_host h) c ≡ is_raised ((inside.after_host h).answers.valid c)) →
      HostResponds rule system run h (inside.after_host h) end → RespondsBy rule system run h end
  by_rule AreZero told h is gives responds = responds
  by_rule AreCodes told h is gives responds = record {
    of_words = λ c low has given_here.
        let valid : is_raised ((inside.after_host h).answers.valid c) ≡ true = sym (gives c low) ∙ given_here in
        let number = given_count responses system run h (inside.after_host h) end c (host_answers responses system run inside holds end wired legal h is) (omega arith) in
        subst (λ n. HasCodeOf system run h c n ((run.at_host h).response c) (slice_get (asked system run h (suc c)) n)) (sym number)
        (code_of_word told h c ((run.at_host h).response c) is low valid (responds.code c low has valid));
    quiet = λ c low has silent. responds.quiet c low has (ap not (sym (gives c low)) ∙ silent);
    absent = λ c low has. responds.absent c low has;
  }

  pub responded : (h : ℕ) → h < system.hosts → RespondsBy responses system run h end
  responded h is =
      let answered = host_answers responses system run inside holds end wired legal h is in
      by_rule responses refl h is answered.gives answered.responds
