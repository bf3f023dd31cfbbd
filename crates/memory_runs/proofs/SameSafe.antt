-- What is promised of a run up to a cycle depends on what is shown up to it: safety.
use Rattle.std.proofs.Common.{◌≡◌, ℕ, suc, ◌-◌, ◌*◌, ◌≤◌, ◌<◌, not, ◌&&◌, IsTrue, List, [], map, length, filter, flat_map, zip, take, drop, replicate, slice_get, MatchOption, Option, Some, None, if◌then◌else◌, ap, ap₂, sym, ◌∙◌, subst, arith, nat_eq, nat_le}
use Rattle.std.proofs.Math.Path.{fun_ext}
use Rattle.std.specs.Prelude.{⊤}
use Rattle.histories.specs.History.{only_if, is_raised, unreached, IsPrefix}
use Rattle.memory_runs.specs.Views.{Levels, System, Run, Responses}
use Rattle.memory_runs.specs.Views.Responses.{AreZero, AreCodes}
use Rattle.memory_runs.specs.Operations.{filled_lanes, is_read, pieces}
use Rattle.memory_runs.specs.Commands.{Transfer, agent_accepts, accepted, reads_among}
use Rattle.memory_runs.specs.Legal.{Word, host_accepts, given}
use Rattle.memory_runs.specs.Order.{Answer, Asked, TaggedBeat, HoldsAnswers, HasCodeOf, HasResponses, IsDefaultWord, IsWordOf, KeepsReadOrder, LagsWithin, RespondsBy, ReturnsInCommandOrder, ServesInGrantedOrder, answers, answers_in, answers_to, are_together, asked, beats_taken, for_agent, greatest_code, host_transfers, is_agent, is_joined, is_read_beat, issued, numbers_by_ends, of_host, operations_at, owners, owners_from, owners_taken, place_of, reads_for, taken, transfer_operations, words_covered, words_given_in, command_lag}
use Rattle.memory_runs.specs.Whole.{IsLegalRun, IsSafe}
use Rattle.memory_runs.specs.Beginnings.{RunsAgreeBefore}
use Rattle.memory_runs.proofs.SameSides.{same_before, same_transfer, same_presented, same_accepted, same_host_accepts, same_gives, same_word, same_given, same_agent_accepts, same_legal, same_legal_agent, same_proper_at_host, same_proper_at_agent}

module _ (system : System) (one two : Run) (end : ℕ) (same : RunsAgreeBefore one two end) where
  pub host_takes : (h c : ℕ) → c < end → host_accepts (one.at_host h) c ≡ host_accepts (two.at_host h) c
  host_takes h = same_host_accepts (system.host h) (one.at_host h) (two.at_host h) end (same.hosts h)

  pub agent_takes : (a c : ℕ) → c < end → agent_accepts (system.agent a) (one.at_agent a) c ≡ agent_accepts (system.agent a) (two.at_agent a) c
  agent_takes a = same_agent_accepts (system.agent a) (one.at_agent a) (two.at_agent a) end (same.agents a)

  pub same_transfers : (h c : ℕ) → c ≤ end → host_transfers system one h c ≡ host_transfers system two h c
  same_transfers h = same_presented (system.host h).shape (one.at_host h).signals (two.at_host h).signals (host_accepts (one.at_host h)) (host_accepts (two.at_host h)) end (same.hosts h).signals (host_takes h)

  pub same_host_accepted : (h c : ℕ) → c ≤ end →
      accepted (system.host h).shape (one.at_host h).signals (host_accepts (one.at_host h)) c ≡ accepted (system.host h).shape (two.at_host h).signals (host_accepts (two.at_host h)) c
  same_host_accepted h = same_accepted (system.host h).shape (one.at_host h).signals (two.at_host h).signals (host_accepts (one.at_host h)) (host_accepts (two.at_host h)) end (same.hosts h).signals (host_takes h)

  pub words_given : (h c : ℕ) → c ≤ end → given (system.host h) (one.at_host h) c ≡ given (system.host h) (two.at_host h) c
  words_given h = same_given (system.host h) (one.at_host h) (two.at_host h) end (same.hosts h)

  pub same_asks : (h c : ℕ) → c ≤ end → asked system one h c ≡ asked system two h c
  same_asks h c low = ap (λ ts. flat_map (λ (t : Transfer). map (λ b. record { place = place_of system h t; beat = b }) t.beats) (reads_among ts)) (same_transfers h c low)

  pub same_issued : (h a c : ℕ) → c ≤ end → issued system one h a c ≡ issued system two h a c
  same_issued h a c low = ap (λ ts. flat_map (transfer_operations system h a) (for_agent system h a ts)) (same_transfers h c low)

  pub same_beats : (a c : ℕ) → c ≤ end → beats_taken system one a c ≡ beats_taken system two a c
  same_beats a = same_before _ _ end (λ c low.
      ap₂ (λ g (ts : List Transfer). map (λ b. record { tag = g; beat = b }) (flat_map (λ (t : Transfer). t.beats) ts)) ((same.agents a).grant c low)
      (ap₂ (λ b (t : Transfer). only_if b t) (agent_takes a c low)
      (same_transfer (system.agent a).shape (one.at_agent a).signals (two.at_agent a).signals (agent_accepts (system.agent a) (one.at_agent a)) (agent_accepts (system.agent a) (two.at_agent a)) end (same.agents a).signals (agent_takes a) c low)))

  pub same_taken : (a c : ℕ) → c ≤ end → taken system one a c ≡ taken system two a c
  same_taken a c low = ap (flat_map (operations_at system a)) (same_beats a c low)

  same_owners : (h a c : ℕ) → c ≤ end → owners system one h a c ≡ owners system two h a c
  same_owners h a c low =
      ap (λ (ts : List Transfer). flat_map (λ (p : ℕ × Transfer). if is_agent a (place_of system h p.1) then replicate (length (transfer_operations system h a p.1)) p.0 else []) (zip (numbers_by_ends 1 ts) ts)) (same_transfers h c low)

  pub same_owners_taken : (a c : ℕ) → c ≤ end → owners_taken system one a c ≡ owners_taken system two a c
  same_owners_taken a c low = ap₂ (λ f ts. owners_from f [] ts) (fun_ext (λ h. same_owners h a c low)) (same_taken a c low)

  pub same_words_in : (a c : ℕ) → c < end → words_given_in system one a c ≡ words_given_in system two a c
  same_words_in a c low =
      let side = system.agent a in
      let first = one.at_agent a in
      let second = two.at_agent a in
      let earlier = c - side.read_latency in
      ap₂ (λ b (w : Word). only_if b w)
      (ap (λ v. if side.has_readdatavalid then is_raised v else nat_le side.read_latency c && is_raised (first.read earlier) && agent_accepts side first earlier) ((same.agents a).readdatavalid c low)
      ∙ ap₂ (λ (l : Levels) b. if side.has_readdatavalid then is_raised (second.readdatavalid c) else nat_le side.read_latency c && is_raised l.read && b) ((same.agents a).signals earlier (omega arith)) (agent_takes a earlier (omega arith)))
      (ap₂ (λ w k. record { word = w; code = k }) ((same.agents a).readdata c low) ((same.agents a).response c low))

  pub same_answers : (a c : ℕ) → c ≤ end → answers system one a c ≡ answers system two a c
  same_answers a c low =
      ap₂ (λ bs ws. flat_map (λ (p : TaggedBeat × Word). answers_in (system.agent a).shape p.0 p.1) (zip (filter is_read_beat bs) ws)) (same_beats a c low) (same_before _ _ end (same_words_in a) c low)

  pub same_legal_run : IsLegalRun system one end → IsLegalRun system two end
  same_legal_run legal = record {
    hosts = λ h is. same_legal (system.host h).shape (one.at_host h).signals (two.at_host h).signals (host_accepts (one.at_host h)) (host_accepts (two.at_host h)) end (same.hosts h).signals (host_takes h) (legal.hosts h is);
    agents = λ a there. same_legal_agent (system.agent a) (one.at_agent a) (two.at_agent a) end (same.agents a) (legal.agents a there);
  }

  same_order : (a : ℕ) → ServesInGrantedOrder system one a end → ServesInGrantedOrder system two a end
  same_order a order = record {
    tags = λ c low accepts. subst (λ g. IsTrue (is_joined system a g)) ((same.agents a).grant c low) (order.tags c low (subst IsTrue (sym (agent_takes a c low)) accepts));
    in_order = λ c h low is. subst (λ l. IsPrefix (of_host h (taken system two a c)) l) (same_issued h a (c - system.stages) (omega arith))
        (subst (λ l. IsPrefix (of_host h l) (issued system one h a (c - system.stages))) (same_taken a c low) (order.in_order c h low is));
    together = λ c low. subst (λ l. IsTrue (are_together l)) (same_owners_taken a c low) (order.together c low);
    beats = λ c h low is.
        subst (λ (ts : List Transfer). length (filter (λ (b : TaggedBeat). nat_eq b.tag h) (beats_taken system two a c)) ≤ pieces (system.host h).shape (system.agent a).shape * length (flat_map (λ (t : Transfer). t.beats) (for_agent system h a ts))) (same_transfers h c low)
        (subst (λ l. length (filter (λ (b : TaggedBeat). nat_eq b.tag h) l) ≤ words_covered system one h a c) (same_beats a c low) (order.beats c h low is));
  }

  -- the question, and what it is answered from
  word_turned : (h c number : ℕ) (word : Word) (question : Option Asked) → c < end → IsWordOf system one h c number word question → IsWordOf system two h c number word question
  word_turned h c number word None low of = of
  word_turned h c number word (Some q) low of =
      subst (λ l. MatchOption q.place (IsDefaultWord (system.host h) q.beat word) (λ a.
      HoldsAnswers (filled_lanes (system.host h).shape (system.agent a).shape q.beat.enables) (drop (reads_for system h a (take number l)) (answers_to h (answers system two a (suc c - system.stages)))) word)) (same_asks h (suc c) low)
      (subst (λ (f : ℕ → List Answer). MatchOption q.place (IsDefaultWord (system.host h) q.beat word) (λ a.
      HoldsAnswers (filled_lanes (system.host h).shape (system.agent a).shape q.beat.enables) (drop (reads_for system h a (take number (asked system one h (suc c)))) (answers_to h (f a))) word))
      (fun_ext (λ a. same_answers a (suc c - system.stages) (omega arith))) of)

  same_returned : (h : ℕ) → ReturnsInCommandOrder system one h end → ReturnsInCommandOrder system two h end
  same_returned h returns c low gives =
      let side = system.host h in
      let counts : length (given side (one.at_host h) c) ≡ length (given side (two.at_host h) c) = ap length (words_given h c (omega arith)) in
      let turned = word_turned h c _ _ _ low (returns c low (subst IsTrue (sym (same_gives side (one.at_host h) (two.at_host h) end (same.hosts h) c low)) gives)) in
      subst (λ n. IsWordOf system two h c n (record { word = (two.at_host h).readdata c; code = (two.at_host h).response c }) (slice_get (asked system two h (suc c)) n)) counts
      (subst (λ l. IsWordOf system two h c (length (given side (one.at_host h) c)) (record { word = (two.at_host h).readdata c; code = (two.at_host h).response c }) (slice_get l (length (given side (one.at_host h) c)))) (same_asks h (suc c) low)
      (subst (λ w. IsWordOf system two h c (length (given side (one.at_host h) c)) w (slice_get (asked system one h (suc c)) (length (given side (one.at_host h) c)))) (same_word side (one.at_host h) (two.at_host h) end (same.hosts h) c low) turned))

  code_turned : (h c number code : ℕ) (question : Option Asked) → c < end → HasCodeOf system one h c number code question → HasCodeOf system two h c number code question
  code_turned h c number code None low of = of
  code_turned h c number code (Some q) low of =
      subst (λ l. MatchOption q.place (code ≡ 3) (λ a. 0 < length (filled_lanes (system.host h).shape (system.agent a).shape q.beat.enables) →
      code ≡ greatest_code (take (length (filled_lanes (system.host h).shape (system.agent a).shape q.beat.enables)) (drop (reads_for system h a (take number l)) (answers_to h (answers system two a (suc c - system.stages))))))) (same_asks h (suc c) low)
      (subst (λ (f : ℕ → List Answer). MatchOption q.place (code ≡ 3) (λ a. 0 < length (filled_lanes (system.host h).shape (system.agent a).shape q.beat.enables) →
      code ≡ greatest_code (take (length (filled_lanes (system.host h).shape (system.agent a).shape q.beat.enables)) (drop (reads_for system h a (take number (asked system one h (suc c)))) (answers_to h (f a))))))
      (fun_ext (λ a. same_answers a (suc c - system.stages) (omega arith))) of)

  same_responses : (h : ℕ) → HasResponses system one h end → HasResponses system two h end
  same_responses h responds =
      let side = system.host h in
      record {
        of_words = λ c low has gives.
            let counts : length (given side (one.at_host h) c) ≡ length (given side (two.at_host h) c) = ap length (words_given h c (omega arith)) in
            let turned = code_turned h c _ _ _ low (responds.of_words c low has (subst IsTrue (sym (same_gives side (one.at_host h) (two.at_host h) end (same.hosts h) c low)) gives)) in
            subst (λ n. HasCodeOf system two h c n ((two.at_host h).response c) (slice_get (asked system two h (suc c)) n)) counts
            (subst (λ l. HasCodeOf system two h c (length (given side (one.at_host h) c)) ((two.at_host h).response c) (slice_get l (length (given side (one.at_host h) c)))) (same_asks h (suc c) low)
            (subst (λ k. HasCodeOf system two h c (length (given side (one.at_host h) c)) k (slice_get (asked system one h (suc c)) (length (given side (one.at_host h) c)))) ((same.hosts h).response c low) turned));
        quiet = λ c low has silent. sym ((same.hosts h).response c low) ∙ responds.quiet c low has (subst (λ b. IsTrue (not b)) (sym (same_gives side (one.at_host h) (two.at_host h) end (same.hosts h) c low)) silent);
        absent = λ c low has. sym ((same.hosts h).response c low) ∙ responds.absent c low has;
      }

  same_responds : (rule : Responses) (h : ℕ) → RespondsBy rule system one h end → RespondsBy rule system two h end
  same_responds AreZero h responds = λ c low. sym ((same.hosts h).response c low) ∙ responds c low
  same_responds AreCodes h responds = same_responses h responds

  same_limited : (h a : ℕ) → KeepsReadOrder system one h a end → KeepsReadOrder system two h a end
  same_limited h a limited c number low few other later =
      let asks = sym (same_asks h (suc c) low) in
      subst (λ l. number < length l) (words_given h (suc c) low)
      (limited c number low (subst (λ l. number < length l) asks few) (subst (λ l. MatchOption (slice_get l number) ⊤ (λ (q : Asked). IsTrue (not (is_agent a q.place)))) asks other)
      (subst (λ l. reads_for system h a (take number l) < length (filter is_read (of_host h (taken system one a (suc c))))) asks
      (subst (λ l. reads_for system h a (take number (asked system two h (suc c))) < length (filter is_read (of_host h l))) (sym (same_taken a (suc c) low)) later)))

  same_lags : (lag h a : ℕ) → LagsWithin lag system one h a end → LagsWithin lag system two h a end
  same_lags lag h a lags c low = subst (λ n. n ≤ lag)
      (ap₂ (λ (ts : List Transfer) l. unreached (map (λ (t : Transfer). length (transfer_operations system h a t)) (for_agent system h a ts)) (length (of_host h l))) (same_transfers h c low) (same_taken a c low)) (lags c low)

  pub same_safe : (responses : Responses) → IsSafe responses system one end → IsSafe responses system two end
  same_safe responses safe = record {
    at_hosts = λ h is. same_proper_at_host (system.host h) (one.at_host h) (two.at_host h) end (same.hosts h) (safe.at_hosts h is);
    at_agents = λ a there. same_proper_at_agent (system.agent a) (one.at_agent a) (two.at_agent a) end (same.agents a) (safe.at_agents a there);
    ordered = λ a there. same_order a (safe.ordered a there);
    returned = λ h is. same_returned h (safe.returned h is);
    responds = λ h is. same_responds responses h (safe.responds h is);
    limited = λ h a is there. same_limited h a (safe.limited h a is there);
    lags = λ h a is there. same_lags (command_lag system) h a (safe.lags h a is there);
  }
