-- A read that stands at a host is accepted with its word; and at the default agent a wanted command moves on in two cycles.
use Rattle.std.proofs.Common.{◌≡◌, ℕ, zero, suc, ◌+◌, ◌<◌, ◌≤◌, Bool, true, false, not, ◌&&◌, ◌||◌, [], ◌∷◌, ◌++◌, length, arith, refl, ap, ◌∙◌, IsTrue, tests, None, append-nil, length-append}
use Rattle.std.proofs.lemmas.Bool.{and_parts, or_left, or_right}
use Rattle.histories.specs.History.{before, only_if, is_raised}
use Rattle.memory_runs.specs.Views.{System, Run}
use Rattle.memory_runs.specs.Commands.{shows, read_beats, words_before}
use Rattle.memory_runs.specs.Legal.{IsLegalHost, IsProperAtHost, host_accepts, gives_word, given}
use Rattle.memory_runs.specs.Awake.{is_oldest, is_for, shows_its_burst, is_wanted_at_default, is_given_from, is_written_to, Throughout, Sometime}
use Rattle.memory_machines.specs.Lines.{host_accepted}
use Rattle.memory_parts.specs.Steps.{given_before}
use Rattle.memory_awake.specs.Front.{IsDefaultFront, are_all_given, is_bursting}
use Rattle.memory_awake.proofs.Bits.{no_true, not_by}
use Rattle.memory_runs.specs.Awake.{lacks_beats, is_accepted_now, moves_on_at_default}
use Rattle.memory_awake.proofs.HostGrants.{no_both}
use Rattle.memory_awake.proofs.Numbers.{Outcome, Outcome.a_beat, Outcome.an_operation, Outcome.a_word, Outcome.a_given}
use Rattle.memory_awake.proofs.Beats.{both}
use Rattle.memory_awake.proofs.Final.{outcome_of, shown_burst}
use Rattle.memory_awake.proofs.Wanted.{three_of}

module _ (system : System) (run : Run) (host end : ℕ) (proper : IsProperAtHost (system.host host) (run.at_host host) end) where
  -- words of a host with readdatavalid are counted alike
  given_count : (system.host host).has_readdatavalid ≡ true → (c : ℕ) → given_before system run host c ≡ words_before (run.at_host host).readdatavalid c
  given_count has zero = refl
  given_count has (suc c) = by_valid (is_raised ((run.at_host host).readdatavalid c)) gives (given_count has c)
    where
      gives : gives_word (system.host host) (run.at_host host) c ≡ is_raised ((run.at_host host).readdatavalid c)
      gives = rw has refl

      by_valid : (v : Bool) → gives_word (system.host host) (run.at_host host) c ≡ v → given_before system run host c ≡ words_before (run.at_host host).readdatavalid c →
          given_before system run host (suc c) ≡ length (before (λ k. only_if (is_raised ((run.at_host host).readdatavalid k)) k) c ++ only_if v c)
      by_valid true e more =
          let one : given_before system run host (suc c) ≡ given_before system run host c + 1 = ap (λ b. length (given (system.host host) (run.at_host host) c ++ only_if b (record { word = (run.at_host host).readdata c; code = (run.at_host host).response c }))) e ∙ length-append (given (system.host host) (run.at_host host) c) _ in
          let two = length-append (before (λ k. only_if (is_raised ((run.at_host host).readdatavalid k)) k) c) (c ∷ []) in
          omega (arith, one, two, more)
      by_valid false e more =
          let one : given_before system run host (suc c) ≡ given_before system run host c = ap (λ b. length (given (system.host host) (run.at_host host) c ++ only_if b (record { word = (run.at_host host).readdata c; code = (run.at_host host).response c }))) e ∙ ap length (append-nil _) in
          let two = ap length (append-nil (before (λ k. only_if (is_raised ((run.at_host host).readdatavalid k)) k) c)) in
          omega (arith, one, two, more)

  -- a word that comes for a read that stands at the host is given where the read is accepted
  pub accepted_with_word : (number c : ℕ) → c < end → IsTrue (lacks_beats system run host number c) → IsTrue (are_all_given system run host c) → IsTrue (gives_word (system.host host) (run.at_host host) c) → IsTrue (is_accepted_now system run host number c)
  accepted_with_word number c fit lacks all gives = by_has (system.host host).has_readdatavalid refl
    where
      by_has : (b : Bool) → (system.host host).has_readdatavalid ≡ b → IsTrue (is_accepted_now system run host number c)
      by_has true has =
          let owed = proper.later has c fit in
          let after : given_before system run host (suc c) ≡ given_before system run host c + 1 = ap (λ b. length (given (system.host host) (run.at_host host) c ++ only_if b (record { word = (run.at_host host).readdata c; code = (run.at_host host).response c }))) gives ∙ length-append (given (system.host host) (run.at_host host) c) _ in
          let same = given_count has (suc c) in
          let most : length (read_beats (host_accepted system run host c)) ≤ given_before system run host c = grind (arith, tests, all) in
          absurd (omega (arith, owed, after, same, most))
      by_has false has =
          let is : IsTrue (is_raised ((run.at_host host).read c) && not (is_raised ((run.at_host host).waitrequest c))) = rw has at gives in
          both _ _ (by_two (is_raised ((run.at_host host).read c)) (is_raised ((run.at_host host).write c)) (is_raised ((run.at_host host).waitrequest c)) is) lacks
        where
          by_two : (r w q : Bool) → IsTrue (r && not q) → IsTrue ((r || w) && not q)
          by_two true w q h = h
          by_two false w q h = absurd (no_true h)

module _ (system : System) (run : Run) (host end : ℕ) (legal : IsLegalHost (system.host host) (run.at_host host) end) (proper : IsProperAtHost (system.host host) (run.at_host host) end) (front : IsDefaultFront system run host end) where
  outcome_at : (number c : ℕ) → c < end → IsTrue (is_wanted_at_default system run host number c) → Outcome system run host None number c
  outcome_at number c fit wanted =
      let two = and_parts (is_oldest system run host number c && is_for system run host None number (suc c)) (shows_its_burst system run None c host) wanted in
      let one = and_parts (is_oldest system run host number c) (is_for system run host None number (suc c)) two.0 in
      outcome_of system run host end legal c number None fit one.0 one.1 (λ under. shown_burst (is_bursting system run host None c) (shows (run.at_host host).signals c) two.1 under)

  moved : (number c : ℕ) → IsTrue (is_accepted_now system run host number c) → IsTrue (moves_on_at_default system run host number c)
  moved number c accepted = or_left (is_accepted_now system run host number c) _ accepted

  -- where a word is given the command moves on
  moves_with_word : (number c : ℕ) → c < end → IsTrue (is_wanted_at_default system run host number c) → IsTrue (is_given_from system run None c host) → IsTrue (moves_on_at_default system run host number c)
  moves_with_word number c fit wanted word = by_outcome (outcome_at number c fit wanted)
    where
      gives : IsTrue (gives_word (system.host host) (run.at_host host) c)
      gives = (and_parts (gives_word (system.host host) (run.at_host host) c) _ word).0

      by_outcome : Outcome system run host None number c → IsTrue (moves_on_at_default system run host number c)
      by_outcome (a_beat lacks shown all) = moved number c (accepted_with_word system run host end proper number c fit lacks all gives)
      by_outcome (an_operation whole b e less) = absurd cc
      by_outcome (a_word whole none owing) = absurd (no_both _ gives none)
      by_outcome (a_given whole given_now lacking) = or_right (is_accepted_now system run host number c) _ (both _ _ given_now (not_by _ lacking))

  pub default_moves : (size from number : ℕ) → 2 ≤ size → from + size ≤ end → Throughout from size (λ c. IsTrue (is_wanted_at_default system run host number c)) → Sometime from size (λ c. IsTrue (moves_on_at_default system run host number c))
  default_moves size from number two fits wanted = by_outcome (outcome_at number from (omega (arith, fits, two)) (wanted from (omega arith) (omega (arith, two))))
    where
      now : IsTrue (moves_on_at_default system run host number from) → Sometime from size (λ c. IsTrue (moves_on_at_default system run host number c))
      now h = (from, omega arith, omega (arith, two), h)

      later : IsTrue (is_given_from system run None (suc from) host) → Sometime from size (λ c. IsTrue (moves_on_at_default system run host number c))
      later word = (suc from, omega arith, omega (arith, two), moves_with_word number (suc from) (omega (arith, fits, two)) (wanted (suc from) (omega arith) (omega (arith, two))) word)

      by_outcome : Outcome system run host None number from → Sometime from size (λ c. IsTrue (moves_on_at_default system run host number c))
      by_outcome (a_given whole given_now lacking) = now (or_right (is_accepted_now system run host number from) _ (both _ _ given_now (not_by _ lacking)))
      by_outcome (an_operation whole b e less) = absurd cc
      by_outcome (a_word whole none owing) = later (front.gives (suc from) (omega (arith, fits, two)) (front.owed from (omega (arith, fits, two)) owing))
      by_outcome (a_beat lacks shown all) =
          three_of (is_given_from system run None from host) (is_written_to system run None from host) (front.due (suc from)) (front.beats from (omega (arith, fits, two)) shown all)
          (λ word. now (moved number from (accepted_with_word system run host end proper number from (omega (arith, fits, two)) lacks all (and_parts (gives_word (system.host host) (run.at_host host) from) _ word).0)))
          (λ written. now (moved number from (both _ _ ((and_parts (host_accepts (run.at_host host) from) _ (and_parts (host_accepts (run.at_host host) from && is_raised ((run.at_host host).write from)) _ written).0).0) lacks)))
          (λ due. later (front.gives (suc from) (omega (arith, fits, two)) due))
